use Rattle.std.proofs.Common.{◌≡◌, ◌++◌, List, Option, Some, None, subst, sym}
use Rattle.std.specs.Option.{option_to_list}
use Rattle.std.proofs.lemmas.List.{append-nil}
use Rattle.sixel_grammar.specs.declared.command.Event.{Event}
use Rattle.sixel_konsole.specs.declared.rectangle.KonsoleMeasure.{KonsoleMeasure}
use Rattle.sixel_konsole.specs.KonsoleMeasured.{HasMeasured}
use Rattle.sixel_konsole.specs.Measuring.{MeasuresBefore}
use Rattle.sixel_konsole.proofs.measuring.Measuring.read_last.Goals as goal

none_waits : (m : KonsoleMeasure) (read : List Event) (o next : Option Event) → o ≡ None → MeasuresBefore m read o
    → HasMeasured m (read ++ option_to_list o) next
none_waits m read None next is h = subst (λ (es : List Event). HasMeasured m es next) (sym (append-nil read)) (h next)
none_waits m read (Some e) next is h = absurd cc

pub returns-in-None-clause-measures : goal.returns-in-None-clause-measures
returns-in-None-clause-measures c = λ read next is h.
    none_waits c.args.self.now.measure read c.args.self.now.pending next c.in-None.is h

pub returns-in-Some-clause-measures : goal.returns-in-Some-clause-measures
returns-in-Some-clause-measures c = λ read next is h.
    subst (λ (o : Option Event). HasMeasured c.take_before.new.self (read ++ option_to_list o) next) (sym c.in-Some.is)
    (c.take_before.ensures read next is (subst (MeasuresBefore c.args.self.now.measure read) c.in-Some.is h))
