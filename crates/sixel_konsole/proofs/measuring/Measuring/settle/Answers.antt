use Rattle.std.proofs.Common.{◌≡◌, ◌∙◌, ◌++◌, List, Option, Some, None, ap, subst, sym}
use Rattle.std.specs.Option.{option_to_list}
use Rattle.std.proofs.lemmas.List.{append-nil}
use Rattle.sixel_grammar.specs.declared.command.Event.{Event}
use Rattle.sixel_konsole.specs.KonsoleMeasured.{HasMeasured}
use Rattle.sixel_konsole.specs.Measuring.{HasTakenAll, MeasuresBefore}
use Rattle.sixel_konsole.specs.declared.measuring.Measuring.{Measuring}
use Rattle.sixel_konsole.proofs.measuring.Measuring.settle.Goals as goal

none_waits : (m : Measuring) (before : List Event) (next : Option Event) → m.pending ≡ None → HasTakenAll m before
    → HasMeasured m.measure before next
none_waits m before next is h =
    let all : h.read ≡ before =
    sym (h.are ∙ (ap (λ (o : Option Event). h.read ++ option_to_list o) is ∙ append-nil h.read)) in
    let measures : MeasuresBefore m.measure h.read None = subst (MeasuresBefore m.measure h.read) is h.measures in
    subst (λ (es : List Event). HasMeasured m.measure es next) all (measures next)

pub returns-in-None-clause-measures : goal.returns-in-None-clause-measures
returns-in-None-clause-measures c = λ before h. none_waits c.args.self.now before (Some c.args.next.now) c.in-None.is h

pub returns-in-Some-clause-measures : goal.returns-in-Some-clause-measures
returns-in-Some-clause-measures c = λ before h.
    subst (λ (es : List Event). HasMeasured c.settle_waiting.new.self.measure es (Some c.args.next.now)) (sym h.are)
    (c.settle_waiting.ensures.measures h.read (Some c.args.next.now) (sym c.moves_or_ends.ensures) h.measures)
