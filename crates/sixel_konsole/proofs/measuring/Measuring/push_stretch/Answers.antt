use Rattle.std.proofs.Common.{◌++◌, ◌∙◌, Option, Some, ap, subst, sym}
use Rattle.std.specs.Option.{option_to_list}
use Rattle.std.proofs.lemmas.List.{append-nil}
use Rattle.sixel_grammar.specs.declared.command.Event.{Event}
use Rattle.sixel_terminal.specs.Stretches.{sixels_of}
use Rattle.sixel_konsole.specs.KonsoleMeasured.{HasMeasured}
use Rattle.sixel_konsole.specs.Measuring.{MeasuresBefore}
use Rattle.sixel_konsole.proofs.measuring.Measuring.push_stretch.Goals as goal

pub returns-then-not-is_empty : goal.returns-then-not-is_empty
returns-then-not-is_empty c = λ before h. record {
  read = before ++ sixels_of c.args.bytes.now;
  are = sym (append-nil (before ++ sixels_of c.args.bytes.now))
      ∙ ap (λ (o : Option Event). (before ++ sixels_of c.args.bytes.now) ++ option_to_list o)
      (sym c.settle.ensures.pending);
  measures = subst (MeasuresBefore c.take_sixels.new.self (before ++ sixels_of c.args.bytes.now))
      (sym c.settle.ensures.pending)
      (λ next. c.take_sixels.ensures before next
      (subst (λ (e : Event). HasMeasured c.settle.new.self.measure before (Some e)) c.sixel.ensures
      (c.settle.ensures.measures before h)));
}
