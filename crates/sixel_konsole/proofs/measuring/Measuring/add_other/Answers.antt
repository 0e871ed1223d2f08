use Rattle.std.proofs.Common.{◌++◌, ◌∷◌, [], ◌∙◌, Option, ap, subst, sym}
use Rattle.std.specs.Option.{option_to_list}
use Rattle.std.proofs.lemmas.List.{append-nil}
use Rattle.sixel_grammar.specs.declared.command.Event.{Event}
use Rattle.sixel_konsole.specs.Measuring.{MeasuresBefore}
use Rattle.sixel_konsole.proofs.measuring.Measuring.add_other.Goals as goal

pub returns-else-waits : goal.returns-else-waits
returns-else-waits c = λ before h. record {
  read = before ++ c.args.event ∷ [];
  are = sym (append-nil (before ++ c.args.event ∷ []))
      ∙ ap (λ (o : Option Event). (before ++ c.args.event ∷ []) ++ option_to_list o) (sym c.requires);
  measures = subst (MeasuresBefore c.take_alone.new.self (before ++ c.args.event ∷ [])) (sym c.requires)
      (λ next. c.take_alone.ensures before next h);
}
