use Rattle.std.proofs.Common.{◌++◌, ◌∷◌, [], ◌∙◌, List, Option, ap, subst, sym}
use Rattle.std.specs.Option.{option_to_list}
use Rattle.std.proofs.lemmas.List.{append-nil}
use Rattle.sixel_grammar.specs.declared.command.Command.TheVariants.{Repeat}
use Rattle.sixel_grammar.specs.declared.command.Event.{Event}
use Rattle.sixel_grammar.specs.declared.command.Event.TheVariants.{Step}
use Rattle.sixel_konsole.specs.Measuring.{MeasuresBefore}
use Rattle.sixel_konsole.proofs.measuring.Measuring.add_repeat.Goals as goal

pub returns : goal.returns
returns c = λ before h.
    let all : List Event = before ++ Step (Repeat c.args.count c.args.bits) ∷ [] in
    record {
      read = all;
      are = sym (append-nil all) ∙ ap (λ (o : Option Event). all ++ option_to_list o) (sym c.requires);
      measures = subst (MeasuresBefore c.take_repeat.new.self all) (sym c.requires)
          (λ next. c.take_repeat.ensures before next h);
    }
