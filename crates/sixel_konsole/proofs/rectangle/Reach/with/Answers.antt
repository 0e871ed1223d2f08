use Rattle.sixel_grammar.specs.declared.command.Event.TheVariants.{Step}
use Rattle.sixel_konsole.proofs.KonsoleMeasureLemmas.{reach_push}
use Rattle.sixel_konsole.proofs.rectangle.Reach.with.Goals as goal

pub returns : goal.returns
returns c = λ drawing s.
    reach_push _ (Step c.args.command) s (c.after-place.ensures drawing s.place_is) c.reached_columns.ensures
    c.reached_rows.ensures
