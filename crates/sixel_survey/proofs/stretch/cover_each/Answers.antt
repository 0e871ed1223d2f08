use Rattle.std.proofs.Common.{◌∙◌, arith}
use Rattle.sixel_grammar.specs.Document.{events_of}
use Rattle.sixel_judge.specs.Covering.{IsCoverOf}
use Rattle.sixel_survey.proofs.StretchLemmas.{cover_more, over_all}
use Rattle.sixel_survey.proofs.stretch.cover_each.Goals as goal

pub loop-index-preserved : goal.loop-index-preserved
loop-index-preserved g c = λ seen place h cover. cover_more (g.P.Cover.grid c.cover.new.plane) seen place
    c.args.stretch.now c.loop-index.index (omega (arith, c.loop-index-test.true)) h
    (c.loop-index.invariant seen place h cover)
    (λ left line column_is band_is. c.cover.ensures left line (c.saturating_add-column.ensures ∙ column_is) band_is)

pub returns : goal.returns
returns g c = λ seen place h cover.
    over_all (λ l. IsCoverOf (g.P.Cover.grid c.loop-index.plane) (events_of l)) seen place c.args.stretch.now
    c.loop-index.index (omega arith) (c.loop-index.invariant seen place h cover)
