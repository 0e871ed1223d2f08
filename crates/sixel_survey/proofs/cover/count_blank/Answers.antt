use Rattle.std.proofs.Common.{◌∙◌, ap, not, sym}
use Rattle.sixel_survey.proofs.CoverLemmas.{no_pixel, none_blank}
use Rattle.sixel_survey.proofs.cover.count_blank.Goals as goal

pub returns-then-is_none : goal.returns-then-is_none
returns-then-is_none g c = λ long.
    let s = g.P.Cover.grid c.args.plane.now in
    sym (none_blank s long
    (sym c.first_blank.ensures ∙ no_pixel c.first_blank.result (c.is_none.ensures ∙ ap not c.if-is_none.true)))
