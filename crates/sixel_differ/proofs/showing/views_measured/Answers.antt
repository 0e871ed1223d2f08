use Rattle.std.proofs.lemmas.Result.{err_from_is_err_and}
use Rattle.sixel_differ.proofs.ShowingLemmas.{given_fault, given_sides, given_views}
use Rattle.sixel_differ.proofs.showing.views_measured.Goals as goal

pub returns-clause-views : goal.returns-clause-views
returns-clause-views c =
    let d = c.in_ok-width.ensures.sized c.args.bytes.now c.requires in
    given_views c.args.background c.args.bytes.now c.in_ok-width.width c.in_ok-width.height c.in_bands.result
    c.views_on.result d.0 d.1 d.2 c.in_ok-width.ensures.sides c.in_bands.ensures.bands c.views_on.ensures.width
    c.views_on.ensures.height c.views_on.ensures.views

pub returns-clause-sides : goal.returns-clause-sides
returns-clause-sides c =
    let d = c.in_ok-width.ensures.sized c.args.bytes.now c.requires in
    given_sides c.args.background c.args.bytes.now c.views_on.result
    (given_views c.args.background c.args.bytes.now c.in_ok-width.width c.in_ok-width.height c.in_bands.result
    c.views_on.result d.0 d.1 d.2 c.in_ok-width.ensures.sides c.in_bands.ensures.bands c.views_on.ensures.width
    c.views_on.ensures.height c.views_on.ensures.views)

pub returns-clause-refused : goal.returns-clause-refused
returns-clause-refused c =
    let d = c.in_ok-width.ensures.sized c.args.bytes.now c.requires in
    given_fault c.args.bytes.now c.in_ok-width.width c.in_ok-width.height c.views_on.result d.0 d.1 d.2
    c.in_ok-width.ensures.sides c.views_on.ensures.refused

pub returns-in_err-width-clause-refused : goal.returns-in_err-width-clause-refused
returns-in_err-width-clause-refused c =
    let failed = err_from_is_err_and c.from_residual.result c.from_residual.ensures.1 in
    rw (failed.1, failed.2) (c.in_err-width.ensures.refused c.args.bytes.now c.requires)
