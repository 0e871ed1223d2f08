use Rattle.sixel_differ.proofs.showing.views_on.Goals as goal

pub views_of-requires-clause-drawn : goal.views_of-requires-clause-drawn
views_of-requires-clause-drawn c =
    let d = c.in_ok-drawn.ensures.drawn in
    (d.0, d.1, d.2 c.args.background (c.args.width, c.args.height) c.in_ok-begun.ensures)
