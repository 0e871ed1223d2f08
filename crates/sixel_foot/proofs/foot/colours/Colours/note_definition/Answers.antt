use Rattle.std.proofs.Common.{sym, ◌∙◌}
use Rattle.sixel_foot.proofs.FootColourLemmas.{colours_same, colours_with, gives_none}
use Rattle.sixel_foot.proofs.foot.colours.Colours.note_definition.Goals as goal

pub returns-in-Some : goal.returns-in-Some
returns-in-Some c = λ before s.
    colours_with c.define.new.self c.args.number c.args.system c.args.x c.args.y c.args.z c.in-Some.colour s
    (sym c.nearest.ensures ∙ c.in-Some.is)
    c.define.ensures

pub returns-in-None : goal.returns-in-None
returns-in-None c = λ before s.
    colours_same _ s (λ register. gives_none c.args.number c.args.system c.args.x c.args.y c.args.z register
    (sym c.nearest.ensures ∙ c.in-None.is))
