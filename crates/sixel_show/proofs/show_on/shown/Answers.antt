use Rattle.std.proofs.Common.{◌∙◌, sym}
use Rattle.sixel_grammar.specs.Document.{events_of}
use Rattle.sixel_report.specs.declared.task.Area.TheVariants as area
use Rattle.sixel_show.proofs.ShowOnLemmas.{boxless_in, shown_in}
use Rattle.sixel_show.proofs.show_on.shown.Goals as goal

pub returns-in_ok-show_on-in-Some : goal.returns-in_ok-show_on-in-Some
returns-in_ok-show_on-in-Some c =
    let m = c.requires in
    shown_in c.args.named c.args.background area.Box c.args.bytes.now m.0 (c.in-Some.width, c.in-Some.height) _ _ m.1
    (c.opening_of-opening.ensures m.0 m.1)
    (sym (c.sides_of.ensures.value (events_of m.0) m.2) ∙ c.in-Some.is) c.in_ok-show_on-in-Some.ensures

pub returns-in_ok-show_on-in-None : goal.returns-in_ok-show_on-in-None
returns-in_ok-show_on-in-None c =
    let m = c.requires in
    boxless_in c.args.named c.args.background area.Box c.args.bytes.now m.0 (1, 1) _ _ m.1
    (c.opening_of-opening.ensures m.0 m.1)
    (sym (c.sides_of.ensures.value (events_of m.0) m.2) ∙ c.in-None.is) c.in_ok-show_on-in-None.ensures
