use Rattle.std.proofs.Common.{◌≡◌, ◌≤◌, ◌<◌, ◌+◌, ◌-◌, ◌*◌, ◌/◌, ◌%◌, ◌∙◌, Bool, false, cond, get_or, length, min, ap}
use Rattle.std.proofs.Common.{sym, arith}
use Rattle.sixel_terminal.specs.Canvases.{black}
use Rattle.sixel_terminal.specs.Displays.{Display}
use Rattle.sixel_terminal.specs.Steps.{bottom_edge, most, right_edge}
use Rattle.sixel_terminal.specs.Stretches.{stretch_covers}
use Rattle.sixel_terminal.proofs.RunLemmas.{Runs, runs_seen}
use Rattle.sixel_terminal.proofs.StretchLemmas.{before_edges, past_bottom, past_right, stretch_rect}
use Rattle.sixel_terminal.proofs.terminal.Terminal.paint_stretch.Goals as goal
use Rattle.sixel_terminal.proofs.terminal.Terminal.paint_stretch.Goals.{then-left-right-via-then-left-right}
use Rattle.sixel_terminal.proofs.terminal.Terminal.paint_stretch.Goals.{
  then-left-right-via-else-left-right+then-top-bottom,
}

pub returns-then-left-right : goal.returns-then-left-right
returns-then-left-right c = λ i lt.
    let t = c.args.self.now in
    let pen = c.args.pen in
    let bytes = c.args.bytes.now in
    let known : Runs t = runs_seen _ _ _ _ c.self.view_is c.self.invariant in
    let same : c.self.inside.choices ≡ t.choices = ap (λ (d : Display). d.choices) c.self.view_is in
    let left = t.choices.origin_x + pen.column in
    let top = t.choices.origin_y + 6 * pen.band in
    let right = right_edge t pen.declared in
    let bottom = bottom_edge t pen.declared in
    let right_is : c.right_edge-right.result ≡ right = c.right_edge-right.ensures.value in
    let bottom_is : c.bottom_edge-bottom.result ≡ bottom = c.bottom_edge-bottom.ensures.value in
    let small : right ≤ most = omega (arith, right_is, c.right_edge-right.ensures.most, known.width) in
    let x = i % t.choices.screen_width in
    let y = i / t.choices.screen_width in
    let none : stretch_covers t pen bytes x y ≡ false = stretch_rect t bytes pen x y c.requires.height small
    ∙ elim c.then-left-right.branch [
      | then-left-right-via-then-left-right w ↦
          let past : right ≤ left = omega (arith, rw same at w.if-left-right.true, right_is) in
          past_right left top 6 right bottom bytes x y past
      | then-left-right-via-else-left-right+then-top-bottom w ↦
          let past : bottom ≤ top = omega (arith, rw same at w.if-top-bottom.true, bottom_is) in
          past_bottom left top 6 right bottom bytes x y past
    ] in
    ap (λ (v : Bool). cond v c.args.ink.now (get_or c.args.inks.now i black)) (sym none)

pub returns : goal.returns
returns c = λ i lt.
    let t = c.args.self.now in
    let pen = c.args.pen in
    let bytes = c.args.bytes.now in
    let known : Runs t = runs_seen _ _ _ _ c.self.view_is c.self.invariant in
    let same : c.self.inside.choices ≡ t.choices = ap (λ (d : Display). d.choices) c.self.view_is in
    let left = t.choices.origin_x + pen.column in
    let top = t.choices.origin_y + 6 * pen.band in
    let right = right_edge t pen.declared in
    let bottom = bottom_edge t pen.declared in
    let right_is : c.right_edge-right.result ≡ right = c.right_edge-right.ensures.value in
    let bottom_is : c.bottom_edge-bottom.result ≡ bottom = c.bottom_edge-bottom.ensures.value in
    let small : right ≤ most = omega (arith, right_is, c.right_edge-right.ensures.most, known.width) in
    let across : left < right = omega (arith, rw same at c.if-left-right.false, right_is) in
    let down : top < bottom = omega (arith, rw same at c.if-top-bottom.false, bottom_is) in
    let count : c.min-count.result ≡ min (length bytes) (right - left) =
    omega (arith, rw same at c.min-count.ensures, right_is, across) in
    let rows : c.min-rows.result ≡ min 6 (bottom - top) =
    omega (arith, rw same at c.min-rows.ensures, bottom_is, down) in
    let painted = rw same at c.paint_sixels.ensures in
    let cut = rw (count, rows) at painted in
    let x = i % t.choices.screen_width in
    let y = i / t.choices.screen_width in
    cut i lt
    ∙ ap (λ (v : Bool). cond v c.args.ink.now (get_or c.args.inks.now i black))
    (before_edges left top right bottom bytes x y across down
    ∙ sym (stretch_rect t bytes pen x y c.requires.height small))
