use Rattle.std.proofs.Common.{◌≡◌, ℕ, map, ap, ◌∙◌, arith}
use Rattle.std.specs.List.{range_with_len}
use Rattle.std.proofs.lemmas.List.FromFn.{map-range_with_len_more}
use Rattle.sixel_xterm.specs.Settings.{xterm_colours, xterm_start}
use Rattle.sixel_xterm.proofs.settings.xterm_colours.Goals as goal

pub loop-register-preserved : goal.loop-register-preserved
loop-register-preserved c =
    let n = c.loop-register.register in
    let more = map-range_with_len_more xterm_start 0 n n (omega arith) in
    let before = c.loop-register.invariant in
    let pushed = c.in_ok-push.ensures.items in
    let colour = c.vt340_colour.ensures in
    cc

pub returns : goal.returns
unfolding xterm_colours
returns c =
    let all : c.loop-register.register ≡ 1024 = omega arith in
    c.loop-register.invariant ∙ ap (λ (n : ℕ). map xterm_start (range_with_len 0 n)) all
