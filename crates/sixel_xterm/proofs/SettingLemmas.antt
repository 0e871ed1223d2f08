-- The plain terminal of xterm is a terminal.
use Rattle.std.proofs.Common.{◌≡◌, ◌==◌, ◌&&◌, ◌*◌, ℕ, true, length, None, replicate}
use Rattle.std.proofs.Common.{arith, eq-eqb, refl}
use Rattle.std.specs.Prelude.{nat_lt}
use Rattle.std.proofs.lemmas.Bool.Decides.{nat_tests}
use Rattle.std.proofs.lemmas.List.{length-replicate}
use Rattle.std.proofs.lemmas.List.FromFn.{length-map-range_with_len}
use Rattle.sixel_model.specs.declared.colour.Parts.{Parts}
use Rattle.sixel_terminal.specs.Limits.{is_screen_side, plain_screen, terminal_fault}
use Rattle.sixel_xterm.specs.Settings.{xterm_choices, xterm_colours}
use Rattle.sixel_xterm.specs.Settings.{xterm_start}

xterm_count : length xterm_colours ≡ 1024
unfolding xterm_colours
xterm_count = length-map-range_with_len xterm_start 0 1024

pub xterm_without_fault : (background : Parts) (w h : ℕ) → (is_screen_side w && is_screen_side h) ≡ true
    → terminal_fault (xterm_choices w h) xterm_colours (plain_screen (xterm_choices w h) background) ≡ None
xterm_without_fault background w h sides =
    let count = xterm_count in
    let screen : (length (replicate (w * h) background) == w * h) ≡ true =
    eq-eqb (length (replicate (w * h) background)) (w * h) (length-replicate (w * h) background) in
    let across : is_screen_side w ≡ true = grind (arith, nat_tests) in
    let down : is_screen_side h ≡ true = grind (arith, nat_tests) in
    let left : nat_lt 0 w ≡ true = grind (arith, nat_tests) in
    let top : nat_lt 0 h ≡ true = grind (arith, nat_tests) in
    rw (count, screen, across, down, left, top) refl
