-- The plain terminal of konsole is a terminal.
use Rattle.std.proofs.Common.{◌≡◌, ◌<◌, ◌==◌, ◌&&◌, ◌*◌, ℕ, true, false, length, None, replicate}
use Rattle.std.proofs.Common.{arith, eq-eqb, refl}
use Rattle.std.specs.Prelude.{nat_lt}
use Rattle.std.proofs.lemmas.Bool.Decides.{nat_tests}
use Rattle.std.proofs.lemmas.List.{length-replicate}
use Rattle.std.proofs.lemmas.List.FromFn.{length-map-range_with_len}
use Rattle.sixel_model.specs.declared.colour.Parts.{Parts}
use Rattle.sixel_terminal.specs.Limits.{is_screen_side, plain_screen, terminal_fault}
use Rattle.sixel_konsole.specs.Settings.{konsole_choices, konsole_colours, konsole_start}

konsole_count : length konsole_colours ≡ 256
unfolding konsole_colours
konsole_count = length-map-range_with_len konsole_start 0 256

pub konsole_without_fault : (background : Parts) (tall w h : ℕ) → 0 < tall
    → (is_screen_side w && is_screen_side h) ≡ true
    → terminal_fault (konsole_choices tall w h) konsole_colours (plain_screen (konsole_choices tall w h) background)
    ≡ None
konsole_without_fault background tall w h some sides =
    let count = konsole_count in
    let screen : (length (replicate (w * h) background) == w * h) ≡ true =
    eq-eqb (length (replicate (w * h) background)) (w * h) (length-replicate (w * h) background) in
    let high : (tall == 0) ≡ false = grind (arith, nat_tests) in
    let across : is_screen_side w ≡ true = grind (arith, nat_tests) in
    let down : is_screen_side h ≡ true = grind (arith, nat_tests) in
    let left : nat_lt 0 w ≡ true = grind (arith, nat_tests) in
    let top : nat_lt 0 h ≡ true = grind (arith, nat_tests) in
    rw (count, high, screen, across, down, left, top) refl
