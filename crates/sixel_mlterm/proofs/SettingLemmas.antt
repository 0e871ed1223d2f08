-- The plain terminal of mlterm is a terminal.
use Rattle.std.proofs.Common.{◌≡◌, ◌==◌, ◌&&◌, ◌*◌, ℕ, true, length, None, replicate}
use Rattle.std.proofs.Common.{arith, eq-eqb, refl}
use Rattle.std.specs.Prelude.{nat_lt}
use Rattle.std.proofs.lemmas.Bool.Decides.{nat_tests}
use Rattle.std.proofs.lemmas.List.{length-replicate}
use Rattle.std.proofs.lemmas.List.FromFn.{length-map-range_with_len}
use Rattle.sixel_model.specs.declared.colour.Parts.{Parts}
use Rattle.sixel_terminal.specs.Limits.{is_screen_side, plain_screen, terminal_fault}
use Rattle.sixel_mlterm.specs.Settings.{mlterm_choices, mlterm_colours, mlterm_start}

mlterm_count : (background : Parts) → length (mlterm_colours background) ≡ 1024
unfolding mlterm_colours
mlterm_count background = length-map-range_with_len (mlterm_start background) 0 1024

pub mlterm_without_fault : (background : Parts) (w h : ℕ) → (is_screen_side w && is_screen_side h) ≡ true
    → terminal_fault (mlterm_choices w h) (mlterm_colours background) (plain_screen (mlterm_choices w h) background)
    ≡ None
mlterm_without_fault background w h sides =
    let count = mlterm_count background in
    let screen : (length (replicate (w * h) background) == w * h) ≡ true =
    eq-eqb (length (replicate (w * h) background)) (w * h) (length-replicate (w * h) background) in
    let across : is_screen_side w ≡ true = grind (arith, nat_tests) in
    let down : is_screen_side h ≡ true = grind (arith, nat_tests) in
    let left : nat_lt 0 w ≡ true = grind (arith, nat_tests) in
    let top : nat_lt 0 h ≡ true = grind (arith, nat_tests) in
    rw (count, screen, across, down, left, top) refl
