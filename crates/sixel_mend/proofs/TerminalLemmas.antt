-- The terminal that shows a string is one.
use Rattle.std.proofs.Common.{◌≡◌, ◌==◌, ◌&&◌, ◌+◌, ◌*◌, ◌++◌, ◌∷◌, [], ℕ, true, length, map}
use Rattle.std.proofs.Common.{None, replicate, arith, eq-eqb, refl}
use Rattle.std.specs.Prelude.{nat_lt}
use Rattle.std.specs.List.{range_with_len}
use Rattle.std.proofs.lemmas.Bool.Decides.{nat_tests}
use Rattle.std.proofs.lemmas.List.{length-replicate}
use Rattle.std.proofs.lemmas.List.FromFn.{length-map-range_with_len, map-range_with_len_more}
use Rattle.sixel_model.specs.Pictures.{is_side}
use Rattle.sixel_terminal.specs.Limits.{is_screen_side, plain_screen, terminal_fault}
use Rattle.sixel_mend.specs.declared.mending.Mending.{Mending}
use Rattle.sixel_mend.specs.Screens.{mending_choices, starting_colour, starting_colours}

-- one more register
pub starting_more : (n : ℕ)
    → map starting_colour (range_with_len 0 (n + 1))
    ≡ map starting_colour (range_with_len 0 n) ++ starting_colour n ∷ []
starting_more n = map-range_with_len_more starting_colour 0 n n (omega arith)

pub count_of_colours : length starting_colours ≡ 256
unfolding starting_colours
count_of_colours = length-map-range_with_len starting_colour 0 256

-- with a screen of the sides of a picture it has no fault
pub no_fault : (m : Mending) (w h : ℕ) → (is_side w && is_side h) ≡ true
    → terminal_fault (mending_choices m w h) starting_colours (plain_screen (mending_choices m w h) m.background) ≡ None
no_fault m w h sides =
    let count = count_of_colours in
    let screen : (length (replicate (w * h) m.background) == w * h) ≡ true =
    eq-eqb (length (replicate (w * h) m.background)) (w * h) (length-replicate (w * h) m.background) in
    let across : is_screen_side w ≡ true = grind (arith, nat_tests) in
    let down : is_screen_side h ≡ true = grind (arith, nat_tests) in
    let left : nat_lt 0 w ≡ true = grind (arith, nat_tests) in
    let top : nat_lt 0 h ≡ true = grind (arith, nat_tests) in
    rw (count, screen, across, down, left, top) refl
