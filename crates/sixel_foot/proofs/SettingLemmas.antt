-- The plain terminal of foot is a terminal.
use Rattle.std.proofs.Common.{◌≡◌, ◌==◌, ◌&&◌, ◌*◌, ℕ, true, length, None, replicate}
use Rattle.std.proofs.Common.{arith, eq-eqb, refl}
use Rattle.std.specs.Prelude.{nat_lt}
use Rattle.std.proofs.lemmas.Bool.Decides.{nat_tests}
use Rattle.std.proofs.lemmas.List.{length-replicate}
use Rattle.sixel_model.specs.declared.colour.Parts.{Parts}
use Rattle.sixel_terminal.specs.Limits.{is_screen_side, plain_screen, terminal_fault}
use Rattle.sixel_foot.specs.Settings.{foot_choices, foot_colours}

pub foot_without_fault : (background : Parts) (w h : ℕ) → (is_screen_side w && is_screen_side h) ≡ true
    → terminal_fault (foot_choices w h) (foot_colours background) (plain_screen (foot_choices w h) background) ≡ None
foot_without_fault background w h sides =
    let screen : (length (replicate (w * h) background) == w * h) ≡ true =
    eq-eqb (length (replicate (w * h) background)) (w * h) (length-replicate (w * h) background) in
    let across : is_screen_side w ≡ true = grind (arith, nat_tests) in
    let down : is_screen_side h ≡ true = grind (arith, nat_tests) in
    let left : nat_lt 0 w ≡ true = grind (arith, nat_tests) in
    let top : nat_lt 0 h ≡ true = grind (arith, nat_tests) in
    rw (screen, across, down, left, top) refl
