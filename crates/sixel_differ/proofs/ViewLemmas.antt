-- The sides of screens.
use Rattle.std.proofs.Common.{◌≡◌, ◌*◌, ℕ, length, sym, ap, ◌∙◌}
use Rattle.sixel_terminal.specs.Screens.{Shown}
use Rattle.sixel_differ.specs.Views.{HasSides}

pub one_width : {a b : Shown} {w h : ℕ} → HasSides a w h → HasSides b w h → a.width ≡ b.width
one_width p q = p.width_is ∙ sym q.width_is

pub one_height : {a b : Shown} {w h : ℕ} → HasSides a w h → HasSides b w h → a.height ≡ b.height
one_height p q = p.height_is ∙ sym q.height_is

pub whole : {a : Shown} {w h : ℕ} → HasSides a w h → length a.colours ≡ a.width * a.height
whole {a} {w} p =
    p.whole ∙ ap (λ (n : ℕ). w * n) (sym p.height_is) ∙ ap (λ (n : ℕ). n * a.height) (sym p.width_is)
