-- Each list has one size.
use Rattle.std.proofs.Common.{◌≡◌, ℕ, List, [], ◌∷◌, ◌++◌, append_assoc, append-nil, arith, refl, subst, sym, ap, ◌∙◌}
use Rattle.sixel_grammar.specs.declared.command.Event.{Event}
use Rattle.sixel_terminal.specs.Displays.{Display}
use Rattle.sixel_terminal.specs.Drawing.{height_of, touches_on}
use Rattle.sixel_mend.specs.declared.mending.Mending.{Mending}
use Rattle.sixel_mend.specs.Extents.{next_height, next_width}
use Rattle.sixel_mend.specs.Screens.{mending_terminal}
use Rattle.sixel_mend.specs.Sizes.{Bounds, IsExtent, IsSize, IsTouched, side_over}
use Rattle.sixel_mend.proofs.ExtentLemmas.{extent_none, extent_push}

-- some extent of a list
pub record HasExtent (t : Display) (events : List Event) : Type 0 where
  pub width : ℕ
  pub height : ℕ
  pub is : IsExtent t events width height

extent_after : (m : Mending) (w h : ℕ) (before rest : List Event) (width height : ℕ)
    → IsExtent (mending_terminal m w h) before width height → HasExtent (mending_terminal m w h) (before ++ rest)
extent_after m w h before [] width height is =
    subst (HasExtent (mending_terminal m w h)) (sym (append-nil before))
    (record { width = width; height = height; is = is })
extent_after m w h before (e ∷ rest) width height is =
    subst (HasExtent (mending_terminal m w h)) (append_assoc before (e ∷ []) rest)
    (extent_after m w h (before ++ e ∷ []) rest (next_width width before e) (next_height height before e)
    (extent_push m w h e is))

pub has_extent : (m : Mending) (w h : ℕ) (events : List Event) → HasExtent (mending_terminal m w h) events
has_extent m w h events = extent_after m w h [] events 0 0 (extent_none (mending_terminal m w h))

-- a list has one extent
pub extent_once : {t : Display} {events : List Event} {a b c d : ℕ} → IsExtent t events a b → IsExtent t events c d
    → (a ≡ c) × (b ≡ d)
extent_once {a} {b} {c} {d} p q =
    let one = p.least c d q.bounds in
    let other = q.least a b p.bounds in
    (omega (arith, one.0, other.0), omega (arith, one.1, other.1))

-- the touched points are the same on each screen, whatever the background
pub touched_anywhere : (m : Mending) (w h v u : ℕ) (events : List Event) (x y : ℕ)
    → IsTouched (mending_terminal m w h) events x y → IsTouched (mending_terminal m v u) events x y
unfolding touches_on height_of
touched_anywhere m w h v u events x y touched = touched

bounds_anywhere : (m : Mending) (w h v u : ℕ) (events : List Event) (a b : ℕ)
    → Bounds (mending_terminal m w h) events a b → Bounds (mending_terminal m v u) events a b
bounds_anywhere m w h v u events a b bounds = λ x y touched. bounds x y (touched_anywhere m v u w h events x y touched)

pub extent_anywhere : (m : Mending) (w h v u : ℕ) {events : List Event} {a b : ℕ}
    → IsExtent (mending_terminal m w h) events a b → IsExtent (mending_terminal m v u) events a b
extent_anywhere m w h v u {events} {a} {b} is = record {
  bounds = bounds_anywhere m w h v u events a b is.bounds;
  least = λ c d bounds. is.least c d (bounds_anywhere m v u w h events c d bounds);
}

-- a size by its extent, on any screen
pub size_by : (m : Mending) (w h : ℕ) {events : List Event} {a b : ℕ} → IsExtent (mending_terminal m w h) events a b
    → IsSize m events (side_over events (λ s. s.width) a) (side_over events (λ s. s.height) b)
size_by m w h {a} {b} is = record {
  extent_width = a;
  extent_height = b;
  extent = extent_anywhere m w h _ _ is;
  width_is = refl;
  height_is = refl;
}

pub some_size : (m : Mending) (events : List Event) → (width : ℕ) × (height : ℕ) × IsSize m events width height
some_size m events =
    let e = has_extent m 0 0 events in (
      side_over events (λ s. s.width) e.width,
      side_over events (λ s. s.height) e.height,
      size_by m 0 0 e.is,
    )

pub one_size : (m : Mending) (events : List Event) (a b c d : ℕ) → IsSize m events a b → IsSize m events c d
    → (a ≡ c) × (b ≡ d)
one_size m events a b c d p q =
    let same = extent_once p.extent (extent_anywhere m c d a b q.extent) in (
      p.width_is ∙ ap (side_over events (λ s. s.width)) same.0 ∙ sym q.width_is,
      p.height_is ∙ ap (side_over events (λ s. s.height)) same.1 ∙ sym q.height_is,
    )
