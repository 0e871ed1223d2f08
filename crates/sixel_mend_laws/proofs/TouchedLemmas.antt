-- Points that a data command touches.
use Rattle.std.proofs.Common.{◌≡◌, ◌+◌, ℕ, List, take, true, refl, arith}
use Rattle.std.specs.Prelude.{IsSome}
use Rattle.sixel_grammar.specs.declared.command.Event.{Event}
use Rattle.sixel_model.specs.declared.colour.Parts.{Parts}
use Rattle.sixel_model.specs.Positions.{last_at}
use Rattle.sixel_terminal.specs.Drawing.{IsPainted, height_of, inked_on, is_kept_on, is_seen_on, map_on, paint_at}
use Rattle.sixel_terminal.specs.Drawing.{paints_in, paints_on, selected_on, shown_on, touches_on}
use Rattle.sixel_terminal.proofs.ClipLemmas.{at_origin}
use Rattle.sixel_judge.proofs.ShownLemmas.{painted_shows}
use Rattle.sixel_mend.specs.declared.mending.Mending.{Mending}
use Rattle.sixel_mend.specs.Screens.{mending_terminal}
use Rattle.sixel_mend.specs.Sizes.{IsTouched}
use Rattle.sixel_mend_laws.specs.Laws.{with_background}

from_zero : (n : ℕ) → 0 + n ≡ n
from_zero n = omega arith

at_zero : (m : Mending) (w h : ℕ) (before : List Event) (e : Event) (x y : ℕ)
    → paints_on (mending_terminal m w h) before e x y ≡ paint_at (mending_terminal m w h) before e x y
at_zero m w h before e x y = rw (from_zero x, from_zero y) at (at_origin (mending_terminal m w h) before e x y)

-- a command paints each point that it touches
touched_paints : (m : Mending) (w h : ℕ) (events before : List Event) (e : Event) (x y : ℕ)
    → touches_on (mending_terminal m w h) before e x y ≡ true
    → IsSome (paints_in (mending_terminal m w h) events before e x y)
unfolding is_seen_on is_kept_on
touched_paints m w h events before e x y touched = rw (at_zero m w h before e x y, touched) refl

pub touched_is_painted : (m : Mending) (w h : ℕ) (events : List Event) (x y : ℕ)
    → IsTouched (mending_terminal m w h) events x y → IsPainted (mending_terminal m w h) events x y
unfolding IsPainted
touched_is_painted m w h events x y touched = (
  touched.0,
  record {
    item = (touched.1).item;
    here = (touched.1).here;
    holds = touched_paints m w h events (take touched.0 events) (touched.1).item x y (touched.1).holds;
  },
)

-- the events paint the same on each screen, whatever the background
same_ink : (m : Mending) (background : Parts) (w h v u : ℕ) (events : List Event) (x y : ℕ)
    → last_at (inked_on (mending_terminal m w h) events x y) events
    ≡ last_at (inked_on (mending_terminal (with_background background m) v u) events x y) events
unfolding paints_on is_seen_on is_kept_on touches_on height_of selected_on map_on
same_ink m background w h v u events x y = refl

-- so a touched point shows the same on each
pub touched_shows : (m : Mending) (background : Parts) (w h v u : ℕ) (events : List Event) (x y : ℕ)
    → IsTouched (mending_terminal m w h) events x y
    → shown_on (mending_terminal m w h) events x y
    ≡ shown_on (mending_terminal (with_background background m) v u) events x y
unfolding IsPainted
touched_shows m background w h v u events x y touched =
    let p = touched_is_painted m w h events x y touched in
    painted_shows _ _ events x y p.0 (same_ink m background w h v u events x y) p.1
