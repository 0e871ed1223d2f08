-- Painting many sixels at once. Public contracts cite only `sixels_of`, the events of a stretch.
use Rattle.std.specs.Prelude.{◌≡◌, ◌==◌, ◌&&◌, ◌+◌, ◌-◌, ◌/◌, ◌%◌, ◌<◌, ℕ, Bool, List, length, nat_le, nat_lt}
use Rattle.std.specs.Prelude.{slice_index, slice_index_or}
use Rattle.std.specs.Prelude.{if◌then◌else◌}
use Rattle.std.specs.Prelude.{◌||◌, [], ◌∷◌, false, map, min}
use Rattle.std.specs.List.{list_any}
use Rattle.std.specs.Int.{bit_at}
use Rattle.sixel_grammar.specs.declared.command.Command.TheVariants.{Sixel}
use Rattle.sixel_grammar.specs.declared.command.Event.{Event}
use Rattle.sixel_grammar.specs.declared.command.Event.TheVariants.{Step}
use Rattle.sixel_terminal.specs.declared.pen.Pen.{Pen}
use Rattle.sixel_terminal.specs.Displays.{Display}
use Rattle.sixel_terminal.specs.Steps.{most, pen_covers}
use Rattle.sixel_terminal.specs.declared.pixel.Ink.{Ink}
use Rattle.sixel_terminal.specs.Canvases.{black}

-- the sixel of a data byte has this bit
abbrev pub has_bit : ℕ → ℕ → Bool
has_bit byte bit = bit_at (byte - 63) bit == 1

-- the pixels of a row below the column n are painted where the bytes have the bit
pub record IsRowPainted (n bit : ℕ) (bytes : List ℕ) (ink : Ink) (old new : List Ink) : Type 0 where
  pub long : length new ≡ length old
  pub pixels : (j : ℕ) → j < length old
      → slice_index_or new j black
      ≡ (if nat_lt j n && has_bit (slice_index bytes j) bit then ink else slice_index_or old j black)

-- the pixel is in the columns of the bytes, which begin at `left`, and in the first n rows from `top` on, and the byte
-- of its column has the bit of its row
abbrev pub is_stretched : ℕ → ℕ → ℕ → List ℕ → ℕ → ℕ → Bool
is_stretched left top n bytes x y =
    (nat_le left x && nat_lt x (left + length bytes))
    && ((nat_le top y && nat_lt y (top + n)) && has_bit (slice_index bytes (x - left)) (y - top))

-- the first n rows of a stretch were painted
pub record IsStretchPainted (n w left top : ℕ) (bytes : List ℕ) (ink : Ink) (old new : List Ink) : Type 0 where
  pub long : length new ≡ length old
  pub pixels : (i : ℕ) → i < length old
      → slice_index_or new i black
      ≡ (if is_stretched left top n bytes (i % w) (i / w) then ink else slice_index_or old i black)

-- these are the bits that one or more of the sixels have
abbrev pub AreJoined : ℕ → List ℕ → Type 0
AreJoined bits bytes = (bit : ℕ) → (bit_at bits bit == 1) ≡ list_any (λ b. has_bit b bit) bytes

-- the sixels of the first four data bytes, and 0 for those that aren't there
pub record AreFirstSixels (bytes sixels : List ℕ) : Type 0 where
  pub long : length sixels ≡ 4
  pub each : (j : ℕ) → j < 4
      → slice_index sixels j ≡ (if nat_lt j (length bytes) then slice_index bytes j - 63 else 0)

-- the sixels of data bytes
abbrev pub sixels_of : List ℕ → List Event
sixels_of bytes = map (λ b. Step (Sixel (b - 63))) bytes

abbrev pub moved_on : Pen → Pen
moved_on p = record p { column = min (p.column + 1) most }

-- one of the sixels of these bytes, drawn from the pen on, paints the pixel
unfoldable pub stretch_covers : Display → Pen → List ℕ → ℕ → ℕ → Bool
stretch_covers t p [] x y = false
stretch_covers t p (b ∷ rest) x y = pen_covers t p 1 (b - 63) x y || stretch_covers t (moved_on p) rest x y

-- the pen after the sixels of these bytes
unfoldable pub pen_after : Pen → List ℕ → Pen
pen_after p [] = p
pen_after p (b ∷ rest) = pen_after (moved_on p) rest
