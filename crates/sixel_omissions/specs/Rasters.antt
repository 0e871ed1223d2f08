-- What is written of the first raster attributes of a string: a missing number and a written 0 are the same event.
use Rattle.std.specs.Prelude.{◌≡◌, ◌==◌, ◌&&◌, ◌+◌, ◌-◌, ℕ, Bool, true, false, List, [], ◌∷◌, ◌++◌, Option, Some, None}
use Rattle.std.specs.Prelude.{filter, length, take, slice_index, ◌<◌, if◌then◌else◌}
use Rattle.std.specs.List.{AllByRecursion}
use Rattle.std.specs.Option.{option_map}
use Rattle.sixel_grammar.specs.Bytes.{is_digit, raster_sign, separator}
use Rattle.sixel_omissions.specs.declared.raster.FirstRaster.{FirstRaster}
use Rattle.sixel_omissions.specs.declared.raster.Seen.{Seen}
use Rattle.sixel_omissions.specs.declared.raster.Seen.TheVariants.{Nothing, Open, Complete}
use Rattle.sixel_omissions.specs.declared.raster.WrittenRaster.{WrittenRaster}
use Rattle.sixel_omissions.specs.Omissions.{is_at, is_numeric}

-- the bytes of numbers with which these begin, once a byte behind them has come
abbrev pub numbers_before : List ℕ → Option (List ℕ)
numbers_before [] = None
numbers_before (b ∷ bs) = if is_numeric b then option_map (λ (ns : List ℕ). b ∷ ns) (numbers_before bs) else Some []

-- raster attributes at this offset, with these bytes of numbers
abbrev pub written_of : ℕ → List ℕ → WrittenRaster
written_of place numbers = record {
  place = place;
  separators = length (filter (λ b. b == separator) numbers);
  ends_with_digit = is_at is_digit numbers (length numbers - 1);
}

-- the first raster attributes of these bytes, of which the first one has the offset n, once they are complete
abbrev pub raster_from : ℕ → List ℕ → Option WrittenRaster
raster_from n [] = None
raster_from n (b ∷ bs) =
    if b == raster_sign then option_map (written_of n) (numbers_before bs) else raster_from (n + 1) bs

abbrev pub first_raster : List ℕ → Option WrittenRaster
first_raster bytes = raster_from 0 bytes

-- there are two numbers, of which the last may be missing
abbrev pub has_two : WrittenRaster → Bool
has_two w = w.separators == 1

-- there are four numbers. A separator at the end has none behind it
abbrev pub has_four : WrittenRaster → Bool
has_four w = (w.separators == 3) && w.ends_with_digit

-- ---- what is kept of the bytes read so far

-- none is a `"`
abbrev pub HasNoSign : List ℕ → Type 0
HasNoSign bytes = AllByRecursion (λ b. (b == raster_sign) ≡ false) bytes

-- each may stand in numbers
abbrev pub AreNumeric : List ℕ → Type 0
AreNumeric bytes = AllByRecursion (λ b. is_numeric b ≡ true) bytes

-- the first `"` of these bytes is at this index, or there is none
abbrev pub IsFirstSign : List ℕ → Option ℕ → Type 0
IsFirstSign bytes None = HasNoSign bytes
IsFirstSign bytes (Some at) =
    (at < length bytes) × (slice_index bytes at ≡ raster_sign) × HasNoSign (take at bytes)

-- what is seen of raster attributes at this offset and of the bytes behind their `"`
abbrev pub HasRead : ℕ → List ℕ → Seen → Type 0
HasRead place behind Nothing = ⊥
HasRead place behind (Open w) = AreNumeric behind × (w ≡ written_of place behind)
HasRead place behind (Complete w) = option_map (written_of place) (numbers_before behind) ≡ Some w

-- a `"` without one before it, and bytes of numbers behind it to the end
pub record IsOpen (w : WrittenRaster) (bytes : List ℕ) : Type 0 where
  pub before : List ℕ
  pub behind : List ℕ
  pub bytes_are : bytes ≡ before ++ raster_sign ∷ behind
  pub first : HasNoSign before
  pub numeric : AreNumeric behind
  pub written : w ≡ written_of (length before) behind

-- what is seen of these bytes
abbrev pub IsSeen : List ℕ → Seen → Type 0
IsSeen bytes Nothing = HasNoSign bytes
IsSeen bytes (Open w) = IsOpen w bytes
IsSeen bytes (Complete w) = first_raster bytes ≡ Some w

-- these bytes were read
pub record HasSeenRaster (s : FirstRaster) (bytes : List ℕ) : Type 0 where
  pub read_is : s.read ≡ length bytes
  pub seen_is : IsSeen bytes s.seen
