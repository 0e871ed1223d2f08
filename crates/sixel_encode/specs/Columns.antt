-- The sixels of a register in the columns of a band, as data bytes.
use Rattle.std.specs.Prelude.{◌≡◌, ◌≢◌, ◌==◌, ◌&&◌, ◌⊎◌, ◌/◌, ◌*◌, ◌^◌, ◌%◌, ℕ, ◌+◌, ◌-◌, ◌<◌, ◌≤◌, Bool, true, false}
use Rattle.std.specs.Prelude.{List, ◌++◌, Option, drop, flat_map, get_or, length, map, nat_le, replicate, slice_index}
use Rattle.std.specs.Prelude.{sum_by, take, if◌then◌else◌}
use Rattle.std.specs.Int.{bit_at}
use Rattle.std.specs.Option.{MatchOption}
use Rattle.sixel_grammar.specs.declared.command.Command.{Command}
use Rattle.sixel_model.specs.Geometry.{band_rows}
use Rattle.sixel_model.specs.Pictures.{PictureValue, register_of}
use Rattle.sixel_encode.specs.Canon.{below, has_pixel, run_commands, runs, without_blanks}

-- the data bytes of columns with these bits
abbrev pub sixels_of : List ℕ → List ℕ
sixels_of columns = map (λ bits. 63 + bits) columns

-- the bits of data bytes
abbrev pub bits_of_sixels : List ℕ → List ℕ
bits_of_sixels sixels = map (λ sixel. sixel - 63) sixels

-- the data commands for columns given as data bytes, up to the last column with a set bit
abbrev pub sixel_commands : List ℕ → List Command
sixel_commands sixels = flat_map run_commands (runs (without_blanks (bits_of_sixels sixels)))

-- all bytes are data bytes
abbrev pub AreSixels : List ℕ → Type 0
AreSixels sixels =
    (x : ℕ) → x < length sixels → (63 ≤ slice_index sixels x) × (slice_index sixels x ≤ 126)

-- ---- the rows of a band, one after another

-- the list has the rows of the band that are in the picture
pub record AreRowsOf (p : PictureValue) (band : ℕ) (rows : List ℕ) (width : ℕ) : Type 0 where
  pub wide : width ≡ p.width
  pub here : (k : ℕ) → k < band_rows → band_rows * band + k < p.height → k * width + width ≤ length rows
  pub past : (k : ℕ) → k < band_rows → p.height ≤ band_rows * band + k → length rows < k * width + width
  pub same : (x k : ℕ) → x < p.width → k < band_rows → band_rows * band + k < p.height
      → slice_index rows (k * width + x) ≡ register_of p x (band_rows * band + k)

-- row k is there, and its pixel in column x has the register
abbrev pub is_in_row : List ℕ → ℕ → ℕ → ℕ → ℕ → Bool
is_in_row rows width register x k =
    nat_le (k * width + width) (length rows) && (slice_index rows (k * width + x) == register)

-- a number whose bit k is set if k passes the test, for each k below `row`
abbrev pub bits_to : (ℕ → Bool) → ℕ → ℕ
bits_to has row = sum_by (λ k. if has k then 2 ^ k else 0) (below row)

-- the bits of a register in column x
abbrev pub row_bits : List ℕ → ℕ → ℕ → ℕ → ℕ
row_bits rows width register x = bits_to (is_in_row rows width register x) band_rows

-- the columns from `from` up to `to` have the bits of the register; all others are as before
pub record AreFilled (from to : ℕ) (rows : List ℕ) (width register : ℕ) (old new : List ℕ) : Type 0 where
  pub long : length new ≡ length old
  pub inside : (x : ℕ) → from ≤ x → x < to → slice_index new x ≡ 63 + row_bits rows width register x
  pub before : (x : ℕ) → x < from → slice_index new x ≡ slice_index old x
  pub after : (x : ℕ) → to ≤ x → x < length old → slice_index new x ≡ slice_index old x

-- before column `to`, the columns whose group is in the mask have the bits of the register; all others are blank
pub record AreFound (to : ℕ) (rows : List ℕ) (width register groups : ℕ) (sixels : List ℕ) : Type 0 where
  pub inked : (x : ℕ) → x < to → x < width → bit_at groups (x / 32) ≡ 1
      → slice_index sixels x ≡ 63 + row_bits rows width register x
  pub blank : (x : ℕ) → x < length sixels → bit_at groups (x / 32) ≡ 0 → slice_index sixels x ≡ 63
  pub behind : (x : ℕ) → x < length sixels → width ≤ x → slice_index sixels x ≡ 63
  pub ahead : (x : ℕ) → x < length sixels → to ≤ x → slice_index sixels x ≡ 63

-- the columns of a register, with blank ones behind them up to this length
abbrev pub padded : ℕ → List ℕ → List ℕ
padded long columns = columns ++ replicate (long - length columns) 0

-- ---- groups of 32 columns

-- the mask has the bit of each group of columns in which the band has a pixel of the register
abbrev pub HasBandGroups : PictureValue → ℕ → ℕ → ℕ → Type 0
HasBandGroups p band register groups = (x row : ℕ) → x < p.width → row < band_rows
    → has_pixel p band register x row ≡ true → bit_at groups (x / 32) ≡ 1

-- columns whose group isn't in the mask are blank
abbrev pub IsInkIn : ℕ → List ℕ → Type 0
IsInkIn groups sixels = (x : ℕ) → x < length sixels → bit_at groups (x / 32) ≡ 0 → slice_index sixels x ≡ 63

-- columns of a register as data bytes: whole groups, no more than there is room for. Those whose group isn't in the
-- mask are blank
pub record AreColumns (groups : ℕ) (columns : List ℕ) : Type 0 where
  pub sixels : AreSixels columns
  pub few : length columns ≤ 2112
  pub whole : length columns % 32 ≡ 0
  pub ink : IsInkIn groups columns

-- the registers of the pixels from `from` up to `to` were marked, each with the bit of its group, and no others
pub record AreGroupsMarked (from to : ℕ) (pixels old new : List ℕ) : Type 0 where
  pub long : length new ≡ length old
  pub kept : (register group : ℕ) → bit_at (get_or old register 0) group ≡ 1
      → bit_at (get_or new register 0) group ≡ 1
  pub marked : (x : ℕ) → from ≤ x → x < to → bit_at (get_or new (slice_index pixels x) 0) (x / 32) ≡ 1
  pub only : (register : ℕ) → get_or new register 0 ≢ 0 → (get_or old register 0 ≢ 0)
      ⊎ ((x : ℕ) × (from ≤ x) × (x < to) × (slice_index pixels x ≡ register))

-- ---- repeats

-- bit j is set if bytes at + j and at + j + 1 are equal, for the 32 bytes at `at`
abbrev pub ArePairs : ℕ → List ℕ → ℕ → Type 0
ArePairs at bytes pairs = (j : ℕ) → j < 32
    → bit_at pairs j ≡ (if slice_index bytes (at + j) == slice_index bytes (at + j + 1) then 1 else 0)

-- four equal bytes begin at index k
abbrev pub are_four : List ℕ → ℕ → Bool
are_four bytes k = (slice_index bytes k == slice_index bytes (k + 1))
    && ((slice_index bytes k == slice_index bytes (k + 2)) && (slice_index bytes k == slice_index bytes (k + 3)))

-- at no index from `from` up to `to` do four equal bytes begin
abbrev pub NoFour : ℕ → ℕ → List ℕ → Type 0
NoFour from to bytes = (k : ℕ) → from ≤ k → k < to → k + 3 < length bytes → are_four bytes k ≡ false

-- the first index from `from` on at which four equal bytes begin
pub record IsRepeatAt (from : ℕ) (bytes : List ℕ) (start : ℕ) : Type 0 where
  pub after : from ≤ start
  pub within : start + 3 < length bytes
  pub four : are_four bytes start ≡ true
  pub before : NoFour from start bytes

-- the same, if there is one; otherwise there is none before `to`
abbrev pub IsRepeat : ℕ → ℕ → List ℕ → Option ℕ → Type 0
IsRepeat from to bytes found = MatchOption found (NoFour from to bytes) (IsRepeatAt from bytes)

-- the bytes from `start` up to `end` are equal, and the next one, if there is one, is different
pub record IsRun (start end : ℕ) (bytes : List ℕ) : Type 0 where
  pub some : start < end
  pub within : end ≤ length bytes
  pub equal : (k : ℕ) → start ≤ k → k < end → slice_index bytes k ≡ slice_index bytes start
  pub ends : end < length bytes → slice_index bytes end ≢ slice_index bytes start

-- the bytes from `end` on are blank, and the one before `end` isn't, unless `end` is `from`
pub record IsInkEnd (from end : ℕ) (bytes : List ℕ) : Type 0 where
  pub after : from ≤ end
  pub within : end ≤ length bytes
  pub blank : (k : ℕ) → end ≤ k → k < length bytes → slice_index bytes k ≡ 63
  pub ink : from < end → slice_index bytes (end - 1) ≢ 63

-- the bytes from `from` up to `to`
abbrev pub part : ℕ → ℕ → List ℕ → List ℕ
part from to bytes = take (to - from) (drop from bytes)
