-- Reading a picture file, as a function of its bytes: the result is a picture or a fault.
--
-- Each part takes `at`, the offset of the next byte, and `rest`, the bytes from there on. It returns where the next
-- part begins, or a fault. The first fault is the result, so the bytes are judged in order.
use Rattle.std.specs.Prelude.{◌≡◌, ℕ, zero, suc, ◌+◌, ◌-◌, ◌*◌, ◌/◌, ◌==◌, Bool, true, false, ◌&&◌, ◌||◌, not, nat_le}
use Rattle.std.specs.Prelude.{nat_lt, if◌then◌else◌, List, [], ◌∷◌, ◌++◌, length, map, fold, Option, Some, None}
use Rattle.std.specs.Prelude.{unwrap_or, Result, Ok, Err, IsOk}
use Rattle.std.specs.Io.KnownBytes.{Consumes}
use Rattle.std.specs.List.{list_any, position_from}
use Rattle.sixel_grammar.specs.Bytes.{is_digit}
use Rattle.sixel_io.specs.Devices.{one_more}
use Rattle.sixel_model.specs.Colours.{is_same}
use Rattle.sixel_model.specs.Pictures.{PictureValue, picture_of_parts, most_side}
use Rattle.sixel_model.specs.declared.colour.Parts.{Parts}
use Rattle.sixel_model.specs.declared.colour.Parts.TheVariants.{Rgb}
use Rattle.sixel_ppm.specs.declared.ppm.PpmFault.{PpmFault}
use Rattle.sixel_ppm.specs.declared.ppm.PpmFault.TheVariants.{Format, NotRgb, OutOfMemory, Read, Write}
use Rattle.sixel_ppm.specs.declared.ppm.PpmReason.{PpmReason}
use Rattle.sixel_ppm.specs.declared.ppm.PpmReason.TheVariants.{Header, Size, Maxval, Sample, Short, Trailing}
use Rattle.sixel_ppm.specs.declared.ppm.PpmReason.TheVariants.{TooManyColours}

abbrev pub at_fault : {A : Type 0} → PpmReason → ℕ → Result A PpmFault
at_fault reason place = Err (Format reason place)

-- one part after another, up to the first fault
infixl 10 ◌>>=◌
abbrev pub ◌>>=◌ : {A B : Type 0} → Result A PpmFault → (A → Result B PpmFault) → Result B PpmFault
(Ok x) >>= f = f x
(Err fault) >>= f = Err fault

-- ---- the header

-- the greatest length of a header, in bytes
abbrev pub most_header : ℕ
most_header = 65536

-- SP, TAB, CR, LF
abbrev pub is_space : ℕ → Bool
is_space b = (b == 32) || (b == 9) || (b == 13) || (b == 10)

-- whitespace, or the `#` of a comment
abbrev pub begins_filler : ℕ → Bool
begins_filler b = is_space b || (b == 35)

-- reads a byte of the header that must pass the test, and returns where the next part begins
abbrev pub wanted : (ℕ → Bool) → ℕ → List ℕ → Result (ℕ × List ℕ) PpmFault
wanted passes at [] = at_fault Short at
wanted passes at (b ∷ rest) = if nat_lt at most_header && passes b then Ok (at + 1, rest) else at_fault Header at

-- skips whitespace and comments, from inside a comment or not; a comment includes the line feed that ends it
abbrev pub after_filler : Bool → ℕ → List ℕ → ℕ × List ℕ
after_filler comment at [] = (at, [])
after_filler false at (b ∷ rest) =
    if nat_lt at most_header && is_space b then after_filler false (at + 1) rest
    else if nat_lt at most_header && (b == 35) then after_filler true (at + 1) rest
    else (at, b ∷ rest)
after_filler true at (b ∷ rest) =
    if nat_lt at most_header then after_filler (not (b == 10)) (at + 1) rest else (at, b ∷ rest)

-- the number whose digits are those of `value` and the ones at the beginning, and what follows it
abbrev pub after_digits : ℕ → ℕ → List ℕ → ℕ × ℕ × List ℕ
after_digits value at [] = (value, at, [])
after_digits value at (b ∷ rest) =
    if nat_lt at most_header && is_digit b then after_digits (10 * value + (b - 48)) (at + 1) rest
    else (value, at, b ∷ rest)

-- a byte that may end the number must follow the digits; then the number must be from 1 to `most`
abbrev pub judged : (ℕ → Bool) → PpmReason → ℕ → ℕ → ℕ × ℕ × List ℕ → Result (ℕ × ℕ × List ℕ) PpmFault
judged ends reason most first n = do
  end ← wanted ends n.1 n.2
  if nat_le 1 n.0 && nat_le n.0 most then Ok n else at_fault reason first

-- reads a number, and returns its value and what follows it
abbrev pub number : (ℕ → Bool) → PpmReason → ℕ → ℕ → List ℕ → Result (ℕ × ℕ × List ℕ) PpmFault
number ends reason most at rest = do
  digit ← wanted is_digit at rest
  judged ends reason most at (after_digits 0 at rest)

-- reads filler and a number
abbrev pub filled_number : (ℕ → Bool) → PpmReason → ℕ → ℕ → List ℕ → Result (ℕ × ℕ × List ℕ) PpmFault
filled_number ends reason most at rest = do
  begun ← wanted begins_filler at rest
  number ends reason most (after_filler false at rest).0 (after_filler false at rest).1

-- what a header says, the offset of the first sample, and the bytes from there on
pub record Head : Type 0 where
  pub width : ℕ
  pub height : ℕ
  pub maxval : ℕ
  pub place : ℕ
  pub samples : List ℕ

abbrev pub maxval_on : ℕ → ℕ → ℕ → List ℕ → Result Head PpmFault
maxval_on width height at rest = do
  maxval ← filled_number is_space Maxval 255 at rest
  end ← wanted is_space maxval.1 maxval.2
  Ok (record { width = width; height = height; maxval = maxval.0; place = end.0; samples = end.1 })

abbrev pub height_on : ℕ → ℕ → List ℕ → Result Head PpmFault
height_on width at rest = do
  height ← filled_number begins_filler Size most_side at rest
  maxval_on width height.0 height.1 height.2

abbrev pub width_on : ℕ → List ℕ → Result Head PpmFault
width_on at rest = do
  width ← filled_number begins_filler Size most_side at rest
  height_on width.0 width.1 width.2

-- `P6`, filler, the width, filler, the height, filler, the maximum, one whitespace byte
abbrev pub head_of : List ℕ → Result Head PpmFault
head_of bytes = do
  letter ← wanted (λ b. b == 80) 0 bytes
  digit ← wanted (λ b. b == 54) letter.0 letter.1
  width_on digit.0 digit.1

-- ---- the colours

-- the percentage of a sample, rounded to the nearest whole number
abbrev pub percent : ℕ → ℕ → ℕ
percent maxval v = (200 * v + maxval) / (2 * maxval)

-- the colour of three samples
abbrev pub colour_of : ℕ → ℕ → ℕ → ℕ → Parts
colour_of maxval red green blue = Rgb (percent maxval red) (percent maxval green) (percent maxval blue)

-- the colours, and this one if it is new
abbrev pub with_colour : List Parts → Parts → List Parts
with_colour seen colour = if list_any (is_same colour) seen then seen else seen ++ colour ∷ []

-- the different colours, in the order in which they first appear
abbrev pub distinct : List Parts → List Parts
distinct colours = fold with_colour [] colours

-- a palette of n registers: the colours from register 0 on, then none
abbrev pub palette_of : ℕ → List Parts → List (Option Parts)
palette_of zero colours = []
palette_of (suc n) [] = None ∷ palette_of n []
palette_of (suc n) (c ∷ colours) = Some c ∷ palette_of n colours

-- the index of a colour among the colours that were seen
abbrev pub register_among : List Parts → Parts → ℕ
register_among seen colour = unwrap_or (position_from (is_same colour) 0 seen) 0

-- the picture of these colours: they get registers from 0 on, in the order in which they first appear
abbrev pub picture_of : ℕ → ℕ → ℕ → List Parts → PictureValue
picture_of registers width height colours =
    picture_of_parts width height (palette_of registers (distinct colours))
    (map (register_among (distinct colours)) colours)

-- ---- the samples

-- reads a sample, which must be at most `maxval`, and returns its value and what follows it
abbrev pub sample : ℕ → ℕ → List ℕ → Result (ℕ × List ℕ) PpmFault
sample maxval at [] = at_fault Short at
sample maxval at (v ∷ rest) = if nat_le v maxval then Ok (v, rest) else at_fault Sample at

-- adds the colour of a pixel that begins at `at`; there must not be more different colours than registers
abbrev pub coloured : ℕ → ℕ → List Parts → Parts → Result (List Parts) PpmFault
coloured registers at colours colour =
    if nat_le (length (distinct (colours ++ colour ∷ []))) registers then Ok (colours ++ colour ∷ [])
    else at_fault TooManyColours at

-- reads n pixels and then the end; returns the colours with theirs
abbrev pub pixels : ℕ → ℕ → ℕ → List Parts → ℕ → List ℕ → Result (List Parts) PpmFault
pixels registers maxval zero colours at [] = Ok colours
pixels registers maxval zero colours at (b ∷ rest) = at_fault Trailing at
pixels registers maxval (suc n) colours at rest = do
  red ← sample maxval at rest
  green ← sample maxval (at + 1) red.1
  blue ← sample maxval (at + 2) green.1
  more ← coloured registers at colours (colour_of maxval red.0 green.0 blue.0)
  pixels registers maxval n more (at + 3) blue.1

-- ---- the whole

-- the picture of the samples after a header
abbrev pub picture_after : ℕ → Head → Result PictureValue PpmFault
picture_after registers h = do
  colours ← pixels registers h.maxval (h.width * h.height) [] h.place h.samples
  Ok (picture_of registers h.width h.height colours)

-- the picture with `registers` registers that the bytes are, or their fault
abbrev pub ppm_read : ℕ → List ℕ → Result PictureValue PpmFault
ppm_read registers bytes = do
  h ← head_of bytes
  picture_after registers h

-- the header is complete and without a fault
abbrev pub HasWholeHeader : List ℕ → Type 0
HasWholeHeader bytes = IsOk (head_of bytes)

-- the result of a call is correct: a picture or a format fault is what the bytes say. `OutOfMemory` comes only after a
-- header without a fault; what `Read` says of the bytes given by then is NoPpmFaultBefore
abbrev pub ReadsPpm : ℕ → Result PictureValue PpmFault → List ℕ → Type 0
ReadsPpm registers (Ok picture) bytes = ppm_read registers bytes ≡ Ok picture
ReadsPpm registers (Err (Format reason place)) bytes = ppm_read registers bytes ≡ at_fault reason place
ReadsPpm registers (Err OutOfMemory) bytes = HasWholeHeader bytes
ReadsPpm registers (Err Read) bytes = Unit {0}
ReadsPpm registers (Err NotRgb) bytes = ⊥
ReadsPpm registers (Err Write) bytes = ⊥

-- a call counts a failure of the source exactly if it returns `Read`; reading has no fault of writing
abbrev pub CountsReadFault : {A : Type 0} → Result A PpmFault → ℕ → ℕ → Type 0
CountsReadFault (Ok _) old new = new ≡ old
CountsReadFault (Err (Format reason place)) old new = new ≡ old
CountsReadFault (Err OutOfMemory) old new = new ≡ old
CountsReadFault (Err Read) old new = new ≡ one_more old
CountsReadFault (Err NotRgb) old new = ⊥
CountsReadFault (Err Write) old new = ⊥

-- a picture, or the one fault that bytes to come may mend: the end comes too early
abbrev pub MayGoOn : Result PictureValue PpmFault → Type 0
MayGoOn (Ok picture) = Unit {0}
MayGoOn (Err (Format Short place)) = Unit {0}
MayGoOn (Err fault) = ⊥

-- the source gave bytes up to what is `left`; if they were all, reading them would find no fault but an early end
abbrev pub NoPpmFaultBefore : (List ℕ → Result PictureValue PpmFault) → Option (List ℕ) → List ℕ → Type 0
NoPpmFaultBefore read left bytes = (given : List ℕ) × Consumes (Some bytes) left given × MayGoOn (read given)
