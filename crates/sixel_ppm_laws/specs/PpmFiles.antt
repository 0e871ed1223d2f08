-- What a picture file is: Netpbm's raw PPM, ppm(5), within limits.
--
-- PpmReading defines the reading of a file as a function of its bytes. Here is the grammar, as a relation. A law says
-- that the two agree.
use Rattle.std.specs.Prelude.{◌≡◌, ◌≢◌, ◌⊎◌, ℕ, ◌*◌, ◌<◌, ◌≤◌, IsTrue, List, [], ◌∷◌, ◌++◌, length}
use Rattle.std.specs.Int.{IsInRange}
use Rattle.std.specs.List.{AllByRecursion, concat}
use Rattle.std.specs.Str.Parse.{IsNumeral, digits_value}
use Rattle.sixel_model.specs.Pictures.{PictureValue, most_side}
use Rattle.sixel_ppm.specs.PpmReading.{colour_of, distinct, is_space, most_header, picture_of}
use Rattle.sixel_model.specs.declared.colour.Parts.{Parts}

-- ---- the header

-- SP, TAB, CR or LF
abbrev pub IsWhitespace : List ℕ → Type 0
IsWhitespace bytes = (b : ℕ) × (bytes ≡ b ∷ []) × IsTrue (is_space b)

-- `#`, any bytes but a line feed, and a line feed
abbrev pub IsComment : List ℕ → Type 0
IsComment bytes = (text : List ℕ) × (bytes ≡ 35 ∷ text ++ 10 ∷ []) × AllByRecursion (λ b. b ≢ 10) text

abbrev pub IsFillerPiece : List ℕ → Type 0
IsFillerPiece bytes = IsWhitespace bytes ⊎ IsComment bytes

-- one or more pieces, joined
pub record IsFiller (bytes : List ℕ) : Type 0 where
  pub pieces : List (List ℕ)
  pub some : 0 < length pieces
  pub each : AllByRecursion IsFillerPiece pieces
  pub bytes_are : bytes ≡ concat pieces

-- one or more decimal digits with the value n; leading zeros are allowed
pub record IsNumberText (n : ℕ) (text : List ℕ) : Type 0 where
  pub digits : IsNumeral 10 text
  pub value : digits_value 10 text ≡ n

-- `P6`, filler, the width, filler, the height, filler, the maximum, one whitespace byte
pub record IsHeader (width height maxval : ℕ) (bytes : List ℕ) : Type 0 where
  pub before_width : List ℕ
  pub width_text : List ℕ
  pub before_height : List ℕ
  pub height_text : List ℕ
  pub before_maxval : List ℕ
  pub maxval_text : List ℕ
  pub end : ℕ
  pub bytes_are : bytes ≡
      80 ∷ 54 ∷ before_width ++ width_text ++ before_height ++ height_text ++ before_maxval ++ maxval_text ++ end ∷ []
  pub first_filler : IsFiller before_width
  pub width_is : IsNumberText width width_text
  pub second_filler : IsFiller before_height
  pub height_is : IsNumberText height height_text
  pub third_filler : IsFiller before_maxval
  pub maxval_is : IsNumberText maxval maxval_text
  pub end_is : IsTrue (is_space end)
  pub wide : IsInRange 1 most_side width
  pub high : IsInRange 1 most_side height
  pub scaled : IsInRange 1 255 maxval
  pub short : length bytes ≤ most_header

-- ---- the samples

-- the colours of the samples, three samples for each colour
abbrev pub colours_of_samples : ℕ → List ℕ → List Parts
colours_of_samples maxval [] = []
colours_of_samples maxval (red ∷ []) = []
colours_of_samples maxval (red ∷ green ∷ []) = []
colours_of_samples maxval (red ∷ green ∷ blue ∷ rest) =
    colour_of maxval red green blue ∷ colours_of_samples maxval rest

-- ---- the whole

-- the bytes are a header, and three samples for each pixel, each at most the maximum, with at most as many different
-- colours as registers; the picture is the one of these colours
pub record IsPictureFile (registers : ℕ) (picture : PictureValue) (bytes : List ℕ) : Type 0 where
  pub width : ℕ
  pub height : ℕ
  pub maxval : ℕ
  pub header : List ℕ
  pub samples : List ℕ
  pub bytes_are : bytes ≡ header ++ samples
  pub header_is : IsHeader width height maxval header
  pub whole : length samples ≡ 3 * (width * height)
  pub within : AllByRecursion (λ v. v ≤ maxval) samples
  pub few : length (distinct (colours_of_samples maxval samples)) ≤ registers
  pub picture_is : picture ≡ picture_of registers width height (colours_of_samples maxval samples)
