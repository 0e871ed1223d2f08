-- How a byte continues an incomplete header. Only contracts of private functions cite these.
use Rattle.std.specs.Prelude.{ℕ, ◌+◌, ◌-◌, ◌*◌, ◌==◌, Bool, true, false, ◌&&◌, nat_le, nat_lt, if◌then◌else◌, List}
use Rattle.std.specs.Prelude.{Result, Ok}
use Rattle.sixel_grammar.specs.Bytes.{is_digit}
use Rattle.sixel_ppm.specs.PpmReading.{◌>>=◌, Head, after_digits, after_filler, at_fault, begins_filler, height_on}
use Rattle.sixel_ppm.specs.PpmReading.{is_space, judged, maxval_on, most_header, number, wanted, width_on}
use Rattle.sixel_ppm.specs.declared.ppm.PpmFault.{PpmFault}
use Rattle.sixel_ppm.specs.declared.ppm.PpmReason.{PpmReason}
use Rattle.sixel_ppm.specs.declared.ppm.PpmReason.TheVariants as reason
use Rattle.sixel_ppm.specs.declared.ppm.header.Field.{Field}
use Rattle.sixel_ppm.specs.declared.ppm.header.Field.TheVariants.{Width, Height, Maxval}
use Rattle.sixel_ppm.specs.declared.ppm.header.Part.{Part}
use Rattle.sixel_ppm.specs.declared.ppm.header.Part.TheVariants.{Letter, Version, AfterVersion, Filler, Comment}
use Rattle.sixel_ppm.specs.declared.ppm.header.Part.TheVariants.{Digits}
use Rattle.sixel_ppm.specs.declared.ppm.header.Progress.{Progress}
use Rattle.sixel_ppm.specs.declared.ppm.header.Next.{Next}
use Rattle.sixel_ppm.specs.declared.ppm.header.Next.TheVariants.{More, Whole, Refused}
use Rattle.sixel_model.specs.Pictures.{most_side}

-- ---- the step

abbrev pub begun : Progress
begun = record { part = Letter; place = 0; width = 0; height = 0; value = 0; first = 0 }

abbrev pub refused : Progress → Next
refused p = Refused reason.Header p.place

abbrev pub advanced : Progress → Part → Next
advanced p part = More (record p { part = part; place = p.place + 1 })

abbrev pub wanted_byte : Progress → Bool → Part → Next
wanted_byte p passes part = if passes then advanced p part else refused p

abbrev pub in_filler : Progress → Field → ℕ → Next
in_filler p field b =
    if is_space b then advanced p (Filler field) else if b == 35 then advanced p (Comment field) else refused p

abbrev pub in_comment : Progress → Field → ℕ → Next
in_comment p field b = if b == 10 then advanced p (Filler field) else advanced p (Comment field)

abbrev pub grown : ℕ → ℕ → ℕ
grown value b = if nat_lt most_side value then value else 10 * value + (b - 48)

abbrev pub filled : Progress → Field → ℕ → Next
filled p field b =
    if is_digit b then More (record p { part = Digits field; place = p.place + 1; value = grown 0 b; first = p.place })
    else in_filler p field b

-- a byte that may follow the last digit
abbrev pub ends : Field → ℕ → Bool
ends Width b = begins_filler b
ends Height b = begins_filler b
ends Maxval b = is_space b

abbrev pub is_within : ℕ → ℕ → Bool
is_within value most = nat_le 1 value && nat_le value most

abbrev pub ended : Progress → Field → ℕ → Next
ended p Width b =
    if is_within p.value most_side then in_filler (record p { width = p.value }) Height b
    else Refused reason.Size p.first
ended p Height b =
    if is_within p.value most_side then in_filler (record p { height = p.value }) Maxval b
    else Refused reason.Size p.first
ended p Maxval b =
    if is_within p.value 255
    then Whole (record { width = p.width; height = p.height; maxval = p.value; place = p.place + 1 })
    else Refused reason.Maxval p.first

abbrev pub in_digits : Progress → Field → ℕ → Next
in_digits p field b =
    if is_digit b then More (record p { part = Digits field; place = p.place + 1; value = grown p.value b })
    else if ends field b then ended p field b else refused p

abbrev pub step_in : Part → Progress → ℕ → Next
step_in Letter p b = wanted_byte p (b == 80) Version
step_in Version p b = wanted_byte p (b == 54) AfterVersion
step_in AfterVersion p b = in_filler p Width b
step_in (Filler field) p b = filled p field b
step_in (Comment field) p b = in_comment p field b
step_in (Digits field) p b = in_digits p field b

abbrev pub step : Progress → ℕ → Next
step p b = if nat_lt p.place most_header then step_in p.part p b else refused p

-- ---- what the bytes to come make of an incomplete header

abbrev pub fault_of : Field → PpmReason
fault_of Width = reason.Size
fault_of Height = reason.Size
fault_of Maxval = reason.Maxval

abbrev pub most_of : Field → ℕ
most_of Width = most_side
most_of Height = most_side
most_of Maxval = 255

-- the rest of the header after a number
abbrev pub after_field : Field → Progress → ℕ × ℕ × List ℕ → Result Head PpmFault
after_field Width p n = height_on n.0 n.1 n.2
after_field Height p n = maxval_on p.width n.0 n.1 n.2
after_field Maxval p n = do
  end ← wanted is_space n.1 n.2
  Ok (record { width = p.width; height = p.height; maxval = n.0; place = end.0; samples = end.1 })

-- the rest of the header from the digits of a number on
abbrev pub number_on : Field → Progress → ℕ × List ℕ → Result Head PpmFault
number_on field p spot = do
  n ← number (ends field) (fault_of field) (most_of field) spot.0 spot.1
  after_field field p n

abbrev pub digits_on : Field → Progress → ℕ × ℕ × List ℕ → Result Head PpmFault
digits_on field p digits = do
  n ← judged (ends field) (fault_of field) (most_of field) p.first digits
  after_field field p n

abbrev pub version_on : ℕ → List ℕ → Result Head PpmFault
version_on at rest = do
  digit ← wanted (λ b. b == 54) at rest
  width_on digit.0 digit.1

abbrev pub header_in : Part → Progress → List ℕ → Result Head PpmFault
header_in Letter p rest = do
  letter ← wanted (λ b. b == 80) p.place rest
  version_on letter.0 letter.1
header_in Version p rest = version_on p.place rest
header_in AfterVersion p rest = width_on p.place rest
header_in (Filler field) p rest = number_on field p (after_filler false p.place rest)
header_in (Comment field) p rest = number_on field p (after_filler true p.place rest)
header_in (Digits field) p rest = digits_on field p (after_digits p.value p.place rest)

abbrev pub header_on : Progress → List ℕ → Result Head PpmFault
header_on p rest = header_in p.part p rest

-- the result of a step and of the bytes after it
abbrev pub header_after : Next → List ℕ → Result Head PpmFault
header_after (More p) rest = header_on p rest
header_after (Whole f) rest =
    Ok (record { width = f.width; height = f.height; maxval = f.maxval; place = f.place; samples = rest })
header_after (Refused reason place) rest = at_fault reason place
