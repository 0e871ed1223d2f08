-- Where bytes stop being a prefix of a document, and why.
use Rattle.std.specs.Prelude.{◌≡◌, ℕ, ◌+◌, ◌<◌, ◌≤◌, ◌⊎◌, IsTrue, List, [], ◌∷◌, ◌++◌, length, take, slice_get, Option}
use Rattle.std.specs.Prelude.{Some, None, min, Bool, true, false, ◌||◌, ◌==◌, if◌then◌else◌}
use Rattle.std.specs.List.{AllByRecursion}
use Rattle.sixel_grammar.specs.declared.command.Event.{Event}
use Rattle.sixel_grammar.specs.declared.command.Event.TheVariants.{Start, Step, Finish}
use Rattle.sixel_grammar.specs.declared.command.Placed.{Placed}
use Rattle.sixel_grammar.specs.declared.fault.Reason.{Reason}
use Rattle.sixel_grammar.specs.declared.fault.Reason.TheVariants.{NotSixel, BadByte, NumberTooLarge, FieldCount}
use Rattle.sixel_grammar.specs.declared.fault.Reason.TheVariants.{BadRepeat, BadTerminator, Truncated, TooLong}
use Rattle.sixel_grammar.specs.declared.fault.Reason.TheVariants.{Trailing}
use Rattle.sixel_grammar.specs.declared.fault.Fault.{Fault}
use Rattle.sixel_grammar.specs.Bytes.{is_digit, is_body, escape, separator, repeat_sign, raster_sign, colour_sign}
use Rattle.sixel_grammar.specs.Bytes.{introducer}
use Rattle.sixel_grammar.specs.Number.{NumberText, Fields}
use Rattle.sixel_grammar.specs.Spelling.{is_open_ended}
use Rattle.sixel_grammar.specs.Document.{AreFiller, Piece, IsPiece, joined, events_in, placed_from, AreWhole}
use Rattle.sixel_grammar.specs.Document.{IsDocument, most_bytes}
use Rattle.sixel_grammar.specs.Prefixes.{IsViable}

-- what is open at the end of a viable prefix; fields are the numbers before the last `;`, and the number after it
pub data Form : Type 0 where
  -- nothing yet
  NothingYet : Form
  -- the ESC of an introducer
  Introducing : Form
  -- an introducer, 8-bit or not, and parameters with at most two `;`
  Parameters : Bool → List ℕ → ℕ → Form
  -- an introducer, three parameters, and a `;` after them
  LastSeparator : Bool → List ℕ → Form
  -- no command
  NoCommand : Form
  -- `!` and its number
  RepeatNumber : ℕ → Form
  -- `"` with its fields
  RasterFields : List ℕ → ℕ → Form
  -- `#` with its fields
  ColourFields : List ℕ → ℕ → Form
  -- the ESC of a terminator
  Terminating : Form
  -- the string has ended
  Ended : Form

-- whether nothing is open
abbrev pub is_idle : Form → Bool
is_idle NothingYet = true
is_idle NoCommand = true
is_idle Ended = true
is_idle _ = false

-- the bytes read so far of what is open
abbrev pub Opens : Form → List ℕ → Type 0
Opens NothingYet bytes = bytes ≡ []
Opens Introducing bytes = bytes ≡ escape ∷ []
Opens (Parameters eight ns n) bytes =
    (fields : List ℕ) × Fields (ns ++ n ∷ []) fields × (length ns ≤ 2) × (bytes ≡ introducer eight ++ fields)
Opens (LastSeparator eight ns) bytes =
    (fields : List ℕ) × Fields ns fields × (length ns ≡ 3) × (bytes ≡ introducer eight ++ fields ++ separator ∷ [])
Opens NoCommand bytes = bytes ≡ []
Opens (RepeatNumber n) bytes = (number : List ℕ) × NumberText n number × (bytes ≡ repeat_sign ∷ number)
Opens (RasterFields ns n) bytes =
    (fields : List ℕ) × Fields (ns ++ n ∷ []) fields × (length ns ≤ 3) × (bytes ≡ raster_sign ∷ fields)
Opens (ColourFields ns n) bytes =
    (fields : List ℕ) × Fields (ns ++ n ∷ []) fields × (length ns ≤ 4) × (bytes ≡ colour_sign ∷ fields)
Opens Terminating bytes = bytes ≡ escape ∷ []
Opens Ended bytes = bytes ≡ []

abbrev pub AreSteps : List Event → Type 0
AreSteps [] = Unit {0}
AreSteps (Start eight parameters ∷ more) = ⊥
AreSteps (Step command ∷ more) = AreSteps more
AreSteps (Finish eight ∷ more) = ⊥

-- a start, then commands
abbrev pub AreBegun : List Event → Type 0
AreBegun [] = ⊥
AreBegun (Start eight parameters ∷ more) = AreSteps more
AreBegun (Step command ∷ more) = ⊥
AreBegun (Finish eight ∷ more) = ⊥

-- none, a start and commands, or those of a whole document
abbrev pub ArePrefix : List Event → Type 0
ArePrefix events = (events ≡ []) ⊎ AreBegun events ⊎ AreWhole events

-- the events allowed before what is open
abbrev pub Precede : Form → List Event → Type 0
Precede NothingYet events = events ≡ []
Precede Introducing events = events ≡ []
Precede (Parameters eight ns n) events = events ≡ []
Precede (LastSeparator eight ns) events = events ≡ []
Precede NoCommand events = AreBegun events
Precede (RepeatNumber n) events = AreBegun events
Precede (RasterFields ns n) events = AreBegun events
Precede (ColourFields ns n) events = AreBegun events
Precede Terminating events = AreBegun events
Precede Ended events = AreWhole events

-- if the last piece is open-ended, some byte follows it; n is how many bytes follow
abbrev pub IsClosed : List Piece → ℕ → Type 0
IsClosed [] n = Unit {0}
IsClosed (p ∷ []) n = IsTrue (is_open_ended p.event) → 0 < n
IsClosed (p ∷ q ∷ ps) n = IsClosed (q ∷ ps) n

-- the bytes are whole pieces, then filler, then what is open, which begins at offset `opened`
pub record EndsIn (form : Form) (events : List Placed) (opened : ℕ) (bytes : List ℕ) : Type 0 where
  pub pieces : List Piece
  pub filler : List ℕ
  pub open_bytes : List ℕ
  pub bytes_are : bytes ≡ joined pieces ++ filler ++ open_bytes
  pub each : AllByRecursion IsPiece pieces
  pub filler_is : AreFiller filler
  pub opens : Opens form open_bytes
  pub before : Precede form (events_in pieces)
  pub closed : IsClosed pieces (length filler + length open_bytes)
  pub events_are : events ≡ placed_from 0 pieces
  pub opened_is : opened ≡ length (joined pieces) + length filler

-- the reason for refusing a byte, by what is open
abbrev pub refusal : Form → ℕ → Reason
refusal NothingYet b = NotSixel
refusal Introducing b = NotSixel
refusal (Parameters eight ns n) b = if is_digit b then NumberTooLarge else NotSixel
refusal (LastSeparator eight ns) b = if is_digit b || (b == separator) then FieldCount else NotSixel
refusal NoCommand b = BadByte
refusal (RepeatNumber n) b = if is_digit b then NumberTooLarge else BadRepeat
refusal (RasterFields ns n) b = if is_digit b then NumberTooLarge else (if b == separator then FieldCount else BadByte)
refusal (ColourFields ns n) b =
    if is_digit b then NumberTooLarge else (if (b == separator) || is_body b then FieldCount else BadByte)
refusal Terminating b = BadTerminator
refusal Ended b = Trailing

-- the longest viable prefix of the bytes has this length
pub record IsLongest (place : ℕ) (bytes : List ℕ) : Type 0 where
  pub within : place ≤ length bytes
  pub viable : IsViable (take place bytes)
  pub longest : (n : ℕ) → n ≤ length bytes → IsViable (take n bytes) → n ≤ place

-- the reason why this byte can't follow the prefix; at the end of the input it is `Truncated`, if the prefix is no
-- document
abbrev pub Stops : List ℕ → Option ℕ → Reason → Type 0
Stops prefix None reason = (IsDocument prefix → ⊥) × (reason ≡ Truncated)
Stops prefix (Some b) reason =
    (form : Form) × (events : List Placed) × (opened : ℕ) × EndsIn form events opened prefix × (reason ≡ refusal form b)

-- the bytes are longer than the limit, and the first `most_bytes` of them are viable
pub record IsTooLong (bytes : List ℕ) (fault : Fault) : Type 0 where
  pub long : most_bytes < length bytes
  pub viable : IsViable (take most_bytes bytes)
  pub fault_is : fault ≡ record { reason = TooLong; place = most_bytes }

-- within the limit, the longest viable prefix ends at the fault
pub record IsRefused (bytes : List ℕ) (fault : Fault) : Type 0 where
  pub longest : IsLongest fault.place bytes
  pub within : min (fault.place + 1) (length bytes) ≤ most_bytes
  pub refuses : Stops (take fault.place bytes) (slice_get bytes fault.place) fault.reason

-- the fault of bytes that aren't a document
abbrev pub IsFaultOf : List ℕ → Fault → Type 0
IsFaultOf bytes fault = IsTooLong bytes fault ⊎ IsRefused bytes fault
