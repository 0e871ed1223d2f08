-- What a scan finds in a stream, and what it answers.
use Rattle.std.specs.Prelude.{◌≡◌, ◌≤◌, ◌++◌, ℕ, Bool, true, List, [], ◌∷◌, length, map, take, Option, Some, ◌||◌}
use Rattle.std.specs.Prelude.{Result, Ok, Err, if◌then◌else◌}
use Rattle.std.specs.Io.KnownBytes.{Consumes}
use Rattle.std.specs.List.{list_all, list_any}
use Rattle.sixel_scan.specs.declared.answer.Scanned.{Scanned}
use Rattle.sixel_scan.specs.Prefixes.{AreGiven}
use Rattle.sixel_scan.specs.Scans.{GrowsWithin, longest_stream}
use Rattle.sixel_scan.specs.Standing.{AreReported}
use Rattle.sixel_scan.specs.Strings.{AreStrings, StringAt}
use Rattle.sixel_scan.specs.Wrapping.{AreMarked}
use Rattle.sixel_report.specs.declared.fault.RunFault.{RunFault}
use Rattle.sixel_report.specs.declared.fault.RunFault.TheVariants.{NoString, OutOfMemory, Read, Write}
use Rattle.sixel_report.specs.declared.task.Status.{Status}
use Rattle.sixel_report.specs.declared.task.Note.TheVariants.{Wrapped}
use Rattle.sixel_report.specs.declared.task.Status.TheVariants.{Done, Noted, Unfit}
use Rattle.sixel_report.specs.declared.item.Item.TheVariants.{String}
use Rattle.sixel_report.specs.Texts.{Text, items_text}
use Rattle.sixel_report.specs.Lines.{is_portable_answer}

-- the stream that a source with these bytes gives: of more than a stream has, the first
abbrev pub stream_of : List ℕ → List ℕ
stream_of bytes = take longest_stream bytes

-- a line for each string
abbrev pub scan_text : List Scanned → Text
scan_text reports = items_text (map String reports)

-- the string is portable
abbrev pub is_portable : Scanned → Bool
is_portable s = is_portable_answer s.answer

-- the string stands in the pass-through of tmux or GNU Screen
abbrev pub is_wrapped : Scanned → Bool
is_wrapped s = s.wrapped

-- the status where this says whether each string is portable, and this whether one of them is wrapped: Done if each is
-- portable, with a note if one is wrapped; otherwise Unfit, which says whether one is
abbrev pub status_where : Bool → Bool → Status
status_where portable wrapped =
    if portable then (if wrapped then Noted Wrapped else Done) else Unfit wrapped

-- the answer on these strings; NoString if there are none
abbrev pub answer_of_strings : List Scanned → Result Status RunFault
answer_of_strings [] = Err NoString
answer_of_strings (s ∷ more) =
    Ok (status_where (list_all is_portable (s ∷ more)) (list_any is_wrapped (s ∷ more)))

-- the answer with one more string
abbrev pub answer_with : Result Status RunFault → Scanned → Result Status RunFault
answer_with (Ok (Unfit wrapped)) s = Ok (Unfit (wrapped || s.wrapped))
answer_with (Ok (Noted Wrapped)) s = Ok (status_where (is_portable s) true)
answer_with answer s = Ok (status_where (is_portable s) s.wrapped)

-- the reports are of the strings of the stream, as a check with this many registers answers for the bytes of each, and
-- say whether each is wrapped
pub record AreOfStream (eight : Bool) (registers : ℕ) (bytes : List ℕ) (reports : List Scanned) : Type 0 where
  pub strings : List StringAt
  pub are : AreStrings eight strings (stream_of bytes)
  pub reported : AreReported registers strings reports
  pub marked : AreMarked (stream_of bytes) reports

-- the reports are of the strings of the bytes given so far, those before `left`, without one that ends only because
-- these bytes do
pub record AreOfGiven (eight : Bool) (registers : ℕ) (bytes : List ℕ) (left : Option (List ℕ)) (reports : List Scanned)
    : Type 0 where
  pub given : List ℕ
  pub consumed : Consumes (Some bytes) left given
  pub within : length given ≤ longest_stream
  pub strings : List StringAt
  pub are : AreGiven eight strings given
  pub reported : AreReported registers strings reports
  pub marked : AreMarked given reports

-- the reports are of the strings before one in which a checker may allocate
pub record AreBeforeAllocation (eight : Bool) (registers : ℕ) (bytes : List ℕ) (reports : List Scanned) : Type 0 where
  pub strings : List StringAt
  pub grows : GrowsWithin eight registers strings (stream_of bytes)
  pub reported : AreReported registers strings reports
  pub marked : AreMarked (stream_of bytes) reports

-- the reports are of the first strings of the stream
pub record AreOfFirst (eight : Bool) (registers : ℕ) (bytes : List ℕ) (reports : List Scanned) : Type 0 where
  pub strings : List StringAt
  pub rest : List StringAt
  pub are : AreStrings eight (strings ++ rest) (stream_of bytes)
  pub reported : AreReported registers strings reports
  pub marked : AreMarked (stream_of bytes) reports

-- a scan of these bytes, of which `left` is unread, may have found these strings if it answers so. Read, OutOfMemory:
-- those told before the failure; Write: up to the one whose line couldn't be written; any other answer: all
abbrev pub Finds : Bool → ℕ → List ℕ → Option (List ℕ) → Result Status RunFault → List Scanned → Type 0
Finds eight registers bytes left (Err OutOfMemory) reports = AreBeforeAllocation eight registers bytes reports
Finds eight registers bytes left (Err Read) reports = AreOfGiven eight registers bytes left reports
Finds eight registers bytes left (Err Write) reports = AreOfFirst eight registers bytes reports
Finds eight registers bytes left answer reports =
    AreOfStream eight registers bytes reports × (answer ≡ answer_of_strings reports)

-- a checker may allocate in one of the strings
abbrev pub MayGrowInString : Bool → ℕ → List ℕ → Type 0
MayGrowInString eight registers bytes =
    (strings : List StringAt) × GrowsWithin eight registers strings (stream_of bytes)
