-- What a scan has told of a stream, and what its next call tells.
use Rattle.std.specs.Prelude.{◌≡◌, ◌≤◌, ◌-◌, ◌^◌, ◌⊎◌, ◌++◌, ℕ, Bool, true, false, List, length, Option, Result, Ok}
use Rattle.std.specs.Prelude.{Err, if◌then◌else◌}
use Rattle.std.specs.Io.KnownBytes.{Consumes, IsAtEnd}
use Rattle.sixel_io.specs.Devices.{one_more}
use Rattle.sixel_model.specs.Profiles.{count_of}
use Rattle.sixel_scan.specs.declared.answer.Scanned.{Scanned}
use Rattle.sixel_scan.specs.declared.fault.ScanFault.{ScanFault}
use Rattle.sixel_scan.specs.declared.fault.ScanFault.TheVariants.{OutOfMemory, Read}
use Rattle.sixel_scan.specs.declared.scan.Scan.{Scan}
use Rattle.sixel_scan.specs.Marking.{Knows}
use Rattle.sixel_scan.specs.Prefixes.{AreBeforeGrowth, AreEnded}
use Rattle.sixel_scan.specs.Standing.{AreReported, Stands}
use Rattle.sixel_scan.specs.Strings.{AreStrings, StringAt}

-- a stream has at most so many bytes; of a longer source it is the first of them
abbrev pub longest_stream : ℕ
longest_stream = 2 ^ 64 - 1

-- the stream is over after these bytes: the source is at its end, or has given as many as a stream may have
abbrev pub IsOver : Option (List ℕ) → List ℕ → Type 0
IsOver remaining bytes = IsAtEnd remaining ⊎ (length bytes ≡ longest_stream)

-- the scan has taken these bytes from its source, and goes on
pub record IsReading (s : Scan) (told : List StringAt) (bytes : List ℕ) : Type 0 where
  pub read : List ℕ
  pub bytes_are : bytes ≡ read ++ s.unread
  pub within : length bytes ≤ longest_stream
  pub stands : Stands s.scanner told read
  pub knows : Knows s.scanner read

-- the scan goes on, and so do `eight` and the registers
pub record GoesOn (eight : Bool) (registers : ℕ) (s : Scan) (told : List StringAt) (bytes : List ℕ) : Type 0 where
  pub goes_on : s.ended ≡ false
  pub eight_is : s.scanner.eight ≡ eight
  pub registers_are : count_of s.scanner.profile ≡ registers
  pub reading : IsReading s told bytes

-- the stream is over, and all its strings are told
pub record IsThrough (eight : Bool) (s : Scan) (remaining : Option (List ℕ)) (told : List StringAt) (bytes : List ℕ)
    : Type 0 where
  pub ended : s.ended ≡ true
  pub within : length bytes ≤ longest_stream
  pub strings : AreStrings eight told bytes
  pub over : IsOver remaining bytes

-- the scan has taken these bytes from its source, of which these remain, and has told these strings
abbrev pub HasTold : Bool → ℕ → Scan → Option (List ℕ) → List StringAt → List ℕ → Type 0
HasTold eight registers s remaining told bytes =
    GoesOn eight registers s told bytes ⊎ IsThrough eight s remaining told bytes

-- the scan can be asked for the next string of its source, of which these bytes remain
abbrev pub IsReady : Scan → Option (List ℕ) → Type 0
IsReady s remaining =
    (eight : Bool) × (registers : ℕ) × (told : List StringAt) × (bytes : List ℕ)
    × HasTold eight registers s remaining told bytes

-- whatever the scan had told, and of which bytes: a call took more bytes from its source, and then this holds of the
-- strings told before and of all bytes taken
abbrev pub AfterTaking : Scan → Option (List ℕ) → Option (List ℕ)
    → (Bool → ℕ → List StringAt → List ℕ → Type 0) → Type 0
AfterTaking s old new P =
    (eight : Bool) (registers : ℕ) (told : List StringAt) (bytes : List ℕ) → HasTold eight registers s old told bytes
    → (taken : List ℕ) × Consumes old new taken × P eight registers told (bytes ++ taken)

-- the strings are the first of the stream of which these bytes are taken: whatever follows, or, if it is over, all
abbrev pub AreFirst : Bool → Option (List ℕ) → List StringAt → List ℕ → Type 0
AreFirst eight remaining strings bytes =
    AreEnded eight strings bytes ⊎ (AreStrings eight strings bytes × IsOver remaining bytes)

-- the scan reports these strings besides those told, and they all are the first of the stream
pub record TellsNext (eight : Bool) (registers : ℕ) (s : Scan) (remaining : Option (List ℕ)) (told : List StringAt)
    (bytes : List ℕ) (reports : List Scanned) : Type 0 where
  pub found : List StringAt
  pub reported : AreReported registers found reports
  pub first : AreFirst eight remaining (told ++ found) bytes
  pub has_told : HasTold eight registers s remaining (told ++ found) bytes

-- the strings told are those before one in which a check with this many registers may allocate, within the bytes, which
-- are no more than a stream has
abbrev pub GrowsWithin : Bool → ℕ → List StringAt → List ℕ → Type 0
GrowsWithin eight registers told bytes =
    (first rest : List ℕ) × (bytes ≡ first ++ rest) × AreBeforeGrowth eight registers told first
    × (length bytes ≤ longest_stream)

-- the scan reports these strings besides those told, and goes on
pub record Tells (s : Scan) (told : List StringAt) (bytes : List ℕ) (reports : List Scanned) : Type 0 where
  pub found : List StringAt
  pub reported : AreReported (count_of s.scanner.profile) found reports
  pub reading : IsReading s (told ++ found) bytes

-- at the end of the stream, the scan reports these strings besides those told, and they are all
pub record TellsAll (s : Scan) (told : List StringAt) (bytes : List ℕ) (reports : List Scanned) : Type 0 where
  pub found : List StringAt
  pub reported : AreReported (count_of s.scanner.profile) found reports
  pub strings : AreStrings s.scanner.eight (told ++ found) bytes

-- the source's count of failures after the call: one more after `Read`, otherwise the same
abbrev pub failures_after : {A : Type 0} → Result A ScanFault → ℕ → ℕ
failures_after (Err Read) n = one_more n
failures_after (Err OutOfMemory) n = n
failures_after (Ok x) n = n

-- how many more strings a scan can tell, at most
abbrev pub steps_left : Scan → ℕ
steps_left s = if s.ended then 0 else 2 ^ 64 - s.scanner.read
