-- What a scan has read and reported.
use Rattle.std.specs.Prelude.{◌≡◌, ◌+◌, ◌++◌, ◌∷◌, [], ℕ, Bool, List, length}
use Rattle.sixel_grammar.specs.Bytes.{escape}
use Rattle.sixel_model.specs.Profiles.{count_of}
use Rattle.sixel_scan.specs.declared.answer.Scanned.{Scanned}
use Rattle.sixel_scan.specs.declared.opening.Opening.{Opening}
use Rattle.sixel_scan.specs.declared.opening.Opening.TheVariants.{Nothing, Escape, Letter, Control, Introduced}
use Rattle.sixel_scan.specs.declared.scanner.Scanner.{Scanner}
use Rattle.sixel_scan.specs.declared.scanner.Stage.{Stage}
use Rattle.sixel_scan.specs.declared.scanner.Stage.TheVariants.{Text, Inside, Escaped}
use Rattle.sixel_scan.specs.declared.string_check.StringCheck.{StringCheck}
use Rattle.sixel_scan.specs.Answers.{IsReported}
use Rattle.sixel_scan.specs.Checking.{HasRead}
use Rattle.sixel_scan.specs.Openings.{Advances, IsHeld}
use Rattle.sixel_scan.specs.Prefixes.{Resumes}
use Rattle.sixel_scan.specs.Scanning.{AreInside}
use Rattle.sixel_scan.specs.Strings.{AreStrings, IsOpening, StringAt}

-- an opening, and bytes after it in which the string doesn't end
pub record IsOpenString (eight : Bool) (bytes : List ℕ) : Type 0 where
  pub opening : List ℕ
  pub body : List ℕ
  pub opens : IsOpening eight opening
  pub inside : AreInside eight body
  pub bytes_are : bytes ≡ opening ++ body

-- the bytes held, of which the first has this offset, are as the stage says; from the first byte after an introducer
-- on, the check has read them
abbrev pub Holds : Bool → ℕ → ℕ → StringCheck → Stage → ℕ → List ℕ → Type 0
Holds eight registers opened check (Text Nothing) offset held = held ≡ []
Holds eight registers opened check (Text Escape) offset held = (held ≡ escape ∷ []) × (opened ≡ offset)
Holds eight registers opened check (Text Letter) offset held = IsHeld eight Letter held × (opened ≡ offset)
Holds eight registers opened check (Text Control) offset held = IsHeld eight Control held × (opened ≡ offset)
Holds eight registers opened check (Text Introduced) offset held =
    IsHeld eight Introduced held × (opened ≡ offset) × HasRead registers check held
Holds eight registers opened check Inside offset held =
    IsOpenString eight held × (opened ≡ offset) × HasRead registers check held
Holds eight registers opened check Escaped offset held =
    (string : List ℕ) × (held ≡ string ++ escape ∷ []) × IsOpenString eight string × (opened ≡ offset)
    × HasRead registers check string

-- whatever bytes are held, with this one they are as the automaton of openings says
abbrev pub AdvancesFrom : Bool → Opening → Opening → ℕ → Type 0
AdvancesFrom eight opening next byte = (held : List ℕ) → IsHeld eight opening held → Advances eight next held byte

-- with these parts, a scan has read these bytes, and reported these strings
pub record StandsWith (eight : Bool) (registers read opened : ℕ) (check : StringCheck) (stage : Stage)
    (told : List StringAt) (bytes : List ℕ) : Type 0 where
  pub before : List ℕ
  pub held : List ℕ
  pub bytes_are : bytes ≡ before ++ held
  pub read_is : read ≡ length bytes
  pub resumes : Resumes eight told bytes (length before) held
  pub holds : Holds eight registers opened check stage (length before) held

-- the scan has read these bytes, and reported these strings
abbrev pub Stands : Scanner → List StringAt → List ℕ → Type 0
Stands s told bytes = StandsWith s.eight (count_of s.profile) s.read s.opened s.check s.stage told bytes

-- with these parts, a scan has read all of these bytes but the last, which is `byte`, and reported these strings
pub record ReadsNextWith (eight : Bool) (registers read opened : ℕ) (check : StringCheck) (stage : Stage) (byte : ℕ)
    (told : List StringAt) (bytes : List ℕ) : Type 0 where
  pub before : List ℕ
  pub held : List ℕ
  pub bytes_are : bytes ≡ before ++ (held ++ byte ∷ [])
  pub read_is : read + 1 ≡ length bytes
  pub resumes : Resumes eight told bytes (length before) (held ++ byte ∷ [])
  pub holds : Holds eight registers opened check stage (length before) held

-- at this stage, the scan has read all of these bytes but the last, which is `byte`, and reported these strings
abbrev pub ReadsNext : Scanner → Stage → ℕ → List StringAt → List ℕ → Type 0
ReadsNext s stage byte told bytes =
    ReadsNextWith s.eight (count_of s.profile) s.read s.opened s.check stage byte told bytes

-- each string is reported, in order
abbrev pub AreReported : ℕ → List StringAt → List Scanned → Type 0
AreReported registers [] [] = Unit {0}
AreReported registers (s ∷ more) (r ∷ rest) = IsReported registers s r × AreReported registers more rest
AreReported registers _ _ = ⊥

-- a scan that stands after these bytes reports these strings besides those told
pub record Reports (s : Scanner) (told : List StringAt) (bytes : List ℕ) (reports : List Scanned) : Type 0 where
  pub found : List StringAt
  pub reported : AreReported (count_of s.profile) found reports
  pub stands : Stands s (told ++ found) bytes

-- at the end of the stream, the scan reports these strings besides those told, and they are all
pub record ReportsAll (s : Scanner) (told : List StringAt) (bytes : List ℕ) (reports : List Scanned) : Type 0 where
  pub found : List StringAt
  pub reported : AreReported (count_of s.profile) found reports
  pub strings : AreStrings s.eight (told ++ found) bytes
