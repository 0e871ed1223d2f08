-- What a scan reports, and what its calls ask.
use Rattle.std.proofs.Common.{◌≡◌, ℕ, ◌+◌, ◌-◌, ◌<◌, ◌^◌, Bool}
use Rattle.std.proofs.Common.{List, [], ◌∷◌, ◌++◌, length, sym, ap, subst, append_assoc, arith}
use Rattle.std.proofs.lemmas.List.{append-nil, length-append}
use Rattle.sixel_model.specs.Profiles.{count_of}
use Rattle.sixel_scan.specs.declared.answer.Scanned.{Scanned}
use Rattle.sixel_scan.specs.declared.opening.Opening.{Opening}
use Rattle.sixel_scan.specs.declared.scanner.Scanner.{Scanner}
use Rattle.sixel_scan.specs.declared.scanner.Stage.{Stage}
use Rattle.sixel_scan.specs.declared.scanner.Stage.TheVariants.{Text}
use Rattle.sixel_scan.specs.declared.string_check.StringCheck.{StringCheck}
use Rattle.sixel_scan.specs.Answers.{IsReported}
use Rattle.sixel_scan.specs.Checking.{HasRead}
use Rattle.sixel_scan.specs.Prefixes.{Resumes}
use Rattle.sixel_scan.specs.Standing.{Holds, ReadsNextWith, Reports, ReportsAll, Stands, StandsWith}
use Rattle.sixel_scan.specs.Strings.{AreStringsFrom, IsString, StringAt}
use Rattle.sixel_scan.proofs.AdvanceLemmas.{held_in}
use Rattle.sixel_scan.proofs.ScanLemmas.{reads_next, text_held}
use Rattle.sixel_scan.proofs.StringLemmas.{begin_with, none_in_nothing, resumes_to_end}

-- ---- reports

pub reports_none : (s : Scanner) (told : List StringAt) (bytes : List ℕ) → Stands s told bytes → Reports s told bytes []
reports_none s told bytes stands = record {
  found = [];
  reported = tt;
  stands = subst (λ (t : List StringAt). Stands s t bytes) (sym (append-nil told)) stands;
}

pub reports_one : (s : Scanner) (told : List StringAt) (bytes string : List ℕ) {registers : ℕ} (opened place : ℕ)
    {scanned : Scanned} → count_of s.profile ≡ registers → opened ≡ place
    → IsReported registers (record { place = opened; bytes = string }) scanned
    → Stands s (told ++ record { place = place; bytes = string } ∷ []) bytes → Reports s told bytes (scanned ∷ [])
reports_one s told bytes string {registers} opened place {scanned} same at reported stands = record {
  found = record { place = place; bytes = string } ∷ [];
  reported = (
    subst (λ (n : ℕ). IsReported n (record { place = place; bytes = string }) scanned) (sym same)
        (subst (λ (n : ℕ). IsReported registers (record { place = n; bytes = string }) scanned) at reported),
    tt,
  );
  stands = stands;
}

-- ---- what a call asks

-- a string that lies within a stream of at most `u64::MAX` bytes
pub room_for : (opened read : ℕ) (bytes before string : List ℕ) → opened ≡ length before → bytes ≡ before ++ string
    → read + 1 ≡ length bytes → read < 2 ^ 64 - 1 → opened + length string < 2 ^ 64
room_for opened read bytes before string at are is room =
    omega (arith, at, ap length are, length-append before string, is, room)

pub two_read : (registers : ℕ) (check : StringCheck) (string : List ℕ) (byte : ℕ)
    → HasRead registers check ((string ++ 27 ∷ []) ++ byte ∷ []) → HasRead registers check (string ++ 27 ∷ byte ∷ [])
two_read registers check string byte read =
    subst (HasRead registers check) (append_assoc string (27 ∷ []) (byte ∷ [])) read

-- the stage is known
pub next_at : {eight : Bool} {registers read opened : ℕ} {check : StringCheck} {stage now : Stage} {byte : ℕ}
    {told : List StringAt} {bytes : List ℕ} → stage ≡ now
    → StandsWith eight registers read opened check stage told bytes
    → ReadsNextWith eight registers read opened check now byte told (bytes ++ byte ∷ [])
next_at {eight} {registers} {read} {opened} {check} {byte} {told} {bytes} is at =
    subst (λ (t : Stage). ReadsNextWith eight registers read opened check t byte told (bytes ++ byte ∷ [])) is
    (reads_next byte at)

-- ---- the end of the stream

-- no string is open
pub all_told : (s : Scanner) (told : List StringAt) (bytes : List ℕ) (opening : Opening) → s.stage ≡ Text opening
    → Stands s told bytes → ReportsAll s told bytes []
all_told s told bytes opening is at =
    let holds = subst (λ (t : Stage). Holds s.eight (count_of s.profile) s.opened s.check t (length at.before) at.held)
    is at.holds in
    let none = held_in s.eight opening at.held
    (text_held s.eight (count_of s.profile) s.opened s.check opening (length at.before) at.held holds) in
    record {
      found = [];
      reported = tt;
      strings = resumes_to_end s.eight told [] bytes (length at.before) at.held at.resumes none;
    }

-- a string is open, and ends with the stream
pub last_told : (s : Scanner) (told : List StringAt) (bytes before : List ℕ) {held : List ℕ} {scanned : Scanned}
    → Resumes s.eight told bytes (length before) held → s.opened ≡ length before
    → IsReported (count_of s.profile) (record { place = s.opened; bytes = held }) scanned → IsString s.eight held []
    → ReportsAll s told bytes (scanned ∷ [])
last_told s told bytes before {held} {scanned} resumes at reported string = record {
  found = record { place = length before; bytes = held } ∷ [];
  reported = (
    subst (λ (n : ℕ). IsReported (count_of s.profile) (record { place = n; bytes = held }) scanned) at reported,
    tt,
  );
  strings = resumes_to_end s.eight told (record { place = length before; bytes = held } ∷ []) bytes (length before)
      held resumes
      (subst (AreStringsFrom s.eight (length before) (record { place = length before; bytes = held } ∷ []))
      (append-nil held) (begin_with (length before) [] string (none_in_nothing s.eight)));
}

-- the bytes and what is held, at a known stage
pub stands_at : (s : Scanner) (told : List StringAt) (bytes : List ℕ) (stage : Stage) → s.stage ≡ stage
    → Stands s told bytes → StandsWith s.eight (count_of s.profile) s.read s.opened s.check stage told bytes
stands_at s told bytes stage is at =
    subst (λ (t : Stage). StandsWith s.eight (count_of s.profile) s.read s.opened s.check t told bytes) is at

pub room_at_end : (opened read : ℕ) (bytes before held : List ℕ) → opened ≡ length before → bytes ≡ before ++ held
    → read ≡ length bytes → read < 2 ^ 64 → opened + length held < 2 ^ 64
room_at_end opened read bytes before held at are is room =
    omega (arith, at, ap length are, length-append before held, is, room)
