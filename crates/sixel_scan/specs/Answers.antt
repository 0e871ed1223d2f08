-- What a scan reports of a string.
use Rattle.std.specs.Prelude.{◌≡◌, ℕ, ◌+◌, ◌≤◌, Result, Ok, Err, List, length}
use Rattle.sixel_grammar.specs.declared.fault.Fault.{Fault}
use Rattle.sixel_grammar.specs.declared.fault.InputFault.{InputFault}
use Rattle.sixel_grammar.specs.declared.fault.InputFault.TheVariants.{Grammar}
use Rattle.sixel_check.specs.Answers as checking
use Rattle.sixel_judge.specs.Verdicts.{outcome_of}
use Rattle.sixel_judge.specs.declared.verdict.Outcome.{Outcome}
use Rattle.sixel_judge.specs.declared.verdict.Verdict.{Verdict}
use Rattle.sixel_judge.specs.declared.verdict.Verdict.TheVariants.{Portable, Broken}
use Rattle.sixel_scan.specs.declared.answer.Answer.{Answer}
use Rattle.sixel_scan.specs.declared.answer.Answer.TheVariants.{Portable as SaysPortable, Broken as SaysBroken, Refused}
use Rattle.sixel_scan.specs.declared.answer.Scanned.{Scanned}
use Rattle.sixel_scan.specs.Strings.{StringAt}

-- a verdict or a fault of the grammar, as the result of a check
abbrev pub as_checked : Result Verdict Fault → Result Verdict InputFault
as_checked (Ok verdict) = Ok verdict
as_checked (Err fault) = Err (Grammar fault)

-- the answer says what a check of a string's bytes says, with each offset counted from the start of the stream, where
-- the string has this offset
abbrev pub Tells : ℕ → Result Verdict Fault → Answer → Type 0
Tells place (Ok (Portable picture)) answer = answer ≡ SaysPortable picture.width picture.height
Tells place (Ok (Broken finding)) answer = answer ≡ SaysBroken (record finding { place = place + finding.place })
Tells place (Err fault) answer = answer ≡ Refused (record fault { place = place + fault.place })

-- the string is reported: its offset, and what a check of its bytes by themselves answers, with this many registers
pub record IsReported (registers : ℕ) (s : StringAt) (scanned : Scanned) : Type 0 where
  pub place : scanned.place ≡ s.place
  pub checked : Result Verdict Fault
  pub answers : checking.Answers registers (as_checked checked) s.bytes
  pub tells : Tells s.place checked scanned.answer

-- the offset that the result of a check names, if it names one, is at most n
abbrev pub IsPlacedWithin : ℕ → Result Verdict Fault → Type 0
IsPlacedWithin n (Ok (Portable picture)) = Unit {0}
IsPlacedWithin n (Ok (Broken finding)) = finding.place ≤ n
IsPlacedWithin n (Err fault) = fault.place ≤ n

-- the same result without the picture
abbrev pub briefly : Result Verdict Fault → Result Outcome Fault
briefly (Ok verdict) = Ok (outcome_of verdict)
briefly (Err fault) = Err fault

-- what a check of these bytes by themselves answers, without the picture
pub record IsBrief (registers : ℕ) (bytes : List ℕ) (result : Result Outcome Fault) : Type 0 where
  pub checked : Result Verdict Fault
  pub answers : checking.Answers registers (as_checked checked) bytes
  pub within : IsPlacedWithin (length bytes) checked
  pub result_is : result ≡ briefly checked
