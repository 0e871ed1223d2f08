-- What a check of a string has read. It is part of where a scan stands (Standing).
use Rattle.std.specs.Prelude.{◌≡◌, ◌++◌, ◌⊎◌, ℕ, List, Some}
use Rattle.sixel_grammar.specs.Faults.{IsFaultOf}
use Rattle.sixel_grammar.specs.Following.{AreFollowed}
use Rattle.sixel_grammar.specs.Standing.{fault_of}
use Rattle.sixel_grammar.specs.declared.fault.Fault.{Fault}
use Rattle.sixel_grammar.specs.declared.reader.Reader.{Reader}
use Rattle.sixel_judge.specs.Standing.{CheckerValue, StandsAfter}
use Rattle.sixel_scan.specs.declared.string_check.StringCheck.{StringCheck}

-- the reader has read these bytes, and the checker has seen the events that are complete in them
abbrev pub AreAfter : ℕ → Reader → CheckerValue → List ℕ → Type 0
AreAfter registers reader checker bytes = AreFollowed (StandsAfter registers) reader checker bytes

-- the reader has the fault of these bytes, which is that of any longer ones
pub record HasRefused (reader : Reader) (bytes : List ℕ) : Type 0 where
  pub fault : Fault
  pub kept : fault_of reader ≡ Some fault
  pub always : (rest : List ℕ) → IsFaultOf (bytes ++ rest) fault

-- the check has read these bytes
abbrev pub HasRead : ℕ → StringCheck → List ℕ → Type 0
HasRead registers check bytes = AreAfter registers check.reader check.checker bytes ⊎ HasRefused check.reader bytes
