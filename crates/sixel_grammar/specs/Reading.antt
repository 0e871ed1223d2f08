-- What a fault of an input means.
use Rattle.std.specs.Prelude.{ℕ, ◌≤◌, ◌++◌, List, length, Option, Some, Result, Ok, Err}
use Rattle.std.specs.Io.KnownBytes.{Consumes}
use Rattle.sixel_grammar.specs.declared.fault.InputFault.{InputFault}
use Rattle.sixel_grammar.specs.declared.fault.InputFault.TheVariants.{Grammar, OutOfMemory, Read}
use Rattle.sixel_io.specs.Devices.{one_more}
use Rattle.sixel_grammar.specs.Document.{most_bytes}
use Rattle.sixel_grammar.specs.Faults.{IsFaultOf}
use Rattle.sixel_grammar.specs.Prefixes.{IsViable}

-- `Grammar` has the fault of the bytes; the others say nothing about them
abbrev pub Explains : InputFault → List ℕ → Type 0
Explains (Grammar fault) bytes = IsFaultOf bytes fault
Explains OutOfMemory bytes = Unit {0}
Explains Read bytes = Unit {0}

-- the source's count of failures after the call: one more after `Read`, otherwise the same
abbrev pub failures_after : {A : Type 0} → Result A InputFault → ℕ → ℕ
failures_after (Err Read) n = one_more n
failures_after (Err OutOfMemory) n = n
failures_after (Err (Grammar fault)) n = n
failures_after (Ok x) n = n

-- `Grammar` has the fault of the bytes, which stays the fault of any longer ones.
-- `Read` is impossible here: no source is read
abbrev pub ExplainsAlways : InputFault → List ℕ → Type 0
ExplainsAlways (Grammar fault) bytes = (rest : List ℕ) → IsFaultOf (bytes ++ rest) fault
ExplainsAlways OutOfMemory bytes = Unit {0}
ExplainsAlways Read bytes = ⊥

-- the source gave `bytes` up to what is `left`; what it gave is viable and within the limit
abbrev pub NoFaultBefore : Option (List ℕ) → List ℕ → Type 0
NoFaultBefore left bytes =
    (given : List ℕ) × Consumes (Some bytes) left given × (length given ≤ most_bytes) × IsViable given
