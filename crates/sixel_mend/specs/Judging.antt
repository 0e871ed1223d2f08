-- How a string is judged. Only contracts of private functions cite these.
use Rattle.std.specs.Prelude.{◌==◌, ◌||◌, ℕ, List, Result, Ok, Err, nat_lt, if◌then◌else◌}
use Rattle.sixel_grammar.specs.Faults.{IsFaultOf}
use Rattle.sixel_model.specs.Pictures.{most_side}
use Rattle.sixel_mend.specs.declared.mending.MendFault.{MendFault}
use Rattle.sixel_mend.specs.declared.mending.MendFault.TheVariants.{Grammar, Empty, TooLarge, OutOfMemory}

-- the fault of a size, if it has one
abbrev pub judged : ℕ → ℕ → Result (Unit {0}) MendFault
judged width height =
    if (width == 0) || (height == 0) then Err Empty
    else if nat_lt most_side width || nat_lt most_side height then Err TooLarge
    else Ok tt

-- Grammar: the fault of the bytes. The only other fault is OutOfMemory
abbrev pub IsReadingFault : List ℕ → MendFault → Type 0
IsReadingFault bytes (Grammar fault) = IsFaultOf bytes fault
IsReadingFault bytes OutOfMemory = Unit {0}
IsReadingFault bytes fault = ⊥
