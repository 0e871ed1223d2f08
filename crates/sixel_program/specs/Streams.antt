-- The streams of the program, and the status with which it ends.
use Rattle.std.specs.Prelude.{ℕ, Bool, List, Option, if◌then◌else◌}
use Rattle.sixel_program.specs.declared.streams.Input.{Input}
use Rattle.sixel_program.specs.declared.streams.Input.TheVariants.{Standard, Named}

-- the bytes that an input has yet to give: those of the reader inside
abbrev pub input_remaining :
    {S F : Type 0} → (S → Option (List ℕ)) → (F → Option (List ℕ)) → Input S F → Option (List ℕ)
input_remaining standard named (Standard reader) = standard reader
input_remaining standard named (Named reader) = named reader

-- the exit status: 141 if nobody reads the output any more, as a shell tells it of a program that SIGPIPE ended
abbrev pub status_for : Bool → ℕ → ℕ
status_for is_closed code = if is_closed then 141 else code
