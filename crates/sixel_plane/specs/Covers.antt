-- What is kept of a box that is painted.
use Rattle.std.specs.Prelude.{ℕ, Bool, if◌then◌else◌}

-- what is kept of a register that paints: the register, or 0
abbrev pub kept_by : Bool → ℕ → ℕ
kept_by keeps register = if keeps then register else 0
