use Rattle.std.proofs.Common.{◌≡◌, ◌≤◌, ◌-◌, ◌++◌, replicate, vec_capacity, vec_len}
use Rattle.sixel_mend.proofs.numbering.push_until.Given as goal

abbrev pub invariant-loop-registers : goal.invariant-loop-registers
invariant-loop-registers l =
    (l.registers.items ≡ l.initial.registers.items ++ replicate (vec_len l.registers - vec_len l.initial.registers) l.register)
    × (vec_len l.initial.registers ≤ vec_len l.registers)
    × (vec_len l.registers ≤ l.end)
    × (vec_capacity l.initial.registers ≤ vec_capacity l.registers)

abbrev pub decreases-loop-registers : goal.decreases-loop-registers
decreases-loop-registers l = l.end - vec_len l.registers
