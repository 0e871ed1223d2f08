use Rattle.std.proofs.Common.{◌≡◌, ◌<◌, ℕ, zero, suc, ◌∙◌, arith}
use Rattle.std.specs.Int.{bit_at}
use Rattle.std.proofs.lemmas.Nat.Bits.{bit_at-suc, bit_at-zero}
use Rattle.plane_bench.proofs.paint_last_band.Goals as goal

-- the set bits of 3 are the lowest two
lowest : (k : ℕ) → bit_at 3 k ≡ 1 → k < 2
lowest zero set = omega arith
lowest (suc zero) set = omega arith
lowest (suc (suc k)) set =
    let clear : bit_at 3 (suc (suc k)) ≡ 0 = bit_at-suc 3 (suc k) ∙ bit_at-suc 1 k ∙ bit_at-zero k in absurd
    (omega arith)

pub paint_run-requires-clause-rows : goal.paint_run-requires-clause-rows
paint_run-requires-clause-rows g c = λ k small set. let low = lowest k set in omega arith
