use Rattle.std.proofs.Common.{◌≡◌, ◌≤◌, ℕ, arith, inl, inr, sym, subst, slice_index_or}
use Rattle.std.proofs.Math.Nat.{eq-or-lt_of_le}
use Rattle.sixel_emulator.proofs.PlainLemmas.{none_painting, some_painting}
use Rattle.sixel_emulator.proofs.words.has_painting.Goals as goal

pub loop-byte-init : goal.loop-byte-init
loop-byte-init c = λ k lt. absurd (omega arith)

pub returns-then-byte-ne63 : goal.returns-then-byte-ne63
returns-then-byte-ne63 c =
    some_painting c.args.bytes.now c.loop-byte.byte-index c.loop-byte-test.true
    (c.requires c.loop-byte.byte-index c.loop-byte-test.true) c.if-byte-ne63.true

pub loop-byte-preserved : goal.loop-byte-preserved
loop-byte-preserved c = λ k lt.
    let le : k ≤ c.loop-byte.byte-index = omega (arith, lt) in
    elim (eq-or-lt_of_le le) [
      | inl same ↦ subst (λ (n : ℕ). slice_index_or c.args.bytes.now n 0 ≡ 63) (sym same) c.if-byte-ne63.false
      | inr less ↦ c.loop-byte.invariant k less
    ]

pub returns : goal.returns
returns c = none_painting c.args.bytes.now (λ k lt. c.loop-byte.invariant k (omega (arith, lt, c.loop-byte-test.false)))
