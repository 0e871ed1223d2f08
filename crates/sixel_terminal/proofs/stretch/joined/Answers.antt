use Rattle.std.proofs.Common.{◌-◌, arith}
use Rattle.std.specs.Prelude.{slice_index}
use Rattle.std.proofs.lemmas.Nat.Bits.{bit_at_or}
use Rattle.sixel_terminal.proofs.SixelLemmas.{joined_more}
use Rattle.sixel_terminal.proofs.stretch.joined.Goals as goal

pub loop-byte-preserved : goal.loop-byte-preserved
loop-byte-preserved c =
    let bits = c.loop-byte.bits in
    let own = slice_index c.args.bytes.now c.loop-byte.byte-index - 63 in
    joined_more bits _ c.loop-byte.byte-index c.args.bytes.now c.loop-byte-test.true c.loop-byte.invariant
    (λ bit. omega (arith, bit_at_or bits own bit, bit_at_or own bits bit))
