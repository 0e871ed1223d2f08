use Rattle.std.proofs.Common.{◌≡◌, ◌∙◌, ◌-◌, ◌+◌, ◌<◌, true, false, ℕ, arith, length, subst, sym}
use Rattle.std.specs.Prelude.{slice_index}
use Rattle.sixel_grammar.specs.Bytes.{is_filler}
use Rattle.sixel_emulator_check.proofs.TrailerLemmas.{is_rest, rest_not}
use Rattle.sixel_emulator_check.proofs.trailer.filler_from.Goals as goal

pub returns-then-not-is_filler : goal.returns-then-not-is_filler
returns-then-not-is_filler c =
    let bytes = c.args.bytes.now in
    let at : ℕ = length bytes - 1 - c.loop-back.back in
    let low = c.loop-back-test.true in
    let lt : at < length bytes = omega (arith, low) in
    let next : length bytes - c.loop-back.back ≡ at + 1 = omega (arith, low) in
    let other : is_filler (slice_index bytes at) ≡ false = sym c.is_filler.ensures ∙ c.if-not-is_filler.true in
    record {
      within = omega (arith, lt);
      filler = subst (λ (k : ℕ). is_rest bytes k ≡ true) next c.loop-back.invariant;
      least = λ i less. rest_not bytes at i lt other (omega (arith, less));
    }
