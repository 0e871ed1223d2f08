use Rattle.std.proofs.Common.{◌≡◌, ◌<◌, ◌+◌, ◌-◌, ◌++◌, ◌∙◌, ℕ, List, None, Some, ap, arith, get_or, length, refl}
use Rattle.std.proofs.Common.{replicate, subst, sym}
use Rattle.std.specs.Prelude.{slice_get}
use Rattle.std.proofs.lemmas.List.{get_or_read}
use Rattle.std.proofs.lemmas.Option.{slice_get_read}
use Rattle.sixel_ppm.specs.PpmSamples.{HoldsPixels}
use Rattle.sixel_mend.proofs.RunLemmas.{all_of_both, colours_to, last_has, repeated}
use Rattle.sixel_mend.proofs.numbering.registers_of.Goals as goal

-- a run of the pixel before this one
pub loop-at-preserved-then-are_same : goal.loop-at-preserved-then-are_same
loop-at-preserved-then-are_same c =
    let i = c.loop-at.at in
    let end = c.end_of_run-at.result in
    let pixels = c.args.pixels.now in
    let first = c.index-pixels-at.result in
    let pixel = c.index-pixels-at-then-are_same.result in
    let register = c.index-register.result.now in
    let rs = c.loop-at.registers.items in
    let inv = c.loop-at.invariant in
    let some : 0 < i = c.if-at-gt0.true in
    let before : i - 1 < length pixels = omega (arith, inv.3, some) in
    let there : slice_get pixels (i - 1) ≡ Some pixel =
    slice_get_read pixels (length pixels) (i - 1) pixel refl before c.index-pixels-at-then-are_same.is in
    let here : slice_get pixels (i - 1) ≡ Some first =
    slice_get_read pixels (length pixels) (i - 1) first refl before c.index-pixels-at.is in
    let long : length rs ≡ i = omega (arith, inv.2) in
    let kept : i - 1 < length rs = omega (arith, long, some) in
    let read : register ≡ get_or rs (i - 1) 0 = get_or_read rs (i - 1) register kept c.index-register.ensures 0 in
    let within = c.end_of_run-at.ensures.within in
    let all =
    repeated (end - i) end (omega (arith, within.0))
    (all_of_both pixels i (i + 8) end first pixel (i - 1) here there
    (c.if-are_same.ensures refl) c.end_of_run-at.ensures.same)
    (record {
      holds = inv.0.holds;
      has = last_has pixels i (i - 1) pixel register (omega (arith, some)) inv.3 inv.0.holds there read;
      knows = inv.0.knows;
    }) in
    let items : c.push_until.new.registers.items ≡ rs ++ replicate (end - i) register =
    c.push_until.ensures.items ∙ ap (λ (k : ℕ). rs ++ replicate (end - k) register) inv.2 in (
      record {
        holds = subst
            (λ (xs : List ℕ). HoldsPixels c.loop-at.numbering.colours None 0 xs (length pixels - end) (length pixels)
            (colours_to pixels end)) (sym items) all.holds;
        knows = all.knows;
      },
      inv.1,
      c.push_until.ensures.long,
      within.1,
      omega (arith, c.push_until.ensures.room, inv.4),
      omega arith,
      omega arith,
    )
