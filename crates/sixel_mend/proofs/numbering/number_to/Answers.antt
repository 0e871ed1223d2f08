use Rattle.std.proofs.Common.{◌≡◌, ◌<◌, ◌+◌, ◌-◌, ◌∙◌, ℕ, List, None, Some, ap, arith, drop, length, map, subst, sym}
use Rattle.std.specs.Prelude.{slice_get}
use Rattle.std.proofs.Common.{refl}
use Rattle.std.proofs.lemmas.Option.{slice_get_read}
use Rattle.sixel_model.specs.declared.colour.Parts.{Parts}
use Rattle.sixel_ppm.specs.PpmReading.{distinct}
use Rattle.sixel_ppm.specs.PpmSamples.{HoldsPixels}
use Rattle.sixel_ppm.proofs.PpmSampleLemmas.{distinct_grows}
use Rattle.sixel_terminal.specs.Screens.{colour_in_ink}
use Rattle.sixel_mend.specs.Numbering.{KnowsLast}
use Rattle.sixel_mend.proofs.RunLemmas.{colours_to, distinct_more, pushed, then_the_rest}
use Rattle.sixel_mend.proofs.numbering.number_to.Goals as goal

pub loop-at-preserved : goal.loop-at-preserved
loop-at-preserved c =
    let i = c.loop-at.at in
    let pixels = c.args.pixels.now in
    let pixel = c.index-pixels-at.result in
    let inv = c.loop-at.invariant in
    let lt : i < length pixels = omega (arith, c.loop-at-test.true, c.requires.within.1) in
    let there : slice_get pixels i ≡ Some pixel =
    slice_get_read pixels (length pixels) i pixel refl lt c.index-pixels-at.is in
    let seen = distinct (colours_to pixels i) in
    let n = c.in-Some.ensures.numbers seen inv.0.holds.fills inv.0.knows in
    let holds =
    pushed pixels i pixel
    c.in-Some.register there inv.0.holds n.0 n.1 in (
      record {
        holds = subst
            (λ (rs : List ℕ). HoldsPixels c.register_of.new.numbering.colours None 0 rs (length pixels - (i + 1))
            (length pixels) (colours_to pixels (i + 1))) (sym c.push_reserved.ensures.items) holds;
        knows = subst (λ (s : List Parts). KnowsLast c.register_of.new.last s)
            (sym (distinct_more pixels i pixel there))
            (c.in-Some.ensures.known seen inv.0.holds.fills inv.0.knows);
      },
      c.in-Some.ensures.profile ∙ inv.1,
      omega (arith, c.push_reserved.ensures.len, inv.2),
      omega (arith, c.loop-at-test.true),
      omega (arith, c.push_reserved.ensures.capacity, inv.4),
    )

pub returns-in-None-clause-refused : goal.returns-in-None-clause-refused
returns-in-None-clause-refused c =
    let i = c.loop-at.at in
    let pixels = c.args.pixels.now in
    let pixel = c.index-pixels-at.result in
    let inv = c.loop-at.invariant in
    let lt : i < length pixels = omega (arith, c.loop-at-test.true, c.requires.within.1) in
    let there : slice_get pixels i ≡ Some pixel =
    slice_get_read pixels (length pixels) i pixel refl lt c.index-pixels-at.is in
    let many = c.in-None.ensures.numbers (distinct (colours_to pixels i)) inv.0.holds.fills inv.0.knows in
    let grows = distinct_grows (colours_to pixels (i + 1)) (map colour_in_ink (drop (i + 1) pixels)) in
    let whole = ap (λ (cs : List Parts). length (distinct cs)) (then_the_rest pixels (i + 1)) in
    omega (
      arith,
      many,
      ap (λ (cs : List Parts). length cs) (distinct_more pixels i pixel there),
      grows,
      whole,
      c.in-None.ensures.profile,
      inv.1,
    )
