use Rattle.std.proofs.Common.{◌≡◌, ◌/◌, inl, inr, arith, length}
use Rattle.std.proofs.lemmas.Bool.{cases_lt}
use Rattle.sixel_encode.proofs.GapItemLemmas.{ends_on}
use Rattle.sixel_encode.proofs.MaskLemmas.{none_past}
use Rattle.sixel_encode.proofs.gaps.Gaps.list.Goals as goal

pub returns : goal.returns
returns c =
    let done : c.loop-group.group ≡ c.min-count.result = omega (
      arith,
      c.loop-group-test.false,
      c.loop-group.invariant.within,
    ) in
    ends_on (length c.args.sixels.now) c.args.groups (omega (arith, done, c.min-count.ensures)) c.requires.ink
    (λ x low high within. elim (cases_lt (x / 32) 64) [
      | inl less ↦ absurd (omega (arith, done, c.min-count.ensures, c.requires.whole, low, high, less))
      | inr past ↦ none_past c.args.groups (x / 32) c.ranges.groups.fits (omega (arith, past))
    ]) c.loop-group.invariant.ends
