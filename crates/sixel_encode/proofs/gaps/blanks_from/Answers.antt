use Rattle.std.proofs.Common.{◌≤◌, inl, inr, arith}
use Rattle.std.proofs.lemmas.Nat.{or_lt}
use Rattle.sixel_encode.proofs.GapBitLemmas.{blanks_first, blanks_later}
use Rattle.sixel_encode.proofs.gaps.blanks_from.Goals as goal

pub returns-then-at-eq0-clause-blank : goal.returns-then-at-eq0-clause-blank
returns-then-at-eq0-clause-blank c =
    blanks_first c.args.at c.blank_columns.result c.args.sixels.now (omega (arith, c.if-at-eq0.true))
    c.blank_columns.ensures.few c.blank_columns.ensures.blank

pub returns-else-at-eq0-clause-few : goal.returns-else-at-eq0-clause-few
returns-else-at-eq0-clause-few c =
    or_lt 36 _ c.blank_columns-else-at-eq0.result (omega (arith, c.blank_columns.ensures.few))
    (omega (arith, c.blank_columns-else-at-eq0.ensures.few))

pub returns-else-at-eq0-clause-blank : goal.returns-else-at-eq0-clause-blank
returns-else-at-eq0-clause-blank c =
    let far : 4 ≤ c.args.at = elim c.requires.start [
      | inl first ↦ absurd (omega (arith, first, c.if-at-eq0.false))
      | inr later ↦ later
    ] in
    blanks_later c.args.at c.blank_columns.result c.blank_columns-else-at-eq0.result c.args.sixels.now far
    c.blank_columns.ensures.few c.blank_columns-else-at-eq0.ensures.few c.blank_columns.ensures.blank
    c.blank_columns-else-at-eq0.ensures.blank
