use Rattle.std.proofs.Common.{◌≡◌, ◌<◌, ◌+◌, ◌||◌, ℕ, Bool, true, false, Option, None, Some, List}
use Rattle.std.proofs.Common.{◌∙◌, arith, ap₂, length, refl, subst, sym}
use Rattle.std.specs.Prelude.{unwrap_or}
use Rattle.std.specs.Option.{option_or}
use Rattle.sixel_grammar.specs.declared.command.Placed.{Placed}
use Rattle.sixel_grammar.specs.Document.{events_of}
use Rattle.sixel_model.specs.Events.{is_painting}
use Rattle.sixel_survey.specs.Stretches.{sixel_at, with_sixels}
use Rattle.sixel_judge.specs.Counting.{IsHit}
use Rattle.sixel_survey.specs.Tallies.{IsTallyOf, tally_with}
use Rattle.sixel_judge.proofs.HitLemmas.{hit_if}
use Rattle.sixel_survey.proofs.StretchLemmas.{over_all, tally_more, tally_start}
use Rattle.sixel_survey.proofs.TallyLemmas.{with_one_more}
use Rattle.sixel_survey.proofs.stretch.counted_stretch.Goals as goal
use Rattle.sixel_survey.proofs.stretch.counted_stretch.Goals.{then-counts_at, else-counts_at}

or_some : (o : Option ℕ) (n : ℕ) → option_or o (Some n) ≡ Some (unwrap_or o n)
or_some None n = refl
or_some (Some m) n = refl

some_not_none : (n : ℕ) (o : Option ℕ) → o ≡ Some n → o ≡ None → ⊥
some_not_none n o some none = cc

pub loop-index-init : goal.loop-index-init
loop-index-init c = record {
  few = omega arith;
  none = λ is. refl;
  tally = λ registers seen each is.
      tally_start registers c.args.rule seen c.args.place c.args.stretch.now c.args.tally is;
}

pub loop-index-preserved : goal.loop-index-preserved
loop-index-preserved c =
    let stretch = c.args.stretch.now in
    let rule = c.args.rule in
    let k = c.loop-index.index in
    let i = c.loop-index.invariant in
    let lt : k < length stretch = omega (arith, c.loop-index-test.true) in
    let all = λ (first : Option ℕ) (more : ℕ). tally_with rule first more c.args.tally in
    let hit = λ (registers : ℕ) (seen : List Placed) (b : Bool).
    IsHit registers rule (events_of (with_sixels seen c.args.place stretch k)) (sixel_at stretch k) (hit_if b) in
    elim c.if-counts_at.branch [
      | then-counts_at w ↦
          let yes : (c.args.blank_too || is_painting (sixel_at stretch k)) ≡ true =
          sym c.counts_at.ensures ∙ w.if-counts_at.true in
          let first = w.first-is ∙ w.or-first.ensures ∙ or_some c.loop-index.first (c.args.place + k) in
          let next = ap₂ all first w.more-is
          ∙ with_one_more rule (c.args.place + k) c.loop-index.more c.loop-index.first c.args.tally i.none in
          record {
            few = omega (arith, w.more-is, i.few);
            none = λ is. absurd (some_not_none _ _ first is);
            tally = λ registers seen each is.
                subst (IsTallyOf registers (with_sixels seen c.args.place stretch (k + 1)) rule) (sym next)
                (tally_more registers rule seen c.args.place stretch k (hit_if true)
                (all c.loop-index.first c.loop-index.more) lt (subst (hit registers seen) yes (each k lt))
                (i.tally registers seen each is));
          }
      | else-counts_at w ↦
          let no : (c.args.blank_too || is_painting (sixel_at stretch k)) ≡ false =
          sym c.counts_at.ensures ∙ w.if-counts_at.false in
          let same = ap₂ all w.first-is w.more-is in
          record {
            few = omega (arith, w.more-is, i.few);
            none = λ is. w.more-is ∙ i.none (sym w.first-is ∙ is);
            tally = λ registers seen each is.
                subst (IsTallyOf registers (with_sixels seen c.args.place stretch (k + 1)) rule) (sym same)
                (tally_more registers rule seen c.args.place stretch k (hit_if false)
                (all c.loop-index.first c.loop-index.more) lt (subst (hit registers seen) no (each k lt))
                (i.tally registers seen each is));
          }
    ]

pub returns : goal.returns
returns c = λ registers seen each is.
    rw c.counted_more.ensures
    (over_all
    (λ l. IsTallyOf registers l c.args.rule (tally_with c.args.rule c.loop-index.first c.loop-index.more c.args.tally))
    seen c.args.place c.args.stretch.now c.loop-index.index (omega arith)
    (c.loop-index.invariant.tally registers seen each is))
