use Rattle.std.proofs.Common.{◌<◌, ◌+◌, ◌++◌, ◌∷◌, [], ◌∙◌, List, None, Option, Some, ap, arith, length, refl, sym}
use Rattle.std.proofs.Common.{take}
use Rattle.std.proofs.lemmas.List.{append-nil, length-take}
use Rattle.sixel_survey.proofs.SurveyorLemmas.{few_kept, kept_more}
use Rattle.sixel_emulator_rules.specs.declared.tally.AskedEntry.{AskedEntry}
use Rattle.sixel_emulator_rules.proofs.tally.entries_of.Goals as goal
use Rattle.sixel_emulator_rules.proofs.tally.entries_of.Goals.{in-None, in-Some}

pub push-requires : goal.push-requires
push-requires c =
    let few = few_kept (λ tally. tally) (take c.loop-index.index c.args.tallies.now) in
    let short = length-take c.loop-index.index c.args.tallies.now in
    (omega arith, omega (arith, few, short, ap length c.loop-index.invariant, c.loop-index-test.true))

pub loop-index-preserved : goal.loop-index-preserved
loop-index-preserved c =
    let tallies : List (Option AskedEntry) = c.args.tallies.now in
    let i = c.loop-index.index in
    let lt : c.loop-index.index < length c.args.tallies.now = omega (arith, c.loop-index-test.true, c.told-tallies) in
    elim c.match-tallies-index.branch [
      | in-Some w ↦
          rw w.entries-is (w.push.ensures.items
          ∙ ap (λ (l : List AskedEntry). l ++ w.in-Some.entry ∷ []) c.loop-index.invariant
          ∙ sym (kept_more (λ tally. tally) tallies i (i + 1) _ (Some w.in-Some.entry) lt refl (sym w.in-Some.is)))
      | in-None w ↦
          rw w.entries-is (c.loop-index.invariant
          ∙ sym (append-nil _)
          ∙ sym (kept_more (λ tally. tally) tallies i (i + 1) _ None lt refl (sym w.in-None.is)))
    ]
