use Rattle.std.proofs.Common.{◌<◌, ◌+◌, ◌++◌, ◌∷◌, [], ◌∙◌, List, None, Some, ap, arith, length, refl, sym, take}
use Rattle.std.proofs.lemmas.List.{append-nil, length-take}
use Rattle.sixel_model.specs.declared.rule.Rule.TheVariants.{EightBit}
use Rattle.sixel_model.specs.Rules.{all_rules}
use Rattle.sixel_survey.specs.declared.entry.Entry.{Entry}
use Rattle.sixel_survey.specs.Tallies.{entry_in}
use Rattle.sixel_survey.proofs.SurveyorLemmas.{few_kept, kept_more}
use Rattle.sixel_survey.proofs.surveyor.entries_of.Goals as goal
use Rattle.sixel_survey.proofs.surveyor.entries_of.Goals.{in-None, in-Some}

pub push-requires : goal.push-requires
push-requires c =
    let few = few_kept (entry_in c.args.tallies.now c.args.blank) (take c.loop-index.index all_rules) in
    let short = length-take c.loop-index.index all_rules in
    (omega arith, omega (arith, few, short, ap length c.loop-index.invariant, c.loop-index-test.true))

pub loop-index-preserved : goal.loop-index-preserved
loop-index-preserved c =
    let f = entry_in c.args.tallies.now c.args.blank in
    let i = c.loop-index.index in
    let lt : c.loop-index.index < 13 = omega (arith, c.loop-index-test.true) in
    elim c.match-entry_at.branch [
      | in-Some w ↦
          rw w.entries-is (w.push.ensures.items
          ∙ ap (λ (l : List Entry). l ++ w.in-Some.entry ∷ []) c.loop-index.invariant
          ∙ sym (kept_more f all_rules i (i + 1) EightBit (Some w.in-Some.entry) lt refl w.in-Some.ensures))
      | in-None w ↦
          rw w.entries-is (c.loop-index.invariant
          ∙ sym (append-nil _)
          ∙ sym (kept_more f all_rules i (i + 1) EightBit None lt refl w.in-None.ensures))
    ]
