use Rattle.std.proofs.Common.{◌∙◌, ap, refl}
use Rattle.sixel_grammar.specs.declared.command.Event.TheVariants.{Step}
use Rattle.sixel_model.proofs.PictureLemmas.{at_most_256}
use Rattle.sixel_survey.proofs.TallyingLemmas.{tallied_event, tallied_none}
use Rattle.sixel_survey.proofs.tallying.tally.Goals as goal

pub returns-in-Sixel : goal.returns-in-Sixel
returns-in-Sixel g c = λ seen n k are.
    tallied_event _ _ (at_most_256 c.args.profile) n (c.in-Step.is ∙ ap Step c.in-Sixel.is)
    (c.tally_columns.ensures seen n k (tallied_none _ are))

pub returns-in-Repeat : goal.returns-in-Repeat
returns-in-Repeat g c = λ seen n k are.
    tallied_event _ _ (at_most_256 c.args.profile) n (c.in-Step.is ∙ ap Step c.in-Repeat.is)
    (c.tally_columns-in-Repeat.ensures seen n k (tallied_none _ are))

pub returns-in-CarriageReturn : goal.returns-in-CarriageReturn
returns-in-CarriageReturn g c = λ seen n k are.
    tallied_event _ _ (at_most_256 c.args.profile) n (c.in-Step.is ∙ ap Step c.in-CarriageReturn.is)
    (c.tally_rule.ensures seen _ n k refl (tallied_none _ are))

pub returns-in-NextLine : goal.returns-in-NextLine
returns-in-NextLine g c = λ seen n k are.
    tallied_event _ _ (at_most_256 c.args.profile) n (c.in-Step.is ∙ ap Step c.in-NextLine.is)
    (c.tally_rule-in-NextLine.ensures seen _ n k refl (tallied_none _ are))

pub returns-in-Select : goal.returns-in-Select
returns-in-Select g c = λ seen n k are.
    tallied_event _ _ (at_most_256 c.args.profile) n (c.in-Step.is ∙ ap Step c.in-Select.is)
    (c.tally_rule-in-Select.ensures seen _ n k refl (tallied_none _ are))

pub returns-in-Define : goal.returns-in-Define
returns-in-Define g c = λ seen n k are.
    tallied_event _ _ (at_most_256 c.args.profile) n (c.in-Step.is ∙ ap Step c.in-Define.is)
    (c.tally_rule-in-Define-3.ensures seen _ n k refl
    (c.tally_rule-in-Define-2.ensures seen _ n k refl
    (c.tally_rule-in-Define.ensures seen _ n k refl (tallied_none _ are))))

pub returns-in-Raster : goal.returns-in-Raster
returns-in-Raster g c = λ seen n k are.
    tallied_event _ _ (at_most_256 c.args.profile) n (c.in-Step.is ∙ ap Step c.in-Raster.is)
    (c.tally_rule-in-Raster-3.ensures seen _ n k refl
    (c.tally_rule-in-Raster-2.ensures seen _ n k refl
    (c.tally_rule-in-Raster.ensures seen _ n k refl (tallied_none _ are))))

pub returns-in-Start : goal.returns-in-Start
returns-in-Start g c = λ seen n k are.
    tallied_event _ _ (at_most_256 c.args.profile) n c.in-Start.is
    (c.tally_rule-in-Start.ensures seen _ n k refl (tallied_none _ are))

pub returns-in-Finish : goal.returns-in-Finish
returns-in-Finish g c = λ seen n k are.
    tallied_event _ _ (at_most_256 c.args.profile) n c.in-Finish.is
    (c.tally_rule-in-Finish-3.ensures seen _ n k refl
    (c.tally_rule-in-Finish-2.ensures seen _ n k refl
    (c.tally_rule-in-Finish.ensures seen _ n k refl (tallied_none _ are))))
