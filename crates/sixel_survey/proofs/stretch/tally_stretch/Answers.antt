use Rattle.std.proofs.Common.{◌≡◌, false, not, refl, rules, true}
use Rattle.std.proofs.Math.Bool.{and_comm}
use Rattle.std.specs.Prelude.{is_none}
use Rattle.sixel_grammar.specs.Stretches.{sixels_from}
use Rattle.sixel_model.specs.Events.{is_painting}
use Rattle.sixel_model.specs.Profiles.{count_of}
use Rattle.sixel_model.specs.declared.rule.Rule.TheVariants.{RasterFirst, Undefined, Unselected}
use Rattle.sixel_model.proofs.PictureLemmas.{at_most_256}
use Rattle.sixel_judge.specs.Notes.{known_in}
use Rattle.sixel_survey.specs.Stretches.{sixel_at}
use Rattle.sixel_survey.proofs.StretchLemmas.{sixel_hits, tallied_sixels}
use Rattle.sixel_survey.proofs.TallyingLemmas.{tallied_none}
use Rattle.sixel_survey.proofs.stretch.tally_stretch.Goals as goal

pub returns : goal.returns
returns g c = λ seen n k are.
    let registers = count_of c.args.profile in
    let stretch = c.args.stretch.now in
    let notes = c.args.notes.now in
    let few = at_most_256 c.args.profile in
    let unselected : c.is_none-unknown.result ≡ is_none (known_in notes) = search rules in
    tallied_sixels c.args.place stretch few n
    (c.tally_outside.ensures registers seen _ n k refl
    (c.tally_each-3.ensures registers seen _
    (sixel_hits registers notes seen c.args.place stretch Undefined c.lacks_definition-lacks.result false few n
    (λ i. cc) (λ i. cc) (λ k. rw c.lacks_definition-lacks.ensures (and_comm (is_painting (sixel_at stretch k)) _))) refl
    (c.tally_each-2.ensures registers seen _
    (sixel_hits registers notes seen c.args.place stretch Unselected c.is_none-unknown.result false few n
    (λ i. cc) (λ i. cc) (λ k. rw unselected (and_comm (is_painting (sixel_at stretch k)) _))) refl
    (c.tally_each.ensures registers seen _
    (sixel_hits registers notes seen c.args.place stretch RasterFirst (not notes.declared) true few n
    (λ i. cc) (λ i. cc) (λ k. refl)) refl (tallied_none (sixels_from c.args.place stretch) are)))))
