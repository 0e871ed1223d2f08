use Rattle.std.proofs.Common.{◌≤◌, ap, arith, length, subst}
use Rattle.std.proofs.lemmas.Result.{err_from_is_err_and}
use Rattle.std.specs.Prelude.{Ok}
use Rattle.sixel_model.specs.Profiles.{count_of}
use Rattle.sixel_plane.specs.declared.cover_plane.CoverPlane.{CoverPlane}
use Rattle.sixel_survey.specs.declared.surveying.Surveying.{Surveying}
use Rattle.sixel_survey.proofs.FollowLemmas.{MayStop}
use Rattle.sixel_survey.proofs.ReadsLemmas.{reads_followed, reads_halted}
use Rattle.sixel_emulator_rules.specs.Tallies.{AreAskedEntries}
use Rattle.sixel_emulator_rules.specs.declared.tallying.Tallying.{Tallying}
use Rattle.sixel_emulator_rules.specs.declared.terminals.Terminals.{Terminals}
use Rattle.sixel_omissions.specs.Omissions.{IsFirstBare}
use Rattle.sixel_emulator_rules.specs.Asked.{is_asked}
use Rattle.sixel_emulator_rules.specs.declared.rule.AskedRule.TheVariants.{Bare, SpaceAfter}
use Rattle.sixel_emulator_check.specs.Looks.{HasLooked}
use Rattle.sixel_emulator_check.specs.Trailer.{IsFirstSpace}
use Rattle.sixel_emulator_check.specs.Written.{SurveysOn}
use Rattle.sixel_grammar.specs.declared.both.Both.{Both}
use Rattle.sixel_emulator_check.proofs.SurveyingLemmas.{HaveTaken, all_taken, begin, declare_in, joined}
use Rattle.sixel_emulator_check.proofs.WrittenLemmas.{few_added, few_by_events, if_asked, told_with, with_entries}
use Rattle.sixel_emulator_check.proofs.surveying.survey_both.Goals as goal

abbrev Pair : Type 0
Pair = Both (Surveying CoverPlane) Tallying

pub follow_looking-requires-clause-untaken : goal.follow_looking-requires-clause-untaken
follow_looking-requires-clause-untaken g c =
    let first : Pair = record { one = c.new-one.result; other = c.new-other.result } in (
      first,
      begin (λ (b : Pair). b.one.surveyor) (λ (b : Pair). b.other) (count_of c.args.profile) first c.new-one.ensures,
    )

pub returns-in_err-follow_looking : goal.returns-in_err-follow_looking
returns-in_err-follow_looking g c =
    let failed = err_from_is_err_and c.from_residual.result c.from_residual.ensures.1 in
    let e = c.in_err-follow_looking.ensures in
    rw (failed.1, failed.2)
    (reads_halted (HaveTaken (λ (b : Pair). b.one.surveyor) (λ (b : Pair). b.other)) MayStop _
    c.follow_looking.new.follower c.in_err-follow_looking.field-0.0 (g.S.Source.state c.args.input.now) _ (λ bytes h. h)
    (λ stop bytes.
    declare_in (λ (b : Pair). b.one.surveyor) (λ (b : Pair). b.other) (count_of c.args.profile) _
    c.follow_looking.new.follower stop bytes c.new-one.ensures)
    e.halted e.failures e.unread e.left.read)

pub finish-requires : goal.finish-requires
finish-requires g c =
    let f =
    all_taken (λ (b : Pair). b.one.surveyor) (λ (b : Pair). b.other) (count_of c.args.profile) c.args.terminals _
    c.follow_looking.new.follower (g.S.Source.state c.args.input.now).remaining c.new-one.ensures
    c.new-other.ensures.tallied c.new-other.ensures.terminals c.in_ok-follow_looking.ensures.followed in
    (count_of c.args.profile, f.events, f.bytes, f.taken.0, f.document)

pub add_entry-with_bare-requires : goal.add_entry-with_bare-requires
add_entry-with_bare-requires g c =
    let f =
    all_taken (λ (b : Pair). b.one.surveyor) (λ (b : Pair). b.other) (count_of c.args.profile) c.args.terminals _
    c.follow_looking.new.follower (g.S.Source.state c.args.input.now).remaining c.new-one.ensures
    c.new-other.ensures.tallied c.new-other.ensures.terminals c.in_ok-follow_looking.ensures.followed in
    let asked : AreAskedEntries c.args.terminals f.events c.entries-asked.result.items =
    subst (λ (t : Terminals). AreAskedEntries t f.events c.entries-asked.result.items) f.taken.2
    (c.entries-asked.ensures f.events f.bytes f.taken.1 f.document) in
    let few = few_by_events c.args.terminals f.events c.entries-asked.result.items asked in
    rw c.join_survey-by_events.ensures.asked (omega (arith, few))

pub add_entry-requires : goal.add_entry-requires
add_entry-requires g c =
    let f =
    all_taken (λ (b : Pair). b.one.surveyor) (λ (b : Pair). b.other) (count_of c.args.profile) c.args.terminals _
    c.follow_looking.new.follower (g.S.Source.state c.args.input.now).remaining c.new-one.ensures
    c.new-other.ensures.tallied c.new-other.ensures.terminals c.in_ok-follow_looking.ensures.followed in
    let asked : AreAskedEntries c.args.terminals f.events c.entries-asked.result.items =
    subst (λ (t : Terminals). AreAskedEntries t f.events c.entries-asked.result.items) f.taken.2
    (c.entries-asked.ensures f.events f.bytes f.taken.1 f.document) in
    let few = few_by_events c.args.terminals f.events c.entries-asked.result.items asked in
    let by_events = c.join_survey-by_events.result.asked.items in
    let first : length by_events ≤ 9 = rw c.join_survey-by_events.ensures.asked few in
    let more =
    few_added Bare _ c.if_asked-bare.result by_events c.add_entry-with_bare.result.asked.items
    c.add_entry-with_bare.ensures.asked in
    omega (arith, first, more)

pub returns : goal.returns
returns g c =
    let e = c.in_ok-follow_looking.ensures in
    let known = (g.S.Source.state c.args.input.now).remaining in
    let f =
    all_taken (λ (b : Pair). b.one.surveyor) (λ (b : Pair). b.other) (count_of c.args.profile) c.args.terminals _
    c.follow_looking.new.follower known c.new-one.ensures c.new-other.ensures.tallied c.new-other.ensures.terminals
    e.followed in
    let registers = count_of c.args.profile in
    let survey = c.finish.ensures registers f.events f.bytes f.taken.0 f.document in
    let asked : AreAskedEntries c.args.terminals f.events c.entries-asked.result.items =
    subst (λ (t : Terminals). AreAskedEntries t f.events c.entries-asked.result.items) f.taken.2
    (c.entries-asked.ensures f.events f.bytes f.taken.1 f.document) in
    let is =
    joined c.join_survey-by_events.result c.join_survey-by_events.ensures.entries
    (ap (λ l. l.items) c.join_survey-by_events.ensures.asked) c.join_survey-by_events.ensures.size survey asked in
    let bare = c.add_entry-with_bare.ensures in
    let space = c.add_entry.ensures in
    reads_followed c.add_entry.result (g.S.Source.state c.args.input.now) _
    (told_with known f.bytes (HasLooked c.follow_looking.new.looks)
    (SurveysOn (count_of c.args.profile) c.args.terminals (Ok c.add_entry.result)) f.known_are e.seen
    (λ seen. (
      f.events,
      f.document,
      with_entries c.args.terminals f.bytes f.events c.join_survey-by_events.result c.add_entry-with_bare.result
          c.add_entry.result c.if_asked-bare.result c.if_asked-space.result c.count.result c.count-2.result is
          (if_asked (is_asked c.args.terminals Bare) (IsFirstBare f.bytes) c.first.result c.if_asked-bare.result
          (c.first.ensures f.bytes seen.bare) c.if_asked-bare.ensures)
          (if_asked (is_asked c.args.terminals SpaceAfter) (IsFirstSpace f.bytes) c.first-2.result
          c.if_asked-space.result (c.first-2.ensures f.bytes seen.spaces) c.if_asked-space.ensures)
          (c.count.ensures f.bytes seen.bare) (c.count-2.ensures f.bytes seen.spaces)
          (record { entries = bare.entries; asked = bare.asked; size = bare.size })
          (record { entries = space.entries; asked = space.asked; size = space.size }),
    )))
    e.failures e.left
