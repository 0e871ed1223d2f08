use Rattle.std.proofs.lemmas.Result.{err_from_is_err_and}
use Rattle.std.specs.Prelude.{Ok}
use Rattle.sixel_grammar.proofs.FollowSourceLemmas.{told_known}
use Rattle.sixel_model.specs.Profiles.{count_of}
use Rattle.sixel_plane.specs.declared.cover_plane.CoverPlane.{CoverPlane}
use Rattle.sixel_survey.specs.Answers.{Answers}
use Rattle.sixel_survey.specs.declared.surveying.Surveying.{Surveying}
use Rattle.sixel_survey.proofs.FollowLemmas.{HasTaken, MayStop, begins, declares_in, surveyed}
use Rattle.sixel_survey.proofs.ReadsLemmas.{reads_followed, reads_halted}
use Rattle.sixel_survey.proofs.surveying.survey_with.Goals as goal

pub follow_source-requires : goal.follow_source-requires
follow_source-requires g c =
    let first : Surveying CoverPlane = c.new-surveying.result in
    (first, begins (λ (s : Surveying CoverPlane). s.surveyor) (count_of c.args.profile) first c.new-surveying.ensures)

pub returns-in_err-follow_source : goal.returns-in_err-follow_source
returns-in_err-follow_source g c =
    let failed = err_from_is_err_and c.from_residual.result c.from_residual.ensures.1 in
    let e = c.in_err-follow_source.ensures in
    rw (failed.1, failed.2)
    (reads_halted (HasTaken (λ s. s.surveyor)) MayStop _ c.follow_source.new.follower c.in_err-follow_source.field-0.0
    (g.S.Source.state c.args.input.now) _ (λ bytes h. h)
    (λ stop bytes.
    declares_in (λ s. s.surveyor) (count_of c.args.profile) _ c.follow_source.new.follower stop bytes
    c.new-surveying.ensures)
    e.halted e.failures e.unread e.left.read)

pub finish-requires : goal.finish-requires
finish-requires g c =
    let f =
    surveyed (λ s. s.surveyor) (count_of c.args.profile) _ c.follow_source.new.follower
    (g.S.Source.state c.args.input.now).remaining c.new-surveying.ensures c.in_ok-follow_source.ensures.followed in
    (count_of c.args.profile, f.events, f.bytes, f.taken, f.document)

pub returns : goal.returns
returns g c =
    let e = c.in_ok-follow_source.ensures in
    let known = (g.S.Source.state c.args.input.now).remaining in
    let f =
    surveyed (λ s. s.surveyor) (count_of c.args.profile) _ c.follow_source.new.follower known c.new-surveying.ensures
    e.followed in
    reads_followed c.finish.result (g.S.Source.state c.args.input.now) _
    (told_known known f.bytes (Answers (count_of c.args.profile) (Ok c.finish.result)) f.known_are
    (f.events, f.document, c.finish.ensures (count_of c.args.profile) f.events f.bytes f.taken f.document))
    e.failures e.left
