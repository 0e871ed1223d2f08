use Rattle.std.proofs.lemmas.Result.{err_from_is_err_and}
use Rattle.sixel_judge.proofs.FollowLemmas.{HasTaken, MayStop, fresh_for, source_for, source_grows}
use Rattle.sixel_model.specs.Profiles.{count_of}
use Rattle.sixel_survey.proofs.ReadsLemmas.{reads_followed, reads_halted}
use Rattle.sixel_check.proofs.FollowLemmas.{seen_all, whole_all}
use Rattle.sixel_check.proofs.checking.read_document.Goals as goal

pub follow_source-requires : goal.follow_source-requires
follow_source-requires g c = fresh_for (count_of c.args.profile) c.new-checker.result c.new-checker.ensures

pub returns : goal.returns
returns g c =
    let n = count_of c.args.profile in
    let e = c.in_ok-follow_source.ensures in
    let now = c.follow_source.new.follower in
    let known = (g.S.Source.state c.args.input.now).remaining in
    let followed = source_for n c.new-checker.result now known e.followed c.new-checker.ensures in
    record {
      reads = reads_followed now (g.S.Source.state c.args.input.now) _ (seen_all n now known followed) e.failures
          e.left;
      whole = whole_all n now known followed;
    }

pub returns-in_err-follow_source : goal.returns-in_err-follow_source
returns-in_err-follow_source g c =
    let failed = err_from_is_err_and c.from_residual.result c.from_residual.ensures.1 in
    let n = count_of c.args.profile in
    let e = c.in_err-follow_source.ensures in
    let now = c.follow_source.new.follower in
    record {
      reads = rw (failed.1, failed.2)
          (reads_halted HasTaken MayStop c.new-checker.result now c.in_err-follow_source.field-0.0
          (g.S.Source.state c.args.input.now) _ (λ bytes h. h)
          (λ stop bytes h. source_grows n c.new-checker.result now stop bytes h c.new-checker.ensures)
          e.halted e.failures e.unread e.left.read);
      whole = rw failed.1 tt;
    }
