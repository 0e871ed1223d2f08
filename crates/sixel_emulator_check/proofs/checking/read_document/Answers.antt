use Rattle.std.proofs.lemmas.Result.{err_from_is_err_and}
use Rattle.sixel_model.specs.Profiles.{count_of}
use Rattle.sixel_survey.proofs.ReadsLemmas.{reads_followed, reads_halted}
use Rattle.sixel_emulator_check.proofs.FollowLemmas.{HasTakenBoth, MayStopBoth, Pair, grows_both, had_none, taken_all}
use Rattle.sixel_emulator_check.proofs.FollowLemmas.{whole_now}
use Rattle.sixel_emulator_check.proofs.checking.read_document.Goals as goal

pub follow_looking-requires-clause-untaken : goal.follow_looking-requires-clause-untaken
follow_looking-requires-clause-untaken g c =
    let both : Pair = record { one = c.new-one.result; other = c.new-other.result } in
    (both, had_none (count_of c.args.profile) both c.new-one.ensures)

pub returns : goal.returns
returns g c =
    let n = count_of c.args.profile in
    let e = c.in_ok-follow_looking.ensures in
    let old : Pair = record { one = c.new-one.result; other = c.new-other.result } in
    let now = c.follow_looking.new.follower in
    let known = (g.S.Source.state c.args.input.now).remaining in
    record {
      reads = reads_followed (record { both = now; looks = c.follow_looking.new.looks })
          (g.S.Source.state c.args.input.now) _
          (taken_all n c.args.terminals old now c.follow_looking.new.looks known e.followed e.seen c.new-one.ensures
          c.new-other.ensures.terminals c.new-other.ensures.asked) e.failures e.left;
      whole = whole_now n old now known e.followed c.new-one.ensures;
    }

pub returns-in_err-follow_looking : goal.returns-in_err-follow_looking
returns-in_err-follow_looking g c =
    let failed = err_from_is_err_and c.from_residual.result c.from_residual.ensures.1 in
    let n = count_of c.args.profile in
    let e = c.in_err-follow_looking.ensures in
    let old : Pair = record { one = c.new-one.result; other = c.new-other.result } in
    let now = c.follow_looking.new.follower in
    record {
      reads = rw (failed.1, failed.2)
          (reads_halted HasTakenBoth MayStopBoth old now c.in_err-follow_looking.field-0.0
          (g.S.Source.state c.args.input.now) _ (λ bytes h. h)
          (λ stop bytes h. grows_both n old now stop bytes h c.new-one.ensures)
          e.halted e.failures e.unread e.left.read);
      whole = rw failed.1 tt;
    }
