use Rattle.std.proofs.Common.{Some}
use Rattle.std.proofs.lemmas.Result.{err_from_is_err_and}
use Rattle.sixel_check.proofs.FollowLemmas.{halted_explains, halted_grows, halted_reads, seen_all, whole_all}
use Rattle.sixel_judge.proofs.FollowLemmas.{fresh_for, source_for}
use Rattle.sixel_model.specs.Profiles.{count_of}
use Rattle.sixel_check.proofs.checking.check_bytes.Goals as goal

pub follow_document-requires : goal.follow_document-requires
follow_document-requires c = fresh_for (count_of c.args.profile) c.new-checker.result c.new-checker.ensures

pub finish-requires : goal.finish-requires
finish-requires c =
    let n = count_of c.args.profile in
    record {
      whole = whole_all n c.follow_document.new.follower (Some c.args.bytes.now)
          (source_for n c.new-checker.result c.follow_document.new.follower (Some c.args.bytes.now)
          c.in_ok-follow_document.ensures.followed c.new-checker.ensures);
    }

pub returns-clause-answer : goal.returns-clause-answer
returns-clause-answer c =
    let n = count_of c.args.profile in
    let known = Some c.args.bytes.now in
    let h = seen_all n c.follow_document.new.follower known
    (source_for n c.new-checker.result c.follow_document.new.follower known c.in_ok-follow_document.ensures.followed
    c.new-checker.ensures) in (
      h.0,
      h.1,
      c.in_ok-finish.ensures.verdict n h.0 h.2,
      c.in_ok-finish.ensures.everywhere n h.0 h.2,
      c.in_ok-finish.ensures.matters n h.0 h.2,
    )

pub returns-in_err-follow_document : goal.returns-in_err-follow_document
returns-in_err-follow_document c =
    let failed = err_from_is_err_and c.from_residual.result c.from_residual.ensures.1 in
    let halt = c.in_err-follow_document.field-0.0 in
    let halts = c.in_err-follow_document.ensures.halted in
    record {
      answer = rw (failed.1, failed.2) (halted_explains c.new-checker.result c.follow_document.new.follower c.args.bytes.now halt halts);
      never_read = rw (failed.1, failed.2) (halted_reads halt);
      memory = rw (failed.1, failed.2) (halted_grows (count_of c.args.profile) c.new-checker.result
          c.follow_document.new.follower c.args.bytes.now halt halts c.new-checker.ensures);
    }
