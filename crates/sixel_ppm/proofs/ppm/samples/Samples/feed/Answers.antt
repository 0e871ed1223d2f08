use Rattle.std.proofs.Common.{◌∙◌, sym}
use Rattle.std.proofs.lemmas.Result.{err_from_is_err_and}
use Rattle.sixel_ppm.proofs.PpmSampleLemmas.{has_read_all, has_read_fails, has_read_more}
use Rattle.sixel_ppm.proofs.ppm.samples.Samples.feed.Goals as goal

pub loop-rest-preserved : goal.loop-rest-preserved
loop-rest-preserved c =
    let start = c.args.self.now in
    let piece = c.args.piece.now in
    has_read_more start c.read_first.new.self c.read_cached-rest.new.self piece c.in_ok-rest.rest.now
    c.read_cached-rest.result.now
    (has_read_more start c.loop-rest.self c.read_first.new.self piece c.loop-rest.rest.now c.in_ok-rest.rest.now
    c.loop-rest.invariant c.in_ok-rest.ensures.read)
    c.read_cached-rest.ensures.read

pub returns : goal.returns
returns c =
    let done = has_read_all c.args.self.now c.loop-rest.self c.args.piece.now c.loop-rest.rest.now
    c.loop-rest.invariant (sym c.is_empty.ensures ∙ c.loop-rest-test.false) in
    record { read = done.0; failed = tt; fewer = done.1 }

pub returns-in_err-rest : goal.returns-in_err-rest
returns-in_err-rest c =
    let failed = err_from_is_err_and c.from_residual.result c.from_residual.ensures.1 in
    record {
      read = rw failed.1 tt;
      failed = rw (failed.1, failed.2)
          (has_read_fails c.args.self.now c.loop-rest.self c.args.piece.now c.loop-rest.rest.now _
          c.loop-rest.invariant c.in_err-rest.ensures.failed);
      fewer = rw failed.1 tt;
    }
