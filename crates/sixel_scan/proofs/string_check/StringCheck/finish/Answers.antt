use Rattle.std.proofs.Common.{ap, refl}
use Rattle.std.specs.Prelude.{Err, Ok}
use Rattle.std.proofs.lemmas.Result.{err_from_is_err_and}
use Rattle.sixel_judge.specs.declared.verdict.Outcome.{Outcome}
use Rattle.sixel_judge.proofs.FollowLemmas.{whole_then}
use Rattle.sixel_scan.proofs.CheckingLemmas.{after_of, ends_ill, ends_well, fault_within, verdict_within}
use Rattle.sixel_scan.proofs.string_check.StringCheck.finish.Goals as goal

pub outcome-requires : goal.outcome-requires
outcome-requires c =
    let t = c.requires in
    let a = after_of t.0 c.args.self t.1 (ends_well _ c.in_ok-finish.ensures.fault) t.2 in
    let document = c.in_ok-finish.ensures.answer a.events t.1 a.read in
    record { whole = (t.0, a.events, a.taken, whole_then a.events t.1 document) }

pub returns : goal.returns
returns c = λ registers bytes read.
    let a = after_of registers c.args.self bytes (ends_well _ c.in_ok-finish.ensures.fault) read in
    let document = c.in_ok-finish.ensures.answer a.events bytes a.read in
    let found = c.outcome.ensures registers a.events a.taken in record {
      checked = Ok found.verdict;
      answers = (a.events, document, found.verdict_is, found.everywhere, found.matters);
      within = verdict_within registers found.verdict document found.verdict_is;
      result_is = ap (λ (o : Outcome). Ok o) found.outcome_is;
    }

pub returns-in_err-finish : goal.returns-in_err-finish
returns-in_err-finish c =
    let failed = err_from_is_err_and c.from_residual.result c.from_residual.ensures.1 in
    rw (failed.1, failed.2)
    (λ registers bytes read.
    let fault = ends_ill registers c.args.self bytes c.in_err-finish.field-0.0 c.in_err-finish.ensures.fault
    (λ events s. (c.in_err-finish.ensures.answer events bytes s).0) read in record {
      checked = Err c.in_err-finish.field-0.0;
      answers = fault;
      within = fault_within bytes c.in_err-finish.field-0.0 fault;
      result_is = refl;
    })
