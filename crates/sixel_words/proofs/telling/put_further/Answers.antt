use Rattle.std.proofs.Common.{◌∷◌, ◌++◌, ◌∙◌, List, [], refl, subst, sym, take}
use Rattle.std.proofs.lemmas.List.{take_more}
use Rattle.sixel_io.proofs.DeviceLemmas.{Appends-then}
use Rattle.sixel_io.proofs.SinkLemmas.{Appends-none}
use Rattle.sixel_explain.specs.declared.explanations.Topic.{Topic}
use Rattle.sixel_explain.specs.Explanations.{AreFurther}
use Rattle.std.proofs.lemmas.Result.{err_from_is_err_and}
use Rattle.sixel_words.proofs.TellingLemmas.{cut_at, further_both, one_further}
use Rattle.sixel_words.proofs.telling.put_further.Goals as goal

pub loop-topic-init : goal.loop-topic-init
loop-topic-init g c = record { put = ([], refl, Appends-none _); failures = refl }

pub loop-topic-preserved : goal.loop-topic-preserved
loop-topic-preserved g c =
    let topics = c.args.topics.now in
    let i = c.loop-topic.topic-index in
    let before = c.loop-topic.invariant.put in
    let next = c.in_ok-put_next.ensures.bytes in
    record {
      put = (
        before.0 ++ 10 ∷ next.0,
        subst (λ (ts : List Topic). AreFurther ts (before.0 ++ 10 ∷ next.0))
            (sym (take_more topics i _ c.loop-topic-test.true))
            (further_both (take i topics) (_ ∷ []) before.0 (10 ∷ next.0) before.1 (one_further _ next.0 next.1)),
        Appends-then _ _ _ before.0 (10 ∷ next.0) (before.0 ++ 10 ∷ next.0) before.2 next.2 refl,
      );
      failures = c.in_ok-put_next.ensures.failures ∙ c.loop-topic.invariant.failures;
    }

pub returns-in_err-put_next-clause-bytes : goal.returns-in_err-put_next-clause-bytes
returns-in_err-put_next-clause-bytes g c =
    let failed = err_from_is_err_and c.from_residual.result c.from_residual.ensures.1 in
    let before = c.loop-topic.invariant.put in
    let next = c.in_err-put_next.ensures.bytes in
    rw failed.1 (cut_at _ _ _ c.args.topics.now c.loop-topic.topic-index _ before.0 next.0
    c.loop-topic-test.true before.1 before.2 next.1 next.2)
