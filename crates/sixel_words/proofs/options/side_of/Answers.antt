use Rattle.std.proofs.Common.{◌≡◌, ◌∙◌, true, false, Option, Some, None, subst, sym}
use Rattle.std.specs.Str.Parse.{ParsesUnsigned, ExplainsUnsignedError, HasUnsignedDigitsIfOk}
use Rattle.clap.specs.Walk.{Text}
use Rattle.clap.specs.Matches.{found_of, one_text}
use Rattle.clap.proofs.WalkLemmas.{one_text-rows}
use Rattle.sixel_words.proofs.MatchLemmas.{HasNumber, number_read, number_refused}
use Rattle.sixel_words.proofs.options.side_of.Goals as goal

pub returns-in-Some-clause-some : goal.returns-in-Some-clause-some
returns-in-Some-clause-some c =
    let f = found_of c.args.matches.now in let id = c.args.name.now in
    let range = c.is_side.ensures.0 c.if-is_side.true in
    subst (λ (o : Option Text). HasNumber o c.in-Some.number) (one_text-rows f id)
    (number_read (one_text f id)
    (λ bs r. ParsesUnsigned 32 10 bs r × ExplainsUnsignedError 10 bs r × HasUnsignedDigitsIfOk bs r)
    c.in-Some.number (λ t r g. g.0) c.in-Some.ensures.none c.in-Some.ensures.value range.0 range.1)

pub returns-in_default-clause-none : goal.returns-in_default-clause-none
returns-in_default-clause-none c = λ none n h.
    let f = found_of c.args.matches.now in let id = c.args.name.now in
    number_refused (one_text f id)
    (λ bs r. ParsesUnsigned 32 10 bs r × ExplainsUnsignedError 10 bs r × HasUnsignedDigitsIfOk bs r)
    (Some c.in-Some.number) (λ t r g. g.0) c.in-Some.ensures.value
    (λ least most. let yes : true ≡ c.is_side.result = sym
    (c.is_side.ensures.1 (least, most)) in let bad : true ≡ false = yes ∙ c.if-is_side.false in cc)
    n (subst (λ (o : Option Text). HasNumber o n) (sym (one_text-rows f id)) h)

pub returns-in_default-2-clause-none : goal.returns-in_default-2-clause-none
returns-in_default-2-clause-none c = λ none n h.
    let f = found_of c.args.matches.now in let id = c.args.name.now in
    number_refused (one_text f id)
    (λ bs r. ParsesUnsigned 32 10 bs r × ExplainsUnsignedError 10 bs r × HasUnsignedDigitsIfOk bs r)
    None (λ t r g. g.0) c.in_default.ensures.value tt
    n (subst (λ (o : Option Text). HasNumber o n) (sym (one_text-rows f id)) h)
