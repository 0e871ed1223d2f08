use Rattle.std.proofs.Common.{◌≡◌, ◌∙◌, [], List, Option, Some, None, ap, codes, map, refl, rules, subst, sym}
use Rattle.clap.specs.Walk.{Text, all_of, rows_of}
use Rattle.clap.specs.Matches.{found_of}
use Rattle.clap.proofs.WalkLemmas.{raw_values-rows}
use Rattle.sixel_explain.specs.Explanations.{Asks, topic_name}
use Rattle.sixel_words.proofs.ExplainLemmas.{found_asked, none_asked, refused_unhelped}
use Rattle.sixel_words.proofs.words.asked.Goals as goal
use Rattle.sixel_words.proofs.words.asked.Goals.{In-None, In-Some}

unsaid : (c : In-None) → all_of (codes "name") (rows_of (found_of c.args.matches.now)) ≡ None
unsaid c = sym (raw_values-rows (found_of c.args.matches.now) (codes "name")) ∙ sym c.in-None.ensures

said : (c : In-Some) → all_of (codes "name") (rows_of (found_of c.args.matches.now))
    ≡ Some (map (λ word. word.now) c.in-Some.said.now)
said c = sym (raw_values-rows (found_of c.args.matches.now) (codes "name")) ∙ sym c.in-Some.ensures

pub returns-in-None-clause-asked : goal.returns-in-None-clause-asked
returns-in-None-clause-asked c =
    let empty : c.new.result.items ≡ [] = search rules in
    (refl, rw (unsaid (goal.at.returns-in-None-clause-asked c).In-None) (ap (map topic_name) empty))

pub returns-in-None-clause-explained : goal.returns-in-None-clause-explained
returns-in-None-clause-explained c = λ names is.
    let empty : c.new.result.items ≡ [] = search rules in
    ap (map topic_name) empty ∙ sym (subst (λ (o : Option (List Text)). Asks o names)
    (unsaid (goal.at.returns-in-None-clause-explained c).In-None) is)

pub returns-in-Ok-Some-clause-asked : goal.returns-in-Ok-Some-clause-asked
returns-in-Ok-Some-clause-asked c = (
  refl,
  subst (λ (o : Option (List Text)). Asks o (map topic_name c.in-Ok-Some.topics.items))
      (sym (said (goal.at.returns-in-Ok-Some-clause-asked c).In-Some))
      (rw c.in-Ok-Some.field-0-is at c.in-Ok-Some.ensures),
)

pub returns-in-Ok-Some-clause-explained : goal.returns-in-Ok-Some-clause-explained
returns-in-Ok-Some-clause-explained c = λ names is.
    found_asked (map (λ word. word.now) c.in-Some.said.now) (map topic_name c.in-Ok-Some.topics.items) names
    (rw c.in-Ok-Some.field-0-is at c.in-Ok-Some.ensures)
    (subst (λ (o : Option (List Text)). Asks o names)
    (said (goal.at.returns-in-Ok-Some-clause-explained c).In-Some) is)

pub returns-in-Ok-None-clause-explained : goal.returns-in-Ok-None-clause-explained
returns-in-Ok-None-clause-explained c = λ names is.
    absurd (none_asked (map (λ word. word.now) c.in-Some.said.now) names
    (rw c.in-Ok-None.field-0-is at c.in-Ok-None.ensures)
    (subst (λ (o : Option (List Text)). Asks o names)
    (said (goal.at.returns-in-Ok-None-clause-explained c).In-Some) is))

pub returns-in-Ok-None-clause-unhelped : goal.returns-in-Ok-None-clause-unhelped
returns-in-Ok-None-clause-unhelped c = refused_unhelped c.unexplained.result c.unexplained.ensures.refusal
