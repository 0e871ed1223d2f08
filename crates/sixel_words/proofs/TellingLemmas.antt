-- Usage errors, and explanations that are put one after another.
use Rattle.std.proofs.Common.{◌≡◌, ◌∙◌, ◌∷◌, ◌++◌, ℕ, [], List, Option, Some, ap, append-nil, append_assoc, ◌+◌, ◌<◌}
use Rattle.std.proofs.Common.{codes}
use Rattle.std.proofs.Common.{drop, get_or, length, refl, subst, sym, take, take-append-drop}
use Rattle.std.proofs.Math.Seq.{take-length}
use Rattle.std.proofs.lemmas.List.{take_more}
use Rattle.std.specs.Prelude.{Err, Result}
use Rattle.std.specs.Io.KnownBytes.{Appends}
use Rattle.std.specs.Str.{chars}
use Rattle.sixel_io.specs.Devices.{Puts}
use Rattle.sixel_io.proofs.SinkLemmas.{puts-longer, puts-then}
use Rattle.sixel_explain.specs.declared.explanations.Topic.{Topic}
use Rattle.sixel_explain.specs.Explanations.{AreExplanations, AreFurther, IsExplanation, first_line}
use Rattle.sixel_report.specs.declared.fault.RunFault.TheVariants as run
use Rattle.sixel_report.specs.Texts.{Text, fault_line}
use Rattle.sixel_words.specs.Telling.{IsUsageText}

-- ---- usage errors

-- the line of a run without memory is a message, too
pub memory_is_said : IsUsageText (fault_line run.OutOfMemory)
unfolding chars lib.Utf8.encode
memory_is_said = (codes "out of memory" ++ 10 ∷ [], refl)

-- ---- explanations

-- some text begins as the explanation of a topic does
pub any_explanation : (t : Topic) → (text : Text) × IsExplanation (Some t) text
any_explanation t = (first_line t, take-length (first_line t))

-- there are explanations of any topics
any_further : (ts : List Topic) → (text : Text) × AreFurther ts text
any_further [] = ([], refl)
any_further (t ∷ ts) =
    let first = any_explanation t in
    let rest = any_further ts in
    (10 ∷ (first.0 ++ rest.0), (first.0, rest.0, refl, first.1, rest.1))

pub further_both : (ts us : List Topic) (a b : Text) → AreFurther ts a → AreFurther us b
    → AreFurther (ts ++ us) (a ++ b)
further_both [] us a b none are = subst (λ (t : Text). AreFurther us (t ++ b)) (sym none) are
further_both (t ∷ ts) us a b (first, rest, is, explains, more) are = (
  first,
  rest ++ b,
  ap (λ (t : Text). t ++ b) is ∙ ap (λ (t : Text). 10 ∷ t) (append_assoc first rest b),
  explains,
  further_both ts us rest b more are,
)

pub one_further : (t : Topic) (text : Text) → IsExplanation (Some t) text → AreFurther (t ∷ []) (10 ∷ text)
one_further t text is = (text, [], ap (λ (t : Text). 10 ∷ t) (sym (append-nil text)), is, refl)

-- a failed call put a prefix of what it was to put of the topic at this index
pub cut_at : (a b c : Option (List ℕ)) (topics : List Topic) (i : ℕ) (d : Topic) (text next : Text) → i < length topics
    → AreFurther (take i topics) text → Appends a b text → IsExplanation (Some (get_or topics i d)) next
    → ((n : ℕ) × Appends b c (take n (10 ∷ next)))
    → (whole : Text) × AreFurther topics whole × ((n : ℕ) × Appends a c (take n whole))
cut_at a b c topics i d text next short are put explains cut =
    let t = get_or topics i d in
    let ts = take i topics in
    let us = drop (i + 1) topics in
    let rest = any_further us in
    let both = text ++ 10 ∷ next in
    let put_both : (n : ℕ) × Appends a c (take n both) =
    puts-then {A = Unit {0}} {E = Unit {0}} (Err tt) a b c text (10 ∷ next) put cut in
    let all : (ts ++ t ∷ []) ++ us ≡ topics =
    sym (ap (λ (xs : List Topic). xs ++ us) (take_more topics i d short)) ∙ take-append-drop (i + 1) topics in (
      both ++ rest.0,
      subst (λ (xs : List Topic). AreFurther xs (both ++ rest.0)) all
          (further_both (ts ++ t ∷ []) us both rest.0
          (further_both ts (t ∷ []) text (10 ∷ next) are (one_further t next explains)) rest.1),
      puts-longer a c both rest.0 put_both,
    )

-- a failed call put a prefix of the explanation of the first topic
pub cut_at_first : (a b : Option (List ℕ)) (topics us : List Topic) (t : Topic) (text : Text) → topics ≡ t ∷ us
    → IsExplanation (Some t) text → ((n : ℕ) × Appends a b (take n text))
    → (whole : Text) × AreExplanations topics whole × ((n : ℕ) × Appends a b (take n whole))
cut_at_first a b topics us t text all is put =
    let rest = any_further us in (
      text ++ rest.0,
      subst (λ (xs : List Topic). AreExplanations xs (text ++ rest.0)) (sym all) (text, rest.0, refl, is, rest.1),
      puts-longer a b text rest.0 put,
    )

-- the explanation of the first topic was put, and then those of the others, or a prefix of them
pub first_put : {A E : Type 0} (result : Result A E) (a b c : Option (List ℕ)) (topics us : List Topic) (t : Topic)
    (first rest : Text) → topics ≡ t ∷ us → IsExplanation (Some t) first → Appends a b first → AreFurther us rest
    → Puts result b c rest → (whole : Text) × AreExplanations topics whole × Puts result a c whole
first_put result a b c topics us t first rest all is put are more = (
  first ++ rest,
  subst (λ (xs : List Topic). AreExplanations xs (first ++ rest)) (sym all) (first, rest, refl, is, are),
  puts-then result a b c first rest put more,
)
