-- What a byte that isn't a single sixel completes: nothing, a repeat, or more.
use Rattle.std.proofs.Common.{◌≡◌, ℕ, ◌-◌, ◌<◌, false, leb, List, [], ◌∷◌, ◌++◌, length, Option, Some, None}
use Rattle.std.proofs.Common.{refl, ap}
use Rattle.std.proofs.lemmas.Bool.{cond_both}
use Rattle.sixel_grammar.specs.declared.command.Event.{Event}
use Rattle.sixel_grammar.specs.declared.command.Event.TheVariants.{Step}
use Rattle.sixel_grammar.specs.declared.command.Command.TheVariants.{Sixel, Repeat}
use Rattle.sixel_grammar.specs.declared.command.Placed.{Placed}
use Rattle.sixel_grammar.specs.declared.reader.Reader.{Reader}
use Rattle.sixel_grammar.specs.Bytes.{is_data, is_digit}
use Rattle.sixel_grammar.specs.Faults.{Form, NoCommand, RepeatNumber}
use Rattle.sixel_grammar.specs.Next.{with_digit, begin, within, settled, chosen, next_of, only_grown, makes_columns}
use Rattle.sixel_grammar.specs.Stretches.{makes_sixel}
use Rattle.sixel_grammar.specs.Pending.{form_of}
use Rattle.sixel_grammar.specs.Standing.{StandsAfter, opened_after}
use Rattle.sixel_grammar.proofs.NotPlainLemmas.{Completes, completed, not_plain}

abbrev sixel_at : ℕ → ℕ → List Placed
sixel_at place bits = record { place = place; event = Step (Sixel bits) } ∷ []

-- a byte that completes a sixel completes something
not_grown : (opened n place bits : ℕ) (w : Option (Form × Option Event)) (s : Option Event)
    (y : Option (Form × Option Event)) → Completes opened n (chosen w s y) (sixel_at place bits) → only_grown w ≡ None
not_grown opened n place bits None s y c = refl
not_grown opened n place bits (Some (f, None)) s y c = cc
not_grown opened n place bits (Some (f, Some e)) s y c = refl

same_event : (p q : Placed) → p ∷ [] ≡ q ∷ [] → p.event ≡ q.event
same_event p q e = let same : p ≡ q = cc in ap (λ (r : Placed). r.event) same

-- a byte that completes a sixel ends no repeat
no_columns : (opened n place bits : ℕ) (f : Form) (b : ℕ) → makes_sixel f b ≡ false
    → Completes opened n (next_of f b) (sixel_at place bits) → makes_columns f b ≡ false
no_columns opened n place bits NoCommand b other = λ c. other
no_columns opened n place bits (RepeatNumber k) b other =
    let P : Option (Form × Option Event) → Type 0 =
    λ w. Completes opened n (chosen w None (begin b)) (sixel_at place bits) → is_data b ≡ false in
    cond_both (is_digit b) _ _ P
    (λ _. cond_both (leb (with_digit k b) 65535) _ _ P (λ _. λ c. cc) (λ _. λ c. absurd c))
    (λ _. cond_both (is_data b) _ _ P
    (λ _. λ c. let same : Step (Repeat k (b - 63)) ≡ Step (Sixel bits) = same_event _ _ c in cc) (λ no. λ c. no))
no_columns opened n place bits _ b other = λ c. refl

-- the byte isn't a single sixel, or no byte may come
pub not_sixel : (r q : Reader) (events : List Placed) (bytes : List ℕ) (b place bits : ℕ)
    → (0 < r.left → makes_sixel (form_of r.pending) b ≡ false)
    → StandsAfter r events bytes
    → StandsAfter q (events ++ record { place = place; event = Step (Sixel bits) } ∷ []) (bytes ++ b ∷ []) → ⊥
not_sixel r q events bytes b place bits other s t =
    let f = form_of r.pending in
    let o = opened_after (length bytes) r in
    let n = length bytes in
    let c = completed r q events (sixel_at place bits) bytes b s t in
    not_plain r q events (sixel_at place bits) bytes b
    (λ lt. (
      not_grown o n place bits (within f b) (settled f) (begin b) c.1,
      no_columns o n place bits f b (other lt)
          c.1,
    ))
    s refl t
