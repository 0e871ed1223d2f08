-- What a byte that isn't plain completes, if it is accepted: more than a single sixel or repeat.
use Rattle.std.proofs.Common.{◌≡◌, ◌∙◌, ◌<◌, ℕ, Bool, true, false, eqb, leb, ltb, List, [], ◌∷◌, ◌++◌, length, Option}
use Rattle.std.proofs.Common.{Some, None, refl, sym, ap, subst, arith, length-append}
use Rattle.std.specs.Prelude.{◌&&◌}
use Rattle.std.proofs.lemmas.Bool.{cond_both}
use Rattle.std.proofs.lemmas.List.{append_cancel_left}
use Rattle.sixel_grammar.specs.declared.command.Event.{Event}
use Rattle.sixel_grammar.specs.declared.command.Placed.{Placed}
use Rattle.sixel_grammar.specs.declared.reader.Reader.{Reader}
use Rattle.sixel_grammar.specs.Bytes.{is_filler, is_data, is_digit}
use Rattle.sixel_grammar.specs.Faults.{Form, NothingYet, Introducing, Parameters, LastSeparator, NoCommand}
use Rattle.sixel_grammar.specs.Faults.{RepeatNumber, RasterFields, ColourFields, Terminating, Ended, EndsIn}
use Rattle.sixel_grammar.specs.Next.{with_digit, number_next, begin, within, settled, chosen, next_of, only_grown}
use Rattle.sixel_grammar.specs.Next.{makes_columns}
use Rattle.sixel_grammar.specs.Pending.{form_of}
use Rattle.sixel_grammar.specs.Prefixes.{CompleteIn}
use Rattle.sixel_grammar.specs.Standing.{StandsAfter, are_plain, is_columns, opened_after}
use Rattle.sixel_grammar.proofs.AdvanceLemmas.{GoesTo, advances}
use Rattle.sixel_grammar.proofs.StandLemmas.{completed_events, handed, read_complete}
use Rattle.sixel_grammar.proofs.UniqueLemmas.{complete_once}
use Rattle.sixel_grammar.proofs.ViableLemmas.{complete}
use Rattle.sixel_grammar.proofs.DocumentWalkLemmas.{not_viable}

abbrev whole_columns : Option (Form × Option Event) → Bool
whole_columns None = false
whole_columns (Some (f, None)) = false
whole_columns (Some (f, Some e)) = is_columns e

abbrev ended_columns : Option Event → Bool
ended_columns None = false
ended_columns (Some e) = is_columns e

abbrev No : Option (Form × Option Event) → Type 0
No w = whole_columns w ≡ false

begins_none : (b : ℕ) → is_data b ≡ false → No (begin b)
begins_none b other =
    cond_both (is_data b) _ _ No (λ t. cc)
    (λ _. cond_both (is_filler b) _ _ No (λ _. refl)
    (λ _. cond_both (eqb b 33) _ _ No (λ _. refl)
    (λ _. cond_both (eqb b 34) _ _ No (λ _. refl)
    (λ _. cond_both (eqb b 35) _ _ No (λ _. refl)
    (λ _. cond_both (eqb b 36) _ _ No (λ _. refl)
    (λ _. cond_both (eqb b 45) _ _ No (λ _. refl)
    (λ _. cond_both (eqb b 27) _ _ No (λ _. refl)
    (λ _. cond_both (eqb b 156) _ _ No (λ _. refl) (λ _. refl)))))))))

digit_none : (form : ℕ → Form) (n b : ℕ) → No (number_next form n b)
digit_none form n b = cond_both (leb (with_digit n b) 65535) _ _ No (λ _. refl) (λ _. refl)

-- a byte that continues what is open
whole_none : (f : Form) (b : ℕ) → makes_columns f b ≡ false → No (within f b)
whole_none NothingYet b other =
    cond_both (is_filler b) _ _ No (λ _. refl)
    (λ _. cond_both (eqb b 27) _ _ No (λ _. refl)
    (λ _. cond_both (eqb b 144) _ _ No (λ _. refl) (λ _. refl)))
whole_none Introducing b other = cond_both (eqb b 80) _ _ No (λ _. refl) (λ _. refl)
whole_none (Parameters eight ns n) b other =
    cond_both (is_digit b) _ _ No (λ _. digit_none (Parameters eight ns) n b)
    (λ _. cond_both (ltb (length ns) 3) _ _ No
    (λ _. cond_both (eqb b 59) _ _ No
    (λ _. cond_both (ltb (length ns) 2) _ _ No (λ _. refl) (λ _. refl))
    (λ _. cond_both (eqb b 113) _ _ No (λ _. refl) (λ _. refl)))
    (λ _. refl))
whole_none (LastSeparator eight ns) b other = cond_both (eqb b 113) _ _ No (λ _. refl) (λ _. refl)
whole_none NoCommand b other = begins_none b other
whole_none (RepeatNumber n) b other =
    cond_both (is_digit b) _ _ No (λ _. digit_none RepeatNumber n b)
    (λ _. cond_both (is_data b) _ _ No (λ t. cc) (λ _. refl))
whole_none (RasterFields ns n) b other =
    cond_both (is_digit b) _ _ No (λ _. digit_none (RasterFields ns) n b)
    (λ _. cond_both (eqb b 59 && ltb (length ns) 3) _ _ No (λ _. refl) (λ _. refl))
whole_none (ColourFields ns n) b other =
    cond_both (is_digit b) _ _ No (λ _. digit_none (ColourFields ns) n b)
    (λ _. cond_both (eqb b 59 && ltb (length ns) 4) _ _ No (λ _. refl) (λ _. refl))
whole_none Terminating b other = cond_both (eqb b 92) _ _ No (λ _. refl) (λ _. refl)
whole_none Ended b other = cond_both (is_filler b) _ _ No (λ _. refl) (λ _. refl)

-- a command that the next byte ends is neither a sixel nor a repeat
settled_none : (f : Form) → ended_columns (settled f) ≡ false
settled_none (RasterFields (a ∷ b ∷ c ∷ d ∷ more) e) = refl
settled_none (ColourFields (a ∷ b ∷ c ∷ d ∷ e ∷ more) g) = refl
settled_none _ = refl

-- a byte that does this completes these events
abbrev pub Completes : ℕ → ℕ → Option (Option Event × Form × Option Event) → List Placed → Type 0
Completes opened n None done = ⊥
Completes opened n (Some x) done = completed_events opened n x.0 x.2 ≡ done

none_plain : (opened n : ℕ) (done : List Placed) (w : Option (Form × Option Event)) (s : Option Event)
    (y : Option (Form × Option Event)) → only_grown w ≡ None → No w → ended_columns s ≡ false
    → are_plain done ≡ true → Completes opened n (chosen w s y) done → ⊥
none_plain opened n done None None y g h e few c = c
none_plain opened n done None (Some k) None g h e few c = c
none_plain opened n done None (Some k) (Some (f, None)) g h e few c = cc (ap are_plain c)
none_plain opened n done None (Some k) (Some (f, Some d)) g h e few c = cc (ap are_plain c)
none_plain opened n done (Some (f, None)) s y g h e few c = cc
none_plain opened n done (Some (f, Some d)) s y g h e few c = cc (ap are_plain c)

came : (f : Form) (events : List Placed) (opened : ℕ) (bytes : List ℕ) (b : ℕ) (done : List Placed)
    (x : Option (Option Event × Form × Option Event)) → next_of f b ≡ x → EndsIn f events opened bytes
    → CompleteIn (events ++ done) (bytes ++ b ∷ []) → Completes opened (length bytes) x done
came f events opened bytes b done None h e c = not_viable f e b [] h (events ++ done, c)
came f events opened bytes b done (Some x) h e c =
    let went : GoesTo events opened bytes b (Some x) = subst (GoesTo events opened bytes b) h (advances f e b) in
    let same = complete_once (bytes ++ b ∷ []) _ (events ++ done) (complete x.1 went) c in
    append_cancel_left events _ done (sym (handed events opened (length bytes) bytes x.0 x.2 refl) ∙ same)

-- if a reader takes the byte, the byte may come and completes these events
pub completed : (r q : Reader) (events done : List Placed) (bytes : List ℕ) (b : ℕ) → StandsAfter r events bytes
    → StandsAfter q (events ++ done) (bytes ++ b ∷ [])
    → (0 < r.left)
    × Completes (opened_after (length bytes) r) (length bytes) (next_of (form_of r.pending) b) done
completed r q events done bytes b s t =
    let len = length-append bytes (b ∷ []) in (
      omega (arith, s.left, t.left, len),
      came (form_of r.pending) events (opened_after (length bytes) r) bytes b done (next_of (form_of r.pending) b) refl
          s.ends (read_complete q (events ++ done) (bytes ++ b ∷ []) t),
    )

pub not_plain : (r q : Reader) (events done : List Placed) (bytes : List ℕ) (b : ℕ)
    → (0 < r.left → (only_grown (within (form_of r.pending) b) ≡ None) × (makes_columns (form_of r.pending) b ≡ false))
    → StandsAfter r events bytes → are_plain done ≡ true → StandsAfter q (events ++ done) (bytes ++ b ∷ []) → ⊥
not_plain r q events done bytes b other s few t =
    let f = form_of r.pending in
    let c = completed r q events done bytes b s t in
    let n = other c.0 in
    none_plain (opened_after (length bytes) r) (length bytes) done (within f b) (settled f) (begin b) n.0
    (whole_none f b n.1) (settled_none f) few c.1
