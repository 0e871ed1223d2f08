-- What a byte completes that doesn't complete just one command: the start, the finish or two commands.
use Rattle.std.proofs.Common.{◌≡◌, ◌<◌, ℕ, Bool, true, false, eqb, leb, ltb, List, ◌∷◌, [], ◌++◌, length, Option}
use Rattle.std.proofs.Common.{Some, None, refl, ap}
use Rattle.std.specs.Prelude.{◌&&◌, ◌||◌, OnSome}
use Rattle.std.proofs.lemmas.Bool.{cond_both, both_ways}
use Rattle.sixel_grammar.specs.declared.command.Event.{Event}
use Rattle.sixel_grammar.specs.declared.command.Placed.{Placed}
use Rattle.sixel_grammar.specs.declared.reader.Reader.{Reader}
use Rattle.sixel_grammar.specs.Bytes.{is_filler, is_data, is_digit}
use Rattle.sixel_grammar.specs.Faults.{Form, NothingYet, Introducing, Parameters, LastSeparator, NoCommand}
use Rattle.sixel_grammar.specs.Faults.{RepeatNumber, RasterFields, ColourFields, Terminating, Ended}
use Rattle.sixel_grammar.specs.Next.{with_digit, number_next, begin, within, settled, chosen, only_grown}
use Rattle.sixel_grammar.specs.Next.{ends_repeat, makes_command}
use Rattle.sixel_grammar.specs.Pending.{form_of}
use Rattle.sixel_grammar.specs.Standing.{StandsAfter, are_one_command, is_command, opened_after}
use Rattle.sixel_grammar.proofs.NotPlainLemmas.{Completes, completed}

abbrev whole_command : Option (Form × Option Event) → Bool
whole_command None = false
whole_command (Some (f, None)) = false
whole_command (Some (f, Some e)) = is_command e

abbrev No : Option (Form × Option Event) → Type 0
No w = whole_command w ≡ false

none_of : (a b c : Bool) → (a || b || c) ≡ false → (a ≡ false) × (b ≡ false) × (c ≡ false)
none_of true b c h = cc
none_of false true c h = cc
none_of false false c h = (refl, refl, h)

begins_none : (b : ℕ) → eqb b 36 ≡ false → eqb b 45 ≡ false → is_data b ≡ false → No (begin b)
begins_none b return line other =
    cond_both (is_data b) _ _ No (λ t. absurd (both_ways (is_data b) other t))
    (λ _. cond_both (is_filler b) _ _ No (λ _. refl)
    (λ _. cond_both (eqb b 33) _ _ No (λ _. refl)
    (λ _. cond_both (eqb b 34) _ _ No (λ _. refl)
    (λ _. cond_both (eqb b 35) _ _ No (λ _. refl)
    (λ _. cond_both (eqb b 36) _ _ No (λ t. absurd (both_ways (eqb b 36) return t))
    (λ _. cond_both (eqb b 45) _ _ No (λ t. absurd (both_ways (eqb b 45) line t))
    (λ _. cond_both (eqb b 27) _ _ No (λ _. refl)
    (λ _. cond_both (eqb b 156) _ _ No (λ _. refl) (λ _. refl)))))))))

digit_none : (form : ℕ → Form) (n b : ℕ) → No (number_next form n b)
digit_none form n b = cond_both (leb (with_digit n b) 65535) _ _ No (λ _. refl) (λ _. refl)

-- a byte that continues what is open
whole_none : (f : Form) (b : ℕ) → ends_repeat f b ≡ false → makes_command f b ≡ false → No (within f b)
whole_none NothingYet b other still =
    cond_both (is_filler b) _ _ No (λ _. refl)
    (λ _. cond_both (eqb b 27) _ _ No (λ _. refl)
    (λ _. cond_both (eqb b 144) _ _ No (λ _. refl) (λ _. refl)))
whole_none Introducing b other still = cond_both (eqb b 80) _ _ No (λ _. refl) (λ _. refl)
whole_none (Parameters eight ns n) b other still =
    cond_both (is_digit b) _ _ No (λ _. digit_none (Parameters eight ns) n b)
    (λ _. cond_both (ltb (length ns) 3) _ _ No
    (λ _. cond_both (eqb b 59) _ _ No
    (λ _. cond_both (ltb (length ns) 2) _ _ No (λ _. refl) (λ _. refl))
    (λ _. cond_both (eqb b 113) _ _ No (λ _. refl) (λ _. refl)))
    (λ _. refl))
whole_none (LastSeparator eight ns) b other still = cond_both (eqb b 113) _ _ No (λ _. refl) (λ _. refl)
whole_none NoCommand b other still =
    let none = none_of (eqb b 36) (eqb b 45) (is_data b) still in begins_none b none.0 none.1 none.2
whole_none (RepeatNumber n) b other still =
    cond_both (is_digit b) _ _ No (λ _. digit_none RepeatNumber n b)
    (λ _. cond_both (is_data b) _ _ No (λ t. absurd (both_ways (is_data b) other t)) (λ _. refl))
whole_none (RasterFields ns n) b other still =
    cond_both (is_digit b) _ _ No (λ _. digit_none (RasterFields ns) n b)
    (λ _. cond_both (eqb b 59 && ltb (length ns) 3) _ _ No (λ _. refl) (λ _. refl))
whole_none (ColourFields ns n) b other still =
    cond_both (is_digit b) _ _ No (λ _. digit_none (ColourFields ns) n b)
    (λ _. cond_both (eqb b 59 && ltb (length ns) 4) _ _ No (λ _. refl) (λ _. refl))
whole_none Terminating b other still = cond_both (eqb b 92) _ _ No (λ _. refl) (λ _. refl)
whole_none Ended b other still = cond_both (is_filler b) _ _ No (λ _. refl) (λ _. refl)

none_one : (opened n : ℕ) (done : List Placed) (w : Option (Form × Option Event)) (s : Option Event)
    (y : Option (Form × Option Event)) → only_grown w ≡ None → No w → OnSome s (only_grown y ≡ None)
    → are_one_command done ≡ true → Completes opened n (chosen w s y) done → ⊥
none_one opened n done None None y g h e few c = c
none_one opened n done None (Some k) None g h e few c = c
none_one opened n done None (Some k) (Some (f, None)) g h e few c = cc
none_one opened n done None (Some k) (Some (f, Some d)) g h e few c = cc (ap are_one_command c)
none_one opened n done (Some (f, None)) s y g h e few c = cc
none_one opened n done (Some (f, Some d)) s y g h e few c = cc (ap are_one_command c)

pub not_one_command : (r q : Reader) (events done : List Placed) (bytes : List ℕ) (b : ℕ)
    → (0 < r.left → only_grown (within (form_of r.pending) b) ≡ None)
    → (0 < r.left → ends_repeat (form_of r.pending) b ≡ false)
    → (0 < r.left → makes_command (form_of r.pending) b ≡ false)
    → (0 < r.left → OnSome (settled (form_of r.pending)) (only_grown (begin b) ≡ None))
    → StandsAfter r events bytes → are_one_command done ≡ true → StandsAfter q (events ++ done) (bytes ++ b ∷ []) → ⊥
not_one_command r q events done bytes b grown repeat whole ends_none s few t =
    let f = form_of r.pending in
    let c = completed r q events done bytes b s t in
    none_one (opened_after (length bytes) r) (length bytes) done (within f b) (settled f) (begin b) (grown c.0)
    (whole_none f b (repeat c.0) (whole c.0)) (ends_none c.0) few c.1
