-- The longest runs, as a loop finds them from the beginning.
use Rattle.std.proofs.Common.{◌≡◌, ◌≢◌, ℕ, zero, suc, ◌+◌, Bool, true, false, not, ◌||◌, cond, Some, List, [], ◌∷◌}
use Rattle.std.proofs.Common.{◌++◌}
use Rattle.std.proofs.Common.{replicate, refl, sym, ap, ◌∙◌, add-one}
use Rattle.std.specs.Prelude.{◌==◌, slice_get}
use Rattle.std.proofs.lemmas.Bool.{eqb-true, eqb-false, eq-eqb, ne_eqb, not_from_false, or_left, or_right}
use Rattle.std.proofs.lemmas.List.{append-nil}
use Rattle.std.proofs.lemmas.List.Folds.{list_any-append}
use Rattle.std.proofs.Math.Bool.{or-false}
use Rattle.sixel_encode.specs.Canon.{Run, onto_runs, runs, has_bits, without_blanks}

-- the first run has this item
record Heads (c : ℕ) (rs : List Run) : Type 0 where
  first : Run
  rest : List Run
  is : rs ≡ first ∷ rest
  item : first.item ≡ c

heads_step : (c : ℕ) (r : Run) (rs : List Run) (t : Bool)
    → Heads c (cond t (record { count = r.count + 1; item = c } ∷ rs) (record { count = 1; item = c } ∷ r ∷ rs))
heads_step c r rs true = record { first = record { count = r.count + 1; item = c }; rest = rs; is = refl; item = refl }
heads_step c r rs false = record { first = record { count = 1; item = c }; rest = r ∷ rs; is = refl; item = refl }

heads : (c : ℕ) (rs : List Run) → Heads c (onto_runs c rs)
heads c [] = record { first = record { count = 1; item = c }; rest = []; is = refl; item = refl }
heads c (r ∷ rs) = heads_step c r rs (r.item == c)

onto_other : (b : ℕ) (r : Run) (rs : List Run) → r.item ≢ b
    → onto_runs b (r ∷ rs) ≡ record { count = 1; item = b } ∷ r ∷ rs
onto_other b r rs n = rw (ne_eqb r.item b n) refl

one_prefix : (b : ℕ) (bs : List ℕ) → slice_get bs 0 ≢ Some b
    → onto_runs b (runs bs) ≡ record { count = 1; item = b } ∷ runs bs
unfolding runs
one_prefix b [] n = refl
one_prefix b (c ∷ cs) n =
    let h : Heads c (onto_runs c (runs cs)) = heads c (runs cs) in
    let other : h.first.item ≢ b = (λ e. n (ap (λ (x : ℕ). Some x) (sym h.item ∙ e))) in
    ap (onto_runs b) h.is ∙ onto_other b h.first h.rest other
    ∙ ap (λ (rs : List Run). record { count = 1; item = b } ∷ rs) (sym h.is)

onto_same : (b n : ℕ) (rs : List Run)
    → onto_runs b (record { count = n; item = b } ∷ rs) ≡ record { count = suc n; item = b } ∷ rs
onto_same b n rs = rw (eq-eqb b b refl, add-one) refl

-- all equal items at the beginning form the first run
pub runs_prefix : (n b : ℕ) (bs : List ℕ) → slice_get bs 0 ≢ Some b
    → runs (replicate (suc n) b ++ bs) ≡ record { count = suc n; item = b } ∷ runs bs
unfolding runs
runs_prefix zero b bs h = one_prefix b bs h
runs_prefix (suc n) b bs h = ap (onto_runs b) (runs_prefix n b bs h) ∙ onto_same b (suc n) (runs bs)

-- ---- columns without the blank ones at their end

-- a set bit follows these columns
without_before : (bs cs : List ℕ) → has_bits cs ≡ true → without_blanks (bs ++ cs) ≡ bs ++ without_blanks cs
without_before [] cs h = refl
without_before (b ∷ bs) cs h =
    let some : has_bits (b ∷ (bs ++ cs)) ≡ true =
    or_right (not (b == 0)) (has_bits (bs ++ cs))
    (list_any-append (λ bits. not (bits == 0)) bs cs ∙ or_right (has_bits bs) (has_bits cs) h) in
    rw some (ap (λ (t : List ℕ). b ∷ t) (without_before bs cs h))

-- these columns have set bits
without_after : (n b : ℕ) (cs : List ℕ) → b ≢ 0
    → without_blanks (replicate n b ++ cs) ≡ replicate n b ++ without_blanks cs
without_after zero b cs h = refl
without_after (suc n) b cs h =
    let some : has_bits (b ∷ (replicate n b ++ cs)) ≡ true =
    or_left (not (b == 0)) (has_bits (replicate n b ++ cs)) (not_from_false (b == 0) (ne_eqb b 0 h)) in
    rw some (ap (λ (t : List ℕ). b ∷ t) (without_after n b cs h))

none_blank : (n : ℕ) → has_bits (replicate n 0) ≡ false
none_blank zero = refl
none_blank (suc n) = none_blank n

-- only blank columns: nothing is left
pub without_all : (n : ℕ) → without_blanks (replicate n 0) ≡ []
without_all zero = refl
without_all (suc n) = rw (none_blank (suc n)) refl

-- blank columns at the end make no difference
pub without_padding : (cs : List ℕ) (n : ℕ) → without_blanks (cs ++ replicate n 0) ≡ without_blanks cs
without_padding [] n = without_all n
without_padding (c ∷ cs) n =
    let ink : has_bits (c ∷ (cs ++ replicate n 0)) ≡ has_bits (c ∷ cs) =
    ap (λ (t : Bool). not (c == 0) || t)
    (list_any-append (λ bits. not (bits == 0)) cs (replicate n 0)
    ∙ ap (λ (t : Bool). has_bits cs || t) (none_blank n) ∙ or-false (has_bits cs)) in
    rw (ink, without_padding cs n) refl

first_step : (b c : ℕ) (cs : List ℕ) (t : Bool) → c ≢ b → slice_get (cond t (c ∷ cs) []) 0 ≢ Some b
first_step b c cs true h = λ e. h (cc e)
first_step b c cs false h = λ e. cc e

-- what is left of columns that begin with c doesn't begin with another column b
first_left : (b c : ℕ) (cs : List ℕ) → c ≢ b → slice_get (without_blanks (c ∷ cs)) 0 ≢ Some b
first_left b c cs h = first_step b c (without_blanks cs) (has_bits (c ∷ cs)) h

-- equal columns before a different one aren't blank ones at the end
without_run : (n b c : ℕ) (cs : List ℕ) (t : Bool) → (t ≡ true → b ≡ 0) → (t ≡ false → b ≢ 0) → c ≢ b
    → without_blanks (replicate n b ++ c ∷ cs) ≡ replicate n b ++ without_blanks (c ∷ cs)
without_run n b c cs true zero_bits bits h =
    let some : c ≢ 0 = (λ e. h (e ∙ sym (zero_bits refl))) in
    without_before (replicate n b) (c ∷ cs)
    (or_left (not (c == 0)) (has_bits cs) (not_from_false (c == 0) (ne_eqb c 0 some)))
without_run n b c cs false zero_bits bits h = without_after n b (c ∷ cs) (bits refl)

-- equal columns before a different one are the first run
pub run_before : (n b c : ℕ) (cs : List ℕ) → c ≢ b
    → runs (without_blanks (replicate (suc n) b ++ c ∷ cs))
    ≡ record { count = suc n; item = b } ∷ runs (without_blanks (c ∷ cs))
run_before n b c cs h =
    ap runs (without_run (suc n) b c cs (b == 0) (eqb-true b 0) (eqb-false b 0) h)
    ∙ runs_prefix n b (without_blanks (c ∷ cs)) (first_left b c cs h)

-- equal columns with set bits at the end are the last run
pub run_at_end : (n b : ℕ) → b ≢ 0
    → runs (without_blanks (replicate (suc n) b)) ≡ record { count = suc n; item = b } ∷ []
unfolding runs
run_at_end n b h =
    ap (λ (t : List ℕ). runs (without_blanks t)) (sym (append-nil (replicate (suc n) b)))
    ∙ ap runs (without_after (suc n) b [] h)
    ∙ runs_prefix n b [] (λ e. cc e)
