-- The runs of a row, joined, are the row, and each run is as long as it can be.
use Rattle.std.proofs.Common.{◌≡◌, ◌≢◌, ℕ, ◌+◌, Bool, true, false, cond, List, [], ◌∷◌, refl, sym, ap, ◌∙◌, add-one}
use Rattle.std.proofs.Common.{arith}
use Rattle.std.specs.Prelude.{◌==◌}
use Rattle.std.proofs.lemmas.Bool.{eqb-true, eqb-false}
use Rattle.sixel_encode.specs.Canon.{Run, onto_runs, runs}
use Rattle.sixel_encode_laws.specs.Laws.{AreLongest, RunsAreLongest, RunsGiveTheirRow, items_of}

onto_step : (b : ℕ) (r : Run) (rs : List Run) (t : Bool) → (t ≡ true → r.item ≡ b)
    → items_of (cond t (record { count = r.count + 1; item = b } ∷ rs) (record { count = 1; item = b } ∷ r ∷ rs))
    ≡ b ∷ items_of (r ∷ rs)
onto_step b r rs true h = rw (add-one, h refl) refl
onto_step b r rs false h = refl

onto_joined : (b : ℕ) (rs : List Run) → items_of (onto_runs b rs) ≡ b ∷ items_of rs
onto_joined b [] = refl
onto_joined b (r ∷ rs) = onto_step b r rs (r.item == b) (eqb-true r.item b)

pub runs_joined : RunsGiveTheirRow
unfolding runs
runs_joined [] = refl
runs_joined (b ∷ bs) = onto_joined b (runs bs) ∙ ap (λ (xs : List ℕ). b ∷ xs) (runs_joined bs)

longest_more : (b n : ℕ) (r : Run) (rs : List Run) → r.item ≡ b → AreLongest (r ∷ rs)
    → AreLongest (record { count = n + 1; item = b } ∷ rs)
longest_more b n r [] e h = omega arith
longest_more b n r (s ∷ rs) e h = (omega arith, (λ same. h.1 (e ∙ same)), h.2)

longest_step : (b : ℕ) (r : Run) (rs : List Run) (t : Bool) → (t ≡ true → r.item ≡ b) → (t ≡ false → r.item ≢ b)
    → AreLongest (r ∷ rs)
    → AreLongest (cond t (record { count = r.count + 1; item = b } ∷ rs) (record { count = 1; item = b } ∷ r ∷ rs))
longest_step b r rs true h k l = longest_more b r.count r rs (h refl) l
longest_step b r rs false h k l = (omega arith, (λ same. k refl (sym same)), l)

onto_longest : (b : ℕ) (rs : List Run) → AreLongest rs → AreLongest (onto_runs b rs)
onto_longest b [] h = omega arith
onto_longest b (r ∷ rs) h = longest_step b r rs (r.item == b) (eqb-true r.item b) (eqb-false r.item b) h

pub runs_longest : RunsAreLongest
unfolding runs
runs_longest [] = tt
runs_longest (b ∷ bs) = onto_longest b (runs bs) (runs_longest bs)
