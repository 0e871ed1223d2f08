-- The exit statuses of several files, and the line of each.
use Rattle.std.proofs.Common.{◌≡◌, ◌≤◌, ◌∷◌, ℕ, Bool, true, false, List, [], arith, refl, sym, fold, length, map}
use Rattle.std.proofs.Common.{slice_index_or, subst, suc, zero, inl, inr, ◌<◌, ◌-◌}
use Rattle.std.specs.Prelude.{◌⊎◌, All, Contains, nat_lt, if◌then◌else◌}
use Rattle.std.proofs.lemmas.Bool.{ltb-false, ltb-true}
use Rattle.std.proofs.lemmas.List.Elements.{All-cons, All-nil}
use Rattle.sixel_report.specs.declared.exit.Exit.{Exit}
use Rattle.sixel_report.specs.declared.exit.Exit.TheVariants as exit
use Rattle.sixel_report.specs.Exits.{exit_code}
use Rattle.sixel_program.specs.Files.{FileEnd, exit_of_end, files_exit, worse}
use Rattle.sixel_program.proofs.FilesLemmas.{from_done}

-- ---- the greatest

abbrev no_less : Exit → Exit → Type 0
no_less a b = exit_code a ≤ exit_code b

-- the worse of two is no less than either
chosen : (b : Bool) (x y : Exit) → nat_lt (exit_code x) (exit_code y) ≡ b
    → no_less x (if b then y else x) × no_less y (if b then y else x)
chosen true x y e = (omega (arith, ltb-true (exit_code x) (exit_code y) e), omega arith)
chosen false x y e = (omega arith, ltb-false (exit_code x) (exit_code y) e)

worse_of : (x y : Exit) → no_less x (worse x y) × no_less y (worse x y)
worse_of x y = chosen (nat_lt (exit_code x) (exit_code y)) x y refl

fold_no_less : (x : Exit) (exits : List Exit) → no_less x (fold worse x exits)
fold_no_less x [] = omega arith
fold_no_less x (y ∷ exits) = omega (arith, (worse_of x y).0, fold_no_less (worse x y) exits)

all_no_less : (x : Exit) (ends : List FileEnd)
    → All (λ e. no_less (exit_of_end e) (fold worse x (map exit_of_end ends))) ends
all_no_less x [] = All-nil (λ e. no_less (exit_of_end e) x)
all_no_less x (e ∷ ends) =
    let y = worse x (exit_of_end e) in
    All-cons (λ a. no_less (exit_of_end a) (fold worse y (map exit_of_end ends))) e ends
    (omega (arith, (worse_of x (exit_of_end e)).1, fold_no_less y (map exit_of_end ends))) (all_no_less y ends)

pub greatest_of : (ends : List FileEnd) → All (λ e. no_less (exit_of_end e) (files_exit ends)) ends
greatest_of ends = all_no_less exit.Done ends

-- ---- one of them

pub contains_later : {X : Type 0} (x v : X) (xs : List X) → Contains xs v → Contains (x ∷ xs) v
contains_later x v xs has = (suc has.0, omega (arith, has.1), has.2)

-- one more behind the first
contains_behind : (x y v : Exit) (exits : List Exit) (k : ℕ) → k < length (x ∷ exits)
    → slice_index_or (x ∷ exits) k v ≡ v → Contains (x ∷ y ∷ exits) v
contains_behind x y v exits zero below is = (0, omega arith, is)
contains_behind x y v exits (suc k) below is = (suc (suc k), omega (arith, below), is)

one_of : (b : Bool) (x y : Exit) → ((if b then y else x) ≡ x) ⊎ ((if b then y else x) ≡ y)
one_of true x y = inr refl
one_of false x y = inl refl

-- a fold from the first of a list is one of them
fold_reached : (x : Exit) (exits : List Exit) → Contains (x ∷ exits) (fold worse x exits)
fold_reached x [] = (0, omega arith, refl)
fold_reached x (y ∷ exits) = elim (one_of (nat_lt (exit_code x) (exit_code y)) x y) [
  | inl first ↦
      let has = fold_reached x exits in
      subst (λ (w : Exit). Contains (x ∷ y ∷ exits) (fold worse w exits)) (sym first)
      (contains_behind x y (fold worse x exits) exits has.0 has.1 has.2)
  | inr second ↦
      subst (λ (w : Exit). Contains (x ∷ y ∷ exits) (fold worse w exits)) (sym second)
      (contains_later x (fold worse y exits) (y ∷ exits) (fold_reached y exits))
]

pub reached : (e : FileEnd) (more : List FileEnd) → Contains (map exit_of_end (e ∷ more)) (files_exit (e ∷ more))
reached e more =
    let exits = map exit_of_end more in
    subst (λ (w : Exit). Contains (exit_of_end e ∷ exits) (fold worse w exits)) (sym (from_done (exit_of_end e)))
    (fold_reached (exit_of_end e) exits)
