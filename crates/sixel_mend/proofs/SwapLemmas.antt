-- Two colours exchanged: nothing else about the numbers of the colours changes.
use Rattle.std.proofs.Common.{◌≡◌, ◌||◌, ◌++◌, ◌+◌, ◌≤◌, ◌∷◌, ◌∙◌, [], ℕ, zero, suc, Bool, false, true, List, None, Option}
use Rattle.std.proofs.Common.{Some, ap, ap₂, cond, fold, length, map, refl, subst, sym}
use Rattle.std.specs.Prelude.{unwrap_or, if◌then◌else◌}
use Rattle.std.specs.List.{list_any, position_from}
use Rattle.std.specs.Option.{option_map}
use Rattle.std.proofs.lemmas.List.{length-map, map-append}
use Rattle.sixel_model.specs.declared.colour.Parts.{Parts}
use Rattle.sixel_model.specs.Colours.{is_same}
use Rattle.sixel_ppm.specs.PpmReading.{distinct, palette_of, register_among, with_colour}
use Rattle.sixel_ppm.proofs.PpmColourLemmas.{same_as_itself}
use Rattle.sixel_mend.specs.Marking.{IsNumbered}
use Rattle.sixel_mend.proofs.NumberLemmas.{same_is}

-- the first colour in place of the second, and the second in place of the first
abbrev pub swapped : Parts → Parts → Parts → Parts
swapped a b c = if is_same a c then b else if is_same b c then a else c

-- ---- it is its own inverse

swapped_twice : (a b c : Parts) → is_same a b ≡ false → swapped a b (swapped a b c) ≡ c
swapped_twice a b c other = by (is_same a c) (is_same b c) refl refl
  where
    by : (x y : Bool) → is_same a c ≡ x → is_same b c ≡ y → swapped a b (if x then b else if y then a else c) ≡ c
    by true y e f = rw (other, same_as_itself b) (same_is a c e)
    by false true e f = rw (same_as_itself a) (same_is b c f)
    by false false e f = rw (e, f) refl

alike : (c d : Parts) → c ≡ d → is_same c d ≡ true
alike c d e = subst (λ (x : Parts). is_same c x ≡ true) e (same_as_itself c)

-- such a map keeps which colours are the same
same_through : (f : Parts → Parts) → ((c : Parts) → f (f c) ≡ c) → (c d : Parts)
    → is_same (f c) (f d) ≡ is_same c d
same_through f twice c d = by (is_same (f c) (f d)) (is_same c d) refl refl
  where
    by : (x y : Bool) → is_same (f c) (f d) ≡ x → is_same c d ≡ y → x ≡ y
    by true true e g = refl
    by false false e g = refl
    by true false e g =
        let same : c ≡ d = sym (twice c) ∙ ap f (same_is (f c) (f d) e) ∙ twice d in sym (alike c d same) ∙ g
    by false true e g = sym e ∙ alike (f c) (f d) (ap f (same_is c d g))

pub swapped_same : (a b : Parts) → is_same a b ≡ false → (c d : Parts)
    → is_same (swapped a b c) (swapped a b d) ≡ is_same c d
swapped_same a b other c d = same_through (swapped a b) (λ x. swapped_twice a b x other) c d

-- ---- the numbers of mapped colours

module _ (f : Parts → Parts) (same : (c d : Parts) → is_same (f c) (f d) ≡ is_same c d) where
  seen_mapped : (seen : List Parts) (c : Parts) → list_any (is_same (f c)) (map f seen) ≡ list_any (is_same c) seen
  seen_mapped [] c = refl
  seen_mapped (d ∷ seen) c = ap₂ (λ (x y : Bool). x || y) (same c d) (seen_mapped seen c)

  with_mapped : (seen : List Parts) (c : Parts) → with_colour (map f seen) (f c) ≡ map f (with_colour seen c)
  with_mapped seen c =
      ap (λ (b : Bool). if b then map f seen else map f seen ++ f c ∷ []) (seen_mapped seen c)
      ∙ by (list_any (is_same c) seen)
    where
      by : (b : Bool)
          → (if b then map f seen else map f seen ++ f c ∷ []) ≡ map f (if b then seen else seen ++ c ∷ [])
      by true = refl
      by false = sym (map-append f seen (c ∷ []))

  fold_mapped : (seen more : List Parts)
      → fold with_colour (map f seen) (map f more) ≡ map f (fold with_colour seen more)
  fold_mapped seen [] = refl
  fold_mapped seen (c ∷ more) =
      ap (λ (s : List Parts). fold with_colour s (map f more)) (with_mapped seen c)
      ∙ fold_mapped (with_colour seen c) more

  position_mapped : (k : ℕ) (seen : List Parts) (c : Parts)
      → position_from (is_same (f c)) k (map f seen) ≡ position_from (is_same c) k seen
  position_mapped k [] c = refl
  position_mapped k (d ∷ seen) c =
      ap₂ (λ (b : Bool) (o : Option ℕ). cond b (Some k) o) (same c d) (position_mapped (k + 1) seen c)

  registers_mapped : (seen colours : List Parts)
      → map (register_among seen) colours ≡ map (register_among (map f seen)) (map f colours)
  registers_mapped seen [] = refl
  registers_mapped seen (c ∷ colours) =
      ap₂ (λ (r : ℕ) (rs : List ℕ). r ∷ rs) (ap (λ (o : Option ℕ). unwrap_or o 0) (sym (position_mapped 0 seen c)))
      (registers_mapped seen colours)

palette_mapped : (f : Parts → Parts) (n : ℕ) (seen : List Parts)
    → map (option_map f) (palette_of n seen) ≡ palette_of n (map f seen)
palette_mapped f zero seen = refl
palette_mapped f (suc n) [] = ap (λ (p : List (Option Parts)). None ∷ p) (palette_mapped f n [])
palette_mapped f (suc n) (c ∷ seen) = ap (λ (p : List (Option Parts)). Some (f c) ∷ p) (palette_mapped f n seen)

-- mapped colours have the same registers, and the mapped palette
pub numbered_mapped : (f : Parts → Parts) → ((c d : Parts) → is_same (f c) (f d) ≡ is_same c d) → {count : ℕ}
    {palette : List (Option Parts)} {registers : List ℕ} {colours : List Parts}
    → IsNumbered count palette registers colours
    → IsNumbered count (map (option_map f) palette) registers (map f colours)
numbered_mapped f same {count} {palette} {registers} {colours} is =
    let seen = distinct colours in
    let all : distinct (map f colours) ≡ map f seen = fold_mapped f same [] colours in
    record {
      palette_is =
          ap (λ (p : List (Option Parts)). map (option_map f) p) is.palette_is ∙ palette_mapped f count seen
          ∙ ap (palette_of count) (sym all);
      registers_are =
          is.registers_are ∙ registers_mapped f same seen colours
          ∙ ap (λ (s : List Parts). map (register_among s) (map f colours)) (sym all);
      few = subst (λ (n : ℕ). n ≤ count) (sym (ap (λ (s : List Parts). length s) all ∙ length-map seen f)) is.few;
    }
