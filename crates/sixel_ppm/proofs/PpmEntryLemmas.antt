-- The entries of the cache of registers.
use Rattle.std.proofs.Common.{◌≡◌, ℕ, ◌+◌, ◌*◌, ◌%◌, ◌<◌, Option, List}
use Rattle.std.proofs.Common.{length, get_or, replicate, refl, sym, ap, ◌∙◌, arith}
use Rattle.std.proofs.Common.{inl, inr, length-set}
use Rattle.std.specs.Prelude.{bit_or, slice_set}
use Rattle.std.proofs.lemmas.Bool.{cases_eq}
use Rattle.std.proofs.lemmas.Grind.{get_or-set_at}
use Rattle.std.proofs.lemmas.List.{get_or-replicate, get_or-set_other, length-replicate}
use Rattle.std.proofs.lemmas.Nat.{le_or_l, le_or_r}
use Rattle.sixel_ppm.specs.PpmPixelCache.{IsHit, IsPlaceOf, Knows, entry_of, place_of, second_of}
use Rattle.sixel_model.specs.declared.colour.Parts.{Parts}
use Rattle.sixel_ppm.specs.declared.ppm.pixel_cache.PixelCache.{PixelCache}

-- ---- entries

-- the place of an entry is one of the cache's
pub place_within : (key : ℕ) → place_of key < 4096
unfolding place_of
place_within key = omega arith

second_within : (key : ℕ) → second_of key < 4096
unfolding second_of
second_within key = omega arith

-- an entry with register 0, and that of the same samples with any register
key_with : (red green blue register : ℕ) → entry_of red green blue 0 + register ≡ entry_of red green blue register
key_with red green blue register = omega arith

-- entries are equal only if the samples and the registers are
same_red : (red green blue x r g b y : ℕ) → red < 256 → green < 256 → blue < 256 → x < 256 → r < 256 → g < 256 → b < 256
    → y < 256 → entry_of red green blue x ≡ entry_of r g b y → red ≡ r
same_red red green blue x r g b y r₁ g₁ b₁ x₁ r₂ g₂ b₂ y₂ e = omega (arith, e)

same_green : (red green blue x r g b y : ℕ) → red < 256 → green < 256 → blue < 256 → x < 256 → r < 256 → g < 256
    → b < 256 → y < 256 → entry_of red green blue x ≡ entry_of r g b y → green ≡ g
same_green red green blue x r g b y r₁ g₁ b₁ x₁ r₂ g₂ b₂ y₂ e = omega (arith, e)

same_blue : (red green blue x r g b y : ℕ) → red < 256 → green < 256 → blue < 256 → x < 256 → r < 256 → g < 256
    → b < 256 → y < 256 → entry_of red green blue x ≡ entry_of r g b y → blue ≡ b
same_blue red green blue x r g b y r₁ g₁ b₁ x₁ r₂ g₂ b₂ y₂ e = omega (arith, e)

same_register : (red green blue x r g b y : ℕ) → red < 256 → green < 256 → blue < 256 → x < 256 → r < 256 → g < 256
    → b < 256 → y < 256 → entry_of red green blue x ≡ entry_of r g b y → x ≡ y
same_register red green blue x r g b y r₁ g₁ b₁ x₁ r₂ g₂ b₂ y₂ e = omega (arith, e)

-- an entry that is a whole number of samples has register 0
whole_key : (red green blue x n : ℕ) → x < 256 → entry_of red green blue x ≡ 256 * n
    → entry_of red green blue 0 ≡ 256 * n
whole_key red green blue x n lt e = omega (arith, lt, e)

-- four numbers whose bits together are below 256
pub four_below : (a b c d e : ℕ) → bit_or (bit_or (bit_or a b) c) e < 256 → d ≡ e
    → (a < 256) × (b < 256) × (c < 256) × (d < 256)
four_below a b c d e lt is =
    let ab = bit_or a b in
    let abc = bit_or ab c in (
      omega (arith, lt, le_or_l a b, le_or_l ab c, le_or_l abc e),
      omega (arith, lt, le_or_r a b, le_or_l ab c, le_or_l abc e),
      omega (arith, lt, le_or_r ab c, le_or_l abc e),
      omega (arith, lt, is, le_or_r abc e),
    )

-- ---- what the cache holds

place_of_nothing : place_of 0 ≡ 0
unfolding place_of
place_of_nothing = refl

place_elsewhere : place_of 256 ≡ 887
unfolding place_of
place_elsewhere = refl

second_of_nothing : second_of 0 ≡ 0
unfolding second_of
second_of_nothing = refl

second_elsewhere : second_of 256 ≡ 2481
unfolding second_of
second_elsewhere = refl

-- the samples of black and of the entry that place 0 begins with
not_black : (red green blue place : ℕ) → entry_of red green blue 0 ≡ 0 → IsPlaceOf red green blue place → place ≡ 0
not_black red green blue place is (inl at) = at ∙ ap (λ n. place_of n) is ∙ place_of_nothing
not_black red green blue place is (inr at) = at ∙ ap (λ n. second_of n) is ∙ second_of_nothing

not_first : (red green blue place : ℕ) → entry_of red green blue 0 ≡ 256 → IsPlaceOf red green blue place → 0 < place
not_first red green blue place is (inl at) = omega (arith, at, ap (λ n. place_of n) is, place_elsewhere)
not_first red green blue place is (inr at) = omega (arith, at, ap (λ n. second_of n) is, second_elsewhere)

places_within : (red green blue place : ℕ) → IsPlaceOf red green blue place → place < 4096
places_within red green blue place (inl at) = omega (arith, at, place_within (entry_of red green blue 0))
places_within red green blue place (inr at) = omega (arith, at, second_within (entry_of red green blue 0))

-- an empty cache: each entry belongs in another place
pub none_cached : (cache : PixelCache) (maxval : ℕ) (palette : List (Option Parts)) (entry : ℕ)
    → cache.entries ≡ slice_set (replicate 4096 0) 0 entry → entry ≡ 256 → Knows cache maxval palette
none_cached cache maxval palette entry set elsewhere =
    let is : cache.entries ≡ slice_set (replicate 4096 0) 0 256 = rw elsewhere at set in
    let zeros : List ℕ = replicate 4096 0 in
    let many : length zeros ≡ 4096 = length-replicate {A = ℕ} 4096 0 in
    record {
      long = ap (λ (xs : List ℕ). length xs) is ∙ length-set zeros 0 256 ∙ many;
      hits = λ red green blue register place r g b x there e.
          let at : get_or (slice_set zeros 0 256) place 0 ≡ entry_of red green blue register =
          ap (λ (xs : List ℕ). get_or xs place 0) (sym is) ∙ e in
          elim (cases_eq place 0) [
            | inl first ↦
                let its : entry_of red green blue register ≡ 256 * 1 =
                sym at ∙ get_or-set_at zeros 0 place 256 0 first (omega (arith, many)) in
                let key_is : entry_of red green blue 0 ≡ 256 = whole_key red green blue register 1 x its in
                absurd (omega (arith, first, not_first red green blue place key_is there))
            | inr other ↦
                let its : entry_of red green blue register ≡ 256 * 0 =
                sym at ∙ get_or-set_other zeros 0 place 256 0 other
                ∙ get_or-replicate {A = ℕ} 4096 place 0 0 (places_within red green blue place there) in
                let key_is : entry_of red green blue 0 ≡ 0 = whole_key red green blue register 0 x its in
                absurd (other (not_black red green blue place key_is there))
          ];
    }

pub hit_as : (maxval : ℕ) (palette : List (Option Parts)) (red green blue register r g b x : ℕ) → red ≡ r → green ≡ g
    → blue ≡ b → register ≡ x → IsHit maxval palette red green blue register → IsHit maxval palette r g b x
hit_as maxval palette red green blue register r g b x e₁ e₂ e₃ e₄ hit = rw (sym e₁, sym e₂, sym e₃, sym e₄) hit

-- what was found in a place of a pixel
pub found_hit : (cache : PixelCache) (maxval : ℕ) (palette : List (Option Parts)) (red green blue key register : ℕ)
    → red < 256 → green < 256 → blue < 256 → register < 256 → key ≡ entry_of red green blue 0
    → get_or cache.entries (place_of key) 0 ≡ key + register → Knows cache maxval palette
    → IsHit maxval palette red green blue register
found_hit cache maxval palette red green blue key register rs gs bs xs is at knows =
    knows.hits red green blue register (place_of key) rs gs bs xs (inl (ap (λ n. place_of n) is))
    (at ∙ ap (λ n. n + register) is ∙ key_with red green blue register)

pub second_hit : (cache : PixelCache) (maxval : ℕ) (palette : List (Option Parts)) (red green blue key register : ℕ)
    → red < 256 → green < 256 → blue < 256 → register < 256 → key ≡ entry_of red green blue 0
    → get_or cache.entries (second_of key) 0 ≡ key + register → Knows cache maxval palette
    → IsHit maxval palette red green blue register
second_hit cache maxval palette red green blue key register rs gs bs xs is at knows =
    knows.hits red green blue register (second_of key) rs gs bs xs (inr (ap (λ n. second_of n) is))
    (at ∙ ap (λ n. n + register) is ∙ key_with red green blue register)

-- the cache with an entry in one more place
pub moved : (cache next : PixelCache) (maxval : ℕ) (palette : List (Option Parts)) (place key second : ℕ)
    → next.entries ≡ slice_set cache.entries second (get_or cache.entries place 0) → place ≡ place_of key
    → key + get_or cache.entries place 0 % 256 ≡ get_or cache.entries place 0 → second < 4096
    → Knows cache maxval palette → Knows next maxval palette
moved cache next maxval palette place key second entries first whole within knows =
    let entry = get_or cache.entries place 0 in
    record {
      long = ap (λ (es : List ℕ). length es) entries ∙ length-set cache.entries second entry ∙ knows.long;
      hits = λ r g b x i r₂ g₂ b₂ x₂ there e.
          let at : get_or (slice_set cache.entries second entry) i 0 ≡ entry_of r g b x =
          ap (λ (es : List ℕ). get_or es i 0) (sym entries) ∙ e in
          elim (cases_eq i second) [
            | inl same ↦
                let its : entry ≡ entry_of r g b x =
                sym (get_or-set_at cache.entries second i entry 0 same (omega (arith, knows.long, within))) ∙ at in
                let key_is : key ≡ entry_of r g b 0 = omega (arith, its, whole, x₂) in
                knows.hits r g b x place r₂ g₂ b₂ x₂ (inl (first ∙ ap (λ n. place_of n) key_is)) its
            | inr other ↦
                knows.hits r g b x i r₂ g₂ b₂ x₂ there
                (sym (get_or-set_other cache.entries second i entry 0 other) ∙ at)
          ];
    }

-- the cache with one more pixel
pub keeps : (cache next : PixelCache) (maxval : ℕ) (palette : List (Option Parts))
    (place key red green blue register : ℕ)
    → next.entries ≡ slice_set cache.entries place (key + register) → place ≡ place_of key → red < 256 → green < 256
    → blue < 256 → register < 256 → key ≡ entry_of red green blue 0 → Knows cache maxval palette
    → IsHit maxval palette red green blue register → Knows next maxval palette
keeps cache next maxval palette place key red green blue register entries at rs gs bs xs is knows hit = record {
  long = ap (λ (es : List ℕ). length es) entries ∙ length-set cache.entries place (key + register) ∙ knows.long;
  hits = λ r g b x i r₂ g₂ b₂ x₂ there e.
      let entry : get_or (slice_set cache.entries place (key + register)) i 0 ≡ entry_of r g b x =
      ap (λ (es : List ℕ). get_or es i 0) (sym entries) ∙ e in
      elim (cases_eq i place) [
        | inl same ↦
            let one : entry_of red green blue register ≡ entry_of r g b x =
            sym (key_with red green blue register) ∙ ap (λ n. n + register) (sym is)
            ∙ sym (get_or-set_at cache.entries place i (key + register) 0 same
            (omega (arith, knows.long, at, place_within key))) ∙ entry in
            hit_as maxval palette red green blue register r g b x
            (same_red red green blue register r g b x rs gs bs xs r₂ g₂ b₂ x₂ one)
            (same_green red green blue register r g b x rs gs bs xs r₂ g₂ b₂ x₂ one)
            (same_blue red green blue register r g b x rs gs bs xs r₂ g₂ b₂ x₂ one)
            (same_register red green blue register r g b x rs gs bs xs r₂ g₂ b₂ x₂ one) hit
        | inr other ↦
            knows.hits r g b x i r₂ g₂ b₂ x₂ there
            (sym (get_or-set_other cache.entries place i (key + register) 0 other) ∙ entry)
      ];
}
