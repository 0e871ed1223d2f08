-- The cache of registers by samples.
use Rattle.std.proofs.Common.{◌≡◌, ℕ, ◌+◌, ◌*◌, ◌<◌, ◌≤◌, true, Option, Some, List, [], Bool, Result, Ok, drop, false}
use Rattle.std.proofs.Common.{length-append, suc, zero, add-one, ◌==◌, ◌/◌, ◌%◌, ◌^◌, ◌-◌, cond, map, not, w8, ◌∷◌}
use Rattle.std.proofs.Common.{◌++◌, length, take, get_or, replicate, refl, sym, ap, ap₂, subst, ◌∙◌, arith}
use Rattle.std.proofs.Common.{append-nil}
use Rattle.std.proofs.Common.{inl, inr, append_assoc}
use Rattle.std.specs.List.{list_any, position_from}
use Rattle.std.proofs.Math.Nat.{zero-div}
use Rattle.std.proofs.lemmas.Bool.{cases_lt, eqb-true, not-false}
use Rattle.std.proofs.lemmas.Grind.{replicate_next}
use Rattle.std.proofs.lemmas.List.{length-take, take-append-drop}
use Rattle.std.proofs.lemmas.List.{get_or-append_right, get_or-take, take_more}
use Rattle.std.proofs.lemmas.Simd.{bit_mask_l, get_or-chunk, get_or-zip2, length-chunk, length-zip2, mask_l-mod}
use Rattle.std.proofs.lemmas.Simd.{tops_compared}
use lib.Lanes.{chunk, mask_l, top, zip2}
use Rattle.sixel_model.specs.Colours.{is_same}
use Rattle.sixel_model.specs.Pictures.{PictureValue}
use Rattle.sixel_ppm.specs.PpmColours.{KeepsRegisters}
use Rattle.sixel_ppm.specs.PpmPixelCache.{AreHits, AreSame, IsHit, Knows, PutsHits}
use Rattle.sixel_ppm.specs.PpmReading.{◌>>=◌, colour_of, distinct, picture_of, pixels, with_colour}
use Rattle.sixel_ppm.specs.PpmSamples.{HasRead, HoldsPixels, KnowsLast, Leads, PutsPixels, registers_in}
use Rattle.sixel_model.specs.declared.colour.Parts.{Parts}
use Rattle.sixel_ppm.specs.declared.ppm.PpmFault.{PpmFault}
use Rattle.sixel_ppm.specs.declared.ppm.colours.Colours.{Colours}
use Rattle.sixel_ppm.specs.declared.ppm.pixel_cache.PixelCache.{PixelCache}
use Rattle.sixel_ppm.specs.declared.ppm.samples.PartialPixel.TheVariants.{Nothing}
use Rattle.sixel_ppm.specs.declared.ppm.samples.Pixel.{Pixel}
use Rattle.sixel_ppm.specs.declared.ppm.samples.Samples.{Samples}
use Rattle.sixel_ppm.proofs.PpmColourLemmas.{index_among, numbered_before, position_then_any}
use Rattle.sixel_ppm.proofs.PpmSampleLemmas.{budget_whole, holds_more, leads_none, pixel_leads_on, pixel_led}
use Rattle.sixel_ppm.proofs.PpmEntryLemmas.{hit_as}

-- ---- pixels at the beginning of some bytes

pub hits_more : (maxval : ℕ) (palette : List (Option Parts)) (samples registers : List ℕ) (red green blue register : ℕ)
    → AreHits maxval palette samples registers → IsHit maxval palette red green blue register
    → AreHits maxval palette (samples ++ red ∷ green ∷ blue ∷ []) (registers ++ register ∷ [])
hits_more maxval palette [] [] red green blue register hits hit = (hit, tt)
hits_more maxval palette [] (x ∷ xs) red green blue register hits hit = absurd hits
hits_more maxval palette (r ∷ []) xs red green blue register hits hit = absurd hits
hits_more maxval palette (r ∷ g ∷ []) xs red green blue register hits hit = absurd hits
hits_more maxval palette (r ∷ g ∷ b ∷ samples) [] red green blue register hits hit = absurd hits
hits_more maxval palette (r ∷ g ∷ b ∷ samples) (x ∷ xs) red green blue register hits hit =
    (hits.0, hits_more maxval palette samples xs red green blue register hits.1 hit)

-- the samples of one more pixel
three_more : (bytes : List ℕ) (at : ℕ) → at + 3 ≤ length bytes
    → take (at + 3) bytes ≡ take at bytes ++ get_or bytes at 0 ∷ get_or bytes (at + 1) 0 ∷ get_or bytes (at + 2) 0 ∷ []
three_more bytes at room =
    let third : at + 3 ≡ at + 2 + 1 = omega arith in
    let second : at + 2 ≡ at + 1 + 1 = omega arith in
    let x : List ℕ = get_or bytes at 0 ∷ [] in
    let y : List ℕ = get_or bytes (at + 1) 0 ∷ [] in
    let z : List ℕ = get_or bytes (at + 2) 0 ∷ [] in
    let one : take (at + 1) bytes ≡ take at bytes ++ x = take_more bytes at 0 (omega arith) in
    let two : take (at + 2) bytes ≡ take (at + 1) bytes ++ y =
    ap (λ n. take n bytes) second ∙ take_more bytes (at + 1) 0 (omega arith) in
    let three : take (at + 3) bytes ≡ take (at + 2) bytes ++ z =
    ap (λ n. take n bytes) third ∙ take_more bytes (at + 2) 0 (omega arith) in
    three ∙ ap (λ (t : List ℕ). t ++ z) (two ∙ ap (λ (t : List ℕ). t ++ y) one)
    ∙ append_assoc (take at bytes ++ x) y z ∙ append_assoc (take at bytes) x (y ++ z)

pub hits_put : (maxval : ℕ) (palette : List (Option Parts)) (bytes : List ℕ) (count register : ℕ)
    (old before new : List ℕ) → 3 * count + 3 ≤ length bytes
    → IsHit maxval palette (get_or bytes (3 * count) 0) (get_or bytes (3 * count + 1) 0)
    (get_or bytes (3 * count + 2) 0) register
    → new ≡ before ++ register ∷ []
    → ((xs : List ℕ) × (before ≡ old ++ xs) × AreHits maxval palette (take (3 * count) bytes) xs)
    → (xs : List ℕ) × (new ≡ old ++ xs) × AreHits maxval palette (take (3 * (count + 1)) bytes) xs
hits_put maxval palette bytes count register old before new room hit pushed put =
    let place : 3 * (count + 1) ≡ 3 * count + 3 = omega arith in
    let prefix = ap (λ n. take n bytes) place ∙ three_more bytes (3 * count) room in (
      put.0 ++ register ∷ [],
      pushed ∙ ap (λ (t : List ℕ). t ++ register ∷ []) put.1 ∙ append_assoc old put.0 (register ∷ []),
      subst (λ (t : List ℕ). AreHits maxval palette t (put.0 ++ register ∷ [])) (sym prefix)
          (hits_more maxval palette (take (3 * count) bytes) put.0 _ _ _ register put.2 hit),
    )

-- four more pixels
pub hits_put_four : (maxval : ℕ) (palette : List (Option Parts)) (bytes : List ℕ) (count a b c d : ℕ)
    (old before one two three new : List ℕ) → 3 * (count + 4) ≤ length bytes
    → IsHit maxval palette (get_or bytes (3 * count) 0) (get_or bytes (3 * count + 1) 0)
    (get_or bytes (3 * count + 2) 0) a
    → IsHit maxval palette (get_or bytes (3 * (count + 1)) 0) (get_or bytes (3 * (count + 1) + 1) 0)
    (get_or bytes (3 * (count + 1) + 2) 0) b
    → IsHit maxval palette (get_or bytes (3 * (count + 2)) 0) (get_or bytes (3 * (count + 2) + 1) 0)
    (get_or bytes (3 * (count + 2) + 2) 0) c
    → IsHit maxval palette (get_or bytes (3 * (count + 3)) 0) (get_or bytes (3 * (count + 3) + 1) 0)
    (get_or bytes (3 * (count + 3) + 2) 0) d
    → one ≡ before ++ a ∷ [] → two ≡ one ++ b ∷ [] → three ≡ two ++ c ∷ [] → new ≡ three ++ d ∷ []
    → PutsHits maxval palette (take (3 * count) bytes) old before
    → PutsHits maxval palette (take (3 * (count + 4)) bytes) old new
hits_put_four maxval palette bytes count a b c d old before one two three new room h₁ h₂ h₃ h₄ e₁ e₂ e₃ e₄ put =
    let to = λ (n m : ℕ) (xs : List ℕ) (e : n ≡ m) (p : PutsHits maxval palette (take (3 * n) bytes) old xs).
    subst (λ k. PutsHits maxval palette (take (3 * k) bytes) old xs) e p in
    let first = hits_put maxval palette bytes count a old before one (omega (arith, room)) h₁ e₁ put in
    let second = hits_put maxval palette bytes (count + 1) b old one two (omega (arith, room)) h₂ e₂ first in
    let third = hits_put maxval palette bytes (count + 2) c old two three (omega (arith, room)) h₃ e₃
    (to (count + 1 + 1) (count + 2) two (omega arith) second) in
    let fourth = hits_put maxval palette bytes (count + 3) d old three new (omega (arith, room)) h₄ e₄
    (to (count + 2 + 1) (count + 3) three (omega arith) third) in
    to (count + 3 + 1) (count + 4) new (omega arith) fourth

long_hits : (maxval : ℕ) (palette : List (Option Parts)) (samples xs : List ℕ) → AreHits maxval palette samples xs
    → length samples ≡ 3 * length xs
long_hits maxval palette [] [] hits = refl
long_hits maxval palette [] (x ∷ xs) hits = absurd hits
long_hits maxval palette (r ∷ []) xs hits = absurd hits
long_hits maxval palette (r ∷ g ∷ []) xs hits = absurd hits
long_hits maxval palette (r ∷ g ∷ b ∷ samples) [] hits = absurd hits
long_hits maxval palette (r ∷ g ∷ b ∷ samples) (x ∷ xs) hits =
    let more = long_hits maxval palette samples xs hits.1 in omega (arith, more)

-- ---- pixels that repeat the one before them

no_bit_set : (t : Bool) (n : ℕ) → n ≡ 0 → cond t 1 0 ≡ n → t ≡ false
no_bit_set true n none e = absurd (omega (arith, none, e))
no_bit_set false n none e = refl

-- no lane differs
pub lanes_same : (from at : ℕ) (bytes : List ℕ) → from + 16 ≤ length bytes → at + 16 ≤ length bytes
    → (mask_l (map (top 7) (zip2 (λ a b. cond (not (a == b)) 255 0) (chunk at 16 bytes) (chunk from 16 bytes)))
    % 2 ^ 64 == 0) ≡ true
    → AreSame 16 from at bytes
lanes_same from at bytes room₁ room₂ e = λ i lt.
    let xs = chunk at 16 bytes in
    let ys = chunk from 16 bytes in
    let ms = zip2 (λ a b. not (a == b)) xs ys in
    let long : length xs ≡ 16 = length-chunk at 16 bytes room₂ in
    let longer : length ys ≡ 16 = length-chunk from 16 bytes room₁ in
    let lanes : length ms ≡ 16 = length-zip2 (λ a b. not (a == b)) xs ys (long ∙ sym longer) ∙ long in
    let none : mask_l ms ≡ 0 =
    sym (mask_l-mod ms 64 (omega (arith, lanes)))
    ∙ ap (λ (bs : List Bool). mask_l bs % 2 ^ 64) (sym (tops_compared w8 (λ a b. not (a == b)) xs ys))
    ∙ eqb-true _ 0 e in
    let nothing : mask_l ms / 2 ^ i % 2 ≡ 0 =
    ap (λ n. n / 2 ^ i % 2) none ∙ ap (λ n. n % 2) (zero-div (2 ^ i)) in
    let clear : get_or ms i false ≡ false = no_bit_set (get_or ms i false) _ nothing (sym (bit_mask_l ms i)) in
    let equal : (get_or xs i 0 == get_or ys i 0) ≡ true =
    not-false (get_or xs i 0 == get_or ys i 0)
    (sym (get_or-zip2 (λ a b. not (a == b)) xs ys i 0 0 false (omega (arith, long, lt)) (omega (arith, longer, lt)))
    ∙ clear) in
    sym (get_or-chunk at 16 bytes i 0 lt) ∙ eqb-true _ _ equal ∙ get_or-chunk from 16 bytes i 0 lt

moved : (bytes : List ℕ) (m n : ℕ) → m ≡ n → get_or bytes m 0 ≡ get_or bytes n 0
moved bytes m n e = ap (λ k. get_or bytes k 0) e

-- three groups of 16 bytes, one after another
pub three_same : (bytes : List ℕ) (from at : ℕ) → at ≡ from + 3 → AreSame 16 from (from + 3) bytes
    → AreSame 16 (from + 16) (from + 19) bytes → AreSame 16 (from + 32) (from + 35) bytes → AreSame 48 from at bytes
three_same bytes from at place first second third = λ i lt. elim (cases_lt i 16) [
  | inl one ↦ moved bytes (at + i) (from + 3 + i) (omega (arith, place)) ∙ first i one
  | inr past ↦ elim (cases_lt i 32) [
    | inl two ↦
        moved bytes (at + i) (from + 19 + (i - 16)) (omega (arith, place, past))
        ∙ second (i - 16) (omega (arith, two, past))
        ∙ moved bytes (from + 16 + (i - 16)) (from + i) (omega (arith, past))
    | inr more ↦
        moved bytes (at + i) (from + 35 + (i - 32)) (omega (arith, place, more))
        ∙ third (i - 32) (omega (arith, lt, more)) ∙ moved bytes (from + 32 + (i - 32)) (from + i) (omega (arith, more))
  ]
]

-- the hit at an index
hits_at : (maxval : ℕ) (palette : List (Option Parts)) (samples xs : List ℕ) (j : ℕ) → AreHits maxval palette samples xs
    → j < length xs
    → IsHit maxval palette (get_or samples (3 * j) 0) (get_or samples (3 * j + 1) 0) (get_or samples (3 * j + 2) 0)
    (get_or xs j 0)
hits_at maxval palette [] [] j hits lt = absurd (omega (arith, lt))
hits_at maxval palette [] (x ∷ xs) j hits lt = absurd hits
hits_at maxval palette (r ∷ []) xs j hits lt = absurd hits
hits_at maxval palette (r ∷ g ∷ []) xs j hits lt = absurd hits
hits_at maxval palette (r ∷ g ∷ b ∷ samples) [] j hits lt = absurd hits
hits_at maxval palette (r ∷ g ∷ b ∷ samples) (x ∷ xs) zero hits lt = hits.0
hits_at maxval palette (r ∷ g ∷ b ∷ samples) (x ∷ xs) (suc j) hits lt =
    let all = r ∷ g ∷ b ∷ samples in
    hit_as maxval palette (get_or samples (3 * j) 0) (get_or samples (3 * j + 1) 0) (get_or samples (3 * j + 2) 0)
    (get_or xs j 0) (get_or all (3 * suc j) 0) (get_or all (3 * suc j + 1) 0) (get_or all (3 * suc j + 2) 0)
    (get_or (x ∷ xs) (suc j) 0)
    (moved all (suc (suc (suc (3 * j)))) (3 * suc j) (omega arith))
    (moved all (suc (suc (suc (3 * j + 1)))) (3 * suc j + 1) (omega arith))
    (moved all (suc (suc (suc (3 * j + 2)))) (3 * suc j + 2) (omega arith))
    refl
    (hits_at maxval palette samples xs j hits.1 (omega (arith, lt)))

-- a pixel, and those after it that repeat it
repeated_hit : (maxval : ℕ) (palette : List (Option Parts)) (bytes : List ℕ) (d x k : ℕ) → k ≤ 16
    → AreSame 48 (3 * d) (3 * (d + 1)) bytes
    → IsHit maxval palette (get_or bytes (3 * d) 0) (get_or bytes (3 * d + 1) 0) (get_or bytes (3 * d + 2) 0) x
    → IsHit maxval palette (get_or bytes (3 * (d + k)) 0) (get_or bytes (3 * (d + k) + 1) 0)
    (get_or bytes (3 * (d + k) + 2) 0) x
repeated_hit maxval palette bytes d x zero le same hit =
    hit_as maxval palette _ _ _ x _ _ _ x (moved bytes (3 * d) (3 * (d + 0)) (omega arith))
    (moved bytes (3 * d + 1) (3 * (d + 0) + 1) (omega arith))
    (moved bytes (3 * d + 2) (3 * (d + 0) + 2) (omega arith)) refl hit
repeated_hit maxval palette bytes d x (suc k) le same hit =
    let before = repeated_hit maxval palette bytes d x k (omega (arith, le)) same hit in
    let next : (o : ℕ) → o < 3 → get_or bytes (3 * d + (3 * k + o)) 0 ≡ get_or bytes (3 * (d + 1) + (3 * k + o)) 0 =
    λ o lt. sym (same (3 * k + o) (omega (arith, le, lt))) in
    hit_as maxval palette _ _ _ x _ _ _ x
    (moved bytes (3 * (d + k)) (3 * d + (3 * k + 0)) (omega arith) ∙ next 0 (omega arith)
    ∙ moved bytes (3 * (d + 1) + (3 * k + 0)) (3 * (d + suc k)) (omega arith))
    (moved bytes (3 * (d + k) + 1) (3 * d + (3 * k + 1)) (omega arith) ∙ next 1 (omega arith)
    ∙ moved bytes (3 * (d + 1) + (3 * k + 1)) (3 * (d + suc k) + 1) (omega arith))
    (moved bytes (3 * (d + k) + 2) (3 * d + (3 * k + 2)) (omega arith) ∙ next 2 (omega arith)
    ∙ moved bytes (3 * (d + 1) + (3 * k + 2)) (3 * (d + suc k) + 2) (omega arith))
    refl before

repeats_put : (maxval : ℕ) (palette : List (Option Parts)) (bytes first before : List ℕ) (d x k : ℕ) → k ≤ 16
    → 3 * (d + 17) ≤ length bytes → AreSame 48 (3 * d) (3 * (d + 1)) bytes
    → IsHit maxval palette (get_or bytes (3 * d) 0) (get_or bytes (3 * d + 1) 0) (get_or bytes (3 * d + 2) 0) x
    → PutsHits maxval palette (take (3 * (d + 1)) bytes) first before
    → PutsHits maxval palette (take (3 * (d + 1 + k)) bytes) first (before ++ replicate k x)
repeats_put maxval palette bytes first before d x zero le room same hit put =
    subst (λ (n : ℕ). PutsHits maxval palette (take (3 * n) bytes) first (before ++ [])) (omega arith)
    (subst (λ (t : List ℕ). PutsHits maxval palette (take (3 * (d + 1)) bytes) first t) (sym (append-nil before)) put)
repeats_put maxval palette bytes first before d x (suc k) le room same hit put =
    let less = repeats_put maxval palette bytes first before d x k (omega (arith, le)) room same hit put in
    let one = repeated_hit maxval palette bytes d x (suc k) le same hit in
    let place : d + suc k ≡ d + 1 + k = omega arith in
    let longer : before ++ replicate (suc k) x ≡ (before ++ replicate k x) ++ x ∷ [] =
    ap (λ (t : List ℕ). before ++ t) (ap (λ n. replicate n x) (sym (add-one k)) ∙ replicate_next k x)
    ∙ sym (append_assoc before (replicate k x) (x ∷ [])) in
    subst (λ (n : ℕ). PutsHits maxval palette (take (3 * n) bytes) first (before ++ replicate (suc k) x)) (omega arith)
    (hits_put maxval palette bytes (d + 1 + k) x first (before ++ replicate k x) (before ++ replicate (suc k) x)
    (omega (arith, le, room))
    (subst (λ n. IsHit maxval palette (get_or bytes (3 * n) 0) (get_or bytes (3 * n + 1) 0)
    (get_or bytes (3 * n + 2) 0) x)
    place one) longer less)

-- a group that repeats the last pixel was added
pub group_repeated : (maxval : ℕ) (palette : List (Option Parts)) (bytes first before new : List ℕ) (count end : ℕ)
    → 0 < count → end ≡ count + 16 → 3 * end ≤ length bytes → AreSame 48 (3 * (count - 1)) (3 * count) bytes
    → new ≡ before ++ replicate 16 (get_or before (length before - 1) 0)
    → PutsHits maxval palette (take (3 * count) bytes) first before
    → PutsHits maxval palette (take (3 * end) bytes) first new
group_repeated maxval palette bytes first before new count end some stop room same is put =
    let d = count - 1 in
    let next : d + 1 ≡ count = omega (arith, some) in
    let xs = put.0 in
    let prefix = take (3 * count) bytes in
    let many : length xs ≡ count = omega (
      arith,
      long_hits maxval palette prefix xs put.2,
      length-take (3 * count) bytes,
      stop,
      room,
    ) in
    let last : get_or before (length before - 1) 0 ≡ get_or xs d 0 =
    ap (λ (t : List ℕ). get_or t (length before - 1) 0) put.1
    ∙ get_or-append_right first xs (length first) (length before - 1) 0 refl
    (omega (arith, ap (λ (t : List ℕ). length t) put.1, length-append first xs, many, some))
    ∙ ap (λ k. get_or xs k 0)
    (omega (arith, ap (λ (t : List ℕ). length t) put.1, length-append first xs, many, some)) in
    let inside : (o : ℕ) → o < 3 → get_or prefix (3 * d + o) 0 ≡ get_or bytes (3 * d + o) 0 =
    λ o lt. get_or-take (3 * count) bytes (3 * d + o) 0 (omega (arith, lt, next)) in
    let hit = hits_at maxval palette prefix xs d put.2 (omega (arith, many, next)) in
    let its : IsHit maxval palette (get_or bytes (3 * d) 0) (get_or bytes (3 * d + 1) 0) (get_or bytes (3 * d + 2) 0)
    (get_or before (length before - 1) 0) =
    hit_as maxval palette _ _ _ (get_or xs d 0) _ _ _ _
    (moved prefix (3 * d) (3 * d + 0) (omega arith) ∙ inside 0 (omega arith)
    ∙ moved bytes (3 * d + 0) (3 * d) (omega arith))
    (inside 1 (omega arith)) (inside 2 (omega arith)) (sym last) hit in
    let all = repeats_put maxval palette bytes first before d (get_or before (length before - 1) 0) 16 (omega arith)
    (omega (arith, next, stop, room)) (rw next same) its (rw next put) in
    subst (λ (t : List ℕ). PutsHits maxval palette (take (3 * end) bytes) first t) (sym is)
    (subst (λ n. PutsHits maxval palette (take (3 * n) bytes) first (before
    ++ replicate 16 (get_or before (length before - 1) 0))) (omega (arith, next, stop)) all)

-- the cache stays correct if no colour loses its register
pub still_cached : (cache : PixelCache) (maxval : ℕ) (old new : List (Option Parts)) → KeepsRegisters old new
    → Knows cache maxval old → Knows cache maxval new
still_cached cache maxval old new kept knows = record {
  long = knows.long;
  hits = λ red green blue register place r g b x there e.
      let hit = knows.hits red green blue register place r g b x there e in
      record {
        good_red = hit.good_red;
        good_green = hit.good_green;
        good_blue = hit.good_blue;
        first = kept (colour_of maxval red green blue) register hit.first;
      };
}

-- ---- reading pixels that are in the cache

-- what the bytes to come make of the reading, after the pixels of these colours
abbrev OnFrom : Colours → ℕ → ℕ → ℕ → ℕ → List Parts → ℕ → List ℕ → Result PictureValue PpmFault
OnFrom kept maxval width height left colours place bytes =
    pixels (length kept.palette) maxval left colours place bytes >>= (λ all. Ok
    (picture_of (length kept.palette) width height all))

-- after the pixels with these samples
abbrev LeadsFrom : Colours → Option Pixel → ℕ → ℕ → ℕ → List ℕ → List ℕ → List ℕ → ℕ → ℕ → ℕ → ℕ → List Parts → Type 0
LeadsFrom kept last maxval width height samples xs registers left fewer place next colours =
    (more : List Parts) × HoldsPixels kept last maxval (registers ++ xs) fewer (width * height) more
    × ((rest : List ℕ) → OnFrom kept maxval width height left colours place (samples ++ rest)
    ≡ OnFrom kept maxval width height fewer more next rest)

hits_lead : (kept : Colours) (last : Option Pixel) (maxval width height : ℕ) (samples xs registers : List ℕ)
    (left fewer place next : ℕ) (colours : List Parts) → fewer + length xs ≡ left → place + 3 * length xs ≡ next
    → HoldsPixels kept last maxval registers left (width * height) colours → AreHits maxval kept.palette samples xs
    → LeadsFrom kept last maxval width height samples xs registers left fewer place next colours
hits_lead kept last maxval width height [] [] registers left fewer place next colours less on holds hits =
    let same : fewer ≡ left = omega (arith, less) in
    let there : place ≡ next = omega (arith, on) in (
      colours,
      subst (λ (rs : List ℕ). HoldsPixels kept last maxval rs fewer (width * height) colours)
          (sym (append-nil registers))
          (subst (λ n. HoldsPixels kept last maxval registers n (width * height) colours) (sym same) holds),
      λ rest. ap₂ (λ n at. OnFrom kept maxval width height n colours at rest) (sym same) there,
    )
hits_lead kept last maxval width height [] (x ∷ xs) registers left fewer place next colours less on holds hits =
    absurd hits
hits_lead kept last maxval width height (r ∷ []) xs registers left fewer place next colours less on holds hits =
    absurd hits
hits_lead kept last maxval width height (r ∷ g ∷ []) xs registers left fewer place next colours less on holds hits =
    absurd hits
hits_lead kept last maxval width height (r ∷ g ∷ b ∷ samples) [] registers left fewer place next colours less on holds
    hits =
    absurd hits
hits_lead kept last maxval width height (r ∷ g ∷ b ∷ samples) (x ∷ xs) registers left fewer place next colours less on
    holds hits =
    let hit = hits.0 in
    let c = colour_of maxval r g b in
    let seen = distinct colours in
    let at : position_from (is_same c) 0 seen ≡ Some x = index_among kept seen c (Some x) holds.fills (sym hit.first) in
    let any : list_any (is_same c) seen ≡ true = position_then_any (is_same c) seen 0 x at in
    let same : with_colour seen c ≡ seen = rw any refl in
    let numbered = numbered_before kept seen c (Some x) x refl (sym hit.first) holds.fills in
    let knows : KnowsLast last maxval (with_colour seen c) =
    subst (λ (d : List Parts). KnowsLast last maxval d) (sym same) holds.knows_last in
    let mid : fewer + length xs + 1 ≡ left = omega (arith, less) in
    let held = holds_more kept kept last last maxval registers left (width * height) colours c x (fewer + length xs) mid
    holds numbered.1 knows numbered.0 in
    let more = hits_lead kept last maxval width height samples xs (registers ++ x ∷ []) (fewer + length xs) fewer
    (place + 3) next (colours ++ c ∷ []) refl (omega (arith, on)) held hits.1 in (
      more.0,
      subst (λ (rs : List ℕ). HoldsPixels kept last maxval rs fewer (width * height) more.0)
          (append_assoc registers (x ∷ []) xs) more.1,
      λ rest. pixel_led (length kept.palette) maxval left (fewer + length xs) place (place + 3) r g b width height
          colours (samples ++ rest) mid refl hit.good_red hit.good_green hit.good_blue numbered.1.few ∙ more.2 rest,
    )

-- pixels that were added
pub pixels_lead : (old new : Samples) (bytes : List ℕ) (count : ℕ) → 3 * count ≤ length bytes
    → PutsPixels old new bytes count → Leads old new (take (3 * count) bytes)
pixels_lead old new bytes count within put = λ colours holds.
    let xs = put.registers.0 in
    let prefix = take (3 * count) bytes in
    let many : length xs ≡ count = omega (
      arith,
      long_hits old.maxval old.colours.palette prefix xs put.registers.2,
      length-take (3 * count) bytes,
      within,
    ) in
    let less : new.left + length xs ≡ old.left = omega (arith, many, put.left) in
    let place : old.place + 3 * length xs ≡ new.place = omega (arith, many, put.place) in
    let same : registers_in new ≡ registers_in old = ap (λ (c : Colours). length c.palette) put.colours in
    let led = hits_lead old.colours old.last old.maxval old.width old.height prefix xs old.registers.items old.left
    new.left old.place new.place colours less place holds put.registers.2 in (
      led.0,
      rw (put.colours, put.last, put.maxval, put.registers.1, put.width, put.height) led.1,
      λ rest. rw (same, put.maxval, put.width, put.height) (led.2 rest),
    )

pub cached_read : (old new : Samples) (bytes rest : List ℕ) (count : ℕ) → 3 * count ≤ length bytes
    → old.partial ≡ Nothing → rest ≡ drop (3 * count) bytes → PutsPixels old new bytes count
    → HasRead old new bytes rest
cached_read old new bytes rest count within partial is put =
    let after : new.partial ≡ Nothing = put.partial ∙ partial in
    record {
      prefix = take (3 * count) bytes;
      joined = sym (ap (λ (t : List ℕ). take (3 * count) bytes ++ t) is ∙ take-append-drop (3 * count) bytes);
      fewer = omega (
        arith,
        budget_whole old partial,
        budget_whole new after,
        put.left,
        length-take (3 * count) bytes,
        within,
      );
      leads = pixel_leads_on old new (take (3 * count) bytes) partial after
          (pixels_lead old new bytes count within put);
    }

pub nothing_read : (s : Samples) (bytes : List ℕ) → HasRead s s bytes bytes
nothing_read s bytes = record { prefix = []; joined = refl; fewer = omega arith; leads = leads_none s }
