-- The pixels of a screen during drawing.
use Rattle.std.proofs.Common.{◌≡◌, ℕ, ◌+◌, ◌-◌, ◌*◌, ◌/◌, ◌%◌, ◌<◌, ◌≤◌, Bool, true, false, ◌&&◌, ◌||◌, cond}
use Rattle.std.proofs.Common.{Some, None, List, length, get_or, nat_le, nat_lt, refl, sym, ap, ◌∙◌, arith}
use Rattle.std.proofs.Math.Bool.{and-false}
use Rattle.std.proofs.lemmas.Bool.Decides.{nat_tests}
use Rattle.sixel_model.proofs.RunLemmas.{in_row}
use Rattle.sixel_terminal.specs.declared.pixel.Ink.{Ink}
use Rattle.sixel_terminal.specs.declared.pixel.Ink.TheVariants.{Fixed, Bound}
use Rattle.sixel_terminal.specs.declared.canvas.Span.{Span}
use Rattle.sixel_terminal.specs.Canvases.{black, is_in_span, laid_under}
use Rattle.sixel_terminal.specs.Pixels.{register_in_ink}

-- in the rows of the span that are below n, the pixels of the columns are what f makes of them
pub record IsFilledBelow (n w : ℕ) (columns rows : Span) (f : Ink → Ink) (old new : List Ink) : Type 0 where
  pub long : length new ≡ length old
  pub pixels : (i : ℕ) → i < length old
      → get_or new i black
      ≡ cond (is_in_span columns (i % w) && (nat_le rows.start (i / w) && nat_lt (i / w) n)) (f (get_or old i black))
      (get_or old i black)

-- no number is at least n and below n
none_between : (n y : ℕ) → (nat_le n y && nat_lt y n) ≡ false
none_between n y = grind (arith, nat_tests)

-- one more row
one_row_more : (s n y : ℕ) → s ≤ n
    → (nat_le s y && nat_lt y (n + 1)) ≡ ((nat_le n y && nat_lt y (n + 1)) || (nat_le s y && nat_lt y n))
one_row_more s n y h = grind (arith, nat_tests)

pub filled_none : (w : ℕ) (columns rows : Span) (f : Ink → Ink) (xs : List Ink)
    → IsFilledBelow rows.start w columns rows f xs xs
filled_none w columns rows f xs = record {
  long = refl;
  pixels = λ i lt.
      ap (λ t. cond t (f (get_or xs i black)) (get_or xs i black))
      (sym (ap (λ t. is_in_span columns (i % w) && t) (none_between rows.start (i / w))
      ∙ and-false (is_in_span columns (i % w))));
}

-- a pixel of a row t over the rows b; what f has made, it leaves
over_rows : (f : Ink → Ink) (a t b : Bool) (old : Ink) → f (f old) ≡ f old
    → cond (a && t) (f (cond (a && b) (f old) old)) (cond (a && b) (f old) old) ≡ cond (a && (t || b)) (f old) old
over_rows f true true true old twice = twice
over_rows f true true false old twice = refl
over_rows f true false b old twice = refl
over_rows f false t b old twice = refl

pub filled_more : (n w start count : ℕ) (columns rows : Span) (f : Ink → Ink) (old mid new : List Ink)
    → 0 < w → columns.start ≤ columns.end → columns.end ≤ w → rows.start ≤ n
    → start ≡ n * w + columns.start → count ≡ columns.end - columns.start → ((ink : Ink) → f (f ink) ≡ f ink)
    → IsFilledBelow n w columns rows f old mid → length new ≡ length mid
    → ((i : ℕ) → i < length mid
    → get_or new i black
    ≡ cond (nat_le start i && nat_lt i (start + count)) (f (get_or mid i black)) (get_or mid i black))
    → IsFilledBelow (n + 1) w columns rows f old new
filled_more n w start count columns rows f old mid new some forward fits from at counts twice before long row = record {
  long = long ∙ before.long;
  pixels = λ i lt.
      let a = is_in_span columns (i % w) in
      let b = nat_le rows.start (i / w) && nat_lt (i / w) n in
      let t = nat_le n (i / w) && nat_lt (i / w) (n + 1) in
      let whole : columns.start + count ≡ columns.end = omega (arith, counts) in
      let wide : columns.start + count ≤ w = omega (arith, whole) in
      let in_mid : i < length mid = omega (arith, before.long) in
      let inside : (nat_le start i && nat_lt i (start + count)) ≡ (a && t) =
      rw at (in_row w n columns.start count i some wide)
      ∙ ap (λ e. (nat_le columns.start (i % w) && nat_lt (i % w) e) && t) whole in
      let written : get_or new i black ≡ cond (a && t) (f (get_or mid i black)) (get_or mid i black) =
      row i in_mid ∙ ap (λ (v : Bool). cond v (f (get_or mid i black)) (get_or mid i black)) inside in
      written ∙ ap (λ o. cond (a && t) (f o) o) (before.pixels i lt)
      ∙ over_rows f a t b (get_or old i black) (twice (get_or old i black))
      ∙ ap (λ (v : Bool). cond (a && v) (f (get_or old i black)) (get_or old i black))
      (sym (one_row_more rows.start n (i / w) from));
}

-- what is laid under a pixel twice
pub laid_twice : (ink old : Ink) → laid_under ink (laid_under ink old) ≡ laid_under ink old
laid_twice (Fixed colour) (Fixed c) = refl
laid_twice (Bound register) (Fixed c) = refl
laid_twice ink (Bound r) = refl

-- the pixels of a row below n were laid under
pub record IsLaidBelow (n : ℕ) (ink : Ink) (old new : List Ink) : Type 0 where
  pub long : length new ≡ length old
  pub pixels : (j : ℕ) → j < length old
      → get_or new j black ≡ cond (nat_lt j n) (laid_under ink (get_or old j black)) (get_or old j black)

-- a pixel's register tells which ink stays
pub laid_registered : (ink old : Ink) (r : ℕ) → register_in_ink old ≡ Some r → old ≡ laid_under ink old
laid_registered ink (Fixed colour) r is = cc
laid_registered ink (Bound register) r is = refl

pub laid_fixed : (ink old : Ink) → register_in_ink old ≡ None → ink ≡ laid_under ink old
laid_fixed ink (Fixed colour) none = refl
laid_fixed ink (Bound register) none = cc
