-- Painting many sixels at once.
use Rattle.std.proofs.Common.{◌≡◌, ℕ, ◌+◌, ◌-◌, ◌*◌, ◌/◌, ◌%◌, ◌<◌, ◌≤◌, Bool, true, false, ◌&&◌, ◌||◌, cond, List}
use Rattle.std.proofs.Common.{length, get_or, nat_le, nat_lt, refl, sym, ap, ap₂, ◌∙◌, arith, inl, inr}
use Rattle.std.proofs.Common.{[], ◌∷◌, ◌++◌, ◌==◌, append_assoc, map, min, subst, suc, zero, take, add-one}
use Rattle.std.specs.List.{list_any}
use Rattle.std.proofs.lemmas.List.Folds.{list_any-append}
use Rattle.sixel_model.specs.Events.{is_eight_bit}
use Rattle.sixel_terminal.specs.Drawings.{Drawn, HasDrawn}
use Rattle.std.specs.Int.{bit_at}
use Rattle.sixel_model.specs.Positions.{any_below}
use Rattle.std.specs.Prelude.{slice_index}
use Rattle.std.specs.List.{range_with_len}
use Rattle.std.proofs.lemmas.List.{append-nil, ext_get_or, get_or-take, length-take-le}
use Rattle.std.proofs.lemmas.List.FromFn.{get_or-map-range_with_len, length-map-range_with_len}
use Rattle.std.proofs.lemmas.Bool.{and_parts, cases_lt, leb-true, ltb-true}
use Rattle.std.proofs.lemmas.Bool.Decides.{nat_tests}
use Rattle.std.proofs.lemmas.Nat.{div-add-mod'}
use Rattle.sixel_model.proofs.RunLemmas.{in_row}
use Rattle.sixel_grammar.specs.declared.command.Command.TheVariants.{Sixel}
use Rattle.sixel_grammar.specs.declared.command.Event.{Event}
use Rattle.sixel_grammar.specs.declared.command.Event.TheVariants.{Step}
use Rattle.sixel_model.specs.declared.colour.Parts.{Parts}
use Rattle.sixel_terminal.specs.declared.pen.Pen.{Pen}
use Rattle.sixel_terminal.specs.declared.pixel.Ink.{Ink}
use Rattle.sixel_terminal.specs.Displays.{Display, registers_of}
use Rattle.sixel_terminal.specs.Standing.{StandsAfter}
use Rattle.sixel_model.specs.Geometry.{covers}
use Rattle.sixel_terminal.specs.Steps.{bottom_edge, ink_by_colours, is_before_edges, is_from_origin, most}
use Rattle.sixel_terminal.specs.Steps.{pen_covers, right_edge}
use Rattle.sixel_terminal.proofs.DrawLemmas.{none_chosen, or_none}
use Rattle.sixel_terminal.proofs.InkLemmas.{stands_push}
use Rattle.sixel_terminal.proofs.PaintLemmas.{data_pixel}
use Rattle.sixel_terminal.proofs.RunLemmas.{Runs}
use Rattle.sixel_terminal.specs.Canvases.{black}
use Rattle.sixel_terminal.specs.Stretches.{IsStretchPainted, has_bit, is_stretched, moved_on, pen_after}
use Rattle.sixel_terminal.specs.Stretches.{sixels_of, stretch_covers}

no_rows : (a h : Bool) (top y : ℕ) → (a && ((nat_le top y && nat_lt y (top + 0)) && h)) ≡ false
no_rows a h top y = rw (none top y) (no_bit a)
  where
    none : (n y : ℕ) → (nat_le n y && nat_lt y (n + 0)) ≡ false
    none n y = grind (arith, nat_tests)

    no_bit : (a : Bool) → (a && false) ≡ false
    no_bit true = refl
    no_bit false = refl

pub stretched_none : (w left top : ℕ) (bytes : List ℕ) (ink : Ink) (xs : List Ink)
    → IsStretchPainted 0 w left top bytes ink xs xs
stretched_none w left top bytes ink xs = record {
  long = refl;
  pixels = λ i lt. ap (λ t. cond t ink (get_or xs i black)) (sym (no_rows _ _ top (i / w)));
}

pub and_when : (b p q : Bool) → (b ≡ true → p ≡ q) → (b && p) ≡ (b && q)
and_when true p q h = h refl
and_when false p q h = refl

-- one more row on the ones before
joined : {A : Type 0} (a r p h : Bool) (ink old : A)
    → cond ((a && r) && h) ink (cond (a && (p && h)) ink old) ≡ cond (a && ((r || p) && h)) ink old
joined false r p h ink old = refl
joined true true p true ink old = refl
joined true true true false ink old = refl
joined true true false false ink old = refl
joined true false p h ink old = refl

one_row_more : (top k y : ℕ)
    → ((nat_le (top + k) y && nat_lt y (top + k + 1)) || (nat_le top y && nat_lt y (top + k)))
    ≡ (nat_le top y && nat_lt y (top + (k + 1)))
one_row_more top k y = grind (arith, nat_tests)

same_place : (w row left i : ℕ) → i / w ≡ row → i - (row * w + left) ≡ i % w - left
same_place w row left i is =
    let whole : (i / w) * w + i % w ≡ i = div-add-mod' i w in
    let there : row * w + i % w ≡ i = rw (sym is) whole in
    omega (arith, there)

pub stretched_more : (k w left top at : ℕ) (bytes : List ℕ) (ink : Ink) (old mid new : List Ink) → 0 < w
    → left + length bytes ≤ w → at ≡ (top + k) * w + left → IsStretchPainted k w left top bytes ink old mid
    → length new ≡ length mid
    → ((i : ℕ) → i < length mid
    → get_or new i black
    ≡ cond ((nat_le at i && nat_lt i (at + length bytes)) && has_bit (slice_index bytes (i - at)) k) ink
    (get_or mid i black))
    → IsStretchPainted (k + 1) w left top bytes ink old new
stretched_more k w left top at bytes ink old mid new some fits is before long painted = record {
  long = long ∙ before.long;
  pixels = λ i lt.
      let x = i % w in
      let y = i / w in
      let a = nat_le left x && nat_lt x (left + length bytes) in
      let r = nat_le (top + k) y && nat_lt y (top + k + 1) in
      let h = has_bit (slice_index bytes (x - left)) (y - top) in
      let inside : (nat_le at i && nat_lt i (at + length bytes)) ≡ (a && r) =
      rw is (in_row w (top + k) left (length bytes) i some fits) in
      let same : ((a && r) && has_bit (slice_index bytes (i - at)) k) ≡ ((a && r) && h) =
      and_when (a && r) _ _ (λ t.
      let rows = and_parts (nat_le (top + k) y) (nat_lt y (top + k + 1)) (and_parts a r t).1 in
      let row : y ≡ top + k = omega (arith, leb-true _ _ rows.0, ltb-true _ _ rows.1) in
      let column : i - at ≡ x - left = rw is (same_place w (top + k) left i row) in
      let bit : y - top ≡ k = omega (arith, row) in
      ap₂ (λ n m. has_bit (slice_index bytes n) m) column (sym bit)) in
      painted i (omega (arith, lt, before.long))
      ∙ ap (λ (t : Bool). cond t ink (get_or mid i black))
      (ap (λ (t : Bool). t && has_bit (slice_index bytes (i - at)) k) inside ∙ same)
      ∙ ap (λ o. cond ((a && r) && h) ink o) (before.pixels i lt)
      ∙ joined a r (nat_le top y && nat_lt y (top + k)) h ink (get_or old i black)
      ∙ ap (λ (t : Bool). cond (a && (t && h)) ink (get_or old i black)) (one_row_more top k y);
}

-- ---- the sixels one by one

abbrev painted_list : Display → Pen → ℕ → Ink → List Ink → List Ink
painted_list t p bits ink inks =
    map (λ i. cond (pen_covers t p 1 bits (i % t.choices.screen_width) (i / t.choices.screen_width)) ink
    (get_or inks i black)) (range_with_len 0 (length inks))

pub both_over : {A : Type 0} (a b : Bool) (ink old : A) → cond (a || b) ink old ≡ cond b ink (cond a ink old)
both_over true true ink old = refl
both_over true false ink old = refl
both_over false true ink old = refl
both_over false false ink old = refl

pub stands_stretch : (t : Display) (bytes : List ℕ) (before : List Event) (p : Pen) (colours : List Parts)
    (inks new : List Ink) → Runs t → StandsAfter t before p colours inks → length new ≡ length inks
    → ((i : ℕ) → i < length inks
    → get_or new i black
    ≡ cond (stretch_covers t p bytes (i % t.choices.screen_width) (i / t.choices.screen_width))
    (ink_by_colours t colours p.selected) (get_or inks i black))
    → StandsAfter t (before ++ sixels_of bytes) (pen_after p bytes) colours new
unfolding stretch_covers pen_after
stands_stretch t [] before p colours inks new runs s long painted =
    let same : inks ≡ new =
    sym (ext_get_or black new inks long (λ i lt. painted i (omega (arith, lt, long)))) in
    subst (λ (xs : List Ink). StandsAfter t (before ++ []) p colours xs) same
    (subst (λ (es : List Event). StandsAfter t es p colours inks) (sym (append-nil before)) s)
stands_stretch t (b ∷ rest) before p colours inks new runs s long painted =
    let ink = ink_by_colours t colours p.selected in
    let mid = painted_list t p (b - 63) ink inks in
    let e = Step (Sixel (b - 63)) in
    let whole : length mid ≡ length inks =
    length-map-range_with_len (λ i. cond (pen_covers t p 1 (b - 63) (i % t.choices.screen_width)
    (i / t.choices.screen_width)) ink (get_or inks i black)) 0 (length inks) in
    let written = λ (i : ℕ) (lt : i < length inks).
    get_or-map-range_with_len (λ i. cond (pen_covers t p 1 (b - 63) (i % t.choices.screen_width)
    (i / t.choices.screen_width)) ink (get_or inks i black)) 0 (length inks) i i black lt (omega arith) in
    let one : StandsAfter t (before ++ e ∷ []) (moved_on p) colours mid =
    stands_push t before p (moved_on p) e colours colours inks mid runs s refl
    (omega (arith, s.pen.band_is)) refl (or_none p.declared)
    (none_chosen t.choices.selects e (registers_of t) p.selected refl refl) refl (λ r lt. refl) whole
    (λ i lt. written i lt ∙ data_pixel t p colours (Sixel (b - 63)) _ _ (get_or inks i black) refl) in
    subst (λ (es : List Event). StandsAfter t es (pen_after (moved_on p) rest) colours new)
    (append_assoc before (e ∷ []) (sixels_of rest))
    (stands_stretch t rest (before ++ e ∷ []) (moved_on p) colours mid new runs one (long ∙ sym whole)
    (λ i lt.
    let below : i < length inks = omega (arith, lt, whole) in
    let x = i % t.choices.screen_width in
    let y = i / t.choices.screen_width in
    painted i below
    ∙ both_over (pen_covers t p 1 (b - 63) x y) (stretch_covers t (moved_on p) rest x y) ink (get_or inks i black)
    ∙ ap (λ o. cond (stretch_covers t (moved_on p) rest x y) ink o) (sym (written i below))))

pub pen_moved : (p : Pen) (bytes : List ℕ) → p.column ≤ most
    → pen_after p bytes ≡ record p { column = min (p.column + length bytes) most }
unfolding pen_after
pen_moved p [] few = ap (λ n. record p { column = n }) (omega (arith, few))
pen_moved p (b ∷ rest) few =
    pen_moved (moved_on p) rest (omega arith) ∙ ap (λ n. record p { column = n }) (omega (arith, few))

-- ---- a stretch before the edges

and_three : (b l t : Bool) → (b && l && t) ≡ ((l && t) && b)
and_three true true true = refl
and_three true true false = refl
and_three true false t = refl
and_three false true true = refl
and_three false true false = refl
and_three false false t = refl

pub or_and : (a b h : Bool) → ((a && h) || (b && h)) ≡ ((a || b) && h)
or_and true true true = refl
or_and true true false = refl
or_and true false true = refl
or_and true false false = refl
or_and false b h = refl

pub no_row : (base y : ℕ) (h : Bool) → ((nat_le base y && nat_lt y (base + 0)) && h) ≡ false
no_row base y h = rw (none base y) refl
  where
    none : (n y : ℕ) → (nat_le n y && nat_lt y (n + 0)) ≡ false
    none n y = grind (arith, nat_tests)

next_row : (base n y : ℕ)
    → ((nat_le ((base + n) * 1) y && nat_lt y ((base + n) * 1 + 1)) || (nat_le base y && nat_lt y (base + n)))
    ≡ (nat_le base y && nat_lt y (base + suc n))
next_row base n y = grind (arith, nat_tests)

-- the rows of the bits of a band, if each has one row
row_bits : (bits base y n : ℕ)
    → any_below n (λ k. (bit_at bits k == 1) && nat_le ((base + k) * 1) y && nat_lt y ((base + k) * 1 + 1))
    ≡ ((nat_le base y && nat_lt y (base + n)) && (bit_at bits (y - base) == 1))
unfolding any_below
row_bits bits base y zero = sym (no_row base y _)
row_bits bits base y (suc n) =
    let r = nat_le ((base + n) * 1) y && nat_lt y ((base + n) * 1 + 1) in
    let p = nat_le base y && nat_lt y (base + n) in
    let h = bit_at bits (y - base) == 1 in
    let here : ((bit_at bits n == 1) && nat_le ((base + n) * 1) y && nat_lt y ((base + n) * 1 + 1)) ≡ (r && h) =
    and_three (bit_at bits n == 1) _ _
    ∙ and_when r _ _ (λ t.
    let rows = and_parts (nat_le ((base + n) * 1) y) (nat_lt y ((base + n) * 1 + 1)) t in
    let bit : n ≡ y - base = omega (arith, leb-true _ _ rows.0, ltb-true _ _ rows.1) in
    ap (λ k. bit_at bits k == 1) bit) in
    ap₂ (λ a b. a || b) here (row_bits bits base y n) ∙ or_and r p h
    ∙ ap (λ (t : Bool). t && h) (next_row base n y)

pub and_none : (b : Bool) → (b && false) ≡ false
and_none true = refl
and_none false = refl

pub and_true : (b : Bool) → (b && true) ≡ b
and_true true = refl
and_true false = refl

shuffle : (a b c t h e : Bool) → ((a && b) && ((c && (t && h)) && e)) ≡ (((a && c) && ((b && t) && h)) && e)
shuffle true true c t h e = refl
shuffle true false true t h e = refl
shuffle true false false t h e = refl
shuffle false b c t h e = refl

column_part : (o l x : ℕ)
    → (nat_le o x && (nat_le l (x - o) && nat_lt (x - o) (l + 1))) ≡ (nat_le (o + l) x && nat_lt x (o + l + 1))
column_part o l x = grind (arith, nat_tests)

row_part : (o base y : ℕ)
    → (nat_le o y && (nat_le base (y - o) && nat_lt (y - o) (base + 6)))
    ≡ (nat_le (o + base) y && nat_lt y (o + base + 6))
row_part o base y = grind (arith, nat_tests)

-- one sixel
pen_rect : (t : Display) (p : Pen) (b x y : ℕ) → p.height ≡ 1
    → pen_covers t p 1 (b - 63) x y
    ≡ (((nat_le (t.choices.origin_x + p.column) x && nat_lt x (t.choices.origin_x + p.column + 1))
    && ((nat_le (t.choices.origin_y + 6 * p.band) y && nat_lt y (t.choices.origin_y + 6 * p.band + 6))
    && has_bit b (y - (t.choices.origin_y + 6 * p.band)))) && is_before_edges t p.declared x y)
unfolding covers
pen_rect t p b x y one =
    let ox = t.choices.origin_x in
    let oy = t.choices.origin_y in
    let c = nat_le p.column (x - ox) && nat_lt (x - ox) (p.column + 1) in
    let rows = nat_le (6 * p.band) (y - oy) && nat_lt (y - oy) (6 * p.band + 6) in
    let h = bit_at (b - 63) ((y - oy) - 6 * p.band) == 1 in
    let e = is_before_edges t p.declared x y in
    let bit : (y - oy) - 6 * p.band ≡ y - (oy + 6 * p.band) = omega arith in
    rw one
    (ap (λ (r : Bool). is_from_origin t x y && ((c && r) && e)) (row_bits (b - 63) (6 * p.band) (y - oy) 6)
    ∙ shuffle (nat_le ox x) (nat_le oy y) c rows h e
    ∙ ap₂ (λ u v. (u && (v && h)) && e) (column_part ox p.column x) (row_part oy (6 * p.band) y)
    ∙ ap (λ k. ((nat_le (ox + p.column) x && nat_lt x (ox + p.column + 1))
    && ((nat_le (oy + 6 * p.band) y && nat_lt y (oy + 6 * p.band + 6)) && (bit_at (b - 63) k == 1))) && e) bit)

first_or_later : (left n x : ℕ)
    → ((nat_le left x && nat_lt x (left + 1)) || (nat_le (left + 1) x && nat_lt x (left + 1 + n)))
    ≡ (nat_le left x && nat_lt x (left + suc n))
first_or_later left n x = grind (arith, nat_tests)

-- the first byte and those after it
byte_more : (left x n b : ℕ) (rest : List ℕ) (rows : Bool)
    → (((nat_le left x && nat_lt x (left + 1)) && (rows && has_bit b n))
    || ((nat_le (left + 1) x && nat_lt x (left + 1 + length rest))
    && (rows && has_bit (slice_index rest (x - (left + 1))) n)))
    ≡ ((nat_le left x && nat_lt x (left + length (b ∷ rest)))
    && (rows && has_bit (slice_index (b ∷ rest) (x - left)) n))
byte_more left x n b rest rows =
    let e = nat_le left x && nat_lt x (left + 1) in
    let a = nat_le (left + 1) x && nat_lt x (left + 1 + length rest) in
    let th = rows && has_bit (slice_index (b ∷ rest) (x - left)) n in
    let first : (e && (rows && has_bit b n)) ≡ (e && th) =
    and_when e _ _ (λ t.
    let parts = and_parts (nat_le left x) (nat_lt x (left + 1)) t in
    let none : 0 ≡ x - left = omega (arith, leb-true _ _ parts.0, ltb-true _ _ parts.1) in
    ap (λ k. rows && has_bit (slice_index (b ∷ rest) k) n) none) in
    let later : (a && (rows && has_bit (slice_index rest (x - (left + 1))) n)) ≡ (a && th) =
    and_when a _ _ (λ t.
    let parts = and_parts (nat_le (left + 1) x) (nat_lt x (left + 1 + length rest)) t in
    let one : suc (x - (left + 1)) ≡ x - left = omega (arith, leb-true _ _ parts.0) in
    ap (λ k. rows && has_bit (slice_index (b ∷ rest) k) n) one) in
    ap₂ (λ u v. u || v) first later ∙ or_and e a th
    ∙ ap (λ (t : Bool). t && th) (first_or_later left (length rest) x)

apart : (left right x : ℕ) → right ≤ left → (nat_le left x && nat_lt x right) ≡ false
apart left right x past = grind (arith, nat_tests, past)

off_columns : (a b r g f : Bool) → (a && g) ≡ false → (((a && b) && r) && (g && f)) ≡ false
off_columns true b r true f h = cc
off_columns true b r false f h = and_none (b && r)
off_columns false b r g f h = refl

off_rows : (a t u h g f : Bool) → (t && f) ≡ false → ((a && ((t && u) && h)) && (g && f)) ≡ false
off_rows true true u h g true n = cc
off_rows true true u h true false n = and_none (u && h)
off_rows true true u h false false n = and_none (u && h)
off_rows true false u h g f n = refl
off_rows false t u h g f n = refl

-- no column of a stretch from an edge on is before it
pub past_right : (left top n right bottom : ℕ) (bytes : List ℕ) (x y : ℕ) → right ≤ left
    → (is_stretched left top n bytes x y && (nat_lt x right && nat_lt y bottom)) ≡ false
past_right left top n right bottom bytes x y past =
    off_columns (nat_le left x) (nat_lt x (left + length bytes)) _ (nat_lt x right) (nat_lt y bottom)
    (apart left right x past)

-- nor is a row
pub past_bottom : (left top n right bottom : ℕ) (bytes : List ℕ) (x y : ℕ) → bottom ≤ top
    → (is_stretched left top n bytes x y && (nat_lt x right && nat_lt y bottom)) ≡ false
past_bottom left top n right bottom bytes x y past =
    off_rows _ (nat_le top y) (nat_lt y (top + n)) _ (nat_lt x right) (nat_lt y bottom) (apart top bottom y past)

pub stretch_rect : (t : Display) (bytes : List ℕ) (p : Pen) (x y : ℕ) → p.height ≡ 1
    → right_edge t p.declared ≤ most
    → stretch_covers t p bytes x y
    ≡ (is_stretched (t.choices.origin_x + p.column) (t.choices.origin_y + 6 * p.band) 6 bytes x y
    && is_before_edges t p.declared x y)
unfolding stretch_covers
stretch_rect t [] p x y one small =
    sym (ap (λ (v : Bool). v && is_before_edges t p.declared x y) (no_row (t.choices.origin_x + p.column) x _))
stretch_rect t (b ∷ rest) p x y one small =
    let left = t.choices.origin_x + p.column in
    let top = t.choices.origin_y + 6 * p.band in
    let right = right_edge t p.declared in
    let bottom = bottom_edge t p.declared in
    let e = is_before_edges t p.declared x y in
    let moved = stretch_rect t rest (moved_on p) x y one small in
    let later : stretch_covers t (moved_on p) rest x y ≡ (is_stretched (left + 1) top 6 rest x y && e) =
    elim (cases_lt p.column most) [
      | inl below ↦
          let next : t.choices.origin_x + min (p.column + 1) most ≡ left + 1 = omega (arith, below) in
          moved ∙ ap (λ l. is_stretched l top 6 rest x y && e) next
      | inr far ↦
          moved
          ∙ past_right (t.choices.origin_x + min (p.column + 1) most) top 6 right bottom rest x y
          (omega (arith, far, small))
          ∙ sym (past_right (left + 1) top 6 right bottom rest x y (omega (arith, far, small)))
    ] in
    ap₂ (λ u v. u || v) (pen_rect t p b x y one) later
    ∙ or_and ((nat_le left x && nat_lt x (left + 1)) && ((nat_le top y && nat_lt y (top + 6)) && has_bit b (y - top)))
    (is_stretched (left + 1) top 6 rest x y) e
    ∙ ap (λ (v : Bool). v && e) (byte_more left x (y - top) b rest (nat_le top y && nat_lt y (top + 6)))

-- the columns, or the rows, from `start` on and before the edge
cut : (start n edge x : ℕ) → start < edge
    → (nat_le start x && nat_lt x (start + min n (edge - start)))
    ≡ ((nat_le start x && nat_lt x (start + n)) && nat_lt x edge)
cut start n edge x before =
    elim (cases_lt n (edge - start)) [
      | inl few ↦
          let all : start + min n (edge - start) ≡ start + n = omega (arith, few) in
          ap (λ k. nat_le start x && nat_lt x k) all ∙ within start n edge x (omega (arith, few))
      | inr many ↦
          let some : start + min n (edge - start) ≡ edge = omega (arith, many, before) in
          ap (λ k. nat_le start x && nat_lt x k) some ∙ beyond start n edge x (omega (arith, many))
    ]
  where
    within : (start n edge x : ℕ) → start + n ≤ edge
        → (nat_le start x && nat_lt x (start + n)) ≡ ((nat_le start x && nat_lt x (start + n)) && nat_lt x edge)
    within start n edge x few = grind (arith, nat_tests, few)

    beyond : (start n edge x : ℕ) → edge ≤ start + n
        → (nat_le start x && nat_lt x edge) ≡ ((nat_le start x && nat_lt x (start + n)) && nat_lt x edge)
    beyond start n edge x many = grind (arith, nat_tests, many)

mixed : (a g r f h : Bool) → ((a && g) && ((r && f) && h)) ≡ ((a && (r && h)) && (g && f))
mixed true true true true h = sym (and_true h)
mixed true true true false h = sym (and_none h)
mixed true true false f h = refl
mixed true false r f h = sym (and_none (r && h))
mixed false g r f h = refl

-- the bytes and the rows of a stretch before the edges are what is before them of all of it
pub before_edges : (left top right bottom : ℕ) (bytes : List ℕ) (x y : ℕ) → left < right → top < bottom
    → is_stretched left top (min 6 (bottom - top)) (take (min (length bytes) (right - left)) bytes) x y
    ≡ (is_stretched left top 6 bytes x y && (nat_lt x right && nat_lt y bottom))
before_edges left top right bottom bytes x y across down =
    let count = min (length bytes) (right - left) in
    let first = take count bytes in
    let long : length first ≡ count = length-take-le count bytes (omega arith) in
    let a = nat_le left x && nat_lt x (left + length bytes) in
    let r = nat_le top y && nat_lt y (top + 6) in
    let rows = nat_le top y && nat_lt y (top + min 6 (bottom - top)) in
    let h = has_bit (slice_index bytes (x - left)) (y - top) in
    ap (λ (k : ℕ). (nat_le left x && nat_lt x (left + k))
    && (rows && has_bit (slice_index first (x - left)) (y - top))) long
    ∙ and_when (nat_le left x && nat_lt x (left + count)) _ _ (λ t.
    let parts = and_parts (nat_le left x) (nat_lt x (left + count)) t in
    ap (λ b. rows && has_bit b (y - top))
    (get_or-take count bytes (x - left) 0 (omega (arith, leb-true _ _ parts.0, ltb-true _ _ parts.1))))
    ∙ ap₂ (λ u v. u && (v && h)) (cut left (length bytes) right x across) (cut top 6 bottom y down)
    ∙ mixed a (nat_lt x right) r (nat_lt y bottom) h

-- ---- drawings

no_controls : (bytes : List ℕ) → list_any is_eight_bit (sixels_of bytes) ≡ false
no_controls [] = refl
no_controls (b ∷ rest) = no_controls rest

pub drawn_stretch : (d : Drawn) (before : List Event) (bytes : List ℕ) (p : Pen) (inks : List Ink) → HasDrawn d before
    → StandsAfter d.terminal (before ++ sixels_of bytes) p d.colours inks
    → HasDrawn (record {
      terminal = d.terminal;
      pen = p;
      colours = d.colours;
      inks = inks;
      has_eight_bit = d.has_eight_bit;
    }) (before ++ sixels_of bytes)
drawn_stretch d before bytes p inks drawn stands = record {
  stands = stands;
  controls =
      drawn.controls ∙ sym (or_false (list_any is_eight_bit before))
      ∙ ap (λ (t : Bool). list_any is_eight_bit before || t) (sym (no_controls bytes))
      ∙ sym (list_any-append is_eight_bit before (sixels_of bytes));
}
  where
    or_false : (b : Bool) → (b || false) ≡ b
    or_false true = refl
    or_false false = refl

sixels_push : (bytes : List ℕ) (i : ℕ) → i < length bytes
    → sixels_of (take (suc i) bytes) ≡ sixels_of (take i bytes) ++ Step (Sixel (slice_index bytes i - 63)) ∷ []
sixels_push [] i lt = absurd (omega arith)
sixels_push (b ∷ rest) zero lt = refl
sixels_push (b ∷ rest) (suc i) lt =
    ap (λ (es : List Event). Step (Sixel (b - 63)) ∷ es) (sixels_push rest i (omega (arith, lt)))

-- one more sixel
pub one_sixel_more : (before : List Event) (bytes : List ℕ) (i : ℕ) → i < length bytes
    → (before ++ sixels_of (take i bytes)) ++ Step (Sixel (slice_index bytes i - 63)) ∷ []
    ≡ before ++ sixels_of (take (i + 1) bytes)
one_sixel_more before bytes i lt =
    append_assoc before (sixels_of (take i bytes)) (Step (Sixel (slice_index bytes i - 63)) ∷ [])
    ∙ ap (λ (es : List Event). before ++ es)
    (sym (sixels_push bytes i lt) ∙ ap (λ n. sixels_of (take n bytes)) (sym (add-one i)))
