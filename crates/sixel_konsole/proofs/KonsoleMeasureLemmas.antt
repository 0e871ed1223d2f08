-- The measure of konsole's rectangle, event by event.
use Rattle.std.proofs.Common.{◌≡◌, ◌<◌, ◌≤◌, ◌+◌, ◌-◌, ◌*◌, ℕ, zero, suc, Bool, true, false, cond, Option, Some, None}
use Rattle.std.proofs.Common.{List, [], ◌∷◌, ◌++◌, length, map, take, max, min, refl, sym, ap, ap₂, subst, ◌∙◌}
use Rattle.std.proofs.Common.{add-one, append-nil, arith, inl, inr}
use Rattle.std.specs.Prelude.{◌||◌, nat_lt, slice_get, slice_index, if◌then◌else◌}
use Rattle.std.specs.List.{flat_map, range_with_len}
use Rattle.std.specs.Option.{option_map_or}
use Rattle.std.proofs.Math.Seq.{take-append_seam}
use Rattle.std.proofs.lemmas.Bool.{cases_lt}
use Rattle.std.proofs.lemmas.Nat.{mul-le}
use Rattle.std.proofs.lemmas.Grind.{flat_map-append}
use Rattle.std.proofs.lemmas.List.{take-append-le}
use Rattle.std.proofs.lemmas.List.Folds.{flat_map-map}
use Rattle.std.proofs.lemmas.List.FromFn.{map-range_with_len_more}
use Rattle.sixel_grammar.specs.declared.command.Command.TheVariants.{CarriageReturn, NextLine, Raster, Select, Sixel}
use Rattle.sixel_grammar.specs.declared.command.Event.{Event}
use Rattle.sixel_grammar.specs.declared.command.Event.TheVariants.{Step}
use Rattle.sixel_model.specs.Events.{Attributes, columns_of, is_data_command, is_return}
use Rattle.sixel_model.specs.Geometry.{band, column}
use Rattle.sixel_model.proofs.PositionLemmas.{get_before, get_end}
use Rattle.sixel_model.proofs.StepLemmas.{column_push}
use Rattle.sixel_konsole.specs.declared.rectangle.KonsoleMeasure.{KonsoleMeasure}
use Rattle.sixel_konsole.specs.declared.rectangle.Reach.{Reach}
use Rattle.sixel_emulator.specs.declared.reading.Reads.TheVariants.{Draws, Nothing}
use Rattle.sixel_terminal.specs.Stretches.{sixels_of}
use Rattle.sixel_konsole.specs.Konsole.{column_after, event_after, greatest_at, greatest_below, is_stuck, konsole}
use Rattle.sixel_konsole.specs.Konsole.{is_dropped, konsole_data}
use Rattle.sixel_konsole.specs.Konsole.{konsole_drawing, counting, has_begun, konsole_opening, konsole_tall}
use Rattle.sixel_konsole.specs.Konsole.{rectangle_of, row_after}
use Rattle.sixel_konsole.specs.KonsoleMeasured.{HasMeasured, IsReach, drawn_sixels, reached_columns, reached_rows}
use Rattle.sixel_konsole.specs.KonsoleMeasured.{rectangle_by}
use Rattle.sixel_konsole.specs.KonsoleMeasured.{rectangle_in}
use Rattle.sixel_konsole.specs.KonsoleSeen.{HasSeenKonsole, begun_in, counting_in}
use Rattle.sixel_emulator.specs.Places.{IsPlaceAfter, most}
use Rattle.sixel_emulator.specs.Readings.{drawn_by}
use Rattle.sixel_konsole.proofs.FollowedLemmas.{after_before, after_end, length_push}
use Rattle.sixel_konsole.proofs.KonsoleLemmas.{stuck_over}
use Rattle.sixel_emulator.proofs.PlaceLemmas.{place_push}
use Rattle.sixel_emulator.proofs.PlainLemmas.{band_over, column_over, first_before}

-- ---- what is drawn of one more event

flat_range : {A : Type 0} (f : ℕ → List A) (n : ℕ)
    → flat_map f (range_with_len 0 (suc n)) ≡ flat_map f (range_with_len 0 n) ++ f n
flat_range {A} f n =
    let same : List A → List A = λ xs. xs in
    let more = map-range_with_len_more f 0 n n (omega arith) in
    let split = rw add-one at more in
    sym (flat_map-map same f (range_with_len 0 (suc n)))
    ∙ ap (flat_map same) split
    ∙ flat_map-append same (map f (range_with_len 0 n)) (f n ∷ [])
    ∙ ap₂ (λ (a b : List A). a ++ b) (flat_map-map same f (range_with_len 0 n)) (append-nil (f n))

pub flat_same : {A : Type 0} (f g : ℕ → List A) (n : ℕ) → ((i : ℕ) → i < n → f i ≡ g i)
    → flat_map f (range_with_len 0 n) ≡ flat_map g (range_with_len 0 n)
flat_same f g zero h = refl
flat_same {A} f g (suc n) h =
    flat_range f n
    ∙ ap₂ (λ (a b : List A). a ++ b) (flat_same f g n (λ i lt. h i (omega arith))) (h n (omega arith))
    ∙ sym (flat_range g n)

pub drawing_push : (xs : List Event) (e : Event) (next : Option Event)
    → konsole_drawing (xs ++ e ∷ []) next ≡ konsole_drawing xs (Some e) ++ drawn_by (konsole xs e next)
unfolding konsole_drawing
drawing_push xs e next =
    let at = λ (ys : List Event) (n : Option Event) (i : ℕ). option_map_or
    (λ d. drawn_by (konsole (take i ys) d (event_after ys n i))) (slice_get ys i) [] in
    let here : at (xs ++ e ∷ []) next (length xs) ≡ drawn_by (konsole xs e next) =
    rw (get_end xs e, after_end xs e next, take-append_seam xs (e ∷ [])) refl in
    let rest : (i : ℕ) → i < length xs → at (xs ++ e ∷ []) next i ≡ at xs (Some e) i = λ i lt.
    let le : i ≤ length xs = omega arith in
    rw (get_before xs (e ∷ []) i lt, after_before xs e next i lt, take-append-le i xs (e ∷ []) le) refl in
    rw (length_push xs e)
    (flat_range (at (xs ++ e ∷ []) next) (length xs)
    ∙ ap₂ (λ (a b : List Event). a ++ b) (flat_same (at (xs ++ e ∷ []) next) (at xs (Some e)) (length xs) rest) here)

-- ---- the greatest value with one more event

greatest_same : (n : ℕ) (f g : ℕ → ℕ) → ((i : ℕ) → i < n → f i ≡ g i) → greatest_below n f ≡ greatest_below n g
unfolding greatest_below
greatest_same zero f g h = refl
greatest_same (suc n) f g h =
    let here : f n ≡ g n = h n (omega arith) in
    let rest : greatest_below n f ≡ greatest_below n g = greatest_same n f g (λ i lt. h i (omega arith)) in
    cc

pub greatest_push : (f : List Event → Event → ℕ) (xs : List Event) (e : Event)
    → greatest_at f (xs ++ e ∷ []) ≡ max (greatest_at f xs) (f xs e)
unfolding greatest_at greatest_below
greatest_push f xs e =
    let at = λ (ys : List Event) (i : ℕ). option_map_or (f (take i ys)) (slice_get ys i) 0 in
    let here : at (xs ++ e ∷ []) (length xs) ≡ f xs e = rw (get_end xs e, take-append_seam xs (e ∷ [])) refl in
    let rest : (i : ℕ) → i < length xs → at (xs ++ e ∷ []) i ≡ at xs i = λ i lt.
    let le : i ≤ length xs = omega arith in
    rw (get_before xs (e ∷ []) i lt, take-append-le i xs (e ∷ []) le) refl in
    rw (length_push xs e)
    (ap₂ (λ (a b : ℕ). max a b) (greatest_same (length xs) (at (xs ++ e ∷ [])) (at xs) rest) here)

-- ---- how far one more command reaches

pub reach_none : (r : Reach) → IsPlaceAfter 1 r.place [] → r.columns ≡ 0 → r.rows ≡ 0 → IsReach r []
unfolding greatest_at greatest_below
reach_none r place columns rows = record { place_is = place; columns_are = columns; rows_are = rows }

column_reached : (paints moves : Bool) (g c n : ℕ) → (paints ≡ true → moves ≡ false)
    → (if paints then max (min g most) (min (cond moves 0 (c + n)) most) else min g most)
    ≡ min (max g (if paints then c + n else 0)) most
column_reached true true g c n stays = absurd (let e : true ≡ false = stays refl in cc)
column_reached true false g c n stays = omega arith
column_reached false moves g c n stays = omega arith

row_reached : (paints : Bool) (g b : ℕ)
    → (if paints then max (min g most) (min (6 * min b most + 6) most) else min g most)
    ≡ min (max g (if paints then 6 * b + 6 else 0)) most
row_reached true g b = omega arith
row_reached false g b = omega arith

data_stays : (e : Event) → is_data_command e ≡ true → is_return e ≡ false
data_stays (Step CarriageReturn) h = cc
data_stays (Step NextLine) h = cc
data_stays _ h = refl

pub reach_push : {r : Reach} (q : Reach) {drawing : List Event} (e : Event) → IsReach r drawing
    → IsPlaceAfter 1 q.place (drawing ++ e ∷ []) → q.columns ≡ reached_columns r e q.place.column
    → q.rows ≡ reached_rows r e → IsReach q (drawing ++ e ∷ [])
reach_push {r} q {drawing} e s at columns rows =
    let g : ℕ = greatest_at column_after drawing in
    let h : ℕ = greatest_at row_after drawing in
    record {
      place_is = at;
      columns_are =
          columns
          ∙ ap₂ (λ (a b : ℕ). if is_data_command e then max a b else a) s.columns_are
          (at.column_is ∙ ap (λ (n : ℕ). min n most) (column_push 1 drawing e))
          ∙ column_reached (is_data_command e) (is_return e) g (column 1 drawing) (columns_of 1 e) (data_stays e)
          ∙ ap (λ (n : ℕ). min n most) (sym (greatest_push column_after drawing e));
      rows_are =
          rows
          ∙ ap₂ (λ (a b : ℕ). if is_data_command e then max a (min (6 * b + 6) most) else a) s.rows_are
          s.place_is.band_is
          ∙ row_reached (is_data_command e) h (band drawing)
          ∙ ap (λ (n : ℕ). min n most) (sym (greatest_push row_after drawing e));
    }

-- ---- one more event

pub measured_none : (m : KonsoleMeasure) (next : Option Event) → HasSeenKonsole m.reading [] → IsReach m.reach []
    → HasMeasured m [] next
unfolding konsole_drawing
measured_none m next seen reach = record { seen = seen; reach = reach }

pub measured_push : (m : KonsoleMeasure) (before : List Event) (e : Event) (next : Option Event)
    → HasSeenKonsole m.reading (before ++ e ∷ [])
    → IsReach m.reach (konsole_drawing before (Some e) ++ drawn_by (konsole before e next))
    → HasMeasured m (before ++ e ∷ []) next
measured_push m before e next seen reach = record {
  seen = seen;
  reach = subst (IsReach m.reach) (sym (drawing_push before e next)) reach;
}

-- ---- a select

-- drawn or dropped, it reaches no further
select_reaches : (dropped : Bool) {r : Reach} {drawing : List Event} (register : ℕ) → IsReach r drawing
    → IsReach r (drawing ++ drawn_by (if dropped then Nothing else Draws (Select register)))
select_reaches true {r} {drawing} register s = subst (IsReach r) (sym (append-nil drawing)) s
select_reaches false {r} {drawing} register s =
    let across : r.place.column ≡ min (r.place.column + 0) most = omega (arith, s.place_is.column_is) in
    let down : r.place.band ≡ min (r.place.band + 0) most = omega (arith, s.place_is.band_is) in
    reach_push r (Step (Select register)) s
    (place_push 1 r.place r.place (Step (Select register)) s.place_is across down) refl refl

pub measured_select : {m : KonsoleMeasure} (n : KonsoleMeasure) (before : List Event) (register : ℕ)
    (next : Option Event) → n.reach ≡ m.reach → HasSeenKonsole n.reading (before ++ Step (Select register) ∷ [])
    → HasMeasured m before (Some (Step (Select register)))
    → HasMeasured n (before ++ Step (Select register) ∷ []) next
measured_select n before register next same seen s =
    let e : Event = Step (Select register) in
    measured_push n before e next seen
    (subst (λ (r : Reach). IsReach r (konsole_drawing before (Some e) ++ drawn_by (konsole before e next))) (sym same)
    (select_reaches (is_dropped before next || nat_lt 255 register) register s.reach))

-- ---- the rectangle

wide : (w g : ℕ) → min (max (min g most) w) 65535 ≡ min (max w g) 65535
wide w g = omega arith

high_far : (n m tall : ℕ) → most ≤ n → most ≤ m → min (n * tall) 65535 ≡ min (m * tall) 65535
high_far n m zero a b = omega arith
high_far n m (suc t) a b =
    let one : n * 1 ≤ n * suc t = mul-le n 1 n (suc t) (omega arith) (omega arith) in
    let two : m * 1 ≤ m * suc t = mul-le m 1 m (suc t) (omega arith) (omega arith) in
    omega (arith, a, b, one, two)

high : (h g tall : ℕ) → min (max (min g most) h * tall) 65535 ≡ min (max h g * tall) 65535
high h g tall = elim (cases_lt g most) [
  | inl lt ↦ (let same : max (min g most) h ≡ max h g = omega (arith, lt) in rw same refl)
  | inr ge ↦ high_far (max (min g most) h) (max h g) tall (omega (arith, ge)) (omega (arith, ge))
]

rectangle_stored : (counted : Option Attributes) (drawing : List Event)
    → rectangle_by counted (min (greatest_at column_after drawing) most) (min (greatest_at row_after drawing) most)
    ≡ rectangle_of counted drawing
rectangle_stored counted drawing =
    let w : ℕ = option_map_or (λ (a : Attributes). a.width) counted 30 in
    let h : ℕ = option_map_or (λ (a : Attributes). a.height) counted 6 in
    ap₂ (λ (a b : ℕ). Raster (konsole_tall counted) 1 a b) (wide w (greatest_at column_after drawing))
    (high h (greatest_at row_after drawing) (konsole_tall counted))

rectangle_is : {m : KonsoleMeasure} (events : List Event) → HasMeasured m events None
    → rectangle_in m ≡ rectangle_of (counting events None) (konsole_drawing events None)
rectangle_is {m} events s =
    let d : List Event = konsole_drawing events None in
    ap₂ (λ (a b : ℕ). rectangle_by (counting_in m.reading false) a b) s.reach.columns_are s.reach.rows_are
    ∙ rectangle_stored (counting_in m.reading false) d
    ∙ ap (λ (o : Option Attributes). rectangle_of o d) (sym (s.seen.counting_is None))

pub opening_some : {m : KonsoleMeasure} (events : List Event) → HasMeasured m events None
    → begun_in m.reading false ≡ true → konsole_opening events ≡ Step (rectangle_in m) ∷ []
opening_some {m} events s begun =
    let is : has_begun events None ≡ true = s.seen.begun_is None ∙ begun in
    rw (is, rectangle_is events s) refl

pub opening_none : {m : KonsoleMeasure} (events : List Event) → HasMeasured m events None
    → begun_in m.reading false ≡ false → konsole_opening events ≡ []
opening_none {m} events s begun =
    let is : has_begun events None ≡ false = s.seen.begun_is None ∙ begun in rw is refl

-- ---- sixels

pub columns_over : (drawing : List Event) (b : ℕ) (bs : List ℕ)
    → greatest_at column_after (drawing ++ sixels_of (b ∷ bs))
    ≡ max (greatest_at column_after drawing) (column 1 drawing + suc (length bs))
columns_over drawing b [] = greatest_push column_after drawing (Step (Sixel (b - 63)))
columns_over drawing b (d ∷ ds) =
    let e : Event = Step (Sixel (b - 63)) in
    let more : max (max (greatest_at column_after drawing) (column 1 drawing + 1))
    (column 1 drawing + 1 + suc (length ds))
    ≡ max (greatest_at column_after drawing) (column 1 drawing + suc (suc (length ds))) = omega arith in
    ap (greatest_at column_after) (first_before drawing b (d ∷ ds))
    ∙ (columns_over (drawing ++ e ∷ []) d ds
    ∙ (ap₂ (λ (g c : ℕ). max g (c + suc (length ds))) (greatest_push column_after drawing e) (column_push 1 drawing e)
    ∙ more))

pub rows_over : (drawing : List Event) (b : ℕ) (bs : List ℕ)
    → greatest_at row_after (drawing ++ sixels_of (b ∷ bs)) ≡ max (greatest_at row_after drawing) (6 * band drawing + 6)
rows_over drawing b [] = greatest_push row_after drawing (Step (Sixel (b - 63)))
rows_over drawing b (d ∷ ds) =
    let e : Event = Step (Sixel (b - 63)) in
    let more : max (max (greatest_at row_after drawing) (6 * band drawing + 6)) (6 * band drawing + 6)
    ≡ max (greatest_at row_after drawing) (6 * band drawing + 6) = omega arith in
    ap (greatest_at row_after) (first_before drawing b (d ∷ ds))
    ∙ (rows_over (drawing ++ e ∷ []) d ds
    ∙ (ap₂ (λ (g k : ℕ). max g (6 * k + 6)) (greatest_push row_after drawing e) (band_over drawing (b ∷ [])) ∙ more))

reached : (g r p c n : ℕ) → r ≡ min g most → p ≡ min (c + n) most → max r p ≡ min (max g (c + n)) most
reached g r p c n is at = omega (arith, is, at)

lower : (g h r b : ℕ) → r ≡ min g most → b ≡ min h most
    → max r (min (6 * b + 6) most) ≡ min (max g (6 * h + 6)) most
lower g h r b is at = omega (arith, is, at)

pub reach_over : {r : Reach} (q : Reach) (drawing : List Event) (bytes : List ℕ) → 0 < length bytes → IsReach r drawing
    → IsPlaceAfter 1 q.place (drawing ++ sixels_of bytes) → q.columns ≡ max r.columns q.place.column
    → q.rows ≡ max r.rows (min (6 * r.place.band + 6) most) → IsReach q (drawing ++ sixels_of bytes)
reach_over q drawing [] some s at columns rows = absurd (omega (arith, some))
reach_over {r} q drawing (b ∷ bs) some s at columns rows =
    let here : q.place.column ≡ min (column 1 drawing + suc (length bs)) most =
    at.column_is ∙ ap (λ (n : ℕ). min n most) (column_over 1 drawing (b ∷ bs)) in
    record {
      place_is = at;
      columns_are =
          columns
          ∙ (reached (greatest_at column_after drawing) r.columns q.place.column (column 1 drawing) (suc (length bs))
          s.columns_are here
          ∙ ap (λ (n : ℕ). min n most) (sym (columns_over drawing b bs)));
      rows_are =
          rows
          ∙ (lower (greatest_at row_after drawing) (band drawing) r.rows r.place.band s.rows_are s.place_is.band_is
          ∙ ap (λ (n : ℕ). min n most) (sym (rows_over drawing b bs)));
    }

one_drawn : (stuck : Bool) (drawing : List Event) (b : ℕ)
    → drawing ++ drawn_by (konsole_data stuck (Sixel (b - 63))) ≡ drawing ++ drawn_sixels stuck (b ∷ [])
one_drawn true drawing b = refl
one_drawn false drawing b = refl

more_drawn : (stuck : Bool) (drawing : List Event) (b d : ℕ) (ds : List ℕ)
    → (drawing ++ drawn_by (konsole_data stuck (Sixel (b - 63)))) ++ drawn_sixels stuck (d ∷ ds)
    ≡ drawing ++ drawn_sixels stuck (b ∷ d ∷ ds)
more_drawn true drawing b d ds = append-nil (drawing ++ [])
more_drawn false drawing b d ds = sym (first_before drawing b (d ∷ ds))

pub drawing_over : (before : List Event) (b : ℕ) (bs : List ℕ) (next : Option Event)
    → konsole_drawing (before ++ sixels_of (b ∷ bs)) next
    ≡ konsole_drawing before (Some (Step (Sixel (b - 63)))) ++ drawn_sixels (is_stuck before) (b ∷ bs)
drawing_over before b [] next =
    drawing_push before (Step (Sixel (b - 63))) next
    ∙ one_drawn (is_stuck before) (konsole_drawing before (Some (Step (Sixel (b - 63))))) b
drawing_over before b (d ∷ ds) next =
    let e : Event = Step (Sixel (b - 63)) in
    ap (λ (es : List Event). konsole_drawing es next) (first_before before b (d ∷ ds))
    ∙ (drawing_over (before ++ e ∷ []) d ds next
    ∙ (ap₂ (λ (es : List Event) (s : Bool). es ++ drawn_sixels s (d ∷ ds))
    (drawing_push before e (Some (Step (Sixel (d - 63))))) (stuck_over before (b ∷ []))
    ∙ more_drawn (is_stuck before) (konsole_drawing before (Some e)) b d ds))

pub measured_over : {m : KonsoleMeasure} (n : KonsoleMeasure) (before : List Event) (bytes : List ℕ)
    (next : Option Event) → 0 < length bytes → HasMeasured m before (Some (Step (Sixel (slice_index bytes 0 - 63))))
    → HasSeenKonsole n.reading (before ++ sixels_of bytes)
    → ((drawing : List Event) → IsReach m.reach drawing
    → IsReach n.reach (drawing ++ drawn_sixels m.reading.stuck bytes))
    → HasMeasured n (before ++ sixels_of bytes) next
measured_over n before [] next some s seen reach = absurd (omega (arith, some))
measured_over {m} n before (b ∷ bs) next some s seen reach = record {
  seen = seen;
  reach = subst (IsReach n.reach)
      (ap (λ (x : Bool). konsole_drawing before (Some (Step (Sixel (b - 63)))) ++ drawn_sixels x (b ∷ bs))
      s.seen.stuck_is
      ∙ sym (drawing_over before b bs next))
      (reach _ s.reach);
}
