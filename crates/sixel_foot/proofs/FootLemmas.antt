-- What a `Foot` keeps, with one more event.
use Rattle.std.proofs.Common.{ap₂, suc, length, ◌≡◌, ◌≢◌, ◌==◌, ℕ, ◌+◌, ◌-◌, ◌*◌, ◌<◌, ◌≤◌, Bool, true, false, cond}
use Rattle.std.proofs.Common.{min, max, List, Option, None}
use Rattle.std.proofs.Common.{[], ◌∷◌, ◌++◌, refl, sym, ap, ◌∙◌, arith}
use Rattle.std.specs.Prelude.{is_some, nat_le, if◌then◌else◌}
use Rattle.std.proofs.lemmas.Bool.{eqb-false, eqb-true, le-leb, lt-leb}
use Rattle.sixel_grammar.specs.declared.command.Command.TheVariants.{Sixel, Repeat, Raster, Select, Define}
use Rattle.sixel_grammar.specs.declared.command.Command.TheVariants.{CarriageReturn, NextLine}
use Rattle.sixel_grammar.specs.declared.command.Event.{Event}
use Rattle.sixel_grammar.specs.declared.command.Event.TheVariants.{Start, Step, Finish}
use Rattle.sixel_model.specs.Events.{is_data_command, is_next_line, raster_of}
use Rattle.sixel_model.specs.Geometry.{band, band_rows, column}
use Rattle.sixel_model.proofs.StepLemmas.{band_push, column_push}
use Rattle.sixel_emulator.specs.declared.place.Place.{Place}
use Rattle.sixel_foot.specs.declared.foot.size.Growing.{Growing}
use Rattle.sixel_terminal.specs.Stretches.{sixels_of}
use Rattle.sixel_emulator.specs.declared.reading.Reads.TheVariants.{Draws}
use Rattle.sixel_emulator.specs.Readings.{ArePlain}
use Rattle.sixel_foot.specs.Foot.{Size, counts_on_foot, foot, foot_grows, foot_rows, foot_size, foot_start}
use Rattle.sixel_foot.specs.FootSeen.{HasGrown, grows_not}
use Rattle.sixel_emulator.specs.Places.{IsPlaceAfter, most}
use Rattle.sixel_emulator.specs.Words.{after_each, after_first}
use Rattle.sixel_emulator.proofs.WordLemmas.{each_push}
use Rattle.sixel_emulator.proofs.PlainLemmas.{band_over, column_over, first_before, kept_whole, same_over}

-- ---- the size

pub size_push : (before : List Event) (e : Event)
    → foot_size (before ++ e ∷ []) ≡ foot_grows (foot_size before) before e
size_push before e = each_push foot_grows foot_start before e

-- what is kept is right if it is that of the size with the event
grown : (g : Growing) (before : List Event) (e : Event) (s : Size) → foot_grows (foot_size before) before e ≡ s
    → IsPlaceAfter 1 g.place (before ++ e ∷ []) → g.width ≡ min s.width most → g.height ≡ min s.height most
    → g.rows ≡ s.height - 6 * (band before + cond (is_next_line e) 1 0) → HasGrown g (before ++ e ∷ [])
grown g before e s is place w h r =
    let size : foot_size (before ++ e ∷ []) ≡ s = size_push before e ∙ is in
    record {
      place = place;
      width_is = w ∙ ap (λ (t : Size). min t.width most) (sym size);
      height_is = h ∙ ap (λ (t : Size). min t.height most) (sym size);
      rows_is = r ∙ ap (λ (t : Size). t.height - 6 * (band before + cond (is_next_line e) 1 0)) (sym size)
          ∙ ap (λ (n : ℕ). (foot_size (before ++ e ∷ [])).height - 6 * n) (sym (band_push before e));
    }

same : (s : Size) (before : List Event) (e : Event) → grows_not e ≡ true → foot_grows s before e ≡ s
same s before (Start eight parameters) h = refl
same s before (Finish eight) h = refl
same s before (Step (Select register)) h = refl
same s before (Step (Define register system x y z)) h = refl
same s before (Step CarriageReturn) h = refl
same s before (Step _) h = cc

no_line : (e : Event) → grows_not e ≡ true → is_next_line e ≡ false
no_line (Step NextLine) h = cc
no_line _ h = refl

pub grown_not : {g : Growing} (p : Place) (before : List Event) (e : Event) → grows_not e ≡ true → HasGrown g before
    → IsPlaceAfter 1 p (before ++ e ∷ []) → HasGrown (record g { place = p }) (before ++ e ∷ [])
grown_not {g} p before e h s place =
    let line : is_next_line e ≡ false = no_line e h in
    grown (record g { place = p }) before e (foot_size before) (same (foot_size before) before e h) place s.width_is
    s.height_is (s.rows_is ∙ rw line (omega arith))

-- raster attributes that don't count
pub grown_outside : {g : Growing} (p : Place) (before : List Event) (pan pad w h : ℕ) → HasGrown g before
    → IsPlaceAfter 1 p (before ++ Step (Raster pan pad w h) ∷ []) → counts_on_foot (foot_size before) w h ≡ false
    → HasGrown (record g { place = p }) (before ++ Step (Raster pan pad w h) ∷ [])
grown_outside {g} p before pan pad w h s place counts =
    let old = foot_size before in
    let is : foot_grows old before (Step (Raster pan pad w h)) ≡ old =
    ap (λ (b : Bool). if b then record { width = w; height = h } else old) counts in
    grown (record g { place = p }) before (Step (Raster pan pad w h)) old is place s.width_is s.height_is
    (s.rows_is ∙ omega arith)

-- raster attributes that count
pub grown_box : (p : Place) (before : List Event) (pan pad w h : ℕ) → w < 65536 → h < 65536
    → IsPlaceAfter 1 p (before ++ Step (Raster pan pad w h) ∷ []) → counts_on_foot (foot_size before) w h ≡ true
    → HasGrown (record { place = p; width = w; height = h; rows = h - min (p.band * 6) most })
    (before ++ Step (Raster pan pad w h) ∷ [])
grown_box p before pan pad w h low_width low_height place counts =
    let old = foot_size before in
    let e = Step (Raster pan pad w h) in
    let is : foot_grows old before e ≡ record { width = w; height = h } =
    ap (λ (b : Bool). if b then record { width = w; height = h } else old) counts in
    let line : p.band ≡ min (band before + 0) most = place.band_is ∙ ap (λ (n : ℕ). min n most) (band_push before e) in
    grown (record { place = p; width = w; height = h; rows = h - min (p.band * 6) most }) before e
    (record { width = w; height = h }) is place (omega (arith, low_width)) (omega (arith, low_height))
    (omega (arith, low_height, line))

one_column : (count : ℕ) → (if count == 0 then 1 else count) ≡ max 1 count
one_column count = by count (count == 0) refl
  where
    by : (n : ℕ) (b : Bool) → (n == 0) ≡ b → (if b then 1 else n) ≡ max 1 n
    by n true e = let none : n ≡ 0 = eqb-true n 0 e in omega (arith, none)
    by n false e = let some : n ≢ 0 = eqb-false n 0 e in omega (arith, some)

wider : (g p old here : ℕ) → g ≡ min old most → p ≡ min here most → max g p ≡ min (max old here) most
wider g p old here is place = omega (arith, is, place)

-- a data command
pub grown_wide : {g : Growing} (p : Place) (before : List Event) (e : Event) → is_data_command e ≡ true
    → HasGrown g before → IsPlaceAfter 1 p (before ++ e ∷ [])
    → HasGrown (record g { place = p; width = max g.width p.column }) (before ++ e ∷ [])
grown_wide {g} p before (Step (Sixel bits)) h s place =
    let e = Step (Sixel bits) in
    let here : p.column ≡ min (column 1 before + 1) most =
    place.column_is ∙ ap (λ (n : ℕ). min n most) (column_push 1 before e) in
    grown (record g { place = p; width = max g.width p.column }) before e
    (record (foot_size before) { width = max (foot_size before).width (column 1 before + 1) }) refl place
    (wider g.width p.column _ _ s.width_is here) s.height_is (s.rows_is ∙ omega arith)
grown_wide {g} p before (Step (Repeat count bits)) h s place =
    let e = Step (Repeat count bits) in
    let here : p.column ≡ min (column 1 before + max 1 count) most =
    place.column_is ∙ ap (λ (n : ℕ). min n most) (column_push 1 before e)
    ∙ ap (λ (n : ℕ). min (column 1 before + n) most) (one_column count) in
    grown (record g { place = p; width = max g.width p.column }) before e
    (record (foot_size before) { width = max (foot_size before).width (column 1 before + max 1 count) }) refl place
    (wider g.width p.column _ _ s.width_is here) s.height_is (s.rows_is ∙ omega arith)
grown_wide p before (Step _) h s place = cc
grown_wide p before (Start eight parameters) h s place = cc
grown_wide p before (Finish eight) h s place = cc

-- a new line that stays in the picture
pub grown_inside : {g : Growing} (p : Place) (before : List Event) → 6 < g.rows → HasGrown g before
    → IsPlaceAfter 1 p (before ++ Step NextLine ∷ [])
    → HasGrown (record g { place = p; rows = g.rows - 6 }) (before ++ Step NextLine ∷ [])
grown_inside {g} p before low s place =
    let old = foot_size before in
    let rows : g.rows ≡ old.height - 6 * band before = s.rows_is in
    let test : nat_le old.height (6 * band before + 6) ≡ false =
    lt-leb old.height (6 * band before + 6) (omega (arith, low, rows)) in
    let is : foot_grows old before (Step NextLine) ≡ old =
    ap (λ (b : Bool). if b then record old { height = 6 * band before + 12 } else old) test in
    grown (record g { place = p; rows = g.rows - 6 }) before (Step NextLine) old is place s.width_is s.height_is
    (omega (arith, rows))

-- a new line that leaves it
pub grown_below : {g : Growing} (p : Place) (before : List Event) → g.rows ≤ 6 → HasGrown g before
    → IsPlaceAfter 1 p (before ++ Step NextLine ∷ [])
    → HasGrown (record g { place = p; height = min (min (p.band * 6) most + 6) most; rows = 6 })
    (before ++ Step NextLine ∷ [])
grown_below {g} p before low s place =
    let old = foot_size before in
    let rows : g.rows ≡ old.height - 6 * band before = s.rows_is in
    let test : nat_le old.height (6 * band before + 6) ≡ true =
    le-leb old.height (6 * band before + 6) (omega (arith, low, rows)) in
    let next : Size = record old { height = 6 * band before + 12 } in
    let is : foot_grows old before (Step NextLine) ≡ next =
    ap (λ (b : Bool). if b then record old { height = 6 * band before + 12 } else old) test in
    let line : p.band ≡ min (band before + 1) most =
    place.band_is ∙ ap (λ (n : ℕ). min n most) (band_push before (Step NextLine)) in
    grown (record g { place = p; height = min (min (p.band * 6) most + 6) most; rows = 6 }) before (Step NextLine)
    next is place s.width_is (omega (arith, line)) (omega arith)

pub grown_none : (p : Place) → IsPlaceAfter 1 p [] → HasGrown (record { place = p; width = 0; height = 6; rows = 6 }) []
unfolding after_each after_first band
grown_none p s = record { place = s; width_is = refl; height_is = refl; rows_is = refl }

-- ---- sixels

height_over : (before : List Event) (bytes : List ℕ)
    → (foot_size (before ++ sixels_of bytes)).height ≡ (foot_size before).height
height_over before bytes =
    same_over (λ es. (foot_size es).height) (λ es bits. ap (λ (t : Size). t.height) (size_push es (Step (Sixel bits))))
    before bytes

rows_over : (before : List Event) (bytes : List ℕ) → foot_rows (before ++ sixels_of bytes) ≡ foot_rows before
rows_over before bytes = rw (height_over before bytes, band_over before bytes) refl

width_over : (before : List Event) (b : ℕ) (bs : List ℕ)
    → (foot_size (before ++ sixels_of (b ∷ bs))).width
    ≡ max (foot_size before).width (column 1 before + suc (length bs))
width_over before b [] = ap (λ (t : Size). t.width) (size_push before (Step (Sixel (b - 63))))
width_over before b (d ∷ ds) =
    let e : Event = Step (Sixel (b - 63)) in
    let more : max (max (foot_size before).width (column 1 before + 1)) (column 1 before + 1 + suc (length ds))
    ≡ max (foot_size before).width (column 1 before + suc (suc (length ds))) = omega arith in
    ap (λ (es : List Event). (foot_size es).width) (first_before before b (d ∷ ds))
    ∙ (width_over (before ++ e ∷ []) d ds
    ∙ (ap₂ (λ (w c : ℕ). max w (c + suc (length ds))) (ap (λ (t : Size). t.width) (size_push before e))
    (column_push 1 before e) ∙ more))

pub grown_over : {g : Growing} (p : Place) (before : List Event) (bytes : List ℕ) → 0 < length bytes
    → HasGrown g before → IsPlaceAfter 1 p (before ++ sixels_of bytes)
    → HasGrown (record g { place = p; width = max g.width p.column }) (before ++ sixels_of bytes)
grown_over p before [] some s place = absurd (omega (arith, some))
grown_over {g} p before (b ∷ bs) some s place =
    let here : p.column ≡ min (column 1 before + suc (length bs)) most =
    place.column_is ∙ ap (λ (n : ℕ). min n most) (column_over 1 before (b ∷ bs)) in
    record {
      place = place;
      width_is =
          wider g.width p.column _ _ s.width_is here
          ∙ ap (λ (n : ℕ). min n most) (sym (width_over before b bs));
      height_is = s.height_is ∙ ap (λ (n : ℕ). min n most) (sym (height_over before (b ∷ bs)));
      rows_is = s.rows_is ∙ sym (rows_over before (b ∷ bs));
    }

pub foot_plain : (before : List Event) (n : ℕ) → band_rows ≤ foot_rows before → ArePlain foot before n
foot_plain before n down = λ earlier lt bits next.
    let high : band_rows ≤ foot_rows (before ++ sixels_of earlier) = rw (rows_over before earlier) down in
    ap Draws (kept_whole 1 (foot_rows (before ++ sixels_of earlier)) (Sixel bits) 1 bits (omega arith) high)

-- ---- the event after one makes no difference

pub foot_alone : (before : List Event) (e : Event) (next : Option Event) → is_some (raster_of e) ≡ false
    → foot before e next ≡ foot before e None
foot_alone before (Start eight parameters) next other = refl
foot_alone before (Step (Raster pan pad width height)) next other = cc
foot_alone before (Step (Define register system x y z)) next other = refl
foot_alone before (Step (Select register)) next other = refl
foot_alone before (Step (Sixel bits)) next other = refl
foot_alone before (Step (Repeat count bits)) next other = refl
foot_alone before (Step CarriageReturn) next other = refl
foot_alone before (Step NextLine) next other = refl
foot_alone before (Finish eight) next other = refl
