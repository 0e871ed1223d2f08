-- The automaton of mlterm, event by event.
use Rattle.std.proofs.Common.{◌≡◌, ◌==◌, ◌<◌, ◌+◌, ◌*◌, ◌%◌, ◌&&◌, ◌||◌, ℕ, Bool, true, false, Option, Some, None}
use Rattle.std.proofs.Common.{List, [], ◌∷◌, ◌++◌, length, get_or, set, replicate, min, refl, sym, ap, ap₂, ◌∙◌}
use Rattle.std.proofs.Common.{arith, max, zero, suc, not, ◌-◌, ◌≤◌, append-nil, append_assoc, take}
use Rattle.std.specs.Prelude.{IfSome, nat_lt, nat_le, unwrap_or, if◌then◌else◌}
use Rattle.sixel_model.specs.declared.colour.Parts.{Parts}
use Rattle.std.specs.Bool.{then_some}
use Rattle.std.specs.Option.{option_and_then, option_map, option_map_or, option_or}
use Rattle.std.proofs.lemmas.List.{get_or-replicate}
use Rattle.std.proofs.lemmas.Bool.{and_parts, eqb-false, eqb-true, le-leb}
use Rattle.std.proofs.lemmas.Bool.Decides.{nat_tests}
use Rattle.std.proofs.lemmas.List.{get_or-set_other, get_or-set_same, length-set}
use Rattle.sixel_grammar.specs.declared.command.Command.{Command}
use Rattle.sixel_grammar.specs.declared.command.Command.TheVariants.{Sixel, Repeat, Raster, Select, Define}
use Rattle.sixel_grammar.specs.declared.command.Command.TheVariants.{CarriageReturn, NextLine}
use Rattle.sixel_grammar.specs.declared.command.Event.{Event}
use Rattle.sixel_grammar.specs.declared.command.Event.TheVariants.{Start, Step, Finish}
use Rattle.sixel_model.specs.Events.{columns_of, is_painting, named_by}
use Rattle.sixel_model.specs.Geometry.{band, column}
use Rattle.sixel_model.specs.Positions.{latest}
use Rattle.sixel_model.proofs.PositionLemmas.{latest_push}
use Rattle.sixel_model.proofs.StepLemmas.{column_push}
use Rattle.sixel_terminal.specs.Stretches.{sixels_of}
use Rattle.sixel_emulator.proofs.PlainLemmas.{band_over, column_over, first_before, same_over}
use Rattle.sixel_emulator.specs.declared.place.Place.{Place}
use Rattle.sixel_mlterm.specs.declared.mlterm.MlTerm.{MlTerm}
use Rattle.sixel_mlterm.specs.declared.mlterm.buffer.Buffer.{Buffer as Stored}
use Rattle.sixel_mlterm.specs.MlTerm.{Buffer, buffer_with, copies_past, end_of, given_by, is_past_all}
use Rattle.sixel_mlterm.specs.MlTerm.{is_said_colour, is_unsaid_data, mlterm, mlterm_buffer, mlterm_data}
use Rattle.sixel_mlterm.specs.MlTerm.{mlterm_colour, mlterm_register}
use Rattle.sixel_mlterm.specs.MlTerm.{mlterm_selected, no_buffer, raster_sides, rows_to, said_by}
use Rattle.sixel_mlterm.specs.MlTerm.{data_sides, has_more, is_chance, is_lost, is_outside, reaching, resized}
use Rattle.sixel_mlterm.specs.MlTerm.{with_data, with_line}
use Rattle.sixel_mlterm.specs.MlTermSeen.{HasSeenMlTerm, buffer_of, free_columns, next_buffer, next_said}
use Rattle.sixel_mlterm.specs.MlTermSeen.{next_selected, said_in}
use Rattle.sixel_emulator.specs.declared.reading.Reads.TheVariants.{Draws, Unsaid}
use Rattle.sixel_emulator.specs.Places.{IsPlaceAfter, most}
use Rattle.sixel_emulator.specs.Words.{after_each, after_first}
use Rattle.sixel_emulator.proofs.WordLemmas.{each_push}

-- ---- before any event

pub seen_none : (place : Place) (buffer : Stored) → IsPlaceAfter 0 place [] → buffer_of buffer ≡ no_buffer
    → HasSeenMlTerm (record {
      place = place;
      selected = 0;
      said = replicate 1024 None;
      buffer = buffer;
    }) []
unfolding latest after_each after_first
seen_none place buffer is none = record {
  place_is = is;
  selected_is = refl;
  registers = refl;
  said_is = λ r lt. get_or-replicate 1024 r None None lt;
  buffer_is = none;
}

-- ---- the selected register

map_or_or : (f : ℕ → ℕ) (o p : Option ℕ) (d : ℕ)
    → option_map_or f o (option_map_or f p d) ≡ option_map_or f (option_or o p) d
map_or_or f None p d = refl
map_or_or f (Some a) p d = refl

-- ---- the colours that the model says

set_is : (b : Bool) (q r : ℕ) (v : Bool) (xs : List (Option Bool)) → (q == r) ≡ b → q < length xs
    → get_or (set xs q (Some v)) r None ≡ option_or (then_some b v) (get_or xs r None)
set_is true q r v xs e lt =
    let same : q ≡ r = eqb-true q r e in
    ap (λ (i : ℕ). get_or (set xs q (Some v)) i None) (sym same) ∙ get_or-set_same xs q (Some v) None lt
set_is false q r v xs e lt = get_or-set_other xs q r (Some v) None (λ d. eqb-false q r e (sym d))

pub register_below : (number : ℕ) → mlterm_register number < 1024
register_below number = grind (arith, nat_tests)

pub selected_below : (o : Option ℕ) → option_map_or mlterm_register o 0 < 1024
selected_below None = omega arith
selected_below (Some r) = register_below r

length_marked : (o : Option (ℕ × Bool)) (marks : List (Option Bool))
    → length (option_map_or (λ (g : ℕ × Bool). set marks g.0 (Some g.1)) o marks) ≡ length marks
length_marked None marks = refl
length_marked (Some g) marks = length-set marks g.0 (Some g.1)

mark_is : (o : Option (ℕ × Bool)) (r : ℕ) (marks : List (Option Bool)) → length marks ≡ 1024
    → IfSome o (λ g. g.0 < 1024)
    → get_or (option_map_or (λ (g : ℕ × Bool). set marks g.0 (Some g.1)) o marks) r None
    ≡ option_or (option_and_then (λ (g : ℕ × Bool). then_some (g.0 == r) g.1) o) (get_or marks r None)
mark_is None r marks long low = refl
mark_is (Some g) r marks long low = set_is (g.0 == r) g.0 r g.1 marks refl (omega (arith, long, low))

sampled_below : (number : ℕ) (samples : Bool) (o : Option Parts)
    → IfSome
    (if samples
    then Some (mlterm_register number, false)
    else option_map (λ (c : Parts). (mlterm_register number, true)) o) (λ (g : ℕ × Bool). g.0 < 1024)
sampled_below number true o = register_below number
sampled_below number false None = tt
sampled_below number false (Some c) = register_below number

given_below : (e : Event) → IfSome (given_by e) (λ g. g.0 < 1024)
given_below (Step (Define number system x y z)) = sampled_below number (system == 3) (mlterm_colour system x y z)
given_below _ = tt

-- ---- the buffer

pub buffer_push : (before : List Event) (e : Event)
    → mlterm_buffer (before ++ e ∷ []) ≡ buffer_with (mlterm_buffer before) before e
buffer_push before e = each_push buffer_with no_buffer before e

-- numbers that stop at the greatest one
pub past_capped : (c n l : ℕ) → is_past_all (min c most + n) (rows_to (min l most)) ≡ is_past_all (c + n) (rows_to l)
past_capped c n l = grind (arith, nat_tests)

-- what isn't past column or row 32,767 doesn't stop
not_past : (c n l : ℕ) → is_past_all (c + n) (rows_to l) ≡ false → (min c most ≡ c) × (min l most ≡ l)
not_past c n l is =
    let column : c ≤ 32767 = grind (arith, nat_tests) in
    let line : l ≤ 32767 = grind (arith, nat_tests) in
    (omega (arith, column), omega (arith, line))

data_capped : (past : Bool) (b : Buffer) (c n l : ℕ) → is_past_all (c + n) (rows_to l) ≡ past
    → with_data b (min c most + n) (rows_to (min l most)) ≡ with_data b (c + n) (rows_to l)
data_capped true b c n l is = rw (past_capped c n l, is) refl
data_capped false b c n l is =
    let same = not_past c n l is in
    rw (same.0, same.1) refl

data_seen : (m : MlTerm) (b : Buffer) (before : List Event) (n : ℕ) → IsPlaceAfter 0 m.place before
    → buffer_of m.buffer ≡ b
    → with_data (buffer_of m.buffer) (m.place.column + n) (rows_to m.place.band)
    ≡ with_data b (column 0 before + n) (rows_to (band before))
data_seen m b before n at is =
    ap (λ (o : Buffer). with_data o (m.place.column + n) (rows_to m.place.band)) is
    ∙ ap₂ (λ (c l : ℕ). with_data b (c + n) (rows_to l)) at.column_is at.band_is
    ∙ data_capped (is_past_all (column 0 before + n) (rows_to (band before))) b (column 0 before) n (band before) refl

with_capped : (m : MlTerm) (b : Buffer) (before : List Event) (e : Event) → IsPlaceAfter 0 m.place before
    → buffer_of m.buffer ≡ b → next_buffer m e ≡ buffer_with b before e
with_capped m b before (Step (Raster pan pad width height)) at is =
    ap (λ (o : Buffer). resized o (raster_sides o width height)) is
with_capped m b before (Step (Sixel bits)) at is = data_seen m b before 1 at is
with_capped m b before (Step (Repeat count bits)) at is = data_seen m b before count at is
with_capped m b before (Step NextLine) at is = ap with_line is
with_capped m b before (Step (Select register)) at is = is
with_capped m b before (Step (Define register system x y z)) at is = is
with_capped m b before (Step CarriageReturn) at is = is
with_capped m b before (Start eight parameters) at is = is
with_capped m b before (Finish eight) at is = is

-- ---- one more event

pub seen_push : (m : MlTerm) (place : Place) (buffer : Stored) (before : List Event) (e : Event)
    → HasSeenMlTerm m before → IsPlaceAfter 0 place (before ++ e ∷ []) → buffer_of buffer ≡ next_buffer m e
    → HasSeenMlTerm (record {
      place = place;
      selected = next_selected m e;
      said = next_said m.said e;
      buffer = buffer;
    }) (before ++ e ∷ [])
seen_push m place buffer before e s at is = record {
  place_is = at;
  selected_is =
      ap (option_map_or mlterm_register (named_by e)) s.selected_is
      ∙ map_or_or mlterm_register (named_by e) (latest named_by before) 0
      ∙ ap (λ o. option_map_or mlterm_register o 0) (sym (latest_push named_by before e));
  registers = length_marked (given_by e) m.said ∙ s.registers;
  said_is = λ r lt. mark_is (given_by e) r m.said s.registers (given_below e)
      ∙ ap (option_or (said_by r e)) (s.said_is r lt) ∙ sym (latest_push (said_by r) before e);
  buffer_is = is ∙ with_capped m (mlterm_buffer before) before e s.place_is s.buffer_is ∙ sym (buffer_push before e);
}

-- ---- what it makes of an event

unsaid_capped : (past : Bool) (b : Buffer) (c l : ℕ) (said : Bool) (e : Event)
    → is_past_all (end_of c e) (rows_to l) ≡ past
    → is_unsaid_data b (min c most) (min l most) said e ≡ is_unsaid_data b c l said e
unsaid_capped true b c l said e is = rw (past_capped c (columns_of 0 e) l, is) refl
unsaid_capped false b c l said e is =
    let same = not_past c (columns_of 0 e) l is in
    rw (same.0, same.1) refl

said_selected : {m : MlTerm} {before : List Event} → HasSeenMlTerm m before
    → said_in m ≡ is_said_colour before (mlterm_selected before)
unfolding is_said_colour
said_selected {m} {before} s =
    ap (λ (r : ℕ). unwrap_or (get_or m.said r None) (nat_le r 255)) s.selected_is
    ∙ ap (λ (o : Option Bool). unwrap_or o (nat_le (mlterm_selected before) 255))
    (s.said_is (mlterm_selected before) (selected_below (latest named_by before)))

unsaid_eq : {b d : Buffer} {c n l k : ℕ} {t u : Bool} (e : Event) → b ≡ d → c ≡ n → l ≡ k → t ≡ u
    → is_unsaid_data b c l t e ≡ is_unsaid_data d n k u e
unsaid_eq {b} {d} {c} {n} {l} {k} {t} {u} e buffers columns lines said =
    ap (λ (x : Buffer). is_unsaid_data x c l t e) buffers ∙ ap (λ (x : ℕ). is_unsaid_data d x l t e) columns
    ∙ ap (λ (x : ℕ). is_unsaid_data d n x t e) lines ∙ ap (λ (x : Bool). is_unsaid_data d n k x e) said

pub data_is : {m : MlTerm} {before : List Event} {u : Bool} (command : Command) → HasSeenMlTerm m before
    → is_unsaid_data (buffer_of m.buffer) m.place.column m.place.band (said_in m) (Step command) ≡ u
    → (if u then Unsaid else Draws command) ≡ mlterm_data before command
data_is {m} {before} {u} command s is =
    ap (λ (b : Bool). if b then Unsaid else Draws command) (sym is
    ∙ unsaid_eq (Step command) s.buffer_is s.place_is.column_is s.place_is.band_is (said_selected s)
    ∙ unsaid_capped (is_past_all (end_of (column 0 before) (Step command)) (rows_to (band before)))
    (mlterm_buffer before) (column 0 before) (band before) (is_said_colour before (mlterm_selected before))
    (Step command) refl)

-- ---- sixels

pub selected_over : (before : List Event) (bytes : List ℕ)
    → mlterm_selected (before ++ sixels_of bytes) ≡ mlterm_selected before
selected_over before bytes =
    same_over mlterm_selected
    (λ es bits. ap (λ (o : Option ℕ). option_map_or mlterm_register o 0) (latest_push named_by es (Step (Sixel bits))))
    before bytes

pub colours_over : (before : List Event) (bytes : List ℕ) (r : ℕ)
    → latest (said_by r) (before ++ sixels_of bytes) ≡ latest (said_by r) before
colours_over before bytes r =
    same_over (latest (said_by r)) (λ es bits. latest_push (said_by r) es (Step (Sixel bits))) before bytes

said_over : (before : List Event) (bytes : List ℕ)
    → is_said_colour (before ++ sixels_of bytes) (mlterm_selected (before ++ sixels_of bytes))
    ≡ is_said_colour before (mlterm_selected before)
unfolding is_said_colour
said_over before bytes =
    rw (selected_over before bytes, colours_over before bytes (mlterm_selected before)) refl

-- a data command in this place changes no side of the buffer
pub record IsFree (b : Buffer) (end rows : ℕ) : Type 0 where
  pub across : end ≤ b.width
  pub down : rows ≤ b.height
  pub near : end ≤ 32767
  pub high : rows ≤ 32767

free_past : (end rows : ℕ) → end ≤ 32767 → rows ≤ 32767 → is_past_all end rows ≡ false
free_past end rows near high = grind (arith, nat_tests)

free_sides : {b : Buffer} {end rows : ℕ} → IsFree b end rows → data_sides b end rows ≡ (b.width, b.height)
free_sides {b} {end} {rows} f =
    let across : nat_le end b.width ≡ true = le-leb end b.width f.across in
    let down : nat_le rows b.height ≡ true = le-leb rows b.height f.down in
    rw (across, down) refl

no_less : (n : ℕ) → nat_lt n n ≡ false
no_less n = grind (arith, nat_tests)

pub free_data : {b : Buffer} {end rows : ℕ} → IsFree b end rows → with_data b end rows ≡ reaching b end
free_data {b} {end} {rows} f =
    rw (free_past end rows f.near f.high, free_sides f, no_less (b.width * b.height)) refl

-- the reach after so many sixels from this column on
abbrev reach_over : ℕ → ℕ → ℕ → ℕ
reach_over reach left zero = reach
reach_over reach left (suc n) = max reach (left + suc n)

reach_more : (reach left n : ℕ) → reach_over (max reach (left + 1)) (left + 1) n ≡ max reach (left + suc n)
reach_more reach left zero = omega arith
reach_more reach left (suc n) = omega arith

buffer_over : (before : List Event) (bytes : List ℕ)
    → IsFree (mlterm_buffer before) (column 0 before + length bytes) (rows_to (band before))
    → mlterm_buffer (before ++ sixels_of bytes)
    ≡ record (mlterm_buffer before) {
      reach = reach_over (mlterm_buffer before).reach (column 0 before) (length bytes);
    }
buffer_over before [] f = ap mlterm_buffer (append-nil before)
buffer_over before (b ∷ bs) f =
    let e : Event = Step (Sixel (b - 63)) in
    let old : Buffer = mlterm_buffer before in
    let first : IsFree old (column 0 before + 1) (rows_to (band before)) = record {
      across = omega (arith, f.across);
      down = f.down;
      near = omega (arith, f.near);
      high = f.high;
    } in
    let new : mlterm_buffer (before ++ e ∷ []) ≡ reaching old (column 0 before + 1) =
    buffer_push before e ∙ free_data first in
    let across : column 0 (before ++ e ∷ []) ≡ column 0 before + 1 = column_push 0 before e in
    let down : band (before ++ e ∷ []) ≡ band before = band_over before (b ∷ []) in
    let rest : IsFree (mlterm_buffer (before ++ e ∷ [])) (column 0 (before ++ e ∷ []) + length bs)
    (rows_to (band (before ++ e ∷ []))) = rw (new, across, down) (record {
      across = omega (arith, f.across);
      down = f.down;
      near = omega (arith, f.near);
      high = f.high;
    }) in
    ap mlterm_buffer (first_before before b bs)
    ∙ (buffer_over (before ++ e ∷ []) bs rest
    ∙ (rw (new, across) (ap (λ (n : ℕ). record old { reach = n })
    (reach_more old.reach (column 0 before) (length bs)))))

free_parts : (t : Bool) (w c n : ℕ) → 0 < n → n ≤ (if t then min w 32767 - c else 0)
    → (t ≡ true) × (c + n ≤ w) × (c + n ≤ 32767)
free_parts true w c n some le = (refl, omega (arith, some, le), omega (arith, some, le))
free_parts false w c n some le = absurd (omega (arith, some, le))

low_rows : (rows h : ℕ) → (nat_le rows h && nat_le rows 32767) ≡ true → (rows ≤ h) × (rows ≤ 32767)
low_rows rows h is =
    let parts = and_parts (nat_le rows h) (nat_le rows 32767) is in
    (grind (arith, nat_tests), grind (arith, nat_tests))

-- where the buffer has so many columns more, the place doesn't stop
free_here : {m : MlTerm} {before : List Event} (n : ℕ) → HasSeenMlTerm m before → 0 < n
    → n ≤ free_columns (buffer_of m.buffer) m.place.column (rows_to m.place.band)
    → (m.place.column ≡ column 0 before) × IsFree (mlterm_buffer before) (column 0 before + n) (rows_to (band before))
free_here {m} {before} n s some le =
    let rows = rows_to m.place.band in
    let parts = free_parts (nat_le rows m.buffer.height && nat_le rows 32767) m.buffer.width m.place.column n some le in
    let low = low_rows rows m.buffer.height parts.0 in
    let width : m.buffer.width ≡ (mlterm_buffer before).width = ap (λ (b : Buffer). b.width) s.buffer_is in
    let height : m.buffer.height ≡ (mlterm_buffer before).height = ap (λ (b : Buffer). b.height) s.buffer_is in
    let here : m.place.column ≡ column 0 before = omega (arith, s.place_is.column_is, parts.2) in
    let line : m.place.band ≡ band before = omega (arith, s.place_is.band_is, low.1) in (
      here,
      record {
        across = omega (arith, here, width, parts.1);
        down = omega (arith, line, height, low.0);
        near = omega (arith, here, parts.2);
        high = omega (arith, line, low.1);
      },
    )

pub mlterm_over : {m : MlTerm} (p : Place) (buffer : Stored) (before : List Event) (bytes : List ℕ)
    → 0 < length bytes → length bytes ≤ free_columns (buffer_of m.buffer) m.place.column (rows_to m.place.band)
    → HasSeenMlTerm m before → IsPlaceAfter 0 p (before ++ sixels_of bytes)
    → buffer_of buffer ≡ reaching (buffer_of m.buffer) (m.place.column + length bytes)
    → HasSeenMlTerm (record m { place = p; buffer = buffer }) (before ++ sixels_of bytes)
mlterm_over p buffer before [] some le s moved is = absurd (omega (arith, some))
mlterm_over {m} p buffer before (b ∷ bs) some le s moved is =
    let free = free_here (suc (length bs)) s some le in
    record {
      place_is = moved;
      selected_is = s.selected_is ∙ sym (selected_over before (b ∷ bs));
      registers = s.registers;
      said_is = λ r lt. s.said_is r lt ∙ sym (colours_over before (b ∷ bs) r);
      buffer_is =
          is ∙ ap₂ (λ (o : Buffer) (c : ℕ). reaching o (c + suc (length bs))) s.buffer_is free.0
          ∙ sym (buffer_over before (b ∷ bs) free.1);
    }

-- ---- which sixels are drawn as they are

all_false : (some more room paints : Bool)
    → (((some && (false && more)) && (false || room)) || (false || (paints && false))) ≡ false
all_false true more room true = refl
all_false true more room false = refl
all_false false more room true = refl
all_false false more room false = refl

none_less : (a b : ℕ) → b ≤ a → nat_lt a b ≡ false
none_less a b le = grind (arith, nat_tests)

free_lost : {b : Buffer} {end rows : ℕ} (e : Event) → IsFree b end rows → is_lost b end rows e ≡ false
free_lost {b} {end} {rows} e f =
    ap (λ (sides : ℕ × ℕ). copies_past b rows sides || is_outside sides end rows e) (free_sides f)
    ∙ rw (no_less b.width, none_less b.height rows f.down, none_less b.width end f.across)
    (all_false (nat_lt 0 b.width) (has_more b (b.width, b.height)) (nat_lt b.room (rows * b.width)) (is_painting e))

paints_said : (paints : Bool) → (paints && not true) ≡ false
paints_said true = refl
paints_said false = refl

free_unsaid : (b : Buffer) (c l bits : ℕ) → IsFree b (c + 1) (rows_to l)
    → is_unsaid_data b c l true (Step (Sixel bits)) ≡ false
free_unsaid b c l bits f =
    ap (λ (x : Bool). x || (is_lost b (c + 1) (rows_to l) (Step (Sixel bits)) || is_chance true (Step (Sixel bits))))
    (free_past (c + 1) (rows_to l) f.near f.high)
    ∙ (ap (λ (x : Bool). x || is_chance true (Step (Sixel bits))) (free_lost (Step (Sixel bits)) f)
    ∙ paints_said (is_painting (Step (Sixel bits))))

draws_if_said : (u : Bool) (command : Command) → u ≡ false → (if u then Unsaid else Draws command) ≡ Draws command
draws_if_said true command is = cc
draws_if_said false command is = refl

pub said_after : {m : MlTerm} (before : List Event) (earlier : List ℕ) (bits : ℕ) → HasSeenMlTerm m before
    → said_in m ≡ true
    → length earlier < free_columns (buffer_of m.buffer) m.place.column (rows_to m.place.band)
    → mlterm_data (before ++ sixels_of earlier) (Sixel bits) ≡ Draws (Sixel bits)
said_after {m} before earlier bits s said lt =
    let n = length earlier in
    let c = column 0 before in
    let free = (free_here (suc n) s (omega arith) (omega (arith, lt))).1 in
    let less : IsFree (mlterm_buffer before) (c + n) (rows_to (band before)) = record {
      across = omega (arith, free.across);
      down = free.down;
      near = omega (arith, free.near);
      high = free.high;
    } in
    let new : Buffer = record (mlterm_buffer before) { reach = reach_over (mlterm_buffer before).reach c n } in
    let last : IsFree new (c + n + 1) (rows_to (band before)) = record {
      across = omega (arith, free.across);
      down = free.down;
      near = omega (arith, free.near);
      high = free.high;
    } in
    draws_if_said _ (Sixel bits)
    (unsaid_eq (Step (Sixel bits)) (buffer_over before earlier less) (column_over 0 before earlier)
    (band_over before earlier) (said_over before earlier ∙ sym (said_selected s) ∙ said)
    ∙ free_unsaid new (c + n) (band before) bits last)

-- ---- a repeat

free_now : (m : MlTerm) (n : ℕ) → 0 < n
    → n ≤ free_columns (buffer_of m.buffer) m.place.column (rows_to m.place.band)
    → IsFree (buffer_of m.buffer) (m.place.column + n) (rows_to m.place.band)
free_now m n some le =
    let rows = rows_to m.place.band in
    let parts = free_parts (nat_le rows m.buffer.height && nat_le rows 32767) m.buffer.width m.place.column n some le in
    let low = low_rows rows m.buffer.height parts.0 in
    record { across = parts.1; down = low.0; near = parts.2; high = low.1 }

pub repeat_reaches : (m : MlTerm) (count bits : ℕ) → 0 < count
    → count ≤ free_columns (buffer_of m.buffer) m.place.column (rows_to m.place.band)
    → reaching (buffer_of m.buffer) (m.place.column + count) ≡ next_buffer m (Step (Repeat count bits))
repeat_reaches m count bits some le = sym (free_data (free_now m count some le))

columns_are : (count bits : ℕ) → 0 < count → columns_of 0 (Step (Repeat count bits)) ≡ count
columns_are count bits some = grind (arith, nat_tests)

some_columns : (count : ℕ) → 0 < count → (count == 0) ≡ false
some_columns count some = grind (arith, nat_tests)

repeat_unsaid : (b : Buffer) (c l count bits : ℕ) (said : Bool) → 0 < count → IsFree b (c + count) (rows_to l)
    → is_chance said (Step (Repeat count bits)) ≡ false
    → is_unsaid_data b c l said (Step (Repeat count bits)) ≡ false
repeat_unsaid b c l count bits said some f chance =
    let e : Event = Step (Repeat count bits) in
    ap (λ (x : Bool). x || (is_past_all (end_of c e) (rows_to l) || (is_lost b (end_of c e) (rows_to l) e
    || is_chance said e))) (some_columns count some)
    ∙ (ap (λ (n : ℕ). is_past_all (c + n) (rows_to l) || (is_lost b (c + n) (rows_to l) e || is_chance said e))
    (columns_are count bits some)
    ∙ (ap (λ (x : Bool). x || (is_lost b (c + count) (rows_to l) e || is_chance said e))
    (free_past (c + count) (rows_to l) f.near f.high)
    ∙ (ap (λ (x : Bool). x || is_chance said e) (free_lost e f) ∙ chance)))

pub repeat_drawn : {m : MlTerm} {before : List Event} (count bits : ℕ) → HasSeenMlTerm m before → 0 < count
    → count ≤ free_columns (buffer_of m.buffer) m.place.column (rows_to m.place.band)
    → is_chance (said_in m) (Step (Repeat count bits)) ≡ false
    → mlterm_data before (Repeat count bits) ≡ Draws (Repeat count bits)
repeat_drawn {m} {before} count bits s some le chance =
    sym (data_is (Repeat count bits) s (repeat_unsaid (buffer_of m.buffer) m.place.column m.place.band count bits
    (said_in m) some (free_now m count some le) chance))

pub blank_repeat : (count bits : ℕ) (said : Bool) → bits % 64 ≡ 0 → is_chance said (Step (Repeat count bits)) ≡ false
blank_repeat count bits said blank = rw blank refl

pub said_repeat : (count bits : ℕ) (said : Bool) → said ≡ true → is_chance said (Step (Repeat count bits)) ≡ false
said_repeat count bits said is = rw is (paints_said (is_painting (Step (Repeat count bits))))

-- ---- one sixel more

sixels_more : (k : ℕ) (bytes : List ℕ) → k < length bytes
    → sixels_of (take k bytes) ++ Step (Sixel (get_or bytes k 0 - 63)) ∷ [] ≡ sixels_of (take (suc k) bytes)
sixels_more k [] lt = absurd (omega (arith, lt))
sixels_more zero (b ∷ bs) lt = refl
sixels_more (suc k) (b ∷ bs) lt =
    ap (λ (l : List Event). Step (Sixel (b - 63)) ∷ l) (sixels_more k bs (omega (arith, lt)))

pub sixels_then : (before : List Event) (k : ℕ) (bytes : List ℕ) → k < length bytes
    → (before ++ sixels_of (take k bytes)) ++ Step (Sixel (get_or bytes k 0 - 63)) ∷ []
    ≡ before ++ sixels_of (take (k + 1) bytes)
sixels_then before k bytes lt =
    let next : suc k ≡ k + 1 = omega arith in
    append_assoc before (sixels_of (take k bytes)) _
    ∙ ap (λ (l : List Event). before ++ l) (sixels_more k bytes lt ∙ ap (λ (n : ℕ). sixels_of (take n bytes)) next)

-- ---- the event after one makes no difference

pub mlterm_alone : (before : List Event) (e : Event) (next : Option Event)
    → mlterm before e next ≡ mlterm before e None
mlterm_alone before (Start eight parameters) next = refl
mlterm_alone before (Step (Raster pan pad width height)) next = refl
mlterm_alone before (Step (Define register system x y z)) next = refl
mlterm_alone before (Step (Select register)) next = refl
mlterm_alone before (Step (Sixel bits)) next = refl
mlterm_alone before (Step (Repeat count bits)) next = refl
mlterm_alone before (Step CarriageReturn) next = refl
mlterm_alone before (Step NextLine) next = refl
mlterm_alone before (Finish eight) next = refl
