-- What an `XTerm` keeps, with one more event.
use Rattle.std.proofs.Common.{◌≡◌, ◌==◌, ◌≤◌, ◌<◌, ◌+◌, ◌-◌, ◌%◌, ℕ, zero, suc, Bool, true, false, not, ◌&&◌, ◌||◌}
use Rattle.std.proofs.Common.{length, List, [], ◌∷◌, ◌++◌, max, Option, refl, sym, subst, ap, ◌∙◌, append-nil, arith}
use Rattle.std.specs.Prelude.{nat_le, nat_lt, unwrap_or, if◌then◌else◌}
use Rattle.std.proofs.lemmas.Bool.{and_parts, leb-true, not-true, or_parts}
use Rattle.std.proofs.lemmas.Bool.Decides.{nat_tests}
use Rattle.std.specs.List.{list_any}
use Rattle.sixel_grammar.specs.declared.command.Command.{Command}
use Rattle.sixel_grammar.specs.declared.command.Command.TheVariants.{Sixel, Repeat}
use Rattle.sixel_grammar.specs.declared.command.Event.{Event}
use Rattle.sixel_grammar.specs.declared.command.Event.TheVariants.{Step}
use Rattle.sixel_model.specs.Events.{is_data_command, is_painting}
use Rattle.sixel_model.specs.Geometry.{band, band_rows}
use Rattle.sixel_model.specs.Positions.{latest}
use Rattle.sixel_terminal.specs.Stretches.{sixels_of}
use Rattle.sixel_xterm.specs.declared.pen.Pen.{Pen}
use Rattle.sixel_xterm.specs.declared.xterm.XTerm.{XTerm}
use Rattle.sixel_emulator.specs.declared.reading.Reads.TheVariants.{Draws}
use Rattle.sixel_emulator.specs.Readings.{ArePlain, ArePlainBlanks}
use Rattle.sixel_emulator.specs.Words.{greatest, kept, second_of, second_parameter}
use Rattle.sixel_xterm.specs.XTerm.{fills_xterm, height_of, is_past_rows, pen_after, pen_at, width_of, xterm}
use Rattle.sixel_xterm.specs.XTerm.{xterm_columns, xterm_painting, xterm_pen, xterm_rows, xterm_side}
use Rattle.sixel_xterm.specs.XTermSeen.{HasSeenXTerm, has_room, is_free, next_rows}
use Rattle.sixel_emulator.proofs.PlainLemmas.{data_over, first_before, kept_whole, same_over}
use Rattle.sixel_emulator.proofs.WordLemmas.{any_push, greatest_push, second_push}
use Rattle.sixel_xterm.proofs.PenLemmas.{blank_pen, past_over, pen_none, pen_over, pen_push, rows_over, rows_push}

pub xterm_none : HasSeenXTerm (record {
  pen = pen_at 0;
  rows = xterm_side;
  width = 0;
  height = 0;
  has_data = false;
  second = 0;
}) []
unfolding greatest latest band
xterm_none = record {
  pen_is = pen_none;
  rows_is = refl;
  width_is = refl;
  height_is = refl;
  has_data_is = refl;
  second_is = refl;
}

pub xterm_push : {x : XTerm} {before : List Event} (e : Event) → HasSeenXTerm x before
    → HasSeenXTerm (record {
      pen = pen_after x.pen (is_past_rows before) e;
      rows = next_rows x.rows e;
      width = max x.width (width_of e);
      height = max x.height (height_of e);
      has_data = x.has_data || is_data_command e;
      second = unwrap_or (second_of e) x.second;
    }) (before ++ e ∷ [])
xterm_push {before = before} e s = record {
  pen_is = ap (λ (p : Pen). pen_after p (is_past_rows before) e) s.pen_is ∙ sym (pen_push before e);
  rows_is = ap (λ (rows : ℕ). next_rows rows e) s.rows_is ∙ sym (rows_push before e);
  width_is = ap (λ (n : ℕ). max n (width_of e)) s.width_is ∙ sym (greatest_push width_of before e);
  height_is = ap (λ (n : ℕ). max n (height_of e)) s.height_is ∙ sym (greatest_push height_of before e);
  has_data_is =
      ap (λ (b : Bool). b || is_data_command e) s.has_data_is ∙ sym (any_push is_data_command before e);
  second_is = ap (unwrap_or (second_of e)) s.second_is ∙ sym (second_push before e);
}

-- ---- sixels

second_over : (before : List Event) (bytes : List ℕ)
    → second_parameter (before ++ sixels_of bytes) ≡ second_parameter before
second_over before bytes = same_over second_parameter (λ es bits. second_push es (Step (Sixel bits))) before bytes

pub xterm_over : {x : XTerm} (pen : Pen) {before : List Event} (bytes : List ℕ) → HasSeenXTerm x before
    → pen ≡ xterm_pen (before ++ sixels_of bytes) → HasSeenXTerm (record {
      pen = pen;
      rows = x.rows;
      width = x.width;
      height = x.height;
      has_data = x.has_data || nat_lt 0 (length bytes);
      second = x.second;
    }) (before ++ sixels_of bytes)
xterm_over pen {before} bytes s moved = record {
  pen_is = moved;
  rows_is = s.rows_is ∙ sym (rows_over before bytes);
  width_is = s.width_is ∙ sym (greatest_over width_of (λ bits. refl) before bytes);
  height_is = s.height_is ∙ sym (greatest_over height_of (λ bits. refl) before bytes);
  has_data_is =
      ap (λ (b : Bool). b || nat_lt 0 (length bytes)) s.has_data_is ∙ sym (data_over before bytes);
  second_is = s.second_is ∙ sym (second_over before bytes);
}
  where
    greatest_over : (f : Event → ℕ) → ((bits : ℕ) → f (Step (Sixel bits)) ≡ 0) → (es : List Event) (bs : List ℕ)
        → greatest f (es ++ sixels_of bs) ≡ greatest f es
    greatest_over f none es bs =
        same_over (greatest f)
        (λ xs bits. greatest_push f xs (Step (Sixel bits)) ∙ (ap (max (greatest f xs)) (none bits) ∙ omega arith)) es bs

still_filled : (d e s : Bool) → (not d && not s) ≡ false → (not (d || e) && not s) ≡ false
still_filled true e s is = refl
still_filled false true s is = refl
still_filled false false s is = is

pub fills_over : (before : List Event) (bytes : List ℕ) → fills_xterm before ≡ false
    → fills_xterm (before ++ sixels_of bytes) ≡ false
fills_over before bytes is =
    rw (data_over before bytes, second_over before bytes)
    (still_filled (list_any is_data_command before) (nat_lt 0 (length bytes)) (second_parameter before == 1) is)

-- ---- data commands with room

either_way : (b : Bool) (command other : Command) → other ≡ command → (if b then command else other) ≡ command
either_way true command other same = refl
either_way false command other same = same

-- a data command with room is painted as it is
pub with_room : (before : List Event) (command : Command) (count bits : ℕ) → is_past_rows before ≡ false
    → (xterm_pen before).column + count ≤ xterm_side → xterm_painting before command count bits ≡ command
with_room before command count bits high le =
    let down : band_rows ≤ xterm_rows before = grind (arith, nat_tests) in
    let across : count ≤ xterm_columns before = rw high (omega (arith, le)) in
    either_way (bits % 64 == 0) command (kept (xterm_columns before) (xterm_rows before) command count bits)
    (kept_whole (xterm_columns before) (xterm_rows before) command count bits across down)

reads_plain : (before : List Event) (bits : ℕ) (next : Option Event) → fills_xterm before ≡ false
    → is_past_rows before ≡ false → (xterm_pen before).ended ≡ false → (xterm_pen before).returned ≡ false
    → (xterm_pen before).column + 1 ≤ xterm_side → xterm before (Step (Sixel bits)) next ≡ Draws (Sixel bits)
reads_plain before bits next filled high goes here le =
    rw (goes, filled, here) (ap Draws (with_room before (Sixel bits) 1 bits high le))

-- what is free
record IsFree (before : List Event) : Type 0 where
  pub goes : (xterm_pen before).ended ≡ false
  pub here : (xterm_pen before).returned ≡ false
  pub filled : fills_xterm before ≡ false

free : (before : List Event) → is_free before ≡ true → IsFree before
free before is =
    let none = not-true ((xterm_pen before).ended || (xterm_pen before).returned || fills_xterm before) is in
    let first = or_parts ((xterm_pen before).ended || (xterm_pen before).returned) (fills_xterm before) none in
    let more = or_parts (xterm_pen before).ended (xterm_pen before).returned first.0 in
    record { goes = more.0; here = more.1; filled = first.1 }

pub xterm_plain : (before : List Event) (n : ℕ) → is_free before ≡ true → is_past_rows before ≡ false
    → n ≤ xterm_side - (xterm_pen before).column → ArePlain xterm before n
xterm_plain before n is high left = plain
  where
    f : IsFree before
    f = free before is

    plain : ArePlain xterm before n
    plain [] lt bits next =
        let le : (xterm_pen before).column + 1 ≤ xterm_side = omega (arith, left, lt) in
        rw (append-nil before) (reads_plain before bits next f.filled high f.goes f.here le)
    plain (b ∷ bs) lt bits next =
        let all : List ℕ = b ∷ bs in
        let far : (xterm_pen before).column + length all ≤ xterm_side = omega (arith, left, lt) in
        let pen = pen_over before all f.goes high (omega arith) far in
        let column : (xterm_pen (before ++ sixels_of all)).column ≡ (xterm_pen before).column + length all =
        ap (λ (p : Pen). p.column) pen in
        reads_plain (before ++ sixels_of all) bits next (fills_over before all f.filled) (past_over before all ∙ high)
        (ap (λ (p : Pen). p.ended) pen) (ap (λ (p : Pen). p.returned) pen) (omega (arith, column, left, lt))

blank_or_room : (before : List Event) (count bits : ℕ)
    → has_room before count bits ≡ true → 0 < count → xterm_painting before (Repeat count bits) count bits ≡ Repeat count bits
blank_or_room before count bits is some = by (bits % 64 == 0) refl
  where
    by : (b : Bool) → (bits % 64 == 0) ≡ b → xterm_painting before (Repeat count bits) count bits ≡ Repeat count bits
    by true blank = rw blank refl
    by false set =
        let room : (not (is_past_rows before) && nat_le count (xterm_side - (xterm_pen before).column)) ≡ true =
        rw set at is in
        let both = and_parts (not (is_past_rows before)) (nat_le count (xterm_side - (xterm_pen before).column)) room in
        let high : is_past_rows before ≡ false = not-true (is_past_rows before) both.0 in
        let left : count ≤ xterm_side - (xterm_pen before).column =
        leb-true count (xterm_side - (xterm_pen before).column) both.1 in
        let le : (xterm_pen before).column + count ≤ xterm_side = omega (arith, left, some) in
        with_room before (Repeat count bits) count bits high le

pub repeat_plain : (before : List Event) (count bits : ℕ) (next : Option Event) → 0 < count → is_free before ≡ true
    → has_room before count bits ≡ true → xterm before (Step (Repeat count bits)) next ≡ Draws (Repeat count bits)
repeat_plain before count bits next some is room =
    let f = free before is in
    let counted : (count == 0) ≡ false = grind (arith, nat_tests) in
    rw (f.goes, counted, f.filled, f.here) (ap Draws (blank_or_room before count bits room some))

-- ---- sixels without a set bit

free_next : (before : List Event) (b : ℕ) → IsFree before → is_painting (Step (Sixel (b - 63))) ≡ false
    → IsFree (before ++ Step (Sixel (b - 63)) ∷ [])
free_next before b f blank =
    let pen = pen_push before (Step (Sixel (b - 63)))
    ∙ blank_pen (xterm_pen before) (is_past_rows before) (b - 63) f.goes blank in
    record {
      goes = ap (λ (p : Pen). p.ended) pen;
      here = ap (λ (p : Pen). p.returned) pen;
      filled = fills_over before (b ∷ []) f.filled;
    }

free_over : (before : List Event) (bytes : List ℕ) → IsFree before
    → list_any is_painting (sixels_of bytes) ≡ false → IsFree (before ++ sixels_of bytes)
free_over before [] f none = rw (append-nil before) f
free_over before (b ∷ bs) f none =
    let parts = or_parts (is_painting (Step (Sixel (b - 63)))) (list_any is_painting (sixels_of bs)) none in
    subst IsFree (sym (first_before before b bs))
    (free_over (before ++ Step (Sixel (b - 63)) ∷ []) bs (free_next before b f parts.0) parts.1)

blank_stays : (before : List Event) (bits : ℕ) → is_painting (Step (Sixel bits)) ≡ false
    → xterm_painting before (Sixel bits) 1 bits ≡ Sixel bits
blank_stays before bits blank = rw (not_set (bits % 64 == 0) blank) refl
  where
    not_set : (b : Bool) → not b ≡ false → b ≡ true
    not_set true is = refl
    not_set false is = cc

pub xterm_blanks : (before : List Event) → is_free before ≡ true → ArePlainBlanks xterm before
xterm_blanks before is = λ earlier none bits blank next.
    let f = free_over before earlier (free before is) none in
    let es = before ++ sixels_of earlier in
    rw (f.goes, f.filled, f.here) (ap Draws (blank_stays es bits blank))
