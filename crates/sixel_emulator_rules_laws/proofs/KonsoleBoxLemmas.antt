-- konsole's rectangle is the box, if no rule is broken.
use Rattle.std.proofs.Common.{◌≡◌, ℕ, ◌+◌, ◌-◌, ◌*◌, ◌%◌, ◌<◌, ◌≤◌, ◌==◌, Bool, true, false, ◌&&◌, ◌||◌, cond, not, max}
use Rattle.std.proofs.Common.{Some, None, List, [], ◌∷◌, ◌++◌, refl, sym, ap, ap₂, subst, ◌∙◌, append_assoc}
use Rattle.std.proofs.Common.{append-nil, arith}
use Rattle.std.specs.Prelude.{nat_le, nat_lt, if◌then◌else◌}
use Rattle.std.specs.Int.{bit_at}
use Rattle.std.specs.Option.{option_map_or}
use Rattle.std.proofs.lemmas.Bool.{agree_below_at, and_parts, eqb-true, leb-false, ltb-false, ltb-true}
use Rattle.std.proofs.lemmas.Bool.{or_parts, true_from_ne_false}
use Rattle.sixel_grammar.specs.declared.command.Command.TheVariants.{Sixel, Repeat, Raster, Select, Define}
use Rattle.sixel_grammar.specs.declared.command.Command.TheVariants.{CarriageReturn, NextLine}
use Rattle.sixel_grammar.specs.declared.command.Event.{Event}
use Rattle.sixel_grammar.specs.declared.command.Event.TheVariants.{Start, Step, Finish}
use Rattle.sixel_model.specs.Events.{Attributes, bits_of, columns_of, is_data_command, is_in_box, is_next_line}
use Rattle.sixel_model.specs.Events.{is_painting, is_return}
use Rattle.sixel_model.specs.Geometry.{band, column, falls, touches}
use Rattle.sixel_model.specs.Positions.{any_below, since}
use Rattle.sixel_model.specs.Rules.{BreaksOutside, breaks_repeat_zero, raster_before}
use Rattle.sixel_model.proofs.CoverLemmas.{covers_under, passes_below}
use Rattle.sixel_model.proofs.RuleLemmas.{Keeps}
use Rattle.sixel_model.proofs.StepLemmas.{band_push, column_push}
use Rattle.sixel_terminal.proofs.SixelLemmas.{low_bit}
use Rattle.sixel_konsole.specs.Konsole.{column_after, counting, greatest_at, greatest_below, has_begun, konsole_drawing}
use Rattle.sixel_konsole.specs.Konsole.{konsole_opening, rectangle_of, row_after, side}
use Rattle.sixel_konsole.proofs.KonsoleMeasureLemmas.{greatest_push}
use Rattle.sixel_judge.proofs.DrawLemmas.{has_columns}
use Rattle.sixel_emulator_rules.specs.Asked.{breaks_past, leaves_box}
use Rattle.sixel_emulator_rules_laws.proofs.KonsoleDrawingLemmas.{IsBody, asked_last, keeps_last, plain_of, plain_push}
use Rattle.sixel_emulator_rules_laws.proofs.KonsoleRuleLemmas.{IsAsked, IsBox, plain}

-- ---- where the next sixel goes

pub record IsPlace (z : ℕ) (before drawing : List Event) : Type 0 where
  pub line : band drawing ≡ band before
  pub left : column z drawing ≡ column 0 before

quiet_line : (before : List Event) (e : Event) → is_next_line e ≡ false → band (before ++ e ∷ []) ≡ band before
quiet_line before e stays = band_push before e ∙ (ap (λ (b : Bool). band before + cond b 1 0) stays ∙ omega arith)

quiet_column : (z : ℕ) (before : List Event) (e : Event) → is_return e ≡ false → columns_of z e ≡ 0
    → column z (before ++ e ∷ []) ≡ column z before
quiet_column z before e stays none = column_push z before e ∙ rw (stays, none) (omega arith)

pub place_event : (z : ℕ) (before drawing : List Event) (e : Event) → is_next_line e ≡ false → is_return e ≡ false
    → columns_of 0 e ≡ 0 → IsPlace z before drawing → IsPlace z (before ++ e ∷ []) drawing
place_event z before drawing e still stays none p = record {
  line = p.line ∙ sym (quiet_line before e still);
  left = p.left ∙ sym (quiet_column 0 before e stays none);
}

pub place_drawn : (z : ℕ) (before drawing : List Event) (d : Event) → is_next_line d ≡ false → is_return d ≡ false
    → columns_of z d ≡ 0 → IsPlace z before drawing → IsPlace z before (drawing ++ d ∷ [])
place_drawn z before drawing d still stays none p = record {
  line = quiet_line drawing d still ∙ p.line;
  left = quiet_column z drawing d stays none ∙ p.left;
}

pub place_same : (z : ℕ) (before drawing : List Event) (e : Event) → columns_of z e ≡ columns_of 0 e
    → IsPlace z before drawing → IsPlace z (before ++ e ∷ []) (drawing ++ e ∷ [])
place_same z before drawing e same p = record {
  line = band_push drawing e
      ∙ (ap (λ (n : ℕ). n + cond (is_next_line e) 1 0) p.line ∙ sym (band_push before e));
  left = column_push z drawing e
      ∙ (ap₂ (λ (a b : ℕ). cond (is_return e) 0 (a + b)) p.left same ∙ sym (column_push 0 before e));
}

pub same_columns : (z n : ℕ) (before : List Event) (e : Event) → Keeps n before e → columns_of z e ≡ columns_of 0 e
unfolding breaks_repeat_zero
same_columns z n before (Step (Repeat count bits)) k = let some : (count == 0) ≡ false = k.repeat_zero in rw some refl
same_columns z n before _ k = refl

pub place_push : (z n : ℕ) (before drawing : List Event) (e : Event) → Keeps n before e → IsPlace z before drawing
    → IsPlace z (before ++ e ∷ []) (drawing ++ plain e)
place_push z n before drawing (Start eight parameters) k p =
    rw append-nil (place_event z before drawing (Start eight parameters) refl refl refl p)
place_push z n before drawing (Finish eight) k p =
    rw append-nil (place_event z before drawing (Finish eight) refl refl refl p)
place_push z n before drawing (Step (Raster pan pad w h)) k p =
    rw append-nil (place_event z before drawing (Step (Raster pan pad w h)) refl refl refl p)
place_push z n before drawing (Step (Define r s u v w)) k p =
    let d : Event = Step (Define r s u v w) in
    subst (IsPlace z (before ++ d ∷ [])) (append_assoc drawing (d ∷ []) (Step (Select r) ∷ []))
    (place_drawn z (before ++ d ∷ []) (drawing ++ d ∷ []) (Step (Select r)) refl refl refl
    (place_same z before drawing d refl p))
place_push z n before drawing (Step (Select r)) k p = place_same z before drawing _ refl p
place_push z n before drawing (Step (Sixel bits)) k p = place_same z before drawing _ refl p
place_push z n before drawing (Step (Repeat count bits)) k p =
    place_same z before drawing _ (same_columns z n before (Step (Repeat count bits)) k) p
place_push z n before drawing (Step CarriageReturn) k p = place_same z before drawing _ refl p
place_push z n before drawing (Step NextLine) k p = place_same z before drawing _ refl p

-- ---- where a data command ends

-- a data command ends within the box, and so does its band
pub record Fits (a : Attributes) (left line : ℕ) : Type 0 where
  pub across : left ≤ a.width
  pub down : 6 * line + 6 ≤ a.height

some_bit : (bits : ℕ) → bits < 64 → any_below 6 (λ k. bit_at bits k == 1) ≡ not (bits == 0)
unfolding any_below
some_bit bits lt = agree_below_at (λ b. any_below 6 (λ k. bit_at b k == 1)) (λ b. not (b == 0)) 64 bits refl lt

-- a bit of a painting command is set
record HasBit (e : Event) : Type 0 where
  pub bit : ℕ
  pub below : bit < 6
  pub set : bit_at (bits_of e) bit ≡ 1

has_bit : (e : Event) → is_painting e ≡ true → HasBit e
has_bit e paints =
    let low : bits_of e % 64 < 64 = omega arith in
    let found = passes_below 6 (λ k. bit_at (bits_of e % 64) k == 1) (some_bit (bits_of e % 64) low ∙ paints) in
    record {
      bit = found.number;
      below = found.below;
      set = sym (low_bit (bits_of e) found.number found.below) ∙ eqb-true _ _ found.passes;
    }

inside : (before : List Event) (e : Event) (a : Attributes) (x y : ℕ) → ¬ BreaksOutside before e
    → raster_before before ≡ Some a → falls before e x y ≡ true → is_in_box a x y ≡ true
unfolding BreaksOutside
inside before e a x y k box fell =
    true_from_ne_false (is_in_box a x y) (λ out. k (rw box (x, y, record { painted = fell; outside = out })))

painted_inside : (n : ℕ) (before : List Event) (e : Event) (a : Attributes) → Keeps n before e
    → raster_before before ≡ Some a → is_painting e ≡ true → (b : HasBit e)
    → is_in_box a (column 0 before + columns_of 0 e - 1) (6 * band before + b.bit) ≡ true
unfolding falls touches
painted_inside n before e a k box paints b =
    let some : 0 < columns_of 0 e = has_columns e k.repeat_zero paints in
    inside before e a (column 0 before + columns_of 0 e - 1) (6 * band before + b.bit) k.outside box
    (covers_under (column 0 before) (columns_of 0 e) (band before) (bits_of e) (column 0 before + columns_of 0 e - 1)
    (6 * band before + b.bit)
    (record {
      bit = b.bit;
      below = b.below;
      set = b.set;
      row = refl;
      from = omega (arith, some);
      to = omega (arith, some);
    }))

painted_fits : (n : ℕ) (before : List Event) (e : Event) (a : Attributes) → Keeps n before e
    → raster_before before ≡ Some a → a.height % 6 ≡ 0 → is_painting e ≡ true
    → Fits a (column 0 before + columns_of 0 e) (band before)
painted_fits n before e a k box rows paints =
    let b : HasBit e = has_bit e paints in
    let some : 0 < columns_of 0 e = has_columns e k.repeat_zero paints in
    let both = and_parts _ _ (painted_inside n before e a k box paints b) in
    let right : column 0 before + columns_of 0 e - 1 < a.width = ltb-true _ _ both.0 in
    let low : 6 * band before + b.bit < a.height = ltb-true _ _ both.1 in
    record { across = omega (arith, some, right); down = omega (arith, rows, low) }

blank_fits : (before : List Event) (e : Event) (a : Attributes) → IsAsked before e → raster_before before ≡ Some a
    → a.height % 6 ≡ 0 → is_data_command e ≡ true → is_painting e ≡ false
    → Fits a (column 0 before + columns_of 0 e) (band before)
unfolding breaks_past
blank_fits before e a asked box rows is_data blank =
    let past : (not (is_painting e) && option_map_or (λ b. leaves_box b before e) (raster_before before) false)
    ≡ false = asked.past in
    let stays : (nat_lt a.width (column 0 before + columns_of 0 e) || nat_le a.height (6 * band before)) ≡ false =
    rw (blank, box, is_data) at past in
    let both = or_parts _ _ stays in
    let right : column 0 before + columns_of 0 e ≤ a.width = ltb-false _ _ both.0 in
    let low : 6 * band before < a.height = leb-false _ _ both.1 in
    record { across = right; down = omega (arith, rows, low) }

data_fits : (n : ℕ) (before : List Event) (e : Event) (a : Attributes) (paints : Bool) → is_painting e ≡ paints
    → Keeps n before e → IsAsked before e → raster_before before ≡ Some a → a.height % 6 ≡ 0
    → is_data_command e ≡ true → Fits a (column 0 before + columns_of 0 e) (band before)
data_fits n before e a true is k asked box rows is_data = painted_fits n before e a k box rows is
data_fits n before e a false is k asked box rows is_data = blank_fits before e a asked box rows is_data is

-- ---- all data commands

pub record IsWithin (a : Attributes) (drawing : List Event) : Type 0 where
  pub across : greatest_at column_after drawing ≤ a.width
  pub down : greatest_at row_after drawing ≤ a.height

if_most : (b : Bool) (c most : ℕ) → (b ≡ true → c ≤ most) → (if b then c else 0) ≤ most
if_most true c most h = h refl
if_most false c most h = omega arith

most_both : (a b c most : ℕ) → c ≡ max a b → a ≤ most → b ≤ most → c ≤ most
most_both a b c most is low small = omega (arith, is, low, small)

within_push : (a : Attributes) (drawing : List Event) (e : Event)
    → (is_data_command e ≡ true → Fits a (column 1 drawing + columns_of 1 e) (band drawing)) → IsWithin a drawing
    → IsWithin a (drawing ++ e ∷ [])
within_push a drawing e fits w = record {
  across = most_both _ _ _ a.width (greatest_push column_after drawing e) w.across
      (if_most (is_data_command e) _ a.width (λ h. (fits h).across));
  down = most_both _ _ _ a.height (greatest_push row_after drawing e) w.down
      (if_most (is_data_command e) _ a.height (λ h. (fits h).down));
}

none_within : (a : Attributes) → IsWithin a []
unfolding greatest_at greatest_below
none_within a = record { across = omega arith; down = omega arith }

within_still : (a : Attributes) (drawing : List Event) (e : Event) → is_data_command e ≡ false → IsWithin a drawing
    → IsWithin a (drawing ++ e ∷ [])
within_still a drawing e none w = within_push a drawing e (λ h. absurd (let no : true ≡ false = sym h ∙ none in cc)) w

within_plain : (a : Attributes) (drawing : List Event) (e : Event)
    → (is_data_command e ≡ true → Fits a (column 1 drawing + columns_of 1 e) (band drawing)) → IsWithin a drawing
    → IsWithin a (drawing ++ plain e)
within_plain a drawing (Start eight parameters) fits w = rw append-nil w
within_plain a drawing (Finish eight) fits w = rw append-nil w
within_plain a drawing (Step (Raster pan pad x y)) fits w = rw append-nil w
within_plain a drawing (Step (Define r s x y z)) fits w =
    let d : Event = Step (Define r s x y z) in
    subst (IsWithin a) (append_assoc drawing (d ∷ []) (Step (Select r) ∷ []))
    (within_still a (drawing ++ d ∷ []) (Step (Select r)) refl (within_still a drawing d refl w))
within_plain a drawing (Step (Select r)) fits w = within_push a drawing _ fits w
within_plain a drawing (Step (Sixel bits)) fits w = within_push a drawing _ fits w
within_plain a drawing (Step (Repeat count bits)) fits w = within_push a drawing _ fits w
within_plain a drawing (Step CarriageReturn) fits w = within_push a drawing _ fits w
within_plain a drawing (Step NextLine) fits w = within_push a drawing _ fits w

-- all that konsole draws of these events ends within the box
pub record IsHeld (a : Attributes) (events : List Event) : Type 0 where
  pub place : IsPlace 1 events (plain_of events)
  pub within : IsWithin a (plain_of events)

pub held_push : (n : ℕ) (a : Attributes) (before : List Event) (e : Event) → IsBody n (before ++ e ∷ [])
    → raster_before before ≡ Some a → a.height % 6 ≡ 0 → IsHeld a before → IsHeld a (before ++ e ∷ [])
held_push n a before e body box rows h =
    let k : Keeps n before e = keeps_last n before e body.unbroken in
    let asked : IsAsked before e = asked_last before e body.asked in
    record {
      place = rw (plain_push before e) (place_push 1 n before (plain_of before) e k h.place);
      within = rw (plain_push before e)
          (within_plain a (plain_of before) e
          (λ is_data. rw ((h.place).left, (h.place).line, same_columns 1 n before e k)
          (data_fits n before e a (is_painting e) refl k asked box rows is_data)) h.within);
    }

pub none_held : (a : Attributes) (events : List Event) → plain_of events ≡ [] → band events ≡ 0 → column 0 events ≡ 0
    → IsHeld a events
unfolding band column since
none_held a events none line left = record {
  place = rw none (record { line = sym line; left = sym left });
  within = rw none (none_within a);
}

-- ---- the rectangle

rectangle_box : (a : Attributes) (drawing : List Event) → IsBox a → IsWithin a drawing
    → rectangle_of (Some a) drawing ≡ Raster 1 1 a.width a.height
rectangle_box a drawing box w =
    let narrow : a.width ≤ 2048 = box.narrow in
    let low : a.height ≤ 2048 = box.low in
    let across : greatest_at column_after drawing ≤ a.width = w.across in
    let down : greatest_at row_after drawing ≤ a.height = w.down in
    let wide : side (max a.width (greatest_at column_after drawing)) ≡ a.width = omega (arith, narrow, across) in
    let high : side (max a.height (greatest_at row_after drawing) * 1) ≡ a.height = omega (arith, low, down) in
    rw (box.pan, box.pad) (ap₂ (λ (x y : ℕ). Raster 1 1 x y) wide high)

pub opening_box : (a : Attributes) (events kept : List Event) → IsBox a → has_begun events None ≡ true
    → counting events None ≡ Some a → konsole_drawing events None ≡ plain_of kept → IsWithin a (plain_of kept)
    → konsole_opening events ≡ Step (Raster 1 1 a.width a.height) ∷ []
opening_box a events kept box begun counted drawn w =
    rw (begun, counted, drawn, rectangle_box a (plain_of kept) box w) refl
