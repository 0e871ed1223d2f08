-- Where xterm's next sixel goes, with one more event, and after sixels.
use Rattle.std.proofs.Common.{◌≡◌, ◌∙◌, ◌+◌, ◌-◌, ◌<◌, ◌≤◌, ◌*◌, ◌&&◌, ◌||◌, ℕ, Bool, true, false, List, [], ◌∷◌, ◌++◌, zero, suc}
use Rattle.std.proofs.Common.{ap, ap₂, append-nil, arith, cond, length, min, refl, sym, take}
use Rattle.std.specs.Prelude.{nat_lt, slice_index, if◌then◌else◌}
use Rattle.std.specs.List.{list_any}
use Rattle.std.proofs.lemmas.Bool.{or_parts}
use Rattle.std.proofs.lemmas.Bool.Decides.{nat_tests}
use Rattle.sixel_grammar.specs.declared.command.Command.TheVariants.{Sixel}
use Rattle.sixel_grammar.specs.declared.command.Event.{Event}
use Rattle.sixel_grammar.specs.declared.command.Event.TheVariants.{Step}
use Rattle.sixel_model.specs.Events.{is_next_line, is_painting}
use Rattle.sixel_model.specs.Geometry.{band, band_rows}
use Rattle.sixel_model.proofs.StepLemmas.{band_push}
use Rattle.sixel_terminal.specs.Stretches.{sixels_of}
use Rattle.sixel_terminal.proofs.StretchLemmas.{one_sixel_more}
use Rattle.sixel_emulator.specs.Words.{after_each, after_first}
use Rattle.sixel_emulator.proofs.PlainLemmas.{band_over, first_before}
use Rattle.sixel_emulator.proofs.WordLemmas.{each_push}
use Rattle.sixel_xterm.specs.declared.pen.Pen.{Pen}
use Rattle.sixel_xterm.specs.XTerm.{is_past_rows, pen_after, pen_at, runs_out, xterm_pen, xterm_rows, xterm_side}

pub pen_none : pen_at 0 ≡ xterm_pen []
unfolding xterm_pen after_each after_first
pen_none = refl

pub pen_push : (before : List Event) (e : Event)
    → xterm_pen (before ++ e ∷ []) ≡ pen_after (xterm_pen before) (is_past_rows before) e
unfolding xterm_pen
pen_push before e =
    each_push (λ (p : Pen) (earlier : List Event) (e : Event). pen_after p (is_past_rows earlier) e) (pen_at 0) before e

fewer_rows : (b : Bool) (line : ℕ)
    → (xterm_side - band_rows * (line + cond b 1 0)) ≡ xterm_side - band_rows * line - cond b band_rows 0
fewer_rows true line = omega arith
fewer_rows false line = omega arith

pub rows_push : (before : List Event) (e : Event)
    → xterm_rows (before ++ e ∷ []) ≡ xterm_rows before - cond (is_next_line e) band_rows 0
rows_push before e =
    ap (λ (line : ℕ). xterm_side - band_rows * line) (band_push before e) ∙ fewer_rows (is_next_line e) (band before)

pub rows_over : (before : List Event) (bytes : List ℕ) → xterm_rows (before ++ sixels_of bytes) ≡ xterm_rows before
rows_over before bytes = ap (λ (line : ℕ). xterm_side - band_rows * line) (band_over before bytes)

pub past_over : (before : List Event) (bytes : List ℕ)
    → is_past_rows (before ++ sixels_of bytes) ≡ is_past_rows before
past_over before bytes = ap (λ (rows : ℕ). nat_lt rows band_rows) (rows_over before bytes)

-- ---- sixels with room

and_false : (b : Bool) → (b && false) ≡ false
and_false true = refl
and_false false = refl

has_room : (column bits : ℕ) → column + 1 ≤ xterm_side → runs_out column false (Step (Sixel bits)) ≡ false
has_room column bits le =
    let short : nat_lt xterm_side (column + 1) ≡ false = grind (arith, nat_tests) in
    rw short (and_false (is_painting (Step (Sixel bits))))

one_more : (p : Pen) (bits : ℕ) → p.ended ≡ false → p.column + 1 ≤ xterm_side
    → pen_after p false (Step (Sixel bits)) ≡ pen_at (p.column + 1)
one_more p bits goes le =
    let within : min (p.column + 1) xterm_side ≡ p.column + 1 = omega (arith, le) in
    rw (goes, has_room p.column bits le, within) refl

pub pen_over : (before : List Event) (bytes : List ℕ) → (xterm_pen before).ended ≡ false → is_past_rows before ≡ false
    → 0 < length bytes → (xterm_pen before).column + length bytes ≤ xterm_side
    → xterm_pen (before ++ sixels_of bytes) ≡ pen_at ((xterm_pen before).column + length bytes)
pen_over before [] goes high some le = absurd (omega (arith, some))
pen_over before (b ∷ []) goes high some le =
    let one : (xterm_pen before).column + 1 ≤ xterm_side = omega (arith, le) in
    pen_push before (Step (Sixel (b - 63)))
    ∙ rw high (one_more (xterm_pen before) (b - 63) goes one)
pen_over before (b ∷ c ∷ bs) goes high some le =
    let one : (xterm_pen before).column + 1 ≤ xterm_side = omega (arith, le) in
    let next = before ++ Step (Sixel (b - 63)) ∷ [] in
    let pen : xterm_pen next ≡ pen_at ((xterm_pen before).column + 1) =
    pen_push before (Step (Sixel (b - 63))) ∙ rw high (one_more (xterm_pen before) (b - 63) goes one) in
    let still : is_past_rows next ≡ false = past_over before (b ∷ []) ∙ high in
    let column : (xterm_pen next).column ≡ (xterm_pen before).column + 1 = ap (λ (p : Pen). p.column) pen in
    let far : (xterm_pen next).column + length (c ∷ bs) ≤ xterm_side = omega (arith, column, le) in
    let sum : (xterm_pen next).column + length (c ∷ bs) ≡ (xterm_pen before).column + length (b ∷ c ∷ bs) =
    omega (arith, column) in
    ap xterm_pen (first_before before b (c ∷ bs))
    ∙ (pen_over next (c ∷ bs) (ap (λ (p : Pen). p.ended) pen) still (omega arith) far ∙ ap pen_at sum)

-- ---- sixels without a set bit, with room or without

pub blank_pen : (p : Pen) (is_past : Bool) (bits : ℕ) → p.ended ≡ false → is_painting (Step (Sixel bits)) ≡ false
    → pen_after p is_past (Step (Sixel bits)) ≡ pen_at (min (p.column + 1) xterm_side)
blank_pen p is_past bits goes blank = rw (goes, blank) refl

pub pen_blank_over : (before : List Event) (bytes : List ℕ) → (xterm_pen before).ended ≡ false
    → list_any is_painting (sixels_of bytes) ≡ false → 0 < length bytes
    → xterm_pen (before ++ sixels_of bytes) ≡ pen_at (min ((xterm_pen before).column + length bytes) xterm_side)
pen_blank_over before [] goes none some = absurd (omega (arith, some))
pen_blank_over before (b ∷ []) goes none some =
    let parts = or_parts (is_painting (Step (Sixel (b - 63)))) false none in
    pen_push before (Step (Sixel (b - 63)))
    ∙ blank_pen (xterm_pen before) (is_past_rows before) (b - 63) goes parts.0
pen_blank_over before (b ∷ c ∷ bs) goes none some =
    let parts = or_parts (is_painting (Step (Sixel (b - 63)))) (list_any is_painting (sixels_of (c ∷ bs))) none in
    let next = before ++ Step (Sixel (b - 63)) ∷ [] in
    let pen : xterm_pen next ≡ pen_at (min ((xterm_pen before).column + 1) xterm_side) =
    pen_push before (Step (Sixel (b - 63)))
    ∙ blank_pen (xterm_pen before) (is_past_rows before) (b - 63) goes parts.0 in
    let column : (xterm_pen next).column ≡ min ((xterm_pen before).column + 1) xterm_side =
    ap (λ (p : Pen). p.column) pen in
    let sum : min ((xterm_pen next).column + length (c ∷ bs)) xterm_side
    ≡ min ((xterm_pen before).column + length (b ∷ c ∷ bs)) xterm_side = omega (arith, column) in
    ap xterm_pen (first_before before b (c ∷ bs))
    ∙ (pen_blank_over next (c ∷ bs) (ap (λ (p : Pen). p.ended) pen) parts.1 (omega arith) ∙ ap pen_at sum)

-- ---- a string that has ended

stays : (p : Pen) (is_past : Bool) (e : Event) → p.ended ≡ true → pen_after p is_past e ≡ p
stays p is_past e ended = rw ended refl

pub ended_over : (before : List Event) (bytes : List ℕ) → (xterm_pen before).ended ≡ true
    → xterm_pen (before ++ sixels_of bytes) ≡ xterm_pen before
ended_over before [] ended = ap xterm_pen (append-nil before)
ended_over before (b ∷ bs) ended =
    let next = before ++ Step (Sixel (b - 63)) ∷ [] in
    let same : xterm_pen next ≡ xterm_pen before =
    pen_push before (Step (Sixel (b - 63))) ∙ stays (xterm_pen before) (is_past_rows before) (Step (Sixel (b - 63))) ended in
    ap xterm_pen (first_before before b bs)
    ∙ (ended_over next bs (ap (λ (p : Pen). p.ended) same ∙ ended) ∙ same)

-- ---- sixels one by one

pub pen_more : {pen : Pen} (before : List Event) (bytes : List ℕ) (i : ℕ) (is_past : Bool) → i < length bytes
    → is_past ≡ is_past_rows before → pen ≡ xterm_pen (before ++ sixels_of (take i bytes))
    → pen_after pen is_past (Step (Sixel (slice_index bytes i - 63)))
    ≡ xterm_pen (before ++ sixels_of (take (i + 1) bytes))
pen_more {pen} before bytes i is_past lt past is =
    let seen = before ++ sixels_of (take i bytes) in
    let e : Event = Step (Sixel (slice_index bytes i - 63)) in
    let here : is_past ≡ is_past_rows seen = past ∙ sym (past_over before (take i bytes)) in
    ap₂ (λ (p : Pen) (b : Bool). pen_after p b e) is here
    ∙ (sym (pen_push seen e) ∙ ap xterm_pen (one_sixel_more before bytes i lt))
