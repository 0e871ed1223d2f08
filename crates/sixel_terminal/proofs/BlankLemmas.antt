-- Data commands that paint nothing move the pen, and that is all.
use Rattle.std.proofs.Common.{◌≡◌, ◌==◌, ℕ, zero, suc, ◌+◌, ◌-◌, ◌%◌, Bool, true, false, ◌&&◌, ◌||◌, not}
use Rattle.std.proofs.Common.{List, [], ◌∷◌, ◌++◌, append_assoc, cond, get_or, min, replicate, refl, sym, ap, subst}
use Rattle.std.proofs.Common.{◌∙◌, arith}
use Rattle.std.specs.List.{list_all, list_any}
use Rattle.std.proofs.lemmas.Bool.{and_parts, eqb-true}
use Rattle.std.proofs.lemmas.List.{append-nil}
use Rattle.std.proofs.lemmas.List.Folds.{list_any-append}
use Rattle.sixel_grammar.specs.declared.command.Command.{Command}
use Rattle.sixel_grammar.specs.declared.command.Command.TheVariants.{Sixel, Repeat, Raster, Select, Define}
use Rattle.sixel_grammar.specs.declared.command.Command.TheVariants.{CarriageReturn, NextLine}
use Rattle.sixel_grammar.specs.declared.command.Event.{Event}
use Rattle.sixel_grammar.specs.declared.command.Event.TheVariants.{Start, Step, Finish}
use Rattle.sixel_model.specs.declared.colour.Parts.{Parts}
use Rattle.sixel_model.specs.Events.{columns_of, is_eight_bit}
use Rattle.sixel_terminal.specs.declared.pen.Pen.{Pen}
use Rattle.sixel_terminal.specs.declared.pixel.Ink.{Ink}
use Rattle.sixel_terminal.specs.Blanks.{AreBlank, columns_in, is_blank}
use Rattle.sixel_terminal.specs.Canvases.{black}
use Rattle.sixel_terminal.specs.Displays.{Display, registers_of}
use Rattle.sixel_terminal.specs.Drawings.{Drawn, HasDrawn}
use Rattle.sixel_terminal.specs.Standing.{StandsAfter}
use Rattle.sixel_terminal.specs.Steps.{ink_after_event, ink_by_colours, is_before_edges, is_from_origin, most}
use Rattle.sixel_terminal.specs.Steps.{pen_covers}
use Rattle.sixel_terminal.proofs.DrawLemmas.{none_chosen, or_none}
use Rattle.sixel_terminal.proofs.InkLemmas.{stands_push}
use Rattle.sixel_terminal.proofs.PaintLemmas.{data_pixel, no_columns}
use Rattle.sixel_terminal.proofs.RunLemmas.{Runs}
use Rattle.sixel_terminal.proofs.SixelLemmas.{blank_covers}
use Rattle.sixel_terminal.proofs.StretchLemmas.{and_none}

not_twice : (b : Bool) → not (not b) ≡ true → b ≡ true
not_twice true h = refl
not_twice false h = cc

-- no column, or no bit, covers no pixel
covers_none : (t : Display) (p : Pen) (count bits x y : ℕ) → (count == 0 || not (not (bits % 64 == 0))) ≡ true
    → pen_covers t p count bits x y ≡ false
covers_none t p count bits x y nothing = by_count (count == 0) refl nothing
  where
    no_column : count ≡ 0 → pen_covers t p count bits x y ≡ false
    no_column none =
        ap (λ (n : ℕ). pen_covers t p n bits x y) none
        ∙ (ap (λ (v : Bool). is_from_origin t x y && (v && is_before_edges t p.declared x y))
        (no_columns p.column p.band p.height bits (x - t.choices.origin_x) (y - t.choices.origin_y))
        ∙ and_none (is_from_origin t x y))

    by_count : (b : Bool) → (count == 0) ≡ b → (b || not (not (bits % 64 == 0))) ≡ true
        → pen_covers t p count bits x y ≡ false
    by_count true is h = no_column (eqb-true count 0 is)
    by_count false is h = blank_covers t p count bits x y (eqb-true (bits % 64) 0 (not_twice (bits % 64 == 0) h))

blank_pixel : (t : Display) (p : Pen) (colours : List Parts) (command : Command) (x y : ℕ) (ink : Ink)
    → is_blank t.choices.zero (Step command) ≡ true → ink ≡ ink_after_event t p colours (Step command) x y ink
blank_pixel t p colours (Sixel bits) x y ink blank =
    ap (λ (v : Bool). cond v (ink_by_colours t colours p.selected) ink) (sym (covers_none t p 1 bits x y blank))
    ∙ data_pixel t p colours (Sixel bits) x y ink refl
blank_pixel t p colours (Repeat count bits) x y ink blank =
    ap (λ (v : Bool). cond v (ink_by_colours t colours p.selected) ink)
    (sym (covers_none t p (columns_of t.choices.zero (Step (Repeat count bits))) bits x y blank))
    ∙ data_pixel t p colours (Repeat count bits) x y ink refl
blank_pixel t p colours (Raster a b c d) x y ink blank = cc
blank_pixel t p colours (Select r) x y ink blank = cc
blank_pixel t p colours (Define r s a b c) x y ink blank = cc
blank_pixel t p colours CarriageReturn x y ink blank = cc
blank_pixel t p colours NextLine x y ink blank = cc

-- one data command that paints nothing
stands_step : (t : Display) (before : List Event) (p : Pen) (command : Command) (colours : List Parts) (inks : List Ink)
    → Runs t → is_blank t.choices.zero (Step command) ≡ true → StandsAfter t before p colours inks
    → StandsAfter t (before ++ Step command ∷ [])
    (record p { column = min (p.column + columns_of t.choices.zero (Step command)) most }) colours inks
stands_step t before p (Sixel bits) colours inks runs blank s =
    stands_push t before p _ (Step (Sixel bits)) colours colours inks inks runs s refl (omega (arith, s.pen.band_is))
    refl (or_none p.declared) (none_chosen t.choices.selects _ (registers_of t) p.selected refl refl) refl (λ r lt. refl)
    refl (λ i lt. blank_pixel t p colours (Sixel bits) _ _ (get_or inks i black) blank)
stands_step t before p (Repeat count bits) colours inks runs blank s =
    stands_push t before p _ (Step (Repeat count bits)) colours colours inks inks runs s refl
    (omega (arith, s.pen.band_is)) refl (or_none p.declared)
    (none_chosen t.choices.selects _ (registers_of t) p.selected refl refl) refl (λ r lt. refl) refl
    (λ i lt. blank_pixel t p colours (Repeat count bits) _ _ (get_or inks i black) blank)
stands_step t before p (Raster a b c d) colours inks runs blank s = cc
stands_step t before p (Select r) colours inks runs blank s = cc
stands_step t before p (Define r s a b c) colours inks runs blank stands = cc
stands_step t before p CarriageReturn colours inks runs blank s = cc
stands_step t before p NextLine colours inks runs blank s = cc

-- many of them
stands_blank : (t : Display) (blanks before : List Event) (p : Pen) (colours : List Parts) (inks : List Ink)
    → Runs t → list_all (is_blank t.choices.zero) blanks ≡ true → StandsAfter t before p colours inks
    → StandsAfter t (before ++ blanks) (record p { column = min (p.column + columns_in t.choices.zero blanks) most })
    colours inks
stands_blank t [] before p colours inks runs blank s =
    let same : p.column ≡ min (p.column + 0) most = omega (arith, s.pen.column_is) in
    subst (λ (n : ℕ). StandsAfter t (before ++ []) (record p { column = n }) colours inks) same
    (subst (λ (es : List Event). StandsAfter t es p colours inks) (sym (append-nil before)) s)
stands_blank t (Step command ∷ rest) before p colours inks runs blank s =
    let e : Event = Step command in
    let zero_is = t.choices.zero in
    let both = and_parts (is_blank zero_is e) (list_all (is_blank zero_is) rest) blank in
    let one = stands_step t before p command colours inks runs both.0 s in
    let column : min (min (p.column + columns_of zero_is e) most + columns_in zero_is rest) most
    ≡ min (p.column + (columns_of zero_is e + columns_in zero_is rest)) most = omega arith in
    subst (λ (n : ℕ). StandsAfter t (before ++ e ∷ rest) (record p { column = n }) colours inks) column
    (subst (λ (es : List Event). StandsAfter t es (record p {
      column = min (min (p.column + columns_of zero_is e) most + columns_in zero_is rest) most;
    }) colours inks) (append_assoc before (e ∷ []) rest)
    (stands_blank t rest (before ++ e ∷ []) (record p { column = min (p.column + columns_of zero_is e) most }) colours
    inks runs both.1 one))
stands_blank t (Start eight parameters ∷ rest) before p colours inks runs blank s = cc
stands_blank t (Finish eight ∷ rest) before p colours inks runs blank s = cc

-- the pen after them
pub stands_past : (t : Display) (blanks before : List Event) (p q : Pen) (columns : ℕ) (colours : List Parts)
    (inks : List Ink) → Runs t → q ≡ record p { column = min (p.column + columns) most }
    → AreBlank t.choices.zero columns blanks → StandsAfter t before p colours inks
    → StandsAfter t (before ++ blanks) q colours inks
stands_past t blanks before p q columns colours inks runs moved are s =
    subst (λ (r : Pen). StandsAfter t (before ++ blanks) r colours inks)
    (ap (λ (n : ℕ). record p { column = min (p.column + n) most }) (sym are.columns_are) ∙ sym moved)
    (stands_blank t blanks before p colours inks runs are.each s)

-- ---- drawings

no_eight_bit : (n : ℕ) (blanks : List Event) → list_all (is_blank n) blanks ≡ true
    → list_any is_eight_bit blanks ≡ false
no_eight_bit n [] blank = refl
no_eight_bit n (Step command ∷ rest) blank =
    no_eight_bit n rest (and_parts (is_blank n (Step command)) (list_all (is_blank n) rest) blank).1
no_eight_bit n (Start eight parameters ∷ rest) blank = cc
no_eight_bit n (Finish eight ∷ rest) blank = cc

pub drawn_blanks : (d : Drawn) (before blanks : List Event) (n columns : ℕ) (p : Pen) → HasDrawn d before
    → AreBlank n columns blanks → StandsAfter d.terminal (before ++ blanks) p d.colours d.inks
    → HasDrawn (record {
      terminal = d.terminal;
      pen = p;
      colours = d.colours;
      inks = d.inks;
      has_eight_bit = d.has_eight_bit;
    }) (before ++ blanks)
drawn_blanks d before blanks n columns p drawn are stands = record {
  stands = stands;
  controls =
      drawn.controls ∙ sym (or_false (list_any is_eight_bit before))
      ∙ ap (λ (t : Bool). list_any is_eight_bit before || t) (sym (no_eight_bit n blanks are.each))
      ∙ sym (list_any-append is_eight_bit before blanks);
}
  where
    or_false : (b : Bool) → (b || false) ≡ b
    or_false true = refl
    or_false false = refl

-- so many columns, one by one
abbrev pub ones : ℕ → List Event
ones n = replicate n (Step (Repeat 1 0))

pub ones_blank : (zero_is n : ℕ) → AreBlank zero_is n (ones n)
ones_blank zero_is n = record { each = each n; columns_are = columns n }
  where
    each : (k : ℕ) → list_all (is_blank zero_is) (replicate k (Step (Repeat 1 0))) ≡ true
    each zero = refl
    each (suc k) = each k

    columns : (k : ℕ) → k ≡ columns_in zero_is (replicate k (Step (Repeat 1 0)))
    columns zero = refl
    columns (suc k) = omega (arith, columns k)
