-- foot's plain terminal paints what a terminal of the class paints, event by event.
use Rattle.std.proofs.Common.{◌≡◌, ◌≢◌, ℕ, ◌+◌, ◌<◌, ◌≤◌, Bool, true, false, cond, Option, Some, None, List}
use Rattle.std.proofs.Common.{[], ◌∷◌, ◌++◌, length, refl, sym, ap, ap₂, subst, ◌∙◌, append_assoc, arith}
use Rattle.std.specs.Prelude.{replicate, if◌then◌else◌}
use Rattle.std.specs.Option.{option_or}
use Rattle.std.proofs.Math.Seq.{take-length}
use Rattle.std.proofs.lemmas.Bool.{and_parts, eq-eqb, eqb-true}
use Rattle.std.proofs.lemmas.List.{length-replicate}
use Rattle.sixel_grammar.specs.declared.command.Command.{Command}
use Rattle.sixel_grammar.specs.declared.command.Command.TheVariants.{Select}
use Rattle.sixel_grammar.specs.declared.command.Command.TheVariants.{CarriageReturn, NextLine}
use Rattle.sixel_grammar.specs.declared.command.Event.{Event}
use Rattle.sixel_grammar.specs.declared.command.Event.TheVariants.{Step}
use Rattle.sixel_model.specs.declared.colour.Parts.{Parts}
use Rattle.sixel_model.specs.declared.colour.Parts.TheVariants.{Rgb, Hls}
use Rattle.sixel_model.specs.declared.rule.Rule.TheVariants.{Uncovered}
use Rattle.sixel_model.specs.Colours.{is_same}
use Rattle.sixel_model.specs.Events.{Definition, columns_of, is_data_command, is_next_line, is_return, select_of}
use Rattle.sixel_model.specs.Geometry.{band, column, falls}
use Rattle.sixel_model.specs.Positions.{latest}
use Rattle.sixel_model.specs.Rules.{BreaksNone, colour_of, definition_of, known}
use Rattle.sixel_model.proofs.KnownLemmas.{known_is}
use Rattle.sixel_model.proofs.PositionLemmas.{latest_push}
use Rattle.sixel_model.proofs.RuleLemmas.{Keeps}
use Rattle.sixel_model.proofs.StepLemmas.{band_push, column_push}
use Rattle.sixel_terminal.specs.Displays.{Display}
use Rattle.sixel_terminal.specs.Drawing.{defined_on, map_on, selected_on}
use Rattle.sixel_terminal.proofs.SelectLemmas.{known_is_selected}
use Rattle.sixel_foot.specs.Foot.{foot_colour, foot_register, foot_select}
use Rattle.sixel_emulator.specs.Readings.{drawn_by}
use Rattle.sixel_foot.specs.Settings.{foot_display}
use Rattle.sixel_judge.proofs.ColourLemmas.{each_sound, known_in_range, map_defined}
use Rattle.sixel_judge.proofs.DrawLemmas.{falls_paints}
use Rattle.sixel_judge.proofs.OptionLemmas.{some_value}
use Rattle.sixel_judge.proofs.ShownLemmas.{falls_known}
use Rattle.sixel_judge.proofs.SteadyLemmas.{defined_there}
use Rattle.sixel_emulator_rules.specs.Stale.{IsStale, colour_at_select}
use Rattle.sixel_emulator_rules_laws.proofs.FallLemmas.{IsSameCell, no_columns}
use Rattle.sixel_emulator_rules_laws.proofs.InkLemmas.{ink_push, ink_still, last_ink, like_foot, pen}
use Rattle.sixel_emulator_rules_laws.proofs.PenLemmas.{IsPen, colour_in_range, foot_colour_is, pen_anew, pen_still}
use Rattle.sixel_emulator_rules_laws.proofs.StaleLemmas.{at_select_anew, at_select_still}

-- a terminal of the class that paints as foot's, with registers enough
abbrev pub beside : Parts → ℕ → ℕ → Display
beside background w h = like_foot (replicate 1024 background) background w h

-- ---- where the next sixel goes, and what is painted

pub record Moves (background : Parts) (w h : ℕ) (before drawing : List Event) : Type 0 where
  pub line : band drawing ≡ band before
  pub left : column 0 drawing ≡ column 0 before
  pub inks_are : (x y : ℕ)
      → last_ink (foot_display background w h) drawing x y ≡ last_ink (beside background w h) before x y

-- neither a data command nor a return
pub record IsQuiet (e : Event) : Type 0 where
  pub no_data : is_data_command e ≡ false
  pub no_return : is_return e ≡ false

no_line : (e : Event) → is_return e ≡ false → is_next_line e ≡ false
no_line (Step NextLine) h = cc
no_line _ h = refl

pub quiet_line : (before : List Event) (e : Event) → IsQuiet e → band (before ++ e ∷ []) ≡ band before
quiet_line before e q =
    band_push before e ∙ ap (λ (b : Bool). band before + cond b 1 0) (no_line e q.no_return) ∙ omega arith

pub quiet_column : (before : List Event) (e : Event) → IsQuiet e → column 0 (before ++ e ∷ []) ≡ column 0 before
quiet_column before e q =
    column_push 0 before e ∙ rw (q.no_return, no_columns e q.no_data) (omega arith)

pub moves_event : {background : Parts} {w h : ℕ} {before drawing : List Event} (e : Event) → IsQuiet e
    → Moves background w h before drawing → Moves background w h (before ++ e ∷ []) drawing
moves_event {background} {w} {h} {before} e q m = record {
  line = m.line ∙ sym (quiet_line before e q);
  left = m.left ∙ sym (quiet_column before e q);
  inks_are = λ x y. m.inks_are x y ∙ sym (ink_still (beside background w h) before e x y q.no_data);
}

pub moves_drawn : {background : Parts} {w h : ℕ} {before drawing : List Event} (d : Event) → IsQuiet d
    → Moves background w h before drawing → Moves background w h before (drawing ++ d ∷ [])
moves_drawn {background} {w} {h} {drawing = drawing} d q m = record {
  line = quiet_line drawing d q ∙ m.line;
  left = quiet_column drawing d q ∙ m.left;
  inks_are = λ x y. ink_still (foot_display background w h) drawing d x y q.no_data ∙ m.inks_are x y;
}

-- two commands
pub moves_both : {background : Parts} {w h : ℕ} {before drawing : List Event} (c d : Event) → IsQuiet c → IsQuiet d
    → Moves background w h before drawing → Moves background w h before (drawing ++ c ∷ d ∷ [])
moves_both {background} {w} {h} {before} {drawing} c d p q m =
    subst (Moves background w h before) (append_assoc drawing (c ∷ []) (d ∷ []))
    (moves_drawn d q (moves_drawn c p m))

pub column_anew : (before : List Event) (e : Event) → is_return e ≡ true → column 0 (before ++ e ∷ []) ≡ 0
column_anew before e is = column_push 0 before e ∙ rw is refl

pub moves_return : {background : Parts} {w h : ℕ} {before drawing : List Event} (e : Event) → is_data_command e ≡ false
    → is_return e ≡ true → Moves background w h before drawing
    → Moves background w h (before ++ e ∷ []) (drawing ++ e ∷ [])
moves_return {background} {w} {h} {before} {drawing} e none is m = record {
  line = band_push drawing e
      ∙ (ap (λ (n : ℕ). n + cond (is_next_line e) 1 0) m.line ∙ sym (band_push before e));
  left = column_anew drawing e is ∙ sym (column_anew before e is);
  inks_are = λ x y. ink_still (foot_display background w h) drawing e x y none
      ∙ (m.inks_are x y ∙ sym (ink_still (beside background w h) before e x y none));
}

-- ---- data

pub data_no_return : (e : Event) → is_data_command e ≡ true → is_return e ≡ false
data_no_return (Step CarriageReturn) h = cc
data_no_return (Step NextLine) h = cc
data_no_return _ h = refl

pub data_line : (before : List Event) (e : Event) → is_data_command e ≡ true → band (before ++ e ∷ []) ≡ band before
data_line before e h =
    band_push before e ∙ ap (λ (b : Bool). band before + cond b 1 0) (no_line e (data_no_return e h)) ∙ omega arith

pub data_column : (before : List Event) (e : Event) → is_data_command e ≡ true
    → column 0 (before ++ e ∷ []) ≡ column 0 before + columns_of 0 e
data_column before e h = column_push 0 before e ∙ rw (data_no_return e h) refl

pub same_if : (b : Bool) (c d : Parts) → (b ≡ true → c ≡ d)
    → (if b then Some c else None) ≡ (if b then Some d else None)
same_if true c d h = ap (λ (p : Parts). Some p) (h refl)
same_if false c d h = refl

pub moves_data : {background : Parts} {w h : ℕ} {before drawing : List Event} (e : Event) (d : Command)
    → is_data_command e ≡ true → IsSameCell drawing before e d
    → ((x y : ℕ) → falls before e x y ≡ true
    → pen (foot_display background w h) drawing ≡ pen (beside background w h) before)
    → Moves background w h before drawing → Moves background w h (before ++ e ∷ []) (drawing ++ Step d ∷ [])
moves_data {background} {w} {h} {before} {drawing} e d is_data cell pens m = record {
  line = data_line drawing (Step d) cell.is_data ∙ (m.line ∙ sym (data_line before e is_data));
  left = data_column drawing (Step d) cell.is_data
      ∙ (ap₂ (λ (a b : ℕ). a + b) m.left cell.columns_is ∙ sym (data_column before e is_data));
  inks_are = λ x y. ink_push (foot_display background w h) drawing (Step d) x y
      ∙ (ap₂ option_or
      (ap (λ (b : Bool). if b then Some (pen (foot_display background w h) drawing) else None) (cell.falls_is x y)
      ∙ same_if (falls before e x y) _ _ (pens x y)) (m.inks_are x y)
      ∙ sym (ink_push (beside background w h) before e x y));
}

-- ---- the pen

-- if the register that was selected last had a colour then, the pen has it
abbrev pub HasPen : Parts → ℕ → ℕ → List Event → List Event → Type 0
HasPen background w h before drawing =
    (r : ℕ) (c : Parts) → latest select_of before ≡ Some r → colour_at_select before r ≡ Some c
    → IsPen (foot_display background w h) drawing c

same_some : {A : Type 0} (a b : A) → Some a ≡ Some b → a ≡ b
same_some a b h = cc

pub pen_event : (background : Parts) (w h : ℕ) (before drawing : List Event) (e : Event) → select_of e ≡ None
    → HasPen background w h before drawing → HasPen background w h (before ++ e ∷ []) drawing
pen_event background w h before drawing e none has = λ r c last at.
    has r c (sym (latest_push select_of before e ∙ rw none refl) ∙ last) (sym (at_select_still before e r none) ∙ at)

pub pen_drawn : (background : Parts) (w h : ℕ) (before drawing : List Event) (d : Event) → select_of d ≡ None
    → defined_on (foot_display background w h) 0 d ≡ None → HasPen background w h before drawing
    → HasPen background w h before (drawing ++ d ∷ [])
pen_drawn background w h before drawing d none still has = λ r c last at.
    pen_still background w h drawing d c none still (has r c last at)

pen_by : (background : Parts) (w h n q : ℕ) (before drawing : List Event) (o : Option Parts)
    → BreaksNone n Uncovered before → foot_colour before (foot_register q) ≡ o → colour_of before q ≡ o → (c : Parts)
    → o ≡ Some c → IsPen (foot_display background w h) (drawing ++ drawn_by (foot_select before q)) c
pen_by background w h n q before drawing None none on_foot is c at = cc
pen_by background w h n q before drawing (Some d) none on_foot is c at =
    let same : d ≡ c = same_some d c at in
    rw (on_foot, same)
    (pen_anew background w h drawing c (colour_in_range n q before c none (is ∙ at)))

pub pen_select : (background : Parts) (w h n q : ℕ) (before drawing : List Event) → n ≤ 1024 → q < n
    → BreaksNone n Uncovered before
    → HasPen background w h (before ++ Step (Select q) ∷ []) (drawing ++ drawn_by (foot_select before q))
pen_select background w h n q before drawing few low none = λ r c last at.
    let same : q ≡ r = same_some q r (sym (latest_push select_of before (Step (Select q))) ∙ last) in
    let had : colour_of before q ≡ Some c =
    ap (colour_of before) same ∙ (sym (at_select_anew before (Step (Select q)) r q refl) ∙ at) in
    pen_by background w h n q before drawing (colour_of before q) none (foot_colour_is n q before few low none) refl c
    had

-- ---- both terminals paint in one colour

same_is : (c d : Parts) → is_same c d ≡ true → c ≡ d
same_is (Rgb red green blue) (Rgb r g b) h =
    let last = and_parts _ _ h in
    let first = and_parts _ _ last.0 in
    rw (eqb-true red r first.0, eqb-true green g first.1, eqb-true blue b last.1) refl
same_is (Hls hue lightness saturation) (Hls r g b) h =
    let last = and_parts _ _ h in
    let first = and_parts _ _ last.0 in
    rw (eqb-true hue r first.0, eqb-true lightness g first.1, eqb-true saturation b last.1) refl
same_is (Rgb red green blue) (Hls r g b) h = cc
same_is (Hls hue lightness saturation) (Rgb r g b) h = cc

same_self : (c : Parts) → is_same c c ≡ true
same_self (Rgb r g b) = rw (eq-eqb r r refl, eq-eqb g g refl, eq-eqb b b refl) refl
same_self (Hls r g b) = rw (eq-eqb r r refl, eq-eqb g g refl, eq-eqb b b refl) refl

not_other : (c d : Parts) (b : Bool) → is_same c d ≡ b → ¬ (Some c ≢ Some d) → Some c ≡ Some d
not_other c d true is h = ap (λ (p : Parts). Some p) (same_is c d is)
not_other c d false is h =
    absurd (h (λ e.
    let all : is_same c d ≡ true = ap (is_same c) (sym (same_some c d e)) ∙ same_self c in
    cc))

-- colours that don't differ are the same
not_different : (o p : Option Parts) → ¬ (o ≢ p) → o ≡ p
not_different None None h = refl
not_different None (Some d) h = absurd (h (λ e. cc))
not_different (Some c) None h = absurd (h (λ e. cc))
not_different (Some c) (Some d) h = not_other c d (is_same c d) refl h

beside_pen : (background : Parts) (w h n r : ℕ) (before : List Event) (d : Definition) → n ≤ 1024
    → BreaksNone n Uncovered before → known before ≡ Some r → definition_of before r ≡ Some d
    → colour_of before r ≡ Some (pen (beside background w h) before)
beside_pen background w h n r before d few none is defined =
    let t = beside background w h in
    let many : length (replicate 1024 background) ≡ 1024 = length-replicate 1024 background in
    let low : r < n = known_in_range n r (length before) before none (rw (take-length before) is) in
    let selected : selected_on t before ≡ r = known_is_selected t before r is (omega (arith, few, low, many)) in
    map_defined t n r before d (omega (arith, few, many)) (each_sound n before none) defined
    ∙ ap (λ (q : ℕ). Some (map_on t before q)) (sym selected)

pub pens_agree : (background : Parts) (w h n : ℕ) (before drawing : List Event) (e : Event) (x y : ℕ) → n ≤ 1024
    → BreaksNone n Uncovered before → Keeps n before e → ¬ IsStale before e → HasPen background w h before drawing
    → falls before e x y ≡ true
    → pen (foot_display background w h) drawing ≡ pen (beside background w h) before
pens_agree background w h n before drawing e x y few none k fresh has fell =
    let r = some_value (known before) (falls_known n before e x y k fell) in
    let d = some_value (definition_of before r.0) (defined_there r.0 k (falls_paints before e x y fell) r.1) in
    let c : Parts = pen (beside background w h) before in
    let now : colour_of before r.0 ≡ Some c = beside_pen background w h n r.0 before d.0 few none r.1 d.1 in
    let same : colour_of before r.0 ≡ colour_at_select before r.0 =
    not_different (colour_of before r.0) (colour_at_select before r.0) (λ other.
    fresh (record {
      register = r.0;
      painting = falls_paints before e x y fell;
      is_known = r.1;
      differs = other;
    })) in
    let p : IsPen (foot_display background w h) drawing c =
    has r.0 c (known_is before r.0 r.1).selected (sym same ∙ now) in
    ap (map_on (foot_display background w h) drawing) p.selected ∙ p.colour_is
