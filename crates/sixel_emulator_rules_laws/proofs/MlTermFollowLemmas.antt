-- mlterm's plain terminal paints what it paints by the events themselves, event by event.
use Rattle.std.proofs.Common.{◌≡◌, ℕ, ◌+◌, ◌%◌, Bool, cond, Option, Some, None, List, [], ◌∷◌, ◌++◌}
use Rattle.std.proofs.Common.{refl, sym, ap, ap₂, subst, ◌∙◌, append_assoc, append-nil}
use Rattle.std.specs.Prelude.{slice_index_or, unwrap_or, if◌then◌else◌}
use Rattle.std.specs.Option.{option_map_or, option_or}
use Rattle.sixel_grammar.specs.declared.command.Command.TheVariants.{Sixel, Repeat, Raster, Select, Define}
use Rattle.sixel_grammar.specs.declared.command.Command.TheVariants.{CarriageReturn, NextLine}
use Rattle.sixel_grammar.specs.declared.command.Event.{Event}
use Rattle.sixel_grammar.specs.declared.command.Event.TheVariants.{Start, Step, Finish}
use Rattle.sixel_model.specs.declared.colour.Parts.{Parts}
use Rattle.sixel_model.specs.declared.colour.Parts.TheVariants.{Rgb}
use Rattle.sixel_model.specs.Events.{columns_of, is_next_line, is_return, named_by, select_of}
use Rattle.sixel_model.specs.Geometry.{band, column, falls, touches}
use Rattle.sixel_model.specs.Positions.{latest}
use Rattle.sixel_model.proofs.KnownLemmas.{Known, known_is}
use Rattle.sixel_model.proofs.PositionLemmas.{latest_push}
use Rattle.sixel_model.proofs.RuleLemmas.{Keeps}
use Rattle.sixel_model.proofs.StepLemmas.{band_push, column_push}
use Rattle.sixel_terminal.specs.Displays.{registers_of}
use Rattle.sixel_terminal.specs.Drawing.{defined_on, map_on, selected_on}
use Rattle.sixel_mlterm.specs.Settings.{mlterm_display}
use Rattle.sixel_judge.proofs.OptionLemmas.{some_value}
use Rattle.sixel_judge.proofs.ShownLemmas.{falls_known}
use Rattle.sixel_emulator_rules_laws.proofs.FollowLemmas.{IsQuiet, quiet_column, quiet_line, same_if}
use Rattle.sixel_emulator_rules_laws.proofs.InkLemmas.{ink_push, ink_still, last_ink, pen}
use Rattle.sixel_emulator_rules_laws.proofs.MlTermReadLemmas.{mlterm_draws}

-- the drawing paints as the events do. It selects what they select or define
pub record IsAlong (background : Parts) (w h : ℕ) (before drawing : List Event) : Type 0 where
  pub line : band drawing ≡ band before
  pub left : column 0 drawing ≡ column 0 before
  pub selects : latest select_of drawing ≡ latest named_by before
  pub defines : (r : ℕ) → latest (defined_on (mlterm_display background w h) r) drawing
      ≡ latest (defined_on (mlterm_display background w h) r) before
  pub inks_are : (x y : ℕ) → last_ink (mlterm_display background w h) drawing x y
      ≡ last_ink (mlterm_display background w h) before x y

pub along_none : (background : Parts) (w h : ℕ) → IsAlong background w h [] []
unfolding latest
along_none background w h =
    record { line = refl; left = refl; selects = refl; defines = λ r. refl; inks_are = λ x y. refl }

-- ---- an event that draws nothing

-- it defines nothing
abbrev DefinesNone : Parts → ℕ → ℕ → Event → Type 0
DefinesNone background w h e = (r : ℕ) → defined_on (mlterm_display background w h) r e ≡ None

along_quiet : {background : Parts} {w h : ℕ} {before drawing : List Event} (e : Event) → IsQuiet e
    → named_by e ≡ None → DefinesNone background w h e → IsAlong background w h before drawing
    → IsAlong background w h (before ++ e ∷ []) drawing
along_quiet {background} {w} {h} {before} {drawing} e q none still f =
    let t = mlterm_display background w h in
    record {
      line = f.line ∙ sym (quiet_line before e q);
      left = f.left ∙ sym (quiet_column before e q);
      selects = f.selects ∙ sym (latest_push named_by before e ∙ rw none refl);
      defines = λ r. f.defines r ∙ sym (latest_push (defined_on t r) before e
          ∙ ap (λ (o : Option Parts). option_or o (latest (defined_on t r) before)) (still r));
      inks_are = λ x y. f.inks_are x y ∙ sym (ink_still t before e x y q.no_data);
    }

-- ---- an event that draws itself

falls_same : {background : Parts} {w h : ℕ} {before drawing : List Event} (e : Event) (x y : ℕ)
    → IsAlong background w h before drawing → falls drawing e x y ≡ falls before e x y
unfolding falls touches
falls_same e x y f = rw (f.line, f.left) refl

-- both paint in one colour, if the register is known
pens_are : (background : Parts) (w h r : ℕ) (before drawing : List Event) → IsAlong background w h before drawing
    → Known before r → pen (mlterm_display background w h) drawing ≡ pen (mlterm_display background w h) before
unfolding selected_on map_on
pens_are background w h r before drawing f k =
    let t = mlterm_display background w h in
    let same : selected_on t drawing ≡ selected_on t before =
    ap (λ (o : Option ℕ). option_map_or (λ q. q % registers_of t) o 0) (f.selects ∙ (k.named ∙ sym k.selected)) in
    ap (map_on t drawing) same
    ∙ ap (λ (o : Option Parts). unwrap_or o (slice_index_or t.colours (selected_on t before) (Rgb 0 0 0)))
    (f.defines (selected_on t before))

along_self : {background : Parts} {w h n : ℕ} {before drawing : List Event} (e : Event) → Keeps n before e
    → select_of e ≡ named_by e → IsAlong background w h before drawing
    → IsAlong background w h (before ++ e ∷ []) (drawing ++ e ∷ [])
along_self {background} {w} {h} {n} {before} {drawing} e k same f =
    let t = mlterm_display background w h in
    record {
      line = band_push drawing e
          ∙ (ap (λ (m : ℕ). m + cond (is_next_line e) 1 0) f.line ∙ sym (band_push before e));
      left = column_push 0 drawing e
          ∙ (ap (λ (m : ℕ). cond (is_return e) 0 (m + columns_of 0 e)) f.left ∙ sym (column_push 0 before e));
      selects = latest_push select_of drawing e
          ∙ (ap₂ option_or same f.selects ∙ sym (latest_push named_by before e));
      defines = λ r. latest_push (defined_on t r) drawing e
          ∙ (ap (option_or (defined_on t r e)) (f.defines r) ∙ sym (latest_push (defined_on t r) before e));
      inks_are = λ x y. ink_push t drawing e x y
          ∙ (ap₂ option_or
          (ap (λ (b : Bool). if b then Some (pen t drawing) else None) (falls_same e x y f)
          ∙ same_if (falls before e x y) (pen t drawing) (pen t before) (λ fell.
          let r = some_value _ (falls_known n before e x y k fell) in
          pens_are background w h r.0 before drawing f (known_is before r.0 r.1)))
          (f.inks_are x y)
          ∙ sym (ink_push t before e x y));
    }

-- ---- a definition

along_define : {background : Parts} {w h : ℕ} {before drawing : List Event} (r s x y z : ℕ)
    → IsAlong background w h before drawing
    → IsAlong background w h (before ++ Step (Define r s x y z) ∷ [])
    ((drawing ++ Step (Define r s x y z) ∷ []) ++ Step (Select r) ∷ [])
along_define {background} {w} {h} {before} {drawing} r s x y z f =
    let t = mlterm_display background w h in
    let e : Event = Step (Define r s x y z) in
    let still : IsQuiet e = record { no_data = refl; no_return = refl } in
    let quiet : IsQuiet (Step (Select r)) = record { no_data = refl; no_return = refl } in
    record {
      line = quiet_line (drawing ++ e ∷ []) (Step (Select r)) quiet
          ∙ (quiet_line drawing e still ∙ (f.line ∙ sym (quiet_line before e still)));
      left = quiet_column (drawing ++ e ∷ []) (Step (Select r)) quiet
          ∙ (quiet_column drawing e still ∙ (f.left ∙ sym (quiet_column before e still)));
      selects = latest_push select_of (drawing ++ e ∷ []) (Step (Select r)) ∙ sym (latest_push named_by before e);
      defines = λ q. latest_push (defined_on t q) (drawing ++ e ∷ []) (Step (Select r))
          ∙ (latest_push (defined_on t q) drawing e
          ∙ (ap (option_or (defined_on t q e)) (f.defines q) ∙ sym (latest_push (defined_on t q) before e)));
      inks_are = λ u v. ink_still t (drawing ++ e ∷ []) (Step (Select r)) u v refl
          ∙ (ink_still t drawing e u v refl ∙ (f.inks_are u v ∙ sym (ink_still t before e u v refl)));
    }

-- ---- one more event

pub along_push : {background : Parts} {w h n : ℕ} {before drawing : List Event} (e : Event) → Keeps n before e
    → IsAlong background w h before drawing
    → IsAlong background w h (before ++ e ∷ []) (drawing ++ mlterm_draws e)
along_push {background} {w} {h} {n} {before} {drawing} (Start eight parameters) k f =
    rw append-nil
    (along_quiet (Start eight parameters) (record { no_data = refl; no_return = refl }) refl (λ r. refl) f)
along_push {background} {w} {h} {n} {before} {drawing} (Step (Raster pan pad width height)) k f =
    rw append-nil
    (along_quiet (Step (Raster pan pad width height)) (record { no_data = refl; no_return = refl }) refl (λ r. refl) f)
along_push {background} {w} {h} {n} {before} {drawing} (Step (Define r s x y z)) k f =
    subst (IsAlong background w h (before ++ Step (Define r s x y z) ∷ []))
    (append_assoc drawing (Step (Define r s x y z) ∷ []) (Step (Select r) ∷ [])) (along_define r s x y z f)
along_push (Step (Select r)) k f = along_self (Step (Select r)) k refl f
along_push (Step (Sixel bits)) k f = along_self (Step (Sixel bits)) k refl f
along_push (Step (Repeat count bits)) k f = along_self (Step (Repeat count bits)) k refl f
along_push (Step CarriageReturn) k f = along_self (Step CarriageReturn) k refl f
along_push (Step NextLine) k f = along_self (Step NextLine) k refl f
along_push {background} {w} {h} {n} {before} {drawing} (Finish eight) k f =
    rw append-nil (along_quiet (Finish eight) (record { no_data = refl; no_return = refl }) refl (λ r. refl) f)
