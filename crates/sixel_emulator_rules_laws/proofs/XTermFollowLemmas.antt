-- xterm's plain terminal paints each covered pixel in the register in which the events paint it.
use Rattle.std.proofs.Common.{◌≡◌, ℕ, ◌+◌, ◌%◌, Bool, true, false, cond, Option, Some, None, List, []}
use Rattle.std.proofs.Common.{◌∷◌, ◌++◌, refl, sym, ap, subst, ◌∙◌}
use Rattle.std.specs.Prelude.{IsSome, if◌then◌else◌}
use Rattle.std.specs.Bool.{then_some}
use Rattle.std.specs.List.{list_any}
use Rattle.std.specs.Option.{option_map_or, option_or}
use Rattle.std.proofs.lemmas.Bool.{or_parts}
use Rattle.sixel_grammar.specs.declared.command.Command.TheVariants.{Raster, Select, Define}
use Rattle.sixel_grammar.specs.declared.command.Event.{Event}
use Rattle.sixel_grammar.specs.declared.command.Event.TheVariants.{Step}
use Rattle.sixel_model.specs.declared.colour.Parts.{Parts}
use Rattle.sixel_model.specs.Events.{Attributes, columns_of, is_data_command, is_in_box, is_next_line, is_return}
use Rattle.sixel_model.specs.Events.{raster_of, select_of}
use Rattle.sixel_model.specs.Geometry.{band, column, falls, touches}
use Rattle.sixel_model.specs.Positions.{last_at, last_below, latest}
use Rattle.sixel_model.specs.Rules.{raster_before}
use Rattle.sixel_model.proofs.PositionLemmas.{last_at_push, latest_push}
use Rattle.sixel_model.proofs.StepLemmas.{band_push, column_push, raster_push}
use Rattle.sixel_terminal.specs.Displays.{Display, registers_of}
use Rattle.sixel_terminal.specs.Drawing.{defined_on, selected_on}
use Rattle.sixel_xterm.specs.Settings.{xterm_display}
use Rattle.sixel_xterm.specs.XTerm.{xterm_box}
use Rattle.sixel_emulator.proofs.WordLemmas.{any_push}
use Rattle.sixel_emulator_rules_laws.proofs.FallLemmas.{falls_nowhere}
use Rattle.sixel_emulator_rules_laws.proofs.FollowLemmas.{IsQuiet, data_column, data_line, quiet_column, quiet_line}
use Rattle.sixel_emulator_rules_laws.proofs.PlainLemmas.{paint_of}
use Rattle.sixel_emulator_rules_laws.proofs.StaleLemmas.{by_pushes}
use Rattle.sixel_emulator_rules_laws.proofs.XTermSidesLemmas.{IsSidedBy}

-- ---- the last painting

-- the register in which a data command paints the point, if the event is one that covers it
abbrev pub data_of : Display → ℕ → ℕ → List Event → Event → Option ℕ
data_of t x y before e = if falls before e x y then Some (selected_on t before) else None

-- the register in which data commands painted the point last
abbrev pub last_data : Display → List Event → ℕ → ℕ → Option ℕ
last_data t events x y = last_at (data_of t x y) events

-- the register in which it was painted last, by data commands or by the ground
abbrev pub last_paint : Display → List Event → ℕ → ℕ → Option ℕ
last_paint t events x y = last_at (paint_of t x y) events

-- the point is in the box, if there is one
abbrev pub IsInside : Option Attributes → ℕ → ℕ → Type 0
IsInside None x y = ⊥
IsInside (Some a) x y = is_in_box a x y ≡ true

-- the drawing selects and defines what the events do, and paints what they cover as they do
pub record IsAlong (background : Parts) (w h : ℕ) (before drawing : List Event) : Type 0 where
  pub line : band drawing ≡ band before
  pub left : column 0 drawing ≡ column 0 before
  pub selects : latest select_of drawing ≡ latest select_of before
  pub defines : (r : ℕ) → latest (defined_on (xterm_display background w h) r) drawing
      ≡ latest (defined_on (xterm_display background w h) r) before
  pub paints : (x y r : ℕ) → last_data (xterm_display background w h) before x y ≡ Some r
      → last_paint (xterm_display background w h) drawing x y ≡ Some r
  pub boxed : (x y : ℕ) → IsSome (last_paint (xterm_display background w h) drawing x y)
      → IsInside (raster_before before) x y

pub along_none : (background : Parts) (w h : ℕ) → IsAlong background w h [] []
unfolding latest last_at last_below
along_none background w h = record {
  line = refl;
  left = refl;
  selects = refl;
  defines = λ r. refl;
  paints = λ x y r is. is;
  boxed = λ x y some. cc;
}

-- ---- events that paint nothing

data_still : (t : Display) (before : List Event) (e : Event) (x y : ℕ) → is_data_command e ≡ false
    → last_data t (before ++ e ∷ []) x y ≡ last_data t before x y
data_still t before e x y none =
    last_at_push (data_of t x y) before e ∙ rw (falls_nowhere before e x y none) refl

paint_still : (background : Parts) (w h : ℕ) (drawing : List Event) (e : Event) (x y : ℕ) → is_data_command e ≡ false
    → raster_of e ≡ None
    → last_paint (xterm_display background w h) (drawing ++ e ∷ []) x y
    ≡ last_paint (xterm_display background w h) drawing x y
paint_still background w h drawing e x y none bare =
    last_at_push (paint_of (xterm_display background w h) x y) drawing e
    ∙ rw (falls_nowhere drawing e x y none, bare) refl

inside_or : (o p : Option Attributes) (x y : ℕ) → IsInside o x y → IsInside (option_or o p) x y
inside_or None p x y h = absurd h
inside_or (Some a) p x y h = h

inside_later : (before : List Event) (e : Event) (x y : ℕ) → IsInside (raster_before before) x y
    → IsInside (raster_before (before ++ e ∷ [])) x y
inside_later before e x y h =
    subst (λ (o : Option Attributes). IsInside o x y) (sym (raster_push before e))
    (inside_or (raster_before before) (raster_of e) x y h)

-- the event selects and defines nothing
pub record IsIdle (background : Parts) (w h : ℕ) (e : Event) : Type 0 where
  pub selects : select_of e ≡ None
  pub defines : (r : ℕ) → defined_on (xterm_display background w h) r e ≡ None

latest_still : {A : Type 0} (f : Event → Option A) (before : List Event) (e : Event) → f e ≡ None
    → latest f (before ++ e ∷ []) ≡ latest f before
latest_still f before e none = latest_push f before e ∙ rw none refl

-- one that draws nothing
pub along_quiet : {background : Parts} {w h : ℕ} {before drawing : List Event} (e : Event) → IsQuiet e
    → IsIdle background w h e → IsAlong background w h before drawing
    → IsAlong background w h (before ++ e ∷ []) drawing
along_quiet {background} {w} {h} {before} {drawing} e q idle f =
    let t = xterm_display background w h in
    record {
      line = f.line ∙ sym (quiet_line before e q);
      left = f.left ∙ sym (quiet_column before e q);
      selects = f.selects ∙ sym (latest_still select_of before e idle.selects);
      defines = λ r. f.defines r ∙ sym (latest_still (defined_on t r) before e (idle.defines r));
      paints = λ x y r is. f.paints x y r (sym (data_still t before e x y q.no_data) ∙ is);
      boxed = λ x y some. inside_later before e x y (f.boxed x y some);
    }

-- one that draws itself
pub along_self : {background : Parts} {w h : ℕ} {before drawing : List Event} (e : Event) → is_data_command e ≡ false
    → raster_of e ≡ None → IsAlong background w h before drawing
    → IsAlong background w h (before ++ e ∷ []) (drawing ++ e ∷ [])
along_self {background} {w} {h} {before} {drawing} e none bare f =
    let t = xterm_display background w h in
    record {
      line = band_push drawing e
          ∙ (ap (λ (m : ℕ). m + cond (is_next_line e) 1 0) f.line ∙ sym (band_push before e));
      left = column_push 0 drawing e
          ∙ (ap (λ (n : ℕ). cond (is_return e) 0 (n + columns_of 0 e)) f.left ∙ sym (column_push 0 before e));
      selects = latest_push select_of drawing e
          ∙ (ap (option_or (select_of e)) f.selects ∙ sym (latest_push select_of before e));
      defines = λ r. latest_push (defined_on t r) drawing e
          ∙ (ap (option_or (defined_on t r e)) (f.defines r) ∙ sym (latest_push (defined_on t r) before e));
      paints = λ x y r is.
          paint_still background w h drawing e x y none bare
          ∙ f.paints x y r (sym (data_still t before e x y none) ∙ is);
      boxed = λ x y some.
          inside_later before e x y
          (f.boxed x y (subst (λ (o : Option ℕ). IsSome o) (paint_still background w h drawing e x y none bare) some));
    }

-- ---- the box

-- before the first data command, none paints
none_painted : (t : Display) (x y : ℕ) (before : List Event) → list_any is_data_command before ≡ false
    → last_data t before x y ≡ None
unfolding last_at last_below
none_painted t x y before =
    by_pushes (λ (b : List Event). list_any is_data_command b ≡ false → last_data t b x y ≡ None) [] before
    (λ b e ih none.
    let parts = or_parts (list_any is_data_command b) (is_data_command e) (sym (any_push is_data_command b e) ∙ none) in
    data_still t b e x y parts.1 ∙ ih parts.0) (λ none. refl)

box_paint : (background : Parts) (w h : ℕ) (drawing : List Event) (width height x y : ℕ)
    → last_paint (xterm_display background w h) (drawing ++ Step (Raster 1 1 width height) ∷ []) x y
    ≡ option_or (then_some (is_in_box (record { pan = 1; pad = 1; width = width; height = height }) x y) 0)
    (last_paint (xterm_display background w h) drawing x y)
box_paint background w h drawing width height x y =
    last_at_push (paint_of (xterm_display background w h) x y) drawing (Step (Raster 1 1 width height))
    ∙ rw (falls_nowhere drawing (Step (Raster 1 1 width height)) x y refl) refl

box_or : (b : Bool) (o : Option ℕ) (P : Type 0) → (b ≡ true → P) → (IsSome o → P)
    → IsSome (option_or (then_some b 0) o) → P
box_or true o P inside more some = inside refl
box_or false o P inside more some = more some

pub along_box : {background : Parts} {w h : ℕ} {before drawing : List Event} (a : Attributes)
    → raster_before before ≡ Some a → IsSidedBy a before → list_any is_data_command before ≡ false
    → IsAlong background w h before drawing
    → IsAlong background w h before (drawing ++ Step (xterm_box before) ∷ [])
along_box {background} {w} {h} {before} {drawing} a box sides none f =
    let t = xterm_display background w h in
    let e : Event = Step (xterm_box before) in
    let q : IsQuiet e = record { no_data = refl; no_return = refl } in
    record {
      line = quiet_line drawing e q ∙ f.line;
      left = quiet_column drawing e q ∙ f.left;
      selects = latest_still select_of drawing e refl ∙ f.selects;
      defines = λ r. latest_still (defined_on t r) drawing e refl ∙ f.defines r;
      paints = λ x y r is. let no : None ≡ Some r = sym (none_painted t x y before none) ∙ is in cc;
      boxed = λ x y some.
          box_or _ (last_paint t drawing x y) (IsInside (raster_before before) x y)
          (λ inside. rw box (rw (sides.width, sides.height) at inside)) (f.boxed x y)
          (subst (λ (o : Option ℕ). IsSome o) (box_paint background w h drawing _ _ x y) some);
    }

-- ---- data

data_paint : (b : Bool) (p q : ℕ) (o m : Option ℕ) (r : ℕ) → q ≡ p → (o ≡ Some r → m ≡ Some r)
    → option_or (if b then Some p else None) o ≡ Some r → option_or (if b then Some q else None) m ≡ Some r
data_paint true p q o m r same more is = ap (λ (n : ℕ). Some n) same ∙ is
data_paint false p q o m r same more is = more is

data_some : (b : Bool) (q : ℕ) (m : Option ℕ) (P : Type 0) → (b ≡ true → P) → (IsSome m → P)
    → IsSome (option_or (if b then Some q else None) m) → P
data_some true q m P fell more some = fell refl
data_some false q m P fell more some = more some

no_raster : (e : Event) → is_data_command e ≡ true → raster_of e ≡ None
no_raster (Step (Raster pan pad width height)) h = cc
no_raster _ h = refl

pub data_idle : (background : Parts) (w h : ℕ) (e : Event) → is_data_command e ≡ true → IsIdle background w h e
data_idle background w h (Step (Select r)) is = cc
data_idle background w h (Step (Define r s x y z)) is = cc
data_idle background w h _ is = record { selects = refl; defines = λ r. refl }

selected_same : (background : Parts) (w h : ℕ) (before drawing : List Event) → IsAlong background w h before drawing
    → selected_on (xterm_display background w h) drawing ≡ selected_on (xterm_display background w h) before
unfolding selected_on
selected_same background w h before drawing f =
    ap (λ (o : Option ℕ). option_map_or (λ q. q % registers_of (xterm_display background w h)) o 3) f.selects

falls_same : (before drawing : List Event) (e : Event) (x y : ℕ) → band drawing ≡ band before
    → column 0 drawing ≡ column 0 before → falls drawing e x y ≡ falls before e x y
unfolding falls touches
falls_same before drawing e x y line left = rw (line, left) refl

paint_push : {background : Parts} {w h : ℕ} {before drawing : List Event} (e : Event) (x y : ℕ)
    → is_data_command e ≡ true → IsAlong background w h before drawing
    → last_paint (xterm_display background w h) (drawing ++ e ∷ []) x y
    ≡ option_or (if falls before e x y then Some (selected_on (xterm_display background w h) drawing) else None)
    (last_paint (xterm_display background w h) drawing x y)
paint_push {background} {w} {h} {before} {drawing} e x y is_data f =
    last_at_push (paint_of (xterm_display background w h) x y) drawing e
    ∙ rw (falls_same before drawing e x y f.line f.left, no_raster e is_data) refl

-- one that draws itself
pub along_data : {background : Parts} {w h : ℕ} {before drawing : List Event} (e : Event) → is_data_command e ≡ true
    → ((x y : ℕ) → falls before e x y ≡ true → IsInside (raster_before before) x y)
    → IsAlong background w h before drawing → IsAlong background w h (before ++ e ∷ []) (drawing ++ e ∷ [])
along_data {background} {w} {h} {before} {drawing} e is_data inside f =
    let t = xterm_display background w h in
    let own : IsIdle background w h e = data_idle background w h e is_data in
    record {
      line = data_line drawing e is_data ∙ (f.line ∙ sym (data_line before e is_data));
      left = data_column drawing e is_data
          ∙ (ap (λ (n : ℕ). n + columns_of 0 e) f.left ∙ sym (data_column before e is_data));
      selects = latest_still select_of drawing e own.selects
          ∙ (f.selects ∙ sym (latest_still select_of before e own.selects));
      defines = λ r. latest_still (defined_on t r) drawing e (own.defines r)
          ∙ (f.defines r ∙ sym (latest_still (defined_on t r) before e (own.defines r)));
      paints = λ x y r is.
          paint_push e x y is_data f
          ∙ data_paint (falls before e x y) (selected_on t before) (selected_on t drawing) (last_data t before x y)
          (last_paint t drawing x y) r (selected_same background w h before drawing f) (f.paints x y r)
          (sym (last_at_push (data_of t x y) before e) ∙ is);
      boxed = λ x y some.
          inside_later before e x y
          (data_some (falls before e x y) (selected_on t drawing) (last_paint t drawing x y)
          (IsInside (raster_before before) x y) (inside x y) (f.boxed x y)
          (subst (λ (o : Option ℕ). IsSome o) (paint_push e x y is_data f) some));
    }
