-- konsole's plain terminal paints what a terminal of the class paints on which definitions select too.
use Rattle.std.proofs.Common.{◌≡◌, ℕ, ◌+◌, ◌%◌, Bool, true, false, cond, Option, Some, None, List, [], ◌∷◌, ◌++◌}
use Rattle.std.proofs.Common.{refl, sym, ap, ap₂, subst, ◌∙◌, append-nil, append_assoc}
use Rattle.std.specs.Prelude.{slice_index_or, unwrap_or, if◌then◌else◌}
use Rattle.std.specs.Option.{option_map, option_map_or, option_or}
use Rattle.std.proofs.Math.Bool.{and-true}
use Rattle.sixel_grammar.specs.declared.command.Command.TheVariants.{Sixel, Repeat, Raster, Select, Define}
use Rattle.sixel_grammar.specs.declared.command.Command.TheVariants.{CarriageReturn, NextLine}
use Rattle.sixel_grammar.specs.declared.command.Event.{Event}
use Rattle.sixel_grammar.specs.declared.command.Event.TheVariants.{Start, Step, Finish}
use Rattle.sixel_model.specs.declared.colour.Parts.{Parts}
use Rattle.sixel_model.specs.declared.colour.Parts.TheVariants.{Rgb}
use Rattle.sixel_model.specs.Events.{columns_of, is_data_command, is_next_line, is_return, named_by, raster_of}
use Rattle.sixel_model.specs.Events.{select_of}
use Rattle.sixel_model.specs.Geometry.{falls, touches}
use Rattle.sixel_model.specs.Positions.{last_at, last_below, latest}
use Rattle.sixel_model.proofs.PositionLemmas.{last_at_push, latest_push}
use Rattle.sixel_terminal.specs.declared.choices.Choices.{Choices}
use Rattle.sixel_terminal.specs.declared.choices.Ground.TheVariants.{Filled}
use Rattle.sixel_terminal.specs.Displays.{Display, registers_of}
use Rattle.sixel_terminal.specs.Drawing.{defined_on, filled_on, height_of, inked_on, is_kept_on, is_seen_on, map_on}
use Rattle.sixel_terminal.specs.Drawing.{paint_at, selected_on, shown_on, stood_on, touches_on}
use Rattle.sixel_terminal.specs.Limits.{display_of, plain_screen}
use Rattle.sixel_terminal.proofs.ClipLemmas.{at_origin}
use Rattle.sixel_konsole.specs.Settings.{konsole_colours}
use Rattle.sixel_emulator.specs.Settings.{plain_choices}
use Rattle.sixel_emulator.proofs.WordLemmas.{or_default}
use Rattle.sixel_emulator_rules_laws.proofs.FallLemmas.{falls_nowhere}
use Rattle.sixel_emulator_rules_laws.proofs.InkLemmas.{last_at_same, one_row}
use Rattle.sixel_emulator_rules_laws.proofs.KonsoleBoxLemmas.{IsPlace, place_drawn, place_event, place_same}
use Rattle.sixel_emulator_rules_laws.proofs.KonsoleRuleLemmas.{plain}
use Rattle.sixel_emulator_rules_laws.proofs.StaleLemmas.{by_pushes}

-- ---- the terminals

abbrev pub like_choices : Bool → ℕ → ℕ → Choices
like_choices selects w h =
    let choices : Choices = plain_choices true (Filled 0) 3 w h in record choices { selects = selects }

-- konsole's plain terminal; or the same, but definitions select too
abbrev pub like_konsole : Bool → Parts → ℕ → ℕ → Display
like_konsole selects background w h =
    display_of (like_choices selects w h) konsole_colours (plain_screen (like_choices selects w h) background)

-- ---- what an event paints

falls_on : (s : Bool) (background : Parts) (w h : ℕ) (before : List Event) (e : Event) (x y : ℕ)
    → touches_on (like_konsole s background w h) before e x y ≡ falls before e x y
unfolding touches_on falls height_of
falls_on s background w h before e x y =
    ap (λ (rows : ℕ). touches 0 rows before e x y) (one_row 1 (latest raster_of before))

abbrev hits : Bool → Parts → ℕ → ℕ → ℕ → ℕ → List Event → Event → Option ℕ
hits s background w h x y before e = paint_at (like_konsole s background w h) before e x y

paint_is : (s : Bool) (background : Parts) (w h : ℕ) (before : List Event) (e : Event) (x y : ℕ)
    → hits s background w h x y before e
    ≡ (if falls before e x y then Some (selected_on (like_konsole s background w h) before)
    else filled_on (Filled 0) e x y)
unfolding is_kept_on
paint_is s background w h before e x y =
    let t = like_konsole s background w h in
    ap (λ (b : Bool). cond b (Some (selected_on t before)) (filled_on (Filled 0) e x y))
    (and-true (touches_on t before e x y) ∙ falls_on s background w h before e x y)

-- the register in which the point was painted last
abbrev pub last_paint : Bool → Parts → ℕ → ℕ → List Event → ℕ → ℕ → Option ℕ
last_paint s background w h events x y = last_at (hits s background w h x y) events

paint_push : (s : Bool) (background : Parts) (w h : ℕ) (before : List Event) (e : Event) (x y : ℕ)
    → last_paint s background w h (before ++ e ∷ []) x y
    ≡ option_or (hits s background w h x y before e) (last_paint s background w h before x y)
paint_push s background w h before e x y = last_at_push (hits s background w h x y) before e

paints_none : (s : Bool) (background : Parts) (w h : ℕ) (before : List Event) (e : Event) (x y : ℕ)
    → is_data_command e ≡ false → raster_of e ≡ None → hits s background w h x y before e ≡ None
paints_none s background w h before e x y none bare =
    paint_is s background w h before e x y ∙ rw (falls_nowhere before e x y none, bare) refl

paint_still : (s : Bool) (background : Parts) (w h : ℕ) (before : List Event) (e : Event) (x y : ℕ)
    → is_data_command e ≡ false → raster_of e ≡ None
    → last_paint s background w h (before ++ e ∷ []) x y ≡ last_paint s background w h before x y
paint_still s background w h before e x y none bare =
    paint_push s background w h before e x y
    ∙ ap (λ (o : Option ℕ). option_or o (last_paint s background w h before x y))
    (paints_none s background w h before e x y none bare)

-- ---- the registers

map_or : (f : ℕ → ℕ) (o p : Option ℕ) (d : ℕ)
    → option_map_or f (option_or o p) d ≡ option_map_or f o (option_map_or f p d)
map_or f None p d = refl
map_or f (Some r) p d = refl

select_push : (t : Display) (before : List Event) (e : Event)
    → selected_on t (before ++ e ∷ [])
    ≡ option_map_or (λ r. r % registers_of t) ((if t.choices.selects then named_by else select_of) e)
    (selected_on t before)
unfolding selected_on
select_push t before e =
    let f : Event → Option ℕ = if t.choices.selects then named_by else select_of in
    ap (λ (o : Option ℕ). option_map_or (λ r. r % registers_of t) o t.choices.selected) (latest_push f before e)
    ∙ map_or (λ r. r % registers_of t) (f e) (latest f before) t.choices.selected

map_push : (t : Display) (before : List Event) (e : Event) (r : ℕ)
    → map_on t (before ++ e ∷ []) r ≡ unwrap_or (defined_on t r e) (map_on t before r)
unfolding map_on
map_push t before e r =
    ap (λ (o : Option Parts). unwrap_or o (slice_index_or t.colours r (Rgb 0 0 0)))
    (latest_push (defined_on t r) before e)
    ∙ or_default (defined_on t r e) (latest (defined_on t r) before) (slice_index_or t.colours r (Rgb 0 0 0))

-- ---- both terminals

-- konsole's terminal has painted the drawing as the other one the events
pub record IsSame (background : Parts) (w h : ℕ) (before drawing : List Event) : Type 0 where
  pub place : IsPlace 0 before drawing
  pub pens : selected_on (like_konsole false background w h) drawing
      ≡ selected_on (like_konsole true background w h) before
  pub colours : (r : ℕ) → map_on (like_konsole false background w h) drawing r
      ≡ map_on (like_konsole true background w h) before r
  pub inks : (x y : ℕ) → last_paint false background w h drawing x y ≡ last_paint true background w h before x y

none_same : (background : Parts) (w h : ℕ) → IsSame background w h [] []
unfolding selected_on map_on latest last_at last_below
none_same background w h =
    record { place = record { line = refl; left = refl }; pens = refl; colours = λ r. refl; inks = λ x y. refl }

falls_same : (before drawing : List Event) (e : Event) (x y : ℕ) → IsPlace 0 before drawing
    → falls drawing e x y ≡ falls before e x y
unfolding falls touches
falls_same before drawing e x y p = rw (p.line, p.left) refl

-- the same event on both
both_push : (background : Parts) (w h : ℕ) (before drawing : List Event) (e : Event) → named_by e ≡ select_of e
    → IsSame background w h before drawing → IsSame background w h (before ++ e ∷ []) (drawing ++ e ∷ [])
both_push background w h before drawing e named s =
    let k = like_konsole false background w h in
    let t = like_konsole true background w h in
    record {
      place = place_same 0 before drawing e refl s.place;
      pens = select_push k drawing e
          ∙ (ap₂ (λ (o : Option ℕ) (n : ℕ). option_map_or (λ r. r % registers_of k) o n) (sym named) s.pens
          ∙ sym (select_push t before e));
      colours = λ r. map_push k drawing e r
          ∙ (ap (λ (c : Parts). unwrap_or (defined_on k r e) c) (s.colours r) ∙ sym (map_push t before e r));
      inks = λ x y. paint_push false background w h drawing e x y
          ∙ (ap₂ (λ (o p : Option ℕ). option_or o p)
          (paint_is false background w h drawing e x y
          ∙ (ap₂ (λ (b : Bool) (n : ℕ). cond b (Some n) (filled_on (Filled 0) e x y))
          (falls_same before drawing e x y s.place) s.pens
          ∙ sym (paint_is true background w h before e x y)))
          (s.inks x y)
          ∙ sym (paint_push true background w h before e x y));
    }

-- an event that paints, names and defines nothing
record IsIdle (e : Event) : Type 0 where
  pub no_data : is_data_command e ≡ false
  pub no_raster : raster_of e ≡ None
  pub no_name : named_by e ≡ None
  pub no_line : is_next_line e ≡ false
  pub no_return : is_return e ≡ false
  pub no_columns : columns_of 0 e ≡ 0

undefined : (t : Display) (r : ℕ) (e : Event) → named_by e ≡ None → defined_on t r e ≡ None
undefined t r (Step (Define q s x y z)) none = cc
undefined t r _ none = refl

idle_push : (background : Parts) (w h : ℕ) (before drawing : List Event) (e : Event) → IsIdle e
    → IsSame background w h before drawing → IsSame background w h (before ++ e ∷ []) drawing
idle_push background w h before drawing e idle s =
    let t = like_konsole true background w h in
    record {
      place = place_event 0 before drawing e idle.no_line idle.no_return idle.no_columns s.place;
      pens = s.pens
          ∙ sym (select_push t before e
          ∙ ap (λ (o : Option ℕ). option_map_or (λ r. r % registers_of t) o (selected_on t before)) idle.no_name);
      colours = λ r. s.colours r
          ∙ sym (map_push t before e r
          ∙ ap (λ (o : Option Parts). unwrap_or o (map_on t before r)) (undefined t r e idle.no_name));
      inks = λ x y. s.inks x y ∙ sym (paint_still true background w h before e x y idle.no_data idle.no_raster);
    }

-- a definition on one, and a definition and a select on the other
define_push : (background : Parts) (w h : ℕ) (before drawing : List Event) (r a b c d : ℕ)
    → IsSame background w h before drawing
    → IsSame background w h (before ++ Step (Define r a b c d) ∷ [])
    ((drawing ++ Step (Define r a b c d) ∷ []) ++ Step (Select r) ∷ [])
define_push background w h before drawing r a b c d s =
    let k = like_konsole false background w h in
    let t = like_konsole true background w h in
    let e : Event = Step (Define r a b c d) in
    let f : Event = Step (Select r) in
    record {
      place = place_drawn 0 (before ++ e ∷ []) (drawing ++ e ∷ []) f refl refl refl
          (place_same 0 before drawing e refl s.place);
      pens = select_push k (drawing ++ e ∷ []) f ∙ sym (select_push t before e);
      colours = λ q. map_push k (drawing ++ e ∷ []) f q
          ∙ (map_push k drawing e q
          ∙ (ap (λ (p : Parts). unwrap_or (defined_on k q e) p) (s.colours q) ∙ sym (map_push t before e q)));
      inks = λ x y. paint_still false background w h (drawing ++ e ∷ []) f x y refl refl
          ∙ (paint_still false background w h drawing e x y refl refl
          ∙ (s.inks x y ∙ sym (paint_still true background w h before e x y refl refl)));
    }

-- ---- one more event

idle : (e : Event) → is_data_command e ≡ false → raster_of e ≡ None → named_by e ≡ None → is_next_line e ≡ false
    → is_return e ≡ false → columns_of 0 e ≡ 0 → IsIdle e
idle e bits raster name line returns columns = record {
  no_data = bits;
  no_raster = raster;
  no_name = name;
  no_line = line;
  no_return = returns;
  no_columns = columns;
}

pub same_push : (background : Parts) (w h : ℕ) (before drawing : List Event) (e : Event) → raster_of e ≡ None
    → IsSame background w h before drawing → IsSame background w h (before ++ e ∷ []) (drawing ++ plain e)
same_push background w h before drawing (Start eight parameters) bare s =
    rw append-nil
    (idle_push background w h before drawing (Start eight parameters) (idle _ refl refl refl refl refl refl) s)
same_push background w h before drawing (Finish eight) bare s =
    rw append-nil (idle_push background w h before drawing (Finish eight) (idle _ refl refl refl refl refl refl) s)
same_push background w h before drawing (Step (Raster pan pad x y)) bare s = cc
same_push background w h before drawing (Step (Define r a b c d)) bare s =
    subst (IsSame background w h (before ++ Step (Define r a b c d) ∷ []))
    (append_assoc drawing (Step (Define r a b c d) ∷ []) (Step (Select r) ∷ []))
    (define_push background w h before drawing r a b c d s)
same_push background w h before drawing (Step (Select r)) bare s = both_push background w h before drawing _ refl s
same_push background w h before drawing (Step (Sixel bits)) bare s = both_push background w h before drawing _ refl s
same_push background w h before drawing (Step (Repeat count bits)) bare s =
    both_push background w h before drawing _ refl s
same_push background w h before drawing (Step CarriageReturn) bare s = both_push background w h before drawing _ refl s
same_push background w h before drawing (Step NextLine) bare s = both_push background w h before drawing _ refl s

-- a start and raster attributes, of which konsole draws the raster attributes
pub front_same : (background : Parts) (w h : ℕ) (start : Event) (pan pad x y : ℕ) → raster_of start ≡ None
    → plain start ≡ []
    → IsSame background w h (start ∷ Step (Raster pan pad x y) ∷ []) (Step (Raster pan pad x y) ∷ [])
front_same background w h start pan pad x y bare draws =
    both_push background w h (start ∷ []) [] (Step (Raster pan pad x y)) refl
    (subst (IsSame background w h (start ∷ [])) draws
    (same_push background w h [] [] start bare (none_same background w h)))

-- ---- what is shown

mapped_or : {A B : Type 0} (f : A → B) (o p : Option A)
    → option_or (option_map f o) (option_map f p) ≡ option_map f (option_or o p)
mapped_or f None p = refl
mapped_or f (Some a) p = refl

last_mapped : {X A B : Type 0} (f : A → B) (g : List X → X → Option A) (xs : List X)
    → last_at (λ before x. option_map f (g before x)) xs ≡ option_map f (last_at g xs)
unfolding last_at last_below
last_mapped {X} f g xs =
    by_pushes (λ (ys : List X). last_at (λ before x. option_map f (g before x)) ys ≡ option_map f (last_at g ys)) [] xs
    (λ ys y ih. last_at_push (λ before x. option_map f (g before x)) ys y
    ∙ (ap (option_or (option_map f (g ys y))) ih
    ∙ (mapped_or f (g ys y) (last_at g ys) ∙ ap (option_map f) (sym (last_at_push g ys y))))) refl

inked_is : (s : Bool) (background : Parts) (w h : ℕ) (events before : List Event) (e : Event) (x y : ℕ)
    → inked_on (like_konsole s background w h) events (0 + x) (0 + y) before e
    ≡ option_map (map_on (like_konsole s background w h) events) (hits s background w h x y before e)
unfolding is_seen_on
inked_is s background w h events before e x y =
    let t = like_konsole s background w h in ap (option_map (map_on t events)) (at_origin t before e x y)

last_inked : (s : Bool) (background : Parts) (w h : ℕ) (events : List Event) (x y : ℕ)
    → last_at (inked_on (like_konsole s background w h) events (0 + x) (0 + y)) events
    ≡ option_map (map_on (like_konsole s background w h) events) (last_paint s background w h events x y)
last_inked s background w h events x y =
    last_at_same _ _ events (λ before e. inked_is s background w h events before e x y)
    ∙ last_mapped (map_on (like_konsole s background w h) events) (hits s background w h x y) events

map_same : {A B : Type 0} (f g : A → B) (o : Option A) → ((a : A) → f a ≡ g a) → option_map f o ≡ option_map g o
map_same f g None h = refl
map_same f g (Some a) h = ap (λ b. Some b) (h a)

pub same_inked : (background : Parts) (w h : ℕ) (events drawing : List Event) (x y : ℕ)
    → IsSame background w h events drawing
    → last_at (inked_on (like_konsole false background w h) drawing (0 + x) (0 + y)) drawing
    ≡ last_at (inked_on (like_konsole true background w h) events (0 + x) (0 + y)) events
same_inked background w h events drawing x y s =
    last_inked false background w h drawing x y
    ∙ (map_same _ _ (last_paint false background w h drawing x y) s.colours
    ∙ (ap (option_map (map_on (like_konsole true background w h) events)) (s.inks x y)
    ∙ sym (last_inked true background w h events x y)))

pub same_shown : (background : Parts) (w h : ℕ) (events drawing : List Event) (x y : ℕ)
    → IsSame background w h events drawing
    → shown_on (like_konsole false background w h) drawing (0 + x) (0 + y)
    ≡ shown_on (like_konsole true background w h) events (0 + x) (0 + y)
unfolding shown_on
same_shown background w h events drawing x y s =
    ap (λ (o : Option Parts). unwrap_or o (stood_on (like_konsole false background w h) (0 + x) (0 + y)))
    (same_inked background w h events drawing x y s)
