-- The colour in which a plain terminal with foot's choices painted a point last.
use Rattle.std.proofs.Common.{◌≡◌, ℕ, ◌+◌, ◌<◌, Bool, true, false, cond, Option, Some, None, List, []}
use Rattle.std.proofs.Common.{◌∷◌, ◌++◌, length, take, refl, sym, ap, ◌∙◌}
use Rattle.std.specs.Prelude.{slice_get, is_some, IsSome, if◌then◌else◌}
use Rattle.std.specs.Option.{option_map, option_map_or, option_or}
use Rattle.std.proofs.Math.Bool.{and-true}
use Rattle.std.proofs.lemmas.Option.{slice_get_within}
use Rattle.sixel_grammar.specs.declared.command.Event.{Event}
use Rattle.sixel_model.specs.declared.colour.Parts.{Parts}
use Rattle.sixel_model.specs.Events.{Attributes, is_data_command, is_square, raster_of}
use Rattle.sixel_model.specs.Geometry.{falls, touches}
use Rattle.sixel_model.specs.Positions.{at_position, last_at, latest}
use Rattle.sixel_model.proofs.CoverLemmas.{any_below_at}
use Rattle.sixel_model.proofs.LastLemmas.{at_there, item_there, last_is, some_last}
use Rattle.sixel_model.proofs.PositionLemmas.{last_at_push, last_below_same}
use Rattle.sixel_terminal.specs.Displays.{Display}
use Rattle.sixel_terminal.specs.Limits.{display_of, plain_screen}
use Rattle.sixel_terminal.specs.Drawing.{IsPainted, height_of, inked_on, is_kept_on, is_seen_on, map_on, paint_at}
use Rattle.sixel_terminal.specs.Drawing.{selected_on, touches_on}
use Rattle.sixel_terminal.proofs.ClipLemmas.{at_origin}
use Rattle.sixel_foot.specs.Settings.{foot_choices}
use Rattle.sixel_judge.proofs.OptionLemmas.{map_some, some_value}
use Rattle.sixel_emulator_rules_laws.proofs.FallLemmas.{falls_nowhere}

-- a terminal with foot's choices and these colours at the start
abbrev pub like_foot : List Parts → Parts → ℕ → ℕ → Display
like_foot colours background w h =
    display_of (foot_choices w h) colours (plain_screen (foot_choices w h) background)

-- ---- the last ink

-- the colour in which the terminal paints next
abbrev pub pen : Display → List Event → Parts
pen t before = map_on t before (selected_on t before)

-- the colour in which the event paints the point, if it falls there
abbrev pub inks : Display → ℕ → ℕ → List Event → Event → Option Parts
inks t x y before e = if falls before e x y then Some (pen t before) else None

abbrev pub last_ink : Display → List Event → ℕ → ℕ → Option Parts
last_ink t events x y = last_at (inks t x y) events

pub ink_push : (t : Display) (before : List Event) (e : Event) (x y : ℕ)
    → last_ink t (before ++ e ∷ []) x y ≡ option_or (inks t x y before e) (last_ink t before x y)
ink_push t before e x y = last_at_push (inks t x y) before e

pub ink_still : (t : Display) (before : List Event) (e : Event) (x y : ℕ) → is_data_command e ≡ false
    → last_ink t (before ++ e ∷ []) x y ≡ last_ink t before x y
ink_still t before e x y none = ink_push t before e x y ∙ rw (falls_nowhere before e x y none) refl

-- ---- it is that of the terminal

pub one_row : (one : ℕ) (o : Option Attributes)
    → option_map_or (λ (a : Attributes). if is_square a then one else one) o one ≡ one
one_row one None = refl
one_row one (Some a) = either (is_square a)
  where
    either : (b : Bool) → (if b then one else one) ≡ one
    either true = refl
    either false = refl

falls_on : (colours : List Parts) (background : Parts) (w h : ℕ) (before : List Event) (e : Event) (x y : ℕ)
    → touches_on (like_foot colours background w h) before e x y ≡ falls before e x y
unfolding touches_on falls height_of
falls_on colours background w h before e x y =
    ap (λ (rows : ℕ). touches 0 rows before e x y) (one_row 1 (latest raster_of before))

paint_is : (colours : List Parts) (background : Parts) (w h : ℕ) (before : List Event) (e : Event) (x y : ℕ)
    → paint_at (like_foot colours background w h) before e x y
    ≡ (if falls before e x y then Some (selected_on (like_foot colours background w h) before) else None)
unfolding is_kept_on
paint_is colours background w h before e x y =
    let t = like_foot colours background w h in
    ap (λ (b : Bool). cond b (Some (selected_on t before)) None)
    (and-true (touches_on t before e x y) ∙ falls_on colours background w h before e x y)

pub map_if : (f : ℕ → Parts) (b : Bool) (r : ℕ)
    → option_map f (if b then Some r else None) ≡ (if b then Some (f r) else None)
map_if f true r = refl
map_if f false r = refl

inked_is : (colours : List Parts) (background : Parts) (w h : ℕ) (events before : List Event) (e : Event) (x y : ℕ)
    → inked_on (like_foot colours background w h) events (0 + x) (0 + y) before e
    ≡ inks (like_foot colours background w h) x y before e
unfolding is_seen_on
inked_is colours background w h events before e x y =
    let t = like_foot colours background w h in
    ap (option_map (map_on t before)) (at_origin t before e x y ∙ paint_is colours background w h before e x y)
    ∙ map_if (map_on t before) (falls before e x y) (selected_on t before)

pub last_at_same : {X A : Type 0} (f g : List X → X → Option A) (xs : List X)
    → ((before : List X) (x : X) → f before x ≡ g before x) → last_at f xs ≡ last_at g xs
unfolding last_at
last_at_same f g xs same =
    last_below_same (length xs) _ _ (λ i lt. at_same i lt)
  where
    at_same : (i : ℕ) → i < length xs → at_position f xs i ≡ at_position g xs i
    at_same i lt =
        let x = item_there xs i lt in
        at_there f xs i x.0 x.1 ∙ (same (take i xs) x.0 ∙ sym (at_there g xs i x.0 x.1))

pub last_inked : (colours : List Parts) (background : Parts) (w h : ℕ) (events : List Event) (x y : ℕ)
    → last_at (inked_on (like_foot colours background w h) events (0 + x) (0 + y)) events
    ≡ last_ink (like_foot colours background w h) events x y
last_inked colours background w h events x y =
    last_at_same _ _ events (λ before e. inked_is colours background w h events before e x y)

-- ---- pixels that are painted

last_some : {X A : Type 0} (g : List X → X → Option A) (xs : List X) (j : ℕ) (x : X) → slice_get xs j ≡ Some x
    → IsSome (g (take j xs) x) → IsSome (last_at g xs)
unfolding last_at
last_some g xs j x here h =
    some_last (length xs) (λ i. is_some (at_position g xs i)) (at_position g xs) (λ i lt p. p)
    (any_below_at (length xs) j (λ i. is_some (at_position g xs i)) (slice_get_within xs j x here)
    (rw (at_there g xs j x here) h))

pub painted_inked : (t : Display) (events : List Event) (x y : ℕ) → IsPainted t events x y
    → IsSome (last_at (inked_on t events x y) events)
unfolding IsPainted
painted_inked t events x y p =
    last_some (inked_on t events x y) events p.0 (p.1).item (p.1).here (map_some _ _ (p.1).holds)

some_mapped : {A B : Type 0} (f : A → B) (o : Option A) (b : B) → option_map f o ≡ Some b → IsSome o
some_mapped f None b h = cc
some_mapped f (Some a) b h = refl

pub inked_painted : (t : Display) (events : List Event) (x y : ℕ) → IsSome (last_at (inked_on t events x y) events)
    → IsPainted t events x y
unfolding IsPainted last_at
inked_painted t events x y some =
    let c : (c : Parts) × (last_at (inked_on t events x y) events ≡ Some c) = some_value _ some in
    let l = last_is (length events) (at_position (inked_on t events x y) events) c.0 c.1 in
    let e = item_there events l.at l.below in (
      l.at,
      record {
        item = e.0;
        here = e.1;
        holds = some_mapped _ _ c.0 (sym (at_there (inked_on t events x y) events l.at e.0 e.1) ∙ l.gives);
      },
    )
