-- A terminal that draws from another origin, on another screen.
use Rattle.std.proofs.Common.{◌≡◌, ◌∙◌, ◌≤◌, ◌<◌, ◌+◌, ◌-◌, ◌*◌, ◌&&◌, ℕ, Bool, true, false, cond, List, Option}
use Rattle.std.proofs.Common.{Some, None, ap, ap₂, arith, get_or, nat_le, refl, replicate, subst, sym, take}
use Rattle.std.specs.Prelude.{IsSome, unwrap_or, if◌then◌else◌}
use Rattle.std.specs.Option.{option_map}
use Rattle.std.proofs.lemmas.Bool.{and_parts, leb-true}
use Rattle.std.proofs.lemmas.List.{get_or-replicate}
use Rattle.std.proofs.lemmas.Nat.{mul-add-lt}
use Rattle.sixel_grammar.specs.declared.command.Event.{Event}
use Rattle.sixel_model.specs.declared.colour.Parts.{Parts}
use Rattle.sixel_model.specs.declared.colour.Parts.TheVariants.{Rgb}
use Rattle.sixel_model.specs.Pictures.{PictureValue}
use Rattle.sixel_model.specs.Positions.{last_at}
use Rattle.sixel_terminal.specs.declared.choices.Choices.{Choices}
use Rattle.sixel_terminal.specs.Displays.{Display}
use Rattle.sixel_terminal.specs.Drawing.{IsPainted, height_of, inked_on, is_kept_on, is_seen_on, map_on, paint_at}
use Rattle.sixel_terminal.specs.Drawing.{paints_on, selected_on, shown_on, stood_on, touches_on}
use Rattle.sixel_terminal.proofs.ClipLemmas.{at_origin}
use Rattle.sixel_named_terminals.specs.declared.named.Named.{Named}
use Rattle.sixel_named_terminals.specs.declared.named.Named.TheVariants.{XTerm, MlTerm, Foot, Konsole}
use Rattle.sixel_named_terminals.specs.Named.{terminal_on}
use Rattle.sixel_judge.specs.Portable.{Shows}
use Rattle.sixel_judge.proofs.WithinLemmas.{if_seen}
use Rattle.sixel_emulator_rules_laws.proofs.InkLemmas.{inked_painted, last_at_same, painted_inked}
use Rattle.sixel_promise_laws.specs.Portable.{from_origin}

-- the same choices, but for the sides of the screen and the origin
abbrev pub moved_choices : ℕ → ℕ → ℕ → ℕ → Choices → Choices
moved_choices w h left top c = record c { screen_width = w; screen_height = h; origin_x = left; origin_y = top }

-- the same terminal with this screen of these sides, and this origin
abbrev pub moved : ℕ → ℕ → ℕ → ℕ → List Parts → Display → Display
moved w h left top screen t = record t { choices = moved_choices w h left top t.choices; screen = screen }

-- ---- what it paints

-- at a point from its origin, what it paints there
paint_moved : (w h left top : ℕ) (screen : List Parts) (t : Display) (before : List Event) (e : Event) (x y : ℕ)
    → paint_at (moved w h left top screen t) before e x y ≡ paint_at t before e x y
unfolding touches_on height_of is_kept_on selected_on
paint_moved w h left top screen t before e x y = refl

inked_moved : (w h left top : ℕ) (screen : List Parts) (t : Display) (events before : List Event) (e : Event) (x y : ℕ)
    → inked_on (moved w h left top screen t) events (left + x) (top + y) before e
    ≡ inked_on t events (t.choices.origin_x + x) (t.choices.origin_y + y) before e
unfolding is_seen_on map_on
inked_moved w h left top screen t events before e x y =
    ap (λ (o : Option ℕ). option_map (map_on t (if t.choices.binds_at_showing then events else before))
    (if is_seen_on t events then o else None))
    (at_origin (moved w h left top screen t) before e x y ∙ paint_moved w h left top screen t before e x y
    ∙ sym (at_origin t before e x y))

last_moved : (w h left top : ℕ) (screen : List Parts) (t : Display) (events : List Event) (x y : ℕ)
    → last_at (inked_on (moved w h left top screen t) events (left + x) (top + y)) events
    ≡ last_at (inked_on t events (t.choices.origin_x + x) (t.choices.origin_y + y)) events
last_moved w h left top screen t events x y =
    last_at_same _ _ events (λ before e. inked_moved w h left top screen t events before e x y)

pub shown_moved : (w h left top : ℕ) (screen : List Parts) (t : Display) (events : List Event) (x y : ℕ)
    → stood_on (moved w h left top screen t) (left + x) (top + y)
    ≡ stood_on t (t.choices.origin_x + x) (t.choices.origin_y + y)
    → shown_on (moved w h left top screen t) events (left + x) (top + y)
    ≡ shown_on t events (t.choices.origin_x + x) (t.choices.origin_y + y)
unfolding shown_on
shown_moved w h left top screen t events x y stood =
    ap₂ (λ (o : Option Parts) (c : Parts). unwrap_or o c) (last_moved w h left top screen t events x y) stood

painted_moved : (w h left top : ℕ) (screen : List Parts) (t : Display) (events : List Event) (x y : ℕ)
    → IsPainted (moved w h left top screen t) events (left + x) (top + y)
    → IsPainted t events (t.choices.origin_x + x) (t.choices.origin_y + y)
painted_moved w h left top screen t events x y painted =
    inked_painted t events (t.choices.origin_x + x) (t.choices.origin_y + y)
    (subst (λ (o : Option Parts). IsSome o) (last_moved w h left top screen t events x y)
    (painted_inked (moved w h left top screen t) events (left + x) (top + y) painted))

-- what is painted is neither left of the origin nor above it
painted_from : (t : Display) (events : List Event) (x y : ℕ) → IsPainted t events x y
    → (t.choices.origin_x ≤ x) × (t.choices.origin_y ≤ y)
unfolding IsPainted paints_on
painted_from t events x y painted =
    split (nat_le t.choices.origin_x x && nat_le t.choices.origin_y y) refl
    (if_seen (is_seen_on t events) _ (painted.1).holds)
  where
    split : (b : Bool) → (nat_le t.choices.origin_x x && nat_le t.choices.origin_y y) ≡ b
        → IsSome (cond b (paint_at t (take (painted.0) events) (painted.1).item
        (x - t.choices.origin_x) (y - t.choices.origin_y)) None)
        → (t.choices.origin_x ≤ x) × (t.choices.origin_y ≤ y)
    split false e s = cc
    split true e s =
        let from : (nat_le t.choices.origin_x x ≡ true) × (nat_le t.choices.origin_y y ≡ true) = and_parts _ _ e in
        (leb-true _ _ from.0, leb-true _ _ from.1)

-- ---- the picture

-- what a terminal shows from its origin, it shows from another one, if in the box the screens had the same colours
-- before
shows_moved : (w h left top : ℕ) (screen : List Parts) (t : Display) (events : List Event) (p : PictureValue)
    → ((x y : ℕ) → x < p.width → y < p.height → stood_on (moved w h left top screen t) (left + x) (top + y)
    ≡ stood_on t (t.choices.origin_x + x) (t.choices.origin_y + y))
    → Shows t events p → Shows (moved w h left top screen t) events p
shows_moved w h left top screen t events p stood shows =
    let u : Display = moved w h left top screen t in
    record {
      inside = λ x y right below.
          shows.inside x y right below
          ∙ ap (λ (c : Parts). Some c) (sym (shown_moved w h left top screen t events x y (stood x y right below)));
      outside = λ x y out painted.
          let from : (left ≤ x) × (top ≤ y) = painted_from u events x y painted in
          let across : x ≡ left + (x - left) = omega (arith, from.0) in
          let down : y ≡ top + (y - top) = omega (arith, from.1) in
          let there : IsPainted u events (left + (x - left)) (top + (y - top)) =
          subst (λ (n : ℕ). IsPainted u events n (top + (y - top))) across
          (subst (λ (n : ℕ). IsPainted u events x n) down painted) in
          shows.outside (t.choices.origin_x + (x - left)) (t.choices.origin_y + (y - top))
          (λ b. out (record {
            left = from.0;
            top = from.1;
            right = let right = b.right in omega (arith, right, from.0);
            bottom = let bottom = b.bottom in omega (arith, bottom, from.1);
          })) (painted_moved w h left top screen t events (x - left) (y - top) there);
    }

-- ---- named terminals

-- a pixel of a screen of one colour
plain_pixel : (w h x y : ℕ) (background : Parts) → x < w → y < h
    → get_or (replicate (w * h) background) (y * w + x) (Rgb 0 0 0) ≡ background
plain_pixel w h x y background right below =
    get_or-replicate (w * h) (y * w + x) background (Rgb 0 0 0) (mul-add-lt y w x h below right)

-- in the box both screens have the background
pub stood_same : (w h left top a b x y : ℕ) (background : Parts) → left + a ≤ w → top + b ≤ h → x < a → y < b
    → get_or (replicate (w * h) background) ((top + y) * w + (left + x)) (Rgb 0 0 0)
    ≡ get_or (replicate (a * b) background) ((0 + y) * a + (0 + x)) (Rgb 0 0 0)
stood_same w h left top a b x y background across down right below =
    plain_pixel w h (left + x) (top + y) background (omega (arith, across, right)) (omega (arith, down, below))
    ∙ sym (plain_pixel a b (0 + x) (0 + y) background (omega (arith, right)) (omega (arith, below)))

-- a picture that a named terminal shows at the top left of a screen of its size, it shows from each origin with room
pub shows_from : (named : Named) (background : Parts) (opening drawing : List Event) (p : PictureValue)
    (width height x y : ℕ) → x + p.width ≤ width → y + p.height ≤ height
    → Shows (terminal_on named background opening (p.width, p.height)) drawing p
    → Shows (from_origin x y (terminal_on named background opening (width, height))) drawing p
shows_from XTerm background opening drawing p width height x y across down shows =
    shows_moved width height x y (replicate (width * height) background) _ drawing p
    (λ u v right below. stood_same width height x y p.width p.height u v background across down right below) shows
shows_from MlTerm background opening drawing p width height x y across down shows =
    shows_moved width height x y (replicate (width * height) background) _ drawing p
    (λ u v right below. stood_same width height x y p.width p.height u v background across down right below) shows
shows_from Foot background opening drawing p width height x y across down shows =
    shows_moved width height x y (replicate (width * height) background) _ drawing p
    (λ u v right below. stood_same width height x y p.width p.height u v background across down right below) shows
shows_from Konsole background opening drawing p width height x y across down shows =
    shows_moved width height x y (replicate (width * height) background) _ drawing p
    (λ u v right below. stood_same width height x y p.width p.height u v background across down right below) shows
