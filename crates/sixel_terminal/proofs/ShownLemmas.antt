-- The terminal shows what it stores after all events.
use Rattle.std.proofs.Common.{◌≡◌, ℕ, zero, suc, ◌+◌, ◌*◌, ◌/◌, ◌%◌, ◌<◌, Bool, true, false, Option, Some, None}
use Rattle.std.proofs.Common.{List, length, take, get_or, map, refl, sym, ap, ◌∙◌, arith}
use Rattle.std.specs.Prelude.{slice_get, unwrap_or, IsSome, if◌then◌else◌}
use Rattle.std.specs.Option.{option_or, option_map, option_and_then}
use Rattle.std.proofs.lemmas.List.{get_or-map, length-map}
use Rattle.std.proofs.lemmas.Nat.{div-add-mod'}
use Rattle.sixel_grammar.specs.declared.command.Event.{Event}
use Rattle.sixel_model.specs.declared.colour.Parts.{Parts}
use Rattle.sixel_model.specs.declared.colour.Parts.TheVariants.{Rgb}
use Rattle.sixel_model.specs.Positions.{at_position, last_at, last_below}
use Rattle.sixel_model.proofs.PositionLemmas.{last_below_same}
use Rattle.sixel_model.proofs.GridLemmas.{rows_from_index}
use Rattle.sixel_terminal.specs.declared.pixel.Ink.{Ink}
use Rattle.sixel_terminal.specs.declared.pixel.Ink.TheVariants.{Fixed, Bound}
use Rattle.sixel_terminal.specs.declared.pen.Pen.{Pen}
use Rattle.sixel_terminal.specs.Canvases.{black}
use Rattle.sixel_terminal.specs.Displays.{Display, registers_of}
use Rattle.sixel_terminal.specs.Drawing.{IsPainted, inked_on, is_seen_on, map_on, paints_in, paints_on, screen_on}
use Rattle.sixel_terminal.specs.Drawing.{shown_on, stood_on}
use Rattle.sixel_terminal.specs.Laws.{UnseenIsUnpainted}
use Rattle.sixel_terminal.specs.Standing.{StandsAfter, ink_in_register, ink_at_point, inked_by, shown_in}
use Rattle.sixel_terminal.proofs.InkLemmas.{map_same, paints_below}
use Rattle.sixel_terminal.proofs.RunLemmas.{Runs}
use Rattle.sixel_terminal.proofs.StandLemmas.{map_or}

map_below : {A B : Type 0} (f : A → B) (n : ℕ) (g : ℕ → Option A)
    → option_map f (last_below n g) ≡ last_below n (λ i. option_map f (g i))
unfolding last_below
map_below f zero g = refl
map_below f (suc n) g =
    map_or f (g n) (last_below n g) ∙ ap (option_or (option_map f (g n))) (map_below f n g)

same_there : {X A : Type 0} (f g : X → Option A) (o : Option X) → ((x : X) → f x ≡ g x)
    → option_and_then f o ≡ option_and_then g o
same_there f g None h = refl
same_there f g (Some x) h = h x

map_then : {X A B : Type 0} (f : A → B) (g : X → Option A) (o : Option X)
    → option_map f (option_and_then g o) ≡ option_and_then (λ x. option_map f (g x)) o
map_then f g None = refl
map_then f g (Some x) = refl

-- f of the last result of g is the last result of h, if h is f after g
pub map_last : {X A B : Type 0} (f : A → B) (g : List X → X → Option A) (h : List X → X → Option B) (xs : List X)
    → ((before : List X) (x : X) → option_map f (g before x) ≡ h before x)
    → option_map f (last_at g xs) ≡ last_at h xs
unfolding last_at at_position
map_last f g h xs each =
    map_below f (length xs) (at_position g xs)
    ∙ last_below_same (length xs) _ _ (λ i lt.
    map_then f (g (take i xs)) (slice_get xs i)
    ∙ same_there (λ x. option_map f (g (take i xs) x)) (h (take i xs)) (slice_get xs i) (each (take i xs)))

pub map_map : {A B C : Type 0} (f : B → C) (g : A → B) (o : Option A)
    → option_map f (option_map g o) ≡ option_map (λ a. f (g a)) o
map_map f g None = refl
map_map f g (Some a) = refl

pub unwrap_map : {A B : Type 0} (f : A → B) (o : Option A) (d : A)
    → f (unwrap_or o d) ≡ unwrap_or (option_map f o) (f d)
unwrap_map f None d = refl
unwrap_map f (Some a) d = refl

-- the colours of the registers at the end
abbrev AreAtEnd : Display → List Event → List Parts → Type 0
AreAtEnd t events colours = (r : ℕ) → r < registers_of t → get_or colours r (Rgb 0 0 0) ≡ map_on t events r

ink_shows : (binds : Bool) (t : Display) (events before : List Event) (colours : List Parts) (r : ℕ)
    → AreAtEnd t events colours → r < registers_of t
    → shown_in colours (if binds then Bound r else Fixed (map_on t before r))
    ≡ map_on t (if binds then events else before) r
ink_shows true t events before colours r s lt = s r lt
ink_shows false t events before colours r s lt = refl

painting_shows : (t : Display) (events : List Event) (colours : List Parts) (x y : ℕ) (before : List Event) (e : Event)
    → Runs t → is_seen_on t events ≡ true → AreAtEnd t events colours
    → option_map (shown_in colours) (inked_by t x y before e) ≡ inked_on t events x y before e
painting_shows t events colours x y before e runs seen s =
    rw seen
    (map_map (shown_in colours) (ink_in_register t before) (paints_on t before e x y)
    ∙ map_same _ _ (paints_on t before e x y)
    (λ r h. ink_shows t.choices.binds_at_showing t events before colours r s (paints_below t before e x y r runs h)))

pixel_shows : (t : Display) (events : List Event) (colours : List Parts) (x y : ℕ) → Runs t
    → is_seen_on t events ≡ true → AreAtEnd t events colours
    → shown_in colours (ink_at_point t events x y) ≡ shown_on t events x y
unfolding ink_at_point shown_on
pixel_shows t events colours x y runs seen s =
    unwrap_map (shown_in colours) (last_at (inked_by t x y) events) _
    ∙ ap (λ o. unwrap_or o (get_or t.screen (y * t.choices.screen_width + x) (Rgb 0 0 0)))
    (map_last (shown_in colours) (inked_by t x y) (inked_on t events x y) events
    (λ before e. painting_shows t events colours x y before e runs seen s))

-- the colours of all pixels, if the terminal sees the string
pub all_shown : (t : Display) (events : List Event) (p : Pen) (colours : List Parts) (inks : List Ink) → Runs t
    → is_seen_on t events ≡ true → StandsAfter t events p colours inks
    → map (shown_in colours) inks ≡ screen_on t events
unfolding screen_on
all_shown t events p colours inks runs seen s =
    rows_from_index t.choices.screen_width t.choices.screen_height (shown_on t events)
    (map (shown_in colours) inks) (Rgb 0 0 0)
    (simp length-map s.pixels)
    (λ i lt.
    get_or-map (shown_in colours) inks i black (Rgb 0 0 0) (omega (arith, s.pixels, lt))
    ∙ ap (shown_in colours) (s.inks_are i lt)
    ∙ pixel_shows t events colours (i % t.choices.screen_width) (i / t.choices.screen_width) runs seen
    s.colours_are)

-- ---- strings that a terminal doesn't see

none_below : {A : Type 0} (n : ℕ) (g : ℕ → Option A) → ((i : ℕ) → g i ≡ None) → last_below n g ≡ None
unfolding last_below
none_below zero g h = refl
none_below (suc n) g h = rw (h n) (none_below n g h)

none_then : {X A : Type 0} (f : X → Option A) (o : Option X) → ((x : X) → f x ≡ None) → option_and_then f o ≡ None
none_then f None h = refl
none_then f (Some x) h = h x

-- if no position has a result, there is no last one
none_at : {X A : Type 0} (f : List X → X → Option A) (xs : List X) → ((before : List X) (x : X) → f before x ≡ None)
    → last_at f xs ≡ None
unfolding last_at at_position
none_at f xs h = none_below (length xs) _ (λ i. none_then (f (take i xs)) (slice_get xs i) (h (take i xs)))

unseen_pixel : (t : Display) (events : List Event) (x y : ℕ) → is_seen_on t events ≡ false
    → shown_on t events x y ≡ get_or t.screen (y * t.choices.screen_width + x) (Rgb 0 0 0)
unfolding shown_on
unseen_pixel t events x y unseen =
    ap (λ o. unwrap_or o (get_or t.screen (y * t.choices.screen_width + x) (Rgb 0 0 0)))
    (none_at (inked_on t events x y) events (λ before e. rw unseen refl))

-- a terminal that doesn't see the string shows what was on its screen before
pub unseen_screen : (t : Display) (events : List Event) → Runs t → is_seen_on t events ≡ false
    → t.screen ≡ screen_on t events
unfolding screen_on
unseen_screen t events runs unseen =
    rows_from_index t.choices.screen_width t.choices.screen_height (shown_on t events) t.screen (Rgb 0 0 0)
    runs.in_class.screen
    (λ i lt.
    ap (λ n. get_or t.screen n (Rgb 0 0 0)) (sym (div-add-mod' i t.choices.screen_width))
    ∙ sym (unseen_pixel t events (i % t.choices.screen_width) (i / t.choices.screen_width) unseen))

-- ---- pixels that no event paints

none_of : {A B : Type 0} (f : A → B) (o : Option A) → (IsSome o → ⊥) → option_map f o ≡ None
none_of f None h = refl
none_of f (Some a) h = absurd (h refl)

-- a pixel that no event paints shows what was there before
pub unpainted : (t : Display) (events : List Event) (x y : ℕ) → ¬ IsPainted t events x y
    → shown_on t events x y ≡ stood_on t x y
unfolding shown_on IsPainted last_at at_position
unpainted t events x y none =
    ap (λ o. unwrap_or o (stood_on t x y))
    (none_below (length events) _ (λ i. there i (slice_get events i) refl))
  where
    there : (i : ℕ) (o : Option Event) → slice_get events i ≡ o
        → option_and_then (λ e. inked_on t events x y (take i events) e) o ≡ None
    there i None is = refl
    there i (Some e) is =
        none_of _ (paints_in t events (take i events) e x y)
        (λ some. none (i, record { item = e; here = is; holds = some }))

pub unseen_is_unpainted : UnseenIsUnpainted
unfolding IsPainted is_seen_on
unseen_is_unpainted t events x y bits eight painted =
    let some = rw (bits, eight) at (painted.1).holds in cc some
