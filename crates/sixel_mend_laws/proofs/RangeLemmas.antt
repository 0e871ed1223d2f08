-- The colours that the terminal shows are in range.
use Rattle.std.proofs.Common.{◌≡◌, ℕ, zero, suc, Bool, true, false, Option, Some, None, IfSome, List, [], ◌∷◌, map}
use Rattle.std.proofs.Common.{get_or, length, replicate, refl, take, arith}
use Rattle.std.specs.Prelude.{◌%◌, ◌*◌, ◌+◌, slice_get, unwrap_or, if◌then◌else◌}
use Rattle.std.specs.List.{AllByRecursion, list_all, range_with_len}
use Rattle.std.specs.Option.{option_and_then, option_map}
use Rattle.std.proofs.lemmas.Bool.{and_parts, leb-true}
use Rattle.sixel_grammar.specs.declared.command.Event.{Event}
use Rattle.sixel_model.specs.declared.colour.Parts.{Parts}
use Rattle.sixel_model.specs.declared.colour.Parts.TheVariants.{Rgb, Hls}
use Rattle.sixel_model.specs.Colours.{IsColour, clamped, colour_in, is_colour}
use Rattle.sixel_model.specs.Events.{Definition, definition_where}
use Rattle.sixel_model.specs.Grids.{row_by_row}
use Rattle.sixel_model.specs.Positions.{at_position, last_at, last_below, latest}
use Rattle.sixel_model.proofs.KnownLemmas.{latest_each}
use Rattle.sixel_terminal.specs.Drawing.{defined_on, given_on, inked_on, map_on, paints_in, screen_on, shown_on}
use Rattle.sixel_terminal.specs.Drawing.{stood_on, taken_on}
use Rattle.sixel_judge.proofs.OptionLemmas.{or_each}
use Rattle.sixel_mend.specs.declared.mending.Mending.{Mending}
use Rattle.sixel_mend.specs.Screens.{mending_terminal, starting_colour, starting_colours}
use Rattle.sixel_terminal.specs.Starts.{vt340_colours}

-- ---- what holds of each result

then_each : {A B : Type 0} (P : B → Type 0) (f : A → Option B) (o : Option A) → ((a : A) → IfSome (f a) P)
    → IfSome (option_and_then f o) P
then_each P f None h = tt
then_each P f (Some a) h = h a

map_each : {A B : Type 0} (P : B → Type 0) (f : A → B) (o : Option A) → ((a : A) → P (f a)) → IfSome (option_map f o) P
map_each P f None h = tt
map_each P f (Some a) h = h a

unwrap_either : {A : Type 0} (P : A → Type 0) (o : Option A) (d : A) → IfSome o P → P d → P (unwrap_or o d)
unwrap_either P None d h k = k
unwrap_either P (Some a) d h k = h

below_each : {A : Type 0} (P : A → Type 0) (n : ℕ) (f : ℕ → Option A) → ((i : ℕ) → IfSome (f i) P)
    → IfSome (last_below n f) P
unfolding last_below
below_each P zero f h = tt
below_each P (suc n) f h = or_each P (f n) (last_below n f) (h n) (below_each P n f h)

last_each : {X A : Type 0} (P : A → Type 0) (f : List X → X → Option A) (xs : List X)
    → ((before : List X) (x : X) → IfSome (f before x) P) → IfSome (last_at f xs) P
unfolding last_at at_position
last_each P f xs h = below_each P (length xs) (at_position f xs) (λ i. then_each P (f (take i xs)) (slice_get xs i)
    (h (take i xs)))

each_item : {X : Type 0} (P : X → Type 0) (xs : List X) → ((x : X) → P x) → AllByRecursion P xs
each_item P [] h = tt
each_item P (x ∷ xs) h = (h x, each_item P xs h)

each_mapped : {X A : Type 0} (P : A → Type 0) (f : X → A) (xs : List X) → ((x : X) → P (f x))
    → AllByRecursion P (map f xs)
each_mapped P f [] h = tt
each_mapped P f (x ∷ xs) h = (h x, each_mapped P f xs h)

each_replicated : {X : Type 0} (P : X → Type 0) (n : ℕ) (x : X) → P x → AllByRecursion P (replicate n x)
each_replicated P zero x h = tt
each_replicated P (suc n) x h = (h, each_replicated P n x h)

-- ---- colours

get_in_range : (xs : List Parts) (i : ℕ) → AllByRecursion IsColour xs → IsColour (get_or xs i (Rgb 0 0 0))
get_in_range [] i h = (omega arith, omega arith, omega arith)
get_in_range (x ∷ xs) zero h = h.0
get_in_range (x ∷ xs) (suc i) h = get_in_range xs i h.1

test_in_range : (c : Parts) → is_colour c ≡ true → IsColour c
test_in_range (Rgb red green blue) h =
    let last = and_parts _ _ h in
    let first = and_parts _ _ last.0 in
    (leb-true red 100 first.0, leb-true green 100 first.1, leb-true blue 100 last.1)
test_in_range (Hls hue lightness saturation) h =
    let last = and_parts _ _ h in
    let first = and_parts _ _ last.0 in
    (leb-true hue 360 first.0, leb-true lightness 100 first.1, leb-true saturation 100 last.1)

tests_in_range : (cs : List Parts) → list_all is_colour cs ≡ true → AllByRecursion IsColour cs
tests_in_range [] h = tt
tests_in_range (c ∷ cs) h =
    let both = and_parts (is_colour c) (list_all is_colour cs) h in
    (test_in_range c both.0, tests_in_range cs both.1)

clamped_in_range : (c : Parts) → IsColour (clamped c)
clamped_in_range (Rgb red green blue) = (omega arith, omega arith, omega arith)
clamped_in_range (Hls hue lightness saturation) = (omega arith, omega arith, omega arith)

start_in_range : (register : ℕ) → IsColour (get_or starting_colours register (Rgb 0 0 0))
unfolding starting_colours
start_in_range register =
    get_in_range (map starting_colour (range_with_len 0 256)) register
    (each_mapped IsColour starting_colour (range_with_len 0 256)
    (λ r. get_in_range vt340_colours (r % 16) (tests_in_range vt340_colours refl)))

-- ---- the terminal

taken_in_range : (m : Mending) (w h : ℕ) (c : Parts) → IfSome (taken_on (mending_terminal m w h) c) IsColour
taken_in_range m w h c = by (is_colour c) refl
  where
    by : (b : Bool) → is_colour c ≡ b → IfSome (if b then Some c else Some (clamped c)) IsColour
    by true e = test_in_range c e
    by false e = clamped_in_range c

defined_in_range : (m : Mending) (w h register : ℕ) (e : Event)
    → IfSome (defined_on (mending_terminal m w h) register e) IsColour
defined_in_range m w h register e =
    let t = mending_terminal m w h in
    then_each IsColour (given_on t) (definition_where _ e)
    (λ (d : Definition). then_each IsColour (taken_on t) (colour_in d.system d.x d.y d.z) (taken_in_range m w h))

map_in_range : (m : Mending) (w h : ℕ) (before : List Event) (register : ℕ)
    → IsColour (map_on (mending_terminal m w h) before register)
unfolding map_on
map_in_range m w h before register =
    let t = mending_terminal m w h in
    unwrap_either IsColour (latest (defined_on t register) before) (get_or starting_colours register (Rgb 0 0 0))
    (latest_each (defined_on t register) IsColour before
    (each_item (λ e. IfSome (defined_on t register e) IsColour) before (defined_in_range m w h register)))
    (start_in_range register)

stood_in_range : (m : Mending) (w h x y : ℕ) → IsColour m.background → IsColour (stood_on (mending_terminal m w h) x y)
stood_in_range m w h x y good =
    get_in_range (replicate (w * h) m.background) (y * w + x) (each_replicated IsColour (w * h) m.background good)

shown_in_range : (m : Mending) (w h : ℕ) (events : List Event) (x y : ℕ) → IsColour m.background
    → IsColour (shown_on (mending_terminal m w h) events x y)
unfolding shown_on
shown_in_range m w h events x y good =
    let t = mending_terminal m w h in
    unwrap_either IsColour (last_at (inked_on t events x y) events) (stood_on t x y)
    (last_each IsColour (inked_on t events x y) events
    (λ before e. map_each IsColour _ (paints_in t events before e x y)
    (map_in_range m w h (if m.showing then events else before))))
    (stood_in_range m w h x y good)

-- each colour on the screen is in range
pub screen_in_range : (m : Mending) (w h : ℕ) (events : List Event) → IsColour m.background
    → AllByRecursion IsColour (screen_on (mending_terminal m w h) events)
unfolding screen_on row_by_row
screen_in_range m w h events good =
    each_mapped IsColour _ (range_with_len 0 (w * h)) (λ i. shown_in_range m w h events _ _ good)
