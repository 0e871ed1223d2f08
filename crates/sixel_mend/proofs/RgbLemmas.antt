-- Without a definition in HLS, nothing is painted in an HLS colour.
use Rattle.std.proofs.Common.{◌≡◌, ◌==◌, ◌||◌, ◌%◌, ◌*◌, ◌∷◌, [], ℕ, zero, suc, Bool, false, true, IfSome, List, None}
use Rattle.std.proofs.Common.{Option, Some, get_or, length, map, refl, take}
use Rattle.std.specs.Prelude.{slice_get, unwrap_or, if◌then◌else◌}
use Rattle.std.specs.List.{AllByRecursion, list_any, range_with_len}
use Rattle.std.specs.Option.{option_and_then, option_map, option_or}
use Rattle.sixel_grammar.specs.declared.command.Command.TheVariants.{Define}
use Rattle.sixel_grammar.specs.declared.command.Event.{Event}
use Rattle.sixel_grammar.specs.declared.command.Event.TheVariants.{Step}
use Rattle.sixel_model.specs.declared.colour.Parts.{Parts}
use Rattle.sixel_model.specs.declared.colour.Parts.TheVariants.{Hls, Rgb}
use Rattle.sixel_model.specs.Colours.{clamped, is_colour, is_entry, is_same}
use Rattle.sixel_model.specs.Grids.{row_by_row}
use Rattle.sixel_model.specs.Positions.{at_position, last_at, last_below, latest}
use Rattle.sixel_model.proofs.KnownLemmas.{latest_each}
use Rattle.sixel_terminal.specs.Drawing.{defined_on, given_on, inked_on, map_on, paints_in, taken_on}
use Rattle.sixel_terminal.specs.Starts.{vt340_colours}
use Rattle.sixel_mend.specs.declared.mending.Mending.{Mending}
use Rattle.sixel_mend.specs.Marking.{is_hls}
use Rattle.sixel_mend.specs.Measures.{defines_hls}
use Rattle.sixel_mend.specs.Painted.{painted_at, painted_colours}
use Rattle.sixel_mend.specs.Screens.{mending_terminal, starting_colour, starting_colours}

-- it isn't an HLS colour
abbrev IsRgb : Parts → Type 0
IsRgb c = is_hls c ≡ false

-- ---- tests that nothing passes

pub or_parts : (a b : Bool) → (a || b) ≡ false → (a ≡ false) × (b ≡ false)
or_parts true b h = cc
or_parts false b h = (refl, h)

none_taken : {X : Type 0} (p : X → Bool) (xs : List X) (i : ℕ) → list_any p xs ≡ false
    → list_any p (take i xs) ≡ false
none_taken p [] zero h = refl
none_taken p [] (suc i) h = refl
none_taken p (x ∷ xs) zero h = refl
none_taken p (x ∷ xs) (suc i) h =
    let both = or_parts (p x) (list_any p xs) h in rw (both.0, none_taken p xs i both.1) refl

none_mapped : {X Y : Type 0} (p : Y → Bool) (f : X → Y) (xs : List X) → ((x : X) → p (f x) ≡ false)
    → list_any p (map f xs) ≡ false
none_mapped p f [] h = refl
none_mapped p f (x ∷ xs) h = rw (h x, none_mapped p f xs h) refl

-- ---- the colours of the registers

get_rgb : (xs : List Parts) (i : ℕ) → list_any is_hls xs ≡ false → IsRgb (get_or xs i (Rgb 0 0 0))
get_rgb [] i h = refl
get_rgb (x ∷ xs) zero h = (or_parts (is_hls x) (list_any is_hls xs) h).0
get_rgb (x ∷ xs) (suc i) h = get_rgb xs i (or_parts (is_hls x) (list_any is_hls xs) h).1

start_rgb : (register : ℕ) → IsRgb (get_or starting_colours register (Rgb 0 0 0))
unfolding starting_colours
start_rgb register =
    get_rgb (map starting_colour (range_with_len 0 256)) register
    (none_mapped is_hls starting_colour (range_with_len 0 256) (λ r. get_rgb vt340_colours (r % 16) refl))

clamped_rgb : (c : Parts) → IsRgb c → IsRgb (clamped c)
clamped_rgb (Rgb red green blue) h = refl
clamped_rgb (Hls hue lightness saturation) h = h

taken_rgb : (m : Mending) (w h : ℕ) (c : Parts) → IsRgb c → IfSome (taken_on (mending_terminal m w h) c) IsRgb
taken_rgb m w h c rgb = by (is_colour c)
  where
    by : (b : Bool) → IfSome (if b then Some c else Some (clamped c)) IsRgb
    by true = rgb
    by false = clamped_rgb c rgb

-- the colour of a definition in another system
given_rgb : (m : Mending) (w h x y z : ℕ) (one two : Bool) → one ≡ false
    → IfSome (option_and_then (taken_on (mending_terminal m w h))
    (if one then Some (Hls x y z) else if two then Some (Rgb x y z) else None)) IsRgb
given_rgb m w h x y z true two other = cc
given_rgb m w h x y z false true other = taken_rgb m w h (Rgb x y z) refl
given_rgb m w h x y z false false other = tt

defined_rgb : (m : Mending) (w h register : ℕ) (e : Event) → defines_hls e ≡ false
    → IfSome (defined_on (mending_terminal m w h) register e) IsRgb
defined_rgb m w h register (Step (Define r system x y z)) other = by ((r % length starting_colours) == register)
  where
    by : (b : Bool)
        → IfSome (option_and_then (given_on (mending_terminal m w h))
        (if b then Some (record { system = system; x = x; y = y; z = z }) else None)) IsRgb
    by true = given_rgb m w h x y z (system == 1) (system == 2) other
    by false = tt
defined_rgb m w h register _ other = tt

each_defined : (m : Mending) (w h register : ℕ) (events : List Event) → list_any defines_hls events ≡ false
    → AllByRecursion (λ e. IfSome (defined_on (mending_terminal m w h) register e) IsRgb) events
each_defined m w h register [] none = tt
each_defined m w h register (e ∷ events) none =
    let both = or_parts (defines_hls e) (list_any defines_hls events) none in
    (defined_rgb m w h register e both.0, each_defined m w h register events both.1)

unwrap_either : {A : Type 0} (P : A → Type 0) (o : Option A) (d : A) → IfSome o P → P d → P (unwrap_or o d)
unwrap_either P None d h k = k
unwrap_either P (Some a) d h k = h

map_rgb : (m : Mending) (w h : ℕ) (events : List Event) (register : ℕ) → list_any defines_hls events ≡ false
    → IsRgb (map_on (mending_terminal m w h) events register)
unfolding map_on
map_rgb m w h events register none =
    let t = mending_terminal m w h in
    unwrap_either IsRgb (latest (defined_on t register) events) (get_or starting_colours register (Rgb 0 0 0))
    (latest_each (defined_on t register) IsRgb events (each_defined m w h register events none)) (start_rgb register)

-- ---- the last painting

or_each : {A : Type 0} (P : A → Type 0) (o more : Option A) → IfSome o P → IfSome more P → IfSome (option_or o more) P
or_each P None more h k = k
or_each P (Some a) more h k = h

below_each : {A : Type 0} (P : A → Type 0) (n : ℕ) (f : ℕ → Option A) → ((i : ℕ) → IfSome (f i) P)
    → IfSome (last_below n f) P
unfolding last_below
below_each P zero f h = tt
below_each P (suc n) f h = or_each P (f n) (last_below n f) (h n) (below_each P n f h)

then_each : {A B : Type 0} (P : B → Type 0) (f : A → Option B) (o : Option A) → ((a : A) → IfSome (f a) P)
    → IfSome (option_and_then f o) P
then_each P f None h = tt
then_each P f (Some a) h = h a

last_each : {X A : Type 0} (P : A → Type 0) (f : List X → X → Option A) (xs : List X)
    → ((i : ℕ) (x : X) → IfSome (f (take i xs) x) P) → IfSome (last_at f xs) P
unfolding last_at at_position
last_each P f xs h =
    below_each P (length xs) (at_position f xs) (λ i. then_each P (f (take i xs)) (slice_get xs i) (h i))

map_each : {A B : Type 0} (P : B → Type 0) (f : A → B) (o : Option A) → ((a : A) → P (f a)) → IfSome (option_map f o) P
map_each P f None h = tt
map_each P f (Some a) h = h a

none_known : (showing : Bool) (events : List Event) (i : ℕ) → list_any defines_hls events ≡ false
    → list_any defines_hls (if showing then events else take i events) ≡ false
none_known true events i none = none
none_known false events i none = none_taken defines_hls events i none

painted_rgb : (m : Mending) (events : List Event) (w h x y : ℕ) → list_any defines_hls events ≡ false
    → IfSome (painted_at m events w h x y) IsRgb
painted_rgb m events w h x y none =
    let t = mending_terminal m w h in
    last_each IsRgb (inked_on t events x y) events
    (λ i e.
    map_each IsRgb (map_on t (if m.showing then events else take i events)) (paints_in t events (take i events) e x y)
    (λ register. map_rgb m w h (if m.showing then events else take i events) register
    (none_known m.showing events i none)))

-- ---- a mark in HLS

other_system : (mark c : Parts) → is_hls mark ≡ true → IsRgb c → is_same mark c ≡ false
other_system (Rgb red green blue) c h rgb = cc
other_system (Hls hue lightness saturation) (Rgb r g b) h rgb = refl
other_system (Hls hue lightness saturation) (Hls r g b) h rgb = cc

no_entry : (mark : Parts) (o : Option Parts) → is_hls mark ≡ true → IfSome o IsRgb → is_entry mark o ≡ false
no_entry mark None h rgb = refl
no_entry mark (Some c) h rgb = other_system mark c h rgb

-- no pixel is painted in it
pub none_in_hls : (mark : Parts) (m : Mending) (events : List Event) (w h : ℕ) → is_hls mark ≡ true
    → list_any defines_hls events ≡ false → list_any (is_entry mark) (painted_colours m events w h) ≡ false
unfolding painted_colours row_by_row
none_in_hls mark m events w h hls none =
    none_mapped (is_entry mark) _ (range_with_len 0 (w * h))
    (λ i. no_entry mark _ hls (painted_rgb m events w h _ _ none))
