-- On the colours that definitions give on terminals, if no rule is broken.
use Rattle.std.proofs.Common.{◌≡◌, ◌<◌, ◌≤◌, ℕ, Bool, true, false, cond, Option, Some, None, List, [], ◌∷◌, take, refl}
use Rattle.std.proofs.Common.{ap, arith}
use Rattle.std.specs.Prelude.{◌==◌, is_some, nat_le, unwrap_or, IfSome, IsFalse, IsSome}
use Rattle.std.specs.List.{AllByRecursion}
use Rattle.std.specs.Option.{option_and_then, option_map_or}
use Rattle.std.proofs.lemmas.Bool.{leb-false, not-false}
use Rattle.std.proofs.Math.Nat.{mod-eq_of_lt}
use Rattle.sixel_grammar.specs.declared.command.Command.TheVariants.{Define}
use Rattle.sixel_grammar.specs.declared.command.Event.{Event}
use Rattle.sixel_grammar.specs.declared.command.Event.TheVariants.{Step}
use Rattle.sixel_model.specs.Events.{Definition, definition_where, named_by}
use Rattle.sixel_model.specs.Positions.{latest}
use Rattle.sixel_model.specs.declared.colour.Parts.{Parts}
use Rattle.sixel_model.specs.Colours.{is_colour}
use Rattle.sixel_model.specs.Rules.{BreaksNone, breaks_colour_value, breaks_register, colour_by, colour_of}
use Rattle.sixel_model.specs.Rules.{definition_of, gives_colour, known}
use Rattle.sixel_model.proofs.KnownLemmas.{each_before, each_there, known_is, latest_each}
use Rattle.sixel_model.proofs.LatestLemmas.{Gives, each_from_positions, latest_gives, latest_same, latest_then}
use Rattle.sixel_model.proofs.RuleLemmas.{Keeps, keeps_at}
use Rattle.sixel_model.specs.declared.rule.Rule.TheVariants.{Uncovered}
use Rattle.sixel_terminal.specs.Displays.{Display, registers_of}
use Rattle.sixel_terminal.specs.Drawing.{defined_on, given_on, map_on}

-- an optional colour in range is a colour
pub given : (o : Option Parts) → option_map_or is_colour o false ≡ true
    → (c : Parts) × (o ≡ Some c) × (is_colour c ≡ true)
given None h = cc
given (Some c) h = (c, refl, h)

-- the register that the event names is below n, and its definition gives a colour in range
pub record IsSound (n : ℕ) (e : Event) : Type 0 where
  pub register : IsFalse (breaks_register n e)
  pub colour : IsFalse (breaks_colour_value e)

pub each_sound : (n : ℕ) (events : List Event) → BreaksNone n Uncovered events → AllByRecursion (IsSound n) events
each_sound n events none = each_from_positions (IsSound n) events (λ j e here.
    let k : Keeps n (take j events) e = keeps_at n events none j e here in
    record { register = k.register; colour = k.colour_value })

below_count : (n : ℕ) (e : Event) → IsFalse (breaks_register n e) → IfSome (named_by e) (λ r. r < n)
unfolding breaks_register
below_count n e h = split (named_by e) h
  where
    split : (o : Option ℕ) → option_map_or (λ r. nat_le n r) o false ≡ false → IfSome o (λ r. r < n)
    split None h = tt
    split (Some r) h = leb-false n r h

-- a known register was named, so it is below n
pub known_in_range : (n r i : ℕ) (events : List Event) → BreaksNone n Uncovered events
    → known (take i events) ≡ Some r → r < n
known_in_range n r i events none k =
    let before : List Event = take i events in
    let g : Gives named_by before r = latest_gives named_by before r (known_is before r k).named in
    let sound : IsSound n g.item
    = each_there (IsSound n) g.at before g.item (each_before (IsSound n) i events (each_sound n events none)) g.here in
    let low : IfSome (named_by g.item) (λ r. r < n) = below_count n g.item sound.register in
    rw g.gives at low

-- a definition in range gives the same colour on each terminal
given_same : (t : Display) (d : Definition) → gives_colour d ≡ true → given_on t d ≡ colour_by d
given_same t d h =
    let c = given (colour_by d) h in rw (c.1, c.2) refl

some_given : (d : Definition) → gives_colour d ≡ true → IsSome (colour_by d)
some_given d h = ap is_some (given (colour_by d) h).1

abbrev pub made : ℕ → ℕ → ℕ → ℕ → Definition
made s x y z = record { system = s; x = x; y = y; z = z }

define_if : (t : Display) (d : Definition) (b : Bool) → gives_colour d ≡ true
    → option_and_then (given_on t) (cond b (Some d) None) ≡ option_and_then colour_by (cond b (Some d) None)
define_if t d true h = given_same t d h
define_if t d false h = refl

-- on a terminal with enough registers a sound event defines the register that it names, and gives the same colour
define_same : (t : Display) (n r : ℕ) → n ≤ registers_of t → (e : Event) → IsSound n e
    → defined_on t r e ≡ option_and_then colour_by (definition_where (λ q. q == r) e)
unfolding breaks_colour_value
define_same t n r enough (Step (Define q s x y z)) sound =
    let below : q < n = below_count n (Step (Define q s x y z)) sound.register in
    let small : q < registers_of t = omega arith in
    rw (mod-eq_of_lt small) (define_if t (made s x y z) (q == r) (not-false _ sound.colour))
define_same t n r enough _ sound = refl

some_if : (d : Definition) (b : Bool) → gives_colour d ≡ true
    → IfSome (cond b (Some d) None) (λ d. IsSome (colour_by d))
some_if d true h = some_given d h
some_if d false h = tt

-- a definition in a sound event gives a colour
define_some : (n r : ℕ) (e : Event) → IsSound n e
    → IfSome (definition_where (λ q. q == r) e) (λ d. IsSome (colour_by d))
unfolding breaks_colour_value
define_some n r (Step (Define q s x y z)) sound = some_if (made s x y z) (q == r) (not-false _ sound.colour)
define_some n r _ sound = tt

good_if : (d : Definition) (b : Bool) → gives_colour d ≡ true
    → IfSome (cond b (Some d) None) (λ d. gives_colour d ≡ true)
good_if d true h = h
good_if d false h = tt

-- the definition in a sound event gives a colour in range
define_good : (n r : ℕ) (e : Event) → IsSound n e
    → IfSome (definition_where (λ q. q == r) e) (λ d. gives_colour d ≡ true)
unfolding breaks_colour_value
define_good n r (Step (Define q s x y z)) sound = good_if (made s x y z) (q == r) (not-false _ sound.colour)
define_good n r _ sound = tt

each_then : {X : Type 0} (P Q : X → Type 0) (xs : List X) → ((x : X) → P x → Q x) → AllByRecursion P xs
    → AllByRecursion Q xs
each_then P Q [] more h = tt
each_then P Q (x ∷ xs) more h = (more x h.0, each_then P Q xs more h.1)

some_unwrap : {A : Type 0} (o : Option A) (x : A) → IsSome o → o ≡ Some (unwrap_or o x)
some_unwrap None x h = cc
some_unwrap (Some y) x h = refl

then_some_of : {A B : Type 0} (g : A → Option B) (o : Option A) (d : A) → o ≡ Some d → IfSome o (λ a. IsSome (g a))
    → IsSome (option_and_then g o)
then_some_of g None d h k = cc
then_some_of g (Some a) d h k = k

-- on each terminal with enough registers a defined register has the colour of its last definition
pub map_defined : (t : Display) (n r : ℕ) (before : List Event) (d : Definition) → n ≤ registers_of t
    → AllByRecursion (IsSound n) before → definition_of before r ≡ Some d
    → colour_of before r ≡ Some (map_on t before r)
unfolding map_on colour_of definition_of
map_defined t n r before d enough sound defined =
    let gives = λ (e : Event). option_and_then colour_by (definition_where (λ q. q == r) e) in
    let each = each_then (IsSound n) _ before (define_some n r) sound in
    let same : latest (defined_on t r) before ≡ latest gives before
    = latest_same (defined_on t r) gives before (each_then (IsSound n) _ before (define_same t n r enough) sound) in
    let both : latest gives before ≡ option_and_then colour_by (latest (definition_where (λ q. q == r)) before)
    = latest_then (definition_where (λ q. q == r)) colour_by before each in
    let there : IsSome (option_and_then colour_by (latest (definition_where (λ q. q == r)) before))
    = then_some_of colour_by _ d defined
    (latest_each (definition_where (λ q. q == r)) (λ d. IsSome (colour_by d)) before each) in
    rw (same, both) (some_unwrap _ _ there)

-- the last definition of a register gives a colour in range
pub definition_good : (n r : ℕ) (events : List Event) → BreaksNone n Uncovered events
    → IfSome (definition_of events r) (λ d. gives_colour d ≡ true)
unfolding definition_of
definition_good n r events none =
    latest_each (definition_where (λ q. q == r)) (λ d. gives_colour d ≡ true) events
    (each_then (IsSound n) _ events (define_good n r) (each_sound n events none))
