-- The pen of foot's plain terminal, and the colours of foot's registers.
use Rattle.std.proofs.Common.{◌≡◌, ℕ, ◌<◌, ◌≤◌, ◌%◌, ◌==◌, Bool, true, false, cond, min, Option, Some, None}
use Rattle.std.proofs.Common.{List, [], ◌∷◌, ◌++◌, refl, sym, ap, subst, ◌∙◌, append_assoc, arith}
use Rattle.std.specs.Prelude.{is_some, nat_le, slice_index_or, unwrap_or, IfSome, IsSome}
use Rattle.std.specs.List.{AllByRecursion}
use Rattle.std.specs.Option.{option_and_then, option_map, option_map_or, option_or}
use Rattle.std.proofs.lemmas.Bool.{and_parts, leb-false, leb-true, not-false}
use Rattle.sixel_grammar.specs.declared.command.Command.TheVariants.{Define, Select}
use Rattle.sixel_grammar.specs.declared.command.Event.{Event}
use Rattle.sixel_grammar.specs.declared.command.Event.TheVariants.{Step}
use Rattle.sixel_model.specs.declared.colour.Parts.{Parts}
use Rattle.sixel_model.specs.declared.colour.Parts.TheVariants.{Rgb, Hls}
use Rattle.sixel_model.specs.declared.rule.Rule.TheVariants.{Uncovered}
use Rattle.sixel_model.specs.Colours.{clamped, is_colour}
use Rattle.sixel_model.specs.Events.{Definition, definition_where, select_of}
use Rattle.sixel_model.specs.Positions.{latest}
use Rattle.sixel_model.specs.Rules.{BreaksNone, breaks_colour_value, breaks_register, colour_by, colour_of}
use Rattle.sixel_model.specs.Rules.{definition_of, gives_colour}
use Rattle.sixel_model.proofs.LatestLemmas.{latest_same, latest_then}
use Rattle.sixel_model.proofs.PositionLemmas.{latest_push}
use Rattle.sixel_terminal.specs.Displays.{Display, registers_of}
use Rattle.sixel_terminal.specs.Drawing.{defined_on, map_on, selected_on}
use Rattle.sixel_foot.specs.Foot.{foot_colour, foot_gives, foot_register}
use Rattle.sixel_foot.specs.Settings.{foot_display}
use Rattle.sixel_emulator.specs.Words.{defining, nearest}
use Rattle.sixel_judge.proofs.ColourLemmas.{IsSound, definition_good, each_sound, given, made}

-- ---- the plain terminal

-- the pen is selected, and has this colour
pub record IsPen (t : Display) (drawing : List Event) (colour : Parts) : Type 0 where
  pub selected : selected_on t drawing ≡ 0
  pub colour_is : map_on t drawing 0 ≡ colour

selected_still : (background : Parts) (w h : ℕ) (drawing : List Event) (e : Event) → select_of e ≡ None
    → selected_on (foot_display background w h) (drawing ++ e ∷ []) ≡ selected_on (foot_display background w h) drawing
unfolding selected_on
selected_still background w h drawing e none =
    let same : latest select_of (drawing ++ e ∷ []) ≡ latest select_of drawing =
    latest_push select_of drawing e ∙ rw none refl in
    ap (λ (o : Option ℕ). option_map_or (λ r. r % registers_of (foot_display background w h)) o 1) same

selected_now : (background : Parts) (w h : ℕ) (drawing : List Event)
    → selected_on (foot_display background w h) (drawing ++ Step (Select 0) ∷ []) ≡ 0
unfolding selected_on
selected_now background w h drawing =
    ap (λ (o : Option ℕ). option_map_or (λ r. r % registers_of (foot_display background w h)) o 1)
    (latest_push select_of drawing (Step (Select 0)))

colour_still : (t : Display) (drawing : List Event) (e : Event) → defined_on t 0 e ≡ None
    → map_on t (drawing ++ e ∷ []) 0 ≡ map_on t drawing 0
unfolding map_on
colour_still t drawing e none =
    let same : latest (defined_on t 0) (drawing ++ e ∷ []) ≡ latest (defined_on t 0) drawing =
    latest_push (defined_on t 0) drawing e ∙ rw none refl in
    ap (λ (o : Option Parts). unwrap_or o (slice_index_or t.colours 0 (Rgb 0 0 0))) same

pen_defined : (background : Parts) (w h : ℕ) (c : Parts) → is_colour c ≡ true
    → defined_on (foot_display background w h) 0 (Step (defining 0 c)) ≡ Some c
pen_defined background w h (Rgb r g b) is = rw is refl
pen_defined background w h (Hls r g b) is = rw is refl

colour_now : (background : Parts) (w h : ℕ) (drawing : List Event) (c : Parts) → is_colour c ≡ true
    → map_on (foot_display background w h) (drawing ++ Step (defining 0 c) ∷ []) 0 ≡ c
unfolding map_on
colour_now background w h drawing c is =
    let t = foot_display background w h in
    ap (λ (o : Option Parts). unwrap_or o (slice_index_or t.colours 0 (Rgb 0 0 0)))
    (latest_push (defined_on t 0) drawing (Step (defining 0 c))
    ∙ ap (λ (o : Option Parts). option_or o (latest (defined_on t 0) drawing)) (pen_defined background w h c is))

-- a command that neither selects nor gives the pen a colour
pub pen_still : (background : Parts) (w h : ℕ) (drawing : List Event) (e : Event) (c : Parts) → select_of e ≡ None
    → defined_on (foot_display background w h) 0 e ≡ None → IsPen (foot_display background w h) drawing c
    → IsPen (foot_display background w h) (drawing ++ e ∷ []) c
pen_still background w h drawing e c none still p = record {
  selected = selected_still background w h drawing e none ∙ p.selected;
  colour_is = colour_still (foot_display background w h) drawing e still ∙ p.colour_is;
}

-- the pen with a colour
pub pen_anew : (background : Parts) (w h : ℕ) (drawing : List Event) (c : Parts) → is_colour c ≡ true
    → IsPen (foot_display background w h) (drawing ++ Step (defining 0 c) ∷ Step (Select 0) ∷ []) c
pen_anew background w h drawing c is =
    subst (λ (es : List Event). IsPen (foot_display background w h) es c)
    (append_assoc drawing (Step (defining 0 c) ∷ []) (Step (Select 0) ∷ []))
    (record {
      selected = selected_now background w h (drawing ++ Step (defining 0 c) ∷ []);
      colour_is =
          colour_still (foot_display background w h) (drawing ++ Step (defining 0 c) ∷ []) (Step (Select 0)) refl
          ∙ colour_now background w h drawing c is;
    })

-- ---- the colours of foot's registers

pub clamped_same : (c : Parts) → is_colour c ≡ true → clamped c ≡ c
clamped_same (Rgb r g b) h =
    let last = and_parts _ _ h in
    let first = and_parts _ _ last.0 in
    let red : r ≤ 100 = leb-true r 100 first.0 in
    let green : g ≤ 100 = leb-true g 100 first.1 in
    let blue : b ≤ 100 = leb-true b 100 last.1 in
    let one : min r 100 ≡ r = omega (arith, red) in
    let two : min g 100 ≡ g = omega (arith, green) in
    let three : min b 100 ≡ b = omega (arith, blue) in
    rw (one, two, three) refl
clamped_same (Hls r g b) h =
    let last = and_parts _ _ h in
    let first = and_parts _ _ last.0 in
    let hue : r ≤ 360 = leb-true r 360 first.0 in
    let lightness : g ≤ 100 = leb-true g 100 first.1 in
    let saturation : b ≤ 100 = leb-true b 100 last.1 in
    let one : min r 360 ≡ r = omega (arith, hue) in
    let two : min g 100 ≡ g = omega (arith, lightness) in
    let three : min b 100 ≡ b = omega (arith, saturation) in
    rw (one, two, three) refl

pub nearest_same : (d : Definition) → gives_colour d ≡ true → nearest d.system d.x d.y d.z ≡ colour_by d
nearest_same d h =
    let c = given (colour_by d) h in
    ap (option_map clamped) c.1 ∙ (ap (λ (p : Parts). Some p) (clamped_same c.0 c.2) ∙ sym c.1)

gives_if : (d : Definition) (b : Bool) → gives_colour d ≡ true
    → option_and_then (λ (d : Definition). nearest d.system d.x d.y d.z) (cond b (Some d) None)
    ≡ option_and_then colour_by (cond b (Some d) None)
gives_if d true h = nearest_same d h
gives_if d false h = refl

named_below : (n p : ℕ) → nat_le n p ≡ false → p < n
named_below n p h = leb-false n p h

-- a sound event gives a register the same colour on foot
gives_same : (n q : ℕ) → n ≤ 1024 → q < n → (e : Event) → IsSound n e
    → foot_gives (foot_register q) e ≡ option_and_then colour_by (definition_where (λ p. p == q) e)
unfolding breaks_colour_value breaks_register
gives_same n q few low (Step (Define p s x y z)) sound =
    let below : p < n = named_below n p sound.register in
    let named : min p 1023 ≡ p = omega (arith, few, below) in
    let asked : min q 1023 ≡ q = omega (arith, few, low) in
    rw (named, asked) (gives_if (made s x y z) (p == q) (not-false _ sound.colour))
gives_same n q few low _ sound = refl

some_given : (d : Definition) (b : Bool) → gives_colour d ≡ true
    → IfSome (cond b (Some d) None) (λ d. IsSome (colour_by d))
some_given d true h = ap is_some (given (colour_by d) h).1
some_given d false h = tt

gives_some : (n q : ℕ) (e : Event) → IsSound n e
    → IfSome (definition_where (λ p. p == q) e) (λ d. IsSome (colour_by d))
unfolding breaks_colour_value
gives_some n q (Step (Define p s x y z)) sound = some_given (made s x y z) (p == q) (not-false _ sound.colour)
gives_some n q _ sound = tt

pub each_then : {X : Type 0} (P Q : X → Type 0) (xs : List X) → ((x : X) → P x → Q x) → AllByRecursion P xs
    → AllByRecursion Q xs
each_then P Q [] more h = tt
each_then P Q (x ∷ xs) more h = (more x h.0, each_then P Q xs more h.1)

-- if no rule is broken, a register has its colour on foot
pub foot_colour_is : (n q : ℕ) (before : List Event) → n ≤ 1024 → q < n → BreaksNone n Uncovered before
    → foot_colour before (foot_register q) ≡ colour_of before q
unfolding colour_of definition_of
foot_colour_is n q before few low none =
    let sound : AllByRecursion (IsSound n) before = each_sound n before none in
    latest_same (foot_gives (foot_register q)) (λ e. option_and_then colour_by (definition_where (λ p. p == q) e))
    before
    (each_then (IsSound n) _ before (gives_same n q few low) sound)
    ∙ latest_then (definition_where (λ p. p == q)) colour_by before
    (each_then (IsSound n) _ before (gives_some n q) sound)

in_range : (o : Option Definition) (c : Parts) → IfSome o (λ d. gives_colour d ≡ true)
    → option_and_then colour_by o ≡ Some c → is_colour c ≡ true
in_range None c h is = cc
in_range (Some d) c h is = rw is at h

-- and that is in range
pub colour_in_range : (n q : ℕ) (before : List Event) (c : Parts) → BreaksNone n Uncovered before
    → colour_of before q ≡ Some c → is_colour c ≡ true
unfolding colour_of
colour_in_range n q before c none is = in_range (definition_of before q) c (definition_good n q before none) is
