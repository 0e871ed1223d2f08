-- What konsole makes of an event, if no rule is broken.
use Rattle.std.proofs.Common.{◌≡◌, ◌≢◌, ℕ, ◌<◌, ◌≤◌, ◌==◌, Bool, true, false, ◌&&◌, ◌||◌, not, max, Option, Some, None}
use Rattle.std.proofs.Common.{List, [], ◌∷◌, refl, sym, ap, ◌∙◌, arith}
use Rattle.std.specs.Prelude.{is_none, is_some, nat_le, nat_lt, if◌then◌else◌}
use Rattle.std.specs.Option.{option_map_or}
use Rattle.std.proofs.Math.Bool.{and-true}
use Rattle.std.proofs.lemmas.Bool.{and_parts, eqb-false, eqb-true, false_from_ne_true, leb-false, leb-true, ltb-true}
use Rattle.std.proofs.lemmas.Bool.{not-false}
use Rattle.sixel_grammar.specs.declared.command.Command.{Command}
use Rattle.sixel_grammar.specs.declared.command.Command.TheVariants.{Sixel, Repeat, Raster, Select, Define}
use Rattle.sixel_grammar.specs.declared.command.Command.TheVariants.{CarriageReturn, NextLine}
use Rattle.sixel_grammar.specs.declared.command.Event.{Event}
use Rattle.sixel_grammar.specs.declared.command.Event.TheVariants.{Start, Step, Finish}
use Rattle.sixel_model.specs.declared.colour.Parts.{Parts}
use Rattle.sixel_model.specs.declared.colour.Parts.TheVariants.{Rgb, Hls}
use Rattle.sixel_model.specs.Colours.{colour_in, is_colour}
use Rattle.sixel_model.specs.Events.{Attributes, is_return}
use Rattle.sixel_model.specs.Rules.{breaks_box_size, breaks_colour_value, breaks_ratio, breaks_register}
use Rattle.sixel_model.specs.Rules.{breaks_repeat_zero, colour_by, gives_colour}
use Rattle.sixel_model.proofs.RuleLemmas.{Keeps}
use Rattle.sixel_emulator.specs.declared.reading.Reads.{Reads}
use Rattle.sixel_emulator.specs.declared.reading.Reads.TheVariants.{Nothing, Draws, Unsaid}
use Rattle.sixel_konsole.specs.Konsole.{colour_and_select, counting, has_begun, is_above, is_dropped, is_stuck}
use Rattle.sixel_konsole.specs.Konsole.{is_whole}
use Rattle.sixel_konsole.specs.Konsole.{konsole, konsole_move, may_count, moves_or_ends}
use Rattle.sixel_emulator.specs.Readings.{drawn_by}
use Rattle.sixel_emulator.specs.Words.{defining, nearest}
use Rattle.sixel_judge.proofs.ColourLemmas.{given, made}
use Rattle.sixel_emulator_rules.specs.Asked.{breaks_dropped, breaks_past, breaks_raster_late, breaks_rows, is_droppable}
use Rattle.sixel_emulator_rules_laws.proofs.PenLemmas.{nearest_same}

-- the event breaks none of the rules that konsole asks for
pub record IsAsked (before : List Event) (e : Event) : Type 0 where
  pub raster_late : breaks_raster_late before e ≡ false
  pub dropped : breaks_dropped before e ≡ false
  pub rows : breaks_rows e ≡ false
  pub past : breaks_past before e ≡ false

-- what konsole draws in place of an event that it doesn't drop
abbrev pub plain : Event → List Event
plain (Start eight parameters) = []
plain (Step (Raster pan pad width height)) = []
plain (Step (Define register system x y z)) = Step (Define register system x y z) ∷ Step (Select register) ∷ []
plain (Step (Select register)) = Step (Select register) ∷ []
plain (Step (Sixel bits)) = Step (Sixel bits) ∷ []
plain (Step (Repeat count bits)) = Step (Repeat count bits) ∷ []
plain (Step CarriageReturn) = Step CarriageReturn ∷ []
plain (Step NextLine) = Step NextLine ∷ []
plain (Finish eight) = []

-- the event after drops it
abbrev pub drops : Option Event → Event → Bool
drops next e = moves_or_ends next && is_droppable e

-- ---- colours

above_by : (a b : Bool) (x y z : ℕ) → (a ≡ true → b ≡ false)
    → option_map_or is_colour (if a then Some (Hls x y z) else if b then Some (Rgb x y z) else None) false ≡ true
    → (b && (nat_lt 100 x || (nat_lt 100 y || nat_lt 100 z))) ≡ false
above_by a false x y z one h = refl
above_by true true x y z one h = let no : true ≡ false = one refl in cc
above_by false true x y z one h =
    let last = and_parts _ _ h in
    let first = and_parts _ _ last.0 in
    rw (low x first.0, low y first.1, low z last.1) refl
  where
    low : (n : ℕ) → nat_le n 100 ≡ true → nat_lt 100 n ≡ false
    low n le =
        let small : n ≤ 100 = leb-true n 100 le in
        false_from_ne_true (nat_lt 100 n) (λ h.
        let big : 100 < n = ltb-true 100 n h in absurd (omega (arith, small, big)))

not_above : (s x y z : ℕ) → gives_colour (made s x y z) ≡ true → is_above s x y z ≡ false
not_above s x y z h =
    above_by (s == 1) (s == 2) x y z (λ one. ap (λ (n : ℕ). n == 2) (eqb-true s 1 one)) h

defining_by : (r s x y z : ℕ) (c : Parts) (a b : Bool) → (a ≡ true → s ≡ 1) → (b ≡ true → s ≡ 2)
    → (if a then Some (Hls x y z) else if b then Some (Rgb x y z) else None) ≡ Some c
    → defining r c ≡ Define r s x y z
defining_by r s x y z c true b one two h =
    let same : c ≡ Hls x y z = cc in rw (same, one refl) refl
defining_by r s x y z c false true one two h =
    let same : c ≡ Rgb x y z = cc in rw (same, two refl) refl
defining_by r s x y z c false false one two h = cc

defining_is : (r s x y z : ℕ) (c : Parts) → colour_in s x y z ≡ Some c → defining r c ≡ Define r s x y z
defining_is r s x y z c h = defining_by r s x y z c (s == 1) (s == 2) (eqb-true s 1) (eqb-true s 2) h

good_colour : (n r s x y z : ℕ) (before : List Event) → Keeps n before (Step (Define r s x y z))
    → gives_colour (made s x y z) ≡ true
unfolding breaks_colour_value
good_colour n r s x y z before k = not-false _ k.colour_value

-- ---- what it draws

not_far : (n r : ℕ) → n ≤ 256 → r < n → nat_lt 255 r ≡ false
not_far n r few low =
    false_from_ne_true (nat_lt 255 r) (λ h.
    let big : 255 < r = ltb-true 255 r h in absurd (omega (arith, few, low, big)))

select_below : (n r : ℕ) (before : List Event) → Keeps n before (Step (Select r)) → r < n
unfolding breaks_register
select_below n r before k = leb-false n r k.register

define_below : (n r s x y z : ℕ) (before : List Event) → Keeps n before (Step (Define r s x y z)) → r < n
unfolding breaks_register
define_below n r s x y z before k = leb-false n r k.register

pub raster_draws : (stuck unsaid : Bool) → drawn_by (if stuck then Nothing else if unsaid then Unsaid else Nothing) ≡ []
raster_draws true unsaid = refl
raster_draws false true = refl
raster_draws false false = refl

select_draws : (dropped far : Bool) (c : Command) → dropped ≡ false → far ≡ false
    → drawn_by (if dropped || far then Nothing else Draws c) ≡ Step c ∷ []
select_draws true far c i j = cc
select_draws false true c i j = cc
select_draws false false c i j = refl

define_draws : (dropped far above : Bool) (reads : Reads) (drawn : List Event) → dropped ≡ false → far ≡ false
    → above ≡ false → drawn_by reads ≡ drawn
    → drawn_by (if dropped || far then Nothing else if above then Unsaid else reads) ≡ drawn
define_draws true far above reads drawn i j k is = cc
define_draws false true above reads drawn i j k is = cc
define_draws false false true reads drawn i j k is = cc
define_draws false false false reads drawn i j k is = is

not_dropped : (before : List Event) (next : Option Event) → (moves_or_ends next && true) ≡ false
    → is_stuck before ≡ false → is_dropped before next ≡ false
not_dropped before next free calm =
    let still : moves_or_ends next ≡ false = sym (and-true (moves_or_ends next)) ∙ free in rw (still, calm) refl

count_some : (n count bits : ℕ) (before : List Event) → Keeps n before (Step (Repeat count bits)) → count ≢ 0
unfolding breaks_repeat_zero
count_some n count bits before k = eqb-false count 0 k.repeat_zero

-- what konsole draws in place of an event, if it isn't dropped
pub drawn_plain : (n : ℕ) → n ≤ 256 → (before : List Event) (e : Event) (next : Option Event) → Keeps n before e
    → is_stuck before ≡ false → (is_return e ≡ true → has_begun before (Some e) ≡ true) → drops next e ≡ false
    → drawn_by (konsole before e next) ≡ plain e
drawn_plain n few before (Start eight parameters) next k calm begun free = refl
drawn_plain n few before (Finish eight) next k calm begun free = refl
drawn_plain n few before (Step (Raster pan pad w h)) next k calm begun free = raster_draws (is_stuck before) _
drawn_plain n few before (Step (Define r s x y z)) next k calm begun free =
    let good : gives_colour (made s x y z) ≡ true = good_colour n r s x y z before k in
    let c = given (colour_by (made s x y z)) good in
    let near : nearest s x y z ≡ Some c.0 = nearest_same (made s x y z) good ∙ c.1 in
    define_draws (is_dropped before next) (nat_lt 255 r) (is_above s x y z) (colour_and_select r (nearest s x y z)) _
    (not_dropped before next free calm) (not_far n r few (define_below n r s x y z before k)) (not_above s x y z good)
    (ap (λ (o : Option Parts). drawn_by (colour_and_select r o)) near
    ∙ ap (λ (d : Command). Step d ∷ Step (Select r) ∷ []) (defining_is r s x y z c.0 c.1))
drawn_plain n few before (Step (Select r)) next k calm begun free =
    select_draws (is_dropped before next) (nat_lt 255 r) (Select r) (not_dropped before next free calm)
    (not_far n r few (select_below n r before k))
drawn_plain n few before (Step (Sixel bits)) next k calm begun free = rw calm refl
drawn_plain n few before (Step (Repeat count bits)) next k calm begun free =
    let some : count ≢ 0 = count_some n count bits before k in
    let same : max 1 count ≡ count = omega (arith, some) in
    rw (calm, same) refl
drawn_plain n few before (Step CarriageReturn) next k calm begun free = rw (begun refl) refl
drawn_plain n few before (Step NextLine) next k calm begun free = rw (begun refl) refl

-- ---- the rule says what konsole does

raster_says : (stuck zero counts whole : Bool) → zero ≡ false → whole ≡ true
    → (if stuck then Nothing else if zero || (counts && not whole) then Unsaid else Nothing) ≡ Unsaid → ⊥
raster_says true zero counts whole z w is = cc
raster_says false true counts whole z w is = cc
raster_says false false true true z w is = cc
raster_says false false true false z w is = cc
raster_says false false false whole z w is = cc

define_says : (dropped above : Bool) (r : ℕ) (o : Option Parts) → above ≡ false
    → (if dropped then Nothing else if above then Unsaid else colour_and_select r o) ≡ Unsaid → ⊥
define_says true above r o low is = cc
define_says false true r o low is = cc
define_says false false r None low is = cc
define_says false false r (Some c) low is = cc

draws_says : (b : Bool) (c : Command) → (if b then Nothing else Draws c) ≡ Unsaid → ⊥
draws_says true c is = cc
draws_says false c is = cc

moves_says : (b : Bool) (c : Command) → konsole_move b c ≡ Unsaid → ⊥
moves_says true c is = cc
moves_says false c is = cc

-- the attributes of raster attributes that keep the rules
pub record IsBox (a : Attributes) : Type 0 where
  pub pan : a.pan ≡ 1
  pub pad : a.pad ≡ 1
  pub wide : 1 ≤ a.width
  pub high : 1 ≤ a.height
  pub narrow : a.width ≤ 2048
  pub low : a.height ≤ 2048

pub box_of_raster : (n pan pad w h : ℕ) (before : List Event) → Keeps n before (Step (Raster pan pad w h))
    → IsBox (record { pan = pan; pad = pad; width = w; height = h })
unfolding breaks_box_size breaks_ratio
box_of_raster n pan pad w h before k =
    let square = and_parts _ _ (not-false _ k.ratio) in
    let sides = and_parts _ _ (not-false _ k.box_size) in
    let across = and_parts _ _ sides.0 in
    let down = and_parts _ _ sides.1 in
    record {
      pan = eqb-true pan 1 square.0;
      pad = eqb-true pad 1 square.1;
      wide = leb-true 1 w across.0;
      high = leb-true 1 h down.0;
      narrow = leb-true w 2048 across.1;
      low = leb-true h 2048 down.1;
    }

whole_square : (a : Attributes) → a.pan ≡ 1 → a.pad ≡ 1 → is_whole a ≡ true
whole_square a one two = rw (one, two) refl

pub not_zero : (n : ℕ) → 1 ≤ n → (n == 0) ≡ false
not_zero n some =
    false_from_ne_true (n == 0) (λ h. let none : n ≡ 0 = eqb-true n 0 h in absurd (omega (arith, some, none)))

pub says : (n : ℕ) (before : List Event) (e : Event) (next : Option Event) → Keeps n before e
    → konsole before e next ≡ Unsaid → ⊥
says n before (Step (Raster pan pad w h)) next k is =
    let box : IsBox (record { pan = pan; pad = pad; width = w; height = h }) = box_of_raster n pan pad w h before k in
    raster_says (is_stuck before) (h == 0)
    (is_some (may_count before (Step (Raster pan pad w h)) next)
    && is_none (counting before (Some (Step (Raster pan pad w h)))))
    (is_whole (record { pan = pan; pad = pad; width = w; height = h })) (not_zero h box.high)
    (whole_square (record { pan = pan; pad = pad; width = w; height = h }) box.pan box.pad) is
says n before (Step (Define r s x y z)) next k is =
    define_says (is_dropped before next || nat_lt 255 r) (is_above s x y z) r (nearest s x y z)
    (not_above s x y z (good_colour n r s x y z before k)) is
says n before (Step (Select r)) next k is = draws_says (is_dropped before next || nat_lt 255 r) (Select r) is
says n before (Step (Sixel bits)) next k is = draws_says (is_stuck before) (Sixel bits) is
says n before (Step (Repeat count bits)) next k is = draws_says (is_stuck before) (Repeat (max 1 count) bits) is
says n before (Step CarriageReturn) next k is = moves_says (has_begun before (Some (Step CarriageReturn))) _ is
says n before (Step NextLine) next k is = moves_says (has_begun before (Some (Step NextLine))) _ is
says n before (Start eight parameters) next k is = cc
says n before (Finish eight) next k is = cc
