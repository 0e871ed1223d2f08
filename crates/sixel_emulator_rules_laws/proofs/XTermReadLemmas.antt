-- What xterm makes of an event that breaks no rule.
use Rattle.std.proofs.Common.{◌≡◌, ℕ, ◌%◌, ◌≤◌, ◌<◌, Bool, true, false, ◌&&◌, ◌||◌, ◌==◌, None, List, []}
use Rattle.std.proofs.Common.{◌∷◌, ap, refl, arith}
use Rattle.std.specs.Prelude.{nat_le, nat_lt, slice_index_or, IsFalse, if◌then◌else◌}
use Rattle.std.proofs.Math.Nat.{mod-eq_of_lt}
use Rattle.std.proofs.lemmas.Bool.{and_parts, eqb-true, leb-false, leb-true, not-false}
use Rattle.std.proofs.lemmas.Bool.{or_parts}
use Rattle.sixel_grammar.specs.declared.command.Command.{Command}
use Rattle.sixel_grammar.specs.declared.command.Command.TheVariants.{Sixel, Repeat, Raster, Select, Define}
use Rattle.sixel_grammar.specs.declared.command.Command.TheVariants.{CarriageReturn, NextLine}
use Rattle.sixel_grammar.specs.declared.command.Event.{Event}
use Rattle.sixel_grammar.specs.declared.command.Event.TheVariants.{Start, Step, Finish}
use Rattle.sixel_model.specs.Rules.{breaks_colour_value, breaks_register, breaks_repeat_zero, gives_colour}
use Rattle.sixel_model.proofs.RuleLemmas.{Keeps, is_false}
use Rattle.sixel_named_terminals.specs.declared.named.Named.TheVariants.{XTerm}
use Rattle.sixel_model.specs.Rules.{raster_before}
use Rattle.sixel_xterm.specs.declared.pen.Pen.{Pen}
use Rattle.sixel_xterm.specs.XTerm.{fills_xterm, xterm, xterm_box, xterm_data, xterm_define, xterm_introducer}
use Rattle.sixel_xterm.specs.XTerm.{xterm_painting, xterm_pen, xterm_reads}
use Rattle.sixel_judge.proofs.ColourLemmas.{made}
use Rattle.sixel_emulator_rules.specs.Asked.{breaks_hue, breaks_introducer, breaks_large}
use Rattle.sixel_emulator_rules_laws.proofs.AskedForms.{BreaksFor}
use Rattle.sixel_emulator_rules_laws.proofs.FallLemmas.{repeat_cell, sixel_cell}
use Rattle.sixel_emulator_rules_laws.proofs.KeptLemmas.{IsGoodBox, count_some, good_box, not_above, not_zero}
use Rattle.sixel_emulator_rules_laws.proofs.ReadingLemmas.{IsRead}
use Rattle.sixel_emulator_rules_laws.proofs.XTermRoomLemmas.{IsRoomy, painted_whole}
use Rattle.sixel_emulator_rules_laws.proofs.XTermSidesLemmas.{IsSided, at_most}

-- what xterm draws in place of a data command: the box, if it fills it, and the command
abbrev pub data_draws : List Event → Command → List Event
data_draws before command =
    if fills_xterm before then Step (xterm_box before) ∷ Step command ∷ [] else Step command ∷ []

-- in place of other commands it draws those themselves, but for raster attributes
abbrev pub xterm_draws : List Event → Event → List Event
xterm_draws before (Step (Sixel bits)) = data_draws before (Sixel bits)
xterm_draws before (Step (Repeat count bits)) = data_draws before (Repeat count bits)
xterm_draws before (Step (Raster pan pad width height)) = []
xterm_draws before (Step command) = Step command ∷ []
xterm_draws before (Start eight parameters) = []
xterm_draws before (Finish eight) = []

-- ---- commands

raster_read : (n : ℕ) (before : List Event) (pan pad width height : ℕ)
    → Keeps n before (Step (Raster pan pad width height)) → IsFalse (breaks_large (Step (Raster pan pad width height)))
    → IsRead (xterm_reads before (Step (Raster pan pad width height))) []
unfolding breaks_large
raster_read n before pan pad width height k small =
    let good : IsGoodBox pan pad width height = good_box n before pan pad width height k in
    let sides = or_parts (nat_lt 1000 width) (nat_lt 996 height) small in
    let low : height ≤ 996 = at_most 996 height sides.1 in
    let short : nat_lt 1000 height ≡ false = not_above 1000 height (omega (arith, low)) in
    rw (good.pan_is, good.pad_is, sides.0, short, not_zero width good.wide, not_zero height good.high)
    (record { goes_on = refl; drawn_is = refl })

-- in range, of a register below 256
rgb_read : (r x y z : ℕ) → r < 256 → (nat_le x 100 && nat_le y 100 && nat_le z 100) ≡ true
    → IsRead (xterm_define r (made 2 x y z)) (Step (Define r 2 x y z) ∷ [])
rgb_read r x y z low good =
    let last = and_parts _ _ good in
    let first = and_parts _ _ last.0 in
    let red : x ≤ 100 = leb-true x 100 first.0 in
    let green : y ≤ 100 = leb-true y 100 first.1 in
    let blue : z ≤ 100 = leb-true z 100 last.1 in
    let same : r % 1024 ≡ r = mod-eq_of_lt (omega (arith, low)) in
    rw (
      not_above 32767 r (omega (arith, low)),
      not_above 32767 x (omega (arith, red)),
      not_above 32767 y (omega (arith, green)),
      not_above 32767 z (omega (arith, blue)),
      first.0,
      first.1,
      last.1,
      same,
    ) (record { goes_on = refl; drawn_is = refl })

define_by : (r s x y z : ℕ) (two : Bool) → (s == 2) ≡ two → r < 256 → (s == 1) ≡ false
    → gives_colour (made s x y z) ≡ true → IsRead (xterm_define r (made s x y z)) (Step (Define r s x y z) ∷ [])
define_by r s x y z true is low hue gives =
    let second : s ≡ 2 = eqb-true s 2 is in
    let good : (nat_le x 100 && nat_le y 100 && nat_le z 100) ≡ true = rw second at gives in
    rw second (rgb_read r x y z low good)
define_by r s x y z false is low hue gives = let no : false ≡ true = rw (hue, is) at gives in cc

below : (n r : ℕ) → n ≤ 256 → nat_le n r ≡ false → r < 256
below n r few low = let lt : r < n = leb-false n r low in omega (arith, lt, few)

define_read : (n : ℕ) (before : List Event) (r s x y z : ℕ) → n ≤ 256 → Keeps n before (Step (Define r s x y z))
    → IsFalse (breaks_hue (Step (Define r s x y z)))
    → IsRead (xterm_reads before (Step (Define r s x y z))) (Step (Define r s x y z) ∷ [])
unfolding breaks_colour_value breaks_register breaks_hue
define_read n before r s x y z few k hue =
    define_by r s x y z (s == 2) refl (below n r few k.register) hue (not-false _ k.colour_value)

select_read : (n : ℕ) (before : List Event) (r : ℕ) → n ≤ 256 → Keeps n before (Step (Select r))
    → IsRead (xterm_reads before (Step (Select r))) (Step (Select r) ∷ [])
unfolding breaks_register
select_read n before r few k =
    let low : r < 256 = below n r few k.register in
    let same : r % 1024 ≡ r = mod-eq_of_lt (omega (arith, low)) in
    rw (not_above 32767 r (omega (arith, low)), same) (record { goes_on = refl; drawn_is = refl })

data_by : (before : List Event) (c : Command) (count bits : ℕ) (fills : Bool) → fills_xterm before ≡ fills
    → (count == 0) ≡ false → (xterm_pen before).returned ≡ false → xterm_painting before c count bits ≡ c
    → IsRead (xterm_data before c count bits) (data_draws before c)
data_by before c count bits true is some here whole =
    rw (some, is, whole) (record { goes_on = refl; drawn_is = refl })
data_by before c count bits false is some here whole =
    rw (some, is, here, whole) (record { goes_on = refl; drawn_is = refl })

-- ---- all events

introducer_read : (before : List Event) (eight : Bool) (parameters : List ℕ) → nat_lt 9 (slice_index_or parameters 0 0) ≡ false
    → IsRead (xterm_introducer parameters) []
introducer_read before eight parameters low = rw low (record { goes_on = refl; drawn_is = refl })

by_kind : (n : ℕ) (before : List Event) (e : Event) → n ≤ 256 → Keeps n before e → IsSided before (raster_before before)
    → IsRoomy before → IsFalse (breaks_large e) → IsFalse (breaks_hue e) → IsFalse (breaks_introducer e)
    → IsRead (xterm_reads before e) (xterm_draws before e)
unfolding breaks_repeat_zero breaks_introducer
by_kind n before (Start eight parameters) few k s room small hue starts =
    introducer_read before eight parameters.items (or_parts _ _ starts).0
by_kind n before (Step (Raster pan pad w h)) few k s room small hue starts = raster_read n before pan pad w h k small
by_kind n before (Step (Define r t x y z)) few k s room small hue starts = define_read n before r t x y z few k hue
by_kind n before (Step (Select r)) few k s room small hue starts = select_read n before r few k
by_kind n before (Step (Sixel bits)) few k s room small hue starts =
    data_by before (Sixel bits) 1 bits _ refl refl (ap (λ (p : Pen). p.returned) room)
    (painted_whole n before (Sixel bits) 1 bits k s room (sixel_cell bits))
by_kind n before (Step (Repeat count bits)) few k s room small hue starts =
    data_by before (Repeat count bits) count bits _ refl k.repeat_zero (ap (λ (p : Pen). p.returned) room)
    (painted_whole n before (Repeat count bits) count bits k s room
    (repeat_cell count bits (count_some n count bits before k)))
by_kind n before (Step CarriageReturn) few k s room small hue starts = record { goes_on = refl; drawn_is = refl }
by_kind n before (Step NextLine) few k s room small hue starts = record { goes_on = refl; drawn_is = refl }
by_kind n before (Finish eight) few k s room small hue starts = record { goes_on = refl; drawn_is = refl }

pub xterm_read : (n : ℕ) (before : List Event) (e : Event) → n ≤ 256 → Keeps n before e → ¬ BreaksFor XTerm before e
    → IsSided before (raster_before before) → IsRoomy before → IsRead (xterm before e None) (xterm_draws before e)
xterm_read n before e few k unbroken s room =
    let parts = or_parts (breaks_large e) (breaks_hue e || breaks_introducer e) (is_false _ unbroken) in
    let more = or_parts (breaks_hue e) (breaks_introducer e) parts.1 in
    let goes : (xterm_pen before).ended ≡ false = ap (λ (p : Pen). p.ended) room in
    rw goes (by_kind n before e few k s room parts.0 more.0 more.1)
