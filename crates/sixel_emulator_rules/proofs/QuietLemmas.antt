-- Events that break no rule, by the notes on those before them.
use Rattle.std.proofs.Common.{◌≡◌, ◌+◌, ◌*◌, ◌&&◌, ◌||◌, ◌==◌, ℕ, Bool, true, false, not, Option, Some, None}
use Rattle.std.proofs.Common.{List, [], ◌∷◌, refl, sym, arith}
use Rattle.std.specs.Prelude.{nat_le, nat_lt, if◌then◌else◌}
use Rattle.std.specs.List.{find}
use Rattle.std.specs.Option.{option_map_or}
use Rattle.std.proofs.lemmas.Bool.{and_parts, eqb-true}
use Rattle.std.proofs.lemmas.Bool.Decides.{nat_tests}
use Rattle.sixel_grammar.specs.declared.command.Command.TheVariants.{Repeat, Select, CarriageReturn, NextLine, Sixel}
use Rattle.sixel_grammar.specs.declared.command.Event.{Event}
use Rattle.sixel_grammar.specs.declared.command.Event.TheVariants.{Step}
use Rattle.sixel_model.specs.Events.{columns_of, is_data_command, is_painting}
use Rattle.sixel_emulator_rules.specs.Asked.{breaks_hue, breaks_large, breaks_introducer, breaks_rows, is_asked}
use Rattle.sixel_emulator_rules.specs.Counts.{asked_in, counts_in, first_in, fits_box_in, fits_in, in_order, is_calm_in}
use Rattle.sixel_emulator_rules.specs.Counts.{asks_where, is_near_in, leaves_far_in, leaves_in}
use Rattle.sixel_emulator_rules.specs.Notes.{stale_in}
use Rattle.sixel_emulator_rules.specs.declared.notes.Declared.{Declared}
use Rattle.sixel_emulator_rules.specs.declared.notes.Notes.{Notes}
use Rattle.sixel_emulator_rules.specs.declared.rule.AskedRule.{AskedRule}
use Rattle.sixel_emulator_rules.specs.declared.rule.AskedRule.TheVariants.{RasterLate, Dropped, Stale, Large, Rows}
use Rattle.sixel_emulator_rules.specs.declared.rule.AskedRule.TheVariants.{Past, Hue}
use Rattle.sixel_emulator_rules.specs.declared.rule.AskedRule.TheVariants.{Far, Introducer, Bare, SpaceAfter}
use Rattle.sixel_emulator_rules.specs.declared.terminals.Terminals.{Terminals}

find_none : {X : Type 0} (p : X → Bool) (xs : List X) → ((x : X) → p x ≡ false) → find p xs ≡ None
find_none p [] none = refl
find_none p (x ∷ xs) none = rw (none x) (find_none p xs none)

pub and_false : (a b : Bool) → b ≡ false → (a && b) ≡ false
and_false true b h = h
and_false false b h = refl

-- none counts that is asked for
none_first : (t : Terminals) (n : Notes) (e : Event) → ((rule : AskedRule) → asked_in t n e rule ≡ false)
    → first_in t n e ≡ None
none_first t n e none = find_none (asked_in t n e) in_order none

-- ---- selects

selects_stay : (n : Notes) (r : ℕ) (o : Option Declared)
    → option_map_or (λ d. leaves_in n d (Step (Select r))) o false ≡ false
selects_stay n r None = refl
selects_stay n r (Some d) = refl

none_counts : (n : Notes) (r : ℕ) (rule : AskedRule) → counts_in n (Step (Select r)) rule ≡ false
unfolding breaks_hue breaks_large breaks_introducer breaks_rows
none_counts n r RasterLate = refl
none_counts n r Dropped = refl
none_counts n r Stale = refl
none_counts n r Large = refl
none_counts n r Rows = refl
none_counts n r Past = selects_stay n r n.declared
none_counts n r Hue = refl
none_counts n r Far = refl
none_counts n r Introducer = refl
none_counts n r Bare = refl
none_counts n r SpaceAfter = refl

pub quiet_select : (t : Terminals) (n : Notes) (r : ℕ) → first_in t n (Step (Select r)) ≡ None
quiet_select t n r = none_first t n (Step (Select r)) (λ rule. and_false (is_asked t rule) _ (none_counts n r rule))

-- ---- returns and new lines that come after neither a select nor a definition nor raster attributes

return_stays : (n : Notes) (o : Option Declared)
    → option_map_or (λ d. leaves_in n d (Step CarriageReturn)) o false ≡ false
return_stays n None = refl
return_stays n (Some d) = refl

return_counts : (n : Notes) (rule : AskedRule) → n.droppable ≡ false → counts_in n (Step CarriageReturn) rule ≡ false
unfolding breaks_hue breaks_large breaks_introducer breaks_rows
return_counts n RasterLate kept = refl
return_counts n Dropped kept = kept
return_counts n Stale kept = refl
return_counts n Large kept = refl
return_counts n Rows kept = refl
return_counts n Past kept = return_stays n n.declared
return_counts n Hue kept = refl
return_counts n Far kept = refl
return_counts n Introducer kept = refl
return_counts n Bare kept = refl
return_counts n SpaceAfter kept = refl

pub quiet_return : (t : Terminals) (n : Notes) → n.droppable ≡ false → first_in t n (Step CarriageReturn) ≡ None
quiet_return t n kept =
    none_first t n (Step CarriageReturn) (λ rule. and_false (is_asked t rule) _ (return_counts n rule kept))

line_stays : (n : Notes) (o : Option Declared) → option_map_or (λ d. leaves_in n d (Step NextLine)) o false ≡ false
line_stays n None = refl
line_stays n (Some d) = refl

line_counts : (n : Notes) (rule : AskedRule) → n.droppable ≡ false → counts_in n (Step NextLine) rule ≡ false
unfolding breaks_hue breaks_large breaks_introducer breaks_rows
line_counts n RasterLate kept = refl
line_counts n Dropped kept = kept
line_counts n Stale kept = refl
line_counts n Large kept = refl
line_counts n Rows kept = refl
line_counts n Past kept = line_stays n n.declared
line_counts n Hue kept = refl
line_counts n Far kept = refl
line_counts n Introducer kept = refl
line_counts n Bare kept = refl
line_counts n SpaceAfter kept = refl

pub quiet_line : (t : Terminals) (n : Notes) → n.droppable ≡ false → first_in t n (Step NextLine) ≡ None
quiet_line t n kept =
    none_first t n (Step NextLine) (λ rule. and_false (is_asked t rule) _ (line_counts n rule kept))

-- ---- repeats that can break no rule

-- as many columns as it says
pub columns_are : (c b : ℕ) → columns_of 0 (Step (Repeat c b)) ≡ c
columns_are c b = by (c == 0) refl
  where
    by : (z : Bool) → (c == 0) ≡ z → (if z then 0 else c) ≡ c
    by true is = sym (eqb-true c 0 is)
    by false is = refl

no_past : (p : Bool) (w h c b j k : ℕ) → j ≡ k → nat_le (c + k) w ≡ true → nat_lt (6 * b) h ≡ true
    → (not p && (nat_lt w (c + j) || nat_le h (6 * b))) ≡ false
no_past true w h c b j k same across down = refl
no_past false w h c b j k same across down = grind (arith, nat_tests)

no_far : (w h c b j k : ℕ) → j ≡ k → nat_le (c + k) 32767 ≡ true → nat_le (c + k) w ≡ true → nat_lt (6 * b) h ≡ true
    → (nat_lt 32767 (c + j) || (nat_lt w (c + j) || nat_lt (h + 512) (6 * b + 6))) ≡ false
no_far w h c b j k same right across down = grind (arith, nat_tests)

no_far_alone : (c j k : ℕ) → j ≡ k → nat_le (c + k) 32767 ≡ true → (nat_lt 32767 (c + j) || false) ≡ false
no_far_alone c j k same right = grind (arith, nat_tests)

stays : (n : Notes) (c b : ℕ) (o : Option Declared) → option_map_or (fits_in n c) o true ≡ true
    → (not (is_painting (Step (Repeat c b))) && option_map_or (λ d. leaves_in n d (Step (Repeat c b))) o false)
    ≡ false
stays n c b None fits = and_false (not (is_painting (Step (Repeat c b)))) false refl
stays n c b (Some d) fits =
    let parts = and_parts (nat_le (n.column + c) d.width) (nat_lt (6 * n.band) d.height) fits in
    no_past (is_painting (Step (Repeat c b))) d.width d.height n.column n.band (columns_of 0 (Step (Repeat c b))) c
    (columns_are c b) parts.0 parts.1

is_near : (n : Notes) (c b : ℕ) (o : Option Declared) → option_map_or (fits_in n c) o true ≡ true
    → nat_le (n.column + c) 32767 ≡ true
    → (nat_lt 32767 (n.column + columns_of 0 (Step (Repeat c b)))
    || option_map_or (λ d. leaves_far_in n d (Step (Repeat c b))) o false) ≡ false
is_near n c b None fits right =
    no_far_alone n.column (columns_of 0 (Step (Repeat c b))) c (columns_are c b) right
is_near n c b (Some d) fits right =
    let parts = and_parts (nat_le (n.column + c) d.width) (nat_lt (6 * n.band) d.height) fits in
    no_far d.width d.height n.column n.band (columns_of 0 (Step (Repeat c b))) c (columns_are c b) right parts.0 parts.1

not_stale : (asked paints stale : Bool) → not (asked && stale) ≡ true → (asked && (paints && stale)) ≡ false
not_stale false paints stale calm = refl
not_stale true paints false calm = and_false paints false refl
not_stale true paints true calm = cc

-- the second is false if the first is true
when_true : (a b : Bool) → (a ≡ true → b ≡ false) → (a && b) ≡ false
when_true true b is = is refl
when_true false b is = refl

-- what is asked for so hangs on where it stands
pub near_if : (asks near : Bool) → (not asks || near) ≡ true → asks ≡ true → near ≡ true
near_if true near is asked = is
near_if false near is asked = cc

pub either_left : (a b : Bool) → a ≡ true → (a || b) ≡ true
either_left true b is = refl
either_left false b is = cc

pub either_right : (a b : Bool) → b ≡ true → (a || b) ≡ true
either_right true b is = refl
either_right false b is = is

repeat_counts : (t : Terminals) (n : Notes) (c b : ℕ) (rule : AskedRule) → is_calm_in t n c ≡ true
    → asked_in t n (Step (Repeat c b)) rule ≡ false
unfolding breaks_hue breaks_large breaks_introducer breaks_rows
repeat_counts t n c b RasterLate calm = and_false (is_asked t RasterLate) false refl
repeat_counts t n c b Dropped calm = and_false (is_asked t Dropped) false refl
repeat_counts t n c b Stale calm =
    let one = and_parts (not (asks_where t) || is_near_in n c) (not (is_asked t Stale && stale_in n)) calm in
    not_stale (is_asked t Stale) (is_painting (Step (Repeat c b))) (stale_in n) one.1
repeat_counts t n c b Large calm = and_false (is_asked t Large) false refl
repeat_counts t n c b Rows calm = and_false (is_asked t Rows) false refl
repeat_counts t n c b Past calm =
    let one = and_parts (not (asks_where t) || is_near_in n c) (not (is_asked t Stale && stale_in n)) calm in
    when_true (is_asked t Past) _
    (λ asked.
    let near = near_if (asks_where t) (is_near_in n c) one.0 (either_left (is_asked t Past) (is_asked t Far) asked) in
    let two = and_parts (fits_box_in n c) (nat_le (n.column + c) 32767) near in
    stays n c b n.declared two.0)
repeat_counts t n c b Hue calm = and_false (is_asked t Hue) false refl
repeat_counts t n c b Far calm =
    let one = and_parts (not (asks_where t) || is_near_in n c) (not (is_asked t Stale && stale_in n)) calm in
    when_true (is_asked t Far) _
    (λ asked.
    let near = near_if (asks_where t) (is_near_in n c) one.0 (either_right (is_asked t Past) (is_asked t Far) asked) in
    let two = and_parts (fits_box_in n c) (nat_le (n.column + c) 32767) near in
    is_near n c b n.declared two.0 two.1)
repeat_counts t n c b Introducer calm = and_false (is_asked t Introducer) false refl
repeat_counts t n c b Bare calm = and_false (is_asked t Bare) false refl
repeat_counts t n c b SpaceAfter calm = and_false (is_asked t SpaceAfter) false refl

pub quiet_repeat : (t : Terminals) (n : Notes) (c b : ℕ) → is_calm_in t n c ≡ true
    → first_in t n (Step (Repeat c b)) ≡ None
quiet_repeat t n c b calm = none_first t n (Step (Repeat c b)) (λ rule. repeat_counts t n c b rule calm)

-- ---- any sixel and any repeat

-- the rules that one can break
abbrev pub is_of_data : AskedRule → Bool
is_of_data Stale = true
is_of_data Past = true
is_of_data Far = true
is_of_data _ = false

sixel_counts : (n : Notes) (b : ℕ) (rule : AskedRule) → is_of_data rule ≡ false
    → counts_in n (Step (Sixel b)) rule ≡ false
unfolding breaks_hue breaks_large breaks_introducer breaks_rows
sixel_counts n b RasterLate other = refl
sixel_counts n b Dropped other = refl
sixel_counts n b Stale other = cc
sixel_counts n b Large other = refl
sixel_counts n b Rows other = refl
sixel_counts n b Past other = cc
sixel_counts n b Hue other = refl
sixel_counts n b Far other = cc
sixel_counts n b Introducer other = refl
sixel_counts n b Bare other = refl
sixel_counts n b SpaceAfter other = refl

any_repeat_counts : (n : Notes) (c b : ℕ) (rule : AskedRule) → is_of_data rule ≡ false
    → counts_in n (Step (Repeat c b)) rule ≡ false
unfolding breaks_hue breaks_large breaks_introducer breaks_rows
any_repeat_counts n c b RasterLate other = refl
any_repeat_counts n c b Dropped other = refl
any_repeat_counts n c b Stale other = cc
any_repeat_counts n c b Large other = refl
any_repeat_counts n c b Rows other = refl
any_repeat_counts n c b Past other = cc
any_repeat_counts n c b Hue other = refl
any_repeat_counts n c b Far other = cc
any_repeat_counts n c b Introducer other = refl
any_repeat_counts n c b Bare other = refl
any_repeat_counts n c b SpaceAfter other = refl

pub data_counts : (t : Terminals) (n : Notes) (e : Event) (rule : AskedRule) → is_data_command e ≡ true
    → is_of_data rule ≡ false → asked_in t n e rule ≡ false
data_counts t n (Step (Sixel b)) rule one other = and_false (is_asked t rule) _ (sixel_counts n b rule other)
data_counts t n (Step (Repeat c b)) rule one other =
    and_false (is_asked t rule) _ (any_repeat_counts n c b rule other)
data_counts t n _ rule one other = cc
