-- What the notes tell of an event is what the rules say of it.
use Rattle.std.proofs.Common.{◌≡◌, ◌≢◌, ◌<◌, ◌≤◌, ◌+◌, ◌*◌, ◌^◌, ◌==◌, ◌&&◌, ◌||◌, ℕ, Bool, true, false, not, min}
use Rattle.std.proofs.Common.{Option, Some, None, List, [], ◌∷◌, refl, sym, ap, ap₂, ◌∙◌, arith}
use Rattle.std.specs.Prelude.{IsTrue, is_none, is_some, nat_le, nat_lt}
use Rattle.std.specs.List.{list_any}
use Rattle.std.specs.Option.{option_map, option_map_or, option_or}
use Rattle.std.proofs.lemmas.Bool.{and_from, and_parts, eqb-true, le-leb, lt-ltb, ltb-false}
use Rattle.std.proofs.lemmas.Bool.{ltb-true}
use Rattle.std.proofs.lemmas.Bool.Decides.{nat_tests}
use Rattle.sixel_grammar.specs.declared.command.Command.TheVariants.{Select}
use Rattle.sixel_grammar.specs.declared.command.Event.{Event}
use Rattle.sixel_grammar.specs.declared.command.Event.TheVariants.{Step}
use Rattle.sixel_model.specs.Events.{Attributes, columns_of, is_data_command, is_painting, is_return, named_by}
use Rattle.sixel_model.specs.Events.{raster_of, select_of}
use Rattle.sixel_model.specs.Geometry.{band, column}
use Rattle.sixel_model.specs.Positions.{latest}
use Rattle.sixel_model.specs.Rules.{Breaks, breaks_register, colour_of, known, known_by, raster_before}
use Rattle.sixel_model.proofs.KnownLemmas.{known_is}
use Rattle.sixel_model.proofs.LatestLemmas.{latest_gives}
use Rattle.sixel_emulator.specs.Places.{most}
use Rattle.sixel_judge.specs.Counting.{is_below as is_below_count}
use Rattle.sixel_emulator_rules.specs.Asked.{BreaksAsked, breaks_dropped, breaks_far, breaks_past, breaks_raster_late}
use Rattle.sixel_emulator_rules.specs.Asked.{ends_right, is_below, is_deep, leaves_box, leaves_far}
use Rattle.sixel_emulator_rules.specs.Asking.{NamesWithin}
use Rattle.sixel_emulator_rules.specs.Counts.{counts_in, dropped_in, ends_right_in, far_in, is_below_in, is_deep_in}
use Rattle.sixel_emulator_rules.specs.Counts.{late_in}
use Rattle.sixel_emulator_rules.specs.Counts.{leaves_far_in, leaves_in, paints_stale_in, past_in, strays_in}
use Rattle.sixel_emulator_rules.specs.Notes.{AreNarrow, IsNotesAfter, attributes, is_same, parts_of, shade_at, stale_in}
use Rattle.sixel_emulator_rules.specs.Stale.{IsStale, colour_at_select}
use Rattle.sixel_emulator_rules.specs.Tallies.{CountsAsked}
use Rattle.sixel_emulator_rules.proofs.StaleLemmas.{at_high}
use Rattle.sixel_emulator_rules.specs.declared.notes.Declared.{Declared}
use Rattle.sixel_emulator_rules.specs.declared.notes.Notes.{Notes}
use Rattle.sixel_emulator_rules.specs.declared.rule.AskedRule.{AskedRule}
use Rattle.sixel_emulator_rules.specs.declared.rule.AskedRule.TheVariants.{RasterLate, Dropped, Stale, Large, Rows}
use Rattle.sixel_emulator_rules.specs.declared.rule.AskedRule.TheVariants.{Past, Hue}
use Rattle.sixel_emulator_rules.specs.declared.rule.AskedRule.TheVariants.{Far, Introducer, Bare, SpaceAfter}
use Rattle.sixel_emulator_rules.specs.declared.shade.Shade.{Shade}
use Rattle.sixel_emulator_rules.specs.declared.shade.Shade.TheVariants.{Rgb, Hls}

-- ---- where a data command stands

right_is : (w c k : ℕ) → w < 2 ^ 16 → nat_lt w (min c most + k) ≡ nat_lt w (c + k)
right_is w c k low = grind (arith, nat_tests)

below_is : (h b : ℕ) → h < 2 ^ 16 → nat_le h (6 * min b most) ≡ nat_le h (6 * b)
below_is h b low = grind (arith, nat_tests)

deep_is : (h b : ℕ) → h < 2 ^ 16 → nat_lt (h + 512) (6 * min b most + 6) ≡ nat_lt (h + 512) (6 * b + 6)
deep_is h b low = grind (arith, nat_tests)

ends_is : {n : Notes} {before : List Event} (d : Declared) (e : Event) → IsNotesAfter n before → d.width < 2 ^ 16
    → ends_right_in n d e ≡ ends_right (attributes d) before e
ends_is {n} {before} d e s low = rw s.column_is (right_is d.width (column 0 before) (columns_of 0 e) low)

down_is : {n : Notes} {before : List Event} (d : Declared) → IsNotesAfter n before → d.height < 2 ^ 16
    → is_below_in n d ≡ is_below (attributes d) before
down_is {n} {before} d s low = rw s.band_is (below_is d.height (band before) low)

leaves_is : {n : Notes} {before : List Event} (d : Declared) (e : Event) → IsNotesAfter n before → d.width < 2 ^ 16
    → d.height < 2 ^ 16 → leaves_in n d e ≡ leaves_box (attributes d) before e
leaves_is d e s w h = ap₂ (λ (a b : Bool). is_data_command e && (a || b)) (ends_is d e s w) (down_is d s h)

low_is : {n : Notes} {before : List Event} (d : Declared) → IsNotesAfter n before → d.height < 2 ^ 16
    → is_deep_in n d ≡ is_deep (attributes d) before
low_is {n} {before} d s low = rw s.band_is (deep_is d.height (band before) low)

leaves_far_is : {n : Notes} {before : List Event} (d : Declared) (e : Event) → IsNotesAfter n before
    → d.width < 2 ^ 16 → d.height < 2 ^ 16 → leaves_far_in n d e ≡ leaves_far (attributes d) before e
leaves_far_is d e s w h = ap₂ (λ (a b : Bool). a || b) (ends_is d e s w) (low_is d s h)

-- a test of the box gives the same for what is stored of it
of_box : (P : Declared → Bool) (Q : Attributes → Bool) (o : Option Declared) (p : Option Attributes)
    → option_map attributes o ≡ p → AreNarrow o
    → ((d : Declared) → d.width < 2 ^ 16 → d.height < 2 ^ 16 → P d ≡ Q (attributes d))
    → option_map_or P o false ≡ option_map_or Q p false
of_box P Q None p is narrow same = ap (λ (q : Option Attributes). option_map_or Q q false) is
of_box P Q (Some d) p is narrow same =
    same d narrow.0 narrow.1 ∙ ap (λ (q : Option Attributes). option_map_or Q q false) is

-- ---- the rules, one by one

some_or : (o p : Option ℕ) → (is_some p || is_some o) ≡ is_some (option_or o p)
some_or None None = refl
some_or None (Some x) = refl
some_or (Some y) None = refl
some_or (Some y) (Some x) = refl

named_any : (xs : List Event) → list_any (λ d. is_some (named_by d)) xs ≡ is_some (latest named_by xs)
unfolding latest
named_any [] = refl
named_any (x ∷ xs) =
    ap (λ (b : Bool). is_some (named_by x) || b) (named_any xs) ∙ some_or (latest named_by xs) (named_by x)

none_mapped : (o : Option Declared) → is_none o ≡ is_none (option_map attributes o)
none_mapped None = refl
none_mapped (Some d) = refl

late_is : {n : Notes} {before : List Event} (e : Event) → IsNotesAfter n before
    → late_in n e ≡ breaks_raster_late before e
unfolding breaks_raster_late
late_is {n} {before} e s =
    ap₂ (λ (a b : Bool). (is_some (raster_of e) && a) && b) (none_mapped n.declared ∙ ap is_none s.declared_is)
    (ap is_some s.named_is ∙ sym (named_any before))

dropped_is : {n : Notes} {before : List Event} (e : Event) → IsNotesAfter n before
    → dropped_in n e ≡ breaks_dropped before e
unfolding breaks_dropped
dropped_is e s = ap (λ (b : Bool). is_return e && b) s.droppable_is

past_is : {n : Notes} {before : List Event} (e : Event) → IsNotesAfter n before → past_in n e ≡ breaks_past before e
unfolding breaks_past
past_is {n} {before} e s =
    ap (λ (b : Bool). not (is_painting e) && b)
    (of_box (λ d. leaves_in n d e) (λ a. leaves_box a before e) n.declared (raster_before before) s.declared_is s.narrow
    (λ d w h. leaves_is d e s w h))

strays_is : {n : Notes} {before : List Event} (e : Event) → IsNotesAfter n before
    → strays_in n e ≡ option_map_or (λ a. leaves_far a before e) (raster_before before) false
strays_is {n} {before} e s =
    of_box (λ d. leaves_far_in n d e) (λ a. leaves_far a before e) n.declared (raster_before before) s.declared_is
    s.narrow (λ d w h. leaves_far_is d e s w h)

far_is : {n : Notes} {before : List Event} (e : Event) → IsNotesAfter n before → far_in n e ≡ breaks_far before e
unfolding breaks_far
far_is {n} {before} e s =
    rw (strays_is e s, s.column_is, right_is 32767 (column 0 before) (columns_of 0 e) (omega arith)) refl

-- ---- colours

same_parts : (x y z u v w : ℕ) → ((x == u) && ((y == v) && (z == w))) ≡ true → (x ≡ u) × (y ≡ v) × (z ≡ w)
same_parts x y z u v w h =
    let one = and_parts (x == u) ((y == v) && (z == w)) h in
    let two = and_parts (y == v) (z == w) one.1 in
    (eqb-true x u one.0, eqb-true y v two.0, eqb-true z w two.1)

all_same : (x y z : ℕ) → ((x == x) && ((y == y) && (z == z))) ≡ true
all_same x y z = grind (arith, nat_tests)

is_same_of : (o p : Option Shade) → option_map parts_of o ≡ option_map parts_of p → is_same o p ≡ true
is_same_of None None h = refl
is_same_of None (Some (Rgb u v w)) h = cc
is_same_of None (Some (Hls u v w)) h = cc
is_same_of (Some (Rgb x y z)) None h = cc
is_same_of (Some (Hls x y z)) None h = cc
is_same_of (Some (Rgb x y z)) (Some (Hls u v w)) h = cc
is_same_of (Some (Hls x y z)) (Some (Rgb u v w)) h = cc
is_same_of (Some (Rgb x y z)) (Some (Rgb u v w)) h =
    let a : x ≡ u = cc in
    let b : y ≡ v = cc in
    let c : z ≡ w = cc in
    rw (a, b, c) (all_same u v w)
is_same_of (Some (Hls x y z)) (Some (Hls u v w)) h =
    let a : x ≡ u = cc in
    let b : y ≡ v = cc in
    let c : z ≡ w = cc in
    rw (a, b, c) (all_same u v w)

of_is_same : (o p : Option Shade) → is_same o p ≡ true → option_map parts_of o ≡ option_map parts_of p
of_is_same None None h = refl
of_is_same None (Some (Rgb u v w)) h = cc
of_is_same None (Some (Hls u v w)) h = cc
of_is_same (Some (Rgb x y z)) None h = cc
of_is_same (Some (Hls x y z)) None h = cc
of_is_same (Some (Rgb x y z)) (Some (Hls u v w)) h = cc
of_is_same (Some (Hls x y z)) (Some (Rgb u v w)) h = cc
of_is_same (Some (Rgb x y z)) (Some (Rgb u v w)) h =
    let p = same_parts x y z u v w h in rw (p.0, p.1, p.2) refl
of_is_same (Some (Hls x y z)) (Some (Hls u v w)) h =
    let p = same_parts x y z u v w h in rw (p.0, p.1, p.2) refl

-- ---- the register that is selected

select_names : (e : Event) (r : ℕ) → select_of e ≡ Some r → named_by e ≡ Some r
select_names (Step (Select q)) r h = h
select_names _ r h = cc

too_great : (e : Event) (r : ℕ) → named_by e ≡ Some r → 256 ≤ r → IsTrue (breaks_register 256 e)
unfolding breaks_register
too_great e r is high = rw is (le-leb 256 r high)

pub selects_low : (before : List Event) (r : ℕ) → latest select_of before ≡ Some r → NamesWithin before → r < 256
unfolding Breaks
selects_low before r is within = by (nat_lt r 256) refl
  where
    by : (b : Bool) → nat_lt r 256 ≡ b → r < 256
    by true low = ltb-true r 256 low
    by false high =
        let g = latest_gives select_of before r is in
        absurd (within g.at (record {
          item = g.item;
          here = g.here;
          holds = too_great g.item r (select_names g.item r g.gives) (ltb-false r 256 high);
        }))

pub known_same : {n : Notes} {before : List Event} → IsNotesAfter n before
    → known_by n.selected n.named ≡ known before
unfolding known
known_same s = rw (s.selected_is, s.named_is) refl

-- the test of the known register, if there is one
abbrev test : Notes → Option ℕ → Bool
test n o = option_map_or (λ r. not (is_same (shade_at n.shades r) n.picked)) o false

test_is : {n : Notes} {before : List Event} → IsNotesAfter n before → stale_in n ≡ test n (known before)
test_is {n} s = ap (test n) (known_same s)

-- the colours of the known register, now and at its select
colours_are : {n : Notes} {before : List Event} (r : ℕ) → IsNotesAfter n before → r < 256 → known before ≡ Some r
    → (option_map parts_of (shade_at n.shades r) ≡ colour_of before r)
    × (option_map parts_of n.picked ≡ colour_at_select before r)
colours_are {n} {before} r s low is =
    let selected = (known_is before r is).selected in
    (s.shades_are r low, s.picked_is r low (s.selected_is ∙ selected))

not_true : (b : Bool) → not b ≡ true → b ≡ true → ⊥
not_true true h k = cc
not_true false h k = cc

other : {n : Notes} {before : List Event} (r : ℕ) → IsNotesAfter n before → r < 256
    → known before ≡ Some r → not (is_same (shade_at n.shades r) n.picked) ≡ true
    → colour_of before r ≢ colour_at_select before r
other {n} {before} r s low is differs same =
    let two = colours_are r s low is in
    not_true (is_same (shade_at n.shades r) n.picked) differs
    (is_same_of (shade_at n.shades r) n.picked (two.0 ∙ (same ∙ sym two.1)))

-- a known register above 255 passes no test
high_fails : {n : Notes} {before : List Event} (r : ℕ) → IsNotesAfter n before → 256 ≤ r → known before ≡ Some r
    → test n (Some r) ≡ false
high_fails {n} {before} r s high is =
    ap₂ (λ (o p : Option Shade). not (is_same o p)) (at_high n.shades r high)
    (s.picked_none r high (s.selected_is ∙ (known_is before r is).selected))

stale_by : {n : Notes} {before : List Event} (e : Event) (o : Option ℕ) → known before ≡ o → IsNotesAfter n before
    → is_painting e ≡ true → test n o ≡ true → IsStale before e × IsTrue (is_below_count 256 o)
stale_by e None is s paints t = cc
stale_by {n} {before} e (Some r) is s paints t = by (nat_lt r 256) refl
  where
    by : (b : Bool) → nat_lt r 256 ≡ b → IsStale before e × IsTrue (is_below_count 256 (Some r))
    by true below = (
      record {
        register = r;
        painting = paints;
        is_known = is;
        differs = other r s (ltb-true r 256 below) is t;
      },
      below,
    )
    by false high = let no = high_fails r s (ltb-false r 256 high) is in cc

is_stale_of : {n : Notes} {before : List Event} (e : Event) → IsNotesAfter n before → paints_stale_in n e ≡ true
    → IsStale before e × IsTrue (is_below_count 256 (known before))
is_stale_of {n} {before} e s t =
    let parts = and_parts (is_painting e) (stale_in n) t in
    stale_by e (known before) refl s parts.0 (sym (test_is s) ∙ parts.1)

not_same : (b : Bool) → (b ≡ true → ⊥) → not b ≡ true
not_same true h = absurd (h refl)
not_same false h = refl

pub known_below : (before : List Event) (r : ℕ) → known before ≡ Some r → IsTrue (is_below_count 256 (known before))
    → r < 256
known_below before r is below = ltb-true r 256 (ap (is_below_count 256) (sym is) ∙ below)

of_is_stale : {n : Notes} {before : List Event} (e : Event) → IsNotesAfter n before → IsStale before e
    → IsTrue (is_below_count 256 (known before)) → paints_stale_in n e ≡ true
of_is_stale {n} {before} e s stale below =
    let r : ℕ = stale.register in
    let two = colours_are r s (known_below before r stale.is_known below) stale.is_known in
    let differs : not (is_same (shade_at n.shades r) n.picked) ≡ true =
    not_same (is_same (shade_at n.shades r) n.picked)
    (λ t. stale.differs (sym two.0 ∙ (of_is_same (shade_at n.shades r) n.picked t ∙ two.1))) in
    and_from (is_painting e) (stale_in n) stale.painting
    (test_is s ∙ (ap (test n) stale.is_known ∙ differs))

-- the known register has the colour that it had at its select
pub fresh : {n : Notes} {before : List Event} (r : ℕ) → IsNotesAfter n before → r < 256
    → stale_in n ≡ false → known before ≡ Some r → colour_of before r ≡ colour_at_select before r
fresh {n} {before} r s low calm is =
    let two = colours_are r s low is in
    let t : test n (Some r) ≡ false = sym (ap (test n) is) ∙ (sym (test_is s) ∙ calm) in
    sym two.0 ∙ (of_is_same (shade_at n.shades r) n.picked (by (is_same (shade_at n.shades r) n.picked) t) ∙ two.1)
  where
    by : (b : Bool) → not b ≡ false → b ≡ true
    by true h = refl
    by false h = cc

-- ---- all rules

-- an event that breaks a rule counts, if no event before it names a register above 255
pub breaks_counts : (before : List Event) (e : Event) (rule : AskedRule) → NamesWithin before
    → BreaksAsked rule before e → CountsAsked rule before e
breaks_counts before e Stale within h =
    let low : h.register < 256 =
    selects_low before h.register (known_is before h.register h.is_known).selected within in
    (h, ap (is_below_count 256) h.is_known ∙ lt-ltb h.register 256 low)
breaks_counts before e RasterLate within h = h
breaks_counts before e Dropped within h = h
breaks_counts before e Large within h = h
breaks_counts before e Rows within h = h
breaks_counts before e Past within h = h
breaks_counts before e Hue within h = h
breaks_counts before e Far within h = h
breaks_counts before e Introducer within h = h
breaks_counts before e Bare within h = h
breaks_counts before e SpaceAfter within h = h

pub counts_breaks : (before : List Event) (e : Event) (rule : AskedRule) → CountsAsked rule before e
    → BreaksAsked rule before e
counts_breaks before e Stale h = h.0
counts_breaks before e RasterLate h = h
counts_breaks before e Dropped h = h
counts_breaks before e Large h = h
counts_breaks before e Rows h = h
counts_breaks before e Past h = h
counts_breaks before e Hue h = h
counts_breaks before e Far h = h
counts_breaks before e Introducer h = h
counts_breaks before e Bare h = h
counts_breaks before e SpaceAfter h = h

pub tallied_in : {n : Notes} {before : List Event} (e : Event) (rule : AskedRule) → IsNotesAfter n before
    → counts_in n e rule ≡ true → CountsAsked rule before e
tallied_in e RasterLate s h = sym (late_is e s) ∙ h
tallied_in e Dropped s h = sym (dropped_is e s) ∙ h
tallied_in e Stale s h = is_stale_of e s h
tallied_in e Large s h = h
tallied_in e Rows s h = h
tallied_in e Past s h = sym (past_is e s) ∙ h
tallied_in e Hue s h = h
tallied_in e Far s h = sym (far_is e s) ∙ h
tallied_in e Introducer s h = h
tallied_in e Bare s h = cc
tallied_in e SpaceAfter s h = cc

pub is_tallied : {n : Notes} {before : List Event} (e : Event) (rule : AskedRule) → IsNotesAfter n before
    → CountsAsked rule before e → counts_in n e rule ≡ true
is_tallied e RasterLate s h = late_is e s ∙ h
is_tallied e Dropped s h = dropped_is e s ∙ h
is_tallied e Stale s h = of_is_stale e s h.0 h.1
is_tallied e Large s h = h
is_tallied e Rows s h = h
is_tallied e Past s h = past_is e s ∙ h
is_tallied e Hue s h = h
is_tallied e Far s h = far_is e s ∙ h
is_tallied e Introducer s h = h
is_tallied e Bare s h = absurd h
is_tallied e SpaceAfter s h = absurd h

pub counted : {n : Notes} {before : List Event} (e : Event) (rule : AskedRule) → IsNotesAfter n before
    → counts_in n e rule ≡ true → BreaksAsked rule before e
counted {before} e rule s h = counts_breaks before e rule (tallied_in e rule s h)

pub is_counted : {n : Notes} {before : List Event} (e : Event) (rule : AskedRule) → IsNotesAfter n before
    → NamesWithin before → BreaksAsked rule before e → counts_in n e rule ≡ true
is_counted {before} e rule s within h = is_tallied e rule s (breaks_counts before e rule within h)
