-- What mlterm makes of an event that breaks no rule.
use Rattle.std.proofs.Common.{◌≡◌, ℕ, ◌+◌, ◌≤◌, ◌<◌, Bool, true, false, ◌==◌, Option, Some, None}
use Rattle.std.proofs.Common.{List, [], ◌∷◌, refl, sym, ap, subst, ◌∙◌, arith}
use Rattle.std.specs.Prelude.{nat_le, nat_lt, slice_index_or, unwrap_or, IfSome, IsFalse, if◌then◌else◌}
use Rattle.std.specs.Bool.{then_some}
use Rattle.std.specs.Option.{option_and_then, option_map, option_map_or}
use Rattle.std.proofs.lemmas.Bool.{and_right, eqb-true, leb-false, lt-ltb}
use Rattle.std.proofs.lemmas.Bool.{le-leb, leb-true, not-false, or_parts}
use Rattle.sixel_grammar.specs.declared.command.Command.{Command}
use Rattle.sixel_grammar.specs.declared.command.Command.TheVariants.{Sixel, Repeat, Raster, Select, Define}
use Rattle.sixel_grammar.specs.declared.command.Command.TheVariants.{CarriageReturn, NextLine}
use Rattle.sixel_grammar.specs.declared.command.Event.{Event}
use Rattle.sixel_grammar.specs.declared.command.Event.TheVariants.{Start, Step, Finish}
use Rattle.sixel_model.specs.declared.colour.Parts.{Parts}
use Rattle.sixel_model.specs.declared.colour.Parts.TheVariants.{Rgb, Hls}
use Rattle.sixel_model.specs.declared.rule.Rule.TheVariants.{Uncovered}
use Rattle.sixel_model.specs.Colours.{clamped, is_colour}
use Rattle.sixel_model.specs.Events.{Attributes, columns_of, is_data_command, is_painting, is_repeat_of_zero, named_by}
use Rattle.sixel_model.specs.Events.{raster_of}
use Rattle.sixel_model.specs.Geometry.{band, column}
use Rattle.sixel_model.specs.Positions.{latest}
use Rattle.sixel_model.specs.Rules.{BreaksNone, breaks_colour_value, breaks_register, breaks_repeat_zero, gives_colour}
use Rattle.sixel_model.specs.Rules.{raster_before}
use Rattle.sixel_model.proofs.KnownLemmas.{latest_each}
use Rattle.sixel_model.proofs.RuleLemmas.{Keeps, is_false}
use Rattle.sixel_named_terminals.specs.declared.named.Named.TheVariants.{MlTerm}
use Rattle.sixel_emulator.specs.declared.reading.Reads.{Reads}
use Rattle.sixel_emulator.specs.declared.reading.Reads.TheVariants.{Nothing, DrawsTwo, Unsaid}
use Rattle.sixel_mlterm.specs.MlTerm.{Buffer, define_and_select, is_chance, is_lost, is_past_all, is_said_colour}
use Rattle.sixel_mlterm.specs.MlTerm.{may_mix, mlterm, mlterm_buffer, mlterm_data, mlterm_register, mlterm_selected}
use Rattle.sixel_mlterm.specs.MlTerm.{rows_to, said_by, wanted_height}
use Rattle.sixel_emulator.specs.Words.{nearest}
use Rattle.sixel_judge.proofs.ColourLemmas.{IsSound, each_sound, made}
use Rattle.sixel_judge.proofs.CoverLemmas.{box_at_data}
use Rattle.sixel_judge.proofs.OptionLemmas.{some_value}
use Rattle.sixel_emulator_rules.specs.Asked.{breaks_far, breaks_introducer}
use Rattle.sixel_emulator_rules_laws.proofs.AskedForms.{BreaksFor}
use Rattle.sixel_emulator_rules_laws.proofs.KeptLemmas.{good_box, named_in_range, not_above}
use Rattle.sixel_emulator_rules_laws.proofs.MlTermBufferLemmas.{IsBuffered, IsBufferedFor, IsNear, IsUnbuffered}
use Rattle.sixel_emulator_rules_laws.proofs.MlTermBufferLemmas.{near_by, sides_kept}
use Rattle.sixel_emulator_rules_laws.proofs.MlTermBufferLemmas.{within}
use Rattle.sixel_emulator_rules_laws.proofs.PenLemmas.{clamped_same, each_then}
use Rattle.sixel_emulator_rules_laws.proofs.ReadingLemmas.{IsRead}
use Rattle.sixel_emulator_rules_laws.proofs.SizeLemmas.{no_box, placed}

-- what mlterm draws in place of the event: a definition selects too, and raster attributes draw nothing
abbrev pub mlterm_draws : Event → List Event
mlterm_draws (Step (Define r s x y z)) = Step (Define r s x y z) ∷ Step (Select r) ∷ []
mlterm_draws (Step (Raster pan pad width height)) = []
mlterm_draws (Step command) = Step command ∷ []
mlterm_draws (Start eight parameters) = []
mlterm_draws (Finish eight) = []

-- ---- data

-- the buffer gets as high as the band, if that ends at most 512 rows below it
wanted_high : (height rows : ℕ) (within : Bool) → nat_le rows height ≡ within → rows ≤ height + 512
    → rows ≤ (if within then height else height + 516)
wanted_high height rows true is near = leb-true rows height is
wanted_high height rows false is near = omega (arith, near)

-- nothing is copied past a block of memory, and the command is in the buffer
not_lost : (a : Attributes) (before : List Event) (e : Event) → IsNear a before e → IsBufferedFor a before
    → is_lost (mlterm_buffer before) (column 0 before + columns_of 0 e) (rows_to (band before)) e ≡ false
not_lost a before e near r =
    let b : Buffer = mlterm_buffer before in
    let end = column 0 before + columns_of 0 e in
    let rows = rows_to (band before) in
    let across : end ≤ a.width = near.across in
    let down : rows ≤ a.height + 512 = near.down in
    let wide : a.width ≤ b.width = r.wide in
    let high : a.height ≤ b.height = r.high in
    let tall : rows ≤ wanted_height b rows =
    wanted_high b.height rows (nat_le rows b.height) refl (omega (arith, down, high)) in
    let inside : end ≤ b.width = omega (arith, across, wide) in
    rw (
      sides_kept b end rows inside,
      not_above b.width b.width (omega arith),
      not_above (wanted_height b rows) rows tall,
      not_above b.width end inside,
      and_right (nat_lt 0 b.width) false refl,
    )
    (and_right (is_painting e) false refl)

low_selected : (o : Option ℕ) → IfSome o (λ r. r < 256) → option_map_or mlterm_register o 0 < 256
low_selected None h = omega arith
low_selected (Some r) h =
    let low : r < 256 = h in
    let test : nat_lt r 1024 ≡ true = lt-ltb r 1024 (omega (arith, low)) in
    rw test low

if_some : (P Q : ℕ → Type 0) (o : Option ℕ) → ((r : ℕ) → P r → Q r) → IfSome o P → IfSome o Q
if_some P Q None more h = tt
if_some P Q (Some r) more h = more r h

then_true : (b : Bool) → IfSome (then_some b true) (λ v. v ≡ true)
then_true true = refl
then_true false = tt

said_of : (q r : ℕ) (o : Option Parts)
    → IfSome (option_and_then (λ (g : ℕ × Bool). then_some (g.0 == r) g.1) (option_map (λ (c : Parts). (q, true)) o))
    (λ v. v ≡ true)
said_of q r None = tt
said_of q r (Some c) = then_true (q == r)

by_system : (q r s x y z : ℕ) (three : Bool) → (s == 3) ≡ three → gives_colour (made s x y z) ≡ true
    → IfSome (option_and_then (λ (g : ℕ × Bool). then_some (g.0 == r) g.1)
    (if three then Some (q, false) else option_map (λ (c : Parts). (q, true)) (nearest s x y z))) (λ v. v ≡ true)
by_system q r s x y z true is gives =
    let same : s ≡ 3 = eqb-true s 3 is in
    let no : false ≡ true = rw same at gives in cc
by_system q r s x y z false is gives = said_of q r (nearest s x y z)

-- its system isn't 9
not_nine : (s x y z : ℕ) → gives_colour (made s x y z) ≡ true → (s == 9) ≡ false
not_nine s x y z gives = by (s == 9) refl
  where
    by : (b : Bool) → (s == 9) ≡ b → b ≡ false
    by true is =
        let nine : s ≡ 9 = eqb-true s 9 is in
        let no : false ≡ true = rw nine at gives in cc
    by false is = refl

-- a definition that gives a colour in range gives one that the model says
said_true : (r : ℕ) (e : Event) → IsFalse (breaks_colour_value e) → IfSome (said_by r e) (λ v. v ≡ true)
unfolding breaks_colour_value
said_true r (Step (Define q s x y z)) h =
    let gives : gives_colour (made s x y z) ≡ true = not-false _ h in
    rw (not_nine s x y z gives) (by_system (mlterm_register q) r s x y z (s == 3) refl gives)
said_true r _ h = tt

all_said : (r : ℕ) (o : Option Bool) → r < 256 → IfSome o (λ v. v ≡ true) → unwrap_or o (nat_le r 255) ≡ true
all_said r None low h = le-leb r 255 (omega (arith, low))
all_said r (Some v) low h = h

selected_said : (n : ℕ) (before : List Event) → n ≤ 256 → BreaksNone n Uncovered before
    → is_said_colour before (mlterm_selected before) ≡ true
unfolding is_said_colour
selected_said n before few none =
    let low : mlterm_selected before < 256 = low_selected (latest named_by before)
    (if_some (λ r. r < n) (λ r. r < 256) (latest named_by before) (λ r lt. omega (arith, lt, few))
    (named_in_range n before none)) in
    all_said (mlterm_selected before) (latest (said_by (mlterm_selected before)) before) low
    (latest_each (said_by (mlterm_selected before)) (λ v. v ≡ true) before
    (each_then (IsSound n) _ before (λ e (s : IsSound n e). said_true (mlterm_selected before) e s.colour)
    (each_sound n before none)))

no_chance : (n : ℕ) (before : List Event) (e : Event) → n ≤ 256 → BreaksNone n Uncovered before
    → is_chance (is_said_colour before (mlterm_selected before)) e ≡ false
no_chance n before e few none = rw (selected_said n before few none) (and_right (is_painting e) false refl)

-- what the model doesn't say of data commands doesn't happen
record IsSaidData (before : List Event) (e : Event) : Type 0 where
  pub counted : is_repeat_of_zero e ≡ false
  pub near : is_past_all (column 0 before + columns_of 0 e) (rows_to (band before)) ≡ false
  pub kept : is_lost (mlterm_buffer before) (column 0 before + columns_of 0 e) (rows_to (band before)) e ≡ false
  pub no_chance : is_chance (is_said_colour before (mlterm_selected before)) e ≡ false

said_data : (n : ℕ) (before : List Event) (e : Event) → n ≤ 256 → BreaksNone n Uncovered before → Keeps n before e
    → IsFalse (breaks_far before e) → IsBuffered before (raster_before before) → is_data_command e ≡ true
    → IsSaidData before e
unfolding breaks_repeat_zero
said_data n before e few none k far buffered is_data =
    let a : (a : Attributes) × (raster_before before ≡ Some a) = some_value _ (box_at_data n before e k is_data) in
    let b : IsBufferedFor a.0 before = subst (IsBuffered before) a.1 buffered in
    let near : IsNear a.0 before e = near_by a.0 before e is_data a.1 far in
    record {
      counted = k.repeat_zero;
      near = within a.0 before e b.sides.most_wide b.sides.most_high near;
      kept = not_lost a.0 before e near b;
      no_chance = no_chance n before e few none;
    }

data_read : (before : List Event) (c : Command) → IsSaidData before (Step c)
    → IsRead (mlterm_data before c) (Step c ∷ [])
data_read before c s =
    rw (s.counted, s.near, s.kept, s.no_chance) (record { goes_on = refl; drawn_is = refl })

-- ---- the other commands

raster_read : (n : ℕ) (before : List Event) (pan pad width height : ℕ)
    → Keeps n before (Step (Raster pan pad width height)) → IsBuffered before (raster_before before)
    → IsRead (mlterm before (Step (Raster pan pad width height)) None) []
raster_read n before pan pad width height k buffered =
    let e : Event = Step (Raster pan pad width height) in
    let none : raster_before before ≡ None =
    no_box (raster_before before) (raster_of e) (placed n before e k).once refl in
    let u : IsUnbuffered before = subst (IsBuffered before) none buffered in
    rw ((good_box n before pan pad width height k).pan_is, u.none) (record { goes_on = refl; drawn_is = refl })

as_read : (r q : Reads) (es : List Event) → r ≡ q → IsRead q es → IsRead r es
as_read r q es same read = subst (λ (p : Reads). IsRead p es) (sym same) read

coloured_read : (r : ℕ) (c : Parts) (defined : Command) → is_colour c ≡ true
    → define_and_select r (Some c) ≡ DrawsTwo defined (Select r)
    → IsRead (define_and_select r (Some (clamped c))) (Step defined ∷ Step (Select r) ∷ [])
coloured_read r c defined is same =
    as_read _ (DrawsTwo defined (Select r)) _
    (ap (λ (p : Parts). define_and_select r (Some p)) (clamped_same c is) ∙ same)
    (record { goes_on = refl; drawn_is = refl })

-- by the colour system
define_by : (r s x y z : ℕ) (one two : Bool) → (s == 1) ≡ one → (s == 2) ≡ two
    → gives_colour (made s x y z) ≡ true
    → IsRead (define_and_select r (nearest s x y z))
    (Step (Define r s x y z) ∷ Step (Select r) ∷ [])
define_by r s x y z true two one is gives =
    let first : s ≡ 1 = eqb-true s 1 one in
    let good : is_colour (Hls x y z) ≡ true = rw first at gives in
    rw first (coloured_read r (Hls x y z) (Define r 1 x y z) good refl)
define_by r s x y z false true one is gives =
    let second : s ≡ 2 = eqb-true s 2 is in
    let good : is_colour (Rgb x y z) ≡ true = rw second at gives in
    rw second (coloured_read r (Rgb x y z) (Define r 2 x y z) good refl)
define_by r s x y z false false one is gives = let no : false ≡ true = rw (one, is) at gives in cc

register_same : (n r : ℕ) → n ≤ 256 → nat_le n r ≡ false → mlterm_register r ≡ r
register_same n r few low =
    let below : r < n = leb-false n r low in
    let test : nat_lt r 1024 ≡ true = lt-ltb r 1024 (omega (arith, below, few)) in
    rw test refl

define_read : (n : ℕ) (before : List Event) (r s x y z : ℕ) → n ≤ 256 → Keeps n before (Step (Define r s x y z))
    → IsRead (mlterm before (Step (Define r s x y z)) None) (Step (Define r s x y z) ∷ Step (Select r) ∷ [])
unfolding breaks_colour_value breaks_register
define_read n before r s x y z few k =
    let gives : gives_colour (made s x y z) ≡ true = not-false _ k.colour_value in
    rw (register_same n r few k.register, not_nine s x y z gives)
    (define_by r s x y z (s == 1) (s == 2) refl refl gives)

select_read : (n : ℕ) (before : List Event) (r : ℕ) → n ≤ 256 → Keeps n before (Step (Select r))
    → IsRead (mlterm before (Step (Select r)) None) (Step (Select r) ∷ [])
unfolding breaks_register
select_read n before r few k = rw (register_same n r few k.register) (record { goes_on = refl; drawn_is = refl })

start_read : (mixed : Bool) → IsFalse mixed → IsRead (if mixed then Unsaid else Nothing) []
start_read true h = cc
start_read false h = record { goes_on = refl; drawn_is = refl }

-- ---- all events

by_kind : (n : ℕ) (before : List Event) (e : Event) → n ≤ 256 → BreaksNone n Uncovered before → Keeps n before e
    → IsFalse (breaks_far before e) → IsFalse (breaks_introducer e) → IsBuffered before (raster_before before)
    → IsRead (mlterm before e None) (mlterm_draws e)
unfolding breaks_introducer
by_kind n before (Start eight parameters) few none k far mixed buffered =
    start_read (may_mix (slice_index_or parameters.items 0 0) (slice_index_or parameters.items 1 0))
    (or_parts (nat_lt 9 (slice_index_or parameters.items 0 0)) _ mixed).1
by_kind n before (Step (Raster pan pad w h)) few none k far mixed buffered = raster_read n before pan pad w h k buffered
by_kind n before (Step (Define r s x y z)) few none k far mixed buffered = define_read n before r s x y z few k
by_kind n before (Step (Select r)) few none k far mixed buffered = select_read n before r few k
by_kind n before (Step (Sixel bits)) few none k far mixed buffered =
    data_read before (Sixel bits) (said_data n before (Step (Sixel bits)) few none k far buffered refl)
by_kind n before (Step (Repeat count bits)) few none k far mixed buffered =
    data_read before (Repeat count bits) (said_data n before (Step (Repeat count bits)) few none k far buffered refl)
by_kind n before (Step CarriageReturn) few none k far mixed buffered = record { goes_on = refl; drawn_is = refl }
by_kind n before (Step NextLine) few none k far mixed buffered = record { goes_on = refl; drawn_is = refl }
by_kind n before (Finish eight) few none k far mixed buffered = record { goes_on = refl; drawn_is = refl }

pub not_far : (before : List Event) (e : Event) → ¬ BreaksFor MlTerm before e → IsFalse (breaks_far before e)
not_far before e unbroken = (or_parts (breaks_far before e) (breaks_introducer e) (is_false _ unbroken)).0

pub mlterm_reads : (n : ℕ) (before : List Event) (e : Event) → n ≤ 256 → BreaksNone n Uncovered before
    → Keeps n before e → ¬ BreaksFor MlTerm before e → IsBuffered before (raster_before before)
    → IsRead (mlterm before e None) (mlterm_draws e)
mlterm_reads n before e few none k unbroken buffered =
    let parts = or_parts (breaks_far before e) (breaks_introducer e) (is_false _ unbroken) in
    by_kind n before e few none k parts.0 parts.1 buffered
