-- The model of foot says all of a list that breaks no rule.
use Rattle.std.proofs.Common.{◌≡◌, ℕ, zero, suc, ◌+◌, ◌<◌, ◌≤◌, ◌==◌, Bool, true, false, ◌&&◌, Option, Some, None}
use Rattle.std.proofs.Common.{List, [], length, take, refl, arith}
use Rattle.std.specs.Prelude.{slice_get, slice_index_or, if◌then◌else◌}
use Rattle.sixel_grammar.specs.declared.command.Command.{Command}
use Rattle.sixel_grammar.specs.declared.command.Command.TheVariants.{Raster, Select}
use Rattle.sixel_grammar.specs.declared.command.Event.{Event}
use Rattle.sixel_grammar.specs.declared.command.Event.TheVariants.{Start, Step, Finish}
use Rattle.sixel_model.specs.declared.colour.Parts.{Parts}
use Rattle.sixel_model.specs.declared.rule.Rule.TheVariants.{Uncovered}
use Rattle.sixel_model.specs.Events.{is_eight_bit}
use Rattle.sixel_model.specs.Positions.{earliest}
use Rattle.sixel_model.specs.Rules.{BreaksNone, last_rule, raster_before}
use Rattle.sixel_model.proofs.LastLemmas.{item_there}
use Rattle.sixel_model.proofs.LatestLemmas.{take_one_more}
use Rattle.sixel_model.proofs.RuleLemmas.{Keeps, keeps_at, none_drawn, seven_bits_at}
use Rattle.sixel_emulator.specs.declared.reading.Reads.TheVariants.{Nothing, Draws, Unsaid}
use Rattle.sixel_foot.specs.Foot.{counts_on_foot, cuts_on_foot, foot, foot_colour, foot_model, foot_register}
use Rattle.sixel_foot.specs.Foot.{foot_select, foot_size, has_begun_on_foot, is_last, spoils_on_foot}
use Rattle.sixel_emulator.specs.Readings.{IsSaid, IsUnsaid, is_unsaid_control}
use Rattle.sixel_emulator.specs.Readings.IsUnsaid.{Control, Behaviour}
use Rattle.sixel_emulator_rules_laws.proofs.SizeLemmas.{IsSized, raster_first, sized_none, sized_push}

pub sized_start : IsSized [] (raster_before [])
unfolding raster_before earliest
sized_start = sized_none

-- the events before a position
sized_at : (n : ℕ) (events : List Event) → BreaksNone n Uncovered events → (i : ℕ) → i ≤ length events
    → IsSized (take i events) (raster_before (take i events))
sized_at n events none zero le = sized_start
sized_at n events none (suc i) le =
    let e = item_there events i (omega (arith, le)) in
    rw (take_one_more events i e.0 e.1)
    (sized_push n (take i events) e.0 (keeps_at n events none i e.0 e.1)
    (sized_at n events none i (omega (arith, le))))

-- ---- the rule says what foot does

none_of_three : (a b c : Bool) → c ≡ false → (a && b && c) ≡ false
none_of_three true true c h = h
none_of_three true false c h = refl
none_of_three false b c h = refl

raster_says : (last spoils : Bool) → spoils ≡ false
    → (if last then Nothing else if spoils then Unsaid else Nothing) ≡ Unsaid → ⊥
raster_says true spoils h is = cc
raster_says false true h is = cc
raster_says false false h is = cc

introducer_says : (b : Bool) (c : Command) → (if b then Nothing else Draws c) ≡ Unsaid → ⊥
introducer_says true c is = cc
introducer_says false c is = cc

select_says : (before : List Event) (register : ℕ) (o : Option Parts) → foot_colour before (foot_register register) ≡ o
    → foot_select before register ≡ Unsaid → ⊥
select_says before register None on is = let no = rw on at is in cc
select_says before register (Some colour) on is = let no = rw on at is in cc

says : (n : ℕ) (before : List Event) (e : Event) (next : Option Event) → Keeps n before e
    → IsSized before (raster_before before) → foot before e next ≡ Unsaid → ⊥
says n before (Start eight parameters) next k s is =
    introducer_says (slice_index_or parameters.items 1 0 == 1) _ is
says n before (Step (Raster pan pad width height)) next k s is =
    raster_says (is_last next) (spoils_on_foot before width height)
    (none_of_three (counts_on_foot (foot_size before) width height) (cuts_on_foot (foot_size before) width height)
    (has_begun_on_foot before) (raster_first n before (Step (Raster pan pad width height)) k s refl)) is
says n before (Step (Select register)) next k s is = select_says before register _ refl is
says n before (Finish eight) next k s is = cc
says n before (Step _) next k s is = cc

-- ---- all positions

seven_bits : (e : Event) → is_eight_bit e ≡ false → is_unsaid_control foot_model e ≡ true → ⊥
seven_bits (Start true parameters) h is = cc
seven_bits (Start false parameters) h is = cc
seven_bits (Step command) h is = cc
seven_bits (Finish true) h is = cc
seven_bits (Finish false) h is = cc

position_says : (n : ℕ) (events : List Event) (i : ℕ) → BreaksNone n last_rule events → i < length events
    → IsUnsaid foot_model events i → ⊥
position_says n events i none lt (Control e here is) = seven_bits e (seven_bits_at n events none i e here) is
position_says n events i none lt (Behaviour goes is) =
    let e = item_there events i lt in
    let drawn : BreaksNone n Uncovered events = none_drawn n events none in
    says n (take i events) e.0 (slice_get events (i + 1)) (keeps_at n events drawn i e.0 e.1)
    (sized_at n events drawn i (omega (arith, lt))) (rw e.1 at is)

pub all_is_said : (n : ℕ) (events : List Event) → BreaksNone n last_rule events → IsSaid foot_model events
all_is_said n events none = λ i lt unsaid. position_says n events i none lt unsaid
