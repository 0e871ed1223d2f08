-- Documents that break one rule that a named terminal asks for, and no other.
use Rattle.std.proofs.Common.{◌≡◌, ◌≢◌, ◌<◌, ◌≤◌, ◌||◌, inl, inr, ℕ, zero, suc, Bool, true, false, Option, Some, None}
use Rattle.std.proofs.Common.{List, [], ◌∷◌, ◌++◌, ◌⊎◌, length, refl, ap, ◌∙◌, arith}
use Rattle.std.specs.Prelude.{IsFalse, IsTrue, nat_le}
use Rattle.std.specs.List.{AllByRecursion}
use Rattle.std.specs.Option.{option_map_or}
use Rattle.std.proofs.lemmas.Bool.{cases_lt, le-leb, leb-true}
use Rattle.sixel_grammar.specs.Document.{AreWhole}
use Rattle.sixel_grammar.specs.declared.command.Command.TheVariants.{Sixel, Repeat, Raster, Select, Define}
use Rattle.sixel_grammar.specs.declared.command.Command.TheVariants.{CarriageReturn, NextLine}
use Rattle.sixel_grammar.specs.declared.command.Event.{Event}
use Rattle.sixel_grammar.specs.declared.command.Event.TheVariants.{Start, Step, Finish}
use Rattle.sixel_model.specs.Events.{named_by}
use Rattle.sixel_model.specs.Geometry.{band, column, covers, falls, touches}
use Rattle.sixel_model.specs.Positions.{HoldsAtPosition, HoldsNowhere, any_at, any_below, at_position, earliest}
use Rattle.sixel_model.specs.Positions.{last_at}
use Rattle.sixel_model.specs.Positions.{last_below, latest, passes_at, since}
use Rattle.sixel_model.specs.Rules.{Breaks, BreaksNone, BreaksOutside, BreaksUncovered, breaks_box_size}
use Rattle.sixel_model.specs.Rules.{breaks_colour_value, breaks_eight_bit, breaks_ratio, breaks_raster_first}
use Rattle.sixel_model.specs.Rules.{breaks_raster_twice, breaks_redefined, breaks_register, breaks_repeat_zero}
use Rattle.sixel_model.specs.Rules.{breaks_undefined, breaks_unselected, colour_of, definition_of, is_covered}
use Rattle.sixel_model.specs.Rules.{is_painted_in, known, last_rule, raster_before}
use Rattle.sixel_model.specs.declared.rule.Rule.{Rule}
use Rattle.sixel_model.specs.declared.rule.Rule.TheVariants.{Register}
use Rattle.sixel_model.proofs.LastLemmas.{passes_there}
use Rattle.sixel_model.proofs.PositionLemmas.{holds_within}
use Rattle.sixel_judge.proofs.DecideLemmas.{blank_first, blank_searchable, blank_somewhere, both_decided}
use Rattle.sixel_judge.proofs.DecideLemmas.{broken_decided}
use Rattle.sixel_judge.proofs.DecideLemmas.{broken_or_none, decided_by, falls_searchable, first_of, held_decided}
use Rattle.sixel_judge.proofs.DecideLemmas.{outside_decided, outside_first, position_decided, rule_decided}
use Rattle.sixel_judge.proofs.DecideLemmas.{uncovered_decided}
use Rattle.sixel_check_laws.proofs.OnePixel.{second_of}
use Rattle.sixel_judge.proofs.SearchLemmas.{decide_true, first_point, in_row, least_below, least_here, least_more}
use Rattle.sixel_judge.proofs.SearchLemmas.{row_decided}
use Rattle.sixel_emulator_rules.specs.Asked.{BreaksAsked, breaks_dropped, breaks_far, breaks_hue, breaks_large}
use Rattle.sixel_emulator_rules.specs.Asked.{breaks_introducer, breaks_past, breaks_raster_late, breaks_rows}
use Rattle.sixel_emulator_rules.specs.Stale.{IsStale, colour_at_select}
use Rattle.sixel_emulator_rules_laws.specs.Witnesses.{EachRuleHasAWitness, black, box, goes_with}
use Rattle.sixel_emulator_rules_laws.specs.Witnesses.{introducer, is_of_events, red, select, six_pixels, witness_of}
use Rattle.sixel_emulator_rules_laws.proofs.FirstLemmas.{IsNoDefinition, IsNoSelect, parts_define_first}
use Rattle.sixel_emulator_rules_laws.proofs.StaleLemmas.{first_is_not_stale}
use Rattle.sixel_emulator_rules.specs.declared.rule.AskedRule.{AskedRule}
use Rattle.sixel_emulator_rules.specs.declared.rule.AskedRule.TheVariants.{RasterLate, Dropped, Stale, Large, Rows}
use Rattle.sixel_emulator_rules.specs.declared.rule.AskedRule.TheVariants.{Past, Hue}
use Rattle.sixel_emulator_rules.specs.declared.rule.AskedRule.TheVariants.{Far, Introducer, Bare, SpaceAfter}

-- ---- more registers

fewer : (registers : ℕ) (o : Option ℕ) → 16 ≤ registers → option_map_or (λ r. nat_le registers r) o false ≡ true
    → option_map_or (λ r. nat_le 16 r) o false ≡ true
fewer registers None le h = h
fewer registers (Some r) le h =
    let high : registers ≤ r = leb-true registers r h in
    le-leb 16 r (omega (arith, le, high))

breaks_less : (registers : ℕ) (rule : Rule) (before : List Event) (e : Event) → 16 ≤ registers
    → Breaks registers rule before e → Breaks 16 rule before e
unfolding Breaks breaks_register
breaks_less registers Register before e le h = fewer registers (named_by e) le h
breaks_less registers _ before e le h = h

none_less : (registers : ℕ) (events : List Event) → 16 ≤ registers → BreaksNone 16 last_rule events
    → BreaksNone registers last_rule events
unfolding BreaksNone
none_less registers events le none rule within i h =
    none rule within i
    (record { item = h.item; here = h.here; holds = breaks_less registers rule _ h.item le h.holds })

-- ---- by computation, each rule is tested at each event

-- this one has 6,006 points
unbroken_large : BreaksNone 16 last_rule (witness_of Large)
unfolding decided_by falls_searchable blank_searchable first_of outside_first blank_first outside_decided
    blank_somewhere both_decided uncovered_decided rule_decided held_decided position_decided broken_decided
    broken_or_none decide_true least_here least_more least_below in_row row_decided
    first_point Breaks
    BreaksOutside BreaksUncovered breaks_box_size breaks_colour_value breaks_eight_bit breaks_ratio
    breaks_raster_first breaks_raster_twice breaks_redefined breaks_register breaks_repeat_zero breaks_undefined
    breaks_unselected definition_of is_covered is_painted_in known raster_before band column covers falls touches any_at
    any_below earliest latest passes_at since
unbroken_large = second_of (broken_or_none 16 (witness_of Large)) refl

pub unbroken_16 : (rule : AskedRule) → BreaksNone 16 last_rule (witness_of rule)
unfolding decided_by falls_searchable blank_searchable first_of outside_first blank_first outside_decided
    blank_somewhere both_decided uncovered_decided rule_decided held_decided position_decided broken_decided
    broken_or_none decide_true least_here least_more least_below in_row row_decided
    first_point Breaks
    BreaksOutside BreaksUncovered breaks_box_size breaks_colour_value breaks_eight_bit breaks_ratio
    breaks_raster_first breaks_raster_twice breaks_redefined breaks_register breaks_repeat_zero breaks_undefined
    breaks_unselected definition_of is_covered is_painted_in known raster_before band column covers falls touches any_at
    any_below earliest latest passes_at since
unbroken_16 RasterLate = second_of (broken_or_none 16 (witness_of RasterLate)) refl
unbroken_16 Dropped = second_of (broken_or_none 16 (witness_of Dropped)) refl
unbroken_16 Stale = second_of (broken_or_none 16 (witness_of Stale)) refl
unbroken_16 Large = unbroken_large
unbroken_16 Rows = second_of (broken_or_none 16 (witness_of Rows)) refl
unbroken_16 Past = second_of (broken_or_none 16 (witness_of Past)) refl
unbroken_16 Hue = second_of (broken_or_none 16 (witness_of Hue)) refl
unbroken_16 Far = second_of (broken_or_none 16 (witness_of Far)) refl
unbroken_16 Introducer = second_of (broken_or_none 16 (witness_of Introducer)) refl
unbroken_16 Bare = second_of (broken_or_none 16 (witness_of Bare)) refl
unbroken_16 SpaceAfter = second_of (broken_or_none 16 (witness_of SpaceAfter)) refl

-- ---- the others

or_false : (a b : Bool) → (a || b) ≡ false → (a ≡ false) × (b ≡ false)
or_false true b h = cc
or_false false b h = (refl, h)

pub none_below : (n : ℕ) (p : ℕ → Bool) (i : ℕ) → any_below n p ≡ false → i < n → p i ≡ false
unfolding any_below
none_below zero p i h lt = absurd (omega (arith, lt))
none_below (suc n) p i h lt =
    let both = or_false (p n) (any_below n p) h in
    elim (cases_lt i n) [
      | inl below ↦ none_below n p i both.1 below
      | inr above ↦ (let same : i ≡ n = omega (arith, lt, above) in ap p same ∙ both.0)
    ]

fails : (b : Bool) → b ≡ true → b ≡ false → ⊥
fails b t f = cc

nowhere : (p : List Event → Event → Bool) (events : List Event) → any_at p events ≡ false
    → HoldsNowhere (λ before e. IsTrue (p before e)) events
unfolding any_at
nowhere p events none i h =
    fails (passes_at p events i) (passes_there p events i h.item h.here ∙ h.holds)
    (none_below (length events) (passes_at p events) i none
    (holds_within (λ before e. IsTrue (p before e)) events i h))

-- ---- the rules that test an event

-- the test of the rule, if it is one
abbrev tests : AskedRule → List Event → Event → Bool
tests RasterLate before e = breaks_raster_late before e
tests Dropped before e = breaks_dropped before e
tests Stale before e = false
tests Large before e = breaks_large e
tests Rows before e = breaks_rows e
tests Past before e = breaks_past before e
tests Hue before e = breaks_hue e
tests Far before e = breaks_far before e
tests Introducer before e = breaks_introducer e
tests Bare before e = false
tests SpaceAfter before e = false

-- no other one passes anywhere, but for what goes with the rule
others : (rule m : AskedRule) → IsTrue (is_of_events rule)
    → (m ≡ rule) ⊎ (any_at (tests m) (witness_of rule) ≡ goes_with rule m)
unfolding breaks_raster_late breaks_dropped breaks_large breaks_rows breaks_past breaks_hue breaks_far breaks_introducer
    any_at any_below passes_at raster_before earliest latest band column since
others RasterLate RasterLate told = inl refl
others RasterLate _ told = inr refl
others Dropped Dropped told = inl refl
others Dropped _ told = inr refl
others Stale Stale told = inl refl
others Stale _ told = inr refl
others Large Large told = inl refl
others Large _ told = inr refl
others Rows Rows told = inl refl
others Rows _ told = inr refl
others Past Past told = inl refl
others Past _ told = inr refl
others Hue Hue told = inl refl
others Hue _ told = inr refl
others Far Far told = inl refl
others Far _ told = inr refl
others Introducer Introducer told = inl refl
others Introducer _ told = inr refl
others Bare _ told = absurd cc
others SpaceAfter _ told = absurd cc

-- ---- definitions that come first aren't stale

-- the documents of which the definitions come first, cut behind them
early : (xs ys : List Event) → AllByRecursion IsNoSelect xs → AllByRecursion IsNoDefinition ys
    → HoldsNowhere IsStale (xs ++ ys)
early xs ys unselected undefined = first_is_not_stale (xs ++ ys) (parts_define_first xs ys unselected undefined)

abbrev ending : List Event
ending = select ∷ six_pixels ∷ Finish false ∷ []

not_stale : (rule : AskedRule) → IsTrue (is_of_events rule) → Stale ≢ rule → HoldsNowhere IsStale (witness_of rule)
not_stale RasterLate told other =
    early (introducer ∷ black ∷ box ∷ []) ending (refl, (refl, (refl, tt))) (refl, (refl, (refl, tt)))
not_stale Dropped told other =
    early (introducer ∷ box ∷ red ∷ Step CarriageReturn ∷ []) (Step (Select 1) ∷ six_pixels ∷ Finish false ∷ [])
    (refl, (refl, (refl, (refl, tt)))) (refl, (refl, (refl, tt)))
not_stale Stale told other = absurd (other refl)
not_stale Large told other =
    early (introducer ∷ Step (Raster 1 1 1001 6) ∷ black ∷ []) (select ∷ Step (Repeat 1001 63) ∷ Finish false ∷ [])
    (refl, (refl, (refl, tt))) (refl, (refl, (refl, tt)))
not_stale Rows told other =
    early (introducer ∷ Step (Raster 1 1 1 1) ∷ black ∷ []) (select ∷ Step (Sixel 1) ∷ Finish false ∷ [])
    (refl, (refl, (refl, tt))) (refl, (refl, (refl, tt)))
not_stale Past told other =
    early (introducer ∷ box ∷ black ∷ [])
    (select ∷ six_pixels ∷ Step NextLine ∷ Step (Sixel 0) ∷ Finish false ∷ []) (refl, (refl, (refl, tt)))
    (refl, (refl, (refl, (refl, (refl, tt)))))
not_stale Hue told other =
    early (introducer ∷ box ∷ Step (Define 0 1 30 50 100) ∷ []) ending (refl, (refl, (refl, tt)))
    (refl, (refl, (refl, tt)))
not_stale Far told other =
    early (introducer ∷ box ∷ black ∷ [])
    (select ∷ six_pixels ∷ Step NextLine ∷ Step (Repeat 2 0) ∷ Finish false ∷ []) (refl, (refl, (refl, tt)))
    (refl, (refl, (refl, (refl, (refl, tt)))))
not_stale Introducer told other =
    early (Start false (record { items = 15 ∷ [] }) ∷ box ∷ black ∷ []) ending (refl, (refl, (refl, tt)))
    (refl, (refl, (refl, tt)))
not_stale Bare told other = cc
not_stale SpaceAfter told other = cc

-- ---- alone

alone_in : (events : List Event) (m : AskedRule) → (m ≡ Stale → HoldsNowhere IsStale events)
    → any_at (tests m) events ≡ false → HoldsNowhere (BreaksAsked m) events
alone_in events RasterLate fresh none = nowhere breaks_raster_late events none
alone_in events Dropped fresh none = nowhere breaks_dropped events none
alone_in events Stale fresh none = fresh refl
alone_in events Large fresh none = nowhere (λ before e. breaks_large e) events none
alone_in events Rows fresh none = nowhere (λ before e. breaks_rows e) events none
alone_in events Past fresh none = nowhere breaks_past events none
alone_in events Hue fresh none = nowhere (λ before e. breaks_hue e) events none
alone_in events Far fresh none = nowhere breaks_far events none
alone_in events Introducer fresh none = nowhere (λ before e. breaks_introducer e) events none
alone_in events Bare fresh none = λ i h. h.holds
alone_in events SpaceAfter fresh none = λ i h. h.holds

alone : (rule m : AskedRule) → IsTrue (is_of_events rule) → m ≢ rule → IsFalse (goes_with rule m)
    → HoldsNowhere (BreaksAsked m) (witness_of rule)
alone rule m told other apart = elim (others rule m told) [
  | inl same ↦ absurd (other same)
  | inr none ↦ alone_in (witness_of rule) m (λ stale. not_stale rule told (λ same. other (stale ∙ same))) (none ∙ apart)
]

-- the document that breaks nothing
clean : (m : AskedRule) → any_at (tests m) (witness_of Bare) ≡ false
unfolding breaks_raster_late breaks_dropped breaks_large breaks_rows breaks_past breaks_hue breaks_far breaks_introducer
    any_at any_below passes_at raster_before earliest latest band column since
clean RasterLate = refl
clean Dropped = refl
clean Stale = refl
clean Large = refl
clean Rows = refl
clean Past = refl
clean Hue = refl
clean Far = refl
clean Introducer = refl
clean Bare = refl
clean SpaceAfter = refl

pub bare_alone : (m : AskedRule) → HoldsNowhere (BreaksAsked m) (witness_of Bare)
bare_alone m =
    alone_in (witness_of Bare) m
    (λ stale. early (introducer ∷ box ∷ black ∷ []) ending (refl, (refl, (refl, tt))) (refl, (refl, (refl, tt))))
    (clean m)

pub unbroken_for : (registers : ℕ) (rule : AskedRule) → 16 ≤ registers
    → BreaksNone registers last_rule (witness_of rule)
unbroken_for registers rule le = none_less registers (witness_of rule) le (unbroken_16 rule)

-- ---- the rule itself

abbrev position_of : AskedRule → ℕ
position_of RasterLate = 2
position_of Dropped = 3
position_of Stale = 4
position_of Large = 1
position_of Rows = 1
position_of Past = 6
position_of Hue = 2
position_of Far = 6
position_of Introducer = 0
position_of Bare = 0
position_of SpaceAfter = 0

broken_there : (rule : AskedRule) → IsTrue (is_of_events rule)
    → HoldsAtPosition (BreaksAsked rule) (witness_of rule) (position_of rule)
unfolding breaks_raster_late breaks_dropped breaks_large breaks_rows breaks_past breaks_hue breaks_far breaks_introducer
    known colour_of definition_of colour_at_select last_at last_below at_position any_at any_below passes_at
    raster_before earliest latest band column since
broken_there RasterLate told = record { item = box; here = refl; holds = refl }
broken_there Dropped told = record { item = Step CarriageReturn; here = refl; holds = refl }
broken_there Stale told = record {
  item = six_pixels;
  here = refl;
  holds = record { register = 1; painting = refl; is_known = refl; differs = λ same. cc };
}
broken_there Large told = record { item = Step (Raster 1 1 1001 6); here = refl; holds = refl }
broken_there Rows told = record { item = Step (Raster 1 1 1 1); here = refl; holds = refl }
broken_there Past told = record { item = Step (Sixel 0); here = refl; holds = refl }
broken_there Hue told = record { item = Step (Define 0 1 30 50 100); here = refl; holds = refl }
broken_there Far told = record { item = Step (Repeat 2 0); here = refl; holds = refl }
broken_there Introducer told = record { item = Start false (record { items = 15 ∷ [] }); here = refl; holds = refl }
broken_there Bare told = cc
broken_there SpaceAfter told = cc

-- ---- all

whole_of : (rule : AskedRule) → AreWhole (witness_of rule)
whole_of RasterLate = refl
whole_of Dropped = refl
whole_of Stale = refl
whole_of Large = refl
whole_of Rows = refl
whole_of Past = refl
whole_of Hue = refl
whole_of Far = refl
whole_of Introducer = refl
whole_of Bare = refl
whole_of SpaceAfter = refl

pub each_rule_has_a_witness : EachRuleHasAWitness
each_rule_has_a_witness rule told = record {
  whole = whole_of rule;
  unbroken = λ registers le. unbroken_for registers rule le;
  position = position_of rule;
  broken = broken_there rule told;
  alone = λ m other apart. alone rule m told other apart;
}
