-- Documents that break one rule that a named terminal asks for, and no other.
use Rattle.std.specs.Prelude.{◌≢◌, ◌≤◌, ℕ, Bool, true, false, IsFalse, IsTrue, List, [], ◌∷◌}
use Rattle.sixel_grammar.specs.Document.{AreWhole}
use Rattle.sixel_grammar.specs.declared.command.Command.TheVariants.{Sixel, Repeat, Raster, Select, Define}
use Rattle.sixel_grammar.specs.declared.command.Command.TheVariants.{CarriageReturn, NextLine}
use Rattle.sixel_grammar.specs.declared.command.Event.{Event}
use Rattle.sixel_grammar.specs.declared.command.Event.TheVariants.{Start, Step, Finish}
use Rattle.sixel_model.specs.Positions.{HoldsAtPosition, HoldsNowhere}
use Rattle.sixel_model.specs.Rules.{BreaksNone, last_rule}
use Rattle.sixel_emulator_rules.specs.Asked.{BreaksAsked}
use Rattle.sixel_emulator_rules.specs.declared.rule.AskedRule.{AskedRule}
use Rattle.sixel_emulator_rules.specs.declared.rule.AskedRule.TheVariants.{RasterLate, Dropped, Stale, Large, Rows}
use Rattle.sixel_emulator_rules.specs.declared.rule.AskedRule.TheVariants.{Past, Hue}
use Rattle.sixel_emulator_rules.specs.declared.rule.AskedRule.TheVariants.{Far, Introducer, Bare, SpaceAfter}

-- the events of a string tell of the rule
abbrev pub is_of_events : AskedRule → Bool
is_of_events Bare = false
is_of_events SpaceAfter = false
is_of_events _ = true

-- what breaks the first rule, and no rule of portable pictures, breaks the second one too
abbrev pub goes_with : AskedRule → AskedRule → Bool
goes_with Far Past = true
goes_with _ _ = false

-- the document breaks the rule. It breaks no rule of portable pictures, and no other that a named terminal asks for,
-- but for what goes with it
pub record IsWitness (rule : AskedRule) (events : List Event) : Type 0 where
  pub whole : AreWhole events
  pub unbroken : (registers : ℕ) → 16 ≤ registers → BreaksNone registers last_rule events
  pub position : ℕ
  pub broken : HoldsAtPosition (BreaksAsked rule) events position
  pub alone : (m : AskedRule) → m ≢ rule → IsFalse (goes_with rule m) → HoldsNowhere (BreaksAsked m) events

-- ---- the documents

abbrev pub introducer : Event
introducer = Start false (record { items = 0 ∷ [] })

-- a box of one column and six rows
abbrev pub box : Event
box = Step (Raster 1 1 1 6)

-- register 0 is black
abbrev pub black : Event
black = Step (Define 0 2 0 0 0)

-- register 1 is red
abbrev pub red : Event
red = Step (Define 1 2 100 0 0)

abbrev pub select : Event
select = Step (Select 0)

-- six pixels
abbrev pub six_pixels : Event
six_pixels = Step (Sixel 63)

abbrev pub witness_of : AskedRule → List Event
-- #0;2;0;0;0"1;1;1;6#0~
witness_of RasterLate = introducer ∷ black ∷ box ∷ select ∷ six_pixels ∷ Finish false ∷ []
-- "1;1;1;6#1;2;100;0;0$#1~
witness_of Dropped =
    introducer ∷ box ∷ red ∷ Step CarriageReturn ∷ Step (Select 1) ∷ six_pixels ∷ Finish false ∷ []
-- "1;1;1;6#1#1;2;100;0;0~
witness_of Stale = introducer ∷ box ∷ Step (Select 1) ∷ red ∷ six_pixels ∷ Finish false ∷ []
-- "1;1;1001;6#0;2;0;0;0#0!1001~
witness_of Large =
    introducer ∷ Step (Raster 1 1 1001 6) ∷ black ∷ select ∷ Step (Repeat 1001 63) ∷ Finish false ∷ []
-- "1;1;1;1#0;2;0;0;0#0@
witness_of Rows = introducer ∷ Step (Raster 1 1 1 1) ∷ black ∷ select ∷ Step (Sixel 1) ∷ Finish false ∷ []
-- "1;1;1;6#0;2;0;0;0#0~-?
witness_of Past =
    introducer ∷ box ∷ black ∷ select ∷ six_pixels ∷ Step NextLine ∷ Step (Sixel 0) ∷ Finish false ∷ []
-- "1;1;1;6#0;1;30;50;100#0~
witness_of Hue = introducer ∷ box ∷ Step (Define 0 1 30 50 100) ∷ select ∷ six_pixels ∷ Finish false ∷ []
-- "1;1;1;6#0;2;0;0;0#0~-!2?
witness_of Far =
    introducer ∷ box ∷ black ∷ select ∷ six_pixels ∷ Step NextLine ∷ Step (Repeat 2 0) ∷ Finish false ∷ []
-- 15q"1;1;1;6#0;2;0;0;0#0~
witness_of Introducer =
    Start false (record { items = 15 ∷ [] }) ∷ box ∷ black ∷ select ∷ six_pixels ∷ Finish false ∷ []
-- no list of events breaks these: this one breaks nothing
witness_of Bare = introducer ∷ box ∷ black ∷ select ∷ six_pixels ∷ Finish false ∷ []
witness_of SpaceAfter = introducer ∷ box ∷ black ∷ select ∷ six_pixels ∷ Finish false ∷ []

-- ---- the laws

-- no other rule implies this one, and this one no other but for what goes with it, if events tell of it
abbrev pub EachRuleHasAWitness : Type 0
EachRuleHasAWitness = (rule : AskedRule) → IsTrue (is_of_events rule) → IsWitness rule (witness_of rule)

-- `Far` can't be broken alone: an event that breaks it breaks `Past` too, if no rule of portable pictures is broken
abbrev pub FarBreaksPast : Type 0
FarBreaksPast =
    (registers : ℕ) (events : List Event) (i : ℕ) → BreaksNone registers last_rule events
    → HoldsAtPosition (BreaksAsked Far) events i → HoldsAtPosition (BreaksAsked Past) events i
