-- What an asking has found while a document is read.
use Rattle.std.specs.Prelude.{◌≡◌, ◌++◌, ◌∷◌, ◌<◌, ◌≤◌, ℕ, IsTrue, List, [], Option, Some, None, slice_get, take}
use Rattle.std.specs.Option.{option_map}
use Rattle.sixel_grammar.specs.Document.{events_of}
use Rattle.sixel_grammar.specs.declared.command.Event.{Event}
use Rattle.sixel_grammar.specs.declared.command.Placed.{Placed}
use Rattle.sixel_model.specs.Positions.{HoldsAtPosition, HoldsNowhere}
use Rattle.sixel_model.specs.Rules.{Breaks}
use Rattle.sixel_model.specs.declared.rule.Rule.TheVariants.{Register}
use Rattle.sixel_emulator_rules.specs.Asked.{BreaksAsked, BreaksNoneAsked, IsFirstAsked, is_asked, number_of}
use Rattle.sixel_emulator_rules.specs.Counts.{IsCalmBefore}
use Rattle.sixel_emulator_rules.specs.Notes.{IsNotesAfter}
use Rattle.sixel_emulator_rules.specs.declared.asking.AskedFinding.{AskedFinding}
use Rattle.sixel_emulator_rules.specs.declared.asking.Asking.{Asking}
use Rattle.sixel_emulator_rules.specs.declared.notes.Notes.{Notes}
use Rattle.sixel_emulator_rules.specs.declared.rule.AskedRule.{AskedRule}
use Rattle.sixel_emulator_rules.specs.declared.terminals.Terminals.{Terminals}

abbrev pub placed_at : ℕ → Event → Placed
placed_at place e = record { place = place; event = e }

abbrev pub found_at : ℕ → AskedRule → AskedFinding
found_at place rule = record { rule = rule; place = place }

-- no select and no definition names a register above 255
abbrev pub NamesWithin : List Event → Type 0
NamesWithin events = HoldsNowhere (Breaks 256 Register) events

-- no event breaks a rule that is asked for, unless an event before it names a register above 255
abbrev pub BreaksNoneWithin : Terminals → List Event → Type 0
BreaksNoneWithin t events =
    (rule : AskedRule) (i : ℕ) → IsTrue (is_asked t rule) → NamesWithin (take i events)
    → ¬ HoldsAtPosition (BreaksAsked rule) events i

-- ---- what is kept while events come

-- the finding is the first, unless an event before it names a register above 255
pub record IsFound (t : Terminals) (placed : List Placed) (f : AskedFinding) : Type 0 where
  pub before : List Placed
  pub event : Event
  pub rest : List Placed
  pub are : placed ≡ before ++ placed_at f.place event ∷ rest
  pub asked : IsTrue (is_asked t f.rule)
  pub broken : NamesWithin (events_of before) → BreaksAsked f.rule (events_of before) event
  pub none_earlier : BreaksNoneWithin t (events_of before)
  pub none_smaller : (m : AskedRule) → number_of m < number_of f.rule → IsTrue (is_asked t m)
      → NamesWithin (events_of before) → ¬ BreaksAsked m (events_of before) event

abbrev pub HasAskedBy : Terminals → Notes → Option AskedFinding → List Placed → Type 0
HasAskedBy t notes None placed = IsNotesAfter notes (events_of placed) × BreaksNoneWithin t (events_of placed)
HasAskedBy t notes (Some f) placed = IsFound t placed f

-- what is found in these events
abbrev pub HasFound : Asking → List Placed → Type 0
HasFound a placed = HasAskedBy a.terminals a.notes a.finding placed

-- these events were taken, and no data command that ends before `calm` can break a rule
abbrev pub HasAsked : Asking → List Placed → Type 0
HasAsked a placed = HasFound a placed × IsCalmBefore a.terminals a.notes a.calm

-- the same after any that had taken none at first, for the same terminals
abbrev pub HasAskedOn : Asking → Asking → List Placed → Type 0
HasAskedOn first now seen = (now.terminals ≡ first.terminals) × (HasAsked first [] → HasAsked now seen)

-- what had taken some events has now taken those and `more`, for the same terminals
abbrev pub TakesOn : Asking → Asking → List Placed → Type 0
TakesOn old new more =
    (new.terminals ≡ old.terminals) × ((seen : List Placed) → HasAsked old seen → HasAsked new (seen ++ more))

-- ---- what is found

-- the finding is at position i; it is exact if no event before it names a register above 255
pub record IsFindingAt (t : Terminals) (placed : List Placed) (f : AskedFinding) (i : ℕ) : Type 0 where
  pub place : option_map (λ (p : Placed). p.place) (slice_get placed i) ≡ Some f.place
  pub earlier : (k : ℕ) → k ≤ i → NamesWithin (take k (events_of placed))
      → BreaksNoneAsked t (take k (events_of placed))
  pub first : NamesWithin (take i (events_of placed)) → IsFirstAsked t (events_of placed) f.rule i

-- the answer to what the terminals ask of these events: the first broken rule, or that none is broken. It is exact if
-- no event names a register above 255
abbrev pub IsAnswer : Terminals → List Placed → Option AskedFinding → Type 0
IsAnswer t placed None =
    (k : ℕ) → NamesWithin (take k (events_of placed)) → BreaksNoneAsked t (take k (events_of placed))
IsAnswer t placed (Some f) = (i : ℕ) × IsFindingAt t placed f i
