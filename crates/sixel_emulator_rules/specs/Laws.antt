-- What the answer says of documents that break no rule of portable pictures.
use Rattle.std.specs.Prelude.{◌≤◌, ℕ, List, None, take}
use Rattle.sixel_grammar.specs.Document.{events_of}
use Rattle.sixel_grammar.specs.declared.command.Event.{Event}
use Rattle.sixel_grammar.specs.declared.command.Placed.{Placed}
use Rattle.sixel_model.specs.Rules.{BreaksNone, last_rule}
use Rattle.sixel_emulator_rules.specs.Asked.{BreaksNoneAsked, IsFirstAsked}
use Rattle.sixel_emulator_rules.specs.Asking.{IsAnswer, IsFindingAt, NamesWithin}
use Rattle.sixel_emulator_rules.specs.declared.asking.AskedFinding.{AskedFinding}
use Rattle.sixel_emulator_rules.specs.declared.terminals.Terminals.{Terminals}

-- a list that breaks no rule, with at most 256 registers, names no register above 255
abbrev pub UnbrokenNamesWithin : Type 0
UnbrokenNamesWithin =
    (registers : ℕ) (events : List Event) → registers ≤ 256 → BreaksNone registers last_rule events
    → NamesWithin events

-- if nothing is found in such a list, it breaks none of the rules that the terminals ask for
abbrev pub NoneIsExact : Type 0
NoneIsExact =
    (registers : ℕ) (t : Terminals) (placed : List Placed) → registers ≤ 256
    → BreaksNone registers last_rule (events_of placed) → IsAnswer t placed None
    → BreaksNoneAsked t (events_of placed)

-- if the events before the finding are such a list, it is the first
abbrev pub FirstIsExact : Type 0
FirstIsExact =
    (registers : ℕ) (t : Terminals) (placed : List Placed) (f : AskedFinding) (i : ℕ) → registers ≤ 256
    → BreaksNone registers last_rule (take i (events_of placed)) → IsFindingAt t placed f i
    → IsFirstAsked t (events_of placed) f.rule i

-- and the first of these events, if they are such a list, break none of the rules that the terminals ask for
abbrev pub NoneIsEarlier : Type 0
NoneIsEarlier =
    (registers : ℕ) (t : Terminals) (placed : List Placed) (f : AskedFinding) (i k : ℕ) → registers ≤ 256 → k ≤ i
    → BreaksNone registers last_rule (take k (events_of placed)) → IsFindingAt t placed f i
    → BreaksNoneAsked t (take k (events_of placed))
