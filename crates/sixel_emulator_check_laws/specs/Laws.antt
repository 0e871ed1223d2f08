-- What the law says.
use Rattle.std.specs.Prelude.{◌≡◌, ℕ, true, false, List}
use Rattle.sixel_grammar.specs.declared.command.Placed.{Placed}
use Rattle.sixel_grammar.specs.Document.{Document, events_of}
use Rattle.sixel_omissions.specs.Omissions.{is_bare_at}
use Rattle.sixel_model.specs.declared.colour.Parts.{Parts}
use Rattle.sixel_model.specs.Rules.{BreaksNone, last_rule}
use Rattle.sixel_emulator_rules.specs.Asked.{BreaksNoneAsked, no_rules}
use Rattle.sixel_emulator_rules.specs.declared.terminals.Terminals.{Terminals}
use Rattle.sixel_differ.specs.Comparisons.{IsComparison, one_group}
use Rattle.sixel_differ.specs.Views.{AreViews}
use Rattle.sixel_differ.specs.declared.comparison.Comparison.{Comparison}
use Rattle.sixel_differ.specs.declared.view.Views.{Views}

-- the four of them, with each of their rules
abbrev pub all_terminals : Terminals
all_terminals = record { xterm = true; mlterm = true; foot = true; konsole = true; ignored = no_rules }

-- if a document breaks no rule of portable pictures, and none that one of the four terminals asks for, and each of its
-- selects has a number, each comparison of what they show of it, on any background, has them in one group
abbrev pub PortableOnAllIsTheSame : ℕ → Type 0
PortableOnAllIsTheSame registers =
    (background : Parts) (placed : List Placed) (bytes : List ℕ) (v : Views) (c : Comparison) → Document placed bytes
    → BreaksNone registers last_rule (events_of placed) → BreaksNoneAsked all_terminals (events_of placed)
    → ((i : ℕ) → is_bare_at bytes i ≡ false) → AreViews background bytes v → IsComparison v c → c ≡ one_group
