-- On the palette that is made of the last definitions.
use Rattle.std.proofs.Common.{◌≡◌, ◌<◌, ◌≤◌, ℕ, true, Option, Some, None, List, length, get_or, refl, sym, ◌∙◌}
use Rattle.sixel_grammar.specs.declared.command.Event.{Event}
use Rattle.sixel_model.specs.declared.colour.Parts.{Parts}
use Rattle.sixel_model.specs.Rules.{BreaksNone, colour_by, colour_of, definition_of, gives_colour, last_rule}
use Rattle.sixel_model.specs.Rules.{palette_left}
use Rattle.sixel_model.proofs.LeftLemmas.{left_from_index}
use Rattle.sixel_model.proofs.RuleLemmas.{none_drawn}
use Rattle.sixel_judge.specs.declared.notes.Definition.{Definition as Stored}
use Rattle.sixel_judge.specs.declared.notes.Notes.{Notes}
use Rattle.sixel_judge.specs.Notes.{IsNotesAfter, colour_within, said, said_of}
use Rattle.sixel_judge.proofs.ColourLemmas.{definition_good, given}

-- ---- the colour of a register

pub colour_some : (registers r : ℕ) {n : Notes} {events : List Event} (d : Stored)
    → Some (said d) ≡ said_of n.definitions r → r < 256 → IsNotesAfter n events → BreaksNone registers last_rule events
    → colour_within d.system d.x d.y d.z ≡ colour_of events r
unfolding colour_of
colour_some registers r {events} d is lt s none =
    let defined : definition_of events r ≡ Some (said d) = sym (s.definitions_are r lt) ∙ sym is in
    let good : gives_colour (said d) ≡ true =
    rw defined at (definition_good registers r events (none_drawn registers events none)) in
    let c = given (colour_by (said d)) good in
    rw (defined, c.1, c.2) refl

pub colour_none : (r : ℕ) {n : Notes} {events : List Event} → None ≡ said_of n.definitions r → r < 256
    → IsNotesAfter n events → None ≡ colour_of events r
unfolding colour_of
colour_none r {events} is lt s =
    let undefined : definition_of events r ≡ None = sym (s.definitions_are r lt) ∙ sym is in
    rw undefined refl

-- ---- the first registers

-- the palette has these registers, and the first k of them have the colours of their last definitions
pub record IsLeftTo (registers k : ℕ) (palette : List (Option Parts)) (events : List Event) : Type 0 where
  pub long : length palette ≡ registers
  pub left : (r : ℕ) → r < k → get_or palette r None ≡ colour_of events r
  pub empty : (r : ℕ) → k ≤ r → r < registers → get_or palette r None ≡ None

pub left_all : {registers : ℕ} {palette : List (Option Parts)} {events : List Event}
    → IsLeftTo registers registers palette events → palette ≡ palette_left registers events
left_all {registers} {palette} {events} i = left_from_index registers events palette i.long i.left
