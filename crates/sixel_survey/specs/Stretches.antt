-- Stretches of data bytes, each a single sixel. Only contracts of private functions cite these.
use Rattle.std.specs.Prelude.{◌≡◌, ◌+◌, ◌-◌, ◌<◌, ◌++◌, ◌||◌, ◌&&◌, ℕ, zero, suc, Bool, true, false, not}
use Rattle.std.specs.Prelude.{Some, None, List, length, slice_index, take, if◌then◌else◌}
use Rattle.sixel_grammar.specs.Bytes.{is_data}
use Rattle.sixel_grammar.specs.Document.{events_of}
use Rattle.sixel_grammar.specs.Stretches.{sixels_from}
use Rattle.sixel_grammar.specs.declared.command.Command.TheVariants.{Sixel}
use Rattle.sixel_grammar.specs.declared.command.Event.{Event}
use Rattle.sixel_grammar.specs.declared.command.Event.TheVariants.{Step}
use Rattle.sixel_grammar.specs.declared.command.Placed.{Placed}
use Rattle.sixel_model.specs.Events.{is_painting}
use Rattle.sixel_model.specs.declared.rule.Rule.{Rule}
use Rattle.sixel_judge.specs.Verdicts.{capped}
use Rattle.sixel_judge.specs.declared.notes.Notes.{Notes}
use Rattle.sixel_judge.specs.Notes.{known_in, marked}
use Rattle.sixel_judge.specs.Counting.{IsHit}

-- each byte is data
abbrev pub AreSixels : List ℕ → Type 0
AreSixels stretch = (k : ℕ) → k < length stretch → is_data (slice_index stretch k) ≡ true

-- the events before, and then the sixels of the first k bytes; the first has this offset
abbrev pub with_sixels : List Placed → ℕ → List ℕ → ℕ → List Placed
with_sixels seen place stretch k = seen ++ sixels_from place (take k stretch)

-- the sixel of byte k
abbrev pub sixel_at : List ℕ → ℕ → Event
sixel_at stretch k = Step (Sixel (slice_index stretch k - 63))

-- the sixel of some byte of the first k paints
abbrev pub any_paints : List ℕ → ℕ → Bool
any_paints stretch zero = false
any_paints stretch (suc k) = is_painting (sixel_at stretch k) || any_paints stretch k

-- the notes after the sixels of the first k bytes
abbrev pub passed : Notes → List ℕ → ℕ → Notes
passed n stretch k = record n {
  column = capped (n.column + k);
  painted = if any_paints stretch k then marked n.painted (known_in n) else n.painted;
  early = n.early || (any_paints stretch k && not n.declared);
}

-- if `counts`, the rule counts at each sixel that paints, and at the others too if `blank_too`; else at none. It never
-- has a pixel
abbrev pub CountsIf : ℕ → Rule → List Placed → ℕ → List ℕ → Bool → Bool → Type 0
CountsIf registers rule seen place stretch counts blank_too =
    (k : ℕ) → k < length stretch
    → IsHit registers rule (events_of (with_sixels seen place stretch k)) (sixel_at stretch k)
    (if counts && (blank_too || is_painting (sixel_at stretch k)) then Some (record { pixel = None }) else None)
