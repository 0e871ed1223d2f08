use Rattle.std.proofs.Common.{◌≡◌, List, length}
use Rattle.sixel_grammar.specs.declared.command.Event.{Event}
use Rattle.sixel_model.specs.Profiles.{count_of}
use Rattle.sixel_model.specs.Rules.{BreaksNone, last_rule}
use Rattle.sixel_judge.specs.Notes.{IsNotesAfter}
use Rattle.sixel_judge.proofs.PaletteLemmas.{IsLeftTo}
use Rattle.sixel_judge.proofs.pixels.left_palette.Given as goal

abbrev pub invariant-loop-register : goal.invariant-loop-register
invariant-loop-register l =
    (length l.palette ≡ count_of l.fn.profile)
    × ((events : List Event) → IsNotesAfter l.notes events → BreaksNone (count_of l.fn.profile) last_rule events
    → IsLeftTo (count_of l.fn.profile) l.register l.palette events)
