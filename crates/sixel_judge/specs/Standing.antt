-- The events that a checker has seen.
use Rattle.std.specs.Prelude.{◌≡◌, ℕ, ◌&&◌, Bool, true, false, not, Option, List, [], ◌∷◌, if◌then◌else◌}
use Rattle.std.specs.List.{AllByRecursion, list_any}
use Rattle.sixel_grammar.specs.declared.command.Event.{Event}
use Rattle.sixel_grammar.specs.declared.command.Event.TheVariants.{Start}
use Rattle.sixel_grammar.specs.declared.command.Placed.{Placed}
use Rattle.sixel_grammar.specs.Document.{events_of}
use Rattle.sixel_grammar.specs.Faults.{ArePrefix}
use Rattle.sixel_grammar.specs.Spelling.{IsSpellable}
use Rattle.sixel_model.specs.Events.{is_finish}
use Rattle.sixel_model.specs.Grids.{Grid}
use Rattle.sixel_model.specs.Profiles.{count_of}
use Rattle.sixel_model.specs.declared.profile.Profile.{Profile}
use Rattle.sixel_plane.specs.Covers.{kept_by}
use Rattle.sixel_judge.specs.declared.notes.Notes.{Notes}
use Rattle.sixel_judge.specs.declared.progress.Progress.{Progress}
use Rattle.sixel_judge.specs.declared.progress.Progress.TheVariants.{Fresh, Begun, Whole}
use Rattle.sixel_judge.specs.declared.verdict.Finding.{Finding}
use Rattle.sixel_judge.specs.Judging.{JudgesAfter}

abbrev pub is_start : Event → Bool
is_start (Start eight parameters) = true
is_start _ = false

-- the finish has come
abbrev pub is_whole : List Placed → Bool
is_whole seen = list_any (λ p. is_finish p.event) seen

-- the event may come next: first a start, then commands, then one finish, and nothing after it
abbrev pub expects : List Placed → Event → Bool
expects [] e = is_start e
expects (p ∷ ps) e = not (is_whole (p ∷ ps)) && not (is_start e)

-- the part of a document that the events have reached
abbrev pub progress_of : List Placed → Progress
progress_of [] = Fresh
progress_of (p ∷ ps) = if is_whole (p ∷ ps) then Whole else Begun

-- whether the event may come next, by that part
abbrev pub expects_from : Progress → Event → Bool
expects_from Fresh e = is_start e
expects_from Begun e = not (is_start e)
expects_from Whole e = false

abbrev pub is_whole_at : Progress → Bool
is_whole_at Fresh = false
is_whole_at Begun = false
is_whole_at Whole = true

-- the part after an event that was expected
abbrev pub progress_with : Event → Progress
progress_with e = if is_finish e then Whole else Begun

-- what a checker keeps: the first broken rule, or else what the rules need to know of the events; and the progress.
-- `keeps` says whether its grid has the registers that paint
pub record CheckerValue : Type 0 where
  pub keeps : Bool
  pub profile : Profile
  pub finding : Option Finding
  pub notes : Notes
  pub grid : Option Grid
  pub progress : Progress

-- the checker, for this many registers, has seen these events in order: none; or a start and commands; or a start,
-- commands and a finish
unfoldable pub StandsAfter : ℕ → CheckerValue → List Placed → Type 0
StandsAfter registers checker seen =
    (count_of checker.profile ≡ registers)
    × JudgesAfter (kept_by checker.keeps) checker.profile checker.finding checker.notes checker.grid seen
    × (checker.progress ≡ progress_of seen)
    × ArePrefix (events_of seen) × AllByRecursion IsSpellable (events_of seen)
