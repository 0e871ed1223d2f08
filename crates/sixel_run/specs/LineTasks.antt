-- How a check, a survey, a scan or a comparison ends that writes something for each of its items.
use Rattle.std.specs.Prelude.{◌≡◌, ◌≢◌, ◌⊎◌, ℕ, Bool, true, false, List, [], flat_map, take, Option, Some, IfSome, OnOk}
use Rattle.std.specs.Prelude.{Result, Ok, Err}
use Rattle.std.specs.Io.KnownBytes.{Appends, Consumes, IsAtEnd}
use Rattle.sixel_io.specs.Devices.{Change, SinkState, SourceState}
use Rattle.sixel_scan.specs.Scans.{IsOver}
use Rattle.sixel_emulator_check.specs.Laws.{IsFirstOf}
use Rattle.sixel_emulator_check.specs.declared.surveying.NamedSurvey.{NamedSurvey}
use Rattle.sixel_report.specs.declared.fault.RunFault.{RunFault}
use Rattle.sixel_report.specs.declared.fault.RunFault.TheVariants.{OutOfMemory, Read, Write}
use Rattle.sixel_report.specs.declared.item.Item.{Item}
use Rattle.sixel_report.specs.declared.task.Status.{Status}
use Rattle.sixel_report.specs.declared.task.Status.TheVariants.{Done, Asked, Broken, Differing, Noted, Surveyed, Unfit}
use Rattle.sixel_report.specs.declared.task.Task.{Task}
use Rattle.sixel_report.specs.declared.task.Task.TheVariants.{Check, Differ, Scan, Survey}
use Rattle.sixel_report.specs.Outputs.{CountsWrites, PutsText, failures_by}
use Rattle.sixel_run.specs.Outputs.{TakesMemory, Wrote}
use Rattle.sixel_report.specs.RuleSets.{rules_of}
use Rattle.sixel_report.specs.Texts.{Text, items_text}

-- whether the task is a check, a survey, a scan or a comparison
abbrev pub has_lines : Task → Bool
has_lines (Check profile terminals) = true
has_lines (Survey profile terminals) = true
has_lines (Scan profile eight) = true
has_lines (Differ background) = true
has_lines t = false

-- whether the task writes while it reads
abbrev pub scans : Task → Bool
scans (Scan profile eight) = true
scans t = false

-- these bytes were read, and these are left: nothing, or for a scan what is behind the stream
abbrev pub IsOverFor : Task → Option (List ℕ) → List ℕ → Type 0
IsOverFor (Scan profile eight) left bytes = IsOver left bytes
IsOverFor t left bytes = IsAtEnd left

-- a prefix of the bytes was read, perhaps none, and the rest is still to come; after an `Ok` it is over for the task
pub record ReadsOver (t : Task) (answer : Result Status RunFault) (old new : Option (List ℕ)) : Type 0 where
  pub bytes : List ℕ
  pub read : Consumes old new bytes
  pub ended : OnOk answer (IsOverFor t new bytes)

-- a task that found this answers it; or Write, if the output failed after all was read
abbrev pub EndsAs : Result Status RunFault → Result Status RunFault → Type 0
EndsAs found answer = (answer ≡ found) ⊎ ((status : Status) × (found ≡ Ok status) × (answer ≡ Err Write))

-- a task with lines and this answer put `written` of each of its items to the output. Their lines are what a
-- run of the task writes, and `found` is what that answers. After Write, which only a scan finds, they are the strings
-- up to the one that couldn't be written
pub record WritesItems (t : Task) (written : Item → Text) (answer : Result Status RunFault)
    (input : Change SourceState) (output : Change SinkState) : Type 0 where
  pub found : Result Status RunFault
  pub items : List Item
  pub wrote : IfSome input.old.remaining
      (λ bytes. Wrote t bytes input.new.remaining found (Some []) (Some (items_text items)))
  -- a task but a scan that is refused has no item
  pub refused : scans t ≡ false → (fault : RunFault) → found ≡ Err fault → items ≡ []
  pub unwritten : scans t ≡ false → found ≢ Err Write
  pub ends : EndsAs found answer
  pub put : PutsText answer output.old.taken output.new.taken (flat_map written items)
  pub memory : found ≡ Err OutOfMemory → TakesMemory t input.old.remaining
  pub over : ReadsOver t found input.old.remaining input.new.remaining
  pub reads : input.new.failures ≡ failures_by Read found input.old.failures
  pub writes : CountsWrites answer output.old.failures output.new.failures

-- the status after a survey: Done without an entry, else the first one's finding, and the rules of all
abbrev pub IsStatusOf : NamedSurvey → Status → Type 0
IsStatusOf survey Done = (survey.entries.items ≡ []) × (survey.asked.items ≡ [])
IsStatusOf survey (Surveyed first rules) =
    IsFirstOf survey.entries.items survey.asked.items first × (rules ≡ rules_of survey.entries.items survey.asked.items)
IsStatusOf survey (Broken finding) = ⊥
IsStatusOf survey (Asked finding) = ⊥
IsStatusOf survey (Noted note) = ⊥
IsStatusOf survey Differing = ⊥
IsStatusOf survey (Unfit wrapped) = ⊥
