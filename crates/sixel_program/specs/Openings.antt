-- Files opened by their names: what a folder tells of them.
use Rattle.std.specs.Prelude.{◌≡◌, ◌<◌, ℕ, ◌∷◌, ◌++◌, List, [], Option, Some, None, Result, Ok, Err, ⊤}
use Rattle.sixel_io.specs.Devices.{Change, SourceState}
use Rattle.sixel_messages.specs.declared.unopened.Unopened.{Unopened}
use Rattle.sixel_messages.specs.declared.unopened.Unopened.TheVariants.{NotText}
use Rattle.sixel_report.specs.Texts.{Text}
use Rattle.sixel_report.specs.declared.fault.RunFault.{RunFault}
use Rattle.sixel_report.specs.declared.fault.RunFault.TheVariants.{Read}

-- what opening a file gives, if that is told: the file's bytes, or why it can't be opened
abbrev pub Told : Type 0
Told = Option (Result (List ℕ) Unopened)

-- the bytes of the file, if they are told
abbrev pub bytes_told : Told → Option (List ℕ)
bytes_told (Some (Ok bytes)) = Some bytes
bytes_told _ = None

-- a folder as contracts see it: what it tells of each name, and the state of each file that it opened
pub record FolderView (O : Type 0) : Type 0 where
  pub opening : Text → Told
  pub state : O → SourceState

abbrev pub folder_view : {O : Type 0} → (Text → Told) → (O → SourceState) → FolderView O
folder_view opening state = record { opening = opening; state = state }

-- the bytes of the file with this name, if they are told
abbrev pub bytes_of : (Text → Told) → Text → Option (List ℕ)
bytes_of opening name = bytes_told (opening name)

-- ---- one file

-- the name has the character U+FFFD. Whatever isn't valid UTF-8 is replaced by it
abbrev pub IsNotText : Text → Type 0
IsNotText name = (before after : Text) × (name ≡ before ++ (0xEF ∷ 0xBF ∷ 0xBD ∷ []) ++ after)

-- as far as is told, the file opens (`None`), or can't be opened for this reason
abbrev pub OpensAs : Told → Option Unopened → Type 0
OpensAs None end = ⊤
OpensAs (Some (Ok bytes)) end = end ≡ None
OpensAs (Some (Err reason)) end = end ≡ Some reason

-- the file with this name was opened (`None`), or couldn't be for this reason
pub record IsOpening (told : Told) (name : Text) (end : Option Unopened) : Type 0 where
  -- no file is opened by a name that isn't valid UTF-8
  pub not_text : IsNotText name → end ≡ Some NotText
  -- for any other name it ends as the folder tells
  pub as_told : (IsNotText name → ⊥) → OpensAs told end

-- a call on the file that was opened under this name failed. As it was opened, it had the bytes that are told of it, and
-- no call on it had failed; as it ended, one had
pub record HasFailedFile {O : Type 0} (folder : FolderView O) (name : Text) : Type 0 where
  pub opened : O
  pub ended : O
  pub fresh : folder.state opened ≡ record { remaining = bytes_of folder.opening name; failures = 0 }
  pub failed : 0 < (folder.state ended).failures

-- no call on an input had failed, and then one did only if one on the file that was opened under this name failed
abbrev pub CountsOf : {O : Type 0} → FolderView O → Text → Change SourceState → Type 0
CountsOf folder name input = (input.old.failures ≡ 0) × (0 < input.new.failures → HasFailedFile folder name)

-- the answer is that a read failed only if a call on the file that was opened under this name failed
abbrev pub FailsWith : {O A : Type 0} → FolderView O → Text → Result A RunFault → Type 0
FailsWith folder name answer = answer ≡ Err Read → HasFailedFile folder name
