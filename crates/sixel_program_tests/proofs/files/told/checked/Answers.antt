use Rattle.std.proofs.Common.{◌≡◌, ◌∙◌, ℕ, Bool, false, if◌then◌else◌, List, [], ◌∷◌, ◌++◌, Option, Some, Ok, Err, ap}
use Rattle.std.proofs.Common.{refl, subst}
use Rattle.std.specs.Prelude.{map}
use Rattle.std.specs.List.{All}
use Rattle.std.specs.Str.{bytes_eq}
use Rattle.std.specs.String.{string_bytes}
use Rattle.std.proofs.lemmas.List.Elements.{All-head}
use Rattle.std.proofs.lemmas.Slice.Eq.{bytes_eq-Decides}
use Rattle.sixel_model.specs.declared.profile.Profile.TheVariants.{Registers16}
use Rattle.sixel_program.specs.Files.{IsDoneOver, is_dash, names_read, told_of}
use Rattle.sixel_program.specs.Openings.{Told, bytes_told}
use Rattle.sixel_messages.specs.declared.unopened.Unopened.TheVariants.{NotFound}
use Rattle.sixel_run.specs.Outputs.{Gives}
use Rattle.sixel_report.specs.Texts.{Text}
use Rattle.sixel_emulator_check.specs.Laws.{none}
use Rattle.sixel_emulator_check.specs.declared.verdict.NamedVerdict.TheVariants as verdict
use Rattle.sixel_report.specs.Exits.{exit_for_answer}
use Rattle.sixel_report.specs.declared.exit.Exit.TheVariants as exit
use Rattle.sixel_report.specs.declared.task.Status.{Status}
use Rattle.sixel_report.specs.declared.task.Status.TheVariants.{Done, Noted, Asked, Broken, Surveyed, Unfit, Differing}
use Rattle.sixel_report.specs.declared.task.Task.{Task}
use Rattle.sixel_report.specs.declared.task.Task.TheVariants.{Check}
use Rattle.sixel_program_tests.proofs.files.told.checked.Goals as goal

abbrev check : Task
check = Check Registers16 none

-- a check that is done has no note
no_note : (bytes : List ℕ) (text : Text) (found : Status) → exit_for_answer (Ok found) ≡ exit.Done
    → Gives check bytes text (Ok found) → Gives check bytes text (Ok Done)
no_note bytes text Done is gives = gives
no_note bytes text (Noted note) is (events, document, (verdict.Portable picture, judged, same, status)) =
    let no : Noted note ≡ Done = status in cc
no_note bytes text (Noted note) is (events, document, (verdict.Broken finding, judged, same, status)) =
    let no : Noted note ≡ Broken finding = status in cc
no_note bytes text (Noted note) is (events, document, (verdict.Asked finding, judged, same, status)) =
    let no : Noted note ≡ Asked finding = status in cc
no_note bytes text (Broken finding) is gives = let no : exit.Broken ≡ exit.Done = is in cc
no_note bytes text (Asked finding) is gives = let no : exit.Broken ≡ exit.Done = is in cc
no_note bytes text (Surveyed first rules) is gives = let no : exit.Broken ≡ exit.Done = is in cc
no_note bytes text (Unfit wrapped) is gives = let no : exit.Broken ≡ exit.Done = is in cc
no_note bytes text Differing is gives = let no : exit.Broken ≡ exit.Done = is in cc

-- a check of one file that a folder tells is done over what it tells
done_alone : (contents : Text → Option (List ℕ)) (input : Option (List ℕ)) (names : List Text) (name : Text)
    (bytes : List ℕ) → names ≡ name ∷ [] → is_dash name ≡ false → contents name ≡ Some bytes
    → All (λ n. IsDoneOver check (told_of contents input n)) (names_read check names)
    → (text : Text) × Gives check bytes text (Ok Done)
done_alone contents input names name bytes one file tells all =
    let told : told_of contents input name ≡ Some bytes =
    ap (λ (b : Bool). if b then input else contents name) file ∙ tells in
    let here = All-head (λ n. IsDoneOver check (told_of contents input n)) name []
    (subst (λ (ns : List Text).
    All (λ n. IsDoneOver check (told_of contents input n)) (names_read check ns)) one
    all) in
    let done : IsDoneOver check (Some bytes) = subst (IsDoneOver check) told here in
    (done.0, no_note bytes done.0 done.1 done.2 done.3)

tells_it : (name : Text) (bytes : List ℕ)
    → bytes_told (if bytes_eq name name then Some (Ok bytes) else Some (Err NotFound)) ≡ Some bytes
tells_it name bytes =
    let told = λ (b : Bool). let t : Told = if b then Some (Ok bytes) else Some (Err NotFound) in bytes_told t in
    ap told ((bytes_eq-Decides name name).1 refl)

pub returns : goal.returns
returns c = λ is.
    let name = c.args.file.name.now in
    let bytes = c.args.file.bytes.now in
    let text = c.in_ok-from_str.field-0 in
    let pushed : c.push.new.self.items ≡ c.new-files.result.items ++ text ∷ [] =
    rw c.in_ok-push.was at c.push.ensures.items in
    done_alone
    (λ other. bytes_told (if bytes_eq other name then Some (Ok bytes) else Some (Err NotFound)))
    _ (map string_bytes c.push.new.self.items) name bytes
    (ap (map string_bytes) (pushed ∙ ap (λ items. items ++ text ∷ []) c.new-files.ensures.items)
    ∙ ap (λ (t : Text). t ∷ []) c.in_ok-from_str.ensures.ok)
    c.requires (tells_it name bytes) (c.execute.ensures.done is)
