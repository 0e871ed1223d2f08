-- Tasks of `differ`.
use Rattle.std.proofs.Common.{◌≡◌, ◌≢◌, ◌≤◌, ◌∙◌, ℕ, true, false, List, ap, arith, codes, refl, slice_index, sym}
use Rattle.std.specs.Prelude.{length}
use Rattle.clap.specs.Walk.{Row, Text}
use Rattle.sixel_model.specs.declared.colour.Parts.{Parts}
use Rattle.sixel_report.specs.declared.task.Task.{Task}
use Rattle.sixel_report.specs.declared.task.Task.TheVariants.{List as Listing, Check, Differ, DifferSheet, Encode, Mend}
use Rattle.sixel_report.specs.declared.task.Task.TheVariants.{Render, Scan, Show, ShowBox, ShowOn, Survey}
use Rattle.sixel_words.specs.Words.{HasColour, IsTask, files_of, is_given}

other_first : (name : Text) (first : ℕ) → slice_index name 0 ≡ first → first ≢ 100 → codes "differ" ≡ name → ⊥
other_first name first starts other is =
    let same : 100 ≡ slice_index name 0 = ap (λ (t : Text). slice_index t 0) is in other (sym starts ∙ sym same)

-- a task of `differ` has a background, and either no sheet, or one of a file at most
pub not_differed : (rows : List Row) (t : Task)
    → ((c : Parts) → HasColour (codes "background") rows c → is_given (codes "sheet") rows ≡ false → ⊥)
    → ((c : Parts) → HasColour (codes "background") rows c → is_given (codes "sheet") rows ≡ true
    → length (files_of rows) ≤ 1 → ⊥)
    → IsTask (codes "differ") rows t → ⊥
not_differed rows Listing lines sheet is = other_first (codes "list") 108 refl (λ e. omega (arith, e)) is
not_differed rows (Check profile terminals) lines sheet is =
    other_first (codes "check") 99 refl (λ e. omega (arith, e)) is.0
not_differed rows (Survey profile terminals) lines sheet is =
    other_first (codes "survey") 115 refl (λ e. omega (arith, e)) is.0
not_differed rows (Scan profile eight) lines sheet is =
    other_first (codes "scan") 115 refl (λ e. omega (arith, e)) is.0
not_differed rows (Render profile format) lines sheet is =
    other_first (codes "render") 114 refl (λ e. omega (arith, e)) is.0
not_differed rows (Encode profile fitting) lines sheet is = other_first (codes "encode") 101 refl (λ e. omega (arith, e)) is.0
not_differed rows (Show profile showing fill selects width height format) lines sheet is =
    other_first (codes "show") 115 refl (λ e. omega (arith, e)) is.0
not_differed rows (ShowBox profile showing fill selects format) lines sheet is =
    other_first (codes "show") 115 refl (λ e. omega (arith, e)) is.0
not_differed rows (ShowOn named background area format) lines sheet is =
    other_first (codes "show") 115 refl (λ e. omega (arith, e)) is.0
not_differed rows (Mend profile background showing selects fitting) lines sheet is =
    other_first (codes "mend") 109 refl (λ e. omega (arith, e)) is.0
not_differed rows (Differ background) lines sheet is = lines background is.1 is.2
not_differed rows (DifferSheet background) lines sheet is = sheet background is.1 is.2 is.3

-- if the value of `--background` is no colour, there is no task
pub uncoloured : (rows : List Row) (t : Task) → ((c : Parts) → HasColour (codes "background") rows c → ⊥)
    → IsTask (codes "differ") rows t → ⊥
uncoloured rows t none = not_differed rows t (λ c has plain. none c has) (λ c has given one. none c has)
