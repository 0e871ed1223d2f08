-- Options of `encode` and `mend` that give no task.
use Rattle.std.proofs.Common.{◌≡◌, List, Option, Some, None, codes, refl, subst}
use Rattle.clap.specs.Walk.{Row, Text, all_of, first_of}
use Rattle.sixel_fit.specs.declared.making.Fitting.{Fitting}
use Rattle.sixel_model.specs.declared.colour.Parts.{Parts}
use Rattle.sixel_model.specs.declared.colour.Parts.TheVariants.{Rgb}
use Rattle.sixel_report.specs.declared.task.Task.{Task}
use Rattle.sixel_report.specs.declared.task.Task.TheVariants.{List as Listing, Check, Survey, Scan, Render, Encode}
use Rattle.sixel_report.specs.declared.task.Task.TheVariants.{Show, ShowBox, ShowOn, Differ, DifferSheet, Mend}
use Rattle.sixel_words.specs.Words.{HasFitting, HasPad, IsColourText, IsPad, IsTask}
use Rattle.sixel_words.proofs.NamesLemmas.{apart}

-- if they name no terminals, or no colour of rows below, there is no task of `encode`
pub not_encoded : (rows : List Row) (t : Task) → ((other : Parts) (f : Fitting) → HasFitting rows other f → ⊥)
    → IsTask (codes "encode") rows t → ⊥
not_encoded rows Listing none is = apart (codes "encode") (codes "list") refl is
not_encoded rows (Check profile terminals) none is = apart (codes "encode") (codes "check") refl is.0
not_encoded rows (Survey profile terminals) none is = apart (codes "encode") (codes "survey") refl is.0
not_encoded rows (Scan profile eight) none is = apart (codes "encode") (codes "scan") refl is.0
not_encoded rows (Render profile format) none is = apart (codes "encode") (codes "render") refl is.0
not_encoded rows (Encode profile fitting) none is = none (Rgb 0 0 0) fitting is.2
not_encoded rows (Show profile showing fill selects width height format) none is =
    apart (codes "encode") (codes "show") refl is.0
not_encoded rows (ShowBox profile showing fill selects format) none is = apart (codes "encode") (codes "show") refl is.0
not_encoded rows (ShowOn named background area format) none is = apart (codes "encode") (codes "show") refl is.0
not_encoded rows (Differ background) none is = apart (codes "encode") (codes "differ") refl is.0
not_encoded rows (DifferSheet background) none is = apart (codes "encode") (codes "differ") refl is.0
not_encoded rows (Mend profile background showing selects fitting) none is =
    apart (codes "encode") (codes "mend") refl is.0

-- nor one of `mend`
pub not_mended : (rows : List Row) (t : Task) → ((other : Parts) (f : Fitting) → HasFitting rows other f → ⊥)
    → IsTask (codes "mend") rows t → ⊥
not_mended rows Listing none is = apart (codes "mend") (codes "list") refl is
not_mended rows (Check profile terminals) none is = apart (codes "mend") (codes "check") refl is.0
not_mended rows (Survey profile terminals) none is = apart (codes "mend") (codes "survey") refl is.0
not_mended rows (Scan profile eight) none is = apart (codes "mend") (codes "scan") refl is.0
not_mended rows (Render profile format) none is = apart (codes "mend") (codes "render") refl is.0
not_mended rows (Encode profile fitting) none is = apart (codes "mend") (codes "encode") refl is.0
not_mended rows (Show profile showing fill selects width height format) none is =
    apart (codes "mend") (codes "show") refl is.0
not_mended rows (ShowBox profile showing fill selects format) none is = apart (codes "mend") (codes "show") refl is.0
not_mended rows (ShowOn named background area format) none is = apart (codes "mend") (codes "show") refl is.0
not_mended rows (Differ background) none is = apart (codes "mend") (codes "differ") refl is.0
not_mended rows (DifferSheet background) none is = apart (codes "mend") (codes "differ") refl is.0
not_mended rows (Mend profile background showing selects fitting) none is = none background fitting is.5

-- ---- the colour of rows below

-- with these values of the options it is that of the text
pub pad_given : (rows : List Row) (text : Text) (values : List Text) (fallback pad : Parts)
    → first_of (codes "pad") rows ≡ Some text → all_of (codes "on") rows ≡ Some values → IsColourText text pad
    → HasPad rows fallback pad
pad_given rows text values fallback pad is on has = rw (is, on) has

pub pad_of_given : (rows : List Row) (text : Text) (values : List Text) (fallback pad : Parts)
    → first_of (codes "pad") rows ≡ Some text → all_of (codes "on") rows ≡ Some values → HasPad rows fallback pad
    → IsColourText text pad
pad_of_given rows text values fallback pad is on has = rw (is, on) at has

-- without `--on` there is none
pub pad_alone : (rows : List Row) (text : Text) (fallback pad : Parts) → first_of (codes "pad") rows ≡ Some text
    → all_of (codes "on") rows ≡ None → HasPad rows fallback pad → ⊥
pad_alone rows text fallback pad is on has = rw (is, on) at has

-- without the option it is the other colour
pub pad_absent : (rows : List Row) (fallback : Parts) → first_of (codes "pad") rows ≡ None
    → HasPad rows fallback fallback
pad_absent rows fallback is = rw is refl
