-- Options that have no task.
use Rattle.std.proofs.Common.{◌≡◌, ◌∙◌, ◌⊎◌, Bool, List, None, Option, Some, ap, arith, codes, false, inl, inr, subst}
use Rattle.std.proofs.Common.{sym, true}
use Rattle.std.specs.Prelude.{length, nat_lt}
use Rattle.std.proofs.lemmas.Bool.{ltb-true}
use Rattle.clap.specs.Walk.{Row, Text, first_of}
use Rattle.sixel_report.specs.declared.task.Area.{Area}
use Rattle.sixel_report.specs.declared.task.Area.TheVariants.{Box, Sides}
use Rattle.sixel_report.specs.declared.task.Task.{Task}
use Rattle.sixel_words.specs.Words.{HasArea, IsTask, describes, files_of, is_given, is_named}
use Rattle.sixel_words.proofs.DifferLemmas.{not_differed}
use Rattle.sixel_words.proofs.MatchLemmas.{name_in, not_shown, not_some, rows_in}

not_both : (b : Bool) → b ≡ true → b ≡ false → ⊥
not_both b e f = let bad : true ≡ false = sym e ∙ f in cc

-- ---- show

-- with `--box`, and with a side too, there is no size
pub box_beside : (rows : List Row) (area : Area) → is_given (codes "box") rows ≡ true
    → is_named (codes "width") rows ≡ true ⊎ is_named (codes "height") rows ≡ true → HasArea rows area → ⊥
box_beside rows Box boxed (inl named) is = not_both _ named is.1
box_beside rows Box boxed (inr named) is = not_both _ named is.2
box_beside rows (Sides width height) boxed side is = not_both _ boxed is.0

-- with `--background` and without `--on` there is no task
pub coloured_beside : (rows : List Row) (t : Task) → first_of (codes "on") rows ≡ None
    → is_named (codes "background") rows ≡ true → IsTask (codes "show") rows t → ⊥
coloured_beside rows t off given =
    not_shown rows t (λ area has none plain. not_both _ given plain)
    (λ named colour area on coloured has free. not_some _ on.0 off on.1)

-- nor with `--on` and a flag that describes a terminal
pub described_beside : (rows : List Row) (t : Task) (name : Text) → first_of (codes "on") rows ≡ Some name
    → describes rows ≡ true → IsTask (codes "show") rows t → ⊥
described_beside rows t name on given =
    not_shown rows t (λ area has none plain. not_some _ name none on)
    (λ named colour area is coloured has free. not_both _ given free)

-- ---- differ

-- there is no task for a sheet of several files
pub sheet_of_several : (rows : List Row) (t : Task) → is_given (codes "sheet") rows ≡ true
    → nat_lt 1 (length (files_of rows)) ≡ true → IsTask (codes "differ") rows t → ⊥
sheet_of_several rows t given several =
    not_differed rows t (λ c has plain. not_both _ given plain)
    (λ c has sheet one. omega (arith, one, ltb-true 1 (length (files_of rows)) several))

-- ---- subcommands

-- the arguments ask for this subcommand with options that have no task
pub none_called : (sub : Text) (o : Option (Text × List Row)) (name : Text) (rows : List Row) (t : Task)
    → o ≡ Some (name, rows) → IsTask name rows t → name_in o ≡ sub → (IsTask sub (rows_in o) t → ⊥) → ⊥
none_called sub o name rows t e is called none =
    let n : name ≡ sub = sym (ap name_in e) ∙ called in
    let r : rows ≡ rows_in o = sym (ap rows_in e) in
    none (subst (λ (k : Text). IsTask k (rows_in o) t) n (subst (λ (k : List Row). IsTask name k t) r is))
