-- Names of which one at most is that of standard input.
use Rattle.std.proofs.Common.{◌≡◌, ◌∙◌, ◌+◌, ◌∷◌, ◌++◌, ◌||◌, ℕ, Bool, true, false, List, [], arith, cond, refl, sym}
use Rattle.std.proofs.Common.{ap, map, Some}
use Rattle.std.specs.Prelude.{count_by, nat_lt}
use Rattle.std.specs.List.{list_any}
use Rattle.std.proofs.lemmas.Bool.{ltb-false}
use Rattle.std.proofs.lemmas.List.Folds.{list_any-append}
use Rattle.std.proofs.lemmas.List.Sums.{sum_by-append, sum_by-cons}
use Rattle.sixel_report.specs.declared.task.Task.{Task}
use Rattle.sixel_report.specs.declared.task.Task.TheVariants.{Check, Differ, Scan, Survey}
use Rattle.sixel_run.specs.LineTasks.{has_lines}
use Rattle.sixel_program.specs.Files.{is_dash, labels_for, names_read}
use Rattle.sixel_messages.specs.Reports.{name_of}
use Rattle.sixel_report.specs.Texts.{Text}

-- neither of two is true
pub or_false : (a b : Bool) → (a || b) ≡ false → (a ≡ false) × (b ≡ false)
or_false true b is = let no : true ≡ false = is in cc
or_false false b is = (refl, is)

-- if no name is that of standard input, then none of the first ones is, and not the last one
pub no_dash_before : (names more : List Text) → list_any is_dash (names ++ more) ≡ false
    → list_any is_dash names ≡ false
no_dash_before names more none =
    (or_false (list_any is_dash names) (list_any is_dash more) (sym (list_any-append is_dash names more) ∙ none)).0

pub no_dash_last : (names : List Text) (name : Text) → list_any is_dash (names ++ name ∷ []) ≡ false
    → is_dash name ≡ false
no_dash_last names name none =
    let last = (or_false (list_any is_dash names) (list_any is_dash (name ∷ []))
    (sym (list_any-append is_dash names (name ∷ [])) ∙ none)).1 in
    (or_false (is_dash name) false last).0

-- ---- how many are

one_or_none : (dash any : Bool) (n : ℕ) → cond dash 1 0 + n ≡ 0 → (n ≡ 0 → any ≡ false) → (dash || any) ≡ false
one_or_none true any n none rest = absurd (omega (arith, none))
one_or_none false any n none rest = rest (omega (arith, none))

none_counted : (names : List Text) → count_by is_dash names ≡ 0 → list_any is_dash names ≡ false
none_counted [] none = refl
none_counted (name ∷ more) none =
    one_or_none (is_dash name) (list_any is_dash more) (count_by is_dash more)
    (sym (sum_by-cons (λ (n : Text). cond (is_dash n) 1 0) name more) ∙ none)
    (none_counted more)

-- if one at most is that of standard input, none is before it
pub first_dash : (names : List Text) (name : Text) (more : List Text)
    → nat_lt 1 (count_by is_dash ((names ++ name ∷ []) ++ more)) ≡ false → is_dash name ≡ true
    → list_any is_dash names ≡ false
first_dash names name more once dash =
    let all : count_by is_dash ((names ++ name ∷ []) ++ more)
    ≡ (count_by is_dash names + count_by is_dash (name ∷ [])) + count_by is_dash more =
    sum_by-append (λ (n : Text). cond (is_dash n) 1 0) (names ++ name ∷ []) more
    ∙ ap (λ (n : ℕ). n + count_by is_dash more)
    (sum_by-append (λ (n : Text). cond (is_dash n) 1 0) names (name ∷ [])) in
    let one : count_by is_dash (name ∷ []) ≡ 1 = ap (λ (b : Bool). 0 + cond b 1 0) dash in
    none_counted names (omega (arith, all, one, ltb-false 1 (count_by is_dash ((names ++ name ∷ []) ++ more)) once))

-- ---- labels

pub names_labelled : (names : List Text) → map name_of (map Some names) ≡ names
names_labelled [] = refl
names_labelled (name ∷ more) = ap (λ (rest : List Text). name ∷ rest) (names_labelled more)

-- the labels of what a check, a survey or a scan reads are those of the names that it reads
pub labels_read : (t : Task) (names : List Text) → has_lines t ≡ true
    → map name_of (labels_for names) ≡ names_read t names
labels_read (Check profile named) [] has = refl
labels_read (Check profile named) (name ∷ more) has = names_labelled (name ∷ more)
labels_read (Survey profile named) [] has = refl
labels_read (Survey profile named) (name ∷ more) has = names_labelled (name ∷ more)
labels_read (Scan profile eight) [] has = refl
labels_read (Scan profile eight) (name ∷ more) has = names_labelled (name ∷ more)
labels_read (Differ background) [] has = refl
labels_read (Differ background) (name ∷ more) has = names_labelled (name ∷ more)
labels_read _ names has = absurd (let no : false ≡ true = has in cc)
