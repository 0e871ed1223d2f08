-- What the getters of clap's matches return.
use Rattle.std.proofs.Common.{◌≡◌, ◌≢◌, ◌∙◌, ◌≤◌, ◌⊎◌, ℕ, Bool, true, false, List, [], Option, Some, None, arith, codes}
use Rattle.std.proofs.Common.{refl, slice_index, subst, sym, ap, ap₂, inl, inr}
use Rattle.std.specs.Prelude.{find, option_and_then, option_map, map, string_bytes, Box as Boxed, IfSome, IfOk, Result}
use Rattle.std.specs.Prelude.{Ok, Err}
use Rattle.std.specs.Str.{bytes_eq}
use Rattle.std.specs.Box.{box_value}
use Rattle.std.specs.Str.Parse.{ParsesUnsigned}
use Rattle.sixel_terminal.specs.Limits.{most_screen_side}
use Rattle.clap.specs.Facts.{Entry}
use Rattle.clap.specs.Matches.{ReadsOne, matched_of}
use Rattle.clap.specs.Simple.{subcommand_rows}
use Rattle.clap.specs.Walk.{Row, Text, first_of, row_of, rows_of}
use Rattle.clap.specs.declared.parser.matches.Found.{Found}
use Rattle.clap.specs.declared.parser.matches.MatchedArg.{MatchedArg}
use Rattle.clap.specs.declared.parser.matches.ValueSource.{ValueSource}
use Rattle.clap.proofs.WalkLemmas.{find_row}
use Rattle.clap.specs.declared.parser.matches.SubCommand.{SubCommand}
use Rattle.clap.specs.declared.parser.matches.ArgMatches.TheViews.{out-SubCommand}
use Rattle.sixel_named_terminals.specs.declared.named.Named.{Named}
use Rattle.sixel_report.specs.declared.task.Area.{Area}
use Rattle.sixel_report.specs.declared.task.Area.TheVariants.{Box, Sides}
use Rattle.sixel_report.specs.declared.task.Task.{Task}
use Rattle.sixel_report.specs.declared.task.Task.TheVariants.{List as Listing, Check, Survey, Render, Show, ShowBox}
use Rattle.sixel_report.specs.declared.task.Task.TheVariants.{ShowOn, Differ, DifferSheet, Mend, Encode, Scan}
use Rattle.sixel_report.specs.declared.request.Request.{Request}
use Rattle.sixel_model.specs.declared.colour.Parts.{Parts}
use Rattle.sixel_words.specs.Words.{HasArea, HasColour, HasNamed, HasSide, IsSideText, IsTask, describes, files_of}
use Rattle.sixel_words.specs.Words.{is_called, is_given, is_named, is_of_words, lines_of, terminal_name}
use Rattle.sixel_words.proofs.ColourLemmas.{same_text}

pub both_parts : {X Y : Type 0} (o : Option (X × Y)) (x : X) (y : Y) → option_map (λ p. p.0) o ≡ Some x
    → option_map (λ p. p.1) o ≡ Some y → o ≡ Some (x, y)
both_parts None x y h k = cc
both_parts (Some p) x y h k = go h k
  where
    go : Some p.0 ≡ Some x → Some p.1 ≡ Some y → Some p ≡ Some (x, y)
    go h k = let a : p.0 ≡ x = cc in let b : p.1 ≡ y = cc in ap₂ (λ u v. Some (u, v)) a b

pub not_some : {X : Type 0} (o : Option X) (x : X) → o ≡ None → o ≡ Some x → ⊥
not_some o x none is = let bad : None ≡ Some x = sym none ∙ is in cc

pub none_of : {X Y : Type 0} (f : X → Y) (o : Option X) → None ≡ option_map f o → o ≡ None
none_of f None e = refl
none_of f (Some x) e = cc

pub name_rows : {Z : Type 0} (sub : Option (Boxed SubCommand Z)) → option_map (λ p. p.0) (subcommand_rows sub) ≡
    option_map (λ b. (out-SubCommand (box_value b)).name.now) sub
name_rows None = refl
name_rows (Some b) = refl

-- ---- numbers in range

-- the value of an option, if it has one, is this number
abbrev pub HasNumber : Option Text → ℕ → Type 0
HasNumber o n = (text : Text) × (o ≡ Some text) × IsSideText text n

-- the getter reads a text as a number of 32 bits
abbrev pub Parses : (E : Type 0) → (Text → Result ℕ E → Type 0) → Type 0
Parses E gives = (t : Text) (r : Result ℕ E) → gives t r → ParsesUnsigned 32 10 t r

pub number_read : {E : Type 0} (o : Option Text) (gives : Text → Result ℕ E → Type 0) (n : ℕ) → Parses E gives
    → (o ≡ None → Some n ≡ None) → ((t : Text) → o ≡ Some t → ReadsOne gives t (Some n)) → 1 ≤ n → n ≤ most_screen_side
    → HasNumber o n
number_read None gives n parses none value least most = let bad : Some n ≡ None = none refl in cc
number_read (Some t) gives n parses none value least most =
    let got = parses t (Ok n) (value t refl) in
    (t, refl, record { numeral = got.0.0; value = sym got.1; least = least; most = most })

pub number_refused : {E : Type 0} (o : Option Text) (gives : Text → Result ℕ E → Type 0) (r : Option ℕ)
    → Parses E gives → ((t : Text) → o ≡ Some t → ReadsOne gives t r)
    → IfSome r (λ k. 1 ≤ k → k ≤ most_screen_side → ⊥) → (n : ℕ) → HasNumber o n → ⊥
number_refused o gives None parses value out n h =
    let read = value h.0 h.1 in
    let refused = parses h.0 (Err read.0) read.1 in
    refused (h.2.numeral, omega (arith, h.2.value, h.2.most))
number_refused o gives (Some k) parses value out n h =
    let got = parses h.0 (Ok k) (value h.0 h.1) in
    out (omega (arith, got.1, h.2.value, h.2.least)) (omega (arith, got.1, h.2.value, h.2.most))

-- ---- the command line

-- the source of an option's value, by its row
pub source_rows : (f : Found) (id : Text) → option_and_then (λ (a : MatchedArg). a.source) (matched_of f id)
    ≡ option_and_then (λ (r : Row). r.source) (find (λ r. bytes_eq r.id id) (rows_of f))
source_rows f id = go (find (λ (e : Entry). bytes_eq e.0.now id) f.entries.items)
    ∙ ap (option_and_then (λ (r : Row). r.source)) (sym (find_row f.entries.items id))
  where
    go : (o : Option Entry) → option_and_then (λ (a : MatchedArg). a.source) (option_map (λ e. e.1) o)
        ≡ option_and_then (λ (r : Row). r.source) (option_map row_of o)
    go None = refl
    go (Some e) = refl

pub named_by : (f : Found) (id : Text) (s : Option ValueSource)
    → s ≡ option_and_then (λ (a : MatchedArg). a.source) (matched_of f id) → is_named id (rows_of f) ≡ is_of_words s
named_by f id s e = ap is_of_words (sym (e ∙ source_rows f id))

-- ---- the task of show

not_both : (b : Bool) → b ≡ true → b ≡ false → ⊥
not_both b e f = let bad : true ≡ false = sym e ∙ f in cc

not_list : codes "show" ≡ codes "list" → ⊥
not_list is = let first : 115 ≡ 108 = ap (λ (t : Text). slice_index t 0) is in omega (arith, first)

not_check : codes "show" ≡ codes "check" → ⊥
not_check is = let first : 115 ≡ 99 = ap (λ (t : Text). slice_index t 0) is in omega (arith, first)

not_render : codes "show" ≡ codes "render" → ⊥
not_render is = let first : 115 ≡ 114 = ap (λ (t : Text). slice_index t 0) is in omega (arith, first)

not_encode : codes "show" ≡ codes "encode" → ⊥
not_encode is = let first : 115 ≡ 101 = ap (λ (t : Text). slice_index t 0) is in omega (arith, first)

not_survey : codes "show" ≡ codes "survey" → ⊥
not_survey is = let second : 104 ≡ 117 = ap (λ (t : Text). slice_index t 1) is in omega (arith, second)

not_scan : codes "show" ≡ codes "scan" → ⊥
not_scan is = let second : 104 ≡ 99 = ap (λ (t : Text). slice_index t 1) is in omega (arith, second)

not_differ : codes "show" ≡ codes "differ" → ⊥
not_differ is = let first : 115 ≡ 100 = ap (λ (t : Text). slice_index t 0) is in omega (arith, first)

not_mend : codes "show" ≡ codes "mend" → ⊥
not_mend is = let first : 115 ≡ 109 = ap (λ (t : Text). slice_index t 0) is in omega (arith, first)

-- a task of `show` has a size, and a terminal that is described or named
pub not_shown : (rows : List Row) (t : Task)
    → ((area : Area) → HasArea rows area → first_of (codes "on") rows ≡ None
    → is_named (codes "background") rows ≡ false → ⊥)
    → ((named : Named) (colour : Parts) (area : Area) → HasNamed rows named
    → HasColour (codes "background") rows colour → HasArea rows area → describes rows ≡ false → ⊥)
    → IsTask (codes "show") rows t → ⊥
not_shown rows Listing described named is = not_list is
not_shown rows (Check profile terminals) described named is = not_check is.0
not_shown rows (Render profile format) described named is = not_render is.0
not_shown rows (Encode profile fitting) described named is = not_encode is.0
not_shown rows (Survey profile terminals) described named is = not_survey is.0
not_shown rows (Scan profile eight) described named is = not_scan is.0
not_shown rows (Mend profile background showing selects fitting) described named is = not_mend is.0
not_shown rows (Differ background) described named is = not_differ is.0
not_shown rows (DifferSheet background) described named is = not_differ is.0
not_shown rows (Show profile showing fill selects width height format) described named is =
    described (Sides width height) is.5 is.6 is.7
not_shown rows (ShowBox profile showing fill selects format) described named is = described Box is.5 is.6 is.7
not_shown rows (ShowOn one colour area format) described named is = named one colour area is.1 is.2 is.3 is.4

-- without `--box`, and without one of the sides, there is no size
pub without_side : (rows : List Row) (area : Area) → is_given (codes "box") rows ≡ false
    → ((n : ℕ) → HasSide (codes "width") rows n → ⊥) ⊎ ((n : ℕ) → HasSide (codes "height") rows n → ⊥)
    → HasArea rows area → ⊥
without_side rows Box plain none is = not_both _ is.0 plain
without_side rows (Sides width height) plain (inl none) is = none width is.1
without_side rows (Sides width height) plain (inr none) is = none height is.2

-- without a size there is no task
pub without_area : (rows : List Row) (t : Task) → ((area : Area) → HasArea rows area → ⊥)
    → IsTask (codes "show") rows t → ⊥
without_area rows t none =
    not_shown rows t (λ area has off plain. none area has) (λ named colour area on coloured has free. none area has)

-- nor with `--on`, if the value of `--background` is no colour
pub on_without_colour : (rows : List Row) (t : Task) (name : Text) → first_of (codes "on") rows ≡ Some name
    → ((c : Parts) → HasColour (codes "background") rows c → ⊥) → IsTask (codes "show") rows t → ⊥
on_without_colour rows t name on uncoloured =
    not_shown rows t (λ area has none plain. not_some _ name none on)
    (λ named colour area is coloured has free. uncoloured colour coloured)

-- nor if its value isn't the name of a terminal
pub without_name : (rows : List Row) (t : Task) (name : Text) → first_of (codes "on") rows ≡ Some name
    → ((named : Named) → is_called (terminal_name named) name ≡ false) → IsTask (codes "show") rows t → ⊥
without_name rows t name on unknown =
    not_shown rows t (λ area has none plain. not_some _ name none on)
    (λ named colour area is coloured has free. not_both _
    (subst (λ (n : Text). is_called (terminal_name named) n ≡ true) (same_text _ is.0 name is.1 on) is.2)
    (unknown named))

-- ---- the task of mend

other_first : (name : Text) (first : ℕ) → slice_index name 0 ≡ first → first ≢ 109 → codes "mend" ≡ name → ⊥
other_first name first starts other is =
    let same : 109 ≡ slice_index name 0 = ap (λ (t : Text). slice_index t 0) is in other (sym starts ∙ sym same)

-- if the value of `--background` is no colour, there is no task
pub without_colour : (rows : List Row) (t : Task) → ((c : Parts) → HasColour (codes "background") rows c → ⊥)
    → IsTask (codes "mend") rows t → ⊥
without_colour rows Listing none is = other_first (codes "list") 108 refl (λ e. omega (arith, e)) is
without_colour rows (Check profile terminals) none is = other_first (codes "check") 99 refl (λ e. omega (arith, e)) is.0
without_colour rows (Survey profile terminals) none is =
    other_first (codes "survey") 115 refl (λ e. omega (arith, e)) is.0
without_colour rows (Scan profile eight) none is = other_first (codes "scan") 115 refl (λ e. omega (arith, e)) is.0
without_colour rows (Render profile format) none is = other_first (codes "render") 114 refl (λ e. omega (arith, e)) is.0
without_colour rows (Encode profile fitting) none is = other_first (codes "encode") 101 refl (λ e. omega (arith, e)) is.0
without_colour rows (Show profile showing fill selects width height format) none is =
    other_first (codes "show") 115 refl (λ e. omega (arith, e)) is.0
without_colour rows (ShowBox profile showing fill selects format) none is =
    other_first (codes "show") 115 refl (λ e. omega (arith, e)) is.0
without_colour rows (ShowOn named background area format) none is =
    other_first (codes "show") 115 refl (λ e. omega (arith, e)) is.0
without_colour rows (Differ background) none is =
    other_first (codes "differ") 100 refl (λ e. omega (arith, e)) is.0
without_colour rows (DifferSheet background) none is =
    other_first (codes "differ") 100 refl (λ e. omega (arith, e)) is.0
without_colour rows (Mend profile background showing selects fitting) none is = none background is.2

abbrev pub name_in : Option (Text × List Row) → Text
name_in None = []
name_in (Some p) = p.0

abbrev pub rows_in : Option (Text × List Row) → List Row
rows_in None = []
rows_in (Some p) = p.1

-- the task of a subcommand is that of its name and options
pub same_task : (o : Option (Text × List Row)) (n m : Text) (r s : List Row) (t : Task) → o ≡ Some (n, r)
    → o ≡ Some (m, s) → IsTask n r t → IsTask m s t
same_task o n m r s t e f is =
    let name : n ≡ m = sym (ap name_in e) ∙ ap name_in f in
    let rows : r ≡ s = sym (ap rows_in e) ∙ ap rows_in f in
    subst (λ (k : Text). IsTask k s t) name (subst (λ (k : List Row). IsTask n k t) rows is)

-- a subcommand has one name and one list of options
pub same_parts : (o : Option (Text × List Row)) (n m : Text) (r s : List Row) → o ≡ Some (n, r) → o ≡ Some (m, s)
    → (n ≡ m) × (r ≡ s)
same_parts o n m r s e f = (sym (ap name_in e) ∙ ap name_in f, sym (ap rows_in e) ∙ ap rows_in f)

-- ---- the request

-- the request of a subcommand: its task, and its other options
pub request_is : {E : Type 0} (o : Option (Text × List Row)) (n : Text) (rows : List Row) (t : Task)
    (r : Result Request E) → o ≡ Some (n, rows) → IsTask n rows t
    → IfOk r (λ asked. asked.task ≡ t) → IfOk r (λ asked. lines_of rows ≡ asked.lines)
    → IfOk r (λ asked. is_given (codes "explain") rows ≡ asked.explains)
    → IfOk r (λ asked. files_of rows ≡ map string_bytes asked.files.items)
    → IfOk r (λ asked. (name : Text) × (given : List Row) × (o ≡ Some (name, given)) × IsTask name given asked.task
    × (lines_of given ≡ asked.lines) × (is_given (codes "explain") given ≡ asked.explains) × (files_of given ≡ map string_bytes asked.files.items))
request_is o n rows t (Err fault) e is task lines explains files = tt
request_is o n rows t (Ok asked) e is task lines explains files =
    (n, rows, e, subst (λ (k : Task). IsTask n rows k) (sym task) is, lines, explains, files)
