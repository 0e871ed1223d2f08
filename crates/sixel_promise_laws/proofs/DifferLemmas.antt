-- If a check for all four terminals is done, `differ` says that they show the same.
use Rattle.std.proofs.Common.{◌≡◌, ◌∙◌, ◌⊎◌, ◌==◌, ◌%◌, ◌<◌, ◌&&◌, inl, inr, ℕ, Bool, true, false, List, Some, None}
use Rattle.std.proofs.Common.{Option, Result, Ok, Err, ap, ap₂, append-nil, arith, not, refl, subst, sym}
use Rattle.std.specs.Prelude.{IfSome}
use Rattle.std.specs.Option.{option_map_or}
use Rattle.std.proofs.lemmas.Bool.{eqb-true, not-false}
use Rattle.std.proofs.lemmas.Bool.Decides.{nat_tests}
use Rattle.sixel_grammar.specs.Document.{Document, events_of}
use Rattle.sixel_grammar.specs.declared.command.Event.{Event}
use Rattle.sixel_grammar.specs.declared.command.Placed.{Placed}
use Rattle.sixel_grammar.proofs.UniqueLemmas.{document_once, fault_no_document}
use Rattle.sixel_model.specs.declared.colour.Parts.{Parts}
use Rattle.sixel_model.specs.declared.profile.Profile.{Profile}
use Rattle.sixel_model.specs.Events.{Attributes, raster_of}
use Rattle.sixel_model.specs.Geometry.{band_rows}
use Rattle.sixel_model.specs.Pictures.{PictureValue, is_side, most_side}
use Rattle.sixel_model.specs.Profiles.{count_of}
use Rattle.sixel_model.specs.Rules.{picture_left, raster_before}
use Rattle.sixel_model.proofs.LatestLemmas.{each_from_positions}
use Rattle.sixel_model.proofs.PictureLemmas.{at_most_256}
use Rattle.sixel_judge.proofs.DifferenceLemmas.{earliest_each}
use Rattle.sixel_mend.specs.declared.mending.Mending.{Mending}
use Rattle.sixel_mend.specs.Sizes.{IsSize}
use Rattle.sixel_mend.proofs.SizeLemmas.{one_size}
use Rattle.sixel_mend_laws.proofs.MendedLemmas.{mended_is}
use Rattle.sixel_mend_laws.proofs.StaysLemmas.{portable_stays}
use Rattle.sixel_differ.specs.declared.comparison.Comparison.{Comparison}
use Rattle.sixel_differ.specs.declared.fault.DifferFault.{DifferFault}
use Rattle.sixel_differ.specs.declared.fault.DifferFault.TheVariants as differ
use Rattle.sixel_differ.specs.declared.view.Views.{Views}
use Rattle.sixel_differ.specs.Comparisons.{IsComparison, one_group}
use Rattle.sixel_differ.specs.Faults.{IsFaultOfSize}
use Rattle.sixel_differ.specs.Views.{AreViews, IsInBands}
use Rattle.sixel_emulator_rules.specs.Asked.{BreaksNoneAsked, breaks_rows}
use Rattle.sixel_emulator_rules.specs.declared.rule.AskedRule.TheVariants.{Rows}
use Rattle.sixel_emulator_check_laws.specs.Laws.{all_terminals}
use Rattle.sixel_emulator_check_laws.proofs.SameLemmas.{portable_on_all}
use Rattle.sixel_report.specs.declared.fault.RunFault.{RunFault}
use Rattle.sixel_report.specs.declared.fault.RunFault.TheVariants.{Grammar, Empty, TooLarge}
use Rattle.sixel_report.specs.declared.task.Status.{Status}
use Rattle.sixel_report.specs.declared.task.Status.TheVariants.{Done}
use Rattle.sixel_report.specs.Texts.{Text, same_line}
use Rattle.sixel_sheet.specs.Outputs.{DifferGives, differ_output}
use Rattle.sixel_sheet.proofs.DifferLemmas.{differ-gives, differ_given, some_mending}
use Rattle.sixel_promise_laws.specs.Twice.{DifferSaysSame}
use Rattle.sixel_promise_laws.proofs.DoneLemmas.{HasBox, IsDone, done, done_box, done_whole}

-- ---- the height is a multiple of six

abbrev IsInRows : Attributes → Type 0
IsInRows a = (a.height % band_rows == 0) ≡ true

rows_if : (o : Option Attributes) → option_map_or (λ (a : Attributes). not (a.height % band_rows == 0)) o false ≡ false
    → IfSome o IsInRows
rows_if None h = tt
rows_if (Some a) h = not-false _ h

-- no raster attributes have another height, so neither has the box
first_rows : (events : List Event) (a : Attributes) → BreaksNoneAsked all_terminals events
    → raster_before events ≡ Some a → IsInRows a
unfolding breaks_rows raster_before
first_rows events a unasked box =
    rw box at (earliest_each raster_of IsInRows events
    (each_from_positions (λ e. IfSome (raster_of e) IsInRows) events
    (λ j e here.
    rows_if (raster_of e)
    (is_no (breaks_rows e) (λ b. unasked Rows refl j (record { item = e; here = here; holds = b }))))))
  where
    is_no : (b : Bool) → (b ≡ true → ⊥) → b ≡ false
    is_no true never = absurd (never refl)
    is_no false never = refl

whole_bands : (height banded : ℕ) → height % band_rows ≡ 0 → IsInBands height banded → banded ≡ height
whole_bands height banded rows b = omega (arith, rows, b.whole, b.enough, b.least)

-- ---- the size

-- the mended picture has the size of the picture
mended_size : (profile : Profile) (m : Mending) {bytes : List ℕ} {text : Text}
    → (d : IsDone (count_of profile) all_terminals bytes text)
    → IsSize m (events_of d.events) d.picture.width d.picture.height
mended_size profile m d =
    let n : ℕ = count_of profile in
    let events : List Event = events_of d.events in
    let p : PictureValue = d.picture in
    let stays = portable_stays profile m events (done_whole d) d.unbroken in
    let q : PictureValue = stays.0 in
    let w : ℕ = stays.1.0 in
    let h : ℕ = stays.1.1 in
    let is = mended_is n m events w h q stays.1.3 in
    let left : p ≡ picture_left n events = d.left in
    let width : w ≡ p.width =
    sym (ap (λ (r : PictureValue). r.width) is.is) ∙ stays.2.width ∙ sym (ap (λ (r : PictureValue). r.width) left) in
    let height : h ≡ p.height =
    sym (ap (λ (r : PictureValue). r.height) is.is) ∙ stays.2.height ∙ sym (ap (λ (r : PictureValue). r.height) left)
    in
    subst (λ (v : ℕ). IsSize m events v p.height) width
    (subst (λ (v : ℕ). IsSize m events w v) height stays.1.2)

-- another reading of the bytes has no other size
one_size_of : (profile : Profile) (bytes : List ℕ) (text : Text)
    → (d : IsDone (count_of profile) all_terminals bytes text) → (placed : List Placed) (w h : ℕ)
    → Document placed bytes → IsSize some_mending (events_of placed) w h
    → (w ≡ d.picture.width) × (h ≡ d.picture.height)
one_size_of profile bytes text d placed w h document size =
    one_size some_mending (events_of d.events) w h d.picture.width d.picture.height
    (subst (λ (l : List Placed). IsSize some_mending (events_of l) w h)
    (document_once bytes placed d.events document d.document) size) (mended_size profile some_mending d)

empty_box : (w h : ℕ) → (w ≡ 0) ⊎ (h ≡ 0) → (is_side w && is_side h) ≡ true → ⊥
empty_box w h none is = grind (arith, nat_tests)

large_box : (w h : ℕ) → (0 < w) × (0 < h) × ((most_side < w) ⊎ (most_side < h)) → (is_side w && is_side h) ≡ true → ⊥
large_box w h much is = let big = much.2 in grind (arith, nat_tests)

picture_sides : (events : List Event) (p : PictureValue) → HasBox events p
    → (is_side p.width && is_side p.height) ≡ true
picture_sides events p b = ap₂ (λ (w h : ℕ). is_side w && is_side h) b.width b.height ∙ b.sides

-- the size isn't that of a fault
no_fault : (w h : ℕ) (fault : DifferFault) → (is_side w && is_side h) ≡ true
    → (fault ≡ differ.Empty) ⊎ (fault ≡ differ.TooLarge) → IsFaultOfSize w h fault → ⊥
no_fault w h differ.Empty sides named is = empty_box w h is sides
no_fault w h differ.TooLarge sides named is = large_box w h is sides
no_fault w h differ.OutOfMemory sides (inl e) is = cc e
no_fault w h differ.OutOfMemory sides (inr e) is = cc e
no_fault w h (differ.Grammar f) sides named is = is

no_refusal : (profile : Profile) (bytes : List ℕ) (text : Text)
    → (d : IsDone (count_of profile) all_terminals bytes text) (fault : DifferFault)
    → (fault ≡ differ.Empty) ⊎ (fault ≡ differ.TooLarge) → (placed : List Placed) (w h : ℕ) → Document placed bytes
    → IsSize some_mending (events_of placed) w h → IsFaultOfSize w h fault → ⊥
no_refusal profile bytes text d fault named placed w h document size is =
    let same = one_size_of profile bytes text d placed w h document size in
    let sides = picture_sides (events_of d.events) d.picture (done_box d) in
    no_fault w h fault (ap₂ (λ (v u : ℕ). is_side v && is_side u) same.0 same.1 ∙ sides) named is

-- ---- what is given

views_same : (profile : Profile) (bytes : List ℕ) (text : Text) (background : Parts)
    → (d : IsDone (count_of profile) all_terminals bytes text) (v : Views) (c : Comparison)
    → AreViews background bytes v → IsComparison v c
    → differ_output v c ≡ (same_line d.picture.width d.picture.height, Ok Done)
views_same profile bytes text background d v c are is =
    let n : ℕ = count_of profile in
    let p : PictureValue = d.picture in
    let one : c ≡ one_group =
    portable_on_all n (at_most_256 profile) background d.events bytes v c d.document d.unbroken d.unasked d.unbare are
    is in
    let size = one_size_of profile bytes text d are.placed v.width are.height are.document (are.size some_mending) in
    let b : HasBox (events_of d.events) p = done_box d in
    let rows : b.box.height % band_rows ≡ 0 =
    eqb-true _ 0 (first_rows (events_of d.events) b.box d.unasked b.declared) in
    let in_rows : are.height % band_rows ≡ 0 = ap (λ (h : ℕ). h % band_rows) (size.1 ∙ b.height) ∙ rows in
    let high : v.height ≡ p.height = whole_bands are.height v.height in_rows are.banded ∙ size.1 in
    ap (differ_output v) one
    ∙ ap (λ (t : Text). let o : Text × Result Status RunFault = (t, Ok Done) in o)
    (append-nil (same_line v.width v.height) ∙ ap₂ same_line size.0 high)

given_is : (profile : Profile) (bytes : List ℕ) (text : Text) (background : Parts)
    → (d : IsDone (count_of profile) all_terminals bytes text) (line : Text) (answer : Result Status RunFault)
    → DifferGives differ_output background bytes line answer
    → (line ≡ same_line d.picture.width d.picture.height) × (answer ≡ Ok Done)
given_is profile bytes text background d line (Err (Grammar f)) g =
    absurd (fault_no_document bytes f g.1 (d.events, d.document))
given_is profile bytes text background d line (Err Empty) g =
    let f = g.1 some_mending in
    absurd (no_refusal profile bytes text d differ.Empty (inl refl) f.0 f.2.0 f.2.1 f.1 f.2.2 f.2.3)
given_is profile bytes text background d line (Err TooLarge) g =
    let f = g.1 some_mending in
    absurd (no_refusal profile bytes text d differ.TooLarge (inr refl) f.0 f.2.0 f.2.1 f.1 f.2.2 f.2.3)
given_is profile bytes text background d line answer g =
    let whole = g.2.2 ∙ views_same profile bytes text background d g.0 g.2.0 g.1 g.2.1 in
    (ap (λ (o : Text × Result Status RunFault). o.0) whole, ap (λ (o : Text × Result Status RunFault). o.1) whole)

pub differ_says_same : DifferSaysSame
differ_says_same profile bytes text background given =
    let d : IsDone (count_of profile) all_terminals bytes text = done (count_of profile) all_terminals bytes text given
    in (
      d.picture,
      d.line,
      λ line answer. (
        given_is profile bytes text background d line answer,
        λ is.
            (let some = differ-gives differ_output differ_given background bytes in
            let same = given_is profile bytes text background d some.0 some.1 some.2 in
            subst (λ (t : Text). DifferGives differ_output background bytes t answer) (same.0 ∙ sym is.0)
            (subst (λ (a : Result Status RunFault). DifferGives differ_output background bytes some.0 a)
            (same.1 ∙ sym is.1) some.2)),
      ),
    )
