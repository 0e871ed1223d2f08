-- A comparison gives one output.
use Rattle.std.proofs.Common.{◌≡◌, ◌∙◌, ◌<◌, ◌+◌, ℕ, zero, suc, Bool, true, false, List, [], refl, sym, ap, subst, inl}
use Rattle.std.proofs.Common.{inr, arith}
use Rattle.std.specs.Prelude.{◌⊎◌, ◌==◌, ◌&&◌, ◌||◌, IsTrue, Result, Ok, Err, nat_lt}
use Rattle.std.proofs.lemmas.Bool.Decides.{nat_tests}
use Rattle.sixel_grammar.specs.declared.command.Event.{Event}
use Rattle.sixel_grammar.specs.declared.command.Placed.{Placed}
use Rattle.sixel_grammar.specs.declared.fault.Fault.{Fault}
use Rattle.sixel_grammar.specs.Document.{Document, events_of}
use Rattle.sixel_grammar.specs.Faults.{IsFaultOf}
use Rattle.sixel_grammar.proofs.TotalLemmas.{judged}
use Rattle.sixel_grammar.proofs.UniqueLemmas.{document_once, fault_no_document, fault_once}
use Rattle.sixel_model.specs.declared.colour.Parts.{Parts}
use Rattle.sixel_model.specs.declared.colour.Parts.TheVariants.{Rgb}
use Rattle.sixel_model.specs.Geometry.{band_rows}
use Rattle.sixel_model.specs.Pictures.{is_side, most_side}
use Rattle.sixel_terminal.specs.Drawing.{height_of, touches_on}
use Rattle.sixel_named_terminals.specs.declared.named.Named.{Named}
use Rattle.sixel_named_terminals.specs.declared.named.Named.TheVariants.{XTerm, MlTerm, Foot, Konsole}
use Rattle.sixel_named_terminals.specs.Named.{heard_on, model_of}
use Rattle.sixel_named_terminals.proofs.NamedLemmas.{said_does_not_end, screen_once, shows_or_ends}
use Rattle.sixel_mend.specs.declared.mending.Mending.{Mending}
use Rattle.sixel_mend.specs.Screens.{mending_terminal}
use Rattle.sixel_mend.specs.Sizes.{Bounds, IsSize, IsTouched}
use Rattle.sixel_mend.proofs.SizeLemmas.{one_size, some_size}
use Rattle.sixel_differ.specs.declared.comparison.Comparison.{Comparison}
use Rattle.sixel_differ.specs.declared.fault.DifferFault.TheVariants as differ
use Rattle.sixel_differ.specs.declared.view.View.{View}
use Rattle.sixel_differ.specs.declared.view.View.TheVariants.{Screen, Unmodelled as Ends}
use Rattle.sixel_differ.specs.declared.view.Views.{Views}
use Rattle.sixel_differ.specs.Comparisons.{IsComparison}
use Rattle.sixel_differ.specs.Faults.{IsDifferFault, IsFaultOfSize}
use Rattle.sixel_differ.specs.Views.{AreViews, IsInBands, IsView, view_in}
use Rattle.sixel_report.specs.declared.fault.RunFault.{RunFault}
use Rattle.sixel_report.specs.declared.fault.RunFault.TheVariants.{Grammar, Empty, NotRgb, TooLarge}
use Rattle.sixel_report.specs.declared.task.Status.{Status}
use Rattle.sixel_sheet.specs.Outputs.{DifferGives, differ_output, sheet_output}
use Rattle.sixel_sheet.specs.Sheets.{are_rgb_views, sheet_text}
use Rattle.sixel_report.specs.Differing.{differ_status}
use Rattle.sixel_report.specs.Texts.{Text}
use Rattle.sixel_sheet.proofs.ComparingLemmas.{below_or, comparison_once, some_comparison}
use Rattle.sixel_named_terminals.proofs.NamedLemmas.{ends_somewhere, one_end}

abbrev Output : Type 0
Output = Text × Result Status RunFault

-- ---- sizes

pub some_mending : Mending
some_mending = record { background = Rgb 0 0 0; showing = false; selects = false }

-- what is chosen for mending touches no other point
touched_by_any : (m n : Mending) (w h : ℕ) (events : List Event) (x y : ℕ)
    → IsTouched (mending_terminal m w h) events x y → IsTouched (mending_terminal n w h) events x y
unfolding touches_on height_of
touched_by_any m n w h events x y touched = touched

bounds_by_any : (m n : Mending) (w h : ℕ) (events : List Event) (a b : ℕ)
    → Bounds (mending_terminal m w h) events a b → Bounds (mending_terminal n w h) events a b
bounds_by_any m n w h events a b bounds = λ x y touched. bounds x y (touched_by_any n m w h events x y touched)

size_for_any : (m n : Mending) (events : List Event) (w h : ℕ) → IsSize m events w h → IsSize n events w h
size_for_any m n events w h is = record {
  extent_width = is.extent_width;
  extent_height = is.extent_height;
  extent = record {
    bounds = bounds_by_any m n w h events is.extent_width is.extent_height is.extent.bounds;
    least = λ a b bounds. is.extent.least a b (bounds_by_any n m w h events a b bounds);
  };
  width_is = is.width_is;
  height_is = is.height_is;
}

-- two readings of the bytes have one size
sizes_once : (m : Mending) (bytes : List ℕ) (d e : List Placed) (w h a b : ℕ) → Document d bytes → Document e bytes
    → IsSize m (events_of d) w h → IsSize m (events_of e) a b → (w ≡ a) × (h ≡ b)
sizes_once m bytes d e w h a b p q first second =
    one_size m (events_of d) w h a b first
    (subst (λ (l : List Placed). IsSize m (events_of l) a b) (document_once bytes e d q p) second)

empty_and_sized : (w h : ℕ) → (w ≡ 0) ⊎ (h ≡ 0) → IsTrue (is_side w && is_side h) → ⊥
empty_and_sized w h none is = grind (arith, nat_tests)

large_and_sized : (w h : ℕ) → (0 < w) × (0 < h) × ((most_side < w) ⊎ (most_side < h))
    → IsTrue (is_side w && is_side h) → ⊥
large_and_sized w h much is = let big = much.2 in grind (arith, nat_tests)

empty_and_large : (w h : ℕ) → (w ≡ 0) ⊎ (h ≡ 0) → (0 < w) × (0 < h) × ((most_side < w) ⊎ (most_side < h)) → ⊥
empty_and_large w h (inl none) much = omega (arith, none, much.0)
empty_and_large w h (inr none) much = omega (arith, none, much.1)

sized_by : (w h : ℕ) (a b : Bool) → ((w == 0) || (h == 0)) ≡ a → (nat_lt most_side w || nat_lt most_side h) ≡ b
    → ((w ≡ 0) ⊎ (h ≡ 0)) ⊎ ((0 < w) × (0 < h) × ((most_side < w) ⊎ (most_side < h)))
    ⊎ IsTrue (is_side w && is_side h)
sized_by w h true b e f = inl (grind (arith, nat_tests))
sized_by w h false true e f = inr (inl (grind (arith, nat_tests)))
sized_by w h false false e f = inr (inr (grind (arith, nat_tests)))

-- ---- whole bands

bands_once : (h a b : ℕ) → IsInBands h a → IsInBands h b → a ≡ b
bands_once h a b p q = omega (arith, p.whole, p.enough, p.least, q.whole, q.enough, q.least)

bands_of : (h : ℕ) → (banded : ℕ) × IsInBands h banded
bands_of zero = (0, record { bands = 0; whole = refl; enough = omega arith; least = omega arith })
bands_of (suc h) =
    let b = bands_of h in
    elim (below_or h b.0 (omega (arith, b.1.enough))) [
      | inl less ↦ (
        b.0,
        record {
          bands = b.1.bands;
          whole = b.1.whole;
          enough = omega (arith, less);
          least = omega (arith, b.1.least);
        },
      )
      | inr same ↦ (
        b.0 + band_rows,
        record {
          bands = b.1.bands + 1;
          whole = omega (arith, b.1.whole);
          enough = omega (arith, same);
          least = omega (arith, same);
        },
      )
    ]

-- ---- the views of a document

view_once : (named : Named) (background : Parts) (sides : ℕ × ℕ) (d : List Placed) (a b : View)
    → IsView named background sides d a → IsView named background sides d b → a ≡ b
view_once named background sides d (Screen s) (Screen t) p q =
    ap Screen (screen_once named background sides (events_of d) s t p q)
view_once named background sides d (Screen s) (Ends place) p q =
    absurd (said_does_not_end (model_of named) (events_of d) q.at p.said q.ends)
view_once named background sides d (Ends place) (Screen s) p q =
    absurd (said_does_not_end (model_of named) (events_of d) p.at q.said p.ends)
view_once named background sides d (Ends place) (Ends other) p q =
    ap Ends (one_end (model_of named) d place other p q)

views_are : (v w : Views) → v.width ≡ w.width → v.height ≡ w.height
    → ((named : Named) → view_in v named ≡ view_in w named) → v ≡ w
views_are v w across down same =
    ap (λ (n : ℕ). let e : Views = record v { width = n } in e) across
    ∙ ap (λ (n : ℕ). let e : Views = record v { width = w.width; height = n } in e) down
    ∙ ap (λ (x : View). let e : Views = record v { width = w.width; height = w.height; xterm = x } in e) (same XTerm)
    ∙ ap (λ (x : View). let e : Views = record w { mlterm = x; foot = v.foot; konsole = v.konsole } in e) (same MlTerm)
    ∙ ap (λ (x : View). let e : Views = record w { foot = x; konsole = v.konsole } in e) (same Foot)
    ∙ ap (λ (x : View). let e : Views = record w { konsole = x } in e) (same Konsole)

pub views_once : (background : Parts) (bytes : List ℕ) (v w : Views) → AreViews background bytes v
    → AreViews background bytes w → v ≡ w
views_once background bytes v w p q =
    views_are v w sides.0 down (λ named.
    view_once named background (w.width, w.height) (heard_on named bytes q.placed) (view_in v named) (view_in w named)
    (moved named) (q.views named))
  where
    sides : (v.width ≡ w.width) × (p.height ≡ q.height)
    sides = sizes_once some_mending bytes p.placed q.placed v.width p.height w.width q.height p.document q.document
        (p.size some_mending) (q.size some_mending)

    down : v.height ≡ w.height
    down = bands_once q.height v.height w.height (subst (λ (h : ℕ). IsInBands h v.height) sides.1 p.banded) q.banded

    moved : (named : Named)
        → IsView named background (w.width, w.height) (heard_on named bytes q.placed) (view_in v named)
    moved named =
        let heard = heard_on named bytes p.placed in
        subst (λ (l : List Placed). IsView named background (w.width, w.height) (heard_on named bytes l) (view_in v named))
        (document_once bytes p.placed q.placed p.document q.document)
        (subst (λ (n : ℕ). IsView named background (w.width, n) heard (view_in v named)) down
        (subst (λ (n : ℕ). IsView named background (n, v.height) heard (view_in v named)) sides.0 (p.views named)))

some_view : (named : Named) (background : Parts) (sides : ℕ × ℕ) (d : List Placed)
    → (view : View) × IsView named background sides d view
some_view named background sides d =
    elim (shows_or_ends named background sides (events_of d)) [
      | inl e ↦ let p = ends_somewhere (model_of named) d e.0 e.1 in (Ends p.0, p.1)
      | inr s ↦ (Screen s.0, s.1)
    ]

abbrev views_on : Parts → ℕ × ℕ → List ℕ → List Placed → Views
views_on background sides bytes d = record {
  width = sides.0;
  height = sides.1;
  xterm = (some_view XTerm background sides (heard_on XTerm bytes d)).0;
  mlterm = (some_view MlTerm background sides (heard_on MlTerm bytes d)).0;
  foot = (some_view Foot background sides (heard_on Foot bytes d)).0;
  konsole = (some_view Konsole background sides (heard_on Konsole bytes d)).0;
}

is_view_on : (background : Parts) (sides : ℕ × ℕ) (bytes : List ℕ) (d : List Placed) (named : Named)
    → IsView named background sides (heard_on named bytes d) (view_in (views_on background sides bytes d) named)
is_view_on background sides bytes d XTerm = (some_view XTerm background sides (heard_on XTerm bytes d)).1
is_view_on background sides bytes d MlTerm = (some_view MlTerm background sides (heard_on MlTerm bytes d)).1
is_view_on background sides bytes d Foot = (some_view Foot background sides (heard_on Foot bytes d)).1
is_view_on background sides bytes d Konsole = (some_view Konsole background sides (heard_on Konsole bytes d)).1

some_views : (background : Parts) (bytes : List ℕ) (d : List Placed) (w h : ℕ) → Document d bytes
    → ((m : Mending) → IsSize m (events_of d) w h) → IsTrue (is_side w && is_side h)
    → (v : Views) × AreViews background bytes v
some_views background bytes d w h doc size sides =
    let b = bands_of h in (
      views_on background (w, b.0) bytes d,
      record {
        placed = d;
        document = doc;
        height = h;
        size = size;
        sides = sides;
        banded = b.1;
        views = λ named. is_view_on background (w, b.0) bytes d named;
      },
    )

-- ---- outputs

-- the views have a size that a picture may have
not_empty : (background : Parts) (bytes : List ℕ) (v : Views) → AreViews background bytes v
    → ((m : Mending) → IsDifferFault m bytes differ.Empty) → ⊥
not_empty background bytes v p faulty =
    let f = faulty some_mending in
    let same = sizes_once some_mending bytes f.0 p.placed f.2.0 f.2.1 v.width p.height f.1 p.document f.2.2
    (p.size some_mending) in
    empty_and_sized v.width p.height
    (subst (λ (n : ℕ). (n ≡ 0) ⊎ (p.height ≡ 0)) same.0 (subst (λ (n : ℕ). (f.2.0 ≡ 0) ⊎ (n ≡ 0)) same.1 f.2.3)) p.sides

not_large : (background : Parts) (bytes : List ℕ) (v : Views) → AreViews background bytes v
    → ((m : Mending) → IsDifferFault m bytes differ.TooLarge) → ⊥
not_large background bytes v p faulty =
    let f = faulty some_mending in
    let same = sizes_once some_mending bytes f.0 p.placed f.2.0 f.2.1 v.width p.height f.1 p.document f.2.2
    (p.size some_mending) in
    large_and_sized v.width p.height
    (subst (λ (n : ℕ). IsFaultOfSize n p.height differ.TooLarge) same.0
    (subst (λ (n : ℕ). IsFaultOfSize f.2.0 n differ.TooLarge) same.1 f.2.3)) p.sides

not_both : (bytes : List ℕ) → ((m : Mending) → IsDifferFault m bytes differ.Empty)
    → ((m : Mending) → IsDifferFault m bytes differ.TooLarge) → ⊥
not_both bytes empty large =
    let e = empty some_mending in
    let l = large some_mending in
    let same = sizes_once some_mending bytes e.0 l.0 e.2.0 e.2.1 l.2.0 l.2.1 e.1 l.1 e.2.2 l.2.2 in
    empty_and_large l.2.0 l.2.1
    (subst (λ (n : ℕ). (n ≡ 0) ⊎ (l.2.1 ≡ 0)) same.0 (subst (λ (n : ℕ). (e.2.0 ≡ 0) ⊎ (n ≡ 0)) same.1 e.2.3)) l.2.3

parts_are : (text : Text) (answer : Result Status RunFault) (output : Output) → (text, answer) ≡ output
    → (text ≡ output.0) × (answer ≡ output.1)
parts_are text answer output e = (ap (λ (p : Output). p.0) e, ap (λ (p : Output). p.1) e)

-- the output of a document with views
of_views : (output : Views → Comparison → Output) (background : Parts) (bytes : List ℕ) (v : Views) (c : Comparison)
    → AreViews background bytes v → IsComparison v c → (text : Text) (a : Result Status RunFault)
    → DifferGives output background bytes text a → (text ≡ (output v c).0) × (a ≡ (output v c).1)
of_views output background bytes v c are is text (Err (Grammar f)) g =
    absurd (fault_no_document bytes f g.1 (are.placed, are.document))
of_views output background bytes v c are is text (Err Empty) g = absurd (not_empty background bytes v are g.1)
of_views output background bytes v c are is text (Err TooLarge) g = absurd (not_large background bytes v are g.1)
of_views output background bytes v c are is text a g =
    let same : g.0 ≡ v = views_once background bytes g.0 v g.1 are in
    let there : IsComparison v g.2.0 = subst (λ (w : Views). IsComparison w g.2.0) same g.2.1 in
    let one : g.2.0 ≡ c = comparison_once v g.2.0 c there is in
    parts_are text a (output v c)
    (g.2.2 ∙ ap (λ (w : Views). output w g.2.0) same ∙ ap (λ (d : Comparison). output v d) one)

-- the output of a document whose size is too small or too large, or of bytes that are no document
of_empty : (output : Views → Comparison → Output) (background : Parts) (bytes : List ℕ)
    → ((m : Mending) → IsDifferFault m bytes differ.Empty) → (text : Text) (a : Result Status RunFault)
    → DifferGives output background bytes text a → (text ≡ []) × (a ≡ Err Empty)
of_empty output background bytes empty text (Err (Grammar f)) g =
    let e = empty some_mending in absurd (fault_no_document bytes f g.1 (e.0, e.1))
of_empty output background bytes empty text (Err Empty) g = (g.0, refl)
of_empty output background bytes empty text (Err TooLarge) g = absurd (not_both bytes empty g.1)
of_empty output background bytes empty text a g = absurd (not_empty background bytes g.0 g.1 empty)

of_large : (output : Views → Comparison → Output) (background : Parts) (bytes : List ℕ)
    → ((m : Mending) → IsDifferFault m bytes differ.TooLarge) → (text : Text) (a : Result Status RunFault)
    → DifferGives output background bytes text a → (text ≡ []) × (a ≡ Err TooLarge)
of_large output background bytes large text (Err (Grammar f)) g =
    let l = large some_mending in absurd (fault_no_document bytes f g.1 (l.0, l.1))
of_large output background bytes large text (Err Empty) g = absurd (not_both bytes g.1 large)
of_large output background bytes large text (Err TooLarge) g = (g.0, refl)
of_large output background bytes large text a g = absurd (not_large background bytes g.0 g.1 large)

of_fault : (output : Views → Comparison → Output) (background : Parts) (bytes : List ℕ) (f : Fault) → IsFaultOf bytes f
    → (text : Text) (a : Result Status RunFault) → DifferGives output background bytes text a
    → (text ≡ []) × (a ≡ Err (Grammar f))
of_fault output background bytes f is text (Err (Grammar e)) g =
    (g.0, ap (λ (k : Fault). Err (Grammar k)) (fault_once bytes e f g.1 is))
of_fault output background bytes f is text (Err Empty) g =
    let e = g.1 some_mending in absurd (fault_no_document bytes f is (e.0, e.1))
of_fault output background bytes f is text (Err TooLarge) g =
    let l = g.1 some_mending in absurd (fault_no_document bytes f is (l.0, l.1))
of_fault output background bytes f is text a g = absurd (fault_no_document bytes f is (g.1.placed, g.1.document))

-- an output of views is given
abbrev IsGiven : (Views → Comparison → Output) → Type 0
IsGiven output = (background : Parts) (bytes : List ℕ) (v : Views) (c : Comparison) → AreViews background bytes v
    → IsComparison v c → DifferGives output background bytes (output v c).0 (output v c).1

pub differ_given : IsGiven differ_output
differ_given = λ background bytes v c are is. (v, are, (c, is, refl))

sheet_by : (background : Parts) (bytes : List ℕ) (v : Views) (c : Comparison) (rgb : Bool) → are_rgb_views v ≡ rgb
    → AreViews background bytes v → IsComparison v c
    → DifferGives sheet_output background bytes (sheet_output v c).0 (sheet_output v c).1
sheet_by background bytes v c true e are is =
    let o : sheet_output v c ≡ (sheet_text v, Ok (differ_status c)) = rw e refl in
    rw o (v, are, (c, is, sym o))
sheet_by background bytes v c false e are is =
    let o : sheet_output v c ≡ ([], Err NotRgb) = rw e refl in
    rw o (v, are, (c, is, sym o))

pub sheet_given : IsGiven sheet_output
sheet_given = λ background bytes v c are is. sheet_by background bytes v c (are_rgb_views v) refl are is

-- an output, which is the only one
record IsOnly (output : Views → Comparison → Output) (background : Parts) (bytes : List ℕ) (text : Text)
    (answer : Result Status RunFault) : Type 0 where
  pub given : DifferGives output background bytes text answer
  pub once : (other : Text) (a : Result Status RunFault) → DifferGives output background bytes other a
      → (other ≡ text) × (a ≡ answer)

abbrev HasOnly : (Views → Comparison → Output) → Parts → List ℕ → Type 0
HasOnly output background bytes =
    (text : Text) × (answer : Result Status RunFault) × IsOnly output background bytes text answer

only_views : (output : Views → Comparison → Output) → IsGiven output → (background : Parts) (bytes : List ℕ) (v : Views)
    → AreViews background bytes v → HasOnly output background bytes
only_views output given background bytes v are =
    let c = some_comparison v in (
      (output v c.0).0,
      (output v c.0).1,
      record {
        given = given background bytes v c.0 are c.1;
        once = of_views output background bytes v c.0 are c.1;
      },
    )

only_empty : (output : Views → Comparison → Output) (background : Parts) (bytes : List ℕ)
    → ((m : Mending) → IsDifferFault m bytes differ.Empty) → HasOnly output background bytes
only_empty output background bytes is =
    ([], Err Empty, record { given = (refl, is); once = of_empty output background bytes is })

only_large : (output : Views → Comparison → Output) (background : Parts) (bytes : List ℕ)
    → ((m : Mending) → IsDifferFault m bytes differ.TooLarge) → HasOnly output background bytes
only_large output background bytes is =
    ([], Err TooLarge, record { given = (refl, is); once = of_large output background bytes is })

only_sized : (output : Views → Comparison → Output) → IsGiven output → (background : Parts) (bytes : List ℕ)
    (d : List Placed) (w h : ℕ) → Document d bytes → ((m : Mending) → IsSize m (events_of d) w h)
    → HasOnly output background bytes
only_sized output given background bytes d w h doc size =
    elim (sized_by w h ((w == 0) || (h == 0)) (nat_lt most_side w || nat_lt most_side h) refl refl) [
      | inl none ↦ only_empty output background bytes (λ m. (d, doc, (w, h, size m, none)))
      | inr (inl much) ↦ only_large output background bytes (λ m. (d, doc, (w, h, size m, much)))
      | inr (inr sides) ↦
          let v = some_views background bytes d w h doc size sides in
          only_views output given background bytes v.0 v.1
    ]

only_of : (output : Views → Comparison → Output) → IsGiven output → (background : Parts) (bytes : List ℕ)
    (d : List Placed) → Document d bytes → HasOnly output background bytes
only_of output given background bytes d doc =
    let s = some_size some_mending (events_of d) in
    only_sized output given background bytes d s.0 s.1 doc
    (λ m. size_for_any some_mending m (events_of d) s.0 s.1 s.2)

only : (output : Views → Comparison → Output) → IsGiven output → (background : Parts) (bytes : List ℕ)
    → HasOnly output background bytes
only output given background bytes = elim (judged bytes) [
  | inl d ↦ only_of output given background bytes d.0 d.1
  | inr f ↦
      ([], Err (Grammar f.0), record { given = (refl, f.1); once = of_fault output background bytes f.0 f.1 })
]

pub differ-once : (output : Views → Comparison → Output) → IsGiven output → (background : Parts) (bytes : List ℕ)
    (first second : Text) (a b : Result Status RunFault) → DifferGives output background bytes first a
    → DifferGives output background bytes second b → (first ≡ second) × (a ≡ b)
differ-once output given background bytes first second a b g h =
    let o = only output given background bytes in
    let p = o.2.once first a g in
    let q = o.2.once second b h in
    (p.0 ∙ sym q.0, p.1 ∙ sym q.1)

pub differ-gives : (output : Views → Comparison → Output) → IsGiven output → (background : Parts) (bytes : List ℕ)
    → (text : Text) × (answer : Result Status RunFault) × DifferGives output background bytes text answer
differ-gives output given background bytes =
    let o = only output given background bytes in (o.0, o.1, o.2.given)
