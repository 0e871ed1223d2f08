-- Bytes have one comparison.
use Rattle.std.proofs.Common.{◌≡◌, ◌<◌, ℕ, refl, sym, ap, subst, ◌∙◌, arith, inl, inr, Some, List}
use Rattle.std.specs.Prelude.{false, slice_get}
use Rattle.std.specs.Option.{option_map}
use Rattle.sixel_grammar.specs.declared.command.Placed.{Placed}
use Rattle.sixel_grammar.specs.Document.{events_of}
use Rattle.sixel_grammar.proofs.UniqueLemmas.{document_once}
use Rattle.sixel_model.specs.declared.colour.Parts.{Parts}
use Rattle.sixel_model.specs.declared.colour.Parts.TheVariants.{Rgb}
use Rattle.sixel_terminal.specs.Screens.{Shown}
use Rattle.sixel_named_terminals.specs.declared.named.Named.{Named}
use Rattle.sixel_named_terminals.specs.declared.named.Named.TheVariants.{XTerm, MlTerm, Foot, Konsole}
use Rattle.sixel_emulator.specs.Modelled.{EndsAtPlace}
use Rattle.sixel_named_terminals.specs.Named.{heard_on, model_of}
use Rattle.sixel_emulator.specs.Readings.{Model}
use Rattle.sixel_named_terminals.proofs.NamedLemmas.{end_once, said_does_not_end, screen_once}
use Rattle.sixel_mend.specs.declared.mending.Mending.{Mending}
use Rattle.sixel_mend.specs.Sizes.{IsSize}
use Rattle.sixel_mend.proofs.SizeLemmas.{one_size}
use Rattle.sixel_differ.specs.declared.comparison.Comparison.{Comparison}
use Rattle.sixel_differ.specs.declared.comparison.Standing.{Standing}
use Rattle.sixel_differ.specs.declared.comparison.Standing.TheVariants.{First, Differs, Like, Unmodelled}
use Rattle.sixel_differ.specs.declared.view.View.{View}
use Rattle.sixel_differ.specs.declared.view.View.TheVariants.{Screen, Unmodelled as Ends}
use Rattle.sixel_differ.specs.declared.view.Views.{Views}
use Rattle.sixel_differ.specs.Comparisons.{IsComparison, IsLeader, IsUnlikeFirst, NoneShows, StandsAfter, StandsWith}
use Rattle.sixel_differ.specs.Comparisons.{rank, standing_in}
use Rattle.sixel_differ_laws.specs.Laws.{OneComparison, OneSetOfViews}
use Rattle.sixel_differ.specs.Pixels.{ComesBefore, DifferFirstAt}
use Rattle.sixel_differ.specs.Views.{AreViews, IsInBands, IsView, Shows, view_in}

-- two numbers of which neither is below the other are one
neither : (i j : ℕ) → (i < j → ⊥) → (j < i → ⊥) → i ≡ j
neither i j a b = omega (arith, a, b)

-- ---- one pixel

pixel_before : (s t : Shown) (x y u v : ℕ) → DifferFirstAt s t x y → DifferFirstAt s t u v → ComesBefore x y u v → ⊥
pixel_before s t x y u v p q before = p.differ (q.before x y p.column p.row before)

one_row : (s t : Shown) (x y u v : ℕ) → DifferFirstAt s t x y → DifferFirstAt s t u v → y ≡ v
one_row s t x y u v p q =
    neither y v (λ lt. pixel_before s t x y u v p q (inl lt)) (λ lt. pixel_before s t u v x y q p (inl lt))

one_column : (s t : Shown) (x y u v : ℕ) → DifferFirstAt s t x y → DifferFirstAt s t u v → x ≡ u
one_column s t x y u v p q =
    let row : y ≡ v = one_row s t x y u v p q in
    neither x u (λ lt. pixel_before s t x y u v p q (inr (row, lt)))
    (λ lt. pixel_before s t u v x y q p (inr (sym row, lt)))

-- ---- one standing

pub one_named : (a b : Named) → rank a ≡ rank b → a ≡ b
one_named XTerm XTerm e = refl
one_named MlTerm MlTerm e = refl
one_named Foot Foot e = refl
one_named Konsole Konsole e = refl
one_named XTerm MlTerm e = absurd (omega (arith, e))
one_named XTerm Foot e = absurd (omega (arith, e))
one_named XTerm Konsole e = absurd (omega (arith, e))
one_named MlTerm XTerm e = absurd (omega (arith, e))
one_named MlTerm Foot e = absurd (omega (arith, e))
one_named MlTerm Konsole e = absurd (omega (arith, e))
one_named Foot XTerm e = absurd (omega (arith, e))
one_named Foot MlTerm e = absurd (omega (arith, e))
one_named Foot Konsole e = absurd (omega (arith, e))
one_named Konsole XTerm e = absurd (omega (arith, e))
one_named Konsole MlTerm e = absurd (omega (arith, e))
one_named Konsole Foot e = absurd (omega (arith, e))

pub not_both : (screen : Shown) (place : ℕ) → Screen screen ≡ Ends place → ⊥
not_both screen place e = cc

pub none_shows : (v : Views) (n : ℕ) (named : Named) (screen : Shown) → NoneShows v n → rank named < n
    → Shows v named screen → ⊥
none_shows v n named screen none lt shows =
    let ends = none named lt in not_both screen ends.0 (sym shows ∙ ends.1)

first_named : (v : Views) (n : ℕ) (s : Shown) (x y u w : ℕ) (p : IsUnlikeFirst v n s x y) (q : IsUnlikeFirst v n s u w)
    → p.named ≡ q.named
first_named v n s x y u w p q =
    one_named p.named q.named
    (neither (rank p.named) (rank q.named)
    (λ lt. none_shows v (rank q.named) p.named p.shown q.first lt p.shows)
    (λ lt. none_shows v (rank p.named) q.named q.shown p.first lt q.shows))

pub shown_once : (a b : Shown) → Screen a ≡ Screen b → a ≡ b
shown_once a b e = cc

one_pixel : (v : Views) (n : ℕ) (s : Shown) (x y u w : ℕ) → IsUnlikeFirst v n s x y → IsUnlikeFirst v n s u w
    → Differs x y ≡ Differs u w
one_pixel v n s x y u w p q =
    let same : p.shown ≡ q.shown =
    shown_once p.shown q.shown (sym p.shows ∙ ap (view_in v) (first_named v n s x y u w p q) ∙ q.shows) in
    let d : DifferFirstAt q.shown s x y = subst (λ (a : Shown). DifferFirstAt a s x y) same p.pixel in
    ap (λ (k : ℕ). Differs k y) (one_column q.shown s x y u w d q.pixel)
    ∙ ap (λ (k : ℕ). Differs u k) (one_row q.shown s x y u w d q.pixel)

one_leader : (v : Views) (s : Shown) (a b : Named) → IsLeader v a s → IsLeader v b s → a ≡ b
one_leader v s a b p q =
    one_named a b
    (neither (rank a) (rank b) (λ lt. q.leads a p.shown lt p.shows p.alike)
    (λ lt. p.leads b q.shown lt q.shows q.alike))

one_standing : (v : Views) (n : ℕ) (s : Shown) (a b : Standing) → StandsAfter v n s a → StandsAfter v n s b → a ≡ b
one_standing v n s First First p q = refl
one_standing v n s First (Differs u w) p q = absurd (none_shows v n q.1.named q.1.shown p q.1.earlier q.1.shows)
one_standing v n s First (Like b) p q = absurd (none_shows v n b q.1.shown p q.0 q.1.shows)
one_standing v n s (Differs x y) First p q = absurd (none_shows v n p.1.named p.1.shown q p.1.earlier p.1.shows)
one_standing v n s (Differs x y) (Differs u w) p q = one_pixel v n s x y u w p.1 q.1
one_standing v n s (Differs x y) (Like b) p q = absurd (p.0 b q.1.shown q.0 q.1.shows q.1.alike)
one_standing v n s (Like a) First p q = absurd (none_shows v n a p.1.shown q p.0 p.1.shows)
one_standing v n s (Like a) (Differs u w) p q = absurd (q.0 a p.1.shown p.0 p.1.shows p.1.alike)
one_standing v n s (Like a) (Like b) p q = ap Like (one_leader v s a b p.1 q.1)
one_standing v n s (Unmodelled place) b p q = absurd p
one_standing v n s a (Unmodelled place) p q = absurd q

stands_once : (v : Views) (n : ℕ) (view : View) (a b : Standing) → StandsWith v n view a → StandsWith v n view b → a ≡ b
stands_once v n (Screen s) a b p q = one_standing v n s a b p q
stands_once v n (Ends place) a b p q = p ∙ sym q

pub one_comparison : OneComparison
one_comparison = λ v c d is are.
    same_fields c d (one v c d is are XTerm) (one v c d is are MlTerm) (one v c d is are Foot)
    (one v c d is are Konsole)
  where
    one : (v : Views) (c d : Comparison) → IsComparison v c → IsComparison v d → (named : Named)
        → standing_in c named ≡ standing_in d named
    one v c d is are named =
        stands_once v (rank named) (view_in v named) (standing_in c named) (standing_in d named) (is named) (are named)

    same_fields : (c d : Comparison) → c.xterm ≡ d.xterm → c.mlterm ≡ d.mlterm → c.foot ≡ d.foot
        → c.konsole ≡ d.konsole → c ≡ d
    same_fields c d e f g h =
        ap (λ (x : Standing). let r : Comparison = record c { xterm = x } in r) e
        ∙ ap (λ (x : Standing). let r : Comparison = record c { xterm = d.xterm; mlterm = x } in r) f
        ∙ ap (λ (x : Standing).
        let r : Comparison = record c { xterm = d.xterm; mlterm = d.mlterm; foot = x } in r) g
        ∙ ap (λ (x : Standing).
        let r : Comparison = record { xterm = d.xterm; mlterm = d.mlterm; foot = d.foot; konsole = x } in r) h

-- ---- one set of views

place_once : (m : Model) (placed : List Placed) (a b : ℕ) → EndsAtPlace m placed a → EndsAtPlace m placed b → a ≡ b
place_once m placed a b p q =
    let same : p.at ≡ q.at = end_once m (events_of placed) p.at q.at p.ends q.ends in
    some_once a b (sym p.has_place
    ∙ ap (λ (i : ℕ). option_map (λ (it : Placed). it.place) (slice_get placed i)) same ∙ q.has_place)
  where
    some_once : (a b : ℕ) → Some a ≡ Some b → a ≡ b
    some_once a b e = cc

view_once : (named : Named) (background : Parts) (sides : ℕ × ℕ) (placed : List Placed) (a b : View)
    → IsView named background sides placed a → IsView named background sides placed b → a ≡ b
view_once named background sides placed (Screen s) (Screen t) p q =
    ap Screen (screen_once named background sides (events_of placed) s t p q)
view_once named background sides placed (Screen s) (Ends j) p q =
    absurd (said_does_not_end (model_of named) (events_of placed) q.at p.said q.ends)
view_once named background sides placed (Ends i) (Screen t) p q =
    absurd (said_does_not_end (model_of named) (events_of placed) p.at q.said p.ends)
view_once named background sides placed (Ends i) (Ends j) p q = ap Ends (place_once (model_of named) placed i j p q)

bands_once : (height a b : ℕ) → IsInBands height a → IsInBands height b → a ≡ b
bands_once height a b p q = omega (arith, p.whole, p.enough, p.least, q.whole, q.enough, q.least)

pub some_mending : Mending
some_mending = record { background = Rgb 0 0 0; showing = false; selects = false }

same_views : (v w : Views) → v.width ≡ w.width → v.height ≡ w.height
    → ((named : Named) → view_in v named ≡ view_in w named) → v ≡ w
same_views v w e f g = made (g XTerm) (g MlTerm) (g Foot) (g Konsole)
  where
    made : v.xterm ≡ w.xterm → v.mlterm ≡ w.mlterm → v.foot ≡ w.foot → v.konsole ≡ w.konsole → v ≡ w
    made a b c d =
        ap (λ (n : ℕ). let r : Views = record v { width = n } in r) e
        ∙ ap (λ (n : ℕ). let r : Views = record v { width = w.width; height = n } in r) f
        ∙ ap (λ (x : View). let r : Views = record v { width = w.width; height = w.height; xterm = x } in r) a
        ∙ ap (λ (x : View).
        let r : Views = record w { mlterm = x; foot = v.foot; konsole = v.konsole } in r) b
        ∙ ap (λ (x : View). let r : Views = record w { foot = x; konsole = v.konsole } in r) c
        ∙ ap (λ (x : View). let r : Views = record w { konsole = x } in r) d

pub one_set_of_views : OneSetOfViews
one_set_of_views = λ background bytes v w p q.
    once background bytes v w p q (document_once bytes p.placed q.placed p.document q.document)
  where
    once : (background : Parts) (bytes : List ℕ) (v w : Views) (p : AreViews background bytes v)
        (q : AreViews background bytes w) → p.placed ≡ q.placed → v ≡ w
    once background bytes v w p q same =
        let size = one_size some_mending (events_of q.placed) v.width p.height w.width q.height
        (subst (λ (d : List Placed). IsSize some_mending (events_of d) v.width p.height) same (p.size some_mending))
        (q.size some_mending) in
        let down : v.height ≡ w.height =
        bands_once q.height v.height w.height (subst (λ (n : ℕ). IsInBands n v.height) size.1 p.banded) q.banded in
        same_views v w size.0 down (λ named.
        let heard = heard_on named bytes q.placed in
        view_once named background (w.width, w.height) heard (view_in v named) (view_in w named)
        (subst (λ (n : ℕ). IsView named background (w.width, n) heard (view_in v named)) down
        (subst (λ (n : ℕ). IsView named background (n, v.height) heard (view_in v named)) size.0
        (subst (λ (d : List Placed).
        IsView named background (v.width, v.height) (heard_on named bytes d) (view_in v named)) same
        (p.views named))))
        (q.views named))
