-- Any bytes have views or a fault.
use Rattle.std.proofs.Common.{◌≡◌, ◌<◌, ◌≤◌, ◌+◌, ◌*◌, ◌/◌, ◌&&◌, ◌⊎◌, ℕ, zero, suc, List, []}
use Rattle.std.proofs.Common.{◌∷◌, Some, length}
use Rattle.std.proofs.Common.{refl, ap, subst, arith, inl, inr, lit<}
use Rattle.std.specs.Prelude.{IsTrue, slice_get, true}
use Rattle.std.specs.Option.{option_map}
use Rattle.std.proofs.lemmas.Bool.{cases_lt}
use Rattle.std.proofs.lemmas.Bool.Decides.{nat_tests}
use Rattle.std.proofs.lemmas.List.{length-map}
use Rattle.std.proofs.lemmas.Nat.{div-add-mod', mod_below}
use Rattle.sixel_grammar.specs.declared.command.Event.{Event}
use Rattle.sixel_grammar.specs.declared.command.Placed.{Placed}
use Rattle.sixel_grammar.specs.Document.{Document, events_of}
use Rattle.sixel_grammar.proofs.TotalLemmas.{judged}
use Rattle.sixel_model.specs.declared.colour.Parts.{Parts}
use Rattle.sixel_model.specs.Pictures.{is_side, most_side}
use Rattle.sixel_terminal.specs.Drawing.{height_of, touches_on}
use Rattle.sixel_named_terminals.specs.declared.named.Named.{Named}
use Rattle.sixel_named_terminals.specs.declared.named.Named.TheVariants.{XTerm, MlTerm, Foot, Konsole}
use Rattle.sixel_named_terminals.specs.Named.{heard_on, model_of}
use Rattle.sixel_emulator.specs.Readings.{EndsAt}
use Rattle.sixel_named_terminals.proofs.NamedLemmas.{shows_or_ends}
use Rattle.sixel_mend.specs.declared.mending.Mending.{Mending}
use Rattle.sixel_mend.specs.Screens.{mending_terminal}
use Rattle.sixel_mend.specs.Sizes.{IsExtent, IsSize, IsTouched, side_over}
use Rattle.sixel_mend.proofs.SizeLemmas.{has_extent, size_by}
use Rattle.sixel_differ.specs.declared.fault.DifferFault.TheVariants.{Grammar, Empty, TooLarge}
use Rattle.sixel_differ.specs.declared.view.View.{View}
use Rattle.sixel_differ.specs.declared.view.View.TheVariants.{Screen, Unmodelled as Ends}
use Rattle.sixel_differ.specs.declared.view.Views.{Views}
use Rattle.sixel_differ_laws.specs.Laws.{SomeFault, ViewsOrFault}
use Rattle.sixel_differ.specs.Views.{AreViews, IsInBands, IsView}
use Rattle.sixel_differ_laws.proofs.OnceLemmas.{some_mending}
use Rattle.sixel_differ.proofs.ShowingLemmas.{each_view}

-- ---- the size

touched_for_any : (m k : Mending) (w h v u : ℕ) (events : List Event) (x y : ℕ)
    → IsTouched (mending_terminal m w h) events x y → IsTouched (mending_terminal k v u) events x y
unfolding touches_on height_of
touched_for_any m k w h v u events x y touched = touched

extent_for_any : (m k : Mending) (events : List Event) (a b : ℕ) → IsExtent (mending_terminal m 0 0) events a b
    → IsExtent (mending_terminal k 0 0) events a b
extent_for_any m k events a b is = record {
  bounds = λ x y touched. is.bounds x y (touched_for_any k m 0 0 0 0 events x y touched);
  least = λ c d bounds.
      is.least c d (λ x y touched. bounds x y (touched_for_any m k 0 0 0 0 events x y touched));
}

record HasSize (events : List Event) : Type 0 where
  pub width : ℕ
  pub height : ℕ
  pub size : (m : Mending) → IsSize m events width height

has_size : (events : List Event) → HasSize events
has_size events = let e = has_extent some_mending 0 0 events in record {
  width = side_over events (λ s. s.width) e.width;
  height = side_over events (λ s. s.height) e.height;
  size = λ m. size_by m 0 0 (extent_for_any some_mending m events e.width e.height e.is);
}

data SizeJudged (w h : ℕ) : Type 0 where
  Fits : IsTrue (is_side w && is_side h) → SizeJudged w h
  IsEmpty : (w ≡ 0) ⊎ (h ≡ 0) → SizeJudged w h
  IsTooLarge : 0 < w → 0 < h → (most_side < w) ⊎ (most_side < h) → SizeJudged w h

fits : (w h : ℕ) → 0 < w → 0 < h → w ≤ 2048 → h ≤ 2048 → (is_side w && is_side h) ≡ true
fits w h a b c d = grind (arith, nat_tests)

size_judged : (w h : ℕ) → SizeJudged w h
size_judged w h =
    elim (cases_lt 0 w) [
      | inr none ↦ IsEmpty (inl (omega (arith, none)))
      | inl wide ↦ elim (cases_lt 0 h) [
        | inr none ↦ IsEmpty (inr (omega (arith, none)))
        | inl high ↦ elim (cases_lt most_side w) [
          | inl large ↦ IsTooLarge wide high (inl large)
          | inr few ↦ elim (cases_lt most_side h) [
            | inl large ↦ IsTooLarge wide high (inr large)
            | inr less ↦ Fits (fits w h wide high few less)
          ]
        ]
      ]
    ]

record HasBands (height : ℕ) : Type 0 where
  pub banded : ℕ
  pub is : IsInBands height banded

has_bands : (height : ℕ) → HasBands height
has_bands height = record {
  banded = (height + 5) / 6 * 6;
  is = record {
    bands = (height + 5) / 6;
    whole = refl;
    enough = omega (arith, div-add-mod' (height + 5) 6, mod_below (height + 5) 6 (lit< tt));
    least = omega (arith, div-add-mod' (height + 5) 6);
  };
}

-- ---- the views

some_at : (placed : List Placed) (i : ℕ) → i < length placed → (p : Placed) × (slice_get placed i ≡ Some p)
some_at [] i lt = absurd (omega (arith, lt))
some_at (p ∷ placed) zero lt = (p, refl)
some_at (p ∷ placed) (suc i) lt = some_at placed i (omega (arith, lt))

HasView : Named → Parts → ℕ × ℕ → List Placed → Type 0
HasView named background sides placed = (view : View) × IsView named background sides placed view

ended : (named : Named) (background : Parts) (sides : ℕ × ℕ) (placed : List Placed) (i : ℕ)
    → EndsAt (model_of named) (events_of placed) i → HasView named background sides placed
unfolding HasView
ended named background sides placed i ends =
    let lt = subst (λ (n : ℕ). i < n) (length-map placed (λ (p : Placed). p.event)) ends.within in
    let there = some_at placed i lt in (
      Ends there.0.place,
      record { at = i; ends = ends; has_place = ap (option_map (λ (p : Placed). p.place)) there.1 },
    )

has_view : (named : Named) (background : Parts) (sides : ℕ × ℕ) (placed : List Placed)
    → HasView named background sides placed
unfolding HasView
has_view named background sides placed =
    elim (shows_or_ends named background sides (events_of placed)) [
      | inl e ↦ ended named background sides placed e.0 e.1
      | inr s ↦ (Screen s.0, s.1)
    ]

some_views : (background : Parts) (bytes : List ℕ) (placed : List Placed) → Document placed bytes
    → (size : HasSize (events_of placed)) → IsTrue (is_side size.width && is_side size.height)
    → (v : Views) × AreViews background bytes v
unfolding HasView
some_views background bytes placed doc size fit =
    let bands = has_bands size.height in
    let sides : ℕ × ℕ = (size.width, bands.banded) in
    let a = has_view XTerm background sides (heard_on XTerm bytes placed) in
    let b = has_view MlTerm background sides (heard_on MlTerm bytes placed) in
    let c = has_view Foot background sides (heard_on Foot bytes placed) in
    let d = has_view Konsole background sides (heard_on Konsole bytes placed) in
    let v : Views = record {
      width = size.width;
      height = bands.banded;
      xterm = a.0;
      mlterm = b.0;
      foot = c.0;
      konsole = d.0;
    } in (
      v,
      record {
        placed = placed;
        document = doc;
        height = size.height;
        size = size.size;
        sides = fit;
        banded = bands.is;
        views = each_view background sides bytes placed v a.1 b.1 c.1 d.1;
      },
    )

by_size : (background : Parts) (bytes : List ℕ) (placed : List Placed) → Document placed bytes
    → (size : HasSize (events_of placed)) → SizeJudged size.width size.height
    → ((v : Views) × AreViews background bytes v) ⊎ SomeFault bytes
by_size background bytes placed doc size (Fits fit) = inl (some_views background bytes placed doc size fit)
by_size background bytes placed doc size (IsEmpty is) =
    inr (Empty, λ e. cc, λ m. (placed, doc, (size.width, size.height, size.size m, is)))
by_size background bytes placed doc size (IsTooLarge wide high large) =
    inr (TooLarge, λ e. cc, λ m. (placed, doc, (size.width, size.height, size.size m, (wide, high, large))))

pub views_or_fault : ViewsOrFault
views_or_fault = λ background bytes.
    elim (judged bytes) [
      | inl d ↦ by_size background bytes d.0 d.1 (has_size (events_of d.0))
          (size_judged (has_size (events_of d.0)).width (has_size (events_of d.0)).height)
      | inr f ↦ inr (Grammar f.0, λ e. cc, λ m. f.1)
    ]
