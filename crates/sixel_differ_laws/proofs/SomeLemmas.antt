-- Any screens have a comparison.
use Rattle.std.proofs.Common.{◌≡◌, ◌≢◌, ◌<◌, ◌+◌, ◌*◌, ◌/◌, ◌%◌, ◌⊎◌, ℕ, zero, suc, List, []}
use Rattle.std.proofs.Common.{◌∷◌, Option, Some, length}
use Rattle.std.proofs.Common.{refl, sym, ap, subst, ◌∙◌, arith, inl, inr}
use Rattle.std.specs.Prelude.{slice_get}
use Rattle.std.specs.Option.{option_map}
use Rattle.std.proofs.lemmas.Bool.{cases_eq, cases_lt}
use Rattle.std.proofs.lemmas.Nat.{div-add-mod', mod_below, mul-add-lt, row_below_turned}
use Rattle.std.proofs.lemmas.Option.{same_Some}
use Rattle.sixel_model.specs.declared.colour.Parts.{Parts}
use Rattle.sixel_model.specs.declared.colour.Parts.TheVariants.{Rgb, Hls}
use Rattle.sixel_terminal.specs.Screens.{Shown}
use Rattle.sixel_named_terminals.specs.declared.named.Named.{Named}
use Rattle.sixel_named_terminals.specs.declared.named.Named.TheVariants.{XTerm, MlTerm, Foot, Konsole}
use Rattle.sixel_differ.specs.declared.comparison.Comparison.{Comparison}
use Rattle.sixel_differ.specs.declared.comparison.Standing.{Standing}
use Rattle.sixel_differ.specs.declared.comparison.Standing.TheVariants.{First, Differs, Like, Unmodelled}
use Rattle.sixel_differ.specs.declared.view.View.{View}
use Rattle.sixel_differ.specs.declared.view.View.TheVariants.{Screen, Unmodelled as Ends}
use Rattle.sixel_differ.specs.declared.view.Views.{Views}
use Rattle.sixel_differ.specs.Comparisons.{IsComparison, IsLikeNone, IsUnlikeFirst, NoneShows, StandsAfter, StandsWith}
use Rattle.sixel_differ.specs.Comparisons.{rank, standing_in}
use Rattle.sixel_differ_laws.specs.Laws.{SomeComparison}
use Rattle.sixel_differ.specs.Pixels.{AreAlike, DifferFirstAt, seen_at, seen_of}
use Rattle.sixel_differ.specs.Views.{HasSides, HaveSides, IsUnmodelled, Shows, view_in}
use Rattle.sixel_differ_laws.proofs.OnceLemmas.{none_shows, not_both, one_named, shown_once}
use Rattle.sixel_differ.proofs.PixelLemmas.{index_below, some_width}

-- ---- the first difference of two lists of colours

same_or_not : (a b : Parts) → (a ≡ b) ⊎ (a ≢ b)
same_or_not (Rgb a b c) (Rgb d e f) =
    elim (cases_eq a d) [
      | inl p ↦ elim (cases_eq b e) [
        | inl q ↦ elim (cases_eq c f) [ inl r ↦ inl cc | inr r ↦ inr (λ s. r cc) ]
        | inr q ↦ inr (λ s. q cc)
      ]
      | inr p ↦ inr (λ s. p cc)
    ]
same_or_not (Hls a b c) (Hls d e f) =
    elim (cases_eq a d) [
      | inl p ↦ elim (cases_eq b e) [
        | inl q ↦ elim (cases_eq c f) [ inl r ↦ inl cc | inr r ↦ inr (λ s. r cc) ]
        | inr q ↦ inr (λ s. q cc)
      ]
      | inr p ↦ inr (λ s. p cc)
    ]
same_or_not (Rgb a b c) (Hls d e f) = inr (λ s. cc)
same_or_not (Hls a b c) (Rgb d e f) = inr (λ s. cc)

-- what is seen of the colour with this index
abbrev seen_get : List Parts → ℕ → Option Parts
seen_get colours k = option_map seen_of (slice_get colours k)

abbrev SameBelow : List Parts → List Parts → ℕ → Type 0
SameBelow xs ys n = (k : ℕ) → k < n → seen_get xs k ≡ seen_get ys k

record FirstDifference (xs ys : List Parts) : Type 0 where
  pub at : ℕ
  pub within : at < length xs
  pub unlike : seen_get xs at ≢ seen_get ys at
  pub before : SameBelow xs ys at

same_more : (x y : Parts) (xs ys : List Parts) (n : ℕ) → seen_of x ≡ seen_of y → SameBelow xs ys n
    → SameBelow (x ∷ xs) (y ∷ ys) (n + 1)
same_more x y xs ys n e same zero lt = ap Some e
same_more x y xs ys n e same (suc k) lt = same k (omega (arith, lt))

later : (x y : Parts) (xs ys : List Parts) → seen_of x ≡ seen_of y → FirstDifference xs ys
    → FirstDifference (x ∷ xs) (y ∷ ys)
later x y xs ys e d = record {
  at = suc d.at;
  within = omega (arith, d.within);
  unlike = d.unlike;
  before = λ k lt. same_more x y xs ys d.at e d.before k (omega (arith, lt));
}

at_once : (x y : Parts) (xs ys : List Parts) → seen_of x ≢ seen_of y → FirstDifference (x ∷ xs) (y ∷ ys)
at_once x y xs ys not = record {
  at = 0;
  within = omega arith;
  unlike = λ e. not (same_Some (seen_of x) (seen_of y) e);
  before = λ k lt. absurd (omega (arith, lt));
}

first_difference : (xs ys : List Parts) → length xs ≡ length ys
    → SameBelow xs ys (length xs) ⊎ FirstDifference xs ys
first_difference [] [] long = inl (λ k lt. refl)
first_difference [] (y ∷ ys) long = absurd (omega (arith, long))
first_difference (x ∷ xs) [] long = absurd (omega (arith, long))
first_difference (x ∷ xs) (y ∷ ys) long =
    elim (same_or_not (seen_of x) (seen_of y)) [
      | inr not ↦ inr (at_once x y xs ys not)
      | inl same ↦ elim (first_difference xs ys (omega (arith, long))) [
        | inl all ↦ inl (λ k lt. same_more x y xs ys (length xs) same all k (omega (arith, lt)))
        | inr d ↦ inr (later x y xs ys same d)
      ]
    ]

-- ---- two screens

at_pixel : (a b : Shown) (w h x y : ℕ) → HasSides a w h → HasSides b w h
    → seen_get a.colours (y * w + x) ≡ seen_get b.colours (y * w + x) → seen_at a x y ≡ seen_at b x y
at_pixel a b w h x y p q e =
    ap (λ (n : ℕ). seen_get a.colours (y * n + x)) p.width_is ∙ e
    ∙ ap (λ (n : ℕ). seen_get b.colours (y * n + x)) (sym q.width_is)

at_index : (a b : Shown) (w h x y : ℕ) → HasSides a w h → HasSides b w h → seen_at a x y ≡ seen_at b x y
    → seen_get a.colours (y * w + x) ≡ seen_get b.colours (y * w + x)
at_index a b w h x y p q e =
    ap (λ (n : ℕ). seen_get a.colours (y * n + x)) (sym p.width_is) ∙ e
    ∙ ap (λ (n : ℕ). seen_get b.colours (y * n + x)) q.width_is

all_alike : (a b : Shown) (w h : ℕ) → HasSides a w h → HasSides b w h
    → SameBelow a.colours b.colours (length a.colours) → AreAlike a b
all_alike a b w h p q same = λ x y wide high.
    let lt : y * w + x < w * h =
    mul-add-lt y w x h (subst (λ (n : ℕ). y < n) p.height_is high) (subst (λ (n : ℕ). x < n) p.width_is wide) in
    at_pixel a b w h x y p q (same (y * w + x) (subst (λ (n : ℕ). y * w + x < n) (sym p.whole) lt))

first_unlike : (a b : Shown) (w h : ℕ) → HasSides a w h → HasSides b w h
    → (d : FirstDifference a.colours b.colours) → DifferFirstAt a b (d.at % w) (d.at / w)
first_unlike a b w h p q d = record {
  column = subst (λ (n : ℕ). d.at % w < n) (sym p.width_is) (mod_below d.at w wide);
  row = subst (λ (n : ℕ). d.at / w < n) (sym p.height_is)
      (row_below_turned d.at w h w (omega (arith, within)) (omega arith)).1;
  differ = λ e. d.unlike
      (subst (λ (k : ℕ). seen_get a.colours k ≡ seen_get b.colours k) (div-add-mod' d.at w)
      (at_index a b w h (d.at % w) (d.at / w) p q e));
  before = λ u v across down first.
      at_pixel a b w h u v p q
      (d.before (v * w + u) (index_below w d.at u v (subst (λ (n : ℕ). u < n) p.width_is across) first));
}
  where
    within : d.at < w * h
    within = subst (λ (n : ℕ). d.at < n) p.whole d.within

    wide : 0 < w
    wide = some_width w h d.at within

record IsUnlike (a b : Shown) : Type 0 where
  pub x : ℕ
  pub y : ℕ
  pub pixel : DifferFirstAt a b x y

alike_or_not : (a b : Shown) (w h : ℕ) → HasSides a w h → HasSides b w h → AreAlike a b ⊎ IsUnlike a b
alike_or_not a b w h p q =
    elim (first_difference a.colours b.colours (p.whole ∙ sym q.whole)) [
      | inl same ↦ inl (all_alike a b w h p q same)
      | inr d ↦ inr (record { x = d.at % w; y = d.at / w; pixel = first_unlike a b w h p q d })
    ]

not_alike : (a b : Shown) → IsUnlike a b → AreAlike a b → ⊥
not_alike a b d alike = d.pixel.differ (alike d.x d.y d.pixel.column d.pixel.row)

-- ---- a standing with one more terminal

HasStanding : Views → ℕ → Shown → Type 0
HasStanding v n s = (standing : Standing) × StandsAfter v n s standing

one_of : (t named : Named) → rank t < rank named + 1 → (rank t < rank named) ⊎ (t ≡ named)
one_of t named lt =
    elim (cases_lt (rank t) (rank named)) [
      | inl less ↦ inl less
      | inr not ↦ inr (one_named t named (omega (arith, lt, not)))
    ]

none_more : (v : Views) (named : Named) → IsUnmodelled v named → NoneShows v (rank named)
    → NoneShows v (rank named + 1)
none_more v named ends none = λ t lt.
    elim (one_of t named lt) [
      | inl less ↦ none t less
      | inr same ↦ subst (IsUnmodelled v) (sym same) ends
    ]

like_none : (v : Views) (named : Named) (s : Shown) → IsLikeNone v (rank named) s
    → ((other : Shown) → Shows v named other → ¬ AreAlike other s) → IsLikeNone v (rank named + 1) s
like_none v named s before not = λ t other lt shows alike.
    elim (one_of t named lt) [
      | inl less ↦ before t other less shows alike
      | inr same ↦ not other (subst (λ (it : Named). Shows v it other) same shows) alike
    ]

no_screen : (v : Views) (named : Named) (s other : Shown) → IsUnmodelled v named → Shows v named other
    → ¬ AreAlike other s
no_screen v named s other ends shows = λ alike. not_both other ends.0 (sym shows ∙ ends.1)

not_this : (v : Views) (named : Named) (s shown other : Shown) → Shows v named shown → IsUnlike shown s
    → Shows v named other → ¬ AreAlike other s
not_this v named s shown other is unlike shows = λ alike.
    not_alike shown s unlike
    (subst (λ (it : Shown). AreAlike it s) (shown_once other shown (sym shows ∙ is)) alike)

later_first : (v : Views) (n : ℕ) (s : Shown) (x y : ℕ) → IsUnlikeFirst v n s x y → IsUnlikeFirst v (n + 1) s x y
later_first v n s x y u = record {
  named = u.named;
  earlier = omega (arith, u.earlier);
  shown = u.shown;
  shows = u.shows;
  first = u.first;
  pixel = u.pixel;
}

leads : (v : Views) (named : Named) (s shown : Shown) → Shows v named shown → AreAlike shown s
    → IsLikeNone v (rank named) s → HasStanding v (rank named + 1) s
unfolding HasStanding
leads v named s shown is alike none =
    (Like named, (omega arith, record { shown = shown; shows = is; alike = alike; leads = none }))

none_like : (v : Views) (n : ℕ) (s : Shown) → NoneShows v n → IsLikeNone v n s
none_like v n s none = λ t other lt shows alike. none_shows v n t other none lt shows

with_end : (v : Views) (named : Named) (s : Shown) (standing : Standing) → IsUnmodelled v named
    → StandsAfter v (rank named) s standing → HasStanding v (rank named + 1) s
unfolding HasStanding
with_end v named s First ends stands = (First, none_more v named ends stands)
with_end v named s (Differs x y) ends stands = (
  Differs x y,
  (
    like_none v named s stands.0 (λ other. no_screen v named s other ends),
    later_first v (rank named) s x y stands.1,
  ),
)
with_end v named s (Like a) ends stands = (Like a, (omega (arith, stands.0), stands.1))
with_end v named s (Unmodelled place) ends stands = absurd stands

with_alike : (v : Views) (named : Named) (s shown : Shown) (standing : Standing) → Shows v named shown
    → AreAlike shown s → StandsAfter v (rank named) s standing → HasStanding v (rank named + 1) s
unfolding HasStanding
with_alike v named s shown First is alike stands =
    leads v named s shown is alike (none_like v (rank named) s stands)
with_alike v named s shown (Differs x y) is alike stands = leads v named s shown is alike stands.0
with_alike v named s shown (Like a) is alike stands = (Like a, (omega (arith, stands.0), stands.1))
with_alike v named s shown (Unmodelled place) is alike stands = absurd stands

with_unlike : (v : Views) (named : Named) (s shown : Shown) (standing : Standing) → Shows v named shown
    → IsUnlike shown s → StandsAfter v (rank named) s standing → HasStanding v (rank named + 1) s
unfolding HasStanding
with_unlike v named s shown First is unlike stands = (
  Differs unlike.x unlike.y,
  (
    like_none v named s (none_like v (rank named) s stands)
        (λ other. not_this v named s shown other is unlike),
    record {
      named = named;
      earlier = omega arith;
      shown = shown;
      shows = is;
      first = stands;
      pixel = unlike.pixel;
    },
  ),
)
with_unlike v named s shown (Differs x y) is unlike stands = (
  Differs x y,
  (
    like_none v named s stands.0 (λ other. not_this v named s shown other is unlike),
    later_first v (rank named) s x y stands.1,
  ),
)
with_unlike v named s shown (Like a) is unlike stands = (Like a, (omega (arith, stands.0), stands.1))
with_unlike v named s shown (Unmodelled place) is unlike stands = absurd stands

with_view : (v : Views) (named : Named) (s : Shown) (view : View) (standing : Standing) → HaveSides v
    → HasSides s v.width v.height → view_in v named ≡ view → StandsAfter v (rank named) s standing
    → HasStanding v (rank named + 1) s
with_view v named s (Screen shown) standing sides side is stands =
    elim (alike_or_not shown s v.width v.height (sides named shown is) side) [
      | inl alike ↦ with_alike v named s shown standing is alike stands
      | inr unlike ↦ with_unlike v named s shown standing is unlike stands
    ]
with_view v named s (Ends place) standing sides side is stands = with_end v named s standing (place, is) stands

with_named : (v : Views) (named : Named) (s : Shown) → HaveSides v → HasSides s v.width v.height
    → HasStanding v (rank named) s → HasStanding v (rank named + 1) s
unfolding HasStanding
with_named v named s sides side h = with_view v named s (view_in v named) h.0 sides side refl h.1

no_earlier : (v : Views) (s : Shown) → HasStanding v 0 s
unfolding HasStanding
no_earlier v s = (First, λ t lt. absurd (omega (arith, lt)))

standing_before : (v : Views) (named : Named) (s : Shown) → HaveSides v → HasSides s v.width v.height
    → HasStanding v (rank named) s
standing_before v XTerm s sides side = no_earlier v s
standing_before v MlTerm s sides side = with_named v XTerm s sides side (no_earlier v s)
standing_before v Foot s sides side =
    with_named v MlTerm s sides side (with_named v XTerm s sides side (no_earlier v s))
standing_before v Konsole s sides side =
    with_named v Foot s sides side
    (with_named v MlTerm s sides side (with_named v XTerm s sides side (no_earlier v s)))

stands_with : (v : Views) (named : Named) (view : View) → HaveSides v → view_in v named ≡ view
    → (standing : Standing) × StandsWith v (rank named) view standing
unfolding HasStanding
stands_with v named (Screen s) sides is = standing_before v named s sides (sides named s is)
stands_with v named (Ends place) sides is = (Unmodelled place, refl)

right : (v : Views) (c : Comparison) → StandsWith v 0 v.xterm c.xterm → StandsWith v 1 v.mlterm c.mlterm
    → StandsWith v 2 v.foot c.foot → StandsWith v 3 v.konsole c.konsole → (named : Named)
    → StandsWith v (rank named) (view_in v named) (standing_in c named)
right v c p q r s XTerm = p
right v c p q r s MlTerm = q
right v c p q r s Foot = r
right v c p q r s Konsole = s

pub some_comparison : SomeComparison
some_comparison = λ v sides. compared v sides
  where
    each : (v : Views) → HaveSides v → (named : Named)
        → (standing : Standing) × StandsWith v (rank named) (view_in v named) standing
    each v sides named = stands_with v named (view_in v named) sides refl

    compared : (v : Views) → HaveSides v → (c : Comparison) × IsComparison v c
    compared v sides =
        let c : Comparison = record {
          xterm = (each v sides XTerm).0;
          mlterm = (each v sides MlTerm).0;
          foot = (each v sides Foot).0;
          konsole = (each v sides Konsole).0;
        } in
        (c, right v c (each v sides XTerm).1 (each v sides MlTerm).1 (each v sides Foot).1 (each v sides Konsole).1)
