-- Four screens are one group exactly where they are alike.
use Rattle.std.proofs.Common.{◌≡◌, ◌<◌, ◌≤◌, ℕ, refl, sym, ap, subst, ◌∙◌, arith}
use Rattle.sixel_terminal.specs.Screens.{Shown}
use Rattle.sixel_named_terminals.specs.declared.named.Named.{Named}
use Rattle.sixel_named_terminals.specs.declared.named.Named.TheVariants.{XTerm, MlTerm, Foot, Konsole}
use Rattle.sixel_differ.specs.declared.comparison.Comparison.{Comparison}
use Rattle.sixel_differ.specs.declared.comparison.Standing.{Standing}
use Rattle.sixel_differ.specs.declared.comparison.Standing.TheVariants.{First, Differs, Like, Unmodelled}
use Rattle.sixel_differ.specs.declared.view.View.{View}
use Rattle.sixel_differ.specs.declared.view.View.TheVariants.{Screen, Unmodelled as Ends}
use Rattle.sixel_differ.specs.declared.view.Views.{Views}
use Rattle.sixel_differ.specs.Comparisons.{IsComparison, StandsAfter, StandsWith, one_group, rank, standing_in}
use Rattle.sixel_differ_laws.specs.Laws.{AreAllAlike, OneGroupWhereAlike}
use Rattle.sixel_differ.specs.Pixels.{AreAlike}
use Rattle.sixel_differ.specs.Views.{HaveSides, Shows, view_in}

-- ---- one group

-- a terminal whose model says all has a screen, and its standing is that of the screen
shown_with : (v : Views) (named : Named) (view : View) (standing : Standing) → view_in v named ≡ view
    → StandsWith v (rank named) view standing → ((place : ℕ) → ¬ (standing ≡ Unmodelled place))
    → (screen : Shown) × Shows v named screen × StandsAfter v (rank named) screen standing
shown_with v named (Screen screen) standing is stands said = (screen, is, stands)
shown_with v named (Ends place) standing is stands said = absurd (said place stands)

first_said : (place : ℕ) → ¬ (First ≡ Unmodelled place)
first_said place = λ e. cc

like_said : (leader : Named) (place : ℕ) → ¬ (Like leader ≡ Unmodelled place)
like_said leader place = λ e. cc

same_screen : (a b : Shown) → Screen a ≡ Screen b → a ≡ b
same_screen a b e = cc

-- a terminal's screen, which is like this one
Joins : Views → Shown → Named → Type 0
Joins v screen named = (other : Shown) × Shows v named other × AreAlike screen other

joins : (v : Views) (screen : Shown) (named : Named) → Shows v XTerm screen
    → StandsWith v (rank named) (view_in v named) (Like XTerm) → Joins v screen named
unfolding Joins
joins v screen named shows stands =
    let s = shown_with v named (view_in v named) (Like XTerm) refl stands (like_said XTerm) in
    let leader = s.2.1 in
    let same : leader.shown ≡ screen = same_screen leader.shown screen (sym leader.shows ∙ shows) in
    (s.0, s.1, subst (λ (a : Shown). AreAlike a s.0) same leader.alike)

each_joins : (v : Views) (screen : Shown) → Shows v XTerm screen → IsComparison v one_group → (named : Named)
    → Joins v screen named
unfolding Joins
each_joins v screen shows is XTerm = (screen, shows, λ x y wide high. refl)
each_joins v screen shows is MlTerm = joins v screen MlTerm shows (is MlTerm)
each_joins v screen shows is Foot = joins v screen Foot shows (is Foot)
each_joins v screen shows is Konsole = joins v screen Konsole shows (is Konsole)

alike_in_group : (v : Views) → HaveSides v → IsComparison v one_group → AreAllAlike v
unfolding Joins
alike_in_group v sides is = record {
  screen = λ named. (each named).0;
  shows = λ named. (each named).1;
  alike = λ one other x y wide high.
      sym ((each one).2 x y (across x wide) (down y high)) ∙ (each other).2 x y (across x wide) (down y high);
}
  where
    first : (screen : Shown) × Shows v XTerm screen × StandsAfter v 0 screen First
    first = shown_with v XTerm (view_in v XTerm) First refl (is XTerm) first_said

    each : (named : Named) → Joins v first.0 named
    each named = each_joins v first.0 first.1 is named

    across : (x : ℕ) → x < v.width → x < first.0.width
    across x lt = subst (λ (n : ℕ). x < n) (sym (sides XTerm first.0 first.1).width_is) lt

    down : (y : ℕ) → y < v.height → y < first.0.height
    down y lt = subst (λ (n : ℕ). y < n) (sym (sides XTerm first.0 first.1).height_is) lt

-- ---- alike

stands_first : (v : Views) (screen : Shown) (standing : Standing) → StandsAfter v 0 screen standing → standing ≡ First
stands_first v screen First stands = refl
stands_first v screen (Differs x y) stands = absurd (omega (arith, stands.1.earlier))
stands_first v screen (Like named) stands = absurd (omega (arith, stands.0))
stands_first v screen (Unmodelled place) stands = absurd stands

leads_xterm : (v : Views) (leader : Named) (screen other : Shown) → Shows v XTerm screen → AreAlike screen other
    → StandsAfter v 4 other (Like leader) → Like leader ≡ Like XTerm
leads_xterm v XTerm screen other shows alike stands = refl
leads_xterm v MlTerm screen other shows alike stands =
    absurd (stands.1.leads XTerm screen (omega arith) shows alike)
leads_xterm v Foot screen other shows alike stands = absurd (stands.1.leads XTerm screen (omega arith) shows alike)
leads_xterm v Konsole screen other shows alike stands = absurd (stands.1.leads XTerm screen (omega arith) shows alike)

not_ended : (screen : Shown) (place : ℕ) → Screen screen ≡ Ends place → ⊥
not_ended screen place e = cc

stands_like : (v : Views) (n : ℕ) (screen other : Shown) (standing : Standing) → 0 < n → n ≤ 4 → Shows v XTerm screen
    → AreAlike screen other → StandsAfter v n other standing → standing ≡ Like XTerm
stands_like v n screen other First some few shows alike stands =
    let none = stands XTerm some in absurd (not_ended screen none.0 (sym shows ∙ none.1))
stands_like v n screen other (Differs x y) some few shows alike stands =
    absurd (stands.0 XTerm screen some shows alike)
stands_like v n screen other (Like leader) some few shows alike stands =
    leads_xterm v leader screen other shows alike (omega (arith, stands.0, few), stands.1)
stands_like v n screen other (Unmodelled place) some few shows alike stands = absurd stands

fields : (c : Comparison) → c.xterm ≡ First → c.mlterm ≡ Like XTerm → c.foot ≡ Like XTerm → c.konsole ≡ Like XTerm
    → c ≡ one_group
fields c p q r s =
    ap (λ (x : Standing). let d : Comparison = record c { xterm = x } in d) p
    ∙ ap (λ (x : Standing). let d : Comparison = record c { xterm = First; mlterm = x } in d) q
    ∙ ap (λ (x : Standing). let d : Comparison = record c { xterm = First; mlterm = Like XTerm; foot = x } in d) r
    ∙ ap (λ (x : Standing).
    let d : Comparison = record { xterm = First; mlterm = Like XTerm; foot = Like XTerm; konsole = x } in d) s

group_where_alike : (v : Views) (c : Comparison) → HaveSides v → IsComparison v c → AreAllAlike v → c ≡ one_group
group_where_alike v c sides is all =
    fields c (stands_first v (all.screen XTerm) c.xterm (stands XTerm))
    (like MlTerm (omega arith) (omega arith)) (like Foot (omega arith) (omega arith))
    (like Konsole (omega arith) (omega arith))
  where
    stands : (named : Named) → StandsAfter v (rank named) (all.screen named) (standing_in c named)
    stands named =
        subst (λ (view : View). StandsWith v (rank named) view (standing_in c named)) (all.shows named) (is named)

    alike : (named : Named) → AreAlike (all.screen XTerm) (all.screen named)
    alike named = λ x y wide high.
        let s = sides XTerm (all.screen XTerm) (all.shows XTerm) in
        all.alike XTerm named x y (subst (λ (n : ℕ). x < n) s.width_is wide) (subst (λ (n : ℕ). y < n) s.height_is high)

    like : (named : Named) → 0 < rank named → rank named ≤ 4 → standing_in c named ≡ Like XTerm
    like named some few =
        stands_like v (rank named) (all.screen XTerm) (all.screen named) (standing_in c named) some few
        (all.shows XTerm) (alike named) (stands named)

pub one_group_where_alike : OneGroupWhereAlike
one_group_where_alike = λ v c sides is. (
  λ e. alike_in_group v sides (subst (IsComparison v) e is),
  λ all. group_where_alike v c sides is all,
)
