-- How the screens of the named terminals compare. The terminals are taken in order; those whose model says all fall
-- into groups of equal screens, in the order of their first members.
use Rattle.std.specs.Prelude.{◌≡◌, ◌<◌, ℕ}
use Rattle.sixel_terminal.specs.Screens.{Shown}
use Rattle.sixel_named_terminals.specs.declared.named.Named.{Named}
use Rattle.sixel_named_terminals.specs.declared.named.Named.TheVariants.{XTerm, MlTerm, Foot, Konsole}
use Rattle.sixel_differ.specs.declared.comparison.Comparison.{Comparison}
use Rattle.sixel_differ.specs.declared.comparison.Standing.{Standing}
use Rattle.sixel_differ.specs.declared.comparison.Standing.TheVariants.{First, Differs, Like, Unmodelled}
use Rattle.sixel_differ.specs.declared.view.View.{View}
use Rattle.sixel_differ.specs.declared.view.View.TheVariants.{Screen, Unmodelled as Ends}
use Rattle.sixel_differ.specs.declared.view.Views.{Views}
use Rattle.sixel_differ.specs.Pixels.{AreAlike, DifferFirstAt}
use Rattle.sixel_differ.specs.Views.{IsUnmodelled, Shows, view_in}

-- the terminal's place in the order
abbrev pub rank : Named → ℕ
rank XTerm = 0
rank MlTerm = 1
rank Foot = 2
rank Konsole = 3

-- the terminals before this place in the order are unmodelled
abbrev pub NoneShows : Views → ℕ → Type 0
NoneShows v n = (named : Named) → rank named < n → IsUnmodelled v named

-- the screen isn't like one of a terminal before this place in the order
abbrev pub IsLikeNone : Views → ℕ → Shown → Type 0
IsLikeNone v n screen = (named : Named) (other : Shown) → rank named < n → Shows v named other → ¬ AreAlike other screen

-- the terminal is the first in the order whose screen is like this one
pub record IsLeader (v : Views) (named : Named) (screen : Shown) : Type 0 where
  pub shown : Shown
  pub shows : Shows v named shown
  pub alike : AreAlike shown screen
  pub leads : IsLikeNone v (rank named) screen

-- the first of all screens, that of the first terminal before this place that isn't unmodelled, differs from this one,
-- and first at this pixel
pub record IsUnlikeFirst (v : Views) (n : ℕ) (screen : Shown) (x y : ℕ) : Type 0 where
  pub named : Named
  pub earlier : rank named < n
  pub shown : Shown
  pub shows : Shows v named shown
  pub first : NoneShows v (rank named)
  pub pixel : DifferFirstAt shown screen x y

-- how a screen stands to those of the terminals before this place in the order. First: there are none. Differs: it is
-- like none of them, and this is the first pixel that differs from the first of them. Like: this terminal is the first
-- whose screen is like it
abbrev pub StandsAfter : Views → ℕ → Shown → Standing → Type 0
StandsAfter v n screen First = NoneShows v n
StandsAfter v n screen (Differs x y) = IsLikeNone v n screen × IsUnlikeFirst v n screen x y
StandsAfter v n screen (Like named) = (rank named < n) × IsLeader v named screen
StandsAfter v n screen (Unmodelled place) = ⊥

-- how a terminal with this view stands to those before this place in the order
abbrev pub StandsWith : Views → ℕ → View → Standing → Type 0
StandsWith v n (Screen screen) standing = StandsAfter v n screen standing
StandsWith v n (Ends place) standing = standing ≡ Unmodelled place

abbrev pub standing_in : Comparison → Named → Standing
standing_in c XTerm = c.xterm
standing_in c MlTerm = c.mlterm
standing_in c Foot = c.foot
standing_in c Konsole = c.konsole

-- each terminal's standing is right: that to the terminals before it
abbrev pub IsComparison : Views → Comparison → Type 0
IsComparison v c = (named : Named) → StandsWith v (rank named) (view_in v named) (standing_in c named)

-- all four are one group, that of xterm
abbrev pub one_group : Comparison
one_group = record { xterm = First; mlterm = Like XTerm; foot = Like XTerm; konsole = Like XTerm }
