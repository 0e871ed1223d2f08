-- Laws about comparisons.
use Rattle.std.specs.Prelude.{◌≡◌, ◌≢◌, ◌<◌, ◌⊎◌, ◌↔◌, ℕ, List}
use Rattle.sixel_model.specs.declared.colour.Parts.{Parts}
use Rattle.sixel_terminal.specs.Screens.{Shown}
use Rattle.sixel_named_terminals.specs.declared.named.Named.{Named}
use Rattle.sixel_mend.specs.declared.mending.Mending.{Mending}
use Rattle.sixel_differ.specs.declared.comparison.Comparison.{Comparison}
use Rattle.sixel_differ.specs.declared.fault.DifferFault.{DifferFault}
use Rattle.sixel_differ.specs.declared.fault.DifferFault.TheVariants.{OutOfMemory}
use Rattle.sixel_differ.specs.declared.view.Views.{Views}
use Rattle.sixel_differ.specs.Comparisons.{IsComparison, one_group}
use Rattle.sixel_differ.specs.Faults.{IsDifferFault}
use Rattle.sixel_differ.specs.Pixels.{seen_at}
use Rattle.sixel_differ.specs.Views.{AreViews, HaveSides, Shows}

-- all four models say all, and one colour is seen at each pixel of their screens
pub record AreAllAlike (v : Views) : Type 0 where
  pub screen : Named → Shown
  pub shows : (named : Named) → Shows v named (screen named)
  pub alike : (one other : Named) (x y : ℕ) → x < v.width → y < v.height
      → seen_at (screen one) x y ≡ seen_at (screen other) x y

-- the four are one group exactly where that is so
abbrev pub OneGroupWhereAlike : Type 0
OneGroupWhereAlike =
    (v : Views) (c : Comparison) → HaveSides v → IsComparison v c → (c ≡ one_group) ↔ AreAllAlike v

-- views have one comparison
abbrev pub OneComparison : Type 0
OneComparison = (v : Views) (a b : Comparison) → IsComparison v a → IsComparison v b → a ≡ b

-- on one background, bytes have no other views
abbrev pub OneSetOfViews : Type 0
OneSetOfViews =
    (background : Parts) (bytes : List ℕ) (a b : Views) → AreViews background bytes a → AreViews background bytes b
    → a ≡ b

-- screens of the views' sides have a comparison
abbrev pub SomeComparison : Type 0
SomeComparison = (v : Views) → HaveSides v → (c : Comparison) × IsComparison v c

-- the bytes have a fault for which no memory is wanted
abbrev pub SomeFault : List ℕ → Type 0
SomeFault bytes = (fault : DifferFault) × (fault ≢ OutOfMemory) × ((m : Mending) → IsDifferFault m bytes fault)

-- on any background, bytes have views or such a fault
abbrev pub ViewsOrFault : Type 0
ViewsOrFault =
    (background : Parts) (bytes : List ℕ) → ((v : Views) × AreViews background bytes v) ⊎ SomeFault bytes
