-- The views of a document.
use Rattle.std.proofs.Common.{◌≡◌, ◌*◌, ◌&&◌, ◌∙◌, ℕ, Err, IfErr, IfOk, List, Ok, ap, length, refl, subst, sym}
use Rattle.std.specs.Prelude.{IsTrue, Result}
use Rattle.sixel_grammar.specs.declared.command.Event.{Event}
use Rattle.sixel_grammar.specs.declared.command.Placed.{Placed}
use Rattle.sixel_grammar.specs.Document.{Document, events_of}
use Rattle.sixel_model.specs.declared.colour.Parts.{Parts}
use Rattle.sixel_model.specs.Pictures.{is_side}
use Rattle.sixel_model.proofs.GridLemmas.{length_rows}
use Rattle.sixel_terminal.specs.Displays.{Display}
use Rattle.sixel_terminal.specs.Drawing.{screen_on, shown_on}
use Rattle.sixel_terminal.specs.Screens.{Shown}
use Rattle.sixel_named_terminals.specs.declared.named.Named.{Named}
use Rattle.sixel_named_terminals.specs.declared.named.Named.TheVariants.{XTerm, MlTerm, Foot, Konsole}
use Rattle.sixel_named_terminals.specs.Named.{IsScreenOn, heard_on, model_of, terminal_on}
use Rattle.sixel_mend.specs.declared.mending.Mending.{Mending}
use Rattle.sixel_mend.specs.Sizes.{IsSize}
use Rattle.sixel_differ.specs.declared.fault.DifferFault.{DifferFault}
use Rattle.sixel_differ.specs.declared.fault.DifferFault.TheVariants.{Grammar, Empty, TooLarge, OutOfMemory}
use Rattle.sixel_differ.specs.declared.view.View.{View}
use Rattle.sixel_differ.specs.declared.view.Views.{Views}
use Rattle.sixel_differ.specs.Faults.{IsDifferFault, IsReadingFault}
use Rattle.sixel_differ.specs.Views.{AreViews, HasSides, HaveSides, IsInBands, IsView, view_in}

-- ---- the sides of a screen

on_sides : (named : Named) (background : Parts) (opening : List Event) (sides : ℕ × ℕ)
    → ((terminal_on named background opening sides).choices.screen_width ≡ sides.0)
    × ((terminal_on named background opening sides).choices.screen_height ≡ sides.1)
on_sides XTerm background opening sides = (refl, refl)
on_sides MlTerm background opening sides = (refl, refl)
on_sides Foot background opening sides = (refl, refl)
on_sides Konsole background opening sides = (refl, refl)

whole_screen : (t : Display) (events : List Event)
    → length (screen_on t events) ≡ t.choices.screen_width * t.choices.screen_height
unfolding screen_on
whole_screen t events = length_rows t.choices.screen_width t.choices.screen_height (shown_on t events)

screen_sides : (named : Named) (background : Parts) (width height : ℕ) (events : List Event) (screen : Shown)
    → IsScreenOn named background (width, height) events screen → HasSides screen width height
screen_sides named background width height events screen on =
    let t = terminal_on named background ((model_of named).opening events) (width, height) in
    let s = on_sides named background ((model_of named).opening events) (width, height) in record {
      width_is = on.after.width ∙ s.0;
      height_is = on.after.height ∙ s.1;
      whole = ap (λ (cs : List Parts). length cs) on.after.colours ∙ whole_screen t on.drawing
          ∙ ap (λ (n : ℕ). n * t.choices.screen_height) s.0 ∙ ap (λ (n : ℕ). width * n) s.1;
    }

-- ---- the views

pub have_sides : (background : Parts) (bytes : List ℕ) (v : Views) → AreViews background bytes v → HaveSides v
have_sides background bytes v are = λ named screen shows.
    screen_sides named background v.width v.height (events_of (heard_on named bytes are.placed)) screen
    (subst (λ (view : View). IsView named background (v.width, v.height) (heard_on named bytes are.placed) view) shows
    (are.views named))

are_views : (background : Parts) (bytes : List ℕ) (width height banded : ℕ) (v : Views) (placed : List Placed)
    → Document placed bytes → ((m : Mending) → IsSize m (events_of placed) width height)
    → IsTrue (is_side width && is_side height) → IsInBands height banded → width ≡ v.width → banded ≡ v.height
    → ((named : Named) (d : List Placed) → Document d bytes
    → IsView named background (width, banded) (heard_on named bytes d) (view_in v named))
    → AreViews background bytes v
are_views background bytes width height banded v placed doc size sides bands across down views = record {
  placed = placed;
  document = doc;
  height = height;
  size = λ m. subst (λ (n : ℕ). IsSize m (events_of placed) n height) across (size m);
  sides = subst (λ (n : ℕ). IsTrue (is_side n && is_side height)) across sides;
  banded = subst (IsInBands height) down bands;
  views = λ named.
      subst (λ (n : ℕ). IsView named background (v.width, n) (heard_on named bytes placed) (view_in v named)) down
      (subst (λ (n : ℕ). IsView named background (n, banded) (heard_on named bytes placed) (view_in v named)) across
      (views named placed doc));
}

pub given_views : (background : Parts) (bytes : List ℕ) (width height banded : ℕ) (given : Result Views DifferFault)
    (placed : List Placed) → Document placed bytes → ((m : Mending) → IsSize m (events_of placed) width height)
    → IsTrue (is_side width && is_side height) → IsInBands height banded → IfOk given (λ v. v.width ≡ width)
    → IfOk given (λ v. v.height ≡ banded)
    → IfOk given (λ v. (named : Named) (d : List Placed) → Document d bytes
    → IsView named background (width, banded) (heard_on named bytes d) (view_in v named))
    → IfOk given (AreViews background bytes)
given_views background bytes width height banded (Ok v) placed doc size sides bands across down views =
    are_views background bytes width height banded v placed doc size sides bands (sym across) (sym down) views
given_views background bytes width height banded (Err fault) placed doc size sides bands across down views = tt

pub given_sides : (background : Parts) (bytes : List ℕ) (given : Result Views DifferFault)
    → IfOk given (AreViews background bytes) → IfOk given HaveSides
given_sides background bytes (Ok v) are = have_sides background bytes v are
given_sides background bytes (Err fault) are = tt

fault_of : (bytes : List ℕ) (width height : ℕ) (fault : DifferFault) (placed : List Placed) → Document placed bytes
    → ((m : Mending) → IsSize m (events_of placed) width height) → IsTrue (is_side width && is_side height)
    → IsReadingFault bytes fault → (m : Mending) → IsDifferFault m bytes fault
fault_of bytes width height (Grammar fault) placed doc size sides is m = is
fault_of bytes width height Empty placed doc size sides is m = absurd is
fault_of bytes width height TooLarge placed doc size sides is m = absurd is
fault_of bytes width height OutOfMemory placed doc size sides is m = (placed, doc, (width, height, size m, sides))

pub given_fault : (bytes : List ℕ) (width height : ℕ) (given : Result Views DifferFault) (placed : List Placed)
    → Document placed bytes → ((m : Mending) → IsSize m (events_of placed) width height)
    → IsTrue (is_side width && is_side height) → IfErr given (IsReadingFault bytes)
    → IfErr given (λ fault. (m : Mending) → IsDifferFault m bytes fault)
given_fault bytes width height (Ok v) placed doc size sides is = tt
given_fault bytes width height (Err fault) placed doc size sides is =
    fault_of bytes width height fault placed doc size sides is

-- ---- the views on screens of some sides

pub each_view : (background : Parts) (sides : ℕ × ℕ) (bytes : List ℕ) (placed : List Placed) (v : Views)
    → IsView XTerm background sides (heard_on XTerm bytes placed) v.xterm
    → IsView MlTerm background sides (heard_on MlTerm bytes placed) v.mlterm
    → IsView Foot background sides (heard_on Foot bytes placed) v.foot
    → IsView Konsole background sides (heard_on Konsole bytes placed) v.konsole
    → (named : Named) → IsView named background sides (heard_on named bytes placed) (view_in v named)
each_view background sides bytes placed v a b c d XTerm = a
each_view background sides bytes placed v a b c d MlTerm = b
each_view background sides bytes placed v a b c d Foot = c
each_view background sides bytes placed v a b c d Konsole = d
