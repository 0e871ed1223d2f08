-- The four terminals show the same of a document that keeps all their rules.
use Rattle.std.proofs.Common.{◌≡◌, ℕ, ◌+◌, ◌*◌, ◌≤◌, ◌<◌, Bool, true, false, ◌&&◌, max, Option, Some, None, List}
use Rattle.std.proofs.Common.{replicate, refl, sym, ap, ap₂, subst, ◌∙◌, arith}
use Rattle.std.specs.Prelude.{IsSome, get_or, nat_lt, slice_get, unwrap_or, if◌then◌else◌}
use Rattle.std.specs.Option.{option_map, option_map_or}
use Rattle.std.proofs.lemmas.Bool.{and_from, and_parts, cond-false, cond-true, lt-ltb, ltb-true}
use Rattle.std.proofs.lemmas.List.{get_or-replicate}
use Rattle.std.proofs.lemmas.Nat.{mul-add-lt}
use Rattle.sixel_grammar.specs.declared.command.Event.{Event}
use Rattle.sixel_grammar.specs.declared.command.Placed.{Placed}
use Rattle.sixel_grammar.specs.Document.{AreWhole, events_of}
use Rattle.sixel_grammar.proofs.TotalLemmas.{document_whole}
use Rattle.sixel_grammar.proofs.UniqueLemmas.{document_once}
use Rattle.sixel_model.specs.declared.colour.Parts.{Parts}
use Rattle.sixel_model.specs.declared.colour.Parts.TheVariants.{Rgb}
use Rattle.sixel_model.specs.Colours.{palette_at}
use Rattle.sixel_model.specs.Events.{Attributes}
use Rattle.sixel_model.specs.Pictures.{PictureValue, register_of}
use Rattle.sixel_model.specs.Positions.{last_at}
use Rattle.sixel_model.specs.Rules.{BreaksNone, last_rule, picture_left, raster_before}
use Rattle.sixel_model.proofs.GridLemmas.{at_rows}
use Rattle.sixel_model.proofs.RuleLemmas.{none_drawn}
use Rattle.sixel_terminal.specs.Displays.{Display}
use Rattle.sixel_terminal.specs.Drawing.{IsPainted, inked_on, screen_on, shown_on, stood_on}
use Rattle.sixel_terminal.specs.Screens.{Shown}
use Rattle.sixel_named_terminals.specs.declared.named.Named.{Named}
use Rattle.sixel_named_terminals.specs.declared.named.Named.TheVariants.{XTerm, MlTerm, Foot, Konsole}
use Rattle.sixel_named_terminals.specs.Named.{IsScreenOn, heard_on, model_of, terminal_on}
use Rattle.sixel_omissions.specs.Omissions.{IsFirstBare}
use Rattle.sixel_emulator.specs.Readings.{IsSaid}
use Rattle.sixel_named_terminals.proofs.NamedLemmas.{reading_once, said_does_not_end}
use Rattle.sixel_mend.specs.Sizes.{IsSize}
use Rattle.sixel_judge.specs.Portable.{IsInBoxOn, Shows}
use Rattle.sixel_judge.proofs.CoverLemmas.{box_there}
use Rattle.sixel_judge.proofs.OptionLemmas.{some_value}
use Rattle.sixel_judge.proofs.ShownLemmas.{size_left}
use Rattle.sixel_emulator_rules.specs.Asked.{BreaksNoneAsked, has_rule, no_rules}
use Rattle.sixel_emulator_rules.specs.declared.rule.AskedRule.{AskedRule}
use Rattle.sixel_emulator_rules.specs.declared.rule.AskedRule.TheVariants.{RasterLate, Dropped, Stale, Large, Rows}
use Rattle.sixel_emulator_rules.specs.declared.rule.AskedRule.TheVariants.{Past, Hue}
use Rattle.sixel_emulator_rules.specs.declared.rule.AskedRule.TheVariants.{Far, Introducer, Bare, SpaceAfter}
use Rattle.sixel_emulator_rules_laws.specs.Laws.{IsShownOn}
use Rattle.sixel_emulator_rules_laws.proofs.InkLemmas.{inked_painted}
use Rattle.sixel_differ.specs.declared.view.View.{View}
use Rattle.sixel_differ.specs.declared.view.View.TheVariants.{Screen, Unmodelled as Ends}
use Rattle.sixel_differ.specs.declared.view.Views.{Views}
use Rattle.sixel_differ_laws.specs.Laws.{AreAllAlike}
use Rattle.sixel_differ.specs.Pixels.{colour_at, seen_of}
use Rattle.sixel_differ.specs.Views.{AreViews, IsView, Shows as ShowsIn, view_in}
use Rattle.sixel_differ_laws.proofs.GroupLemmas.{one_group_where_alike}
use Rattle.sixel_differ_laws.proofs.OnceLemmas.{some_mending}
use Rattle.sixel_differ.proofs.ShowingLemmas.{have_sides}
use Rattle.sixel_emulator_check_laws.specs.Laws.{PortableOnAllIsTheSame, all_terminals}
use Rattle.sixel_emulator_check_laws.specs.Shown.{IsHeeded, IsNamed}
use Rattle.sixel_emulator_check_laws.proofs.RightLemmas.{AreShown, heard_all, shown_on_all}

is_one : (named : Named) → IsNamed all_terminals named
is_one XTerm = refl
is_one MlTerm = refl
is_one Foot = refl
is_one Konsole = refl

none_ignored : (rule : AskedRule) → has_rule no_rules rule ≡ false
none_ignored RasterLate = refl
none_ignored Dropped = refl
none_ignored Stale = refl
none_ignored Large = refl
none_ignored Rows = refl
none_ignored Past = refl
none_ignored Hue = refl
none_ignored Far = refl
none_ignored Introducer = refl
none_ignored Bare = refl
none_ignored SpaceAfter = refl

is_heeded : (named : Named) → IsHeeded all_terminals named
is_heeded named = (is_one named, λ rule asked. none_ignored rule)

-- ---- the terminal's screen

-- it stands at the top left of a screen of these sides
record IsSet (t : Display) (width height : ℕ) (background : Parts) : Type 0 where
  across : t.choices.screen_width ≡ width
  down : t.choices.screen_height ≡ height
  left : t.choices.origin_x ≡ 0
  top : t.choices.origin_y ≡ 0
  screen : t.screen ≡ replicate (width * height) background

is_set : (named : Named) (background : Parts) (opening : List Event) (width height : ℕ)
    → IsSet (terminal_on named background opening (width, height)) width height background
is_set XTerm background opening width height =
    record { across = refl; down = refl; left = refl; top = refl; screen = refl }
is_set MlTerm background opening width height =
    record { across = refl; down = refl; left = refl; top = refl; screen = refl }
is_set Foot background opening width height =
    record { across = refl; down = refl; left = refl; top = refl; screen = refl }
is_set Konsole background opening width height =
    record { across = refl; down = refl; left = refl; top = refl; screen = refl }

-- the colour of a pixel before the string
stood : (t : Display) (width height : ℕ) (background : Parts) (x y : ℕ) → IsSet t width height background → x < width
    → y < height → stood_on t x y ≡ background
stood t width height background x y s right below =
    ap₂ (λ (cs : List Parts) (n : ℕ). get_or cs (y * n + x) (Rgb 0 0 0)) s.screen s.across
    ∙ get_or-replicate (width * height) (y * width + x) background (Rgb 0 0 0) (mul-add-lt y width x height below right)

is_none : (o : Option Parts) → (IsSome o → ⊥) → o ≡ None
is_none None h = refl
is_none (Some c) h = absurd (h refl)

-- a pixel that isn't painted stays
stays : (t : Display) (drawing : List Event) (x y : ℕ) → (IsPainted t drawing x y → ⊥)
    → shown_on t drawing x y ≡ stood_on t x y
unfolding shown_on
stays t drawing x y unpainted =
    ap (λ (o : Option Parts). unwrap_or o (stood_on t x y))
    (is_none (last_at (inked_on t drawing x y) drawing) (λ some. unpainted (inked_painted t drawing x y some)))

-- ---- a pixel

abbrev is_inside : PictureValue → ℕ → ℕ → Bool
is_inside p x y = nat_lt x p.width && nat_lt y p.height

-- the picture on the background
abbrev picture_on : PictureValue → Parts → ℕ → ℕ → Option Parts
picture_on p background x y = if is_inside p x y then palette_at p.palette (register_of p x y) else Some background

outside : (t : Display) (width height : ℕ) (background : Parts) (p : PictureValue) (x y : ℕ)
    → IsSet t width height background → is_inside p x y ≡ false → ¬ IsInBoxOn t p.width p.height x y
outside t width height background p x y s out b =
    let right : x < t.choices.origin_x + p.width = b.right in
    let bottom : y < t.choices.origin_y + p.height = b.bottom in
    let inside : is_inside p x y ≡ true =
    and_from _ _ (lt-ltb x p.width (omega (arith, right, s.left))) (lt-ltb y p.height (omega (arith, bottom, s.top))) in
    let no : true ≡ false = sym inside ∙ out in
    cc

shown_at : (t : Display) (width height : ℕ) (background : Parts) (drawing : List Event) (p : PictureValue) (x y : ℕ)
    (inside : Bool) → is_inside p x y ≡ inside → IsSet t width height background → Shows t drawing p → x < width
    → y < height → Some (shown_on t drawing x y) ≡ picture_on p background x y
shown_at t width height background drawing p x y true is s shows right below =
    let parts = and_parts (nat_lt x p.width) (nat_lt y p.height) is in
    let across : t.choices.origin_x + x ≡ x = omega (arith, s.left) in
    let down : t.choices.origin_y + y ≡ y = omega (arith, s.top) in
    ap₂ (λ (u v : ℕ). Some (shown_on t drawing u v)) (sym across) (sym down)
    ∙ sym (shows.inside x y (ltb-true x p.width parts.0) (ltb-true y p.height parts.1))
    ∙ sym (cond-true (is_inside p x y) _ _ is)
shown_at t width height background drawing p x y false is s shows right below =
    ap (λ (c : Parts). Some c)
    (stays t drawing x y (shows.outside x y (outside t width height background p x y s is))
    ∙ stood t width height background x y s right below)
    ∙ sym (cond-false (is_inside p x y) _ _ is)

-- ---- the screen of a terminal that shows the picture

abbrev on_terminal : Named → Parts → ℕ → ℕ → List Event → Display
on_terminal named background width height events =
    terminal_on named background ((model_of named).opening events) (width, height)

pixel_at : (t : Display) (width height : ℕ) (background : Parts) (drawing : List Event) (s : Shown) (x y : ℕ)
    → IsSet t width height background → s.width ≡ t.choices.screen_width → s.colours ≡ screen_on t drawing → x < width
    → y < height → colour_at s x y ≡ Some (shown_on t drawing x y)
unfolding screen_on
pixel_at t width height background drawing s x y set across colours right below =
    ap₂ (λ (cs : List Parts) (n : ℕ). slice_get cs (y * n + x)) colours across
    ∙ at_rows t.choices.screen_width t.choices.screen_height (shown_on t drawing) x y (omega (arith, right, set.across))
    (omega (arith, below, set.down))

screen_at : (named : Named) (background : Parts) (width height : ℕ) (events : List Event) (p : PictureValue) (s : Shown)
    (x y : ℕ) → IsShownOn named background (width, height) events p
    → IsScreenOn named background (width, height) events s → x < width → y < height
    → colour_at s x y ≡ picture_on p background x y
screen_at named background width height events p s x y shown on right below =
    let t = on_terminal named background width height events in
    let set = is_set named background ((model_of named).opening events) width height in
    let shows : Shows t on.drawing p =
    subst (λ (d : List Event). Shows t d p)
    (reading_once (model_of named) events shown.drawing on.drawing shown.is_reading on.is_reading) shown.shows in
    pixel_at t width height background on.drawing s x y set on.after.width on.after.colours right below
    ∙ shown_at t width height background on.drawing p x y (is_inside p x y) refl set shows right below

-- the terminal has a screen
record HasScreen (background : Parts) (placed : List Placed) (v : Views) (named : Named) : Type 0 where
  screen : Shown
  shows : ShowsIn v named screen
  is : IsScreenOn named background (v.width, v.height) (events_of placed) screen

has_screen : (background : Parts) (placed : List Placed) (v : Views) (named : Named) (view : View)
    → view_in v named ≡ view → IsView named background (v.width, v.height) placed view
    → IsSaid (model_of named) (events_of placed) → HasScreen background placed v named
has_screen background placed v named (Screen s) is on said = record { screen = s; shows = is; is = on }
has_screen background placed v named (Ends place) is ends said =
    absurd (said_does_not_end (model_of named) (events_of placed) ends.at said ends.ends)

-- ---- all four

-- the screens have room for the picture
record HasRoomIn (p : PictureValue) (v : Views) : Type 0 where
  across : p.width ≤ v.width
  down : p.height ≤ v.height

side_at_least : (events : List Event) (declared : Attributes → ℕ) (a : Attributes) (side extent : ℕ)
    → raster_before events ≡ Some a
    → side ≡ option_map_or (λ b. max extent (declared b)) (raster_before events) extent → declared a ≤ side
side_at_least events declared a side extent box is =
    let most : side ≡ max extent (declared a) =
    is ∙ ap (λ (o : Option Attributes). option_map_or (λ b. max extent (declared b)) o extent) box in
    omega (arith, most)

room : (n : ℕ) (background : Parts) (bytes : List ℕ) (v : Views) (are : AreViews background bytes v)
    → BreaksNone n last_rule (events_of are.placed) → HasRoomIn (picture_left n (events_of are.placed)) v
room n background bytes v are none =
    let events : List Event = events_of are.placed in
    let whole : AreWhole events = document_whole are.placed bytes are.document in
    let a = some_value (raster_before events) (box_there n events whole (none_drawn n events none)) in
    let size = size_left n events a.0 a.1 in
    let s : IsSize some_mending events v.width are.height = are.size some_mending in
    let wide : (a.0).width ≤ v.width =
    side_at_least events (λ b. b.width) a.0 v.width s.extent_width a.1 s.width_is in
    let high : (a.0).height ≤ are.height =
    side_at_least events (λ b. b.height) a.0 are.height s.extent_height a.1 s.height_is in
    record {
      across = omega (arith, wide, size.0);
      down = omega (arith, high, size.1, are.banded.enough);
    }

-- each terminal hears the events as they are
abbrev AreHeard : List ℕ → List Placed → Type 0
AreHeard bytes placed = (named : Named) → heard_on named bytes placed ≡ placed

each_screen : (n : ℕ) (background : Parts) (bytes : List ℕ) (v : Views) (are : AreViews background bytes v)
    → AreHeard bytes are.placed → (named : Named)
    → IsShownOn named background (v.width, v.height) (events_of are.placed) (picture_left n (events_of are.placed))
    → HasScreen background are.placed v named
each_screen n background bytes v are heard named shown =
    has_screen background are.placed v named (view_in v named) refl
    (subst (λ (l : List Placed). IsView named background (v.width, v.height) l (view_in v named))
    (heard named) (are.views named))
    shown.said

each_pixel : (n : ℕ) (background : Parts) (bytes : List ℕ) (v : Views) (are : AreViews background bytes v)
    (heard : AreHeard bytes are.placed) (named : Named)
    (shown : IsShownOn named background (v.width, v.height) (events_of are.placed)
    (picture_left n (events_of are.placed)))
    (x y : ℕ) → x < v.width → y < v.height
    → colour_at (each_screen n background bytes v are heard named shown).screen x y
    ≡ picture_on (picture_left n (events_of are.placed)) background x y
each_pixel n background bytes v are heard named shown x y right below =
    let s = each_screen n background bytes v are heard named shown in
    screen_at named background v.width v.height (events_of are.placed) (picture_left n (events_of are.placed)) s.screen
    x y shown s.is right below

all_alike : (n : ℕ) (background : Parts) (bytes : List ℕ) (v : Views) (are : AreViews background bytes v)
    → AreHeard bytes are.placed → ((named : Named)
    → IsShownOn named background (v.width, v.height) (events_of are.placed) (picture_left n (events_of are.placed)))
    → AreAllAlike v
all_alike n background bytes v are heard shown = record {
  screen = λ named. (each_screen n background bytes v are heard named (shown named)).screen;
  shows = λ named. (each_screen n background bytes v are heard named (shown named)).shows;
  alike = λ one other x y right below.
      ap (option_map seen_of) (each_pixel n background bytes v are heard one (shown one) x y right below
      ∙ sym (each_pixel n background bytes v are heard other (shown other) x y right below));
}

of_views : (n : ℕ) (background : Parts) (bytes : List ℕ) (v : Views) (are : AreViews background bytes v) → n ≤ 256
    → BreaksNone n last_rule (events_of are.placed) → BreaksNoneAsked all_terminals (events_of are.placed)
    → IsFirstBare bytes None → AreAllAlike v
of_views n background bytes v are few none asked bare =
    let fits : HasRoomIn (picture_left n (events_of are.placed)) v = room n background bytes v are none in
    let shown : AreShown all_terminals (events_of are.placed) (picture_left n (events_of are.placed)) =
    shown_on_all n all_terminals (events_of are.placed) _ few (document_whole are.placed bytes are.document) none asked
    refl in
    all_alike n background bytes v are (λ named. heard_all n named bytes are.placed bare none) (λ named.
    shown named background v.width v.height (is_heeded named) fits.across fits.down)

pub portable_on_all : (n : ℕ) → n ≤ 256 → PortableOnAllIsTheSame n
portable_on_all n few background placed bytes v c document none asked bare are is =
    let same : placed ≡ are.placed = document_once bytes placed are.placed document are.document in
    (one_group_where_alike v c (have_sides background bytes v are) is).1
    (of_views n background bytes v are few
    (subst (λ (d : List Placed). BreaksNone n last_rule (events_of d)) same none)
    (subst (λ (d : List Placed). BreaksNoneAsked all_terminals (events_of d)) same asked) bare)
