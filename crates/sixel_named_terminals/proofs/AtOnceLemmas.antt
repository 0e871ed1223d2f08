-- A drawing over konsole's rectangle.
use Rattle.std.proofs.Common.{◌≡◌, ◌∙◌, ◌++◌, ◌∷◌, ◌*◌, ℕ, [], Bool, true, false, List, Option, None, Some, ap, ap₂}
use Rattle.std.proofs.Common.{append-nil, refl, subst, sym}
use Rattle.std.specs.Prelude.{if◌then◌else◌}
use Rattle.sixel_grammar.specs.declared.command.Command.{Command}
use Rattle.sixel_grammar.specs.declared.command.Command.TheVariants.{Raster}
use Rattle.sixel_grammar.specs.declared.command.Event.{Event}
use Rattle.sixel_grammar.specs.declared.command.Event.TheVariants.{Step}
use Rattle.sixel_grammar.specs.declared.command.Placed.{Placed}
use Rattle.sixel_grammar.specs.Document.{events_of}
use Rattle.sixel_model.specs.declared.colour.Parts.{Parts}
use Rattle.sixel_model.specs.Positions.{latest}
use Rattle.sixel_terminal.specs.Displays.{Display}
use Rattle.sixel_terminal.specs.Drawing.{screen_on}
use Rattle.sixel_terminal.specs.Drawings.{Drawn as Drawing, HasDrawn}
use Rattle.sixel_terminal.specs.Screens.{Shown}
use Rattle.sixel_named_terminals.specs.AtOnce.{IsLow}
use Rattle.sixel_konsole.specs.Konsole.{StaysLow, counting, has_begun, konsole_drawing, konsole_model, konsole_opening}
use Rattle.sixel_konsole.specs.Konsole.{konsole_rows, konsole_tall, konsole_width, side}
use Rattle.sixel_emulator.specs.Modelled.{IsDrawingOf, opening_of}
use Rattle.sixel_named_terminals.specs.declared.named.Named.TheVariants.{Konsole}
use Rattle.sixel_named_terminals.specs.Named.{IsScreenOn, tall_in, terminal_on}
use Rattle.sixel_konsole.specs.Settings.{konsole_display}

tall_none : tall_in [] ≡ 1
unfolding latest
tall_none = refl

tall_one : (width height : ℕ) → tall_in (Step (Raster 1 1 width height) ∷ []) ≡ 1
unfolding latest
tall_one width height = refl

-- the terminal's ratio over no rectangle, and over one of the ratio 1 to 1
pub low_none : (rectangle : Option Command) → rectangle ≡ None → tall_in (opening_of rectangle) ≡ 1
low_none rectangle is = ap (λ (o : Option Command). tall_in (opening_of o)) is ∙ tall_none

pub low_some : (rectangle : Option Command) (width height : ℕ) → rectangle ≡ Some (Raster 1 1 width height)
    → tall_in (opening_of rectangle) ≡ 1
low_some rectangle width height is =
    ap (λ (o : Option Command). tall_in (opening_of o)) is ∙ tall_one width height

-- the colours over no rectangle, and over one of the ratio 1 to 1
pub shown_none : (t : Display) (rectangle : Option Command) (before : List Event) (colours : List Parts)
    → rectangle ≡ None → colours ≡ screen_on t before → colours ≡ screen_on t (opening_of rectangle ++ before)
shown_none t rectangle before colours is shown =
    shown ∙ ap (λ (o : Option Command). screen_on t (opening_of o ++ before)) (sym is)

pub shown_some : (t : Display) (rectangle : Option Command) (width height : ℕ) (before : List Event)
    (colours : List Parts) → rectangle ≡ Some (Raster 1 1 width height) → t.choices.tall ≡ 1
    → colours ≡ screen_on t (Step (Raster t.choices.tall 1 width height) ∷ before)
    → colours ≡ screen_on t (opening_of rectangle ++ before)
shown_some t rectangle width height before colours is tall shown =
    shown ∙ ap (λ (n : ℕ). screen_on t (Step (Raster n 1 width height) ∷ before)) tall
    ∙ ap (λ (o : Option Command). screen_on t (opening_of o ++ before)) (sym is)

-- the screen over the rectangle is that of konsole
pub over_shown : (background : Parts) (sides : ℕ × ℕ) (placed : List Placed) (d : Drawing) (rectangle : Option Command)
    (screen : Shown) → d.terminal ≡ konsole_display background 1 sides.0 sides.1
    → opening_of rectangle ≡ konsole_opening (events_of placed) → IsDrawingOf konsole_model [] (events_of placed) d
    → tall_in (opening_of rectangle) ≡ 1 → screen.width ≡ d.terminal.choices.screen_width
    → screen.height ≡ d.terminal.choices.screen_height
    → ((before : List Event) → d.terminal.choices.tall ≡ 1 → HasDrawn d before
    → screen.colours ≡ screen_on d.terminal (opening_of rectangle ++ before))
    → IsScreenOn Konsole background sides (events_of placed) screen
over_shown background sides placed d rectangle screen terminal is drawing low width height colours =
    let opening : List Event = konsole_opening (events_of placed) in
    let tall : tall_in opening ≡ 1 = ap tall_in (sym is) ∙ low in
    let same : d.terminal ≡ terminal_on Konsole background opening sides =
    terminal ∙ ap (λ (n : ℕ). konsole_display background n sides.0 sides.1) (sym tall) in
    record {
      said = drawing.said;
      drawing = opening ++ drawing.drawing;
      is_reading = drawing.is_reading;
      after = record {
        width = width ∙ ap (λ (t : Display). t.choices.screen_width) same;
        height = height ∙ ap (λ (t : Display). t.choices.screen_height) same;
        colours =
            colours drawing.drawing (ap (λ (t : Display). t.choices.tall) terminal) drawing.drawn
            ∙ ap (λ (o : List Event). screen_on d.terminal (o ++ drawing.drawing)) is
            ∙ ap (λ (t : Display). screen_on t (opening ++ drawing.drawing)) same;
      };
    }

-- ---- the ratio is known

begun_low : (c : Command) (begun : Bool) (tall width height : ℕ)
    → Step c ∷ [] ≡ (if begun then Step (Raster tall 1 width height) ∷ [] else []) → tall ≡ 1 → IsLow (Some c)
begun_low c true tall width height is low =
    let same : Raster tall 1 width height ≡ c = cc in subst (λ (d : Command). IsLow (Some d)) same (low, refl)
begun_low c false tall width height is low = absurd cc

pub low_rectangle : (rectangle : Option Command) (events : List Event)
    → opening_of rectangle ≡ konsole_opening events → StaysLow events → IsLow rectangle
low_rectangle None events is low = tt
low_rectangle (Some c) events is low =
    let counted = counting events None in
    let drawing = konsole_drawing events None in
    begun_low c (has_begun events None) (konsole_tall counted) (side (konsole_width counted drawing))
    (side (konsole_rows counted drawing * konsole_tall counted)) is
    (ap (λ (es : List Event). konsole_tall (counting es None)) (sym (append-nil events)) ∙ low [])

-- the terminal's ratio over it
pub low_tall : (rectangle : Option Command) → IsLow rectangle → tall_in (opening_of rectangle) ≡ 1
low_tall None low = tall_none
low_tall (Some (Raster pan pad width height)) low =
    ap₂ (λ (a b : ℕ). tall_in (Step (Raster a b width height) ∷ [])) low.0 low.1 ∙ tall_one width height
low_tall (Some _) low = absurd low
