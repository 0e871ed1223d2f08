-- Where the terminals show the documents wrong that break one of their rules.
use Rattle.std.specs.Prelude.{◌≡◌, ◌≢◌, ◌<◌, ◌≤◌, ◌&&◌, ◌∷◌, [], ℕ, Bool, false, IsTrue, List, Option, Some, nat_lt}
use Rattle.std.specs.Prelude.{if◌then◌else◌}
use Rattle.sixel_grammar.specs.Document.{Document, events_of}
use Rattle.sixel_grammar.specs.declared.command.Event.{Event}
use Rattle.sixel_grammar.specs.declared.command.Event.TheVariants.{Finish}
use Rattle.sixel_grammar.specs.declared.command.Placed.{Placed}
use Rattle.sixel_model.specs.declared.colour.Parts.{Parts}
use Rattle.sixel_model.specs.declared.colour.Parts.TheVariants.{Rgb, Hls}
use Rattle.sixel_model.specs.Colours.{palette_at}
use Rattle.sixel_model.specs.Pictures.{PictureValue, register_of}
use Rattle.sixel_model.specs.Positions.{HoldsNowhere}
use Rattle.sixel_model.specs.Rules.{BreaksNone, last_rule, picture_left}
use Rattle.sixel_terminal.specs.Drawing.{shown_on}
use Rattle.sixel_emulator.specs.Heard.{first_bare}
use Rattle.sixel_emulator.specs.Modelled.{placed_at}
use Rattle.sixel_emulator.specs.Readings.{EndsAt, IsReading, IsSaid}
use Rattle.sixel_mlterm.specs.MlTerm.{mlterm_model}
use Rattle.sixel_xterm.specs.XTerm.{xterm_model}
use Rattle.sixel_named_terminals.specs.declared.named.Named.{Named}
use Rattle.sixel_named_terminals.specs.declared.named.Named.TheVariants.{MlTerm, XTerm}
use Rattle.sixel_named_terminals.specs.Named.{heard_on, model_of, terminal_on}
use Rattle.sixel_emulator_rules.specs.Asked.{BreaksAsked, asks}
use Rattle.sixel_emulator_rules.specs.declared.rule.AskedRule.{AskedRule}
use Rattle.sixel_emulator_rules.specs.declared.rule.AskedRule.TheVariants.{RasterLate, Dropped, Stale, Large, Rows}
use Rattle.sixel_emulator_rules.specs.declared.rule.AskedRule.TheVariants.{Past, Hue}
use Rattle.sixel_emulator_rules.specs.declared.rule.AskedRule.TheVariants.{Far, Introducer, Bare, SpaceAfter}
use Rattle.sixel_emulator_rules_laws.specs.Witnesses.{black, box, introducer, is_of_events, select, six_pixels}
use Rattle.sixel_emulator_rules_laws.specs.Witnesses.{witness_of}

abbrev pub white_parts : Parts
white_parts = Rgb 100 100 100

abbrev pub black_parts : Parts
black_parts = Rgb 0 0 0

-- a pixel, counted from the top left of a screen, the colour that it is shown in, and the one that is wanted
pub record Wrong : Type 0 where
  pub x : ℕ
  pub y : ℕ
  pub shown : Parts
  pub wanted : Parts

abbrev pub wrong_at : ℕ → ℕ → Parts → Parts → Wrong
wrong_at x y shown wanted = record { x = x; y = y; shown = shown; wanted = wanted }

-- where the witness of the rule is shown wrong, by a terminal that asks for the rule and isn't mlterm
abbrev pub wrong_of : AskedRule → Wrong
-- konsole fills 30 columns
wrong_of RasterLate = wrong_at 1 0 black_parts white_parts
-- on konsole register 1 is blue at the start
wrong_of Dropped = wrong_at 0 0 (Rgb 20 20 80) (Rgb 100 0 0)
-- foot paints black in a register that had no colour
wrong_of Stale = wrong_at 0 0 black_parts (Rgb 100 0 0)
-- xterm draws nothing
wrong_of Large = wrong_at 0 0 white_parts black_parts
-- konsole fills six rows
wrong_of Rows = wrong_at 0 1 black_parts white_parts
-- konsole fills the band of the blank
wrong_of Past = wrong_at 0 6 black_parts white_parts
-- xterm takes the hue down to a multiple of 60
wrong_of Hue = wrong_at 0 0 (Hls 0 50 100) (Hls 30 50 100)
-- xterm draws nothing
wrong_of Introducer = wrong_at 0 0 white_parts black_parts
-- only mlterm asks for this, and of these events don't tell
wrong_of Far = wrong_at 0 0 black_parts black_parts
wrong_of Bare = wrong_at 0 0 black_parts black_parts
wrong_of SpaceAfter = wrong_at 0 0 black_parts black_parts

-- the pixel is one of the picture at the top left
abbrev pub is_inside : PictureValue → ℕ → ℕ → Bool
is_inside p x y = nat_lt x p.width && nat_lt y p.height

-- the colour of the picture at the top left, and white around it
abbrev pub wanted_at : PictureValue → ℕ → ℕ → Option Parts
wanted_at p x y = if is_inside p x y then palette_at p.palette (register_of p x y) else Some white_parts

-- the model of the terminal says all of the document. On some white screen with room for the picture that the events
-- leave, and for the pixel, it shows the pixel in this colour; the picture has the other there, or white is around it
pub record IsShownOtherwise (named : Named) (registers : ℕ) (events : List Event) (w : Wrong) : Type 0 where
  pub said : IsSaid (model_of named) events
  pub drawing : List Event
  pub is_reading : IsReading (model_of named) events drawing
  pub sides : ℕ × ℕ
  pub across : (picture_left registers events).width ≤ sides.0
  pub down : (picture_left registers events).height ≤ sides.1
  pub right : w.x < sides.0
  pub below : w.y < sides.1
  pub is_shown : shown_on (terminal_on named white_parts ((model_of named).opening events) sides) drawing w.x w.y
      ≡ w.shown
  pub is_wanted : wanted_at (picture_left registers events) w.x w.y ≡ Some w.wanted
  pub differs : w.shown ≢ w.wanted

-- ---- a select without a number

-- ESC P q "1;1;1;6#0;2;0;0;0#~ ESC \
abbrev pub bare_bytes : List ℕ
bare_bytes =
    27 ∷ 80 ∷ 113 ∷ 34 ∷ 49 ∷ 59 ∷ 49 ∷ 59 ∷ 49 ∷ 59 ∷ 54 ∷ 35 ∷ 48 ∷ 59 ∷ 50 ∷ 59 ∷ 48 ∷ 59 ∷ 48 ∷ 59 ∷ 48 ∷ 35 ∷ 126
    ∷ 27 ∷ 92 ∷ []

-- its events, with their offsets; the select names no register
abbrev pub bare_placed : List Placed
bare_placed =
    placed_at 0 introducer ∷ placed_at 3 box ∷ placed_at 11 black ∷ placed_at 21 select ∷ placed_at 22 six_pixels
    ∷ placed_at 23 (Finish false) ∷ []

-- what the terminal hears of them
abbrev pub bare_on : Named → List Event
bare_on named = events_of (heard_on named bare_bytes bare_placed)

-- The bytes are a document of these events. They have a select without a number at offset 21, and the events break no
-- rule, of portable pictures or asked for. The model of xterm says all of what it hears of them: on a white screen the
-- first pixel stays white, and the picture has it black. mlterm's model ends at the select
pub record IsBareWrong (registers : ℕ) : Type 0 where
  pub document : Document bare_placed bare_bytes
  pub bare : first_bare bare_bytes ≡ Some 21
  pub events_are : events_of bare_placed ≡ witness_of Bare
  pub unbroken : BreaksNone registers last_rule (witness_of Bare)
  pub alone : (m : AskedRule) → HoldsNowhere (BreaksAsked m) (witness_of Bare)
  pub said : IsSaid xterm_model (bare_on XTerm)
  pub drawing : List Event
  pub is_reading : IsReading xterm_model (bare_on XTerm) drawing
  pub is_shown : shown_on (terminal_on XTerm white_parts [] (1, 6)) drawing 0 0 ≡ white_parts
  pub is_wanted : wanted_at (picture_left registers (witness_of Bare)) 0 0 ≡ Some black_parts
  pub ends : EndsAt mlterm_model (bare_on MlTerm) 3

-- ---- the laws

-- each terminal but mlterm shows a pixel otherwise, if the document breaks a rule alone that it asks for
abbrev pub EachWitnessHasAPixel : Type 0
EachWitnessHasAPixel =
    (named : Named) (rule : AskedRule) (registers : ℕ) → IsTrue (asks named rule) → IsTrue (is_of_events rule)
    → named ≢ MlTerm → 16 ≤ registers → IsShownOtherwise named registers (witness_of rule) (wrong_of rule)

-- mlterm's model ends at the event that breaks a rule that mlterm asks for
abbrev pub MlTermEndsAtEach : Type 0
MlTermEndsAtEach =
    EndsAt mlterm_model (witness_of Far) 6 × EndsAt mlterm_model (witness_of Introducer) 0

-- this string breaks `Bare` alone, and both that ask for it show it wrong or don't say
abbrev pub BareStringIsShownWrong : Type 0
BareStringIsShownWrong = (registers : ℕ) → 16 ≤ registers → IsBareWrong registers
