-- What the laws say.
use Rattle.std.specs.Prelude.{◌∷◌, [], ◌≡◌, ◌≢◌, ◌%◌, ◌≤◌, ℕ, false, IsTrue, List, Some}
use Rattle.sixel_grammar.specs.declared.command.Command.TheVariants.{Define, Raster, Select, Sixel}
use Rattle.sixel_grammar.specs.declared.command.Event.{Event}
use Rattle.sixel_grammar.specs.declared.command.Event.TheVariants.{Start, Step, Finish}
use Rattle.sixel_grammar.specs.Document.{AreWhole}
use Rattle.sixel_model.specs.declared.colour.Parts.{Parts}
use Rattle.sixel_model.specs.declared.colour.Parts.TheVariants.{Rgb, Hls}
use Rattle.sixel_model.specs.Colours.{palette_at}
use Rattle.sixel_model.specs.Geometry.{band_rows}
use Rattle.sixel_model.specs.Pictures.{PictureValue, IsPicture}
use Rattle.sixel_model.specs.Positions.{HoldsNowhere}
use Rattle.sixel_model.specs.Rules.{BreaksNone, last_rule, picture_left}
use Rattle.sixel_terminal.specs.Displays.{Display, HasRoom, IsInClass}
use Rattle.sixel_terminal.specs.Drawing.{shown_on}
use Rattle.sixel_named_terminals.specs.declared.named.Named.{Named}
use Rattle.sixel_named_terminals.specs.declared.named.Named.TheVariants.{XTerm, MlTerm, Foot, Konsole}
use Rattle.sixel_foot.specs.Foot.{foot_model}
use Rattle.sixel_named_terminals.specs.Named.{model_of, terminal_on}
use Rattle.sixel_emulator.specs.Readings.{IsReading, IsSaid}
use Rattle.sixel_foot.specs.Settings.{foot_display}
use Rattle.sixel_judge.specs.Portable.{Shows}
use Rattle.sixel_encode.specs.Canon.{canon}
use Rattle.sixel_emulator_rules.specs.Asked.{BreaksAsked, asks}
use Rattle.sixel_emulator_rules_laws.specs.Witnesses.{is_of_events, witness_of}
use Rattle.sixel_emulator_rules.specs.declared.rule.AskedRule.{AskedRule}
use Rattle.sixel_emulator_rules_laws.specs.Stale.{DefinesFirst, NoneIsStale}

-- the model of the terminal says all. On a screen of the background with these sides, it shows the picture at the
-- origin, and nothing is painted outside the picture
pub record IsShownOn (named : Named) (background : Parts) (sides : ℕ × ℕ) (events : List Event) (p : PictureValue)
    : Type 0 where
  pub said : IsSaid (model_of named) events
  pub drawing : List Event
  pub is_reading : IsReading (model_of named) events drawing
  pub shows : Shows (terminal_on named background ((model_of named).opening events) sides) drawing p

-- no event breaks a rule that the terminal asks for, besides those of portable pictures
abbrev pub BreaksNoneOf : Named → List Event → Type 0
BreaksNoneOf named events = (rule : AskedRule) → IsTrue (asks named rule) → HoldsNowhere (BreaksAsked rule) events

-- if a list breaks no rule, and none of those that the terminal asks for, the terminal shows the picture that the
-- events leave on each screen with room
abbrev pub ShowsPortable : Named → ℕ → Type 0
ShowsPortable named registers =
    (background : Parts) (width height : ℕ) (events : List Event) → AreWhole events
    → BreaksNone registers last_rule events → BreaksNoneOf named events
    → (picture_left registers events).width ≤ width → (picture_left registers events).height ≤ height
    → IsShownOn named background (width, height) events (picture_left registers events)

-- ---- each rule is needed

-- on each screen with room the terminal shows the picture that the events leave
abbrev pub IsShownRight : Named → ℕ → List Event → Type 0
IsShownRight named registers events =
    (background : Parts) (width height : ℕ) → (picture_left registers events).width ≤ width
    → (picture_left registers events).height ≤ height
    → IsShownOn named background (width, height) events (picture_left registers events)

-- the document that breaks the rule alone isn't shown right by any terminal that asks for it, if events tell of it
abbrev pub EachWitnessIsShownWrong : Type 0
EachWitnessIsShownWrong =
    (named : Named) (rule : AskedRule) (registers : ℕ) → IsTrue (asks named rule) → IsTrue (is_of_events rule)
    → 16 ≤ registers → ¬ IsShownRight named registers (witness_of rule)

-- ---- definitions after selects

-- no painting command is in a colour that its register got after it was selected, if no definition comes after a select
abbrev pub FirstIsNotStale : Type 0
FirstIsNotStale = (events : List Event) → DefinesFirst events → NoneIsStale events

-- in the canonical list of a picture no definition comes after a select
abbrev pub CanonDefinesFirst : Type 0
CanonDefinesFirst = (p : PictureValue) → DefinesFirst (canon p)

-- foot shows a picture by its canonical list, on each screen with room
abbrev pub CanonShownOnFoot : ℕ → Type 0
CanonShownOnFoot registers =
    (background : Parts) (width height : ℕ) (p : PictureValue) → IsPicture registers p → p.width ≤ width
    → p.height ≤ height → IsShownOn Foot background (width, height) (canon p) p

-- ---- canonical lists

-- no colour of the palette is by hue, lightness and saturation
abbrev pub HasNoHue : PictureValue → Type 0
HasNoHue p = (r hue lightness saturation : ℕ) → palette_at p.palette r ≢ Some (Hls hue lightness saturation)

-- the canonical list of a picture breaks no rule that mlterm asks for, and none that foot asks for
abbrev pub CanonSuitsMlTerm : ℕ → Type 0
CanonSuitsMlTerm registers = (p : PictureValue) → IsPicture registers p → BreaksNoneOf MlTerm (canon p)

abbrev pub CanonSuitsFoot : ℕ → Type 0
CanonSuitsFoot registers = (p : PictureValue) → IsPicture registers p → BreaksNoneOf Foot (canon p)

-- none that xterm asks for, if its width is at most 1,000, its height at most 996, and no colour is by hue
abbrev pub CanonSuitsXTerm : ℕ → Type 0
CanonSuitsXTerm registers =
    (p : PictureValue) → IsPicture registers p → p.width ≤ 1000 → p.height ≤ 996 → HasNoHue p
    → BreaksNoneOf XTerm (canon p)

-- none that konsole asks for, if the height of the picture is a multiple of six
abbrev pub CanonSuitsKonsole : ℕ → Type 0
CanonSuitsKonsole registers =
    (p : PictureValue) → IsPicture registers p → p.height % band_rows ≡ 0 → BreaksNoneOf Konsole (canon p)

-- ---- a list that differs

-- one pixel, painted in a register that is selected and then defined as red
abbrev pub late_red : List Event
late_red =
    Start false (record { items = 0 ∷ [] }) ∷ Step (Raster 1 1 1 1) ∷ Step (Select 0) ∷ Step (Define 0 2 100 0 0)
    ∷ Step (Sixel 1) ∷ Finish false ∷ []

-- the list breaks no rule; the pixel is red on a terminal of the class with room, and black on foot
pub record IsRedExceptOnFoot (registers : ℕ) (t : Display) : Type 0 where
  pub unbroken : BreaksNone registers last_rule late_red
  pub class : IsInClass registers t
  pub room : HasRoom t 1 1
  pub red : shown_on t late_red 0 0 ≡ Rgb 100 0 0
  pub said : IsSaid foot_model late_red
  pub black : (background : Parts) (drawing : List Event) → IsReading foot_model late_red drawing
      → shown_on (foot_display background 1 1) drawing 0 0 ≡ Rgb 0 0 0

abbrev pub LateDefinitionsCanDiffer : ℕ → Type 0
LateDefinitionsCanDiffer registers = (t : Display) × IsRedExceptOnFoot registers t
