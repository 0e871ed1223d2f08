-- The command line: what the arguments ask for, in the terms of clap's contracts.
use Rattle.std.specs.Prelude.{◌≡◌, ◌≢◌, ◌⊎◌, ◌≤◌, ℕ, Bool, false, true, List, [], ◌∷◌, Option, Some, None, codes, ◌++◌}
use Rattle.std.specs.Prelude.{◌==◌, ◌||◌, ⊤, find, length, map, if◌then◌else◌, unwrap_or}
use Rattle.std.specs.List.{list_all, list_any, slice_split}
use Rattle.std.specs.Option.{option_and_then, option_map, option_map_or}
use Rattle.std.specs.Str.{bytes_eq, str_eq_ignore_ascii_case}
use Rattle.std.specs.Str.Parse.{IsNumeral, digits_value, without_leading_plus}
use Rattle.sixel_model.specs.declared.colour.Parts.{Parts}
use Rattle.sixel_model.specs.declared.colour.Parts.TheVariants.{Rgb, Hls}
use Rattle.sixel_model.specs.declared.profile.Profile.{Profile}
use Rattle.sixel_model.specs.declared.profile.Profile.TheVariants.{Registers16, Registers256}
use Rattle.sixel_named_terminals.specs.declared.named.Named.{Named}
use Rattle.sixel_named_terminals.specs.declared.named.Named.TheVariants.{XTerm, MlTerm, Foot, Konsole}
use Rattle.sixel_emulator_rules.specs.Asked.{no_rules}
use Rattle.sixel_emulator_rules.specs.Counts.{in_order}
use Rattle.sixel_emulator_rules.specs.Names.{name_of}
use Rattle.sixel_emulator_rules.specs.declared.asked_rules.AskedRules.{AskedRules}
use Rattle.sixel_emulator_rules.specs.declared.rule.AskedRule.TheVariants.{RasterLate, Dropped, Stale, Large, Rows}
use Rattle.sixel_emulator_rules.specs.declared.rule.AskedRule.TheVariants.{Past, Hue}
use Rattle.sixel_emulator_rules.specs.declared.rule.AskedRule.TheVariants.{Far, Introducer, Bare, SpaceAfter}
use Rattle.sixel_emulator_rules.specs.declared.terminals.Terminals.{Terminals}
use Rattle.sixel_fit.specs.declared.making.Fitting.{Fitting}
use Rattle.sixel_ppm.specs.PpmReading as ppm
use Rattle.sixel_terminal.specs.Limits.{most_screen_side}
use Rattle.clap.specs.Faults.{fault_of}
use Rattle.clap.specs.Kinds.{IsAmong, Kinds}
use Rattle.clap.specs.Simple.{subcommand_of}
use Rattle.clap.specs.Takes.{takes}
use Rattle.clap.specs.Values.{kind_of}
use Rattle.clap.specs.Walk.{Row, Text, all_of, first_of, one_of}
use Rattle.clap.specs.declared.error.Error.{Error}
use Rattle.clap.specs.declared.error.kind.ErrorKind.TheVariants as kind
use Rattle.clap.specs.declared.parser.matches.ValueSource.{ValueSource}
use Rattle.clap.specs.declared.parser.matches.ValueSource.TheVariants.{CommandLine}
use Rattle.sixel_report.specs.declared.wanted_lines.Lines.{Lines}
use Rattle.sixel_report.specs.declared.wanted_lines.Lines.TheVariants.{Json, Nothing, Plain}
use Rattle.sixel_report.specs.declared.task.Area.{Area}
use Rattle.sixel_report.specs.declared.task.Area.TheVariants.{Box, Sides}
use Rattle.sixel_report.specs.declared.task.PictureFormat.{PictureFormat}
use Rattle.sixel_report.specs.declared.task.PictureFormat.TheVariants.{Ppm, Png}
use Rattle.sixel_report.specs.declared.task.Task.{Task}
use Rattle.sixel_report.specs.declared.task.Task.TheVariants as task
use Rattle.sixel_words.specs.declared.words.WordsFault.{WordsFault}
use Rattle.sixel_words.specs.declared.words.WordsFault.TheVariants as fault
use Rattle.sixel_explain.specs.Explanations.{Asks, topic_name}
use Rattle.sixel_commands.specs.Commands.{may_get_a_tip, sixel_app}

-- whether this is one of the words
abbrev pub is_among : List Text → Text → Bool
is_among words word = list_any (bytes_eq word) words

-- ---- the task

-- the flag was given
abbrev pub is_given : Text → List Row → Bool
is_given name rows = option_map_or (λ text. bytes_eq text (codes "true")) (first_of name rows) false

-- the value is given on the command line, and isn't a default
abbrev pub is_of_words : Option ValueSource → Bool
is_of_words (Some CommandLine) = true
is_of_words _ = false

-- the command line gives the option
abbrev pub is_named : Text → List Row → Bool
is_named name rows = is_of_words (option_and_then (λ r. r.source) (find (λ r. bytes_eq r.id name) rows))

-- the profile of 256 registers with `--wide`, else that of 16
abbrev pub profile_of : List Row → Profile
profile_of rows = if is_given (codes "wide") rows then Registers256 else Registers16

-- a PNG with `--png`, else a PPM
abbrev pub format_of : List Row → PictureFormat
format_of rows = if is_given (codes "png") rows then Png else Ppm

-- the text is the number n from 1 to 4,096 in decimal digits, perhaps after a plus
pub record IsSideText (text : Text) (n : ℕ) : Type 0 where
  pub numeral : IsNumeral 10 (without_leading_plus text)
  pub value : digits_value 10 (without_leading_plus text) ≡ n
  pub least : 1 ≤ n
  pub most : n ≤ most_screen_side

-- the value of the option is this number, from 1 to 4,096
abbrev pub HasSide : Text → List Row → ℕ → Type 0
HasSide name rows n = (text : Text) × (one_of name rows ≡ Some text) × IsSideText text n

-- the text is the percentage n: one to three decimal digits, and nothing else
pub record IsPercentage (text : Text) (n : ℕ) : Type 0 where
  pub numeral : IsNumeral 10 text
  pub short : length text ≤ 3
  pub value : digits_value 10 text ≡ n
  pub most : n ≤ 100

-- the text has these percentages of red, green and blue, in this order and with commas between them
abbrev pub ArePercentages : Text → Parts → Type 0
ArePercentages text (Rgb red green blue) = (r : Text) × (g : Text) × (b : Text)
    × (text ≡ r ++ codes "," ++ g ++ codes "," ++ b)
    × IsPercentage r red × IsPercentage g green × IsPercentage b blue
ArePercentages text (Hls hue lightness saturation) = ⊥

-- the text is the sample n, from 0 to 255: two hexadecimal digits
pub record IsSample (text : Text) (n : ℕ) : Type 0 where
  pub numeral : IsNumeral 16 text
  pub two : length text ≡ 2
  pub value : digits_value 16 text ≡ n

-- the text is `#` and the samples of red, green and blue, in this order. The colour has the nearest percentage of each,
-- as it has of the samples of a PPM with maxval 255
abbrev pub AreSamples : Text → Parts → Type 0
AreSamples text colour = (r : Text) × (g : Text) × (b : Text) × (red : ℕ) × (green : ℕ) × (blue : ℕ)
    × (text ≡ codes "#" ++ r ++ g ++ b) × IsSample r red × IsSample g green × IsSample b blue
    × (colour ≡ ppm.colour_of 255 red green blue)

-- the text is this name, in any case of letters
abbrev pub is_called : Text → Text → Bool
is_called name text = str_eq_ignore_ascii_case text name

-- the text is `#` and three hexadecimal digits, each of which stands for two
abbrev pub AreShortSamples : Text → Parts → Type 0
AreShortSamples text colour = (r : ℕ) × (g : ℕ) × (b : ℕ) × (text ≡ codes "#" ++ r ∷ g ∷ b ∷ [])
    × AreSamples (codes "#" ++ r ∷ r ∷ g ∷ g ∷ b ∷ b ∷ []) colour

-- the basic colours of CSS. Of their samples 128 is 50 percent, and 192 is 75
abbrev pub basic_colours : List (Text × Parts)
basic_colours =
    (codes "black", Rgb 0 0 0)
    ∷ (codes "silver", Rgb 75 75 75)
    ∷ (codes "gray", Rgb 50 50 50)
    ∷ (codes "white", Rgb 100 100 100)
    ∷ (codes "maroon", Rgb 50 0 0)
    ∷ (codes "red", Rgb 100 0 0)
    ∷ (codes "purple", Rgb 50 0 50)
    ∷ (codes "fuchsia", Rgb 100 0 100)
    ∷ (codes "green", Rgb 0 50 0)
    ∷ (codes "lime", Rgb 0 100 0)
    ∷ (codes "olive", Rgb 50 50 0)
    ∷ (codes "yellow", Rgb 100 100 0)
    ∷ (codes "navy", Rgb 0 0 50)
    ∷ (codes "blue", Rgb 0 0 100)
    ∷ (codes "teal", Rgb 0 50 50)
    ∷ (codes "aqua", Rgb 0 100 100) ∷ []

-- the basic colour with this name, in any case of letters
abbrev pub basic_colour : Text → Option Parts
basic_colour text = option_map (λ c. c.1) (find (λ c. is_called c.0 text) basic_colours)

-- the text is this colour, in percentages, in samples or by its name
abbrev pub IsColourText : Text → Parts → Type 0
IsColourText text colour = ArePercentages text colour ⊎ AreSamples text colour ⊎ AreShortSamples text colour
    ⊎ (basic_colour text ≡ Some colour)

-- the value of the option is this colour
abbrev pub HasColour : Text → List Row → Parts → Type 0
HasColour name rows colour = (text : Text) × (first_of name rows ≡ Some text) × IsColourText text colour

-- the size of a screen comes from `--box`, or else from `--width` and `--height`: with `--box` and either of these two
-- there is none
abbrev pub HasArea : List Row → Area → Type 0
HasArea rows Box = (is_given (codes "box") rows ≡ true)
    × (is_named (codes "width") rows ≡ false)
    × (is_named (codes "height") rows ≡ false)
HasArea rows (Sides width height) = (is_given (codes "box") rows ≡ false)
    × HasSide (codes "width") rows width
    × HasSide (codes "height") rows height

-- the names of terminals on the command line
abbrev pub terminal_name : Named → Text
terminal_name XTerm = codes "xterm"
terminal_name MlTerm = codes "mlterm"
terminal_name Foot = codes "foot"
terminal_name Konsole = codes "konsole"

-- the names of the four
abbrev pub terminal_names : List Text
terminal_names = map terminal_name (XTerm ∷ MlTerm ∷ Foot ∷ Konsole ∷ [])

-- the text is the name of a terminal
abbrev pub is_terminal : Text → Bool
is_terminal text = list_any (λ name. is_called name text) terminal_names

-- the value of `--on` is the name of this terminal
abbrev pub HasNamed : List Row → Named → Type 0
HasNamed rows named = (text : Text) × (first_of (codes "on") rows ≡ Some text)
    × (is_called (terminal_name named) text ≡ true)

abbrev pub no_terminals : Terminals
no_terminals = record { xterm = false; mlterm = false; foot = false; konsole = false; ignored = no_rules }

abbrev pub all_terminals : Terminals
all_terminals = record { xterm = true; mlterm = true; foot = true; konsole = true; ignored = no_rules }

-- the parts of a text between its commas
abbrev pub parts_of : Text → List Text
parts_of text = slice_split (λ byte. byte == 44) text

-- the name is one of the parts of the text
abbrev pub has_part : Text → Text → Bool
has_part name text = list_any (is_called name) (parts_of text)

-- the text names terminals: it is `all`, or each of its parts is the name of one
abbrev pub names_terminals : Text → Bool
names_terminals text = is_called (codes "all") text || list_all is_terminal (parts_of text)

-- the text names the terminal with this name
abbrev pub names_it : Text → Text → Bool
names_it name text = is_called (codes "all") text || has_part name text

-- the terminals that one of the texts names, without these rules
abbrev pub terminals_in : List Text → AskedRules → Terminals
terminals_in texts ignored = record {
  xterm = list_any (names_it (terminal_name XTerm)) texts;
  mlterm = list_any (names_it (terminal_name MlTerm)) texts;
  foot = list_any (names_it (terminal_name Foot)) texts;
  konsole = list_any (names_it (terminal_name Konsole)) texts;
  ignored = ignored;
}

-- each of the texts names terminals, and they are these, without these rules
abbrev pub NameTerminals : List Text → AskedRules → Terminals → Type 0
NameTerminals texts ignored terminals =
    (list_all names_terminals texts ≡ true) × (terminals ≡ terminals_in texts ignored)

-- the values of `--on`, of all its uses
abbrev pub on_values : List Row → List Text
on_values rows = unwrap_or (all_of (codes "on") rows) []

-- the text is the name of a rule of named terminals
abbrev pub is_rule : Text → Bool
is_rule text = list_any (λ rule. is_called (name_of rule) text) in_order

-- each part of the text is such a name
abbrev pub names_rules : Text → Bool
names_rules text = list_all is_rule (parts_of text)

-- the rules that one of the texts names
abbrev pub rules_in : List Text → AskedRules
rules_in texts = record {
  raster_late = list_any (has_part (name_of RasterLate)) texts;
  dropped = list_any (has_part (name_of Dropped)) texts;
  stale = list_any (has_part (name_of Stale)) texts;
  large = list_any (has_part (name_of Large)) texts;
  rows = list_any (has_part (name_of Rows)) texts;
  past = list_any (has_part (name_of Past)) texts;
  hue = list_any (has_part (name_of Hue)) texts;
  far = list_any (has_part (name_of Far)) texts;
  introducer = list_any (has_part (name_of Introducer)) texts;
  bare = list_any (has_part (name_of Bare)) texts;
  space_after = list_any (has_part (name_of SpaceAfter)) texts;
}

-- each of the texts names rules, and they are these
abbrev pub NameRules : List Text → AskedRules → Type 0
NameRules texts rules = (list_all names_rules texts ≡ true) × (rules ≡ rules_in texts)

-- the values of `--ignore`, of all its uses
abbrev pub ignore_values : List Row → List Text
ignore_values rows = unwrap_or (all_of (codes "ignore") rows) []

-- the values of `--ignore` name these rules; without the option there are none
abbrev pub HasIgnored : List Row → AskedRules → Type 0
HasIgnored rows = NameRules (ignore_values rows)

-- the values of `--on` name these terminals, and those of `--ignore` the rules that don't count. Without `--on` there are
-- no terminals, and no rules are ignored
pub record HasTerminals (rows : List Row) (terminals : Terminals) : Type 0 where
  pub ignored : HasIgnored rows terminals.ignored
  pub named : NameTerminals (on_values rows) terminals.ignored terminals
  pub together : all_of (codes "on") rows ≡ None → terminals.ignored ≡ no_rules

-- the colour of `--pad`, of which this is the value, where these are the values of `--on`. Without the option it is
-- the other colour; with it, but without `--on`, there is none
abbrev pub IsPad : Option Text → Option (List Text) → Parts → Parts → Type 0
IsPad None on fallback pad = pad ≡ fallback
IsPad (Some text) None fallback pad = ⊥
IsPad (Some text) (Some values) fallback pad = IsColourText text pad

abbrev pub HasPad : List Row → Parts → Parts → Type 0
HasPad rows fallback pad = IsPad (first_of (codes "pad") rows) (all_of (codes "on") rows) fallback pad

-- the options name these terminals, and this colour for rows below a picture
abbrev pub HasFitting : List Row → Parts → Fitting → Type 0
HasFitting rows fallback f = HasTerminals rows f.terminals × HasPad rows fallback f.pad

-- a flag that describes the terminal of `show` is given
abbrev pub describes : List Row → Bool
describes rows = is_given (codes "wide") rows || is_given (codes "showing") rows || is_given (codes "fill") rows
    || is_given (codes "define-selects") rows

-- the names of the files, in the order of the arguments
abbrev pub files_of : List Row → List Text
files_of rows = unwrap_or (all_of (codes "FILE") rows) []

-- the task of a subcommand with this name and these options. Of `show` with `--on` there is a task if its value is the
-- name of a terminal, and no flag describes one; without it, if `--background` isn't given. A sheet has a file at most
abbrev pub IsTask : Text → List Row → Task → Type 0
IsTask name rows task.List = name ≡ codes "list"
IsTask name rows (task.Check profile terminals) = (name ≡ codes "check") × (profile_of rows ≡ profile)
    × HasTerminals rows terminals
IsTask name rows (task.Survey profile terminals) = (name ≡ codes "survey") × (profile_of rows ≡ profile)
    × HasTerminals rows terminals
IsTask name rows (task.Scan profile eight) = (name ≡ codes "scan") × (profile_of rows ≡ profile)
    × (is_given (codes "eight-bit") rows ≡ eight)
IsTask name rows (task.Render profile format) = (name ≡ codes "render") × (profile_of rows ≡ profile)
    × (format_of rows ≡ format)
IsTask name rows (task.Encode profile fitting) = (name ≡ codes "encode") × (profile_of rows ≡ profile)
    × HasFitting rows (Rgb 0 0 0) fitting
IsTask name rows (task.Show profile showing fill selects width height format) = (name ≡ codes "show")
    × (profile_of rows ≡ profile)
    × (is_given (codes "showing") rows ≡ showing)
    × (is_given (codes "fill") rows ≡ fill)
    × (is_given (codes "define-selects") rows ≡ selects)
    × HasArea rows (Sides width height)
    × (first_of (codes "on") rows ≡ None)
    × (is_named (codes "background") rows ≡ false)
    × (format_of rows ≡ format)
IsTask name rows (task.ShowBox profile showing fill selects format) = (name ≡ codes "show")
    × (profile_of rows ≡ profile)
    × (is_given (codes "showing") rows ≡ showing)
    × (is_given (codes "fill") rows ≡ fill)
    × (is_given (codes "define-selects") rows ≡ selects)
    × HasArea rows Box
    × (first_of (codes "on") rows ≡ None)
    × (is_named (codes "background") rows ≡ false)
    × (format_of rows ≡ format)
IsTask name rows (task.ShowOn named colour area format) = (name ≡ codes "show")
    × HasNamed rows named
    × HasColour (codes "background") rows colour
    × HasArea rows area
    × (describes rows ≡ false)
    × (format_of rows ≡ format)
IsTask name rows (task.Differ colour) = (name ≡ codes "differ")
    × HasColour (codes "background") rows colour
    × (is_given (codes "sheet") rows ≡ false)
IsTask name rows (task.DifferSheet colour) = (name ≡ codes "differ")
    × HasColour (codes "background") rows colour
    × (is_given (codes "sheet") rows ≡ true)
    × (length (files_of rows) ≤ 1)
IsTask name rows (task.Mend profile colour showing selects fitting) = (name ≡ codes "mend")
    × (profile_of rows ≡ profile)
    × HasColour (codes "background") rows colour
    × (is_given (codes "showing") rows ≡ showing)
    × (is_given (codes "define-selects") rows ≡ selects)
    × HasFitting rows colour fitting

-- the task that the arguments ask for; the first is the program's name
abbrev pub IsTaskOf : List Text → Task → Type 0
IsTaskOf words t = (name : Text) × (rows : List Row)
    × (subcommand_of sixel_app words ≡ Some (name, rows)) × IsTask name rows t

-- ---- files and lines

-- the lines that are asked for: none, and no note, with `--quiet`, and of a scan all; objects with `--json`; only those of failures with `--failed`
abbrev pub lines_of : List Row → Lines
lines_of rows = if is_given (codes "quiet") rows then Nothing (is_given (codes "json") rows)
    else if is_given (codes "json") rows then Json (is_given (codes "failed") rows)
    else Plain (is_given (codes "failed") rows)

-- what the arguments ask for, the first being the program's name: the task, its lines, whether it ends with hints, and
-- the files
abbrev pub IsRequestOf : List Text → Task → Lines → Bool → List Text → Type 0
IsRequestOf words t lines explains names = (name : Text) × (rows : List Row)
    × (subcommand_of sixel_app words ≡ Some (name, rows)) × IsTask name rows t
    × (lines_of rows ≡ lines) × (is_given (codes "explain") rows ≡ explains) × (files_of rows ≡ names)

-- ---- explanations

-- the arguments ask for the explanations of these names, or without one for the list of names
abbrev pub AsksFor : List Text → List Text → Type 0
AsksFor words names = (rows : List Row)
    × (subcommand_of sixel_app words ≡ Some (codes "explain", rows)) × Asks (all_of (codes "name") rows) names

-- the explanations are those that a subcommand with this name and these options asks for
abbrev pub IsAskedIn : Text → List Row → WordsFault → Type 0
IsAskedIn name rows (fault.Explanation topics) =
    (name ≡ codes "explain") × Asks (all_of (codes "name") rows) (map topic_name topics.items)
IsAskedIn name rows _ = ⊤

-- the explanations are those that these arguments ask for
abbrev pub IsAskedBy : List Text → WordsFault → Type 0
IsAskedBy words (fault.Explanation topics) = AsksFor words (map topic_name topics.items)
IsAskedBy words _ = ⊤

-- the explanations of these names, in this order, or OutOfMemory
abbrev pub IsExplanationOf : List Text → WordsFault → Type 0
IsExplanationOf names (fault.Explanation topics) = map topic_name topics.items ≡ names
IsExplanationOf names fault.OutOfMemory = ⊤
IsExplanationOf names _ = ⊥

-- ---- usage errors and help

-- Help has clap's text of the help or the version; Usage has neither, nor clap's own OutOfMemory
abbrev pub IsSortedOut : WordsFault → Type 0
IsSortedOut (fault.Usage error) = (kind_of error ≢ kind.DisplayHelp) × (kind_of error ≢ kind.DisplayVersion)
    × (kind_of error ≢ kind.OutOfMemory)
IsSortedOut (fault.Help error) = (kind_of error ≡ kind.DisplayHelp) ⊎ (kind_of error ≡ kind.DisplayVersion)
IsSortedOut (fault.Explanation topics) = ⊤
IsSortedOut fault.OutOfMemory = ⊤

-- an error that is shown is this one, or this one with another text, which is of the same kind
abbrev pub HoldsError : Error → WordsFault → Type 0
HoldsError error (fault.Usage held) =
    (kind_of held ≡ kind_of error) × (may_get_a_tip (kind_of error) ≡ false → held ≡ error)
HoldsError error (fault.Help held) = held ≡ error
HoldsError error _ = ⊤

-- it is no explanation
abbrev pub IsUnexplained : WordsFault → Type 0
IsUnexplained (fault.Explanation topics) = ⊥
IsUnexplained _ = ⊤

-- neither help nor an explanation: a usage error or OutOfMemory
abbrev pub IsRefusal : WordsFault → Type 0
IsRefusal (fault.Usage error) = ⊤
IsRefusal (fault.Help error) = ⊥
IsRefusal (fault.Explanation topics) = ⊥
IsRefusal fault.OutOfMemory = ⊤

-- neither help nor the version
abbrev pub IsNoHelp : WordsFault → Type 0
IsNoHelp (fault.Help error) = ⊥
IsNoHelp _ = ⊤

-- ---- arguments that name no task

-- the kinds of error that clap may find in the arguments, help and version among them; none if it accepts them
abbrev pub kinds_of : List Text → Kinds
kinds_of words = fault_of sixel_app words

-- clap accepts the arguments, but they ask for no task and for no explanations
pub record AskForNothing (words : List Text) : Type 0 where
  pub taken : kinds_of words ≡ []
  pub task : (t : Task) → IsTaskOf words t → ⊥
  pub explanation : (names : List Text) → AsksFor words names → ⊥

-- Usage and Help have an error of a kind that clap finds in the arguments; Usage also fits arguments that clap accepts
-- and that ask for nothing; with explanations, clap accepts them
abbrev pub IsFoundIn : List Text → WordsFault → Type 0
IsFoundIn words (fault.Usage error) = IsAmong (kind_of error) (kinds_of words) ⊎ AskForNothing words
IsFoundIn words (fault.Help error) = IsAmong (kind_of error) (kinds_of words)
IsFoundIn words (fault.Explanation topics) = kinds_of words ≡ []
IsFoundIn words fault.OutOfMemory = ⊤

-- what the fault may be if these arguments name no task
pub record IsFaultFor (words : List Text) (f : WordsFault) : Type 0 where
  pub sorted : IsSortedOut f
  pub found : IsFoundIn words f
  -- if clap accepts the arguments and they name a task, the fault can only be OutOfMemory
  pub accepted : takes sixel_app words ≡ true → (t : Task) → IsTaskOf words t → f ≡ fault.OutOfMemory
  pub asked : IsAskedBy words f
  -- if clap accepts the arguments and they ask for explanations, the fault is these or OutOfMemory
  pub explained : takes sixel_app words ≡ true → (names : List Text) → AsksFor words names → IsExplanationOf names f
  -- if clap accepts the arguments, the fault isn't help or the version
  pub unhelped : takes sixel_app words ≡ true → IsNoHelp f
