-- What `explain` says, and of which topics.
use Rattle.std.specs.Prelude.{◌≡◌, ◌∷◌, ◌++◌, ◌==◌, ℕ, Bool, List, [], Option, Some, None, codes, find, map, ◌<◌, ◌≤◌}
use Rattle.std.specs.Prelude.{◌&&◌, ◌||◌, All, Contains, chars, drop, if◌then◌else◌, is_some, length, flat_map, nat_le}
use Rattle.std.specs.Prelude.{option_map}
use Rattle.std.specs.Io.{StartsWith}
use Rattle.std.specs.List.{concat, ends_with, list_any, slice_split}
use Rattle.std.specs.Option.{option_and_then, option_or}
use Rattle.std.specs.Str.{bytes_eq, str_to_ascii_lowercase}
use Rattle.strsim.specs.Edits.{osa_table}
use Rattle.sixel_emulator_rules.specs.Counts.{in_order}
use Rattle.sixel_emulator_rules.specs.Names.{name_of}
use Rattle.sixel_emulator_rules.specs.declared.rule.AskedRule.TheVariants.{RasterLate, Dropped, Stale, Large, Rows}
use Rattle.sixel_emulator_rules.specs.declared.rule.AskedRule.TheVariants.{Past, Hue}
use Rattle.sixel_emulator_rules.specs.declared.rule.AskedRule.TheVariants.{Far, Introducer, Bare, SpaceAfter}
use Rattle.sixel_grammar.specs.declared.fault.Reason.TheVariants.{NotSixel, BadByte, NumberTooLarge, FieldCount}
use Rattle.sixel_grammar.specs.declared.fault.Reason.TheVariants.{BadRepeat, BadTerminator, Truncated, TooLong}
use Rattle.sixel_grammar.specs.declared.fault.Reason.TheVariants.{Trailing}
use Rattle.sixel_model.specs.declared.rule.Rule.TheVariants.{RasterFirst, RasterTwice, Ratio, BoxSize, Register}
use Rattle.sixel_model.specs.declared.rule.Rule.TheVariants.{ColourValue, RepeatZero, Unselected, Undefined, Redefined}
use Rattle.sixel_model.specs.declared.rule.Rule.TheVariants.{Outside, Uncovered, EightBit}
use Rattle.sixel_model.specs.Rules.{all_rules}
use Rattle.sixel_ppm.specs.declared.ppm.PpmReason.TheVariants.{Header, Size, Maxval, Sample, Short, TooManyColours}
use Rattle.sixel_ppm.specs.declared.ppm.PpmReason.TheVariants.{Trailing as PpmTrailing}
use Rattle.sixel_explain.specs.declared.explanations.Topic.{Topic}
use Rattle.sixel_explain.specs.declared.explanations.Topic.TheVariants.{Rule, Asked, Grammar, Ppm, NotRgb, NoBox}
use Rattle.sixel_explain.specs.declared.explanations.Topic.TheVariants.{Unmodelled, NoString, Empty, TooLarge}
use Rattle.sixel_explain.specs.declared.explanations.Topic.TheVariants.{OutOfMemory, Read, Write}
use Rattle.sixel_report.specs.declared.fault.RunFault.{RunFault}
use Rattle.sixel_report.specs.declared.fault.RunFault.TheVariants as fault
use Rattle.sixel_report.specs.Texts.{Text, ppm_reason_name, reason_name, rule_name}

-- the name of a topic; for a rule and for a reason it is the name in the line of `check` or of a fault
abbrev pub topic_name : Topic → Text
topic_name (Rule rule) = rule_name rule
topic_name (Asked rule) = name_of rule
topic_name (Grammar reason) = reason_name reason
topic_name (Ppm reason) = ppm_reason_name reason
topic_name NotRgb = codes "NotRgb"
topic_name NoBox = codes "NoBox"
topic_name Unmodelled = codes "Unmodelled"
topic_name NoString = codes "NoString"
topic_name Empty = codes "Empty"
topic_name TooLarge = codes "TooLarge"
topic_name OutOfMemory = codes "OutOfMemory"
topic_name Read = codes "Read"
topic_name Write = codes "Write"

-- the topic of a run's fault; one covers too many colours in a PPM and in a mended picture
abbrev pub topic_of : RunFault → Topic
topic_of (fault.Grammar f) = Grammar f.reason
topic_of (fault.Ppm reason place) = Ppm reason
topic_of fault.NotRgb = NotRgb
topic_of fault.NoBox = NoBox
topic_of (fault.Unmodelled place) = Unmodelled
topic_of fault.NoString = NoString
topic_of (fault.Large width height) = Asked Large
topic_of fault.Hue = Asked Hue
topic_of fault.Empty = Empty
topic_of fault.TooLarge = TooLarge
topic_of fault.TooManyColours = Ppm TooManyColours
topic_of fault.OutOfMemory = OutOfMemory
topic_of fault.Read = Read
topic_of fault.Write = Write

abbrev pub rules : List Topic
rules = map Rule all_rules

-- the rules that named terminals ask for, in order of number
abbrev pub asked_rules : List Topic
asked_rules = map Asked in_order

abbrev pub refusals_of_text : List Topic
refusals_of_text = Grammar NotSixel ∷ Grammar BadByte ∷ Grammar NumberTooLarge ∷ Grammar FieldCount ∷ Grammar BadRepeat
    ∷ Grammar BadTerminator ∷ Grammar Truncated ∷ Grammar TooLong ∷ Grammar Trailing ∷ []

-- without `Trailing`, whose name is also that of a reason for sixel text
abbrev pub refusals_of_pictures : List Topic
refusals_of_pictures =
    Ppm Header ∷ Ppm Size ∷ Ppm Maxval ∷ Ppm Sample ∷ Ppm TooManyColours ∷ Ppm Short ∷ []

abbrev pub refusals_of_runs : List Topic
refusals_of_runs =
    NotRgb ∷ NoBox ∷ Unmodelled ∷ NoString ∷ Empty ∷ TooLarge ∷ OutOfMemory ∷ Read ∷ Write ∷ []

-- the listed topics, in this order
abbrev pub listed : List Topic
listed = rules ++ asked_rules ++ refusals_of_text ++ refusals_of_pictures ++ refusals_of_runs

abbrev pub listed_names : List Text
listed_names = map topic_name listed

-- what follows the name of a topic in the list and in its explanation
abbrev pub summary : Topic → Text
summary (Rule RasterFirst) = codes "data, return, new line or terminator before any raster attributes"
summary (Rule RasterTwice) = codes "raster attributes more than once"
summary (Rule Ratio) = codes "a pixel aspect ratio not written as 1;1"
summary (Rule BoxSize) = codes "a width or height outside 1 to 2,048"
summary (Rule Register) = codes "a register above 15, or above 255 with --wide"
summary (Rule ColourValue) = codes "a colour system other than 1 or 2, or a coordinate out of range"
summary (Rule RepeatZero) = codes "a repeat of 0"
summary (Rule Unselected) = codes "painting while no register is known"
summary (Rule Undefined) = codes "painting in a register that is not defined yet"
summary (Rule Redefined) = codes "a different colour for a register already painted in"
summary (Rule Outside) = codes "a set bit outside the box"
summary (Rule Uncovered) = codes "a pixel of the box that no set bit covers, at the terminator"
summary (Rule EightBit) = codes "the byte 90 as the introducer, or 9C as the terminator"
summary (Asked RasterLate) = codes "raster attributes after a selection or a definition"
summary (Asked Dropped) = codes "a return right after a selection, definition or raster attributes"
summary (Asked Stale) = codes "painting in a colour that came after the selection"
summary (Asked Large) = codes "a width above 1,000 or a height above 996"
summary (Asked Rows) = codes "a height that is no multiple of six"
summary (Asked Past) = codes "blanks right of the box or below it"
summary (Asked Hue) = codes "a colour of hue, lightness and saturation"
summary (Asked Far) = codes "sixels right of the box, far below it or past column 32,767"
summary (Asked Introducer) = codes "an introducer by which xterm draws nothing or mlterm may mix colours"
summary (Asked Bare) = codes "a selection without a number"
summary (Asked SpaceAfter) = codes "a space after the terminator"
summary (Grammar NotSixel) = codes "input that doesn't start like a sixel string"
summary (Grammar BadByte) = codes "unexpected byte"
summary (Grammar NumberTooLarge) = codes "a number above 65,535"
summary (Grammar FieldCount) = codes "too many or too few numbers in a command"
summary (Grammar BadRepeat) = codes "a repeat without a sixel after its count"
summary (Grammar BadTerminator) = codes "an ESC that isn't followed by \\"
summary (Grammar Truncated) = codes "input that ends before the terminator is complete"
summary (Grammar TooLong) = codes "input of more than 268,435,456 bytes"
summary (Grammar Trailing) = codes "data after the terminator, or after the last sample of a PPM"
summary (Ppm Header) = codes "not a valid P6 header"
summary (Ppm Size) = codes "a PPM width or height outside 1 to 2,048"
summary (Ppm Maxval) = codes "a PPM maxval outside 1 to 255"
summary (Ppm Sample) = codes "a PPM sample above the maxval"
summary (Ppm TooManyColours) = codes "a picture of more than 16 colours, or more than 256 with --wide"
summary (Ppm Short) = codes "a PPM that ends before its last sample"
summary (Ppm PpmTrailing) = codes "data after the terminator, or after the last sample of a PPM"
summary NotRgb = codes "a colour of hue, lightness and saturation that would appear in a PPM"
summary NoBox = codes "a text that declares no box of a possible screen size"
summary Unmodelled = codes "a command that the model of the named terminal doesn't cover"
summary NoString = codes "input to scan that has no sixel string"
summary Empty = codes "a text that paints nothing and declares no width or no height"
summary TooLarge = codes "a text for mend or differ whose picture has a side above 2,048"
summary OutOfMemory = codes "an allocation failed"
summary Read = codes "input that couldn't be opened or read"
summary Write = codes "output that couldn't be written"

-- the name of a topic, a colon and its summary
abbrev pub first_line : Topic → Text
first_line topic = topic_name topic ++ codes ": " ++ summary topic ++ 10 ∷ []

-- the explanation of a topic begins with its first line; without a topic, it is the first line of each listed one
abbrev pub IsExplanation : Option Topic → Text → Type 0
IsExplanation None text = text ≡ flat_map first_line listed
IsExplanation (Some topic) text = StartsWith text (first_line topic)

-- the explanations of more topics, each after an empty line
abbrev pub AreFurther : List Topic → Text → Type 0
AreFurther [] text = text ≡ []
AreFurther (topic ∷ more) text = (first : Text) × (rest : Text) × (text ≡ 10 ∷ (first ++ rest))
    × IsExplanation (Some topic) first × AreFurther more rest

-- the explanations of these topics, in this order and with an empty line between two; without a topic, it is the list
-- of names
abbrev pub AreExplanations : List Topic → Text → Type 0
AreExplanations [] text = IsExplanation None text
AreExplanations (topic ∷ more) text = (first : Text) × (rest : Text) × (text ≡ first ++ rest)
    × IsExplanation (Some topic) first × AreFurther more rest

-- ---- which names are asked for

-- the words after `explain` as one line, in small letters and with a space before each word
abbrev pub line_of : List Text → Text
line_of said = str_to_ascii_lowercase (concat (map (λ word. codes " " ++ word) said))

-- the listed name that is this word in small letters
abbrev pub name_called : Text → Option Text
name_called word = find (λ name. bytes_eq (str_to_ascii_lowercase name) word) listed_names

-- the last of these words that is a name. In a line of the program only numbers and `at` follow the name, and before it
-- there may be words of a file's name
abbrev pub last_name : List Text → Option Text
last_name [] = None
last_name (word ∷ more) = option_or (last_name more) (name_called word)

-- how the program's lines without a name end, in small letters, and the topic of each
abbrev pub endings : List (Text × Topic)
endings =
    (codes " out of memory", OutOfMemory) ∷ (codes " read failed", Read) ∷ (codes " no such file", Read)
    ∷ (codes " permission denied", Read) ∷ (codes " is a folder", Read) ∷ (codes " name is not valid utf-8", Read)
    ∷ (codes " write failed", Write) ∷ (codes " the input is empty", Grammar Truncated) ∷ []

abbrev pub ends_in : Text → Text → Bool
ends_in line text = ends_with (λ a b. a == b) line text

-- the topic of the ending that the line has, if it has one
abbrev pub topic_of_end : Text → Option Topic
topic_of_end line = option_map (λ ending. ending.1) (find (λ ending. ends_in line ending.0) endings)

-- the words of a line, which spaces separate
abbrev pub words_of : Text → List Text
words_of line = slice_split (λ byte. byte == 32) line

-- the name that the line asks for: the one that explains its end, or else the last of its words that is a name
abbrev pub name_in : Text → Option Text
name_in line = option_or (option_map topic_name (topic_of_end line)) (last_name (words_of line))

-- the byte is a digit, or the colon, which follows the digits in ASCII; no name has one
abbrev pub is_mark : ℕ → Bool
is_mark byte = nat_le 48 byte && nat_le byte 58

-- the words are a line of the program, and not names: it ends like a line without a name, or has a digit or a colon
abbrev pub is_line : Text → Bool
is_line line = is_some (topic_of_end line) || list_any is_mark line

-- the names that these words are, in this order; nothing if one of them is no name
abbrev pub all_called : List Text → Option (List Text)
all_called [] = Some []
all_called (word ∷ more) =
    option_and_then (λ name. option_map (λ names. name ∷ names) (all_called more)) (name_called word)

-- the names that these words ask for, given as one line with a space before each word: a line of the program asks for
-- one name, and else each word is a name
abbrev pub names_in : Text → Option (List Text)
names_in line = if is_line line then option_map (λ name. name ∷ []) (name_in line)
    else all_called (drop 1 (words_of line))

-- these words after `explain` ask for these names, in this order; no words ask for the list of names, and for no name
abbrev pub Asks : Option (List Text) → List Text → Type 0
Asks None names = names ≡ []
Asks (Some said) names = names_in (line_of said) ≡ Some names

-- ---- similar names

-- how many edits lead from one text to the other, in any case of letters. An edit inserts, deletes or replaces a
-- character, or swaps two neighbours
abbrev pub edits : Text → Text → ℕ
edits name word =
    let spelled = chars (str_to_ascii_lowercase word) in
    (osa_table (chars (str_to_ascii_lowercase name)) spelled).last_row (length spelled)

-- how many edits a misspelled name may need
abbrev pub most_edits : ℕ
most_edits = 2

-- among these names, the one that is fewest edits away from the word; none if each is too far
abbrev pub IsNearest : List Text → Text → Option Text → Type 0
IsNearest names word None = All (λ name. most_edits < edits name word) names
IsNearest names word (Some name) =
    Contains names name × (edits name word ≤ most_edits) × All (λ other. edits name word ≤ edits other word) names
