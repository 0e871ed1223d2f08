-- Rules that only some of the named terminals ask for, besides those of portable pictures. Each sees an event and the
-- events before it; the box is that of the first raster attributes before the event.
use Rattle.std.specs.Prelude.{◌==◌, ◌&&◌, ◌||◌, ◌+◌, ◌*◌, ◌%◌, ◌<◌, ℕ, Bool, true, false, not, nat_le, nat_lt, is_none}
use Rattle.std.specs.Prelude.{is_some, IsTrue, List, Some, slice_index_or}
use Rattle.std.specs.List.{list_any}
use Rattle.std.specs.Option.{option_map_or}
use Rattle.sixel_grammar.specs.declared.command.Event.{Event}
use Rattle.sixel_grammar.specs.declared.command.Event.TheVariants.{Start}
use Rattle.sixel_model.specs.Events.{Attributes, Definition, columns_of, definition_where, is_data_command, is_painting}
use Rattle.sixel_model.specs.Events.{is_return, named_by, raster_of}
use Rattle.sixel_model.specs.Geometry.{band, band_rows, column}
use Rattle.sixel_model.specs.Positions.{HoldsAtPosition, HoldsNowhere, latest}
use Rattle.sixel_model.specs.Rules.{raster_before}
use Rattle.sixel_mlterm.specs.MlTerm.{may_mix}
use Rattle.sixel_named_terminals.specs.declared.named.Named.{Named}
use Rattle.sixel_named_terminals.specs.declared.named.Named.TheVariants.{XTerm, MlTerm, Foot, Konsole}
use Rattle.sixel_emulator_rules.specs.Stale.{IsStale}
use Rattle.sixel_emulator_rules.specs.declared.asked_rules.AskedRules.{AskedRules}
use Rattle.sixel_emulator_rules.specs.declared.rule.AskedRule.{AskedRule}
use Rattle.sixel_emulator_rules.specs.declared.rule.AskedRule.TheVariants.{RasterLate, Dropped, Stale, Large, Rows}
use Rattle.sixel_emulator_rules.specs.declared.rule.AskedRule.TheVariants.{Past, Hue}
use Rattle.sixel_emulator_rules.specs.declared.rule.AskedRule.TheVariants.{Far, Introducer, Bare, SpaceAfter}
use Rattle.sixel_emulator_rules.specs.declared.terminals.Terminals.{Terminals}

-- ---- where data commands stand

-- it ends right of the box, with or without a set bit
abbrev pub ends_right : Attributes → List Event → Event → Bool
ends_right a before e = nat_lt a.width (column 0 before + columns_of 0 e)

-- the band begins below the box
abbrev pub is_below : Attributes → List Event → Bool
is_below a before = nat_le a.height (band_rows * band before)

-- a data command that ends right of the box, or stands in a band that begins below it
abbrev pub leaves_box : Attributes → List Event → Event → Bool
leaves_box a before e = is_data_command e && (ends_right a before e || is_below a before)

-- ---- xterm

-- raster attributes with a width above 1,000, or a height above 996: its last band reaches past row 1,000
unfoldable pub breaks_large : Event → Bool
breaks_large e = option_map_or (λ (a : Attributes). nat_lt 1000 a.width || nat_lt 996 a.height) (raster_of e) false

-- a definition in colour system 1
unfoldable pub breaks_hue : Event → Bool
breaks_hue e = option_map_or (λ (d : Definition). d.system == 1) (definition_where (λ r. true) e) false

-- ---- mlterm

-- the band ends more than 512 rows below the box
abbrev pub is_deep : Attributes → List Event → Bool
is_deep a before = nat_lt (a.height + 512) (band_rows * band before + band_rows)

-- it ends right of the box, or in a band far below it
abbrev pub leaves_far : Attributes → List Event → Event → Bool
leaves_far a before e = ends_right a before e || is_deep a before

-- a data command, with a set bit or not, that ends past column 32,767 or leaves the box so far
unfoldable pub breaks_far : List Event → Event → Bool
breaks_far before e =
    is_data_command e
    && (nat_lt 32767 (column 0 before + columns_of 0 e)
    || option_map_or (λ a. leaves_far a before e) (raster_before before) false)

-- an introducer with a first parameter above 9, of which xterm draws nothing, or by which mlterm may mix colours
unfoldable pub breaks_introducer : Event → Bool
breaks_introducer (Start eight parameters) =
    nat_lt 9 (slice_index_or parameters.items 0 0)
    || may_mix (slice_index_or parameters.items 0 0) (slice_index_or parameters.items 1 0)
breaks_introducer _ = false

-- ---- konsole

-- the first raster attributes, with a select or a definition before them
unfoldable pub breaks_raster_late : List Event → Event → Bool
breaks_raster_late before e =
    (is_some (raster_of e) && is_none (raster_before before)) && list_any (λ d. is_some (named_by d)) before

-- a select, a definition or raster attributes
abbrev pub is_droppable : Event → Bool
is_droppable e = is_some (named_by e) || is_some (raster_of e)

-- a return or a new line right after a select, a definition or raster attributes
unfoldable pub breaks_dropped : List Event → Event → Bool
breaks_dropped before e =
    is_return e && option_map_or is_droppable (latest (λ (d : Event). Some d) before) false

-- raster attributes whose height is no multiple of six
unfoldable pub breaks_rows : Event → Bool
breaks_rows e = option_map_or (λ (a : Attributes). not (a.height % band_rows == 0)) (raster_of e) false

-- a data command without a set bit that ends right of the box, or stands in a band that begins below it
unfoldable pub breaks_past : List Event → Event → Bool
breaks_past before e =
    not (is_painting e) && option_map_or (λ a. leaves_box a before e) (raster_before before) false

-- ---- the rules

-- the event breaks the rule. Of `Bare` and `SpaceAfter` only the bytes of the string tell: no event does
abbrev pub BreaksAsked : AskedRule → List Event → Event → Type 0
BreaksAsked RasterLate before e = IsTrue (breaks_raster_late before e)
BreaksAsked Dropped before e = IsTrue (breaks_dropped before e)
BreaksAsked Stale before e = IsStale before e
BreaksAsked Large before e = IsTrue (breaks_large e)
BreaksAsked Rows before e = IsTrue (breaks_rows e)
BreaksAsked Past before e = IsTrue (breaks_past before e)
BreaksAsked Hue before e = IsTrue (breaks_hue e)
BreaksAsked Far before e = IsTrue (breaks_far before e)
BreaksAsked Introducer before e = IsTrue (breaks_introducer e)
BreaksAsked Bare before e = ⊥
BreaksAsked SpaceAfter before e = ⊥

-- the number of each rule; those of portable pictures have the numbers 1 to 13
abbrev pub number_of : AskedRule → ℕ
number_of RasterLate = 14
number_of Dropped = 15
number_of Stale = 16
number_of Large = 17
number_of Rows = 18
number_of Past = 19
number_of Hue = 20
number_of Far = 21
number_of Introducer = 22
number_of Bare = 23
number_of SpaceAfter = 24

-- the terminal asks for the rule
abbrev pub asks : Named → AskedRule → Bool
asks Konsole RasterLate = true
asks Konsole Dropped = true
asks Foot Stale = true
asks XTerm Large = true
asks Konsole Rows = true
asks Konsole Past = true
asks XTerm Hue = true
asks XTerm Introducer = true
asks XTerm Bare = true
asks XTerm SpaceAfter = true
asks MlTerm Far = true
asks MlTerm Introducer = true
asks MlTerm Bare = true
asks _ _ = false

-- ---- sets of rules

-- the rule is one of the set
abbrev pub has_rule : AskedRules → AskedRule → Bool
has_rule s RasterLate = s.raster_late
has_rule s Dropped = s.dropped
has_rule s Stale = s.stale
has_rule s Large = s.large
has_rule s Rows = s.rows
has_rule s Past = s.past
has_rule s Hue = s.hue
has_rule s Far = s.far
has_rule s Introducer = s.introducer
has_rule s Bare = s.bare
has_rule s SpaceAfter = s.space_after

abbrev pub no_rules : AskedRules
no_rules = record {
  raster_late = false;
  dropped = false;
  stale = false;
  large = false;
  rows = false;
  past = false;
  hue = false;
  far = false;
  introducer = false;
  bare = false;
  space_after = false;
}

-- ---- what counts

-- a terminal of the set asks for the rule
abbrev pub one_asks : Terminals → AskedRule → Bool
one_asks t rule =
    ((t.xterm && asks XTerm rule) || (t.mlterm && asks MlTerm rule))
    || ((t.foot && asks Foot rule) || (t.konsole && asks Konsole rule))

-- a terminal of the set asks for the rule, and it isn't ignored
abbrev pub is_asked : Terminals → AskedRule → Bool
is_asked t rule = one_asks t rule && not (has_rule t.ignored rule)

-- no event breaks a rule that counts
abbrev pub BreaksNoneAsked : Terminals → List Event → Type 0
BreaksNoneAsked t events = (rule : AskedRule) → IsTrue (is_asked t rule) → HoldsNowhere (BreaksAsked rule) events

-- the rule is asked for and broken at position i; none that is asked for is broken earlier, and none with a smaller
-- number there
pub record IsFirstAsked (t : Terminals) (events : List Event) (rule : AskedRule) (i : ℕ) : Type 0 where
  pub asked : IsTrue (is_asked t rule)
  pub broken : HoldsAtPosition (BreaksAsked rule) events i
  pub none_earlier : (m : AskedRule) (j : ℕ) → j < i → IsTrue (is_asked t m)
      → ¬ HoldsAtPosition (BreaksAsked m) events j
  pub none_smaller : (m : AskedRule) → number_of m < number_of rule → IsTrue (is_asked t m)
      → ¬ HoldsAtPosition (BreaksAsked m) events i
