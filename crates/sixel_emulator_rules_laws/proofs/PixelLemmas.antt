-- The pixel at which a terminal shows a document wrong that breaks one of its rules, and where mlterm's model ends.
use Rattle.std.proofs.Common.{◌≡◌, ℕ, ◌<◌, ◌≤◌, suc, inl, inr, Bool, true, false, ◌||◌, Some, None, List, []}
use Rattle.std.proofs.Common.{◌∷◌, ◌++◌, length, refl, sym, subst, ◌∙◌, arith, lit≤, lit<}
use Rattle.std.specs.Prelude.{◌&&◌, flat_map, not, slice_get}
use Rattle.std.specs.List.{range_with_len}
use Rattle.std.specs.Option.{option_map_or}
use Rattle.std.proofs.lemmas.Bool.{cases_lt, or_parts}
use Rattle.sixel_grammar.specs.declared.command.Command.TheVariants.{CarriageReturn, Define, NextLine, Raster, Select}
use Rattle.sixel_grammar.specs.declared.command.Command.TheVariants.{Sixel}
use Rattle.sixel_grammar.specs.declared.command.Event.{Event}
use Rattle.sixel_grammar.specs.declared.command.Event.TheVariants.{Step, Finish}
use Rattle.sixel_model.specs.declared.colour.Parts.{Parts}
use Rattle.sixel_model.specs.declared.colour.Parts.TheVariants.{Rgb, Hls}
use Rattle.sixel_model.specs.Geometry.{band, column, covers, falls, touches}
use Rattle.sixel_model.specs.Grids.{row_by_row}
use Rattle.sixel_model.specs.Pictures.{register_of}
use Rattle.sixel_model.specs.Positions.{any_below, at_position, earliest, last_at, last_below, latest}
use Rattle.sixel_model.specs.Positions.{since}
use Rattle.sixel_model.specs.Rules.{colour_of, definition_of, known, picture_left, raster_before, register_at}
use Rattle.sixel_model.proofs.LeftLemmas.{left_at}
use Rattle.sixel_terminal.specs.Drawing.{height_of, is_kept_on, is_seen_on, map_on, paints_on, selected_on}
use Rattle.sixel_terminal.specs.Drawing.{shown_on, touches_on}
use Rattle.sixel_named_terminals.specs.declared.named.Named.TheVariants.{XTerm, MlTerm, Foot, Konsole}
use Rattle.sixel_emulator.specs.declared.reading.Reads.{Reads}
use Rattle.sixel_emulator.specs.declared.reading.Reads.TheVariants.{Unsaid}
use Rattle.sixel_konsole.specs.Konsole.{any_followed, counting, first_below, first_followed, greatest_at}
use Rattle.sixel_konsole.specs.Konsole.{greatest_below}
use Rattle.sixel_konsole.specs.Konsole.{has_begun, has_late, is_stuck, konsole_drawing, konsole_model, konsole_opening}
use Rattle.sixel_mlterm.specs.MlTerm.{is_said_colour, mlterm_model}
use Rattle.sixel_xterm.specs.XTerm.{xterm_model, xterm_pen}
use Rattle.sixel_named_terminals.specs.Named.{terminal_on}
use Rattle.sixel_emulator.specs.Readings.{EndsAt, IsReading, IsSaid, IsUnsaid, Model, StopsNowhereBelow, carries_on}
use Rattle.sixel_emulator.specs.Readings.{drawn_by, is_stop, is_unsaid_control, read_at}
use Rattle.sixel_emulator.specs.Heard.{zeros}
use Rattle.sixel_emulator.specs.Readings.IsUnsaid.{Behaviour, Control}
use Rattle.sixel_konsole.specs.Settings.{konsole_colours}
use Rattle.sixel_xterm.specs.Settings.{xterm_colours}
use Rattle.sixel_emulator.specs.Words.{after_each, after_first, greatest}
use Rattle.sixel_foot.specs.Foot.{foot_model}
use Rattle.sixel_konsole.proofs.KonsoleReadLemmas.{konsole_read}
use Rattle.sixel_emulator_rules.specs.declared.rule.AskedRule.{AskedRule}
use Rattle.sixel_emulator_rules.specs.declared.rule.AskedRule.TheVariants.{RasterLate, Dropped, Stale, Large, Rows}
use Rattle.sixel_emulator_rules.specs.declared.rule.AskedRule.TheVariants.{Past, Hue}
use Rattle.sixel_emulator_rules.specs.declared.rule.AskedRule.TheVariants.{Far, Introducer, Bare, SpaceAfter}
use Rattle.sixel_emulator_rules_laws.specs.Witnesses.{black, box, introducer, select, six_pixels, witness_of}
use Rattle.sixel_emulator_rules_laws.specs.Wrong.{BareStringIsShownWrong, bare_on}
use Rattle.sixel_emulator_rules_laws.specs.Wrong.{EachWitnessHasAPixel, IsShownOtherwise, MlTermEndsAtEach}
use Rattle.sixel_emulator_rules_laws.specs.Wrong.{is_inside, wanted_at, white_parts, wrong_of}
use Rattle.sixel_emulator_rules_laws.proofs.BareDocumentLemmas.{bare_document}
use Rattle.sixel_emulator_rules_laws.proofs.WitnessLemmas.{bare_alone, none_below, unbroken_16, unbroken_for}
use Rattle.sixel_emulator_rules_laws.proofs.DrawingLemmas.{drawing_is_reading, foot_drawing}
use Rattle.sixel_emulator_rules_laws.proofs.KonsoleSaidLemmas as konsole
use Rattle.sixel_emulator_rules_laws.proofs.SaidLemmas as foot

-- ---- what a model says, by computation

abbrev is_unsaid : Reads → Bool
is_unsaid r = not (carries_on r) && not (is_stop r)

abbrev unsaid_control : Model → List Event → ℕ → Bool
unsaid_control m events i = option_map_or (is_unsaid_control m) (slice_get events i) false

abbrev unsaid_there : Model → List Event → ℕ → Bool
unsaid_there m events i = unsaid_control m events i || is_unsaid (read_at m events i)

control_said : (m : Model) (events : List Event) (i : ℕ) (e : Event) → unsaid_control m events i ≡ false
    → slice_get events i ≡ Some e → is_unsaid_control m e ≡ true → ⊥
control_said m events i e none here is = let no : false ≡ true = sym none ∙ rw here is in cc

said_there : (m : Model) (events : List Event) (i : ℕ) → unsaid_there m events i ≡ false → IsUnsaid m events i → ⊥
said_there m events i none (Control e here is) =
    control_said m events i e (or_parts (unsaid_control m events i) _ none).0 here is
said_there m events i none (Behaviour goes is) =
    let says : is_unsaid (read_at m events i) ≡ false = (or_parts (unsaid_control m events i) _ none).1 in
    let no : true ≡ false = rw is at says in cc

-- the model says all
all_said : (m : Model) (events : List Event) → any_below (length events) (unsaid_there m events) ≡ false
    → IsSaid m events
all_said m events none i lt =
    said_there m events i (none_below (length events) (unsaid_there m events) i none lt)

-- it says all of what it stops at
stopped_said : (m : Model) (events : List Event) (n : ℕ)
    → any_below (length events) (unsaid_control m events) ≡ false
    → any_below (suc n) (unsaid_there m events) ≡ false → is_stop (read_at m events n) ≡ true → IsSaid m events
stopped_said m events n controls none stops i lt = elim (cases_lt i (suc n)) [
  | inl below ↦ said_there m events i (none_below (suc n) (unsaid_there m events) i none below)
  | inr above ↦ behind i lt (omega (arith, above))
]
  where
    behind : (i : ℕ) → i < length events → n < i → IsUnsaid m events i → ⊥
    behind i lt after (Control e here is) =
        control_said m events i e (none_below (length events) (unsaid_control m events) i controls lt) here is
    behind i lt after (Behaviour goes is) = let no : true ≡ false = sym stops ∙ goes n after in cc

goes_below : (m : Model) (events : List Event) (n : ℕ) → any_below n (λ k. is_stop (read_at m events k)) ≡ false
    → StopsNowhereBelow m events n
goes_below m events n goes k lt = none_below n (λ j. is_stop (read_at m events j)) k goes lt

ends_at : (m : Model) (events : List Event) (i : ℕ) → i < length events
    → any_below i (λ k. is_stop (read_at m events k)) ≡ false → any_below i (unsaid_there m events) ≡ false
    → read_at m events i ≡ Unsaid → EndsAt m events i
ends_at m events i lt goes none is = record {
  within = lt;
  unsaid = Behaviour (goes_below m events i goes) is;
  first = λ k below. said_there m events k (none_below i (unsaid_there m events) k none below);
}

-- ---- the colour that is wanted

inside_wanted : (registers r : ℕ) (events : List Event) (x y : ℕ) (c : Parts) → r < registers
    → is_inside (picture_left registers events) x y ≡ true → register_of (picture_left registers events) x y ≡ r
    → colour_of events r ≡ Some c → wanted_at (picture_left registers events) x y ≡ Some c
unfolding picture_left
inside_wanted registers r events x y c lt inside is colour = rw (inside, is) (left_at registers r events lt ∙ colour)

outside_wanted : (registers : ℕ) (events : List Event) (x y : ℕ)
    → is_inside (picture_left registers events) x y ≡ false
    → wanted_at (picture_left registers events) x y ≡ Some white_parts
outside_wanted registers events x y outside = rw outside refl

-- the first pixel is in this register, which has this colour
first_wanted : (rule : AskedRule) (registers r : ℕ) (c : Parts) → r < 16 → 16 ≤ registers
    → is_inside (picture_left registers (witness_of rule)) 0 0 ≡ true
    → register_of (picture_left registers (witness_of rule)) 0 0 ≡ r → colour_of (witness_of rule) r ≡ Some c
    → wanted_at (picture_left registers (witness_of rule)) 0 0 ≡ Some c
first_wanted rule registers r c lt le inside is colour =
    inside_wanted registers r (witness_of rule) 0 0 c (omega (arith, lt, le)) inside is colour

-- ---- xterm

hue_drawing : List Event
hue_drawing = Step (Define 0 1 0 50 100) ∷ select ∷ box ∷ six_pixels ∷ []

hue_read : IsReading xterm_model (witness_of Hue) hue_drawing
unfolding any_below greatest band latest hue_drawing xterm_pen after_each after_first
hue_read = record {
  end = 6;
  within = lit≤ tt;
  goes_on = goes_below xterm_model (witness_of Hue) 6 refl;
  stops = λ lt. (let no : 6 < 6 = lt in absurd (omega (arith, no)));
  drawing_is = refl;
}

hue_said : IsSaid xterm_model (witness_of Hue)
unfolding any_below greatest band latest xterm_pen after_each after_first
hue_said = all_said xterm_model (witness_of Hue) refl

hue_shown : shown_on (terminal_on XTerm white_parts [] (1, 6)) hue_drawing 0 0 ≡ Hls 0 50 100
unfolding shown_on last_at last_below at_position is_seen_on paints_on is_kept_on touches_on touches covers any_below
    height_of selected_on map_on latest earliest raster_before band column since xterm_colours hue_drawing
hue_shown = refl

hue_pixel : (registers : ℕ) → 16 ≤ registers
    → IsShownOtherwise XTerm registers (witness_of Hue) (wrong_of Hue)
unfolding picture_left row_by_row register_at known raster_before earliest latest last_at last_below at_position falls
    touches covers any_below band column since colour_of definition_of
hue_pixel registers le = record {
  said = hue_said;
  drawing = hue_drawing;
  is_reading = hue_read;
  sides = (1, 6);
  across = lit≤ tt;
  down = lit≤ tt;
  right = lit< tt;
  below = lit< tt;
  is_shown = hue_shown;
  is_wanted = first_wanted Hue registers 0 (Hls 30 50 100) (lit< tt) le refl refl refl;
  differs = λ same. cc;
}

-- xterm stops at this event and draws nothing
record DrawsNothing (events : List Event) : Type 0 where
  pub said : IsSaid xterm_model events
  pub read : IsReading xterm_model events []

draws_nothing : (events : List Event) (n : ℕ) → n < length events
    → any_below (length events) (unsaid_control xterm_model events) ≡ false
    → any_below (suc n) (unsaid_there xterm_model events) ≡ false
    → any_below n (λ k. is_stop (read_at xterm_model events k)) ≡ false
    → is_stop (read_at xterm_model events n) ≡ true
    → [] ≡ flat_map (λ i. drawn_by (read_at xterm_model events i)) (range_with_len 0 n) → DrawsNothing events
draws_nothing events n lt controls none goes stops drawn = record {
  said = stopped_said xterm_model events n controls none stops;
  read = record {
    end = n;
    within = omega (arith, lt);
    goes_on = goes_below xterm_model events n goes;
    stops = λ below. stops;
    drawing_is = drawn;
  };
}

large_nothing : DrawsNothing (witness_of Large)
unfolding any_below greatest band latest xterm_pen after_each after_first
large_nothing = draws_nothing (witness_of Large) 1 (lit< tt) refl refl refl refl refl

introducer_nothing : DrawsNothing (witness_of Introducer)
unfolding any_below greatest band latest xterm_pen after_each after_first
introducer_nothing = draws_nothing (witness_of Introducer) 0 (lit< tt) refl refl refl refl refl

large_shown : shown_on (terminal_on XTerm white_parts [] (1001, 6)) [] 0 0 ≡ white_parts
unfolding shown_on last_at last_below
large_shown = refl

introducer_shown : shown_on (terminal_on XTerm white_parts [] (1, 6)) [] 0 0 ≡ white_parts
unfolding shown_on last_at last_below
introducer_shown = refl

large_pixel : (registers : ℕ) → 16 ≤ registers
    → IsShownOtherwise XTerm registers (witness_of Large) (wrong_of Large)
unfolding picture_left row_by_row register_at known raster_before earliest latest last_at last_below at_position falls
    touches covers any_below band column since colour_of definition_of
large_pixel registers le = record {
  said = large_nothing.said;
  drawing = [];
  is_reading = large_nothing.read;
  sides = (1001, 6);
  across = lit≤ tt;
  down = lit≤ tt;
  right = lit< tt;
  below = lit< tt;
  is_shown = large_shown;
  is_wanted = first_wanted Large registers 0 (Rgb 0 0 0) (lit< tt) le refl refl refl;
  differs = λ same. cc;
}

introducer_pixel : (registers : ℕ) → 16 ≤ registers
    → IsShownOtherwise XTerm registers (witness_of Introducer) (wrong_of Introducer)
unfolding picture_left row_by_row register_at known raster_before earliest latest last_at last_below at_position falls
    touches covers any_below band column since colour_of definition_of
introducer_pixel registers le = record {
  said = introducer_nothing.said;
  drawing = [];
  is_reading = introducer_nothing.read;
  sides = (1, 6);
  across = lit≤ tt;
  down = lit≤ tt;
  right = lit< tt;
  below = lit< tt;
  is_shown = introducer_shown;
  is_wanted = first_wanted Introducer registers 0 (Rgb 0 0 0) (lit< tt) le refl refl refl;
  differs = λ same. cc;
}

-- ---- foot

stale_drawing : List Event
stale_drawing = Step (Define 1 2 0 0 0) ∷ Step (Select 1) ∷ six_pixels ∷ []

stale_drawn : foot_drawing (witness_of Stale) ≡ stale_drawing
unfolding after_each after_first latest band column since stale_drawing
stale_drawn = refl

stale_shown : shown_on (terminal_on Foot white_parts [] (1, 6)) stale_drawing 0 0 ≡ Rgb 0 0 0
unfolding shown_on last_at last_below at_position is_seen_on paints_on is_kept_on touches_on touches covers any_below
    height_of selected_on map_on latest earliest raster_before band column since stale_drawing
stale_shown = refl

stale_pixel : (registers : ℕ) → 16 ≤ registers
    → IsShownOtherwise Foot registers (witness_of Stale) (wrong_of Stale)
unfolding picture_left row_by_row register_at known raster_before earliest latest last_at last_below at_position falls
    touches covers any_below band column since colour_of definition_of
stale_pixel registers le = record {
  said = foot.all_is_said 16 (witness_of Stale) (unbroken_16 Stale);
  drawing = stale_drawing;
  is_reading = subst (IsReading foot_model (witness_of Stale)) stale_drawn (drawing_is_reading (witness_of Stale));
  sides = (1, 6);
  across = lit≤ tt;
  down = lit≤ tt;
  right = lit< tt;
  below = lit< tt;
  is_shown = stale_shown;
  is_wanted = first_wanted Stale registers 1 (Rgb 100 0 0) (lit< tt) le refl refl refl;
  differs = λ same. cc;
}

-- ---- konsole

-- what it draws of the document, behind its rectangle
drawn_of : AskedRule → List Event
drawn_of RasterLate = Step (Raster 1 1 30 6) ∷ Step (Define 0 2 0 0 0) ∷ Step (Select 0) ∷ select ∷ six_pixels ∷ []
drawn_of Dropped = box ∷ Step CarriageReturn ∷ Step (Select 1) ∷ six_pixels ∷ []
drawn_of Rows =
    Step (Raster 1 1 1 6) ∷ Step (Define 0 2 0 0 0) ∷ Step (Select 0) ∷ select ∷ Step (Sixel 1) ∷ []
drawn_of Past =
    Step (Raster 1 1 1 12) ∷ Step (Define 0 2 0 0 0) ∷ Step (Select 0) ∷ select ∷ six_pixels ∷ Step NextLine
    ∷ Step (Sixel 0) ∷ []
drawn_of _ = []

abbrev opened : AskedRule → List Event
opened rule = konsole_opening (witness_of rule)

abbrev IsDrawn : AskedRule → Type 0
IsDrawn rule = opened rule ++ konsole_drawing (witness_of rule) None ≡ drawn_of rule

late_drawn : IsDrawn RasterLate
unfolding has_begun any_followed any_below counting first_followed first_below has_late is_stuck since konsole_drawing
    greatest_at greatest_below column band drawn_of
late_drawn = refl

dropped_drawn : IsDrawn Dropped
unfolding has_begun any_followed any_below counting first_followed first_below has_late is_stuck since konsole_drawing
    greatest_at greatest_below column band drawn_of
dropped_drawn = refl

rows_drawn : IsDrawn Rows
unfolding has_begun any_followed any_below counting first_followed first_below has_late is_stuck since konsole_drawing
    greatest_at greatest_below column band drawn_of
rows_drawn = refl

past_drawn : IsDrawn Past
unfolding has_begun any_followed any_below counting first_followed first_below has_late is_stuck since konsole_drawing
    greatest_at greatest_below column band drawn_of
past_drawn = refl

abbrev ShowsThere : AskedRule → ℕ × ℕ → Type 0
ShowsThere rule sides =
    shown_on (terminal_on Konsole white_parts (opened rule) sides) (drawn_of rule) (wrong_of rule).x (wrong_of rule).y
    ≡ (wrong_of rule).shown

late_shown : ShowsThere RasterLate (2, 6)
unfolding shown_on last_at last_below at_position is_seen_on paints_on is_kept_on touches_on touches covers any_below
    height_of selected_on map_on latest earliest raster_before band column since konsole_colours has_begun any_followed
    counting first_followed first_below has_late is_stuck konsole_drawing greatest_at greatest_below drawn_of
late_shown = refl

dropped_shown : ShowsThere Dropped (1, 6)
unfolding shown_on last_at last_below at_position is_seen_on paints_on is_kept_on touches_on touches covers any_below
    height_of selected_on map_on latest earliest raster_before band column since konsole_colours has_begun any_followed
    counting first_followed first_below has_late is_stuck konsole_drawing greatest_at greatest_below drawn_of
dropped_shown = refl

rows_shown : ShowsThere Rows (1, 2)
unfolding shown_on last_at last_below at_position is_seen_on paints_on is_kept_on touches_on touches covers any_below
    height_of selected_on map_on latest earliest raster_before band column since konsole_colours has_begun any_followed
    counting first_followed first_below has_late is_stuck konsole_drawing greatest_at greatest_below drawn_of
rows_shown = refl

past_shown : ShowsThere Past (1, 7)
unfolding shown_on last_at last_below at_position is_seen_on paints_on is_kept_on touches_on touches covers any_below
    height_of selected_on map_on latest earliest raster_before band column since konsole_colours has_begun any_followed
    counting first_followed first_below has_late is_stuck konsole_drawing greatest_at greatest_below drawn_of
past_shown = refl

konsole_reads : (rule : AskedRule) → IsDrawn rule → IsReading konsole_model (witness_of rule) (drawn_of rule)
konsole_reads rule drawn =
    subst (IsReading konsole_model (witness_of rule)) drawn (konsole_read (witness_of rule))

konsole_said : (rule : AskedRule) → IsSaid konsole_model (witness_of rule)
konsole_said rule = konsole.all_is_said 16 (witness_of rule) (unbroken_16 rule)

late_pixel : (registers : ℕ) → IsShownOtherwise Konsole registers (witness_of RasterLate) (wrong_of RasterLate)
unfolding picture_left raster_before earliest
late_pixel registers = record {
  said = konsole_said RasterLate;
  drawing = drawn_of RasterLate;
  is_reading = konsole_reads RasterLate late_drawn;
  sides = (2, 6);
  across = lit≤ tt;
  down = lit≤ tt;
  right = lit< tt;
  below = lit< tt;
  is_shown = late_shown;
  is_wanted = outside_wanted registers (witness_of RasterLate) 1 0 refl;
  differs = λ same. cc;
}

dropped_pixel : (registers : ℕ) → 16 ≤ registers
    → IsShownOtherwise Konsole registers (witness_of Dropped) (wrong_of Dropped)
unfolding picture_left row_by_row register_at known raster_before earliest latest last_at last_below at_position falls
    touches covers any_below band column since colour_of definition_of
dropped_pixel registers le = record {
  said = konsole_said Dropped;
  drawing = drawn_of Dropped;
  is_reading = konsole_reads Dropped dropped_drawn;
  sides = (1, 6);
  across = lit≤ tt;
  down = lit≤ tt;
  right = lit< tt;
  below = lit< tt;
  is_shown = dropped_shown;
  is_wanted = first_wanted Dropped registers 1 (Rgb 100 0 0) (lit< tt) le refl refl refl;
  differs = λ same. cc;
}

rows_pixel : (registers : ℕ) → IsShownOtherwise Konsole registers (witness_of Rows) (wrong_of Rows)
unfolding picture_left raster_before earliest
rows_pixel registers = record {
  said = konsole_said Rows;
  drawing = drawn_of Rows;
  is_reading = konsole_reads Rows rows_drawn;
  sides = (1, 2);
  across = lit≤ tt;
  down = lit≤ tt;
  right = lit< tt;
  below = lit< tt;
  is_shown = rows_shown;
  is_wanted = outside_wanted registers (witness_of Rows) 0 1 refl;
  differs = λ same. cc;
}

past_pixel : (registers : ℕ) → IsShownOtherwise Konsole registers (witness_of Past) (wrong_of Past)
unfolding picture_left raster_before earliest
past_pixel registers = record {
  said = konsole_said Past;
  drawing = drawn_of Past;
  is_reading = konsole_reads Past past_drawn;
  sides = (1, 7);
  across = lit≤ tt;
  down = lit≤ tt;
  right = lit< tt;
  below = lit< tt;
  is_shown = past_shown;
  is_wanted = outside_wanted registers (witness_of Past) 0 6 refl;
  differs = λ same. cc;
}

-- ---- mlterm

far_ends : EndsAt mlterm_model (witness_of Far) 6
unfolding any_below is_said_colour latest column band since after_each after_first
far_ends = ends_at mlterm_model (witness_of Far) 6 (lit< tt) refl refl refl

introducer_ends : EndsAt mlterm_model (witness_of Introducer) 0
unfolding any_below
introducer_ends = ends_at mlterm_model (witness_of Introducer) 0 (lit< tt) refl refl refl

pub mlterm_ends_at_each : MlTermEndsAtEach
mlterm_ends_at_each = (far_ends, introducer_ends)

-- ---- a select without a number

-- what xterm and mlterm hear
bare_heard : List Event
bare_heard = introducer ∷ box ∷ black ∷ zeros ∷ six_pixels ∷ Finish false ∷ []

xterm_hears : bare_on XTerm ≡ bare_heard
unfolding bare_heard
xterm_hears = refl

mlterm_hears : bare_on MlTerm ≡ bare_heard
unfolding bare_heard
mlterm_hears = refl

bare_said : IsSaid xterm_model bare_heard
unfolding any_below greatest band latest xterm_pen after_each after_first bare_heard
bare_said = stopped_said xterm_model bare_heard 3 refl refl refl

bare_read : IsReading xterm_model bare_heard (black ∷ [])
unfolding any_below greatest band latest xterm_pen after_each after_first bare_heard
bare_read = record {
  end = 3;
  within = lit≤ tt;
  goes_on = goes_below xterm_model bare_heard 3 refl;
  stops = λ below. refl;
  drawing_is = refl;
}

bare_shown : shown_on (terminal_on XTerm white_parts [] (1, 6)) (black ∷ []) 0 0 ≡ white_parts
unfolding shown_on last_at last_below at_position is_seen_on paints_on is_kept_on touches_on touches covers any_below
    height_of selected_on map_on latest earliest raster_before band column since xterm_colours
bare_shown = refl

bare_ends : EndsAt mlterm_model bare_heard 3
unfolding any_below is_said_colour latest column band since after_each after_first bare_heard
bare_ends = ends_at mlterm_model bare_heard 3 (lit< tt) refl refl refl

pub bare_string_is_shown_wrong : BareStringIsShownWrong
unfolding picture_left row_by_row register_at known raster_before earliest latest last_at last_below at_position falls
    touches covers any_below band column since colour_of definition_of
bare_string_is_shown_wrong registers le = record {
  document = bare_document;
  bare = refl;
  events_are = refl;
  unbroken = unbroken_for registers Bare le;
  alone = bare_alone;
  said = subst (IsSaid xterm_model) (sym xterm_hears) bare_said;
  drawing = black ∷ [];
  is_reading = subst (λ (events : List Event). IsReading xterm_model events (black ∷ [])) (sym xterm_hears) bare_read;
  is_shown = bare_shown;
  is_wanted = first_wanted Bare registers 0 (Rgb 0 0 0) (lit< tt) le refl refl refl;
  ends = subst (λ (events : List Event). EndsAt mlterm_model events 3) (sym mlterm_hears) bare_ends;
}

-- ---- all

pub each_witness_has_a_pixel : EachWitnessHasAPixel
each_witness_has_a_pixel MlTerm rule registers asked told other le = absurd (other refl)
each_witness_has_a_pixel Foot Stale registers asked told other le = stale_pixel registers le
each_witness_has_a_pixel Foot _ registers asked told other le = absurd cc
each_witness_has_a_pixel XTerm Large registers asked told other le = large_pixel registers le
each_witness_has_a_pixel XTerm Hue registers asked told other le = hue_pixel registers le
each_witness_has_a_pixel XTerm Introducer registers asked told other le = introducer_pixel registers le
each_witness_has_a_pixel XTerm Bare registers asked told other le = absurd cc
each_witness_has_a_pixel XTerm SpaceAfter registers asked told other le = absurd cc
each_witness_has_a_pixel XTerm _ registers asked told other le = absurd cc
each_witness_has_a_pixel Konsole RasterLate registers asked told other le = late_pixel registers
each_witness_has_a_pixel Konsole Dropped registers asked told other le = dropped_pixel registers le
each_witness_has_a_pixel Konsole Rows registers asked told other le = rows_pixel registers
each_witness_has_a_pixel Konsole Past registers asked told other le = past_pixel registers
each_witness_has_a_pixel Konsole _ registers asked told other le = absurd cc
