-- On two given terminals that show different colours at what a finding names.
use Rattle.std.proofs.Common.{◌<◌, ℕ, Bool, true, false, Option, Some, None, List, refl, sym, ap, subst, ◌∙◌}
use Rattle.std.specs.Prelude.{IsSomeAnd}
use Rattle.sixel_grammar.specs.declared.command.Event.{Event}
use Rattle.sixel_grammar.specs.declared.command.Placed.{Placed}
use Rattle.sixel_grammar.specs.Document.{events_of}
use Rattle.sixel_model.specs.declared.colour.Parts.{Parts}
use Rattle.sixel_model.specs.Rules.{raster_before}
use Rattle.sixel_terminal.specs.Displays.{Display, HasRoom, IsInClass, clipping, with_controls}
use Rattle.sixel_terminal.proofs.ShownLemmas.{unpainted}
use Rattle.sixel_model.specs.declared.rule.Rule.{Rule}
use Rattle.sixel_model.specs.declared.rule.Rule.TheVariants.{Outside, Uncovered, EightBit}
use Rattle.sixel_judge.specs.declared.verdict.Finding.{Finding}
use Rattle.sixel_judge.specs.Alarms.{HasRoomFor, IsPaintedUnlessClipped, WhatTerminalsDo, IsUnseenWithoutEightBits}
use Rattle.sixel_judge.specs.Alarms.{StaysOnEach}
use Rattle.sixel_check_laws.specs.Differences.{EightBitDiffers, IsFound, OutsideDiffers, UncoveredDiffers}
use Rattle.sixel_judge.specs.Verdicts.{greatest}
use Rattle.sixel_judge.proofs.DifferenceLemmas.{found_truly}

-- what we promise for the finding
pub promised : (registers : ℕ) (placed : List Placed) (rule : Rule) (i : ℕ) (f : Finding)
    → IsFound registers placed rule i f → WhatTerminalsDo registers (events_of placed) rule f.pixel i
promised registers placed rule i f is =
    subst (λ (r : Rule). WhatTerminalsDo registers (events_of placed) r f.pixel i) is.rule_is
    (found_truly registers placed f i is.whole is.found)

pub uncovered_differs : (registers : ℕ) → UncoveredDiffers registers
uncovered_differs registers placed f i x y t u is pixel room also ground kept other same =
    let stays : StaysOnEach registers (events_of placed) x y = rw pixel at
    (promised registers placed Uncovered i f is) in
    other (sym (stays t room ground) ∙ same ∙ stays u also kept)

-- with clipping or without, with 8-bit controls or without, the terminal stays in the class
same_class : {registers : ℕ} (clips eight : Bool) (t : Display) → IsInClass registers t
    → IsInClass registers (clipping clips (with_controls eight t))
same_class clips eight t c = record {
  enough = c.enough;
  selected = c.selected;
  ground = c.ground;
  zero = c.zero;
  tall = c.tall;
  screen = c.screen;
  origin_x = c.origin_x;
  origin_y = c.origin_y;
}

with_controls_room : {w h : ℕ} (b : Bool) (t : Display) → HasRoom t w h → HasRoom (with_controls b t) w h
with_controls_room b t r = record { across = r.across; down = r.down }

room_each : {A : Type 0} (o : Option A) (P Q : A → Type 0) → ((a : A) → P a → Q a) → IsSomeAnd o P → IsSomeAnd o Q
room_each None P Q h p = absurd p
room_each (Some a) P Q h p = h a p

with_controls_has_room : {registers : ℕ} (b : Bool) (t : Display) (events : List Event) → HasRoomFor registers t events
    → HasRoomFor registers (with_controls b t) events
with_controls_has_room b t events r = record {
  in_class = same_class t.choices.clips b t r.in_class;
  room = room_each (raster_before events) _ _ (λ a h. with_controls_room b t h) r.room;
}

pub outside_differs : (registers : ℕ) → OutsideDiffers registers
outside_differs registers placed f i x y t is pixel low high class ground eight other same =
    let cut : x < greatest → y < greatest → IsPaintedUnlessClipped registers (events_of placed) i x y =
    rw pixel at (promised registers placed Outside i f is) in
    let stays = unpainted (clipping true t) (events_of placed) _ _
    ((cut low high).cut_off (clipping true t) (same_class true t.choices.eight_bit t class) refl ground) in
    other (sym stays ∙ same)

pub eight_bit_differs : (registers : ℕ) → EightBitDiffers registers
eight_bit_differs registers placed f i x y t is ends room p q other same =
    let seen : IsUnseenWithoutEightBits registers (events_of placed) i = promised registers placed EightBit i f is in
    let stays = unpainted (with_controls false t) (events_of placed) _ _
    (seen.unpainted (with_controls false t) _ _ (same_class t.choices.clips false t room.in_class) refl) in
    let shows = seen.shown ends (with_controls true t) x y (with_controls_has_room true t (events_of placed) room) refl
    p q in
    other (shows ∙ ap (λ (c : Parts). Some c) (same ∙ stays))
