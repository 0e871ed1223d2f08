-- Two terminals differ at a finding of `Uncovered`, of `Outside`, and of `EightBit` at the terminator.
use Rattle.std.proofs.Common.{◌≡◌, ◌∙◌, ◌+◌, ◌*◌, ℕ, Bool, true, false, List, Option, Some, None, arith, refl}
use Rattle.std.proofs.Common.{replicate, subst, sym, take}
use Rattle.std.specs.Prelude.{IsSomeAnd, IsTrue}
use Rattle.std.proofs.lemmas.List.{length-replicate}
use Rattle.sixel_grammar.specs.Document.{Document, events_of}
use Rattle.sixel_grammar.specs.declared.command.Event.{Event}
use Rattle.sixel_grammar.specs.declared.command.Placed.{Placed}
use Rattle.sixel_grammar.proofs.TotalLemmas.{document_whole}
use Rattle.sixel_model.specs.declared.colour.Parts.{Parts}
use Rattle.sixel_model.specs.declared.profile.Profile.{Profile}
use Rattle.sixel_model.specs.declared.rule.Rule.{Rule}
use Rattle.sixel_model.specs.declared.rule.Rule.TheVariants.{Outside, Uncovered, EightBit}
use Rattle.sixel_model.specs.Events.{Attributes, is_finish}
use Rattle.sixel_model.specs.Positions.{HoldsAtPosition}
use Rattle.sixel_model.specs.Profiles.{count_of}
use Rattle.sixel_model.specs.Rules.{raster_before}
use Rattle.sixel_model.proofs.FirstLemmas.{earliest_all}
use Rattle.sixel_terminal.specs.Displays.{Display, HasRoom, IsInClass, clipping, with_controls}
use Rattle.sixel_judge.specs.declared.verdict.Finding.{Finding}
use Rattle.sixel_judge.specs.Alarms.{HasRoomFor}
use Rattle.sixel_judge.specs.Verdicts.{IsFinding, IsPixel, capped}
use Rattle.sixel_judge.proofs.DifferenceLemmas.{and_some}
use Rattle.sixel_check_laws.specs.Differences.{IsFound, black, eight_bit_screen, other_than, outside_screen, shown_at}
use Rattle.sixel_check_laws.specs.Differences.{white, witness_terminal}
use Rattle.sixel_check_laws.proofs.ExactLemmas.{coordinates_are_exact}
use Rattle.sixel_check_laws.proofs.WitnessLemmas.{some_eight_bit_differ, some_outside_differ, some_uncovered_differ}
use Rattle.sixel_promise_laws.specs.Broken.{IsDifference, TwoDiffer}
use Rattle.sixel_promise_laws.proofs.FirstLemmas.{one_place}
use Rattle.sixel_promise_laws.proofs.MovedLemmas.{moved, shown_moved, stood_same}

-- ---- a terminal with and without 8-bit controls

controls_class : {registers : ℕ} (eight : Bool) (t : Display) → IsInClass registers t
    → IsInClass registers (with_controls eight t)
controls_class eight t c = record {
  enough = c.enough;
  selected = c.selected;
  ground = c.ground;
  zero = c.zero;
  tall = c.tall;
  screen = c.screen;
  origin_x = c.origin_x;
  origin_y = c.origin_y;
}

controls_fit : {width height : ℕ} (eight : Bool) (t : Display) → HasRoom t width height
    → HasRoom (with_controls eight t) width height
controls_fit eight t r = record { across = r.across; down = r.down }

room_by : (o : Option Attributes) (P Q : Attributes → Type 0) → ((a : Attributes) → P a → Q a) → IsSomeAnd o P
    → IsSomeAnd o Q
room_by None P Q each h = absurd h
room_by (Some a) P Q each h = each a h

controls_room : {registers : ℕ} (eight : Bool) (t : Display) (events : List Event) → HasRoomFor registers t events
    → HasRoomFor registers (with_controls eight t) events
controls_room eight t events r = record {
  in_class = controls_class eight t r.in_class;
  room = room_by (raster_before events) _ _ (λ a h. controls_fit eight t h) r.room;
}

-- ---- the pixel of a finding

-- the box of some of the first events is that of all
box_of_all : (i : ℕ) (events : List Event) (a : Attributes) → raster_before (take i events) ≡ Some a
    → raster_before events ≡ Some a
unfolding raster_before
box_of_all i events a h = earliest_all _ i events a h

-- the colour of the screen of `Outside`
abbrev outside_colour : Profile → List Placed → ℕ → ℕ → Parts
outside_colour profile events x y =
    other_than (shown_at (witness_terminal (count_of profile) (x + 1) (y + 1) black) events x y)

at_pixel : (registers : ℕ) (events : List Placed) (o : Option (ℕ × ℕ)) (x y : ℕ) → o ≡ Some (x, y)
    → TwoDiffer registers events x y → IsSomeAnd o (λ p. TwoDiffer registers events p.0 p.1)
at_pixel registers events o x y is differ =
    subst (λ (q : Option (ℕ × ℕ)). IsSomeAnd q (λ p. TwoDiffer registers events p.0 p.1)) (sym is) differ

uncovered : (profile : Profile) (events : List Placed) (f : Finding) (i : ℕ)
    → IsFound (count_of profile) events Uncovered i f
    → HoldsAtPosition (IsPixel Uncovered f.pixel) (events_of events) i
    → IsDifference (count_of profile) events Uncovered f.pixel f.place
uncovered profile events f i is at =
    let n : ℕ = count_of profile in
    let x : ℕ = capped at.holds.0 in
    let y : ℕ = capped at.holds.1 in
    let pixel : f.pixel ≡ Some (x, y) = at.holds.3 in
    let a = and_some (raster_before (take i (events_of events))) _ (at.holds.2).holds in
    let box : raster_before (events_of events) ≡ Some a.0 = box_of_all i (events_of events) a.0 a.1 in
    let apart = some_uncovered_differ profile events f i x y a.0 is pixel box in
    at_pixel n events f.pixel x y pixel (
      witness_terminal n a.0.width a.0.height black,
      witness_terminal n a.0.width a.0.height white,
      apart,
    )

-- the terminal of `Outside` with a screen that has room for the box, too
abbrev wide_screen : Profile → List Placed → Attributes → ℕ → ℕ → Bool → Display
wide_screen profile events a x y clips =
    let w : ℕ = a.width + (x + 1) in
    let h : ℕ = a.height + (y + 1) in
    moved w h 0 0 (replicate (w * h) (outside_colour profile events x y))
    (clipping clips (outside_screen profile events x y))

wide_room : (profile : Profile) (events : List Placed) (a : Attributes) (x y : ℕ) (clips : Bool)
    → raster_before (events_of events) ≡ Some a → IsInClass (count_of profile) (outside_screen profile events x y)
    → HasRoomFor (count_of profile) (wide_screen profile events a x y clips) (events_of events)
wide_room profile events a x y clips box c = record {
  in_class = record {
    enough = c.enough;
    selected = c.selected;
    ground = c.ground;
    zero = c.zero;
    tall = c.tall;
    screen = length-replicate ((a.width + (x + 1)) * (a.height + (y + 1))) (outside_colour profile events x y);
    origin_x = omega arith;
    origin_y = omega arith;
  };
  room = rw box (record { across = omega arith; down = omega arith });
}

wide_shown : (profile : Profile) (events : List Placed) (a : Attributes) (x y : ℕ) (clips : Bool)
    → shown_at (wide_screen profile events a x y clips) events x y
    ≡ shown_at (clipping clips (outside_screen profile events x y)) events x y
wide_shown profile events a x y clips =
    let w : ℕ = a.width + (x + 1) in
    let h : ℕ = a.height + (y + 1) in
    let colour : Parts = outside_colour profile events x y in
    let t : Display = clipping clips (outside_screen profile events x y) in
    shown_moved w h 0 0 (replicate (w * h) colour) t (events_of events) x y
    (stood_same w h 0 0 (x + 1) (y + 1) x y colour (omega arith) (omega arith) (omega arith) (omega arith))

outside : (profile : Profile) (bytes : List ℕ) (events : List Placed) (f : Finding) (i : ℕ) → Document events bytes
    → IsFound (count_of profile) events Outside i f → HoldsAtPosition (IsPixel Outside f.pixel) (events_of events) i
    → IsDifference (count_of profile) events Outside f.pixel f.place
outside profile bytes events f i document is at =
    let x : ℕ = capped at.holds.0 in
    let y : ℕ = capped at.holds.1 in
    let pixel : f.pixel ≡ Some (x, y) = at.holds.3 in
    let a = and_some (raster_before (take i (events_of events))) _ (at.holds.2).holds in
    let box : raster_before (events_of events) ≡ Some a.0 = box_of_all i (events_of events) a.0 a.1 in
    let exact = coordinates_are_exact (count_of profile) bytes events f i x y document is.found is.rule_is pixel in
    let differ = some_outside_differ profile events f i x y is pixel exact.0 exact.1 in
    at_pixel (count_of profile) events f.pixel x y pixel (
      wide_screen profile events a.0 x y true,
      wide_screen profile events a.0 x y false,
      record {
        one = wide_room profile events a.0 x y true box differ.in_class;
        other = wide_room profile events a.0 x y false box differ.in_class;
        apart = λ e.
            differ.apart (sym (wide_shown profile events a.0 x y true) ∙ e ∙ wide_shown profile events a.0 x y false);
      },
    )

eight_bit : (profile : Profile) (bytes : List ℕ) (events : List Placed) (f : Finding) (i : ℕ) → Document events bytes
    → IsFound (count_of profile) events EightBit i f → IsDifference (count_of profile) events EightBit f.pixel f.place
eight_bit profile bytes events f i document is = λ ends.
    let same = one_place ends.position i f.place document ends.place is.found.place in
    let here : HoldsAtPosition (λ before e. IsTrue (is_finish e)) (events_of events) i =
    subst (λ (k : ℕ). HoldsAtPosition (λ before e. IsTrue (is_finish e)) (events_of events) k) same ends.holds in
    let t : Display = eight_bit_screen profile events in
    let differ = some_eight_bit_differ profile events f i is here in (
      with_controls true t,
      with_controls false t,
      record {
        one = controls_room true t (events_of events) differ.room;
        other = controls_room false t (events_of events) differ.room;
        apart = differ.apart;
      },
    )

difference_by : (profile : Profile) (bytes : List ℕ) (events : List Placed) (f : Finding) (i : ℕ)
    → Document events bytes → IsFinding (count_of profile) events f i → (rule : Rule) → f.rule ≡ rule
    → IsDifference (count_of profile) events rule f.pixel f.place
difference_by profile bytes events f i document found Uncovered is =
    uncovered profile events f i
    (record { whole = document_whole events bytes document; found = found; rule_is = is })
    (subst (λ (r : Rule). HoldsAtPosition (IsPixel r f.pixel) (events_of events) i) is found.pixel)
difference_by profile bytes events f i document found Outside is =
    outside profile bytes events f i document
    (record { whole = document_whole events bytes document; found = found; rule_is = is })
    (subst (λ (r : Rule). HoldsAtPosition (IsPixel r f.pixel) (events_of events) i) is found.pixel)
difference_by profile bytes events f i document found EightBit is =
    eight_bit profile bytes events f i document
    (record { whole = document_whole events bytes document; found = found; rule_is = is })
difference_by profile bytes events f i document found _ is = tt

-- a finding on a document is a difference
pub difference_of : (profile : Profile) (bytes : List ℕ) (events : List Placed) (f : Finding) (i : ℕ)
    → Document events bytes → IsFinding (count_of profile) events f i
    → IsDifference (count_of profile) events f.rule f.pixel f.place
difference_of profile bytes events f i document found =
    difference_by profile bytes events f i document found f.rule refl
