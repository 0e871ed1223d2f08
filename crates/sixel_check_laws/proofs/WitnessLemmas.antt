-- Two terminals, written out, that differ at what a finding names.
use Rattle.std.proofs.Common.{◌≡◌, ◌≢◌, ◌<◌, ◌≤◌, ◌+◌, ◌*◌, ◌&&◌, lit≤, ℕ, suc, Bool, true, false, Option, Some, None}
use Rattle.std.proofs.Common.{List, length, take, replicate, nat_le, nat_lt, refl, sym, ap, subst, ◌∙◌, arith}
use Rattle.std.specs.Prelude.{◌==◌, unwrap_or, IsSome, if◌then◌else◌}
use Rattle.std.specs.Option.{option_map_or}
use Rattle.std.proofs.lemmas.Bool.{and_parts, eqb-true, leb-true, ltb-true}
use Rattle.std.proofs.lemmas.List.{get_or-replicate, length-replicate}
use Rattle.sixel_grammar.specs.declared.command.Event.{Event}
use Rattle.sixel_grammar.specs.declared.command.Placed.{Placed}
use Rattle.sixel_grammar.specs.Document.{events_of}
use Rattle.sixel_model.specs.declared.colour.Parts.{Parts}
use Rattle.sixel_model.specs.declared.colour.Parts.TheVariants.{Rgb, Hls}
use Rattle.sixel_model.specs.declared.profile.Profile.{Profile}
use Rattle.sixel_model.specs.declared.profile.Profile.TheVariants.{Registers16, Registers256}
use Rattle.sixel_model.specs.Events.{Attributes, has_sides, is_in_box}
use Rattle.sixel_model.specs.Colours.{palette_at}
use Rattle.sixel_model.specs.Pictures.{is_side, register_of}
use Rattle.sixel_model.specs.Positions.{HoldsAtPosition, last_at}
use Rattle.sixel_model.specs.Profiles.{count_of}
use Rattle.sixel_model.specs.Rules.{BreaksNone, IsFirstBroken, StaysBlank, picture_left, raster_before}
use Rattle.sixel_model.proofs.FirstLemmas.{earliest_all}
use Rattle.sixel_terminal.specs.Displays.{Display, IsInClass}
use Rattle.sixel_terminal.specs.Drawing.{height_of, inked_on, is_kept_on, is_seen_on, map_on, paints_in, paints_on}
use Rattle.sixel_terminal.specs.Drawing.{selected_on, touches_on}
use Rattle.sixel_model.specs.declared.rule.Rule.{Rule}
use Rattle.sixel_model.specs.declared.rule.Rule.TheVariants.{Outside, Uncovered, EightBit}
use Rattle.sixel_judge.specs.declared.verdict.Finding.{Finding}
use Rattle.sixel_judge.specs.Alarms.{HasRoomFor, IsPaintedUnlessClipped}
use Rattle.sixel_check_laws.specs.Differences.{IsFound, SomeEightBitDiffer, SomeOutsideDiffer, SomeUncoveredDiffer}
use Rattle.sixel_check_laws.specs.Differences.{black}
use Rattle.sixel_check_laws.specs.Differences.{other_than, witness_terminal, shown_at, stood_at, white}
use Rattle.sixel_judge.specs.Verdicts.{IsPixel, capped, greatest}
use Rattle.sixel_judge.proofs.AlarmLemmas.{finish_last}
use Rattle.sixel_judge.proofs.CoverLemmas.{box_there}
use Rattle.sixel_judge.proofs.DifferenceLemmas.{and_some, box_of_prefix, box_sides, small_point, unbroken_but_last}
use Rattle.sixel_judge.proofs.OptionLemmas.{same_value, some_value}
use Rattle.sixel_check_laws.proofs.PairLemmas.{eight_bit_differs, outside_differs, promised, uncovered_differs}
use Rattle.sixel_judge.proofs.ShownLemmas.{painted_shows, size_left}

some_registers : (profile : Profile) → 0 < count_of profile
some_registers Registers16 = lit≤ tt
some_registers Registers256 = lit≤ tt

-- a witness with a screen belongs to the class
witness_class : (registers w h : ℕ) (c : Parts) → 0 < registers → 0 < w → 0 < h
    → IsInClass registers (witness_terminal registers w h c)
witness_class registers w h c some wide high =
    let count : length (replicate registers black) ≡ registers = length-replicate registers black in
    record {
      enough = omega (arith, count);
      selected = omega (arith, count, some);
      ground = tt;
      zero = omega arith;
      tall = omega arith;
      screen = length-replicate (w * h) c;
      origin_x = wide;
      origin_y = high;
    }

-- a pixel of the screen has an index
index_below : (x y w h : ℕ) → x < w → y < h → y * w + x < w * h
index_below x y w h p q = grind arith

from_zero : (x : ℕ) → 0 + x ≡ x
from_zero x = omega arith

-- at the start, each pixel of a witness's screen has the screen's colour
witness_stood : (n x y w h : ℕ) (c : Parts) → x < w → y < h → stood_at (witness_terminal n w h c) x y ≡ c
witness_stood n x y w h c p q =
    rw (from_zero x, from_zero y) (get_or-replicate (w * h) (y * w + x) c black (index_below x y w h p q))

-- ---- the pixel of a finding of Uncovered

-- the pixel lies in the box, whose sides are in range
record IsInside (events : List Event) (x y : ℕ) : Type 0 where
  pub box : Attributes
  pub first : raster_before events ≡ Some box
  pub sides : has_sides box ≡ true
  pub inside : is_in_box box x y ≡ true

first_box : (i : ℕ) (events : List Event) (a : Attributes) → raster_before (take i events) ≡ Some a
    → raster_before events ≡ Some a
unfolding raster_before
first_box i events a h = earliest_all _ i events a h

inside_at : (registers i x y : ℕ) (events : List Event) → IsFirstBroken registers events Uncovered i
    → HoldsAtPosition (IsPixel Uncovered (Some (x, y))) events i → IsInside events x y
inside_at registers i x y events f at =
    let a = and_some (raster_before (take i events)) _ (at.holds.2).holds in
    let blank : StaysBlank (take i events) a.0 at.holds.0 at.holds.1 = a.2 in
    let sides = box_sides a.0 f (lit≤ tt) a.1 in
    let same = small_point a.0 at.holds.0 at.holds.1 blank.inside sides in
    let point : Some (x, y) ≡ Some (capped at.holds.0, capped at.holds.1) = at.holds.3 in
    let across : x ≡ at.holds.0 = ap (λ (o : Option (ℕ × ℕ)). option_map_or (λ p. p.0) o 0) point ∙ same.0 in
    let down : y ≡ at.holds.1 = ap (λ (o : Option (ℕ × ℕ)). option_map_or (λ p. p.1) o 0) point ∙ same.1 in
    record {
      box = a.0;
      first = first_box i events a.0 a.1;
      sides = sides;
      inside = rw (across, down) blank.inside;
    }

inside_found : (registers i x y : ℕ) (placed : List Placed) (f : Finding) → IsFound registers placed Uncovered i f
    → f.pixel ≡ Some (x, y) → IsInside (events_of placed) x y
inside_found registers i x y placed f is pixel =
    let first : IsFirstBroken registers (events_of placed) Uncovered i =
    subst (λ (r : Rule). IsFirstBroken registers (events_of placed) r i) is.rule_is is.found.first in
    let at : HoldsAtPosition (IsPixel Uncovered f.pixel) (events_of placed) i =
    subst (λ (r : Rule). HoldsAtPosition (IsPixel r f.pixel) (events_of placed) i) is.rule_is is.found.pixel in
    inside_at registers i x y (events_of placed) first (rw pixel at at)

some_side : (n : ℕ) → is_side n ≡ true → 0 < n
some_side n h = let least : 1 ≤ n = leb-true 1 n (and_parts (nat_le 1 n) (nat_le n 2048) h).0 in omega (arith, least)

witness_room : (profile : Profile) (events : List Event) (a : Attributes) (c : Parts) → raster_before events ≡ Some a
    → has_sides a ≡ true → HasRoomFor (count_of profile) (witness_terminal (count_of profile) a.width a.height c) events
witness_room profile events a c box sides =
    let each = and_parts (is_side a.width) (is_side a.height) sides in
    record {
      in_class = witness_class (count_of profile) a.width a.height c (some_registers profile) (some_side a.width each.0)
          (some_side a.height each.1);
      room = rw box (record { across = omega arith; down = omega arith });
    }

black_is_not_white : black ≢ white
black_is_not_white e = cc

pub some_uncovered_differ : (profile : Profile) → SomeUncoveredDiffer profile
some_uncovered_differ profile placed f i x y a is pixel box =
    let n = count_of profile in
    let there = inside_found n i x y placed f is pixel in
    let same : there.box ≡ a = same_value (raster_before (events_of placed)) there.box a there.first box in
    let sides : has_sides a ≡ true = rw same at there.sides in
    let inside : is_in_box a x y ≡ true = rw same at there.inside in
    let at = and_parts (nat_lt x a.width) (nat_lt y a.height) inside in
    let across : x < a.width = ltb-true x a.width at.0 in
    let down : y < a.height = ltb-true y a.height at.1 in
    let one = witness_room profile (events_of placed) a black box sides in
    let other = witness_room profile (events_of placed) a white box sides in
    record {
      one = one;
      other = other;
      apart = uncovered_differs n placed f i x y (witness_terminal n a.width a.height black)
          (witness_terminal n a.width a.height white) is
          pixel one other refl refl (λ e. black_is_not_white
          (sym (witness_stood n x y a.width a.height black across down) ∙ e
          ∙ witness_stood n x y a.width a.height white across down));
    }

-- ---- the pixel of a finding of Outside

not_other : (c : Parts) → other_than c ≢ c
not_other (Rgb red green blue) e = split ((red == 0) && (green == 0) && (blue == 0)) refl e
  where
    split : (b : Bool) → ((red == 0) && (green == 0) && (blue == 0)) ≡ b
        → (if b then white else black) ≡ Rgb red green blue → ⊥
    split true q e = let r : 100 ≡ red = cc in let z : red ≡ 0 = eqb-true red 0 (and_parts _ _ (and_parts _ _ q).0).0 in
        absurd (omega (arith, r, z))
    split false q e =
        let r : red ≡ 0 = (let s : 0 ≡ red = cc in sym s) in
        let g : green ≡ 0 = (let s : 0 ≡ green = cc in sym s) in
        let b : blue ≡ 0 = (let s : 0 ≡ blue = cc in sym s) in
        let bad : true ≡ false = rw (r, g, b) at q in cc
not_other (Hls hue lightness saturation) e = split (lightness == 0) e
  where
    split : (b : Bool) → (if b then white else black) ≡ Hls hue lightness saturation → ⊥
    split true e = cc
    split false e = cc

-- the events paint the same whatever the screen showed before
same_ink : (n w h : ℕ) (c d : Parts) (events : List Event) (x y : ℕ)
    → last_at (inked_on (witness_terminal n w h c) events x y) events
    ≡ last_at (inked_on (witness_terminal n w h d) events x y) events
unfolding paints_on is_seen_on is_kept_on touches_on height_of selected_on map_on
same_ink n w h c d events x y = refl

outside_painted : (registers i x y : ℕ) (placed : List Placed) (f : Finding) (t : Display)
    → IsFound registers placed Outside i f → f.pixel ≡ Some (x, y) → x < greatest → y < greatest → IsInClass registers t
    → t.choices.clips ≡ false → t.choices.eight_bit ≡ true
    → HoldsAtPosition (λ before e. IsSome (paints_in t (events_of placed) before e (t.choices.origin_x + x)
    (t.choices.origin_y + y))) (events_of placed) i
outside_painted registers i x y placed f t is pixel low high class clips eight =
    let cut : x < greatest → y < greatest → IsPaintedUnlessClipped registers (events_of placed) i x y =
    rw pixel at (promised registers placed Outside i f is) in
    (cut low high).painted t class clips eight

pub some_outside_differ : (profile : Profile) → SomeOutsideDiffer profile
some_outside_differ profile placed f i x y is pixel low high =
    let n = count_of profile in
    let k = shown_at (witness_terminal n (x + 1) (y + 1) black) placed x y in
    let class = witness_class n (x + 1) (y + 1) (other_than k) (some_registers profile) (omega arith) (omega arith) in
    let painted = outside_painted n i x y placed f
    (witness_terminal n (x + 1) (y + 1) (other_than k)) is pixel low high class refl refl in
    let shows : shown_at (witness_terminal n (x + 1) (y + 1) (other_than k)) placed x y ≡ k =
    painted_shows _ _ (events_of placed) (0 + x) (0 + y) i
    (same_ink n (x + 1) (y + 1) (other_than k) black (events_of placed) (0 + x) (0 + y)) painted in
    let stood = witness_stood n x y (x + 1) (y + 1) (other_than k) (omega arith) (omega arith) in
    record {
      in_class = class;
      apart = outside_differs n placed f i x y
          (witness_terminal n (x + 1) (y + 1) (other_than k)) is pixel low high class refl refl
          (λ e. not_other k (sym stood ∙ e ∙ shows));
    }

-- ---- an 8-bit control at the finish

no_other : (o : Option Parts) → o ≢ Some (other_than (unwrap_or o black))
no_other None e = cc
no_other (Some c) e = let same : c ≡ other_than c = cc in not_other c (sym same)

pub some_eight_bit_differ : (profile : Profile) → SomeEightBitDiffer profile
some_eight_bit_differ profile placed f i is ends =
    let n = count_of profile in
    let events = events_of placed in
    let left = picture_left n events in
    let first : IsFirstBroken n events EightBit i =
    subst (λ (r : Rule). IsFirstBroken n events r i) is.rule_is is.found.first in
    let drawn : BreaksNone n Uncovered events =
    unbroken_but_last events ends.item is.whole first ends.here ends.holds in
    let a = some_value (raster_before events) (box_there n events is.whole drawn) in
    let size = size_left n events a.0 a.1 in
    let at_end : length events ≡ suc i = finish_last events i ends.item is.whole ends.here ends.holds in
    let sides : has_sides a.0 ≡ true = whole_sides n i events a.0 first at_end a.1 in
    let each = and_parts (is_side a.0.width) (is_side a.0.height) sides in
    let wide : 0 < left.width = rw size.0 (some_side a.0.width each.0) in
    let high : 0 < left.height = rw size.1 (some_side a.0.height each.1) in
    let c = other_than (unwrap_or (palette_at left.palette (register_of left 0 0)) black) in
    let room : HasRoomFor n (witness_terminal n left.width left.height c) events = record {
      in_class = witness_class n left.width left.height c (some_registers profile) wide high;
      room = rw a.1 (record { across = omega (arith, size.0); down = omega (arith, size.1) });
    } in
    let stood = witness_stood n 0 0 left.width left.height c wide high in
    record {
      room = room;
      apart = eight_bit_differs n placed f i 0 0 (witness_terminal n left.width left.height c) is ends room wide high
          (λ e. no_other (palette_at left.palette (register_of left 0 0)) (e ∙ ap (λ (p : Parts). Some p) stood));
    }
  where
    whole_sides : (n i : ℕ) (events : List Event) (a : Attributes) → IsFirstBroken n events EightBit i
        → length events ≡ suc i → raster_before events ≡ Some a → has_sides a ≡ true
    whole_sides n i events a f last box = box_of_prefix n i events a f last box
