-- A portable picture stays as it is.
use Rattle.std.proofs.Common.{◌≡◌, ◌≤◌, ◌<◌, ◌+◌, ◌*◌, ◌/◌, ◌%◌, ℕ, true, ◌&&◌, Option, Some}
use Rattle.std.proofs.Common.{IfSome, List, nat_le, Ok, length, inl, inr, refl, sym, subst, ◌∙◌, arith}
use Rattle.std.specs.List.{AllByRecursion, list_any}
use Rattle.std.proofs.lemmas.Bool.{and_parts, cases_lt, leb-true}
use Rattle.std.proofs.lemmas.List.{length-replicate}
use Rattle.std.proofs.lemmas.List.FromFn.{length-map-range_with_len}
use Rattle.std.proofs.lemmas.Nat.{mod_below, row-Below}
use Rattle.sixel_grammar.specs.declared.command.Event.{Event}
use Rattle.sixel_grammar.specs.Document.{AreWhole}
use Rattle.sixel_model.specs.declared.profile.Profile.{Profile}
use Rattle.sixel_model.specs.declared.colour.Parts.{Parts}
use Rattle.sixel_model.specs.declared.colour.Parts.TheVariants.{Rgb}
use Rattle.sixel_model.specs.declared.rule.Rule.TheVariants.{Uncovered}
use Rattle.sixel_model.specs.Colours.{is_entry, palette_at}
use Rattle.sixel_model.specs.Events.{Attributes, has_sides, raster_of}
use Rattle.sixel_model.specs.Grids.{row_by_row}
use Rattle.sixel_model.specs.Pictures.{PictureValue, is_side, register_of}
use Rattle.sixel_model.specs.Profiles.{count_of}
use Rattle.sixel_model.specs.Rules.{BreaksNone, breaks_box_size, colour_of, palette_left, picture_left, raster_before}
use Rattle.sixel_model.specs.Rules.{last_rule}
use Rattle.sixel_model.proofs.GridLemmas.{get_index, length_rows}
use Rattle.sixel_model.proofs.LatestLemmas.{each_from_positions}
use Rattle.sixel_model.proofs.PictureLemmas.{at_most_256}
use Rattle.sixel_model.proofs.RuleLemmas.{keeps_at, none_drawn}
use Rattle.sixel_ppm.specs.PpmReading.{distinct, picture_of}
use Rattle.sixel_terminal.specs.Displays.{HasRoom, IsInClass}
use Rattle.sixel_terminal.specs.Drawing.{IsPainted, screen_on, shown_on}
use Rattle.sixel_judge.specs.Portable.{IsInBoxOn, IsPortable, Shows}
use Rattle.sixel_judge.proofs.CoverLemmas.{box_there}
use Rattle.sixel_judge.proofs.DifferenceLemmas.{earliest_each, sides_if}
use Rattle.sixel_judge.proofs.OptionLemmas.{some_value}
use Rattle.sixel_judge.proofs.ShownLemmas.{left_is_portable, size_left}
use Rattle.sixel_mend.specs.declared.mending.Mending.{Mending}
use Rattle.sixel_mend.specs.Screens.{mending_terminal, starting_colour, starting_colours}
use Rattle.sixel_mend.specs.Sizes.{Bounds, IsSize}
use Rattle.sixel_mend.specs.Mended.{MendsEvents, mended_colours}
use Rattle.sixel_mend.proofs.MendLemmas.{is_mended}
use Rattle.sixel_mend.proofs.NumberLemmas.{each_by_index, entry_there, few_colours}
use Rattle.sixel_mend.proofs.SizeLemmas.{has_extent}
use Rattle.sixel_mend_laws.specs.Laws.{LookTheSame, PortableStays}
use Rattle.sixel_mend_laws.proofs.MendedLemmas.{IsMended, mended_shows}
use Rattle.sixel_mend_laws.proofs.TouchedLemmas.{touched_is_painted}

-- ---- the declared size

earliest_sides : (n : ℕ) (events : List Event) (a : Attributes) → BreaksNone n Uncovered events
    → raster_before events ≡ Some a → has_sides a ≡ true
unfolding breaks_box_size raster_before
earliest_sides n events a none box =
    rw box at (earliest_each raster_of (λ a. has_sides a ≡ true) events
    (each_from_positions (λ e. IfSome (raster_of e) (λ a. has_sides a ≡ true)) events
    (λ j e here. sides_if (raster_of e) (keeps_at n events none j e here).box_size)))

-- ---- the terminal has room

in_class : (n : ℕ) (m : Mending) (w h : ℕ) → n ≤ 256 → 0 < w → 0 < h → IsInClass n (mending_terminal m w h)
unfolding starting_colours
in_class n m w h few wide high =
    let count = length-map-range_with_len starting_colour 0 256 in
    record {
      enough = omega (arith, count, few);
      selected = omega (arith, count);
      ground = tt;
      zero = omega arith;
      tall = omega arith;
      screen = length-replicate (w * h) m.background;
      origin_x = wide;
      origin_y = high;
    }

-- ---- the size

-- if the terminal paints nothing outside a box, each touched point lies in it
touched_inside : (m : Mending) (w h : ℕ) (events : List Event)
    → ((x y : ℕ) → ¬ IsInBoxOn (mending_terminal m w h) w h x y → ¬ IsPainted (mending_terminal m w h) events x y)
    → Bounds (mending_terminal m w h) events w h
touched_inside m w h events outside x y touched =
    let painted = touched_is_painted m w h events x y touched in (
      elim (cases_lt x w) [
        | inl lt ↦ lt
        | inr le ↦ absurd (outside x y (λ b. absurd (omega (arith, le, b.right))) painted)
      ],
      elim (cases_lt y h) [
        | inl lt ↦ lt
        | inr le ↦ absurd (outside x y (λ b. absurd (omega (arith, le, b.bottom))) painted)
      ],
    )

-- a size that declares a box which holds the touched points is that of the box
size_of_box : (m : Mending) (events : List Event) (a : Attributes) (w h : ℕ) → raster_before events ≡ Some a
    → w ≡ a.width → h ≡ a.height → Bounds (mending_terminal m w h) events w h → IsSize m events w h
size_of_box m events a w h box wide high bounds =
    let e = has_extent m w h events in
    let least = e.is.least w h bounds in
    record {
      extent_width = e.width;
      extent_height = e.height;
      extent = e.is;
      width_is = rw box (omega (arith, least.0, wide));
      height_is = rw box (omega (arith, least.1, high));
    }

-- ---- the colours

-- each colour shown is an entry of the palette
all_entries : (m : Mending) (events : List Event) (w h : ℕ) (palette : List (Option Parts)) → 0 < w
    → ((x y : ℕ) → x < w → y < h → list_any (is_entry (shown_on (mending_terminal m w h) events x y)) palette ≡ true)
    → AllByRecursion (λ c. list_any (is_entry c) palette ≡ true) (mended_colours m events w h)
unfolding screen_on
all_entries m events w h palette wide each =
    let f = shown_on (mending_terminal m w h) events in
    each_by_index (λ c. list_any (is_entry c) palette ≡ true) (row_by_row w h f) (Rgb 0 0 0)
    (λ i lt.
    let low : i < w * h = omega (arith, lt, length_rows w h f) in
    subst (λ (c : Parts). list_any (is_entry c) palette ≡ true) (sym (get_index w h f i (Rgb 0 0 0) low))
    (each (i % w) (i / w) (mod_below i w wide) (row-Below i w w h low (omega arith)).1))

length_left : (n : ℕ) (events : List Event) → length (picture_left n events).palette ≡ n
unfolding picture_left palette_left
length_left n events = length-map-range_with_len (colour_of events) 0 n

-- ---- the picture

-- the parts of the proof, for the picture that the events leave
record Left (registers : ℕ) (m : Mending) (events : List Event) (w h : ℕ) : Type 0 where
  pub width : (picture_left registers events).width ≡ w
  pub height : (picture_left registers events).height ≡ h
  pub sides : (is_side w && is_side h) ≡ true
  pub size : IsSize m events w h
  pub shown : (x y : ℕ) → x < w → y < h
      → palette_at (picture_left registers events).palette (register_of (picture_left registers events) x y)
      ≡ Some (shown_on (mending_terminal m w h) events x y)

some_side : (n : ℕ) → is_side n ≡ true → 0 < n
some_side n h = let least : 1 ≤ n = leb-true 1 n (and_parts (nat_le 1 n) (nat_le n 2048) h).0 in omega (arith, least)

from_zero : (n : ℕ) → 0 + n ≡ n
from_zero n = omega arith

left_shown : (profile : Profile) (m : Mending) (events : List Event) (a : Attributes) → AreWhole events
    → BreaksNone (count_of profile) last_rule events → raster_before events ≡ Some a
    → Left (count_of profile) m events a.width a.height
left_shown profile m events a whole none box =
    let n : ℕ = count_of profile in
    let w = a.width in
    let h = a.height in
    let t = mending_terminal m w h in
    let left = picture_left n events in
    let same = size_left n events a box in
    let sides : has_sides a ≡ true = earliest_sides n events a (none_drawn n events none) box in
    let each = and_parts (is_side w) (is_side h) sides in
    let portable : IsPortable n events left = left_is_portable n events whole none in
    let class : IsInClass n t =
    in_class n m w h (at_most_256 profile) (some_side w each.0) (some_side h each.1) in
    let room : HasRoom t left.width left.height =
    record { across = omega (arith, same.0); down = omega (arith, same.1) } in
    let shows : Shows t events left = portable.shown t class room in
    record {
      width = same.0;
      height = same.1;
      sides = sides;
      size = size_of_box m events a w h box refl refl (touched_inside m w h events (λ x y out. shows.outside x y
          (λ b. out (record {
            left = b.left;
            top = b.top;
            right = omega (arith, b.right, same.0);
            bottom = omega (arith, b.bottom, same.1);
          }))));
      shown = λ x y across down.
          rw (from_zero x, from_zero y) at (shows.inside x y (omega (arith, across, same.0)) (omega (arith, down, same.1)));
    }

stays_in : (profile : Profile) (m : Mending) (events : List Event) (w h : ℕ)
    → Left (count_of profile) m events w h
    → (p : PictureValue) × MendsEvents (count_of profile) m events (Ok p)
    × LookTheSame p (picture_left (count_of profile) events)
stays_in profile m events w h l =
    let n : ℕ = count_of profile in
    let left = picture_left n events in
    let colours = mended_colours m events w h in
    let p = picture_of n w h colours in
    let each = and_parts (is_side w) (is_side h) l.sides in
    let entries = all_entries m events w h left.palette (some_side w each.0)
    (λ x y across down. entry_there left.palette (register_of left x y) _ (l.shown x y across down)) in
    let few : length (distinct colours) ≤ n = omega (arith, few_colours colours left.palette entries, length_left n events)
    in
    let is : IsMended n m events w h p = record { sides = l.sides; few = few; is = refl } in (
      p,
      (w, h, l.size, is_mended n m events w h l.sides few),
      record {
        width = sym l.width;
        height = sym l.height;
        pixels = λ x y across down.
            let right : x < w = omega (arith, across, l.width) in
            let low : y < h = omega (arith, down, l.height) in
            mended_shows n m events w h p x y is right low ∙ sym (l.shown x y right low);
      },
    )

pub portable_stays : (profile : Profile) → PortableStays (count_of profile)
portable_stays profile m events whole none =
    let n : ℕ = count_of profile in
    let a = some_value (raster_before events) (box_there n events whole (none_drawn n events none)) in
    stays_in profile m events (a.0).width (a.0).height (left_shown profile m events a.0 whole none a.1)
