-- The size of a string, judged; and the picture of what a terminal shows of it.
use Rattle.std.proofs.Common.{◌≡◌, ◌==◌, ◌≤◌, ◌<◌, ◌&&◌, ◌||◌, ◌*◌, ℕ, Bool, true, false, Option, Some, None, List, Ok}
use Rattle.std.proofs.Common.{Err, max, length, min, nat_lt, refl, sym, ap, subst, ◌∙◌, arith}
use Rattle.std.specs.Prelude.{Result, if◌then◌else◌}
use Rattle.std.specs.Option.{option_map, option_map_or}
use Rattle.std.proofs.lemmas.Bool.{le-ltb, lt-ltb}
use Rattle.std.proofs.lemmas.Bool.Decides.{nat_tests}
use Rattle.sixel_grammar.specs.declared.command.Event.{Event}
use Rattle.sixel_grammar.specs.declared.command.Placed.{Placed}
use Rattle.sixel_grammar.specs.Document.{Document, events_of}
use Rattle.sixel_model.specs.declared.colour.Parts.{Parts}
use Rattle.sixel_model.specs.Events.{Attributes}
use Rattle.sixel_model.specs.Pictures.{is_side, most_side}
use Rattle.sixel_model.specs.Rules.{raster_before}
use Rattle.sixel_ppm.specs.PpmReading.{distinct, picture_of}
use Rattle.sixel_mend.specs.declared.extent.Extent.{Extent}
use Rattle.sixel_mend.specs.declared.extent.Sides.{Sides}
use Rattle.sixel_mend.specs.declared.mending.MendFault.{MendFault}
use Rattle.sixel_mend.specs.declared.mending.MendFault.TheVariants.{Grammar, Empty, TooLarge, TooManyColours}
use Rattle.sixel_mend.specs.declared.mending.MendFault.TheVariants.{OutOfMemory}
use Rattle.sixel_mend.specs.declared.mending.Mending.{Mending}
use Rattle.sixel_mend.specs.Judging.{IsReadingFault, judged}
use Rattle.sixel_mend.specs.Measures.{IsSized, Measures, most, sides_of}
use Rattle.sixel_mend.specs.Mended.{Mends, mended, mended_colours}
use Rattle.sixel_mend.specs.Numbering.{IsNumberingFault}
use Rattle.sixel_mend.specs.Sizes.{IsSize, side_over}
use Rattle.sixel_grammar.proofs.UniqueLemmas.{document_once}
use Rattle.sixel_model.proofs.GridLemmas.{length_rows}
use Rattle.sixel_terminal.specs.Drawing.{screen_on, shown_on}
use Rattle.sixel_mend.specs.Screens.{mending_terminal}
use Rattle.sixel_mend.proofs.SizeLemmas.{size_by}

-- ---- the size

over_none : (o : Option Attributes) (f : Attributes → ℕ) (n : ℕ) → option_map sides_of o ≡ None
    → option_map_or (λ a. max n (f a)) o n ≡ n
over_none None f n h = refl
over_none (Some a) f n h = cc

over_some : (o : Option Attributes) (g : Sides → ℕ) (s : Sides) (n : ℕ) → option_map sides_of o ≡ Some s
    → option_map_or (λ (a : Attributes). max n (g (sides_of a))) o n ≡ max n (g s)
over_some None g s n h = cc
over_some (Some a) g s n h = let same : sides_of a ≡ s = cc in ap (λ (x : Sides). max n (g x)) same

capped_over : (n d : ℕ) → d ≤ most → max (min n most) d ≡ min (max n d) most
capped_over n d le = omega (arith, le)

pub sized_alone : {e : Extent} (m : Mending) {events : List Event} → Measures e events → e.declared ≡ None
    → IsSized m events e.width e.height
sized_alone m {events} s none =
    let box : option_map sides_of (raster_before events) ≡ None = sym s.declared_is ∙ none in
    record {
      width = side_over events (λ a. a.width) s.width;
      height = side_over events (λ a. a.height) s.height;
      size = size_by m 0 0 (s.extent m 0 0);
      width_is = s.width_is ∙ ap (λ (n : ℕ). min n most)
          (sym (over_none (raster_before events) (λ a. a.width) s.width box));
      height_is = s.height_is ∙ ap (λ (n : ℕ). min n most)
          (sym (over_none (raster_before events) (λ a. a.height) s.height box));
    }

pub sized_over : {e : Extent} (m : Mending) {events : List Event} (sides : Sides) → Measures e events
    → e.declared ≡ Some sides → sides.width ≤ most → sides.height ≤ most
    → IsSized m events (max e.width sides.width) (max e.height sides.height)
sized_over m {events} sides s some wide high =
    let box : option_map sides_of (raster_before events) ≡ Some sides = sym s.declared_is ∙ some in
    record {
      width = side_over events (λ a. a.width) s.width;
      height = side_over events (λ a. a.height) s.height;
      size = size_by m 0 0 (s.extent m 0 0);
      width_is =
          ap (λ (n : ℕ). max n sides.width) s.width_is ∙ capped_over s.width sides.width wide
          ∙ ap (λ (n : ℕ). min n most)
          (sym (over_some (raster_before events) (λ (x : Sides). x.width) sides s.width box));
      height_is =
          ap (λ (n : ℕ). max n sides.height) s.height_is ∙ capped_over s.height sides.height high
          ∙ ap (λ (n : ℕ). min n most)
          (sym (over_some (raster_before events) (λ (x : Sides). x.height) sides s.height box));
    }

-- ---- the size, judged

same_empty : (w h width height : ℕ) → w ≡ min width most → h ≡ min height most
    → ((width == 0) || (height == 0)) ≡ ((w == 0) || (h == 0))
same_empty w h width height e f = grind (arith, nat_tests)

same_large : (w h width height : ℕ) → w ≡ min width most → h ≡ min height most
    → (nat_lt most_side width || nat_lt most_side height) ≡ (nat_lt most_side w || nat_lt most_side h)
same_large w h width height e f = grind (arith, nat_tests)

pub sides_from : (w h : ℕ) → ((w == 0) || (h == 0)) ≡ false → (nat_lt most_side w || nat_lt most_side h) ≡ false
    → (is_side w && is_side h) ≡ true
sides_from w h some few = grind (arith, nat_tests)

exact : (w width : ℕ) → w ≡ min width most → w ≤ 2048 → width ≡ w
exact w width e le = omega (arith, e, le)

is_empty : (registers : ℕ) (m : Mending) (events : List Event) (width height : ℕ)
    → ((width == 0) || (height == 0)) ≡ true → Err Empty ≡ mended registers m events width height
unfolding mended
is_empty registers m events width height e = rw e refl

is_large : (registers : ℕ) (m : Mending) (events : List Event) (width height : ℕ)
    → ((width == 0) || (height == 0)) ≡ false → (nat_lt most_side width || nat_lt most_side height) ≡ true
    → Err TooLarge ≡ mended registers m events width height
unfolding mended
is_large registers m events width height e f = rw (e, f) refl

-- the fault of a size, by its two tests
abbrev judged_by : Bool → Bool → Result (Unit {0}) MendFault
judged_by a b = if a then Err Empty else if b then Err TooLarge else Ok tt

pub size_refused : (registers : ℕ) {m : Mending} {bytes : List ℕ} {placed : List Placed} {w h : ℕ} (fault : MendFault)
    → Document placed bytes → IsSized m (events_of placed) w h → judged w h ≡ Err fault
    → Mends registers m bytes (Err fault)
size_refused registers {m} {bytes} {placed} {w} {h} fault doc s judgement =
    by ((w == 0) || (h == 0)) (nat_lt most_side w || nat_lt most_side h) refl refl judgement
  where
    by : (a b : Bool) → ((w == 0) || (h == 0)) ≡ a → (nat_lt most_side w || nat_lt most_side h) ≡ b
        → judged_by a b ≡ Err fault → Mends registers m bytes (Err fault)
    by true b d e f =
        let same : Empty ≡ fault = cc in
        subst (λ (it : MendFault). Mends registers m bytes (Err it)) same (
          placed,
          doc,
          (
            s.width,
            s.height,
            s.size,
            is_empty registers m (events_of placed) s.width s.height
                (same_empty w h s.width s.height s.width_is s.height_is ∙ d),
          ),
        )
    by false true d e f =
        let same : TooLarge ≡ fault = cc in
        subst (λ (it : MendFault). Mends registers m bytes (Err it)) same (
          placed,
          doc,
          (
            s.width,
            s.height,
            s.size,
            is_large registers m (events_of placed) s.width s.height
                (same_empty w h s.width s.height s.width_is s.height_is ∙ d)
                (same_large w h s.width s.height s.width_is s.height_is ∙ e),
          ),
        )
    by false false d e f = cc

-- a size without a fault
pub sides_accepted : (w h : ℕ) (u : Unit {0}) → judged w h ≡ Ok u → (is_side w && is_side h) ≡ true
sides_accepted w h u judgement =
    by ((w == 0) || (h == 0)) (nat_lt most_side w || nat_lt most_side h) refl refl judgement
  where
    by : (a b : Bool) → ((w == 0) || (h == 0)) ≡ a → (nat_lt most_side w || nat_lt most_side h) ≡ b
        → judged_by a b ≡ Ok u → (is_side w && is_side h) ≡ true
    by true b d e f = cc
    by false true d e f = cc
    by false false d e f = sides_from w h d e

pub few_sides : (w h : ℕ) → (is_side w && is_side h) ≡ true → (w ≤ 2048) × (h ≤ 2048)
few_sides w h sides = (grind (arith, nat_tests), grind (arith, nat_tests))

pub size_accepted : {m : Mending} {events : List Event} {w h : ℕ} → IsSized m events w h
    → (is_side w && is_side h) ≡ true → IsSize m events w h
size_accepted {m} {events} {w} {h} s sides =
    let few = few_sides w h sides in
    subst (λ (n : ℕ). IsSize m events n h) (exact w s.width s.width_is few.0)
    (subst (λ (n : ℕ). IsSize m events s.width n) (exact h s.height s.height_is few.1) s.size)

-- ---- the picture

is_too_many : (registers : ℕ) (m : Mending) (events : List Event) (w h : ℕ) → (is_side w && is_side h) ≡ true
    → registers < length (distinct (mended_colours m events w h)) → Err TooManyColours ≡ mended registers m events w h
unfolding mended
is_too_many registers m events w h sides many =
    let some : ((w == 0) || (h == 0)) ≡ false = grind (arith, nat_tests) in
    let small : (nat_lt most_side w || nat_lt most_side h) ≡ false = grind (arith, nat_tests) in
    rw (some, small, lt-ltb registers (length (distinct (mended_colours m events w h))) many) refl

pub is_mended : (registers : ℕ) (m : Mending) (events : List Event) (w h : ℕ) → (is_side w && is_side h) ≡ true
    → length (distinct (mended_colours m events w h)) ≤ registers
    → Ok (picture_of registers w h (mended_colours m events w h)) ≡ mended registers m events w h
unfolding mended
is_mended registers m events w h sides few =
    let some : ((w == 0) || (h == 0)) ≡ false = grind (arith, nat_tests) in
    let small : (nat_lt most_side w || nat_lt most_side h) ≡ false = grind (arith, nat_tests) in
    rw (some, small, le-ltb registers (length (distinct (mended_colours m events w h))) few) refl

-- the bytes are a document of these events, which have this size
pub record IsMeasured (m : Mending) (bytes : List ℕ) (events : List Placed) (w h : ℕ) : Type 0 where
  pub document : Document events bytes
  pub size : IsSize m (events_of events) w h
  pub sides : (is_side w && is_side h) ≡ true

-- two readings of a document give one list of events
pub measured : (m : Mending) (bytes : List ℕ) (w h : ℕ) (placed again : List Placed) → Document placed bytes
    → IsSize m (events_of placed) w h → (is_side w && is_side h) ≡ true → Document again bytes
    → IsMeasured m bytes again w h
measured m bytes w h placed again doc size sides other = record {
  document = other;
  size = subst (λ (es : List Placed). IsSize m (events_of es) w h) (document_once bytes placed again doc other) size;
  sides = sides;
}

-- the screen has a colour for each pixel
pub whole_screen : (m : Mending) (events : List Event) (w h : ℕ) → length (mended_colours m events w h) ≡ w * h
unfolding screen_on
whole_screen m events w h = length_rows w h (shown_on (mending_terminal m w h) events)

-- a fault of the numbering of the colours
pub numbering_refused : (registers : ℕ) {m : Mending} {bytes : List ℕ} {events : List Placed} {w h : ℕ}
    (colours : List Parts) (fault : MendFault) → IsMeasured m bytes events w h
    → colours ≡ mended_colours m (events_of events) w h → IsNumberingFault registers colours fault
    → Mends registers m bytes (Err fault)
numbering_refused registers {m} {events} {w} {h} colours TooManyColours d is refused =
    let many = subst (λ (cs : List Parts). registers < length (distinct cs)) is refused in
    (events, d.document, (w, h, d.size, is_too_many registers m (events_of events) w h d.sides many))
numbering_refused registers {events} {w} {h} colours OutOfMemory d is refused =
    (events, d.document, (w, h, d.size, d.sides))
numbering_refused registers colours (Grammar f) d is refused = absurd refused
numbering_refused registers colours Empty d is refused = absurd refused
numbering_refused registers colours TooLarge d is refused = absurd refused

-- a fault of the second reading
pub reading_refused : (registers : ℕ) {m : Mending} {bytes : List ℕ} {events : List Placed} {w h : ℕ}
    (fault : MendFault) → IsMeasured m bytes events w h → IsReadingFault bytes fault
    → Mends registers m bytes (Err fault)
reading_refused registers (Grammar f) d is = is
reading_refused registers {events} {w} {h} OutOfMemory d is = (events, d.document, (w, h, d.size, d.sides))
reading_refused registers Empty d is = absurd is
reading_refused registers TooLarge d is = absurd is
reading_refused registers TooManyColours d is = absurd is
