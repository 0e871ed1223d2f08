-- What a terminal hears of a document, with more of its bytes.
use Rattle.std.proofs.Common.{◌≡◌, ◌∙◌, ◌==◌, ◌&&◌, ◌+◌, ◌<◌, ◌≤◌, ◌-◌, ℕ, zero, suc, Bool, true, false, List, [], ◌∷◌, ◌++◌}
use Rattle.std.proofs.Common.{Option, Some, None, ap, arith, inl, inr, length, not, refl, subst, sym, ◌≢◌}
use Rattle.std.specs.Prelude.{IsTrue, cond, filter, slice_get, if◌then◌else◌}
use Rattle.std.specs.List.{range_with_len}
use Rattle.std.proofs.lemmas.Bool.{cases_lt, eqb-true}
use Rattle.std.proofs.lemmas.List.{append-nil}
use Rattle.std.proofs.lemmas.List.Concat.{flat_map-append}
use Rattle.sixel_grammar.specs.declared.command.Command.TheVariants.{Raster, Select, Sixel}
use Rattle.sixel_grammar.specs.declared.command.Event.{Event}
use Rattle.sixel_grammar.specs.declared.command.Event.TheVariants.{Step}
use Rattle.sixel_grammar.specs.declared.command.Placed.{Placed}
use Rattle.sixel_grammar.specs.declared.reader.Reader.{Reader}
use Rattle.sixel_grammar.specs.Following.{AreFollowed, HaltsWithin, TakesEvents}
use Rattle.sixel_grammar.specs.Pieces.{HaltsPiece}
use Rattle.sixel_grammar.specs.declared.halt.Halt.{Halt}
use Rattle.sixel_grammar.specs.declared.halt.Halt.TheVariants.{Refused, Stopped}
use Rattle.std.specs.declared.convert.Infallible.{Infallible}
use Rattle.sixel_grammar.proofs.FollowingLemmas.{always_refused}
use Rattle.sixel_emulator.specs.declared.looking.Looking.{Looking}
use Rattle.sixel_emulator.specs.Looking.{HasHeardPieces}
use Rattle.sixel_grammar.specs.Spelling.{is_open_ended}
use Rattle.sixel_grammar.specs.Standing.{StandsAfter}
use Rattle.sixel_grammar.specs.Stretches.{sixels_from}
use Rattle.sixel_model.specs.Events.{Attributes}
use Rattle.sixel_omissions.specs.declared.raster.WrittenRaster.{WrittenRaster}
use Rattle.sixel_omissions.specs.Omissions.{IsFirstBare, is_bare_at}
use Rattle.sixel_omissions.specs.Rasters.{first_raster, has_four, has_two}
use Rattle.sixel_omissions.proofs.BareLemmas.{bare_last, bare_left, bare_within}
use Rattle.sixel_omissions.proofs.FirstBareLemmas.{bare_once}
use Rattle.sixel_omissions.proofs.OpenEndedLemmas.{byte_behind}
use Rattle.sixel_omissions.proofs.RasterPieceLemmas.{AgreeAt, IsElsewhere, IsRaster, raster_agrees}
use Rattle.sixel_emulator.specs.declared.hearing.Hearing.{Hearing}
use Rattle.sixel_emulator.specs.declared.hearing.Hears.{Hears}
use Rattle.sixel_emulator.specs.declared.hearing.Hears.TheVariants.{Boxes, Events, Selects, SelectsAndRasters}
use Rattle.sixel_emulator.specs.declared.hearing.Omitted.{Omitted}
use Rattle.sixel_emulator.specs.declared.hearing.RasterHeard.{RasterHeard}
use Rattle.sixel_emulator.specs.declared.hearing.RasterHeard.TheVariants.{AsTheyAre, Box, Ratio}
use Rattle.sixel_emulator.specs.Heard.{HasHeardOn, all_at, as_box, as_it_is, as_ratio, first_bare, heard, heard_event}
use Rattle.sixel_emulator.specs.Heard.{heard_in, heard_raster, heard_select, is_taken, is_without_height}
use Rattle.sixel_emulator.specs.Heard.{nothing_omitted, omitted_in, zeros}
use Rattle.sixel_emulator.specs.Modelled.{placed_at}

-- ---- more events

abbrev heard_placed : Omitted → Placed → List Placed
heard_placed omitted p = all_at p.place (heard_event omitted p.place p.event)

pub heard_sixels : (omitted : Omitted) (place : ℕ) (bytes : List ℕ)
    → heard omitted (sixels_from place bytes) ≡ sixels_from place bytes
heard_sixels omitted place [] = refl
heard_sixels omitted place (b ∷ bs) =
    ap (λ (ps : List Placed). placed_at place (Step (Sixel (b - 63))) ∷ ps) (heard_sixels omitted (place + 1) bs)

-- what had heard these events has heard more, if it has taken them as they are heard
pub hears_more : {F : Type 0} (has_taken : F → F → List Placed → Type 0) (first old new : Hearing F)
    (seen more : List Placed) → HasHeardOn has_taken first old seen → new.omitted ≡ old.omitted
    → TakesEvents has_taken old.listener new.listener (heard old.omitted more)
    → HasHeardOn has_taken first new (seen ++ more)
hears_more has_taken first old new seen more h omitted takes =
    let all : heard first.omitted seen ++ heard old.omitted more ≡ heard first.omitted (seen ++ more) =
    ap (λ (o : Omitted). heard first.omitted seen ++ heard o more) h.0
    ∙ sym (flat_map-append (heard_placed first.omitted) seen more) in (
      omitted ∙ h.0,
      subst (λ (l : List Placed). has_taken first.listener new.listener l) all
          (takes first.listener (heard first.omitted seen) h.1),
    )

-- one event more, of which some other is heard
pub hears_some : {F : Type 0} (has_taken : F → F → List Placed → Type 0) (first old new : Hearing F)
    (seen : List Placed) (place : ℕ) (e other : Event) → HasHeardOn has_taken first old seen
    → new.omitted ≡ old.omitted → other ∷ [] ≡ heard_event old.omitted place e
    → TakesEvents has_taken old.listener new.listener (placed_at place other ∷ [])
    → HasHeardOn has_taken first new (seen ++ placed_at place e ∷ [])
hears_some has_taken first old new seen place e other h omitted is takes =
    hears_more has_taken first old new seen (placed_at place e ∷ []) h omitted
    (subst (λ (es : List Event). TakesEvents has_taken old.listener new.listener (all_at place es ++ [])) is takes)

-- or none
pub hears_none : {F : Type 0} (has_taken : F → F → List Placed → Type 0) (first old : Hearing F) (seen : List Placed)
    (place : ℕ) (e : Event) → HasHeardOn has_taken first old seen → [] ≡ heard_event old.omitted place e
    → HasHeardOn has_taken first old (seen ++ placed_at place e ∷ [])
hears_none has_taken first old seen place e h is =
    hears_more has_taken first old old seen (placed_at place e ∷ []) h refl
    (subst (λ (es : List Event). TakesEvents has_taken old.listener old.listener (all_at place es ++ [])) is
    (λ one before taken. subst (λ (l : List Placed). has_taken one old.listener l) (sym (append-nil before)) taken))

-- ---- what is heard the same

-- each of these events
heard_same : (one other : Omitted) (placed : List Placed)
    → ((i : ℕ) (p : Placed) → slice_get placed i ≡ Some p
    → heard_event one p.place p.event ≡ heard_event other p.place p.event)
    → heard one placed ≡ heard other placed
heard_same one other [] each = refl
heard_same one other (p ∷ ps) each =
    ap (λ (es : List Event). all_at p.place es ++ heard one ps) (each 0 p refl)
    ∙ ap (λ (l : List Placed). all_at p.place (heard_event other p.place p.event) ++ l)
    (heard_same one other ps (λ i q there. each (suc i) q there))

event_same : (one other : Omitted) (place : ℕ) (e : Event)
    → (IsTrue (is_open_ended e) → (register : ℕ)
    → heard_select one.bare place register ≡ heard_select other.bare place register)
    → (IsRaster e → (a : Attributes) → heard_raster one.raster place a ≡ heard_raster other.raster place a)
    → heard_event one place e ≡ heard_event other place e
event_same one other place (Step (Select register)) select raster =
    ap (λ (e : Event). e ∷ []) (select refl register)
event_same one other place (Step (Raster pan pad width height)) select raster =
    raster tt (record { pan = pan; pad = pad; width = width; height = height })
event_same one other place _ select raster = refl

event_as_it_is : (place : ℕ) (e : Event) → heard_event nothing_omitted place e ≡ e ∷ []
event_as_it_is place (Step (Select register)) = refl
event_as_it_is place (Step (Raster pan pad width height)) = refl
event_as_it_is place _ = refl

pub heard_as_it_is : (placed : List Placed) → heard nothing_omitted placed ≡ placed
heard_as_it_is [] = refl
heard_as_it_is (p ∷ ps) =
    ap (λ (es : List Event). all_at p.place es ++ heard nothing_omitted ps) (event_as_it_is p.place p.event)
    ∙ ap (λ (l : List Placed). p ∷ l) (heard_as_it_is ps)

elsewhere : (at place register : ℕ) → at ≢ place → heard_select (Some place) at register ≡ Step (Select register)
elsewhere at place register differ = by (at == place) refl
  where
    by : (b : Bool) → (at == place) ≡ b → (if b then zeros else Step (Select register)) ≡ Step (Select register)
    by true is = absurd (differ (eqb-true at place is))
    by false is = refl

raster_by : (here taken four : Bool) (a : Attributes) → here ≡ false
    → (if not (here && taken) then as_it_is a ∷ [] else if four then zeros ∷ [] else []) ≡ as_it_is a ∷ []
raster_by true taken four a isnt = cc
raster_by false taken four a isnt = refl

box_by : (here two : Bool) (a : Attributes) → here ≡ false
    → (if here && two then Step (Raster a.pan a.pad 8 6) ∷ [] else as_it_is a ∷ []) ≡ as_it_is a ∷ []
box_by true two a isnt = cc
box_by false two a isnt = refl

-- what is written isn't of these, or they have a height
raster_as_it_is : (heard : RasterHeard) (place : ℕ) (a : Attributes)
    → ((written : WrittenRaster) → is_without_height written place a ≡ false)
    → heard_raster heard place a ≡ as_it_is a ∷ []
raster_as_it_is AsTheyAre place a isnt = refl
raster_as_it_is (Ratio written) place a isnt =
    raster_by (is_without_height written place a) (is_taken a.pan a.pad) (has_four written) a (isnt written)
raster_as_it_is (Box written) place a isnt =
    box_by (is_without_height written place a) (has_two written) a (isnt written)

with_height : (heard : RasterHeard) (place : ℕ) (a : Attributes) → (a.height == 0) ≡ false
    → heard_raster heard place a ≡ as_it_is a ∷ []
with_height heard place a some =
    raster_as_it_is heard place a (λ written. by (place == written.place) (a.height == 0) some)
  where
    by : (b c : Bool) → c ≡ false → (b && c) ≡ false
    by true c is = is
    by false c is = refl

is_elsewhere : (written : WrittenRaster) (place : ℕ) (a : Attributes) → written.place ≢ place
    → is_without_height written place a ≡ false
is_elsewhere written place a differ = by (place == written.place) refl
  where
    by : (b : Bool) → (place == written.place) ≡ b → (b && (a.height == 0)) ≡ false
    by true is = absurd (differ (sym (eqb-true place written.place is)))
    by false is = refl

ratio_elsewhere : (written : Option WrittenRaster) (place : ℕ) (a : Attributes) → IsElsewhere place written
    → heard_raster (as_ratio written) place a ≡ as_it_is a ∷ []
ratio_elsewhere None place a apart = refl
ratio_elsewhere (Some written) place a apart =
    raster_by (is_without_height written place a) (is_taken a.pan a.pad) (has_four written) a
    (is_elsewhere written place a apart)

box_elsewhere : (written : Option WrittenRaster) (place : ℕ) (a : Attributes) → IsElsewhere place written
    → heard_raster (as_box written) place a ≡ as_it_is a ∷ []
box_elsewhere None place a apart = refl
box_elsewhere (Some written) place a apart =
    box_by (is_without_height written place a) (has_two written) a (is_elsewhere written place a apart)

-- ---- the first select without a number

abbrev IsFirstOf : (ℕ → Bool) → ℕ → ℕ → Option ℕ → Type 0
IsFirstOf test a n None = (i : ℕ) → a ≤ i → i < a + n → test i ≡ false
IsFirstOf test a n (Some place) = (test place ≡ true) × ((i : ℕ) → a ≤ i → i < place → test i ≡ false)

step_of : (test : ℕ → Bool) (a n : ℕ) (b : Bool) → test a ≡ b
    → IsFirstOf test (a + 1) n (slice_get (filter test (range_with_len (a + 1) n)) 0)
    → IsFirstOf test a (suc n) (slice_get (cond b (a ∷ filter test (range_with_len (a + 1) n))
    (filter test (range_with_len (a + 1) n))) 0)
step_of test a n true is rest = (is, λ i from lt. absurd (omega (arith, from, lt)))
step_of test a n false is rest = by (slice_get (filter test (range_with_len (a + 1) n)) 0) rest
  where
    here : (i : ℕ) → (a + 1 ≤ i → test i ≡ false) → a ≤ i → test i ≡ false
    here i later from = elim (cases_lt a i) [
      | inl lt ↦ later (omega (arith, lt))
      | inr le ↦ (let same : a ≡ i = omega (arith, from, le) in ap test (sym same) ∙ is)
    ]

    by : (o : Option ℕ) → IsFirstOf test (a + 1) n o → IsFirstOf test a (suc n) o
    by None f = λ i from lt. here i (λ above. f i above (omega (arith, lt))) from
    by (Some place) f = (f.0, λ i from lt. here i (λ above. f.1 i above lt) from)

first_of : (test : ℕ → Bool) (a n : ℕ) → IsFirstOf test a n (slice_get (filter test (range_with_len a n)) 0)
first_of test a zero = λ i from lt. absurd (omega (arith, from, lt))
first_of test a (suc n) = step_of test a n (test a) refl (first_of test (a + 1) n)

pub first_bare_first : (bytes : List ℕ) → IsFirstBare bytes (first_bare bytes)
first_bare_first bytes = by (first_bare bytes) (first_of (is_bare_at bytes) 0 (length bytes))
  where
    by : (o : Option ℕ) → IsFirstOf (is_bare_at bytes) 0 (length bytes) o → IsFirstBare bytes o
    by None f = λ i. elim (cases_lt i (length bytes)) [
      | inl lt ↦ f i (omega arith) (omega (arith, lt))
      | inr le ↦ bare_last bytes i (omega (arith, le))
    ]
    by (Some place) f = (f.0, λ i lt. f.1 i (omega arith) lt)

pub first_bare_is : (bytes : List ℕ) (o : Option ℕ) → IsFirstBare bytes o → o ≡ first_bare bytes
first_bare_is bytes o is = bare_once bytes o (first_bare bytes) is (first_bare_first bytes)

-- with all bytes
pub heard_all : (hears : Hears) (bytes : List ℕ) (placed : List Placed)
    → heard (omitted_in hears bytes) placed ≡ heard_in hears bytes placed
heard_all Events bytes placed = heard_as_it_is placed
heard_all Selects bytes placed = refl
heard_all SelectsAndRasters bytes placed = refl
heard_all Boxes bytes placed = refl

-- ---- more bytes

-- with more bytes a select that has a byte behind it is heard as it was
select_stays : (bytes more : List ℕ) (place register : ℕ) (old new : Option ℕ) → place + 1 < length bytes
    → IsFirstBare bytes old → IsFirstBare (bytes ++ more) new
    → heard_select new place register ≡ heard_select old place register
select_stays bytes more place register (Some bare) new behind first later =
    let within = bare_within bytes bare first.0 in
    let same : IsFirstBare (bytes ++ more) (Some bare) = (
      bare_left bytes more bare within ∙ first.0,
      λ i lt. bare_left bytes more i (omega (arith, lt, within)) ∙ first.1 i lt,
    ) in
    ap (λ (o : Option ℕ). heard_select o place register) (bare_once (bytes ++ more) new (Some bare) later same)
select_stays bytes more place register None None behind first later = refl
select_stays bytes more place register None (Some bare) behind first later =
    elsewhere place bare register
    (λ is.
    (let free : is_bare_at bytes place ≡ false = first place in
    let left = bare_left bytes more place behind in
    let there : is_bare_at (bytes ++ more) place ≡ true = ap (is_bare_at (bytes ++ more)) is ∙ later.0 in
    cc))

-- and raster attributes, where as much is written of them
ratio_stays : (place : ℕ) (a : Attributes) (one other : Option WrittenRaster) → AgreeAt place one other
    → heard_raster (as_ratio other) place a ≡ heard_raster (as_ratio one) place a
ratio_stays place a one other agree = elim agree [
  | inl same ↦ ap (λ (o : Option WrittenRaster). heard_raster (as_ratio o) place a) (sym same)
  | inr apart ↦ ratio_elsewhere other place a apart.1 ∙ sym (ratio_elsewhere one place a apart.0)
]

box_stays : (place : ℕ) (a : Attributes) (one other : Option WrittenRaster) → AgreeAt place one other
    → heard_raster (as_box other) place a ≡ heard_raster (as_box one) place a
box_stays place a one other agree = elim agree [
  | inl same ↦ ap (λ (o : Option WrittenRaster). heard_raster (as_box o) place a) (sym same)
  | inr apart ↦ box_elsewhere other place a apart.1 ∙ sym (box_elsewhere one place a apart.0)
]

pub heard_stays : (hears : Hears) (reader : Reader) (events : List Placed) (bytes more : List ℕ)
    → StandsAfter reader events bytes
    → heard (omitted_in hears (bytes ++ more)) events ≡ heard (omitted_in hears bytes) events
heard_stays Events reader events bytes more stands = refl
heard_stays Selects reader events bytes more stands =
    heard_same (omitted_in Selects (bytes ++ more)) (omitted_in Selects bytes) events
    (λ i p there. event_same (omitted_in Selects (bytes ++ more)) (omitted_in Selects bytes) p.place p.event
    (λ ends register. select_stays bytes more p.place register (first_bare bytes) (first_bare (bytes ++ more))
    (byte_behind reader events bytes i p stands there ends) (first_bare_first bytes) (first_bare_first (bytes ++ more)))
    (λ is a. refl))
heard_stays SelectsAndRasters reader events bytes more stands =
    heard_same (omitted_in SelectsAndRasters (bytes ++ more)) (omitted_in SelectsAndRasters bytes) events
    (λ i p there. event_same (omitted_in SelectsAndRasters (bytes ++ more)) (omitted_in SelectsAndRasters bytes) p.place
    p.event
    (λ ends register. select_stays bytes more p.place register (first_bare bytes) (first_bare (bytes ++ more))
    (byte_behind reader events bytes i p stands there ends) (first_bare_first bytes) (first_bare_first (bytes ++ more)))
    (λ is a. ratio_stays p.place a (first_raster bytes) (first_raster (bytes ++ more))
    (raster_agrees reader events bytes more i p stands there is)))
heard_stays Boxes reader events bytes more stands =
    heard_same (omitted_in Boxes (bytes ++ more)) (omitted_in Boxes bytes) events
    (λ i p there. event_same (omitted_in Boxes (bytes ++ more)) (omitted_in Boxes bytes) p.place p.event
    (λ ends register. refl)
    (λ is a. box_stays p.place a (first_raster bytes) (first_raster (bytes ++ more))
    (raster_agrees reader events bytes more i p stands there is)))

pub nothing_yet : (hears : Hears) → omitted_in hears [] ≡ nothing_omitted
nothing_yet Events = refl
nothing_yet Selects = refl
nothing_yet SelectsAndRasters = refl
nothing_yet Boxes = refl

-- the same drawing, which hears these otherwise
abbrev pub hearing_at : {R : Type 0} → Hearing R → Omitted → Hearing R
hearing_at w omitted = record w { omitted = omitted }

-- what has heard these bytes hears the same of them once it knows of those behind them
pub followed_on : {F : Type 0} (has_taken : F → F → List Placed → Type 0) (hears : Hears) (begun now : Hearing F)
    (omitted : Omitted) (reader : Reader) (bytes more : List ℕ)
    → (a : AreFollowed (HasHeardOn has_taken (hearing_at begun (omitted_in hears bytes))) reader now bytes)
    → omitted ≡ omitted_in hears (bytes ++ more)
    → AreFollowed (HasHeardOn has_taken (hearing_at begun (omitted_in hears (bytes ++ more)))) reader
    (hearing_at now omitted) bytes
followed_on has_taken hears begun now omitted reader bytes more a is = record {
  events = a.events;
  read = a.read;
  taken = (
    is,
    subst (λ (l : List Placed). has_taken begun.listener now.listener l)
        (sym (heard_stays hears reader a.events bytes more a.read)) a.taken.1,
  );
}

pub heard_append : (omitted : Omitted) (seen more : List Placed)
    → heard omitted (seen ++ more) ≡ heard omitted seen ++ heard omitted more
heard_append omitted seen more = flat_map-append (heard_placed omitted) seen more

-- ---- a string in which nothing is omitted

-- raster attributes have a height
abbrev pub HasHeight : Event → Type 0
HasHeight (Step (Raster pan pad width height)) = (height == 0) ≡ false
HasHeight _ = Unit {0}

event_whole : (bare : Option ℕ) (raster : RasterHeard) (place : ℕ) (e : Event) → bare ≡ None → HasHeight e
    → heard_event (record { bare = bare; raster = raster }) place e ≡ e ∷ []
event_whole bare raster place (Step (Select register)) none high =
    ap (λ (o : Option ℕ). heard_select o place register ∷ []) none
event_whole bare raster place (Step (Raster pan pad width height)) none high =
    with_height raster place (record { pan = pan; pad = pad; width = width; height = height }) high
event_whole bare raster place _ none high = refl

heard_by : (bare : Option ℕ) (raster : RasterHeard) (placed : List Placed) → bare ≡ None
    → ((i : ℕ) (p : Placed) → slice_get placed i ≡ Some p → HasHeight p.event)
    → heard (record { bare = bare; raster = raster }) placed ≡ placed
heard_by bare raster placed none high =
    heard_same (record { bare = bare; raster = raster }) nothing_omitted placed
    (λ i p there. event_whole bare raster p.place p.event none (high i p there)
    ∙ sym (event_as_it_is p.place p.event))
    ∙ heard_as_it_is placed

-- raster attributes have heights
pub heard_boxes : (bytes : List ℕ) (placed : List Placed)
    → ((i : ℕ) (p : Placed) → slice_get placed i ≡ Some p → HasHeight p.event) → heard_in Boxes bytes placed ≡ placed
heard_boxes bytes placed high = heard_by None (as_box (first_raster bytes)) placed refl high

-- and no select lacks a number
pub heard_whole : (hears : Hears) (bytes : List ℕ) (placed : List Placed) → IsFirstBare bytes None
    → ((i : ℕ) (p : Placed) → slice_get placed i ≡ Some p → HasHeight p.event) → heard_in hears bytes placed ≡ placed
heard_whole Events bytes placed none high = refl
heard_whole Selects bytes placed none high =
    heard_by (first_bare bytes) AsTheyAre placed (sym (first_bare_is bytes None none)) high
heard_whole SelectsAndRasters bytes placed none high =
    heard_by (first_bare bytes) (as_ratio (first_raster bytes)) placed (sym (first_bare_is bytes None none)) high
heard_whole Boxes bytes placed none high = heard_boxes bytes placed high

-- what ends the following of a piece ends its hearing
pub heard_halts : {F : Type 0} (has_taken : F → F → List Placed → Type 0) (reader r : Reader)
    (before now new : Hearing F) (l m : Looking) (piece : List ℕ)
    (on : (first : Hearing F) (start : Looking) (bytes : List ℕ)
    → HasHeardPieces has_taken first start reader before l bytes
    → (from : Hearing F) × AreFollowed (HasHeardOn has_taken from) reader now bytes)
    (ends : Halt Infallible)
    → HaltsWithin (HasHeardOn has_taken) (λ one other stop seen. ⊥) reader now r new piece ends
    → HaltsPiece (HasHeardPieces has_taken) (λ first start hearing looking stop bytes. ⊥) reader before l new m piece
    ends
heard_halts has_taken reader r before now new l m piece on (Refused fault) halts = λ first start bytes read rest.
    let o = on first start bytes read in
    always_refused (HasHeardOn has_taken o.0) r new (bytes ++ piece) fault (halts o.0 bytes o.1) rest
heard_halts has_taken reader r before now new l m piece on (Stopped stop) halts = λ first start bytes read.
    let o = on first start bytes read in (halts o.0 bytes o.1).holds
