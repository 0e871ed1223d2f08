-- The canonical list of a picture breaks none of the rules that terminals ask for, if the picture is as they ask.
use Rattle.std.proofs.Common.{◌≡◌, ℕ, zero, suc, ◌+◌, ◌*◌, ◌%◌, ◌≤◌, ◌<◌, Bool, true, false, ◌&&◌, not, Option}
use Rattle.std.proofs.Common.{Some, None, List, [], ◌∷◌, ◌++◌, take, refl, ap, subst, ◌∙◌, arith}
use Rattle.std.specs.Prelude.{IfSome, IsTrue, is_some, slice_get}
use Rattle.std.specs.List.{AllByRecursion}
use Rattle.std.specs.Option.{option_map_or}
use Rattle.std.proofs.lemmas.Bool.{and_right, le-ltb, lt-leb, or_from}
use Rattle.sixel_grammar.specs.declared.command.Event.{Event}
use Rattle.sixel_grammar.specs.declared.command.Event.TheVariants.{Step, Finish}
use Rattle.sixel_model.specs.declared.colour.Parts.{Parts}
use Rattle.sixel_model.specs.declared.colour.Parts.TheVariants.{Rgb, Hls}
use Rattle.sixel_model.specs.Colours.{palette_at}
use Rattle.sixel_model.specs.Events.{Attributes, columns_of, is_data_command, is_painting, is_return, raster_of}
use Rattle.sixel_model.specs.Geometry.{band, column}
use Rattle.sixel_model.specs.Pictures.{IsPicture, PictureValue}
use Rattle.sixel_model.specs.Positions.{HoldsNowhere, earliest}
use Rattle.sixel_model.specs.Rules.{raster_before}
use Rattle.sixel_named_terminals.specs.declared.named.Named.TheVariants.{XTerm, MlTerm, Konsole}
use Rattle.sixel_encode.specs.Canon.{canon, canon_start, define_command}
use Rattle.sixel_encode_laws.proofs.OpeningLemmas.{raster}
use Rattle.sixel_encode.proofs.PartedLemmas.{Parted, parted}
use Rattle.sixel_encode_laws.proofs.StandLemmas.{box_of}
use Rattle.sixel_emulator_rules.specs.Asked.{breaks_dropped, breaks_far, breaks_hue, breaks_large, breaks_introducer}
use Rattle.sixel_emulator_rules.specs.Asked.{breaks_past}
use Rattle.sixel_emulator_rules.specs.Asked.{breaks_raster_late, breaks_rows, leaves_box, leaves_far}
use Rattle.sixel_emulator_rules.specs.declared.rule.AskedRule.TheVariants.{RasterLate, Dropped, Large, Rows, Past, Hue}
use Rattle.sixel_emulator_rules.specs.declared.rule.AskedRule.TheVariants.{Far, Introducer, Bare, SpaceAfter}
use Rattle.sixel_emulator_rules_laws.specs.Laws.{BreaksNoneOf, CanonSuitsFoot, CanonSuitsKonsole, CanonSuitsMlTerm}
use Rattle.sixel_emulator_rules_laws.specs.Laws.{CanonSuitsXTerm}
use Rattle.sixel_emulator_rules_laws.specs.Laws.{HasNoHue}
use Rattle.sixel_emulator_rules_laws.proofs.AskedForms.{stale_only}
use Rattle.sixel_emulator_rules_laws.proofs.CanonLemmas.{HoldsOfBands, HoldsOfPalette, canon_defines_first, canon_is}
use Rattle.sixel_emulator_rules_laws.proofs.CanonLemmas.{closing}
use Rattle.sixel_emulator_rules_laws.proofs.CanonLemmas.{closing_is, opening, opening_is}
use Rattle.sixel_emulator_rules_laws.proofs.CanonWalkLemmas.{IsCalm, canon_walks, each_at}
use Rattle.sixel_emulator_rules_laws.proofs.StaleLemmas.{first_is_not_stale}

-- the whole list
abbrev listed : PictureValue → List Event
listed p = opening p ++ closing p

-- ---- tests of an event

fails : (b : Bool) → b ≡ true → b ≡ false → ⊥
fails b t f = cc

-- the event fails the test
abbrev Fails : (Event → Bool) → Event → Type 0
Fails t e = t e ≡ false

fails_there : (t : Event → Bool) (es : List Event) (i : ℕ) (e : Event) → AllByRecursion (Fails t) es
    → slice_get es i ≡ Some e → t e ≡ false
fails_there t [] i e h here = cc
fails_there t (d ∷ es) zero e h here = let same : d ≡ e = cc in subst (Fails t) same h.0
fails_there t (d ∷ es) (suc i) e h here = fails_there t es i e h.1 here

all_join : (P : Event → Type 0) (xs ys : List Event) → AllByRecursion P xs → AllByRecursion P ys
    → AllByRecursion P (xs ++ ys)
all_join P [] ys h k = k
all_join P (x ∷ xs) ys h k = (h.0, all_join P xs ys h.1 k)

nowhere_of : (t : Event → Bool) (p : PictureValue) → t canon_start ≡ false → t (raster p) ≡ false
    → HoldsOfPalette (Fails t) p.palette → HoldsOfBands (Fails t) → t (Finish false) ≡ false
    → HoldsNowhere (λ before e. IsTrue (t e)) (listed p)
nowhere_of t p start box each bands end i at =
    fails (t at.item) at.holds
    (fails_there t (listed p) i at.item
    (all_join (Fails t) (opening p) (closing p) (opening_is (Fails t) p start box each)
    (closing_is (Fails t) p bands end)) at.here)

-- ---- rules of one event

-- no command of a band breaks them
bands_introducer : HoldsOfBands (Fails breaks_introducer)
unfolding breaks_introducer
bands_introducer = record {
  sixel = λ bits. refl;
  repeat = λ count bits. refl;
  select = λ register. refl;
  return = refl;
  next_line = refl;
}

bands_large : HoldsOfBands (Fails breaks_large)
unfolding breaks_large
bands_large = record {
  sixel = λ bits. refl;
  repeat = λ count bits. refl;
  select = λ register. refl;
  return = refl;
  next_line = refl;
}

bands_rows : HoldsOfBands (Fails breaks_rows)
unfolding breaks_rows
bands_rows = record {
  sixel = λ bits. refl;
  repeat = λ count bits. refl;
  select = λ register. refl;
  return = refl;
  next_line = refl;
}

bands_hue : HoldsOfBands (Fails breaks_hue)
unfolding breaks_hue
bands_hue = record {
  sixel = λ bits. refl;
  repeat = λ count bits. refl;
  select = λ register. refl;
  return = refl;
  next_line = refl;
}

-- nor does a definition, of a colour that isn't by hue
define_introducer : (r : ℕ) (c : Parts) → breaks_introducer (Step (define_command r c)) ≡ false
unfolding breaks_introducer
define_introducer r (Rgb x y z) = refl
define_introducer r (Hls x y z) = refl

define_large : (r : ℕ) (c : Parts) → breaks_large (Step (define_command r c)) ≡ false
unfolding breaks_large
define_large r (Rgb x y z) = refl
define_large r (Hls x y z) = refl

define_rows : (r : ℕ) (c : Parts) → breaks_rows (Step (define_command r c)) ≡ false
unfolding breaks_rows
define_rows r (Rgb x y z) = refl
define_rows r (Hls x y z) = refl

define_hue : (p : PictureValue) (r : ℕ) (c : Parts) → HasNoHue p → palette_at p.palette r ≡ Some c
    → breaks_hue (Step (define_command r c)) ≡ false
unfolding breaks_hue
define_hue p r (Rgb x y z) none is = refl
define_hue p r (Hls x y z) none is = absurd (none r x y z is)

introducer_nowhere : (p : PictureValue) → HoldsNowhere (λ before e. IsTrue (breaks_introducer e)) (listed p)
unfolding breaks_introducer
introducer_nowhere p = nowhere_of breaks_introducer p refl refl (λ r c is. define_introducer r c) bands_introducer refl

large_nowhere : (p : PictureValue) → p.width ≤ 1000 → p.height ≤ 996
    → HoldsNowhere (λ before e. IsTrue (breaks_large e)) (listed p)
unfolding breaks_large
large_nowhere p across down =
    nowhere_of breaks_large p refl (or_from _ _ (le-ltb 1000 p.width across) (le-ltb 996 p.height down))
    (λ r c is. define_large r c) bands_large refl

hue_nowhere : (p : PictureValue) → HasNoHue p → HoldsNowhere (λ before e. IsTrue (breaks_hue e)) (listed p)
unfolding breaks_hue
hue_nowhere p none = nowhere_of breaks_hue p refl refl (λ r c is. define_hue p r c none is) bands_hue refl

rows_nowhere : (p : PictureValue) → p.height % 6 ≡ 0 → HoldsNowhere (λ before e. IsTrue (breaks_rows e)) (listed p)
unfolding breaks_rows
rows_nowhere p even =
    nowhere_of breaks_rows p refl (rw even refl) (λ r c is. define_rows r c) bands_rows refl

-- ---- the box

-- the raster attributes come right after the start
box_at : (p : PictureValue) (i : ℕ) → IfSome (raster_before (take i (listed p))) (λ a. a ≡ box_of p)
unfolding raster_before earliest
box_at p zero = tt
box_at p (suc zero) = tt
box_at p (suc (suc i)) = refl

leaves_by : (p : PictureValue) (before : List Event) (e : Event) (draws : Bool) → is_data_command e ≡ draws
    → IsCalm p before e → leaves_box (box_of p) before e ≡ false
leaves_by p before e false is calm = rw is refl
leaves_by p before e true is calm =
    let across : column 0 before + columns_of 0 e ≤ p.width = calm.across is in
    let down : 6 * band before < p.height = calm.down is in
    and_right (is_data_command e) _
    (or_from _ _ (le-ltb p.width (column 0 before + columns_of 0 e) across) (lt-leb p.height (6 * band before) down))

-- no data command leaves the box
leaves_never : (p : PictureValue) (before : List Event) (e : Event) → IsCalm p before e
    → leaves_box (box_of p) before e ≡ false
leaves_never p before e calm = leaves_by p before e (is_data_command e) refl calm

past_by : (p : PictureValue) (before : List Event) (e : Event) (o : Option Attributes) → IfSome o (λ a. a ≡ box_of p)
    → IsCalm p before e → option_map_or (λ a. leaves_box a before e) o false ≡ false
past_by p before e None is calm = refl
past_by p before e (Some a) is calm =
    ap (λ (b : Attributes). leaves_box b before e) is ∙ leaves_never p before e calm

past_never : (p : PictureValue) (before : List Event) (e : Event)
    → IfSome (raster_before before) (λ a. a ≡ box_of p) → IsCalm p before e → breaks_past before e ≡ false
unfolding breaks_past
past_never p before e box calm =
    and_right (not (is_painting e)) _ (past_by p before e (raster_before before) box calm)

far_at : (p : PictureValue) (before : List Event) (e : Event) (o : Option Attributes) → IfSome o (λ a. a ≡ box_of p)
    → leaves_far (box_of p) before e ≡ false → option_map_or (λ a. leaves_far a before e) o false ≡ false
far_at p before e None is stays = refl
far_at p before e (Some a) is stays = ap (λ (b : Attributes). leaves_far b before e) is ∙ stays

far_by : (p : PictureValue) (before : List Event) (e : Event) (draws : Bool) → is_data_command e ≡ draws
    → p.width ≤ 2048 → IfSome (raster_before before) (λ a. a ≡ box_of p) → IsCalm p before e
    → breaks_far before e ≡ false
unfolding breaks_far
far_by p before e false is wide box calm = rw is refl
far_by p before e true is wide box calm =
    let across : column 0 before + columns_of 0 e ≤ p.width = calm.across is in
    let down : 6 * band before < p.height = calm.down is in
    and_right (is_data_command e) _
    (or_from _ _ (le-ltb 32767 (column 0 before + columns_of 0 e) (omega (arith, across, wide)))
    (far_at p before e (raster_before before) box
    (or_from _ _ (le-ltb p.width (column 0 before + columns_of 0 e) across)
    (le-ltb (p.height + 512) (6 * band before + 6) (omega (arith, down))))))

dropped_by : (p : PictureValue) (before : List Event) (e : Event) (returns : Bool) → is_return e ≡ returns
    → IsCalm p before e → breaks_dropped before e ≡ false
unfolding breaks_dropped
dropped_by p before e false is calm = rw is refl
dropped_by p before e true is calm = and_right (is_return e) _ (calm.kept is)

late_false : (a b : Bool) → ((a && false) && b) ≡ false
late_false true b = refl
late_false false b = refl

late_at : (p : PictureValue) (i : ℕ) (e : Event) → slice_get (listed p) i ≡ Some e
    → breaks_raster_late (take i (listed p)) e ≡ false
unfolding breaks_raster_late raster_before earliest
late_at p zero e here = let same : e ≡ canon_start = cc in rw same refl
late_at p (suc zero) e here = let same : e ≡ raster p = cc in rw same refl
late_at p (suc (suc i)) e here = late_false (is_some (raster_of e)) _

-- ---- at no position

calm_at : (registers : ℕ) (p : PictureValue) (i : ℕ) (e : Event) → IsPicture registers p
    → slice_get (listed p) i ≡ Some e → IsCalm p (take i (listed p)) e
calm_at registers p i e picture here = each_at (IsCalm p) (listed p) i e (canon_walks registers p picture) here

late_nowhere : (p : PictureValue) → HoldsNowhere (λ before e. IsTrue (breaks_raster_late before e)) (listed p)
late_nowhere p i at = fails _ at.holds (late_at p i at.item at.here)

dropped_nowhere : (registers : ℕ) (p : PictureValue) → IsPicture registers p
    → HoldsNowhere (λ before e. IsTrue (breaks_dropped before e)) (listed p)
dropped_nowhere registers p picture i at =
    fails _ at.holds
    (dropped_by p (take i (listed p)) at.item (is_return at.item) refl (calm_at registers p i at.item picture at.here))

past_nowhere : (registers : ℕ) (p : PictureValue) → IsPicture registers p
    → HoldsNowhere (λ before e. IsTrue (breaks_past before e)) (listed p)
past_nowhere registers p picture i at =
    fails _ at.holds
    (past_never p (take i (listed p)) at.item (box_at p i) (calm_at registers p i at.item picture at.here))

far_nowhere : (registers : ℕ) (p : PictureValue) → IsPicture registers p
    → HoldsNowhere (λ before e. IsTrue (breaks_far before e)) (listed p)
far_nowhere registers p picture i at =
    let parts : Parted registers p = parted picture in
    fails _ at.holds
    (far_by p (take i (listed p)) at.item (is_data_command at.item) refl parts.most_width (box_at p i)
    (calm_at registers p i at.item picture at.here))

-- ---- what each terminal asks for

mlterm_none : (registers : ℕ) (p : PictureValue) → IsPicture registers p → BreaksNoneOf MlTerm (listed p)
mlterm_none registers p picture Far asked = far_nowhere registers p picture
mlterm_none registers p picture Introducer asked = introducer_nowhere p
mlterm_none registers p picture Bare asked = λ i h. h.holds
mlterm_none registers p picture _ asked = absurd cc

xterm_none : (p : PictureValue) → p.width ≤ 1000 → p.height ≤ 996 → HasNoHue p → BreaksNoneOf XTerm (listed p)
xterm_none p across down none Large asked = large_nowhere p across down
xterm_none p across down none Hue asked = hue_nowhere p none
xterm_none p across down none Introducer asked = introducer_nowhere p
xterm_none p across down none Bare asked = λ i h. h.holds
xterm_none p across down none SpaceAfter asked = λ i h. h.holds
xterm_none p across down none _ asked = absurd cc

konsole_none : (registers : ℕ) (p : PictureValue) → IsPicture registers p → p.height % 6 ≡ 0
    → BreaksNoneOf Konsole (listed p)
konsole_none registers p picture even RasterLate asked = late_nowhere p
konsole_none registers p picture even Dropped asked = dropped_nowhere registers p picture
konsole_none registers p picture even Rows asked = rows_nowhere p even
konsole_none registers p picture even Past asked = past_nowhere registers p picture
konsole_none registers p picture even _ asked = absurd cc

pub canon_suits_mlterm : (registers : ℕ) → CanonSuitsMlTerm registers
canon_suits_mlterm registers p picture = subst (BreaksNoneOf MlTerm) (canon_is p) (mlterm_none registers p picture)

pub canon_suits_foot : (registers : ℕ) → CanonSuitsFoot registers
canon_suits_foot registers p picture = stale_only (canon p) (first_is_not_stale (canon p) (canon_defines_first p))

pub canon_suits_xterm : (registers : ℕ) → CanonSuitsXTerm registers
canon_suits_xterm registers p picture across down none =
    subst (BreaksNoneOf XTerm) (canon_is p) (xterm_none p across down none)

pub canon_suits_konsole : (registers : ℕ) → CanonSuitsKonsole registers
canon_suits_konsole registers p picture even =
    subst (BreaksNoneOf Konsole) (canon_is p) (konsole_none registers p picture even)
