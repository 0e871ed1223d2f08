-- Where a rule counts, by the notes and the covered pixels.
use Rattle.std.proofs.Common.{◌≡◌, ◌≢◌, ◌<◌, ◌≤◌, ◌&&◌, ℕ, Bool, true, false, not, Option, Some, None, List, refl}
use Rattle.std.proofs.Common.{sym, ap, ap₂, subst, ◌∙◌, arith, get_or}
use Rattle.std.specs.Prelude.{IsTrue, is_none, nat_lt, if◌then◌else◌}
use Rattle.std.specs.Option.{option_map_or}
use Rattle.std.proofs.Math.Bool.{and-false, and-true}
use Rattle.std.proofs.lemmas.Bool.{and_from, and_parts, ltb-true}
use Rattle.sixel_grammar.specs.declared.command.Command.TheVariants.{Define}
use Rattle.sixel_grammar.specs.declared.command.Event.{Event}
use Rattle.sixel_grammar.specs.declared.command.Event.TheVariants.{Step}
use Rattle.sixel_model.specs.Events.{Attributes, Definition, is_eight_bit, is_finish, is_painting}
use Rattle.sixel_model.specs.Events.{is_same_definition, named_by}
use Rattle.sixel_model.specs.Grids.{Grid, first_blank}
use Rattle.sixel_model.specs.Pictures.{is_side}
use Rattle.sixel_model.specs.Rules.{Breaks, BreaksOutside, BreaksUncovered, FallsOutside, StaysBlank, breaks_eight_bit}
use Rattle.sixel_model.specs.Rules.{breaks_raster_first, breaks_raster_twice, breaks_redefined, breaks_box_size}
use Rattle.sixel_model.specs.Rules.{breaks_colour_value, breaks_ratio, breaks_register, breaks_repeat_zero}
use Rattle.sixel_model.specs.Rules.{breaks_undefined, breaks_unselected, definition_of, is_painted_in, known}
use Rattle.sixel_model.specs.Rules.{raster_before}
use Rattle.sixel_model.specs.declared.rule.Rule.{Rule}
use Rattle.sixel_model.specs.declared.rule.Rule.TheVariants.{RasterFirst, RasterTwice, Ratio, BoxSize, Register}
use Rattle.sixel_model.specs.declared.rule.Rule.TheVariants.{ColourValue, RepeatZero, Unselected, Undefined, Redefined}
use Rattle.sixel_model.specs.declared.rule.Rule.TheVariants.{Outside, Uncovered, EightBit}
use Rattle.sixel_judge.specs.Judging.{box_of}
use Rattle.sixel_judge.specs.Outside.{IsFirstIfAny}
use Rattle.sixel_judge.specs.Verdicts.{IsPixel}
use Rattle.sixel_judge.proofs.BlankLemmas.{Covers, first_blank_covered}
use Rattle.sixel_judge.proofs.RunLemmas.{first_same}
use Rattle.sixel_judge.specs.declared.notes.Notes.{Notes}
use Rattle.sixel_judge.specs.declared.hits.Hit.{Hit}
use Rattle.sixel_judge.specs.Counting.{Counts, IsHit, at_pixel, has_box, is_below, is_told, paints_early}
use Rattle.sixel_judge.specs.Covering.{IsCoverOf}
use Rattle.sixel_judge.specs.Notes.{IsNotesAfter, counts_in, known_in, raster_first_in, raster_twice_in, redefined_in}
use Rattle.sixel_judge.specs.Notes.{said_of, undefined_in}
use Rattle.sixel_judge.proofs.NotesLemmas.{known_is}

-- ---- the rules that don't look at pixels

-- a hit without a pixel, if the test passes
abbrev pub hit_if : Bool → Option Hit
hit_if b = if b then Some (record { pixel = None }) else None

-- the rule is broken exactly if the test passes, and no other rule tells the same mistake
plain : (registers : ℕ) (rule : Rule) (before : List Event) (e : Event) (b : Bool)
    → (b ≡ true → Breaks registers rule before e) → (Breaks registers rule before e → b ≡ true)
    → IsTrue (is_told registers rule before e) → IsPixel rule None before e → IsHit registers rule before e (hit_if b)
plain registers rule before e true to from told pixel = (record { broken = to refl; told = told }, pixel)
plain registers rule before e false to from told pixel =
    λ (c : Counts registers rule before e). let no : false ≡ true = from c.broken in cc

-- the rule is broken exactly if p holds, and the test is that it's broken and that no other rule tells the same mistake
told_too : (registers : ℕ) (rule : Rule) (before : List Event) (e : Event) (b p : Bool)
    → b ≡ (p && is_told registers rule before e) → (p ≡ true → Breaks registers rule before e)
    → (Breaks registers rule before e → p ≡ true) → IsPixel rule None before e
    → IsHit registers rule before e (hit_if b)
told_too registers rule before e true p is to from pixel =
    let parts = and_parts p (is_told registers rule before e) (sym is) in
    (record { broken = to parts.0; told = parts.1 }, pixel)
told_too registers rule before e false p is to from pixel =
    λ (c : Counts registers rule before e).
    let no : false ≡ true = is ∙ and_from p (is_told registers rule before e) (from c.broken) c.told in cc

-- a register that isn't below has no part in the test
undefined_both : (registers : ℕ) (paints : Bool) (o : Option ℕ) (f g : ℕ → Bool)
    → ((r : ℕ) → r < registers → f r ≡ g r)
    → (paints && option_map_or (λ r. nat_lt r registers && f r) o false)
    ≡ ((paints && option_map_or g o false) && option_map_or (λ r. nat_lt r registers) o false)
undefined_both registers true None f g same = refl
undefined_both registers false None f g same = refl
undefined_both registers paints (Some r) f g same = by_low paints (nat_lt r registers) refl
  where
    by_low : (paints c : Bool) → nat_lt r registers ≡ c → (paints && (c && f r)) ≡ ((paints && g r) && c)
    by_low true true e = rw (same r (ltb-true r registers e)) (sym (and-true (g r)))
    by_low true false e = sym (and-false (g r))
    by_low false c e = refl

undefined_is : (registers : ℕ) {n : Notes} {before : List Event} (e : Event) → registers ≤ 256 → IsNotesAfter n before
    → undefined_in registers n e ≡ (breaks_undefined before e && is_below registers (known before))
unfolding breaks_undefined
undefined_is registers {n} {before} e few s =
    ap (λ (o : Option ℕ). is_painting e
    && option_map_or (λ r. nat_lt r registers && is_none (said_of n.definitions r)) o false) (known_is s)
    ∙ undefined_both registers (is_painting e) (known before) (λ r. is_none (said_of n.definitions r))
    (λ r. is_none (definition_of before r)) (λ r lt. ap is_none (s.definitions_are r (omega (arith, lt, few))))

redefined_low : (registers : ℕ) {n : Notes} {before : List Event} (r : ℕ) (d : Definition) (c : Bool)
    → registers ≤ 256 → IsNotesAfter n before → nat_lt r registers ≡ c
    → (c && (get_or n.painted r false
    && option_map_or (λ k. not (is_same_definition k d)) (said_of n.definitions r) false))
    ≡ ((is_painted_in before r
    && option_map_or (λ k. not (is_same_definition k d)) (definition_of before r) false) && c)
redefined_low registers {before} r d true few s e =
    let lt : r < registers = ltb-true r registers e in
    ap₂ (λ (b : Bool) (o : Option Definition). b && option_map_or (λ k. not (is_same_definition k d)) o false)
    (s.painted_is r (omega (arith, lt, few))) (s.definitions_are r (omega (arith, lt, few)))
    ∙ sym (and-true _)
redefined_low registers r d false few s e = sym (and-false _)

redefined_is : (registers : ℕ) {n : Notes} {before : List Event} (e : Event) → registers ≤ 256 → IsNotesAfter n before
    → redefined_in registers n e ≡ (breaks_redefined before e && is_below registers (named_by e))
unfolding breaks_redefined
redefined_is registers (Step (Define register system x y z)) few s =
    redefined_low registers register (record { system = system; x = x; y = y; z = z })
    (nat_lt register registers) few s refl
redefined_is registers _ few s = refl

pub eight_bit_hit : (registers : ℕ) (before : List Event) (e : Event) (b : Bool) → is_eight_bit e ≡ b
    → IsHit registers EightBit before e (hit_if b)
unfolding Breaks breaks_eight_bit
eight_bit_hit registers before e b is = plain registers EightBit before e b (λ h. is ∙ h) (λ h. sym is ∙ h) refl refl

-- the hits of all rules but the two on pixels
pub notes_hit : (registers : ℕ) (n : Notes) (before : List Event) (e : Event) (rule : Rule) → registers ≤ 256
    → IsNotesAfter n before → rule ≢ Outside → rule ≢ Uncovered
    → IsHit registers rule before e (hit_if (counts_in registers n e rule))
unfolding Breaks breaks_raster_first breaks_raster_twice breaks_unselected breaks_eight_bit
notes_hit registers n before e RasterFirst few s p q =
    let is : raster_first_in n.declared e ≡ breaks_raster_first before e =
    ap (λ (b : Bool). raster_first_in b e) s.declared_is in
    plain registers RasterFirst before e (raster_first_in n.declared e) (λ h. sym is ∙ h) (λ h. is ∙ h) refl refl
notes_hit registers n before e RasterTwice few s p q =
    let is : raster_twice_in n.declared e ≡ breaks_raster_twice before e =
    ap (λ (b : Bool). raster_twice_in b e) s.declared_is in
    plain registers RasterTwice before e (raster_twice_in n.declared e) (λ h. sym is ∙ h) (λ h. is ∙ h) refl refl
notes_hit registers n before e Ratio few s p q =
    plain registers Ratio before e (breaks_ratio e) (λ h. h) (λ h. h) refl refl
notes_hit registers n before e BoxSize few s p q =
    plain registers BoxSize before e (breaks_box_size e) (λ h. h) (λ h. h) refl refl
notes_hit registers n before e Register few s p q =
    plain registers Register before e (breaks_register registers e) (λ h. h) (λ h. h) refl refl
notes_hit registers n before e ColourValue few s p q =
    plain registers ColourValue before e (breaks_colour_value e) (λ h. h) (λ h. h) refl refl
notes_hit registers n before e RepeatZero few s p q =
    plain registers RepeatZero before e (breaks_repeat_zero e) (λ h. h) (λ h. h) refl refl
notes_hit registers n before e Unselected few s p q =
    let is : (is_painting e && is_none (known_in n)) ≡ (is_painting e && is_none (known before)) =
    ap (λ (o : Option ℕ). is_painting e && is_none o) (known_is s) in
    plain registers Unselected before e (is_painting e && is_none (known_in n)) (λ h. sym is ∙ h) (λ h. is ∙ h) refl
    refl
notes_hit registers n before e Undefined few s p q =
    told_too registers Undefined before e (undefined_in registers n e) (breaks_undefined before e)
    (undefined_is registers e few s) (λ h. h) (λ h. h) refl
notes_hit registers n before e Redefined few s p q =
    told_too registers Redefined before e (redefined_in registers n e) (breaks_redefined before e)
    (redefined_is registers e few s) (λ h. h) (λ h. h) refl
notes_hit registers n before e Outside few s p q = absurd (p refl)
notes_hit registers n before e Uncovered few s p q = absurd (q refl)
notes_hit registers n before e EightBit few s p q = eight_bit_hit registers before e _ refl

-- ---- the rules on pixels

pub box_told : (s : Grid) (before : List Event) → IsCoverOf s before → has_box before ≡ true
box_told s before c =
    rw c.box_is (and_from (is_side c.box.width) (is_side c.box.height)
    (subst (λ (n : ℕ). IsTrue (is_side n)) (sym c.width_is) c.width)
    (subst (λ (n : ℕ). IsTrue (is_side n)) (sym c.height_is) c.height))

-- the first pixel outside a declared box in range
pub outside_in : (registers : ℕ) (box : Attributes) (before : List Event) (e : Event) → raster_before before ≡ Some box
    → has_box before ≡ true → (o : Option (ℕ × ℕ)) → IsFirstIfAny (FallsOutside before e box) o
    → IsHit registers Outside before e (at_pixel o)
unfolding Breaks BreaksOutside
outside_in registers box before e is told None first =
    λ (k : Counts registers Outside before e).
    let point = rw is at k.broken in first point.0 point.1 point.2
outside_in registers box before e is told (Some pixel) first = (
  record { broken = rw is (first.0, first.1, (first.2).holds); told = told },
  rw is first,
)

pub outside_hit : (registers : ℕ) (s : Grid) (before : List Event) (e : Event) (c : IsCoverOf s before)
    (o : Option (ℕ × ℕ)) → IsFirstIfAny (FallsOutside before e c.box) o → IsHit registers Outside before e (at_pixel o)
outside_hit registers s before e c o first = outside_in registers c.box before e c.box_is (box_told s before c) o first

pub outside_none : (registers : ℕ) (before : List Event) (e : Event) → has_box before ≡ false
    → IsHit registers Outside before e None
outside_none registers before e none =
    λ (k : Counts registers Outside before e). let told : has_box before ≡ true = k.told in cc

pub uncovered_hit : (registers : ℕ) {s : Grid} {before : List Event} (e : Event) (c : IsCoverOf s before)
    (o : Option (ℕ × ℕ)) → is_finish e ≡ true → paints_early before ≡ false → IsFirstIfAny (StaysBlank before c.box) o
    → IsHit registers Uncovered before e (at_pixel o)
unfolding Breaks BreaksUncovered
uncovered_hit registers {before} e c None ends late first =
    λ (k : Counts registers Uncovered before e).
    let point = rw c.box_is at k.broken.1 in first point.0 point.1 point.2
uncovered_hit registers {s} {before} e c (Some pixel) ends late first = (
  record {
    broken = (ends, rw c.box_is (first.0, first.1, (first.2).holds));
    told = and_from (has_box before) (not (paints_early before)) (box_told s before c) (ap not late);
  },
  rw c.box_is first,
)

pub uncovered_none : (registers : ℕ) (before : List Event) (e : Event) → has_box before ≡ false
    → IsHit registers Uncovered before e None
uncovered_none registers before e none =
    λ (k : Counts registers Uncovered before e).
    let told : has_box before ≡ true = (and_parts (has_box before) (not (paints_early before)) k.told).0 in cc

pub uncovered_goes_on : (registers : ℕ) (before : List Event) (e : Event) → is_finish e ≡ false
    → IsHit registers Uncovered before e None
unfolding Breaks BreaksUncovered
uncovered_goes_on registers before e goes_on =
    λ (k : Counts registers Uncovered before e). let ends : is_finish e ≡ true = k.broken.0 in cc

pub uncovered_early : (registers : ℕ) (before : List Event) (e : Event) → paints_early before ≡ true
    → IsHit registers Uncovered before e None
uncovered_early registers before e early =
    λ (k : Counts registers Uncovered before e).
    let told : not (paints_early before) ≡ true = (and_parts (has_box before) (not (paints_early before)) k.told).1 in
    let late : not (paints_early before) ≡ false = ap not early in
    cc

pub covers_of : {s : Grid} {before : List Event} → IsCoverOf s before → paints_early before ≡ false → Covers s before
covers_of c late =
    record { width = c.width; height = c.height; pixels = c.pixels; covered = c.covered late }

-- the first blank pixel of the grid
pub blank_first : (s : Grid) (before : List Event) (c : IsCoverOf s before) → paints_early before ≡ false
    → IsFirstIfAny (StaysBlank before c.box) (first_blank s)
blank_first s before c late =
    first_same (StaysBlank before (box_of s)) (StaysBlank before c.box)
    (λ x y p. record { inside = rw (c.width_is, c.height_is) p.inside; blank = p.blank })
    (λ x y p. record { inside = rw (c.width_is, c.height_is) at p.inside; blank = p.blank }) (first_blank s)
    (first_blank_covered (covers_of c late))
