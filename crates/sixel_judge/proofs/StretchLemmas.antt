-- On stretches of sixels that break no rule.
use Rattle.std.proofs.Common.{◌≡◌, ℕ, zero, suc, ◌+◌, ◌-◌, ◌*◌, ◌%◌, ◌<◌, ◌≤◌, ◌&&◌, ◌||◌, Bool, true, false, not}
use Rattle.std.proofs.Common.{IsTrue, Option, Some, None, List, [], ◌∷◌, ◌++◌, length, get_or, set, take, refl, sym, ap}
use Rattle.std.proofs.Common.{ap₂, ◌∙◌, subst, arith, append_assoc, inl, inr}
use Rattle.std.specs.Prelude.{IsFalse, IsSome, is_none, is_some, nat_le, nat_lt, if◌then◌else◌}
use Rattle.std.specs.List.{AllByRecursion}
use Rattle.std.specs.Option.{option_map_or}
use Rattle.std.proofs.Math.Bool.{and-false, or-false}
use Rattle.std.proofs.lemmas.Bool.{and_parts, eqb-true, leb-true, not-false, not-true, cond-true, lt-ltb}
use Rattle.std.proofs.lemmas.List.{append-nil, get_or-take, length-take-le}
use Rattle.sixel_grammar.specs.Bytes.{is_data}
use Rattle.sixel_grammar.specs.Document.{events_of}
use Rattle.sixel_grammar.specs.Faults.{ArePrefix}
use Rattle.sixel_grammar.specs.Spelling.{IsSpellable}
use Rattle.sixel_grammar.specs.Stretches.{sixels_from}
use Rattle.sixel_grammar.specs.declared.command.Command.{Command}
use Rattle.sixel_grammar.specs.declared.command.Command.TheVariants.{Sixel}
use Rattle.sixel_grammar.specs.declared.command.Event.{Event}
use Rattle.sixel_grammar.specs.declared.command.Event.TheVariants.{Step}
use Rattle.sixel_grammar.specs.declared.command.Placed.{Placed}
use Rattle.sixel_grammar.proofs.PieceLemmas.{all-append}
use Rattle.sixel_model.specs.Events.{is_painting}
use Rattle.sixel_model.specs.Geometry.{band, column}
use Rattle.sixel_model.specs.Pictures.{is_side, most_side}
use Rattle.sixel_model.specs.Profiles.{count_of}
use Rattle.sixel_model.specs.Rules.{BreaksOutside, BreaksUncovered, FallsOutside, breaks_box_size, breaks_colour_value}
use Rattle.sixel_model.specs.Rules.{breaks_ratio, breaks_raster_first, breaks_raster_twice, breaks_redefined}
use Rattle.sixel_model.specs.Rules.{breaks_register, breaks_repeat_zero, breaks_undefined, breaks_unselected}
use Rattle.sixel_model.specs.Rules.{definition_of, known as known_before}
use Rattle.sixel_model.specs.declared.profile.Profile.{Profile}
use Rattle.sixel_model.proofs.RuleLemmas.{keeps_none}
use Rattle.sixel_model.specs.Grids.{Grid, cell}
use Rattle.sixel_plane.specs.Covers.{kept_by}
use Rattle.sixel_plane.specs.Stretches.{sixel_of, stretched_grid}
use Rattle.sixel_plane.proofs.PlaneStretchLemmas.{stretched_blank, stretched_height, stretched_length, stretched_more}
use Rattle.sixel_plane.proofs.PlaneStretchLemmas.{stretched_none, stretched_width}
use Rattle.sixel_judge.specs.declared.notes.Notes.{Notes}
use Rattle.sixel_judge.specs.declared.progress.Progress.{Progress}
use Rattle.sixel_judge.specs.declared.progress.Progress.TheVariants.{Begun, Whole}
use Rattle.sixel_judge.specs.declared.verdict.Finding.{Finding}
use Rattle.sixel_judge.specs.Judging.{BreaksNoRule, IsDrawn, JudgesAfter, StandsUnbroken, box_of}
use Rattle.sixel_judge.specs.Notes.{IsNotesAfter, known_in, marked, next_painted}
use Rattle.sixel_judge.specs.Outside.{IsFirstIfAny}
use Rattle.sixel_judge.specs.Standing.{CheckerValue, StandsAfter, expects, is_start, is_whole, progress_of}
use Rattle.sixel_judge.specs.Standing.{progress_with}
use Rattle.sixel_judge.specs.Stretches.{AreBlank, Fits, IsPaintedIn, IsStretchedIn, MayStep, blank_byte, moved_by}
use Rattle.sixel_judge.specs.Stretches.{passed_by}
use Rattle.sixel_judge.specs.Verdicts.{IsFinding, capped}
use Rattle.sixel_judge.proofs.BlankLemmas.{small}
use Rattle.sixel_judge.proofs.DrawLemmas.{drawn_paint, drawn_still}
use Rattle.sixel_judge.proofs.JudgeLemmas.{events_push, judge_broken, judge_goes_on}
use Rattle.sixel_judge.proofs.NotesLemmas.{known_is, notes_push}
use Rattle.sixel_judge.proofs.OutsideLemmas.{IsCapped, inside_fits, no_bits_fit, none_outside}
use Rattle.sixel_judge.proofs.PushLemmas.{may_step_then}
use Rattle.sixel_judge.proofs.RunLemmas.{falls_first}
use Rattle.sixel_judge.proofs.StandLemmas.{prefix_next, progress_push}
use Rattle.sixel_judge.proofs.UnbrokenLemmas.{painted_defined}

-- ---- one sixel inside the box, in a register that a command painted in before

abbrev sixel : ℕ → Event
sixel bits = Step (Sixel bits)

has : {A : Type 0} (o : Option A) → IsSome o → is_none o ≡ false
has None h = cc
has (Some x) h = refl

-- no point that the event covers lies outside the box
not_outside : {kept : ℕ → ℕ} (s : Grid) (before : List Event) (e : Event) → IsDrawn kept s before
    → IsFirstIfAny (FallsOutside before e (box_of s)) None → ¬ BreaksOutside before e
unfolding BreaksOutside
not_outside s before e d first broken = let point = rw d.box at broken in first point.0 point.1 point.2

-- a sixel in a box breaks no rule, unless one on its register, or `Outside`
sixel_keeps : (registers : ℕ) {kept : ℕ → ℕ} {s : Grid} {before : List Event} (bits : ℕ) → IsDrawn kept s before
    → IsFalse (breaks_unselected before (sixel bits)) → IsFalse (breaks_undefined before (sixel bits))
    → IsFirstIfAny (FallsOutside before (sixel bits) (box_of s)) None → BreaksNoRule registers before (sixel bits)
unfolding breaks_raster_first breaks_raster_twice breaks_ratio breaks_box_size breaks_register breaks_colour_value
    breaks_repeat_zero breaks_redefined BreaksUncovered
sixel_keeps registers {s} {before} bits d selected defined first rule =
    keeps_none registers rule before (sixel bits) (record {
      raster_first = rw d.box refl;
      raster_twice = rw d.box refl;
      ratio = refl;
      box_size = refl;
      register = refl;
      colour_value = refl;
      repeat_zero = refl;
      unselected = selected;
      undefined = defined;
      redefined = refl;
      outside = not_outside s before (sixel bits) d first;
      uncovered = λ h. let ends : false ≡ true = h.0 in cc;
    }) refl

pub side : (n : ℕ) → IsTrue (is_side n) → n ≤ most_side
side n h = leb-true n most_side (and_parts (nat_le 1 n) (nat_le n most_side) h).1

-- a sixel inside the box, in a register that was painted in, breaks no rule
sixel_breaks_none : {registers : ℕ} {kept : ℕ → ℕ} {n : Notes} {s : Grid} {before : List Event} (bits : ℕ) {r : ℕ}
    → IsPaintedIn n r → Fits n 1 s → StandsUnbroken registers kept n (Some s) before
    → BreaksNoRule registers before (sixel bits)
unfolding breaks_unselected breaks_undefined
sixel_breaks_none {registers} {n} {s} {before} bits {r} known fits u =
    let e : Event = sixel bits in
    let a = u.notes_are in
    let d = u.grid_is in
    let is : known_before before ≡ Some r = sym (known_is a) ∙ known.known in
    let has_one : IsSome (definition_of before r) =
    painted_defined registers r before u.unbroken (sym (a.painted_is r known.low) ∙ known.painted) in
    let selected = ap (λ (o : Option ℕ). is_painting e && is_none o) is ∙ and-false (is_painting e) in
    let defined =
    ap (λ (o : Option ℕ). is_painting e && option_map_or (λ q. is_none (definition_of before q)) o false) is
    ∙ ap (λ (b : Bool). is_painting e && b) (has (definition_of before r) has_one) ∙ and-false (is_painting e) in
    let w : IsCapped n.column n.band (column 0 before) (band before) s.width s.height = record {
      column_is = a.column_is;
      band_is = a.band_is;
      narrow = omega (arith, side s.width d.width);
      low = omega (arith, side s.height d.height);
    } in
    let inside = inside_fits n.column n.band (column 0 before)
    (band before) s.width s.height 1 bits w fits.columns fits.rows in
    sixel_keeps registers bits d selected defined
    (falls_first before e (box_of s) None (none_outside (column 0 before) 1 (band before) bits s.width s.height inside))

set_there : (xs : List Bool) (k : ℕ) → get_or xs k false ≡ true → set xs k true ≡ xs
set_there [] k is = cc
set_there (x ∷ xs) zero is = ap (λ (b : Bool). b ∷ xs) (sym is)
set_there (x ∷ xs) (suc k) is = ap (λ (l : List Bool). x ∷ l) (set_there xs k is)

mark_stays : (xs : List Bool) (r : ℕ) (c : Bool) → get_or xs r false ≡ true → (if c then set xs r true else xs) ≡ xs
mark_stays xs r true is = set_there xs r is
mark_stays xs r false is = refl

marks_stay : {n : Notes} {r : ℕ} (b : Bool) → IsPaintedIn n r
    → (if b then marked n.painted (known_in n) else n.painted) ≡ n.painted
marks_stay false known = refl
marks_stay {n} {r} true known = ap (marked n.painted) known.known ∙ mark_stays n.painted r (nat_lt r 256) known.painted

late_stays : (early paints declared : Bool) → declared ≡ true → (early || (paints && not declared)) ≡ early
late_stays early paints declared is =
    ap (λ (b : Bool). early || (paints && not b)) is ∙ ap (λ (b : Bool). early || b) (and-false paints) ∙ or-false early

-- the notes after a sixel in a box that changes no mark
notes_sixel : {kept : ℕ → ℕ} {n : Notes} {s : Grid} {before : List Event} (bits : ℕ) → IsNotesAfter n before
    → IsDrawn kept s before → next_painted n (sixel bits) ≡ n.painted
    → IsNotesAfter (passed_by 1 n) (before ++ sixel bits ∷ [])
notes_sixel {n} {before} bits a d marks =
    let declared : n.declared ≡ true = a.declared_is ∙ ap is_some d.box in
    rw (marks, or-false n.declared, late_stays n.early (is_painting (sixel bits)) n.declared declared) at
    (notes_push n before (sixel bits) a)

-- the notes move by one column
sixel_by_notes : {kept : ℕ → ℕ} {n : Notes} {s : Grid} {before : List Event} (bits : ℕ) {r : ℕ} → IsPaintedIn n r
    → Fits n 1 s → IsNotesAfter n before → IsDrawn kept s before
    → IsNotesAfter (moved_by 1 n) (before ++ sixel bits ∷ [])
sixel_by_notes {n} {s} {before} bits known fits a d =
    let room = small s.width d.width in
    let columns = fits.columns in
    let moves : capped (n.column + 1) ≡ n.column + 1 = omega (arith, room, columns) in
    subst (λ (c : ℕ). IsNotesAfter (record n { column = c }) (before ++ sixel bits ∷ [])) moves
    (notes_sixel bits a d (marks_stay (is_painting (sixel bits)) known))

-- grids with the same pixels are drawn by the same events
drawn_same : {kept : ℕ → ℕ} {s : Grid} (t : Grid) {before : List Event} → t.width ≡ s.width → t.height ≡ s.height
    → length t.cells ≡ t.width * t.height → ((x y : ℕ) → x < s.width → y < s.height → cell t x y ≡ cell s x y)
    → IsDrawn kept s before → IsDrawn kept t before
drawn_same t wide high long same d = record {
  box = d.box ∙ ap₂ (λ (w h : ℕ). Some (record { pan = 1; pad = 1; width = w; height = h })) (sym wide) (sym high);
  width = rw wide d.width;
  height = rw high d.height;
  pixels = long;
  registers = λ x y inside_x inside_y. same x y (rw wide at inside_x) (rw high at inside_y)
      ∙ d.registers x y (rw wide at inside_x) (rw high at inside_y);
  covered = λ x y inside_x inside_y. ap is_some (same x y (rw wide at inside_x) (rw high at inside_y))
      ∙ d.covered x y (rw wide at inside_x) (rw high at inside_y);
}

-- the grid after one more column of a stretch
sixel_drawn : {registers : ℕ} {kept : ℕ → ℕ} {n : Notes} (s : Grid) {before : List Event} (f : ℕ → ℕ) (left line k : ℕ)
    {r : ℕ} → f k ≤ 63 → 0 < s.width → n.column ≡ left + k → n.band ≡ line → IsPaintedIn n r
    → Fits n 1 (stretched_grid s left line k f (kept r))
    → StandsUnbroken registers kept n (Some (stretched_grid s left line k f (kept r))) before → (b : Bool)
    → is_painting (sixel (f k)) ≡ b
    → IsDrawn kept (stretched_grid s left line (k + 1) f (kept r)) (before ++ sixel (f k) ∷ [])
sixel_drawn {registers} {kept} s {before} f left line k {r} few some at_column at_band known fits u true paints =
    let e : Event = sixel (f k) in
    let drawn = drawn_paint registers e r u.notes_are u.grid_is (sixel_breaks_none (f k) known fits u) few paints
    known.known in
    subst (λ (q : Grid). IsDrawn kept q (before ++ e ∷ [])) (stretched_more s left line k f (kept r) some)
    (rw (at_column, at_band) at drawn)
sixel_drawn {registers} {kept} s f left line k {r} few some at_column at_band known fits u false idle =
    let e : Event = sixel (f k) in
    let blank : f k % 64 ≡ 0 = eqb-true _ _ (not-false _ idle) in
    let none : f k ≡ 0 = omega arith in
    let wide = stretched_width s left line k f (kept r) in
    let high = stretched_height s left line k f (kept r) in
    drawn_same (stretched_grid s left line (k + 1) f (kept r))
    (stretched_width s left line (k + 1) f (kept r) ∙ sym wide)
    (stretched_height s left line (k + 1) f (kept r) ∙ sym high)
    (stretched_length s left line (k + 1) f (kept r)
    ∙ ap₂ (λ (w h : ℕ). w * h) (sym (stretched_width s left line (k + 1) f (kept r)))
    (sym (stretched_height s left line (k + 1) f (kept r))))
    (λ x y inside_x inside_y.
    stretched_blank s left line k f (kept r) x y none (rw wide at inside_x) (rw high at inside_y))
    (drawn_still e idle u.grid_is)

-- ---- k of them

sixels_more : (place at k : ℕ) (bytes : List ℕ) → at ≡ place + k → k < length bytes
    → sixels_from place (take k bytes) ++ record { place = at; event = Step (Sixel (get_or bytes k 0 - 63)) } ∷ []
    ≡ sixels_from place (take (suc k) bytes)
sixels_more place at k [] here lt = absurd (omega arith)
sixels_more place at zero (b ∷ bytes) here lt =
    ap (λ (n : ℕ). record { place = n; event = Step (Sixel (b - 63)) } ∷ []) (omega arith)
sixels_more place at (suc k) (b ∷ bytes) here lt =
    ap (λ (l : List Placed). record { place = place; event = Step (Sixel (b - 63)) } ∷ l)
    (sixels_more (place + 1) at k bytes (omega arith) (omega arith))

none_drawn : {kept : ℕ → ℕ} (n : Notes) {s : Grid} {before : List Event} (f : ℕ → ℕ) (r : ℕ) → IsDrawn kept s before
    → IsDrawn kept (stretched_grid s n.column n.band 0 f r) before
none_drawn n {s} f r d =
    let wide = stretched_width s n.column n.band 0 f r in
    let high = stretched_height s n.column n.band 0 f r in
    drawn_same (stretched_grid s n.column n.band 0 f r) wide high
    (stretched_length s n.column n.band 0 f r ∙ ap₂ (λ (w h : ℕ). w * h) (sym wide) (sym high))
    (λ x y inside_x inside_y. stretched_none s n.column n.band f r x y inside_x inside_y) d

few_bits : (b : ℕ) → is_data b ≡ true → b - 63 ≤ 63
few_bits b is =
    let parts = and_parts (nat_le 63 b) (nat_le b 126) is in
    omega (arith, leb-true b 126 parts.1)

-- the state after k sixels of a stretch
pub stretch_stands : {registers : ℕ} {kept : ℕ → ℕ} {n : Notes} {s : Grid} (seen : List Placed) (place : ℕ)
    {count r : ℕ} (bytes : List ℕ) → count ≤ length bytes
    → ((k : ℕ) → k < count → is_data (get_or bytes k 0) ≡ true) → IsPaintedIn n r
    → Fits n count s → StandsUnbroken registers kept n (Some s) (events_of seen) → (k : ℕ) → k ≤ count
    → StandsUnbroken registers kept (moved_by k n)
    (Some (stretched_grid s n.column n.band k (sixel_of bytes count) (kept r)))
    (events_of (seen ++ sixels_from place (take k bytes)))
stretch_stands {registers} {kept} {n} {s} seen place {count} {r} bytes long each known fits u zero le =
    let f : ℕ → ℕ = sixel_of bytes count in
    let still : n.column ≡ n.column + 0 = omega arith in
    subst (λ (l : List Placed). StandsUnbroken registers kept (moved_by 0 n)
    (Some (stretched_grid s n.column n.band 0 f (kept r))) (events_of l)) (sym (append-nil seen))
    (record {
      unbroken = u.unbroken;
      bytes = u.bytes;
      notes_are = subst (λ (c : ℕ). IsNotesAfter (record n { column = c }) (events_of seen)) still u.notes_are;
      grid_is = none_drawn n f (kept r) u.grid_is;
    })
stretch_stands {registers} {kept} {n} {s} seen place {count} {r} bytes long each known fits u (suc k) le =
    let f : ℕ → ℕ = sixel_of bytes count in
    let before = seen ++ sixels_from place (take k bytes) in
    let t : Grid = stretched_grid s n.column n.band k f (kept r) in
    let m : Notes = moved_by k n in
    let v = stretch_stands seen place bytes long each known fits u k (omega arith) in
    let bits : f k ≡ get_or bytes k 0 - 63 = cond-true _ _ _ (lt-ltb k count (omega arith)) in
    let p : Placed = record { place = place + k; event = Step (Sixel (f k)) } in
    let wide = stretched_width s n.column n.band k f (kept r) in
    let high = stretched_height s n.column n.band k f (kept r) in
    let painted : IsPaintedIn m r =
    record { known = known.known; low = known.low; painted = known.painted } in
    let columns = fits.columns in
    let rows = fits.rows in
    let one : Fits m 1 t = record { columns = omega (arith, wide, columns); rows = omega (arith, high, rows) } in
    let some : 0 < s.width = omega (arith, columns) in
    let few : f k ≤ 63 = omega (arith, bits, few_bits (get_or bytes k 0) (each k (omega arith))) in
    let after = judge_goes_on (Some (stretched_grid s n.column n.band (k + 1) f (kept r))) before p v
    (sixel_breaks_none (f k) painted one v) (sixel_by_notes (f k) painted one v.notes_are v.grid_is)
    (sixel_drawn s f n.column n.band k few some refl refl painted one v _ refl) in
    let events : before ++ p ∷ [] ≡ seen ++ sixels_from place (take (suc k) bytes) =
    append_assoc seen (sixels_from place (take k bytes)) (p ∷ []) ∙ ap (λ (l : List Placed). seen ++ l)
    (ap (λ (b : ℕ). sixels_from place (take k bytes) ++ record { place = place + k; event = Step (Sixel b) } ∷ []) bits
    ∙ sixels_more place (place + k) k bytes refl (omega arith)) in
    let column : n.column + k + 1 ≡ n.column + suc k = omega arith in
    let next : k + 1 ≡ suc k = omega arith in
    subst (λ (l : List Placed). StandsUnbroken registers kept (moved_by (suc k) n)
    (Some (stretched_grid s n.column n.band (suc k) f (kept r))) (events_of l)) events
    (subst (λ (c : ℕ). StandsUnbroken registers kept (record n { column = c })
    (Some (stretched_grid s n.column n.band (suc k) f (kept r))) (events_of (before ++ p ∷ []))) column
    (subst (λ (j : ℕ). StandsUnbroken registers kept (moved_by 1 m)
    (Some (stretched_grid s n.column n.band j f (kept r))) (events_of (before ++ p ∷ []))) next after))

-- ---- sixels without a set bit, wherever they lie

-- one breaks no rule
blank_breaks_none : (registers : ℕ) {kept : ℕ → ℕ} {s : Grid} {before : List Event} → IsDrawn kept s before
    → BreaksNoRule registers before (sixel 0)
unfolding breaks_unselected breaks_undefined
blank_breaks_none registers {s} {before} d =
    sixel_keeps registers 0 d refl refl
    (falls_first before (sixel 0) (box_of s) None
    (none_outside (column 0 before) 1 (band before) 0 s.width s.height
    (no_bits_fit (column 0 before) 1 (band before) 0 s.width s.height refl)))

-- the bits of a byte
blank_bits : (b : ℕ) → b ≡ blank_byte → b - 63 ≡ 0
blank_bits b is = omega arith

-- the state after k sixels of a stretch of them
pub passed_stands : {registers : ℕ} {kept : ℕ → ℕ} (n : Notes) (s : Grid) (seen : List Placed) (place count : ℕ)
    (bytes : List ℕ) → count ≤ length bytes → AreBlank bytes count
    → StandsUnbroken registers kept n (Some s) (events_of seen) → (k : ℕ) → k ≤ count
    → StandsUnbroken registers kept (passed_by k n) (Some s) (events_of (seen ++ sixels_from place (take k bytes)))
passed_stands {registers} {kept} n s seen place count bytes long blank u zero le =
    let at = u.notes_are.column_is in
    let still : n.column ≡ capped (n.column + 0) = omega (arith, at) in
    subst (λ (l : List Placed). StandsUnbroken registers kept (passed_by 0 n) (Some s) (events_of l))
    (sym (append-nil seen))
    (subst (λ (c : ℕ). StandsUnbroken registers kept (record n { column = c }) (Some s) (events_of seen)) still u)
passed_stands {registers} {kept} n s seen place count bytes long blank u (suc k) le =
    let before = seen ++ sixels_from place (take k bytes) in
    let v = passed_stands n s seen place count bytes long blank u k (omega arith) in
    let none = blank_breaks_none _ v.grid_is in
    let p : Placed = record { place = place + k; event = Step (Sixel 0) } in
    let after = judge_goes_on (Some s) before p v none (notes_sixel 0 v.notes_are v.grid_is refl)
    (drawn_still (sixel 0) refl v.grid_is) in
    let bits : 0 ≡ get_or bytes k 0 - 63 = sym (blank_bits (get_or bytes k 0) (blank k (omega arith))) in
    let events : before ++ p ∷ [] ≡ seen ++ sixels_from place (take (suc k) bytes) =
    append_assoc seen (sixels_from place (take k bytes)) (p ∷ []) ∙ ap (λ (l : List Placed). seen ++ l)
    (ap (λ (b : ℕ). sixels_from place (take k bytes) ++ record { place = place + k; event = Step (Sixel b) } ∷ []) bits
    ∙ sixels_more place (place + k) k bytes refl (omega arith)) in
    let column : capped (capped (n.column + k) + 1) ≡ capped (n.column + suc k) = omega arith in
    subst (λ (l : List Placed). StandsUnbroken registers kept (passed_by (suc k) n) (Some s) (events_of l)) events
    (subst (λ (c : ℕ). StandsUnbroken registers kept (record n { column = c }) (Some s) (events_of (before ++ p ∷ [])))
    column after)

-- ---- after a broken rule

pub broken_stays : {registers : ℕ} (seen more : List Placed) (f : Finding) → (i : ℕ) × IsFinding registers seen f i
    → (i : ℕ) × IsFinding registers (seen ++ more) f i
broken_stays {registers} seen [] f found =
    subst (λ (l : List Placed). (i : ℕ) × IsFinding registers l f i) (sym (append-nil seen)) found
broken_stays {registers} seen (p ∷ more) f found =
    subst (λ (l : List Placed). (i : ℕ) × IsFinding registers l f i) (append_assoc seen (p ∷ []) more)
    (broken_stays (seen ++ p ∷ []) more f (judge_broken seen p f found))

-- ---- the shape of the events

-- the last event was a start or a command, and each event is spellable
pub record IsBegun (progress : Progress) (seen : List Placed) : Type 0 where
  pub progress_is : progress ≡ progress_of seen
  pub prefix : ArePrefix (events_of seen)
  pub spellable : AllByRecursion IsSpellable (events_of seen)
  pub may_step : MayStep seen

begun_now : (seen : List Placed) (c : Command) → MayStep seen → progress_of seen ≡ Begun
begun_now [] c may = absurd (let h = may c in cc)
begun_now (q ∷ qs) c may =
    let parts = and_parts (not (is_whole (q ∷ qs))) (not (is_start (Step c))) (may c) in
    ap (λ (b : Bool). if b then Whole else Begun) (not-true (is_whole (q ∷ qs)) parts.0)

begun_on : {progress : Progress} {seen : List Placed} (p : Placed) (c : Command) → p.event ≡ Step c
    → IsSpellable p.event → IsBegun progress seen → IsBegun progress (seen ++ p ∷ [])
begun_on {seen} p c is spellable b =
    let may : IsTrue (expects seen p.event) = ap (λ (e : Event). expects seen e) is ∙ b.may_step c in
    record {
      progress_is = b.progress_is ∙ begun_now seen c b.may_step ∙ sym (progress_push seen p may ∙ ap progress_with is);
      prefix = subst ArePrefix (sym (events_push seen p)) (prefix_next seen p b.prefix may);
      spellable = subst (AllByRecursion IsSpellable) (sym (events_push seen p))
          (all-append IsSpellable (events_of seen) (p.event ∷ []) b.spellable (spellable, tt));
      may_step = may_step_then seen p c is b.may_step;
    }

pub begun_stretch : {progress : Progress} {seen : List Placed} (place : ℕ) (prefix : List ℕ)
    → ((k : ℕ) → k < length prefix → is_data (get_or prefix k 0) ≡ true) → IsBegun progress seen
    → IsBegun progress (seen ++ sixels_from place prefix)
begun_stretch {progress} {seen} place [] each b = subst (IsBegun progress) (sym (append-nil seen)) b
begun_stretch {progress} {seen} place (x ∷ prefix) each b =
    let p : Placed = record { place = place; event = Step (Sixel (x - 63)) } in
    subst (IsBegun progress) (append_assoc seen (p ∷ []) (sixels_from (place + 1) prefix))
    (begun_stretch {seen = seen ++ p ∷ []} (place + 1) prefix (λ k lt. each (suc k) (omega arith))
    (begun_on p (Sixel (x - 63)) refl (few_bits x (each 0 (omega arith))) b))

-- ---- what a checker has seen

pub begun_of : (registers : ℕ) (checker : CheckerValue) (seen : List Placed) → MayStep seen
    → StandsAfter registers checker seen → IsBegun checker.progress seen
unfolding StandsAfter
begun_of registers checker seen may s = record {
  progress_is = s.2;
  prefix = s.3;
  spellable = s.4;
  may_step = may;
}

stands_begun : (registers : ℕ) (checker : CheckerValue) (seen : List Placed) → count_of checker.profile ≡ registers
    → JudgesAfter (kept_by checker.keeps) checker.profile checker.finding checker.notes checker.grid seen
    → IsBegun checker.progress seen → StandsAfter registers checker seen
unfolding StandsAfter
stands_begun registers checker seen are judges b = (are, judges, b.progress_is, b.prefix, b.spellable)

judges_then : (kept : ℕ → ℕ) (profile : Profile) (place count : ℕ) (bytes : List ℕ) (o : Option Finding)
    (n next : Notes) (grid drawn : Option Grid) (seen : List Placed) → count ≤ length bytes
    → ((k : ℕ) → k < count → is_data (get_or bytes k 0) ≡ true) → (IsSome o → (next ≡ n) × (drawn ≡ grid))
    → (o ≡ None → IsStretchedIn kept bytes count n grid next drawn) → JudgesAfter kept profile o n grid seen
    → JudgesAfter kept profile o next drawn (seen ++ sixels_from place (take count bytes))
judges_then kept profile place count bytes (Some f) n next grid drawn seen long each broken taken j =
    broken_stays seen (sixels_from place (take count bytes)) f j
judges_then kept profile place count bytes None n next None drawn seen long each broken taken j = absurd (taken refl)
judges_then kept profile place count bytes None n next (Some s) None seen long each broken taken j = absurd (taken refl)
judges_then kept profile place count bytes None n next (Some s) (Some drawn) seen long each broken taken j =
    elim (taken refl) [
      | inl is ↦
          rw (is.next_is, is.drawn_is)
          (stretch_stands seen place bytes long each is.painted_in is.fits j count (omega arith))
      | inr is ↦
          rw (is.next_is, is.drawn_is) (passed_stands n s seen place count bytes long is.blank j count (omega arith))
    ]

-- after a stretch of sixels
pub stretch_taken : (registers place count : ℕ) (bytes : List ℕ) (old new : CheckerValue) (seen : List Placed)
    → count ≤ length bytes → ((k : ℕ) → k < count → is_data (get_or bytes k 0) ≡ true) → MayStep seen
    → new.keeps ≡ old.keeps → new.profile ≡ old.profile → new.finding ≡ old.finding → new.progress ≡ old.progress
    → (IsSome old.finding → (new.notes ≡ old.notes) × (new.grid ≡ old.grid))
    → (old.finding ≡ None → IsStretchedIn (kept_by old.keeps) bytes count old.notes old.grid new.notes new.grid)
    → StandsAfter registers old seen → StandsAfter registers new (seen ++ sixels_from place (take count bytes))
unfolding StandsAfter
stretch_taken registers place count bytes old new seen long each may kept profile finding progress broken taken s =
    let judges = judges_then (kept_by old.keeps) old.profile place count bytes old.finding old.notes new.notes old.grid
    new.grid seen long each broken taken s.1 in
    let short = length-take-le count bytes long in
    let begun = begun_stretch place (take count bytes)
    (λ k lt. ap is_data (get_or-take count bytes k 0 (omega (arith, short))) ∙ each k (omega (arith, short)))
    (begun_of registers old seen may s) in
    stands_begun registers new (seen ++ sixels_from place (take count bytes)) (ap count_of profile ∙ s.0)
    (rw (kept, profile, finding) judges) (rw progress begun)

-- a prefix of a stretch, and the sixel after it
pub begun_take : {progress : Progress} {seen : List Placed} (place k : ℕ) (stretch : List ℕ) → k ≤ length stretch
    → ((j : ℕ) → j < length stretch → is_data (get_or stretch j 0) ≡ true) → IsBegun progress seen
    → IsBegun progress (seen ++ sixels_from place (take k stretch))
begun_take place k stretch le each b =
    let short = length-take-le k stretch le in
    begun_stretch place (take k stretch)
    (λ j lt. ap is_data (get_or-take k stretch j 0 (omega (arith, short))) ∙ each j (omega (arith, short))) b

pub sixels_then : (seen : List Placed) (place k : ℕ) (stretch : List ℕ) → k < length stretch
    → (seen ++ sixels_from place (take k stretch))
    ++ record { place = place + k; event = Step (Sixel (get_or stretch k 0 - 63)) } ∷ []
    ≡ seen ++ sixels_from place (take (k + 1) stretch)
sixels_then seen place k stretch lt =
    let next : suc k ≡ k + 1 = omega arith in
    append_assoc seen (sixels_from place (take k stretch)) _
    ∙ ap (λ (l : List Placed). seen ++ l)
    (sixels_more place (place + k) k stretch refl lt
    ∙ ap (λ (n : ℕ). sixels_from place (take n stretch)) next)
