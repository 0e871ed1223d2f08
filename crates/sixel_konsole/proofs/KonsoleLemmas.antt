-- The automaton of konsole, event by event.
use Rattle.std.proofs.Common.{◌≡◌, ◌==◌, ◌&&◌, ◌||◌, ℕ, Bool, true, false, cond, not, Option, Some, None, List, []}
use Rattle.std.proofs.Common.{◌∷◌, ◌++◌, refl, sym, ap, ap₂, ◌∙◌, arith, ◌-◌, ◌<◌, length, subst, append-nil}
use Rattle.std.proofs.Common.{append_assoc}
use Rattle.std.specs.Prelude.{is_none, is_some, if◌then◌else◌}
use Rattle.std.specs.List.{list_any}
use Rattle.std.specs.Option.{option_map, option_or}
use Rattle.std.proofs.lemmas.List.Folds.{list_any-append}
use Rattle.sixel_grammar.specs.declared.command.Command.TheVariants.{Sixel, Repeat, Raster, Select, Define}
use Rattle.sixel_grammar.specs.declared.command.Command.TheVariants.{CarriageReturn, NextLine}
use Rattle.sixel_grammar.specs.declared.command.Event.{Event}
use Rattle.sixel_grammar.specs.declared.command.Event.TheVariants.{Start, Step, Finish}
use Rattle.sixel_model.specs.Events.{Attributes, is_data_command, is_return, named_by, raster_of}
use Rattle.sixel_model.specs.Positions.{any_below, since}
use Rattle.sixel_model.proofs.PositionLemmas.{option_or_none, since_push}
use Rattle.sixel_konsole.specs.declared.konsole.Konsole.{Konsole}
use Rattle.sixel_konsole.specs.declared.konsole.Stated.{Stated}
use Rattle.sixel_konsole.specs.Konsole.{any_followed, begins, counting, first_below, first_followed, has_begun, has_width}
use Rattle.sixel_konsole.specs.Konsole.{has_late, has_unknown_system, is_late, is_stuck, konsole, konsole_data}
use Rattle.sixel_konsole.specs.Konsole.{StaysLow, konsole_move, konsole_tall}
use Rattle.sixel_terminal.specs.Stretches.{sixels_of}
use Rattle.sixel_emulator.specs.declared.reading.Reads.TheVariants.{Nothing}
use Rattle.sixel_emulator.specs.Readings.{AreCut, ArePlain, IsCut}
use Rattle.sixel_emulator.proofs.CutLemmas.{none_at_all}
use Rattle.sixel_emulator.proofs.PlainLemmas.{first_before, same_over}
use Rattle.sixel_konsole.specs.Konsole.{may_count, moves_or_ends}
use Rattle.sixel_konsole.specs.KonsoleSeen.{HasSeenKonsole, begun_in, counting_in, konsole_in, may_count_in, next_begun}
use Rattle.sixel_konsole.specs.KonsoleSeen.{is_settled, keeps_settled, next_declares, next_late, next_stuck, said}
use Rattle.sixel_konsole.specs.KonsoleSeen.{selects_or_paints}
use Rattle.sixel_konsole.proofs.FollowedLemmas.{any_followed_push, first_followed_push}

none_either : {A : Type 0} (b : Bool) → ◌≡◌ {A = Option A} None (if b then None else None)
none_either true = refl
none_either false = refl

-- ---- before any event

pub seen_none : HasSeenKonsole (record {
  stuck = false;
  has_late = false;
  begun = false;
  declares = false;
  counting = None;
  waiting = None;
  settled = false;
}) []
unfolding is_stuck since has_late has_begun any_followed any_below counting first_followed first_below
seen_none = record {
  stuck_is = refl;
  late_is = refl;
  begun_is = λ next. refl;
  counting_is = λ next. none_either (moves_or_ends next);
  settled_is = λ is. absurd cc;
}

-- ---- one more event

or_false : (b : Bool) → (b || false) ≡ b
or_false true = refl
or_false false = refl

any_push : (p : Event → Bool) (ys : List Event) (x : Event) → list_any p (ys ++ x ∷ []) ≡ (list_any p ys || p x)
any_push p ys x = list_any-append p ys (x ∷ []) ∙ ap (λ b. list_any p ys || b) (or_false (p x))

any_since : (p : Event → Bool) (b : Bool) (ys : List Event) (x : Event)
    → list_any p (cond b [] (ys ++ x ∷ [])) ≡ (not b && (list_any p ys || p x))
any_since p true ys x = refl
any_since p false ys x = any_push p ys x

stuck_push : (before : List Event) (e : Event)
    → is_stuck (before ++ e ∷ []) ≡ (not (is_return e) && (is_stuck before || has_unknown_system e))
unfolding is_stuck
stuck_push before e =
    ap (list_any has_unknown_system) (since_push is_return before e)
    ∙ any_since has_unknown_system (is_return e) (since is_return before) e

late_push : (before : List Event) (e : Event) → has_late (before ++ e ∷ []) ≡ (has_late before || is_late e)
unfolding has_late
late_push before e = any_push is_late before e

begun_push : (before : List Event) (e : Event) (next : Option Event)
    → has_begun (before ++ e ∷ []) next ≡ (begins before e next || has_begun before (Some e))
unfolding has_begun
begun_push before e next = any_followed_push begins before e next

counting_push : (before : List Event) (e : Event) (next : Option Event)
    → counting (before ++ e ∷ []) next ≡ option_or (counting before (Some e)) (may_count before e next)
unfolding counting
counting_push before e next = first_followed_push may_count before e next

regrouped : (begun named raster painted stuck dropped : Bool)
    → (((named || (raster && not (dropped || stuck))) || (painted && not stuck)) || begun)
    ≡ ((begun || (named || (painted && not stuck))) || ((raster && not stuck) && not dropped))
regrouped begun named raster painted stuck dropped = grind arith

some_unless : {A : Type 0} (b : Bool) (a : A) → is_some (if b then None else Some a) ≡ not b
some_unless true a = refl
some_unless false a = refl

unless_either : {A : Type 0} (w m l : Bool) (a : A)
    → (if w || (m || l) then None else Some a) ≡ (if m then None else if w || l then None else Some a)
unless_either true true l a = refl
unless_either true false l a = refl
unless_either false true l a = refl
unless_either false false l a = refl

-- what may count, if the event after it is told
may_count_is : {k : Konsole} {before : List Event} (e : Event) (next : Option Event) → HasSeenKonsole k before
    → may_count before e next ≡ (if moves_or_ends next then None else may_count_in k e)
may_count_is {k} {before} (Step (Raster pan pad width height)) next s =
    rw s.late_is (unless_either (width == 0) (moves_or_ends next) (has_late before)
    (record { pan = pan; pad = pad; width = width; height = height }))
may_count_is _ next s = none_either (moves_or_ends next)

pub seen_push : {k : Konsole} (l : Konsole) {before : List Event} (e : Event) → HasSeenKonsole k before
    → l.stuck ≡ next_stuck k e → l.has_late ≡ next_late k e → l.begun ≡ next_begun k e
    → l.declares ≡ next_declares k e → option_map said l.counting ≡ counting_in k (moves_or_ends (Some e))
    → option_map said l.waiting ≡ may_count_in k e → (l.settled ≡ true → is_settled l ≡ true)
    → HasSeenKonsole l (before ++ e ∷ [])
seen_push {k} l {before} e s stuck late begun declares counted waiting settled = record {
  stuck_is =
      stuck ∙ ap (λ b. not (is_return e) && (b || has_unknown_system e)) s.stuck_is ∙ sym (stuck_push before e);
  late_is = late ∙ ap (λ b. b || is_late e) s.late_is ∙ sym (late_push before e);
  begun_is = λ next. begun_push before e next
      ∙ ap₂ (λ a b. ((is_some (named_by e) || (has_width e && not (moves_or_ends next || a)))
      || (is_data_command e && not a)) || b) (sym s.stuck_is) (s.begun_is (Some e))
      ∙ regrouped (begun_in k (moves_or_ends (Some e))) (is_some (named_by e)) (has_width e)
      (is_data_command e) k.stuck (moves_or_ends next)
      ∙ ap₂ (λ a b. a || (b && not (moves_or_ends next))) (sym begun) (sym declares);
  counting_is = λ next. counting_push before e next
      ∙ ap₂ (λ (a b : Option Attributes). option_or a b) (s.counting_is (Some e)) (may_count_is e next s)
      ∙ ap₂ (λ (a b : Option Attributes). option_or a (if moves_or_ends next then None else b)) (sym counted)
      (sym waiting);
  settled_is = settled;
}

-- ---- what it makes of an event

raster_is : {k : Konsole} {before : List Event} (pan pad width height : ℕ) (next : Option Event)
    → HasSeenKonsole k before
    → konsole_in k (moves_or_ends next) (Step (Raster pan pad width height))
    ≡ konsole before (Step (Raster pan pad width height)) next
raster_is {k} {before} pan pad width height next s =
    let a : Attributes = record { pan = pan; pad = pad; width = width; height = height } in
    let e : Event = Step (Raster pan pad width height) in
    let may : is_some (may_count before e next) ≡ not ((width == 0) || (moves_or_ends next || has_late before)) =
    some_unless ((width == 0) || (moves_or_ends next || has_late before)) a in
    let none : is_none (counting before (Some e)) ≡ is_none (counting_in k false) =
    ap is_none (s.counting_is (Some e)) in
    rw (may, none, s.stuck_is, s.late_is) refl

pub konsole_is : {k : Konsole} {before : List Event} (e : Event) (next : Option Event) → HasSeenKonsole k before
    → konsole_in k (moves_or_ends next) e ≡ konsole before e next
konsole_is (Start eight parameters) next s = refl
konsole_is (Step (Raster pan pad width height)) next s = raster_is pan pad width height next s
konsole_is (Step (Define register system x y z)) next s = rw s.stuck_is refl
konsole_is (Step (Select register)) next s = rw s.stuck_is refl
konsole_is (Step (Sixel bits)) next s = rw s.stuck_is refl
konsole_is (Step (Repeat count bits)) next s = rw s.stuck_is refl
konsole_is (Step CarriageReturn) next s =
    ap (λ b. konsole_move b CarriageReturn) (sym (s.begun_is (Some (Step CarriageReturn))))
konsole_is (Step NextLine) next s = ap (λ b. konsole_move b NextLine) (sym (s.begun_is (Some (Step NextLine))))
konsole_is (Finish eight) next s = refl

-- ---- sixels

or_true : (b : Bool) → true ≡ (b || true)
or_true true = refl
or_true false = refl

begun_stays : (y n : Bool) → (y || n) ≡ (((y || n) || (false && true)) || n)
begun_stays true n = refl
begun_stays false true = refl
begun_stays false false = refl

none_more : {A : Type 0} (o : Option A) → o ≡ option_or o None
none_more None = refl
none_more (Some a) = refl

-- what is noted of one sixel or more
pub record IsPast (k l : Konsole) : Type 0 where
  pub stuck_is : l.stuck ≡ k.stuck
  pub late_is : l.has_late ≡ true
  pub begun_is : l.begun ≡ (begun_in k false || not k.stuck)
  pub declares_is : l.declares ≡ false
  pub counting_is : option_map said l.counting ≡ counting_in k false
  pub waiting_is : l.waiting ≡ None
  pub settled_is : l.settled ≡ true → is_settled l ≡ true

one_over : {k l : Konsole} {before : List Event} (bits : ℕ) → IsPast k l → HasSeenKonsole k before
    → HasSeenKonsole l (before ++ Step (Sixel bits) ∷ [])
one_over {k} {l} bits past s =
    seen_push l (Step (Sixel bits)) s (past.stuck_is ∙ sym (or_false k.stuck)) (past.late_is ∙ or_true k.has_late)
    past.begun_is past.declares_is past.counting_is (ap (option_map said) past.waiting_is) past.settled_is

past_itself : {k l : Konsole} → IsPast k l → IsPast l l
past_itself {k} {l} past = record {
  stuck_is = refl;
  late_is = past.late_is;
  begun_is =
      past.begun_is ∙ begun_stays (begun_in k false) (not k.stuck)
      ∙ rw (past.declares_is, past.begun_is, past.stuck_is) refl;
  declares_is = past.declares_is;
  counting_is = none_more (option_map said l.counting) ∙ rw past.waiting_is refl;
  waiting_is = past.waiting_is;
  settled_is = past.settled_is;
}

all_over : {l : Konsole} (before : List Event) (bytes : List ℕ) → IsPast l l → HasSeenKonsole l before
    → HasSeenKonsole l (before ++ sixels_of bytes)
all_over {l} before [] past s = subst (HasSeenKonsole l) (sym (append-nil before)) s
all_over {l} before (b ∷ bs) past s =
    subst (HasSeenKonsole l) (sym (first_before before b bs))
    (all_over (before ++ Step (Sixel (b - 63)) ∷ []) bs past (one_over (b - 63) past s))

pub konsole_over : {k l : Konsole} (before : List Event) (bytes : List ℕ) → 0 < length bytes → IsPast k l
    → HasSeenKonsole k before → HasSeenKonsole l (before ++ sixels_of bytes)
konsole_over before [] some past s = absurd (omega (arith, some))
konsole_over {k} {l} before (b ∷ bs) some past s =
    subst (HasSeenKonsole l) (sym (first_before before b bs))
    (all_over (before ++ Step (Sixel (b - 63)) ∷ []) bs (past_itself past) (one_over (b - 63) past s))

-- ---- a select or a data command that changes nothing

all_four : (a b c d : Bool) → (((a && b) && not c) && d) ≡ true → (a ≡ true) × (b ≡ true) × (c ≡ false) × (d ≡ true)
all_four true true false true h = (refl, refl, refl, refl)
all_four true true false false h = absurd cc
all_four true true true d h = absurd cc
all_four true false c d h = absurd cc
all_four false b c d h = absurd cc

none_of : {A : Type 0} (o : Option A) → is_none o ≡ true → o ≡ None
none_of None h = refl
none_of (Some a) h = absurd cc

settled_begun : (k : Konsole) → is_settled k ≡ true → k.begun ≡ true
settled_begun k h = (all_four k.has_late k.begun k.declares (is_none k.waiting) h).1

settled_past : (k : Konsole) → is_settled k ≡ true → IsPast k k
settled_past k h =
    let f = all_four k.has_late k.begun k.declares (is_none k.waiting) h in
    let none : k.waiting ≡ None = none_of k.waiting f.3 in
    record {
      stuck_is = refl;
      late_is = f.0;
      begun_is = f.1 ∙ ap (λ (b : Bool). (b || (k.declares && not false)) || not k.stuck) (sym f.1);
      declares_is = f.2;
      counting_is = none_more (option_map said k.counting)
          ∙ ap (λ (w : Option Stated). option_or (option_map said k.counting) (option_map said w)) (sym none);
      waiting_is = none;
      settled_is = λ is. h;
    }

pub settled_over : {k : Konsole} (before : List Event) (bytes : List ℕ) → k.settled ≡ true → HasSeenKonsole k before
    → HasSeenKonsole k (before ++ sixels_of bytes)
settled_over {k} before bytes is s = all_over before bytes (settled_past k (s.settled_is is)) s

settled_push : {k : Konsole} (before : List Event) (e : Event) → is_settled k ≡ true → selects_or_paints e ≡ true
    → HasSeenKonsole k before → HasSeenKonsole k (before ++ e ∷ [])
settled_push {k} before (Step (Sixel bits)) settled is s = one_over bits (settled_past k settled) s
settled_push {k} before (Step (Repeat count bits)) settled is s =
    let past = settled_past k settled in
    seen_push k (Step (Repeat count bits)) s (past.stuck_is ∙ sym (or_false k.stuck)) (past.late_is ∙ or_true k.has_late)
    past.begun_is past.declares_is past.counting_is (ap (option_map said) past.waiting_is) past.settled_is
settled_push {k} before (Step (Select register)) settled is s =
    let past = settled_past k settled in
    seen_push k (Step (Select register)) s (past.stuck_is ∙ sym (or_false k.stuck)) (past.late_is ∙ or_true k.has_late)
    (settled_begun k settled ∙ or_true (begun_in k false)) past.declares_is past.counting_is
    (ap (option_map said) past.waiting_is) past.settled_is
settled_push before (Step (Raster pan pad width height)) settled is s = absurd cc
settled_push before (Step (Define register system x y z)) settled is s = absurd cc
settled_push before (Step CarriageReturn) settled is s = absurd cc
settled_push before (Step NextLine) settled is s = absurd cc
settled_push before (Start eight parameters) settled is s = absurd cc
settled_push before (Finish eight) settled is s = absurd cc

-- a return or a new line where nothing is dropped
still_begun : (k : Konsole) → k.begun ≡ true
    → k.begun ≡ ((k.begun || (k.declares && false)) || (false || (false && not k.stuck)))
still_begun k begun =
    begun ∙ ap (λ (b : Bool). (b || (k.declares && false)) || (false || (false && not k.stuck))) (sym begun)

margin_push : {k : Konsole} (before : List Event) (e : Event) → is_settled k ≡ true → is_return e ≡ true
    → k.stuck ≡ false → HasSeenKonsole k before → HasSeenKonsole k (before ++ e ∷ [])
margin_push {k} before (Step CarriageReturn) settled goes free s =
    let past = settled_past k settled in
    seen_push k (Step CarriageReturn) s free (sym (or_false k.has_late)) (still_begun k (settled_begun k settled))
    past.declares_is (none_more (option_map said k.counting)) (ap (option_map said) past.waiting_is) past.settled_is
margin_push {k} before (Step NextLine) settled goes free s =
    let past = settled_past k settled in
    seen_push k (Step NextLine) s free (sym (or_false k.has_late)) (still_begun k (settled_begun k settled))
    past.declares_is (none_more (option_map said k.counting)) (ap (option_map said) past.waiting_is) past.settled_is
margin_push before (Step (Sixel bits)) settled goes free s = absurd cc
margin_push before (Step (Repeat count bits)) settled goes free s = absurd cc
margin_push before (Step (Raster pan pad width height)) settled goes free s = absurd cc
margin_push before (Step (Select register)) settled goes free s = absurd cc
margin_push before (Step (Define register system x y z)) settled goes free s = absurd cc
margin_push before (Start eight parameters) settled goes free s = absurd cc
margin_push before (Finish eight) settled goes free s = absurd cc

not_true : (x : Bool) → not x ≡ true → x ≡ false
not_true true is = absurd cc
not_true false is = refl

keeps_push : {k : Konsole} (before : List Event) (e : Event) (a b : Bool) → selects_or_paints e ≡ a
    → is_return e ≡ b → (a || (b && not k.stuck)) ≡ true → is_settled k ≡ true → HasSeenKonsole k before
    → HasSeenKonsole k (before ++ e ∷ [])
keeps_push before e true b selects goes keeps settled s = settled_push before e settled selects s
keeps_push {k} before e false true selects goes keeps settled s =
    margin_push before e settled goes (not_true k.stuck keeps) s
keeps_push before e false false selects goes keeps settled s = absurd cc

and_both : (a b : Bool) → (a && b) ≡ true → (a ≡ true) × (b ≡ true)
and_both true true h = (refl, refl)
and_both true false h = absurd cc
and_both false b h = absurd cc

pub stays_push : {k : Konsole} (before : List Event) (e : Event) → (k.settled && keeps_settled k e) ≡ true
    → HasSeenKonsole k before → HasSeenKonsole k (before ++ e ∷ [])
stays_push {k} before e h s =
    let both = and_both k.settled (keeps_settled k e) h in
    keeps_push before e (selects_or_paints e) (is_return e) refl refl both.1 (s.settled_is both.0) s

-- ---- whether all is dropped, and what is drawn

pub stuck_over : (before : List Event) (bytes : List ℕ) → is_stuck (before ++ sixels_of bytes) ≡ is_stuck before
stuck_over before bytes =
    same_over is_stuck (λ es bits. stuck_push es (Step (Sixel bits)) ∙ or_false (is_stuck es)) before bytes

pub konsole_plain : (before : List Event) (n : ℕ) → is_stuck before ≡ false → ArePlain konsole before n
konsole_plain before n free = λ earlier lt bits next.
    ap (λ (b : Bool). konsole_data b (Sixel bits)) (stuck_over before earlier ∙ free)

-- ---- the height of a sixel pixel, after a select, a definition or a data command

counts_no_more : (w m : Bool) (a : Attributes) → (if w || (m || true) then None else Some a) ≡ None
counts_no_more true m a = refl
counts_no_more false true a = refl
counts_no_more false false a = refl

-- no raster attributes count any more
late_counts_none : (before : List Event) (e : Event) (next : Option Event) → has_late before ≡ true
    → may_count before e next ≡ None
late_counts_none before (Step (Raster pan pad width height)) next late =
    rw late (counts_no_more (width == 0) (moves_or_ends next)
    (record { pan = pan; pad = pad; width = width; height = height }))
late_counts_none before _ next late = refl

counting_stays : (before more : List Event) (c : Option Attributes) → has_late before ≡ true
    → ((next : Option Event) → counting before next ≡ c) → (next : Option Event) → counting (before ++ more) next ≡ c
counting_stays before [] c late same next =
    ap (λ (es : List Event). counting es next) (append-nil before) ∙ same next
counting_stays before (e ∷ more) c late same next =
    let pushed : (n : Option Event) → counting (before ++ e ∷ []) n ≡ c = λ n. counting_push before e n
    ∙ ap₂ (λ (a b : Option Attributes). option_or a b) (same (Some e)) (late_counts_none before e n late)
    ∙ option_or_none c in
    ap (λ (es : List Event). counting es next) (sym (append_assoc before (e ∷ []) more))
    ∙ counting_stays (before ++ e ∷ []) more c (late_push before e ∙ ap (λ b. b || is_late e) late) pushed next

none_waits : (c : Option Attributes) (b : Bool)
    → option_or c (if b then None else option_map said None) ≡ option_or c (option_map said None)
none_waits c true = refl
none_waits c false = refl

pub low_stays : {k : Konsole} {before : List Event} → HasSeenKonsole k before → k.has_late ≡ true
    → k.waiting ≡ None → konsole_tall (counting_in k false) ≡ 1 → StaysLow before
low_stays {k} {before} s late waiting low =
    let c = option_map said k.counting in
    let same : (next : Option Event) → counting before next ≡ counting_in k false = λ next. s.counting_is next
    ∙ ap (λ (w : Option Stated). option_or c (if moves_or_ends next then None else option_map said w)) waiting
    ∙ none_waits c (moves_or_ends next)
    ∙ ap (λ (w : Option Stated). option_or c (option_map said w)) (sym waiting) in
    λ later. ap konsole_tall
    (counting_stays before later (counting_in k false) (sym s.late_is ∙ late) same None) ∙ low

-- so it is with more events
pub low_more : (events more : List Event) → StaysLow events → StaysLow (events ++ more)
low_more events more low = λ later.
    ap (λ (es : List Event). konsole_tall (counting es None)) (append_assoc events more later) ∙ low (more ++ later)

-- ---- the event after one makes no difference

pub konsole_alone : (before : List Event) (e : Event) (next : Option Event)
    → is_some (named_by e) ≡ false → is_some (raster_of e) ≡ false → konsole before e next ≡ konsole before e None
konsole_alone before (Start eight parameters) next unnamed other = refl
konsole_alone before (Step (Raster pan pad width height)) next unnamed other = cc
konsole_alone before (Step (Define register system x y z)) next unnamed other = cc
konsole_alone before (Step (Select register)) next unnamed other = cc
konsole_alone before (Step (Sixel bits)) next unnamed other = refl
konsole_alone before (Step (Repeat count bits)) next unnamed other = refl
konsole_alone before (Step CarriageReturn) next unnamed other = refl
konsole_alone before (Step NextLine) next unnamed other = refl
konsole_alone before (Finish eight) next unnamed other = refl

-- ---- data commands after an unknown colour system

none_drawn : (zero_columns : ℕ) → IsCut zero_columns 0 Nothing
none_drawn zero_columns = record { goes = refl; blank = record { each = refl; columns_are = refl } }

pub konsole_cut : (before : List Event) (zero_columns : ℕ) → is_stuck before ≡ true
    → AreCut konsole before zero_columns 0
konsole_cut before zero_columns stuck =
    none_at_all konsole before zero_columns
    (λ earlier bits next. rw (stuck_over before earlier, stuck) (none_drawn zero_columns))
    (λ count bits next some. rw stuck (none_drawn zero_columns))
