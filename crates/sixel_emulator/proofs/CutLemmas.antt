-- Data commands that a model cuts.
use Rattle.std.proofs.Common.{◌≡◌, ℕ, suc, ◌+◌, ◌-◌, ◌<◌, Bool, true, false, ◌&&◌, List, []}
use Rattle.std.proofs.Common.{◌∷◌, ◌++◌, None, Option, length, length-append, min, refl, sym, ap₂, subst, ◌∙◌}
use Rattle.std.proofs.Common.{append_assoc, arith}
use Rattle.std.specs.Prelude.{nat_lt, slice_get, if◌then◌else◌}
use Rattle.std.specs.List.{list_all}
use Rattle.std.proofs.lemmas.List.{append-nil}
use Rattle.std.proofs.lemmas.Bool.Decides.{nat_tests}
use Rattle.sixel_grammar.specs.declared.command.Command.TheVariants.{Sixel, Repeat}
use Rattle.sixel_grammar.specs.declared.command.Event.{Event}
use Rattle.sixel_grammar.specs.declared.command.Event.TheVariants.{Step}
use Rattle.sixel_grammar.specs.declared.command.Placed.{Placed}
use Rattle.sixel_grammar.specs.Document.{events_of}
use Rattle.sixel_grammar.specs.Stretches.{sixels_from}
use Rattle.sixel_terminal.specs.Blanks.{AreBlank, columns_in, is_blank}
use Rattle.sixel_terminal.specs.Stretches.{sixels_of}
use Rattle.sixel_emulator.specs.declared.modelled.Modelled.{Modelled}
use Rattle.sixel_emulator.specs.declared.progress.Progress.{Progress}
use Rattle.sixel_emulator.specs.declared.reading.Reads.{Reads}
use Rattle.sixel_emulator.specs.Courses.{AreDrawnAs, IsAt}
use Rattle.sixel_emulator.specs.Modelled.{HasCome, HasFollowed, first_at, placed_at, with_first, with_waiting}
use Rattle.sixel_emulator.specs.Readings.{AreCut, IsCut, Model, Rule, carries_on, drawn_by, is_unsaid_control, read_at}
use Rattle.sixel_emulator.proofs.ModelledLemmas.{events_then, follows_read, follows_sixels_read, is_at, with_read}
use Rattle.sixel_emulator.proofs.PlainLemmas.{first_before}

-- ---- sixels

-- as `AreCut` says of sixels
abbrev CutSixels : Rule → List Event → ℕ → ℕ → Type 0
CutSixels rule before zero_columns n =
    (earlier : List ℕ) (bits : ℕ) (next : Option Event)
    → IsCut zero_columns (if nat_lt (length earlier) n then 1 else 0)
    (rule (before ++ sixels_of earlier) (Step (Sixel bits)) next)

one_first : (n : ℕ) → (if nat_lt 0 n then 1 else 0) ≡ min 1 n
one_first n = grind (arith, nat_tests)

one_later : (k n : ℕ) → ◌≡◌ {A = ℕ} (if nat_lt (suc k) n then 1 else 0) (if nat_lt k (n - 1) then 1 else 0)
one_later k n = grind (arith, nat_tests)

cut_first : (rule : Rule) (before : List Event) (zero_columns n bits : ℕ) (next : Option Event)
    → CutSixels rule before zero_columns n → IsCut zero_columns (min 1 n) (rule before (Step (Sixel bits)) next)
cut_first rule before zero_columns n bits next cut =
    subst (λ (columns : ℕ). IsCut zero_columns columns (rule before (Step (Sixel bits)) next)) (one_first n)
    (subst (λ (es : List Event). IsCut zero_columns (if nat_lt 0 n then 1 else 0) (rule es (Step (Sixel bits)) next))
    (append-nil before) (cut [] bits next))

cut_next : (rule : Rule) (before : List Event) (zero_columns n b : ℕ) → CutSixels rule before zero_columns n
    → CutSixels rule (before ++ Step (Sixel (b - 63)) ∷ []) zero_columns (n - 1)
cut_next rule before zero_columns n b cut = λ earlier bits next.
    subst (λ (columns : ℕ). IsCut zero_columns columns
    (rule ((before ++ Step (Sixel (b - 63)) ∷ []) ++ sixels_of earlier) (Step (Sixel bits)) next))
    (one_later (length earlier) n)
    (subst (λ (es : List Event). IsCut zero_columns (if nat_lt (suc (length earlier)) n then 1 else 0)
    (rule es (Step (Sixel bits)) next)) (first_before before b earlier) (cut (b ∷ earlier) bits next))

-- ---- all of them

all_blank : (n : ℕ) (xs ys : List Event) → list_all (is_blank n) xs ≡ true → list_all (is_blank n) ys ≡ true
    → list_all (is_blank n) (xs ++ ys) ≡ true
all_blank n [] ys p q = q
all_blank n (x ∷ xs) ys p q = both (is_blank n x) (list_all (is_blank n) xs) p (all_blank n xs ys)
  where
    both : (a b : Bool) → (a && b) ≡ true → (b ≡ true → list_all (is_blank n) ys ≡ true
        → list_all (is_blank n) (xs ++ ys) ≡ true) → (a && list_all (is_blank n) (xs ++ ys)) ≡ true
    both true b h rest = rest h q
    both false b h rest = cc

all_columns : (n : ℕ) (xs ys : List Event) → columns_in n (xs ++ ys) ≡ columns_in n xs + columns_in n ys
all_columns n [] ys = omega arith
all_columns n (x ∷ xs) ys = omega (arith, all_columns n xs ys)

blank_both : (zero_columns i j : ℕ) (xs ys : List Event) → AreBlank zero_columns i xs → AreBlank zero_columns j ys
    → AreBlank zero_columns (i + j) (xs ++ ys)
blank_both zero_columns i j xs ys p q = record {
  each = all_blank zero_columns xs ys p.each q.each;
  columns_are = ap₂ (λ (a b : ℕ). a + b) p.columns_are q.columns_are ∙ sym (all_columns zero_columns xs ys);
}

-- what is drawn of these sixels
record Drawing (m : Model) (events : List Event) (n zero_columns columns : ℕ) (bytes : List ℕ) : Type 0 where
  drawn : List Event
  are : AreDrawnAs m events n bytes drawn
  blank : AreBlank zero_columns columns drawn

cut_there : (m : Model) (read : List Placed) (place : ℕ) (bytes : List ℕ) (later : List Placed) (zero_columns n : ℕ)
    → CutSixels m.rule (events_of read) zero_columns n
    → Drawing m (events_of (read ++ (sixels_from place bytes ++ later))) (length read) zero_columns
    (min (length bytes) n) bytes
cut_there m read place [] later zero_columns n cut = record {
  drawn = [];
  are = refl;
  blank = record { each = refl; columns_are = omega arith };
}
cut_there m read place (b ∷ bs) later zero_columns n cut =
    let q : Placed = placed_at place (Step (Sixel (b - 63))) in
    let rest : List Placed = sixels_from (place + 1) bs ++ later in
    let long : length (read ++ q ∷ []) ≡ suc (length read) = length-append read (q ∷ []) ∙ omega arith in
    let all : (read ++ q ∷ []) ++ rest ≡ read ++ q ∷ rest = append_assoc read (q ∷ []) rest in
    let known : CutSixels m.rule (events_of (read ++ q ∷ [])) zero_columns (n - 1) =
    subst (λ (es : List Event). CutSixels m.rule es zero_columns (n - 1)) (sym (events_then read (q ∷ [])))
    (cut_next m.rule (events_of read) zero_columns n b cut) in
    let others : Drawing m (events_of (read ++ q ∷ rest)) (suc (length read)) zero_columns (min (length bs) (n - 1)) bs =
    subst (λ (k : ℕ). Drawing m (events_of (read ++ q ∷ rest)) k zero_columns (min (length bs) (n - 1)) bs) long
    (subst (λ (ps : List Placed). Drawing m (events_of ps) (length (read ++ q ∷ [])) zero_columns
    (min (length bs) (n - 1)) bs) all (cut_there m (read ++ q ∷ []) (place + 1) bs later zero_columns (n - 1) known)) in
    let at = is_at m read rest q _ refl in
    let first : IsCut zero_columns (min 1 n) (read_at m (events_of (read ++ q ∷ rest)) (length read)) =
    subst (IsCut zero_columns (min 1 n)) at.reads_are
    (cut_first m.rule (events_of read) zero_columns n (b - 63) (slice_get (events_of rest) 0) cut) in
    let columns : min 1 n + min (length bs) (n - 1) ≡ min (suc (length bs)) n = omega arith in
    record {
      drawn = drawn_by (read_at m (events_of (read ++ q ∷ rest)) (length read)) ++ others.drawn;
      are = (at.here, first.goes, others.drawn, refl, others.are);
      blank = subst (λ (k : ℕ). AreBlank zero_columns k
          (drawn_by (read_at m (events_of (read ++ q ∷ rest)) (length read)) ++ others.drawn)) columns
          (blank_both zero_columns (min 1 n) (min (length bs) (n - 1)) _ others.drawn first.blank others.blank);
    }

-- the first of these sixels came last; they are cut, and none waits
pub follows_cut_sixels : {R : Type 0} (m : Model) (has_seen : R → List Event → Type 0) (w : Modelled R)
    (opening : List Event) (before : List Placed) (place : ℕ) (bytes : List ℕ) (zero_columns n columns : ℕ) (reading : R)
    (p : Progress) → 0 < length bytes → w.waiting.pending ≡ None → columns ≡ min n (length bytes)
    → ((es : List Event) → has_seen w.waiting.reading es → AreCut m.rule es zero_columns n)
    → ((es : List Event) → has_seen w.waiting.reading es → has_seen reading (es ++ sixels_of bytes))
    → ((first : List Event) (placed : List Placed) (k : ℕ) (drawn : List Event)
    → AreDrawnAs m (events_of placed) k bytes drawn → AreBlank zero_columns columns drawn
    → HasCome m first placed k w.progress → HasCome m first placed (k + length bytes) p)
    → HasFollowed m has_seen (with_first w place bytes) opening (before ++ first_at place bytes)
    → HasFollowed m has_seen (with_read w reading p) opening (before ++ sixels_from place bytes)
follows_cut_sixels m has_seen w opening before place [] zero_columns n columns reading p some none is cut reads draws h =
    absurd (omega (arith, some))
follows_cut_sixels m has_seen w opening before place (b ∷ bs) zero_columns n columns reading p some none is cut reads draws h =
    let same : min (suc (length bs)) n ≡ columns = omega (arith, is) in
    follows_sixels_read m has_seen w opening before place b bs reading p none reads
    (λ seen later old.
    let there = cut_there m before place (b ∷ bs) later zero_columns n (cut (events_of before) seen).sixels in
    draws opening (before ++ (sixels_from place (b ∷ bs) ++ later)) (length before) there.drawn there.are
    (subst (λ (k : ℕ). AreBlank zero_columns k there.drawn) same there.blank) old)
    h

-- ---- a repeat

-- this event came last; it is cut, and none waits
pub follows_cut : {R : Type 0} (m : Model) (has_seen : R → List Event → Type 0) (w : Modelled R)
    (opening : List Event) (before : List Placed) (place : ℕ) (event : Event) (zero_columns columns : ℕ) (reading : R)
    (p : Progress) → w.waiting.pending ≡ None → is_unsaid_control m event ≡ false
    → ((es : List Event) (next : Option Event) → has_seen w.waiting.reading es
    → IsCut zero_columns columns (m.rule es event next))
    → ((es : List Event) → has_seen w.waiting.reading es → has_seen reading (es ++ event ∷ []))
    → ((first : List Event) (placed : List Placed) (k : ℕ) (reads : Reads) → IsAt m (events_of placed) k event reads
    → carries_on reads ≡ true → AreBlank zero_columns columns (drawn_by reads)
    → HasCome m first placed k w.progress → HasCome m first placed (suc k) p)
    → HasFollowed m has_seen (with_waiting w place event) opening (before ++ placed_at place event ∷ [])
    → HasFollowed m has_seen (with_read w reading p) opening (before ++ placed_at place event ∷ [])
follows_cut m has_seen w opening before place event zero_columns columns reading p none said cut reads draws h =
    let q : Placed = placed_at place event in
    let next : suc (length before) ≡ length before + 1 = omega arith in
    follows_read m has_seen w opening before place event [] reading p none reads
    (λ seen controls later old.
    let is = cut (events_of before) (slice_get (events_of later) 0) seen in
    subst (λ (n : ℕ). HasCome m opening (before ++ q ∷ later) n p) next
    (draws opening (before ++ q ∷ later) (length before) _ (is_at m before later q _ refl) is.goes is.blank old))
    h

-- ---- no column is kept

never : (k : ℕ) → ◌≡◌ {A = ℕ} (if nat_lt k 0 then 1 else 0) 0
never k = grind (arith, nat_tests)

pub none_at_all : (rule : Rule) (before : List Event) (zero_columns : ℕ)
    → ((earlier : List ℕ) (bits : ℕ) (next : Option Event)
    → IsCut zero_columns 0 (rule (before ++ sixels_of earlier) (Step (Sixel bits)) next))
    → ((count bits : ℕ) (next : Option Event) → 0 < count
    → IsCut zero_columns 0 (rule before (Step (Repeat count bits)) next))
    → AreCut rule before zero_columns 0
none_at_all rule before zero_columns sixels repeats = record {
  sixels = λ earlier bits next. rw (never (length earlier)) (sixels earlier bits next);
  repeats = λ count bits next some.
      let none : min count 0 ≡ 0 = omega arith in
      rw none (repeats count bits next some);
}
