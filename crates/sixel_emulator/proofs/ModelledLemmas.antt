-- What was followed, with one more event.
use Rattle.std.proofs.Common.{length, ◌≡◌, ℕ, zero, suc, ◌+◌, ◌-◌, ◌<◌, List, [], ◌∷◌, ◌++◌, Some, None, Option}
use Rattle.std.proofs.Common.{false, refl, sym, ap₂, ◌≤◌}
use Rattle.std.proofs.Common.{ap, subst, ◌∙◌, arith, append_assoc, drop, take, add-one, length-append}
use Rattle.std.specs.Prelude.{slice_get, slice_index}
use Rattle.std.specs.List.{list_any}
use Rattle.std.specs.Option.{is_some, option_map, option_to_list}
use Rattle.std.proofs.lemmas.Bool.{or_parts}
use Rattle.std.proofs.lemmas.List.{append-nil, append_cancel_right, length-map, length-take-le, map-append}
use Rattle.sixel_grammar.specs.declared.command.Command.TheVariants.{Sixel}
use Rattle.sixel_grammar.specs.declared.command.Event.{Event}
use Rattle.sixel_grammar.specs.declared.command.Event.TheVariants.{Step}
use Rattle.sixel_grammar.specs.declared.command.Placed.{Placed}
use Rattle.sixel_grammar.specs.Document.{events_of}
use Rattle.sixel_model.specs.Events.{is_painting}
use Rattle.sixel_grammar.specs.Stretches.{sixels_from}
use Rattle.sixel_emulator.specs.declared.modelled.Modelled.{Modelled}
use Rattle.sixel_emulator.specs.declared.progress.Progress.{Progress}
use Rattle.sixel_emulator.specs.declared.reading.Reads.{Reads}
use Rattle.sixel_emulator.specs.declared.reading.Reads.TheVariants.{Draws}
use Rattle.sixel_terminal.specs.Stretches.{sixels_of}
use Rattle.sixel_emulator.specs.declared.waiting.Waiting.{Waiting}
use Rattle.sixel_emulator.specs.Courses.{AreDrawn, AreSixels, IsAt}
use Rattle.sixel_emulator.specs.Modelled.{AreUnsaidBy, HasCome, HasFollowed, HasPlace, placed_at, waiting_in}
use Rattle.sixel_emulator.specs.Modelled.{first_at, first_sixel, with_first, with_waiting}
use Rattle.sixel_emulator.specs.Readings.{ArePlain, ArePlainBlanks, ArePlainSixels, Model, Rule}
use Rattle.sixel_emulator.proofs.PlainLemmas.{first_before}
use Rattle.sixel_emulator.proofs.PositionLemmas.{read_there}

-- ---- the event at a position

get_there : {A : Type 0} (before rest : List A) (x : A) → slice_get (before ++ x ∷ rest) (length before) ≡ Some x
get_there [] rest x = refl
get_there (b ∷ bs) rest x = get_there bs rest x

pub events_then : (seen more : List Placed) → events_of (seen ++ more) ≡ events_of seen ++ events_of more
events_then seen more = map-append (λ (p : Placed). p.event) seen more

same_length : (placed : List Placed) → length (events_of placed) ≡ length placed
same_length placed = length-map placed (λ (p : Placed). p.event)

pub is_at : (m : Model) (before rest : List Placed) (q : Placed) (reads : Reads)
    → reads ≡ m.rule (events_of before) q.event (slice_get (events_of rest) 0)
    → IsAt m (events_of (before ++ q ∷ rest)) (length before) q.event reads
is_at m before rest q reads is =
    let es : List Event = events_of before ++ q.event ∷ events_of rest in
    let there : IsAt m es (length (events_of before)) q.event reads = record {
      here = get_there (events_of before) (events_of rest) q.event;
      reads_are = is ∙ sym (read_there m (events_of before) (events_of rest) q.event);
    } in
    let placed : IsAt m es (length before) q.event reads =
    subst (λ (n : ℕ). IsAt m es n q.event reads) (same_length before) there in
    subst (λ (all : List Event). IsAt m all (length before) q.event reads) (sym (events_then before (q ∷ rest))) placed

has_place : (before rest : List Placed) (q : Placed) → HasPlace (before ++ q ∷ rest) (length before) q.place
has_place before rest q = ap (option_map (λ (p : Placed). p.place)) (get_there before rest q)

-- ---- one more event

abbrev waits_for : ℕ → Option Event → List Placed
waits_for place o = option_to_list (option_map (placed_at place) o)

-- what reading the event that waits does to how far it has come
abbrev pub ReadsWaiting : {R : Type 0} → Model → (R → List Event → Type 0) → Modelled R → Option Event → Progress
    → Type 0
ReadsWaiting m has_seen w next p =
    (e : Event) → w.waiting.pending ≡ Some e → (before : List Event) → has_seen w.waiting.reading before
    → AreUnsaidBy m w.controls → (opening : List Event) (placed : List Placed) (n : ℕ)
    → IsAt m (events_of placed) n e (m.rule before e next) → HasPlace placed n w.place
    → HasCome m opening placed n w.progress → HasCome m opening placed (suc n) p

-- all events that were taken are read now
read_all : {R : Type 0} (m : Model) (has_seen : R → List Event → Type 0) (w : Modelled R) (opening : List Event)
    (placed more : List Placed) (next : Option Event) (p : Progress) → HasFollowed m has_seen w opening placed
    → slice_get (events_of more) 0 ≡ next → (w.waiting.pending ≡ None → p ≡ w.progress)
    → ReadsWaiting m has_seen w next p → HasCome m opening (placed ++ more) (length placed) p
read_all m has_seen w opening placed more next p h first none some = at_pending w.waiting.pending refl
  where
    nothing : w.waiting.pending ≡ None → HasCome m opening (placed ++ more) (length placed) p
    nothing is =
        let same : length placed ≡ length h.read = ap length (h.are ∙ (ap (λ o. h.read ++ waits_for w.place o) is
        ∙ append-nil h.read)) in
        subst (λ (n : ℕ). HasCome m opening (placed ++ more) n p) (sym same)
        (subst (λ (q : Progress). HasCome m opening (placed ++ more) (length h.read) q) (sym (none is)) (h.come more))

    waits : (e : Event) → w.waiting.pending ≡ Some e → HasCome m opening (placed ++ more) (length placed) p
    waits e is =
        let q : Placed = placed_at w.place e in
        let are : placed ≡ h.read ++ q ∷ [] = h.are ∙ ap (λ o. h.read ++ waits_for w.place o) is in
        let all : placed ++ more ≡ h.read ++ q ∷ more =
        ap (λ (ps : List Placed). ps ++ more) are ∙ append_assoc h.read (q ∷ []) more in
        let lengths : length placed ≡ suc (length h.read) =
        ap length are ∙ (length-append h.read (q ∷ []) ∙ omega arith) in
        let come : HasCome m opening (h.read ++ q ∷ more) (suc (length h.read)) p =
        some e is (events_of h.read) h.seen h.controls opening (h.read ++ q ∷ more) (length h.read)
        (is_at m h.read more q _ (ap (m.rule (events_of h.read) e) (sym first))) (has_place h.read more q)
        (subst (λ (ps : List Placed). HasCome m opening ps (length h.read) w.progress) all (h.come more)) in
        subst (λ (n : ℕ). HasCome m opening (placed ++ more) n p) (sym lengths)
        (subst (λ (ps : List Placed). HasCome m opening ps (suc (length h.read)) p) (sym all) come)

    at_pending : (o : Option Event) → w.waiting.pending ≡ o → HasCome m opening (placed ++ more) (length placed) p
    at_pending None is = nothing is
    at_pending (Some e) is = waits e is

events_waiting : (place : ℕ) (o : Option Event) → events_of (waits_for place o) ≡ option_to_list o
events_waiting place None = refl
events_waiting place (Some e) = refl

pub follows_more : {R : Type 0} (m : Model) (has_seen : R → List Event → Type 0) (w : Modelled R) (opening : List Event)
    (placed : List Placed) (place : ℕ) (event : Event) (waiting : Waiting R) (p : Progress)
    → ((before : List Event) → has_seen w.waiting.reading before
    → has_seen waiting.reading (before ++ option_to_list w.waiting.pending))
    → waiting.pending ≡ Some event → (w.waiting.pending ≡ None → p ≡ w.progress)
    → ReadsWaiting m has_seen w (Some event) p → HasFollowed m has_seen w opening placed
    → HasFollowed m has_seen (record { waiting = waiting; place = place; progress = p; controls = w.controls }) opening
    (placed ++ placed_at place event ∷ [])
follows_more m has_seen w opening placed place event waiting p reads pending none some h =
    let q : Placed = placed_at place event in
    let read : events_of h.read ++ option_to_list w.waiting.pending ≡ events_of placed =
    ap (λ (es : List Event). events_of h.read ++ es) (sym (events_waiting w.place w.waiting.pending))
    ∙ (sym (events_then h.read (waiting_in w)) ∙ ap events_of (sym h.are)) in
    record {
      controls = h.controls;
      read = placed;
      are = ap (λ o. placed ++ waits_for place o) (sym pending);
      seen = subst (has_seen waiting.reading) read (reads (events_of h.read) h.seen);
      come = λ later.
          subst (λ (ps : List Placed). HasCome m opening ps (length placed) p)
          (sym (append_assoc placed (q ∷ []) later))
          (read_all m has_seen w opening placed (q ∷ later) (Some event) p h refl none some);
    }

-- none waits, and one came last
pub follows_none : {R : Type 0} (m : Model) (has_seen : R → List Event → Type 0) (w : Modelled R)
    (opening : List Event) (placed : List Placed) (place : ℕ) (event : Event) → w.waiting.pending ≡ None
    → HasFollowed m has_seen w opening placed
    → HasFollowed m has_seen (with_waiting w place event) opening (placed ++ placed_at place event ∷ [])
follows_none m has_seen w opening placed place event none h =
    follows_more m has_seen w opening placed place event
    (record { reading = w.waiting.reading; pending = Some event }) w.progress
    (λ before seen.
    subst (λ (o : Option Event). has_seen w.waiting.reading (before ++ option_to_list o)) (sym none)
    (subst (has_seen w.waiting.reading) (sym (append-nil before)) seen))
    refl (λ is. refl) (λ e is. absurd cc) h

-- the same, but its reading is this now, and it has come so far
abbrev pub with_read : {R : Type 0} → Modelled R → R → Progress → Modelled R
with_read w reading p = record w { waiting = record w.waiting { reading = reading }; progress = p }

none_waits : {R : Type 0} (w : Modelled R) (placed : List Placed) → w.waiting.pending ≡ None
    → placed ≡ placed ++ waiting_in w
none_waits w placed none =
    sym (append-nil placed) ∙ ap (λ (o : Option Event). placed ++ waits_for w.place o) (sym none)

-- these came last, the first of them before the others; they are read, and none waits
pub follows_read : {R : Type 0} (m : Model) (has_seen : R → List Event → Type 0) (w : Modelled R)
    (opening : List Event) (before : List Placed) (place : ℕ) (event : Event) (more : List Placed) (reading : R)
    (p : Progress) → w.waiting.pending ≡ None
    → ((es : List Event) → has_seen w.waiting.reading es → has_seen reading (es ++ event ∷ events_of more))
    → (has_seen w.waiting.reading (events_of before) → AreUnsaidBy m w.controls → (later : List Placed)
    → HasCome m opening (before ++ placed_at place event ∷ (more ++ later)) (length before) w.progress
    → HasCome m opening (before ++ placed_at place event ∷ (more ++ later)) (length before + suc (length more)) p)
    → HasFollowed m has_seen (with_waiting w place event) opening (before ++ placed_at place event ∷ [])
    → HasFollowed m has_seen (with_read w reading p) opening (before ++ placed_at place event ∷ more)
follows_read m has_seen w opening before place event more reading p none reads comes h =
    let q : Placed = placed_at place event in
    let read : h.read ≡ before = append_cancel_right h.read before (q ∷ []) (sym h.are) in
    let seen : has_seen w.waiting.reading (events_of before) =
    subst (λ (ps : List Placed). has_seen w.waiting.reading (events_of ps)) read h.seen in
    record {
      controls = h.controls;
      read = before ++ q ∷ more;
      are = none_waits w (before ++ q ∷ more) none;
      seen = subst (has_seen reading) (sym (events_then before (q ∷ more))) (reads (events_of before) seen);
      come = λ later.
          let all : List Placed = before ++ q ∷ (more ++ later) in
          let old : HasCome m opening all (length before) w.progress =
          subst (λ (ps : List Placed). HasCome m opening all (length ps) w.progress) read
          (subst (λ (ps : List Placed). HasCome m opening ps (length h.read) w.progress)
          (append_assoc before (q ∷ []) (more ++ later)) (h.come (more ++ later))) in
          subst (λ (ps : List Placed). HasCome m opening ps (length (before ++ q ∷ more)) p)
          (sym (append_assoc before (q ∷ more) later))
          (subst (λ (n : ℕ). HasCome m opening all n p) (sym (length-append before (q ∷ more)))
          (comes seen h.controls later old));
    }

-- the event that came last is read, and none waits
pub follows_now : {R : Type 0} (m : Model) (has_seen : R → List Event → Type 0) (w : Modelled R)
    (opening : List Event) (before : List Placed) (place : ℕ) (event : Event) (reading : R) (p : Progress)
    → w.waiting.pending ≡ None
    → ((es : List Event) (next : Option Event) → has_seen w.waiting.reading es
    → m.rule es event next ≡ m.rule es event None)
    → ((es : List Event) → has_seen w.waiting.reading es → has_seen reading (es ++ event ∷ []))
    → ((es : List Event) → has_seen w.waiting.reading es → AreUnsaidBy m w.controls
    → (first : List Event) (placed : List Placed) (n : ℕ) → IsAt m (events_of placed) n event (m.rule es event None)
    → HasPlace placed n place → HasCome m first placed n w.progress → HasCome m first placed (suc n) p)
    → HasFollowed m has_seen (with_waiting w place event) opening (before ++ placed_at place event ∷ [])
    → HasFollowed m has_seen (with_read w reading p) opening (before ++ placed_at place event ∷ [])
follows_now m has_seen w opening before place event reading p none alone reads comes h =
    let q : Placed = placed_at place event in
    let next : suc (length before) ≡ length before + 1 = omega arith in
    follows_read m has_seen w opening before place event [] reading p none reads
    (λ seen controls later old.
    subst (λ (n : ℕ). HasCome m opening (before ++ q ∷ later) n p) next
    (comes (events_of before) seen controls opening (before ++ q ∷ later) (length before)
    (is_at m before later q _ (sym (alone (events_of before) (slice_get (events_of later) 0) seen)))
    (has_place before later q) old))
    h

-- ---- at the end

pub all_read : {R : Type 0} (m : Model) (has_seen : R → List Event → Type 0) (w : Modelled R) (opening : List Event)
    (placed : List Placed) (p : Progress) → (w.waiting.pending ≡ None → p ≡ w.progress)
    → ReadsWaiting m has_seen w None p → HasFollowed m has_seen w opening placed
    → HasCome m opening placed (length placed) p
all_read m has_seen w opening placed p none some h =
    subst (λ (ps : List Placed). HasCome m opening ps (length placed) p) (append-nil placed)
    (read_all m has_seen w opening placed [] None p h refl none some)

-- ---- sixels

sixels_push : (place : ℕ) (bytes : List ℕ) (i : ℕ) → i < length bytes
    → sixels_from place (take (suc i) bytes)
    ≡ sixels_from place (take i bytes) ++ placed_at (place + i) (Step (Sixel (slice_index bytes i - 63))) ∷ []
sixels_push place [] i lt = absurd (omega (arith, lt))
sixels_push place (b ∷ bs) zero lt =
    let same : place ≡ place + 0 = omega arith in
    ap (λ (k : ℕ). placed_at k (Step (Sixel (b - 63))) ∷ []) same
sixels_push place (b ∷ bs) (suc i) lt =
    let same : place + 1 + i ≡ place + suc i = omega arith in
    let less : i < length bs = omega (arith, lt) in
    ap (λ (ps : List Placed). placed_at place (Step (Sixel (b - 63))) ∷ ps)
    (sixels_push (place + 1) bs i less
    ∙ ap (λ (k : ℕ). sixels_from (place + 1) (take i bs) ++ placed_at k (Step (Sixel (slice_index bs i - 63))) ∷ [])
    same)

pub one_sixel_more : (before : List Placed) (place : ℕ) (bytes : List ℕ) (i : ℕ) → i < length bytes
    → (before ++ sixels_from place (take i bytes))
    ++ placed_at (place + i) (Step (Sixel (slice_index bytes i - 63))) ∷ []
    ≡ before ++ sixels_from place (take (i + 1) bytes)
one_sixel_more before place bytes i lt =
    append_assoc before (sixels_from place (take i bytes))
    (placed_at (place + i) (Step (Sixel (slice_index bytes i - 63))) ∷ [])
    ∙ ap (λ (ps : List Placed). before ++ ps)
    (sym (sixels_push place bytes i lt) ∙ ap (λ n. sixels_from place (take n bytes)) (sym (add-one i)))

-- ---- sixels that are drawn as they are

plain_first : (rule : Rule) (before : List Event) (n bits : ℕ) (next : Option Event) → ArePlain rule before (suc n)
    → rule before (Step (Sixel bits)) next ≡ Draws (Sixel bits)
plain_first rule before n bits next plain =
    subst (λ (es : List Event). rule es (Step (Sixel bits)) next ≡ Draws (Sixel bits)) (append-nil before)
    (plain [] (omega arith) bits next)

plain_next : (rule : Rule) (before : List Event) (n b : ℕ) → ArePlain rule before (suc n)
    → ArePlain rule (before ++ Step (Sixel (b - 63)) ∷ []) n
plain_next rule before n b plain = λ earlier lt bits next.
    subst (λ (es : List Event). rule es (Step (Sixel bits)) next ≡ Draws (Sixel bits)) (first_before before b earlier)
    (plain (b ∷ earlier) (omega (arith, lt)) bits next)

-- so many sixels are drawn as they are
pub plain_by_count : (rule : Rule) (before : List Event) (bytes : List ℕ) → ArePlain rule before (length bytes)
    → ArePlainSixels rule before bytes
plain_by_count rule before [] plain = tt
plain_by_count rule before (b ∷ bs) plain = (
  λ next. plain_first rule before (length bs) (b - 63) next plain,
  plain_by_count rule (before ++ Step (Sixel (b - 63)) ∷ []) bs (plain_next rule before (length bs) b plain),
)

blank_first : (rule : Rule) (before : List Event) (bits : ℕ) (next : Option Event) → ArePlainBlanks rule before
    → is_painting (Step (Sixel bits)) ≡ false → rule before (Step (Sixel bits)) next ≡ Draws (Sixel bits)
blank_first rule before bits next plain blank =
    subst (λ (es : List Event). rule es (Step (Sixel bits)) next ≡ Draws (Sixel bits)) (append-nil before)
    (plain [] refl bits blank next)

blank_next : (rule : Rule) (before : List Event) (b : ℕ) → ArePlainBlanks rule before
    → is_painting (Step (Sixel (b - 63))) ≡ false → ArePlainBlanks rule (before ++ Step (Sixel (b - 63)) ∷ [])
blank_next rule before b plain first = λ earlier none bits blank next.
    subst (λ (es : List Event). rule es (Step (Sixel bits)) next ≡ Draws (Sixel bits)) (first_before before b earlier)
    (plain (b ∷ earlier) (rw first none) bits blank next)

-- none of these has a set bit
pub plain_by_blanks : (rule : Rule) (before : List Event) (bytes : List ℕ) → ArePlainBlanks rule before
    → list_any is_painting (sixels_of bytes) ≡ false → ArePlainSixels rule before bytes
plain_by_blanks rule before [] plain none = tt
plain_by_blanks rule before (b ∷ bs) plain none =
    let parts = or_parts (is_painting (Step (Sixel (b - 63)))) (list_any is_painting (sixels_of bs)) none in (
      λ next. blank_first rule before (b - 63) next plain parts.0,
      plain_by_blanks rule (before ++ Step (Sixel (b - 63)) ∷ []) bs (blank_next rule before b plain parts.0) parts.1,
    )

plain_drawn : (m : Model) (read : List Placed) (place : ℕ) (bytes : List ℕ) (later : List Placed)
    → ArePlainSixels m.rule (events_of read) bytes
    → AreDrawn m (events_of (read ++ (sixels_from place bytes ++ later))) (length read) bytes
plain_drawn m read place [] later plain = tt
plain_drawn m read place (b ∷ bs) later plain =
    let q : Placed = placed_at place (Step (Sixel (b - 63))) in
    let rest : List Placed = sixels_from (place + 1) bs ++ later in
    let long : length (read ++ q ∷ []) ≡ suc (length read) = length-append read (q ∷ []) ∙ omega arith in
    let all : (read ++ q ∷ []) ++ rest ≡ read ++ q ∷ rest = append_assoc read (q ∷ []) rest in
    let known : ArePlainSixels m.rule (events_of (read ++ q ∷ [])) bs =
    subst (λ (es : List Event). ArePlainSixels m.rule es bs) (sym (events_then read (q ∷ []))) plain.1 in (
      is_at m read rest q (Draws (Sixel (b - 63))) (sym (plain.0 (slice_get (events_of rest) 0))),
      subst (λ (n : ℕ). AreDrawn m (events_of (read ++ q ∷ rest)) n bs) long
          (subst (λ (ps : List Placed). AreDrawn m (events_of ps) (length (read ++ q ∷ [])) bs) all
          (plain_drawn m (read ++ q ∷ []) (place + 1) bs later known)),
    )

sixels_there : (m : Model) (read : List Placed) (place : ℕ) (bytes : List ℕ) (later : List Placed)
    → AreSixels (events_of (read ++ (sixels_from place bytes ++ later))) (length read) bytes
sixels_there m read place [] later = tt
sixels_there m read place (b ∷ bs) later =
    let q : Placed = placed_at place (Step (Sixel (b - 63))) in
    let rest : List Placed = sixels_from (place + 1) bs ++ later in
    let long : length (read ++ q ∷ []) ≡ suc (length read) = length-append read (q ∷ []) ∙ omega arith in
    let all : (read ++ q ∷ []) ++ rest ≡ read ++ q ∷ rest = append_assoc read (q ∷ []) rest in (
      (is_at m read rest q _ refl).here,
      subst (λ (n : ℕ). AreSixels (events_of (read ++ q ∷ rest)) n bs) long
          (subst (λ (ps : List Placed). AreSixels (events_of ps) (length (read ++ q ∷ [])) bs) all
          (sixels_there m (read ++ q ∷ []) (place + 1) bs later)),
    )

pub fewer : (rule : Rule) (before : List Event) (n k : ℕ) → k ≤ n → ArePlain rule before n → ArePlain rule before k
fewer rule before n k le plain = λ earlier lt. plain earlier (omega (arith, le, lt))

sixels_events : (place : ℕ) (bytes : List ℕ) → events_of (sixels_from place bytes) ≡ sixels_of bytes
sixels_events place [] = refl
sixels_events place (b ∷ bs) = ap (λ (es : List Event). Step (Sixel (b - 63)) ∷ es) (sixels_events (place + 1) bs)

sixels_length : (place : ℕ) (bytes : List ℕ) → length (sixels_from place bytes) ≡ length bytes
sixels_length place [] = refl
sixels_length place (b ∷ bs) = ap suc (sixels_length (place + 1) bs)

-- the first of these sixels came last; they are read, and none waits
pub follows_sixels_read : {R : Type 0} (m : Model) (has_seen : R → List Event → Type 0) (w : Modelled R)
    (opening : List Event) (before : List Placed) (place b : ℕ) (bs : List ℕ) (reading : R) (p : Progress)
    → w.waiting.pending ≡ None
    → ((es : List Event) → has_seen w.waiting.reading es → has_seen reading (es ++ sixels_of (b ∷ bs)))
    → (has_seen w.waiting.reading (events_of before) → (later : List Placed)
    → HasCome m opening (before ++ (sixels_from place (b ∷ bs) ++ later)) (length before) w.progress
    → HasCome m opening (before ++ (sixels_from place (b ∷ bs) ++ later)) (length before + length (b ∷ bs)) p)
    → HasFollowed m has_seen (with_waiting w place (Step (Sixel (b - 63)))) opening
    (before ++ placed_at place (Step (Sixel (b - 63))) ∷ [])
    → HasFollowed m has_seen (with_read w reading p) opening (before ++ sixels_from place (b ∷ bs))
follows_sixels_read m has_seen w opening before place b bs reading p none reads comes h =
    follows_read m has_seen w opening before place (Step (Sixel (b - 63))) (sixels_from (place + 1) bs) reading p none
    (λ es seen.
    subst (λ (more : List Event). has_seen reading (es ++ more)) (sym (sixels_events place (b ∷ bs))) (reads es seen))
    (λ seen controls later old.
    subst (λ (n : ℕ). HasCome m opening (before ++ (sixels_from place (b ∷ bs) ++ later)) (length before + n) p)
    (sym (sixels_length place (b ∷ bs))) (comes seen later old))
    h

-- the first of these sixels came last; they are drawn as they are, and none waits
pub follows_plain : {R : Type 0} (m : Model) (has_seen : R → List Event → Type 0) (w : Modelled R)
    (opening : List Event) (before : List Placed) (place b : ℕ) (bs : List ℕ) (reading : R) (p : Progress)
    → w.waiting.pending ≡ None
    → ((es : List Event) → has_seen w.waiting.reading es → ArePlainSixels m.rule es (b ∷ bs))
    → ((es : List Event) → has_seen w.waiting.reading es → has_seen reading (es ++ sixels_of (b ∷ bs)))
    → ((first : List Event) (placed : List Placed) (k : ℕ) → AreDrawn m (events_of placed) k (b ∷ bs)
    → HasCome m first placed k w.progress → HasCome m first placed (k + length (b ∷ bs)) p)
    → HasFollowed m has_seen (with_waiting w place (Step (Sixel (b - 63)))) opening
    (before ++ placed_at place (Step (Sixel (b - 63))) ∷ [])
    → HasFollowed m has_seen (with_read w reading p) opening (before ++ sixels_from place (b ∷ bs))
follows_plain m has_seen w opening before place b bs reading p none plain reads draws h =
    follows_sixels_read m has_seen w opening before place b bs reading p none reads
    (λ seen later old.
    draws opening (before ++ (sixels_from place (b ∷ bs) ++ later)) (length before)
    (plain_drawn m before place (b ∷ bs) later (plain (events_of before) seen)) old)
    h

-- the same, and none of these bytes is split off
pub follows_sixels : {R : Type 0} (m : Model) (has_seen : R → List Event → Type 0) (w : Modelled R)
    (opening : List Event) (before : List Placed) (place : ℕ) (bytes : List ℕ) (reading : R) (p : Progress)
    → 0 < length bytes → w.waiting.pending ≡ None
    → ((es : List Event) → has_seen w.waiting.reading es → ArePlainSixels m.rule es bytes)
    → ((es : List Event) → has_seen w.waiting.reading es → has_seen reading (es ++ sixels_of bytes))
    → ((first : List Event) (placed : List Placed) (k : ℕ) → AreDrawn m (events_of placed) k bytes
    → HasCome m first placed k w.progress → HasCome m first placed (k + length bytes) p)
    → HasFollowed m has_seen (with_first w place bytes) opening (before ++ first_at place bytes)
    → HasFollowed m has_seen (with_read w reading p) opening (before ++ sixels_from place bytes)
follows_sixels m has_seen w opening before place [] reading p some none plain reads draws h =
    absurd (omega (arith, some))
follows_sixels m has_seen w opening before place (b ∷ bs) reading p some none plain reads draws h =
    follows_plain m has_seen w opening before place b bs reading p none plain reads draws h

-- the same, where what was drawn stays as it is
pub follows_past : {R : Type 0} (m : Model) (has_seen : R → List Event → Type 0) (w : Modelled R)
    (opening : List Event) (before : List Placed) (place : ℕ) (bytes : List ℕ) (reading : R)
    → 0 < length bytes → w.waiting.pending ≡ None
    → ((es : List Event) → has_seen w.waiting.reading es → has_seen reading (es ++ sixels_of bytes))
    → ((first : List Event) (placed : List Placed) (k : ℕ) → AreSixels (events_of placed) k bytes
    → HasCome m first placed k w.progress → HasCome m first placed (k + length bytes) w.progress)
    → HasFollowed m has_seen (with_first w place bytes) opening (before ++ first_at place bytes)
    → HasFollowed m has_seen (with_read w reading w.progress) opening (before ++ sixels_from place bytes)
follows_past m has_seen w opening before place [] reading some none reads stays h = absurd (omega (arith, some))
follows_past m has_seen w opening before place (b ∷ bs) reading some none reads stays h =
    follows_sixels_read m has_seen w opening before place b bs reading w.progress none reads
    (λ seen later old.
    stays opening (before ++ (sixels_from place (b ∷ bs) ++ later)) (length before)
    (sixels_there m before place (b ∷ bs) later) old)
    h

pub none_pending : {A : Type 0} (o : Option A) → is_some o ≡ false → o ≡ None
none_pending None is = refl
none_pending (Some a) is = absurd cc

-- the same of the first k of these bytes
pub follows_taken : {R : Type 0} (m : Model) (has_seen : R → List Event → Type 0) (w : Modelled R)
    (opening : List Event) (before : List Placed) (place : ℕ) (bytes : List ℕ) (k n : ℕ) (reading : R) (p : Progress)
    → (k ≡ 0 → ⊥) → 0 < length bytes → w.waiting.pending ≡ None
    → ((es : List Event) → has_seen w.waiting.reading es → ArePlain m.rule es n) → k ≤ n → k ≤ length bytes
    → ((es : List Event) → has_seen w.waiting.reading es → has_seen reading (es ++ sixels_of (take k bytes)))
    → ((first : List Event) (placed : List Placed) (i : ℕ) → AreDrawn m (events_of placed) i (take k bytes)
    → HasCome m first placed i w.progress → HasCome m first placed (i + length (take k bytes)) p)
    → HasFollowed m has_seen (with_waiting w place (Step (Sixel (slice_index bytes 0 - 63)))) opening
    (before ++ placed_at place (Step (Sixel (slice_index bytes 0 - 63))) ∷ [])
    → HasFollowed m has_seen (with_read w reading p) opening (before ++ sixels_from place (take k bytes))
follows_taken m has_seen w opening before place bytes zero n reading p some lt none plain enough within reads draws h =
    absurd (some refl)
follows_taken m has_seen w opening before place [] (suc j) n reading p some lt none plain enough within reads draws h =
    absurd (omega (arith, lt))
follows_taken {R} m has_seen w opening before place (b ∷ bs) (suc j) n reading p some lt none plain enough within reads
    draws h =
    let long : suc (length (take j bs)) ≡ suc j = ap suc (length-take-le j bs (omega (arith, within))) in
    follows_plain m has_seen w opening before place b (take j bs) reading p none
    (λ es seen.
    plain_by_count m.rule es (b ∷ take j bs)
    (fewer m.rule es n (suc (length (take j bs))) (subst (λ (k : ℕ). k ≤ n) (sym long) enough) (plain es seen)))
    reads draws h

-- the first sixel of the first k of these bytes
pub first_taken : (bytes : List ℕ) (k : ℕ) → (k ≡ 0 → ⊥) → 0 < length bytes
    → first_sixel (take k bytes) ≡ first_sixel bytes
first_taken bytes zero some lt = absurd (some refl)
first_taken [] (suc k) some lt = absurd (omega (arith, lt))
first_taken (b ∷ bs) (suc k) some lt = refl

-- ---- in parts

take_none : (r : ℕ) → take {A = ℕ} r [] ≡ []
take_none zero = refl
take_none (suc r) = refl

sixels_more : (place : ℕ) (bytes : List ℕ) (t r : ℕ)
    → sixels_from place (take t bytes) ++ sixels_from (place + t) (take r (drop t bytes))
    ≡ sixels_from place (take (t + r) bytes)
sixels_more place bytes zero r =
    let at : place + 0 ≡ place = omega arith in
    let count : r ≡ 0 + r = omega arith in
    ap₂ (λ (p k : ℕ). sixels_from p (take k bytes)) at count
sixels_more place [] (suc t) r =
    ap (sixels_from (place + suc t)) (take_none r) ∙ ap (sixels_from place) (sym (take_none (suc t + r)))
sixels_more place (b ∷ bs) (suc t) r =
    let at : place + suc t ≡ place + 1 + t = omega arith in
    let count : suc (t + r) ≡ suc t + r = omega arith in
    ap (λ (ps : List Placed). placed_at place (Step (Sixel (b - 63))) ∷ ps)
    (ap (λ (p : ℕ). sixels_from (place + 1) (take t bs) ++ sixels_from p (take r (drop t bs))) at
    ∙ sixels_more (place + 1) bs t r)
    ∙ ap (λ (k : ℕ). sixels_from place (take k (b ∷ bs))) count

pub more_sixels : (before : List Placed) (place : ℕ) (bytes : List ℕ) (t r : ℕ)
    → (before ++ sixels_from place (take t bytes)) ++ sixels_from (place + t) (take r (drop t bytes))
    ≡ before ++ sixels_from place (take (t + r) bytes)
more_sixels before place bytes t r =
    append_assoc before (sixels_from place (take t bytes)) (sixels_from (place + t) (take r (drop t bytes)))
    ∙ ap (λ (ps : List Placed). before ++ ps) (sixels_more place bytes t r)
