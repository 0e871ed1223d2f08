-- Events, complete events and faults of bytes are unique.
use Rattle.std.proofs.Common.{◌≡◌, ℕ, zero, suc, ◌+◌, ◌-◌, ◌<◌, ◌≤◌, Bool, true, false, cond, leb, List, [], ◌∷◌, ◌++◌}
use Rattle.std.proofs.Common.{length, take, drop, Option, Some, None, refl, sym, ap, subst, ◌∙◌, append_assoc, arith}
use Rattle.std.proofs.Common.{length-append, inl, inr}
use Rattle.std.specs.Prelude.{IsTrue, slice_get}
use Rattle.std.specs.List.{AllByRecursion}
use Rattle.std.proofs.lemmas.List.{append-nil, take-append-le}
use Rattle.std.proofs.lemmas.Option.{slice_get_past}
use Rattle.std.proofs.Math.Seq.{take-add, take-length}
use Rattle.std.proofs.lemmas.Bool.{cond-true, cond-false, le-leb, lt-leb, cases_lt}
use Rattle.sixel_grammar.specs.declared.command.Event.{Event}
use Rattle.sixel_grammar.specs.declared.command.Placed.{Placed}
use Rattle.sixel_grammar.specs.declared.fault.Reason.{Reason}
use Rattle.sixel_grammar.specs.declared.fault.Fault.{Fault}
use Rattle.sixel_grammar.specs.Document.{Piece, bytes_of, joined, events_in, placed_from, AreRest, AreWhole, Parses}
use Rattle.sixel_grammar.specs.Document.{Document, IsDocument, most_bytes}
use Rattle.sixel_grammar.specs.Prefixes.{completed_at, complete_from, CompleteIn, IsViable}
use Rattle.sixel_grammar.specs.declared.command.Event.TheVariants.{Start, Step, Finish}
use Rattle.sixel_grammar.specs.Spelling.{is_open_ended}
use Rattle.sixel_grammar.specs.Faults.{Form, NothingYet, Ended, EndsIn, IsClosed, refusal, Stops, IsTooLong, IsRefused}
use Rattle.sixel_grammar.specs.Faults.{IsFaultOf}
use Rattle.sixel_grammar.specs.Next.{next_of}
use Rattle.sixel_grammar.proofs.WalkLemmas.{Stamp, stamp, State, state, with_stamp, moved, after, walk, walk-none}
use Rattle.sixel_grammar.proofs.WalkLemmas.{walk-append, walk-then}
use Rattle.sixel_grammar.proofs.DocumentWalkLemmas.{start, stamped_from, document_walk, ends_walk}
use Rattle.sixel_grammar.proofs.StandLemmas.{fault_at, form_at}
use Rattle.sixel_grammar.proofs.ViableLemmas.{complete}
use Rattle.sixel_grammar.proofs.PrefixLemmas.{prefixes}

abbrev placed_of : List Stamp → List Placed
placed_of [] = []
placed_of (t ∷ ts) = t.placed ∷ placed_of ts

placed-append : (xs ys : List Stamp) → placed_of (xs ++ ys) ≡ placed_of xs ++ placed_of ys
placed-append [] ys = refl
placed-append (x ∷ xs) ys = ap (λ (t : List Placed). x.placed ∷ t) (placed-append xs ys)

placed-stamped : (n : ℕ) (ps : List Piece) → placed_of (stamped_from n ps) ≡ placed_from n ps
placed-stamped n [] = refl
placed-stamped n (p ∷ ps) =
    ap (λ (t : List Placed). record { place = n + length p.filler; event = p.event } ∷ t)
    (placed-stamped (n + length (bytes_of p)) ps)

abbrev so_far_at : Option State → List Stamp
so_far_at None = []
so_far_at (Some s) = s.so_far

events_walk : (events : List Placed) (bytes : List ℕ) → Document events bytes
    → events ≡ placed_of (so_far_at (walk 0 start bytes))
events_walk events bytes d =
    d.events_are
    ∙ sym (placed-stamped 0 d.pieces)
    ∙ ap (λ (s : Option State). placed_of (so_far_at s)) (sym (document_walk d.pieces bytes d.parses))

pub document_once : (bytes : List ℕ) (first second : List Placed) → Document first bytes → Document second bytes
    → first ≡ second
document_once bytes first second a b = events_walk first bytes a ∙ sym (events_walk second bytes b)

-- ---- events come with the byte that completes them

abbrev CameIn : ℕ → ℕ → List Stamp → Type 0
CameIn n m ts = AllByRecursion (λ (t : Stamp). (n < t.completed) × (t.completed ≤ m)) ts

came-append : (n m k : ℕ) (xs ys : List Stamp) → n ≤ m → m ≤ k → CameIn n m xs → CameIn m k ys → CameIn n k (xs ++ ys)
came-append n m k [] [] l g h i = tt
came-append n m k [] (y ∷ ys) l g h i = ((omega arith, omega arith), came-append n m k [] ys l g tt i.1)
came-append n m k (x ∷ xs) ys l g h i = ((omega arith, omega arith), came-append n m k xs ys l g h.1 i)

adds : (n o k : ℕ) (s : List Stamp) (ended done : Option Event)
    → (later : List Stamp) × (with_stamp (with_stamp s (n + 1) o ended) (n + 1) k done ≡ s ++ later)
    × CameIn n (n + 1) later
adds n o k s None None = ([], sym (append-nil s), tt)
adds n o k s None (Some e) = (stamp (n + 1) k e ∷ [], refl, ((omega arith, omega arith), tt))
adds n o k s (Some e) None = (stamp (n + 1) o e ∷ [], refl, ((omega arith, omega arith), tt))
adds n o k s (Some e) (Some d) = (
  stamp (n + 1) o e ∷ stamp (n + 1) k d ∷ [],
  append_assoc s (stamp (n + 1) o e ∷ []) (stamp (n + 1) k d ∷ []),
  ((omega arith, omega arith), ((omega arith, omega arith), tt)),
)

abbrev Grows : ℕ → ℕ → List Stamp → List Stamp → Type 0
Grows n m old new = (later : List Stamp) × (new ≡ old ++ later) × CameIn n m later

grows : (more : List ℕ) (n : ℕ) (s u : State) → walk n (Some s) more ≡ Some u
    → Grows n (n + length more) s.so_far u.so_far
grows [] n s u h = ([], ap so_far_at (sym h) ∙ sym (append-nil s.so_far), tt)
grows (b ∷ more) n s u h = by_next (λ v k. grows more (n + 1) v u k) (next_of s.form b) h
  where
    by_next : ((v : State) → walk (n + 1) (Some v) more ≡ Some u
        → Grows (n + 1) (n + 1 + length more) v.so_far u.so_far)
        → (x : Option (Option Event × Form × Option Event)) → walk (n + 1) (after n s.opened s.so_far x) more ≡ Some u
        → Grows n (n + length (b ∷ more)) s.so_far u.so_far
    by_next go None k = absurd (let none = walk-none (n + 1) more in cc)
    by_next go (Some x) k =
        let a = adds n s.opened (moved s.opened n x.0) s.so_far x.0 x.2 in
        let g = go _ k in
        let e : n + 1 + length more ≡ n + length (b ∷ more) = omega arith in (
          a.0 ++ g.0,
          g.1 ∙ ap (λ (t : List Stamp). t ++ g.0) a.1 ∙ append_assoc s.so_far a.0 g.0,
          subst (λ (m : ℕ). CameIn n m (a.0 ++ g.0)) e
              (came-append n (n + 1) (n + 1 + length more) a.0 g.0 (omega arith) (omega arith) a.2 g.2),
        )

-- the events completed by the first `held` bytes
abbrev early_of : ℕ → List Stamp → List Stamp
early_of held [] = []
early_of held (t ∷ ts) = cond (leb t.completed held) (t ∷ early_of held ts) []

cond-placed : (b : Bool) (t : Stamp) (xs : List Placed) (ts : List Stamp) → xs ≡ placed_of ts
    → cond b (t.placed ∷ xs) [] ≡ placed_of (cond b (t ∷ ts) [])
cond-placed true t xs ts h = ap (λ (k : List Placed). t.placed ∷ k) h
cond-placed false t xs ts h = refl

complete-early : (held n : ℕ) (ps : List Piece)
    → complete_from held n ps ≡ placed_of (early_of held (stamped_from n ps))
complete-early held n [] = refl
complete-early held n (p ∷ ps) =
    cond-placed (leb (completed_at n p) held) (stamp (completed_at n p) (n + length p.filler) p.event) _ _
    (complete-early held (n + length (bytes_of p)) ps)

early-split : (n held m : ℕ) (xs ys : List Stamp) → CameIn n held xs → CameIn held m ys → early_of held (xs ++ ys) ≡ xs
early-split n held m [] [] h k = refl
early-split n held m [] (y ∷ ys) h k = cond-false (leb y.completed held) _ _ (lt-leb y.completed held k.0.0)
early-split n held m (x ∷ xs) ys h k =
    cond-true (leb x.completed held) _ _ (le-leb x.completed held h.0.1)
    ∙ ap (λ (t : List Stamp). x ∷ t) (early-split n held m xs ys h.1 k)

-- a viable prefix can be walked, and the events so far are the complete ones
abbrev Walks : List Placed → List ℕ → Type 0
Walks events prefix = (u : State) × (walk 0 start prefix ≡ Some u) × (events ≡ placed_of u.so_far)

viable_walks : (events : List Placed) (prefix : List ℕ) → CompleteIn events prefix → Walks events prefix
viable_walks events prefix c = by_state (walk 0 start prefix) refl
  where
    by_state : (w : Option State) → walk 0 start prefix ≡ w → Walks events prefix
    by_state None h =
        absurd (let d = document_walk c.pieces (prefix ++ c.tail) c.parses in
        let n : walk 0 start (prefix ++ c.tail) ≡ None =
        walk-then 0 (0 + length prefix) start None None prefix c.tail refl h (walk-none (0 + length prefix) c.tail) in
        cc)
    by_state (Some u) h =
        let z : 0 + length prefix ≡ length prefix = omega arith in
        let d = document_walk c.pieces (prefix ++ c.tail) c.parses in
        let g1 = grows prefix 0 (state NothingYet 0 []) u h in
        let w2 : walk (length prefix) (Some u) c.tail ≡ Some
        (state _ (length (prefix ++ c.tail)) (stamped_from 0 c.pieces)) =
        ap (λ (s : Option State). walk (length prefix) s c.tail) (sym h)
        ∙ sym (walk-append 0 (length prefix) start prefix c.tail (sym z))
        ∙ d in
        let g2 = grows c.tail (length prefix) u (state _ (length (prefix ++ c.tail)) (stamped_from 0 c.pieces)) w2 in
        let came : CameIn 0 (length prefix) u.so_far =
        subst (λ (k : ℕ). CameIn 0 k u.so_far) z (subst (CameIn 0 (0 + length prefix)) (sym g1.1) g1.2) in (
          u,
          h,
          c.complete
              ∙ complete-early (length prefix) 0 c.pieces
              ∙ ap (λ (t : List Stamp). placed_of (early_of (length prefix) t)) g2.1
              ∙ ap placed_of (early-split 0 (length prefix) (length prefix + length c.tail) u.so_far g2.0 came g2.2),
        )

pub complete_once : (prefix : List ℕ) (first second : List Placed) → CompleteIn first prefix
    → CompleteIn second prefix → first ≡ second
complete_once prefix first second a b =
    let x = viable_walks first prefix a in
    let y = viable_walks second prefix b in
    x.2 ∙ ap (λ (s : Option State). placed_of (so_far_at s)) (sym x.1 ∙ y.1) ∙ sym y.2

pub complete_stays : (prefix rest : List ℕ) (first second : List Placed) → CompleteIn first prefix
    → CompleteIn second (prefix ++ rest) → (more : List Placed) × (second ≡ first ++ more)
complete_stays prefix rest first second a b =
    let x = viable_walks first prefix a in
    let y = viable_walks second (prefix ++ rest) b in
    let w : walk (0 + length prefix) (Some x.0) rest ≡ Some y.0 =
    ap (λ (s : Option State). walk (0 + length prefix) s rest) (sym x.1)
    ∙ sym (walk-append 0 (0 + length prefix) start prefix rest refl)
    ∙ y.1 in
    let g = grows rest (0 + length prefix) x.0 y.0 w in (
      placed_of g.0,
      y.2 ∙ ap placed_of g.1 ∙ placed-append x.0.so_far g.0 ∙ ap (λ (t : List Placed). t ++ placed_of g.0) (sym x.2),
    )

-- ---- faults

prefix_of : (m n : ℕ) (xs : List ℕ) → m ≤ n → (r : List ℕ) × (take n xs ≡ take m xs ++ r)
prefix_of m n xs le =
    let e : n ≡ m + (n - m) = omega arith in
    (take (n - m) (drop m xs), ap (λ (k : ℕ). take k xs) e ∙ take-add m (n - m) xs)

get-prefix : (xs ys : List ℕ) (n : ℕ) → n < length xs → slice_get (xs ++ ys) n ≡ slice_get xs n
get-prefix [] ys n h = absurd (omega arith)
get-prefix (x ∷ xs) ys zero h = refl
get-prefix (x ∷ xs) ys (suc n) h = get-prefix xs ys n (omega arith)

pub fault_stays : (bytes more : List ℕ) (fault : Fault) → IsFaultOf bytes fault → fault.place < length bytes
    → IsFaultOf (bytes ++ more) fault
fault_stays bytes more fault h lt =
    let len = length-append bytes more in
    elim h [
      | inl t ↦ let long = t.long in let le : most_bytes ≤ length bytes = omega arith in inl (record {
        long = omega arith;
        viable = subst IsViable (sym (take-append-le most_bytes bytes more le)) t.viable;
        fault_is = t.fault_is;
      })
      | inr r ↦
          let same = take-append-le fault.place bytes more (omega arith) in
          let next = take-append-le (fault.place + 1) bytes more (omega arith) in
          inr (record {
            longest = record {
              within = omega arith;
              viable = subst IsViable (sym same) r.longest.viable;
              longest = λ n le v. elim (cases_lt fault.place n) [
                | inl past ↦
                    let f = prefix_of (fault.place + 1) n (bytes ++ more) (omega arith) in
                    let prefix = prefixes (take (fault.place + 1) (bytes ++ more)) f.0 (subst IsViable f.1 v) in
                    let too = r.longest.longest (fault.place + 1) (omega arith) (subst IsViable next prefix) in
                    absurd (omega arith)
                | inr k ↦ k
              ];
            };
            within = let w = r.within in omega arith;
            refuses = subst (λ (o : Option ℕ). Stops (take fault.place (bytes ++ more)) o fault.reason)
                (sym (get-prefix bytes more fault.place lt))
                (subst (λ (f : List ℕ). Stops f (slice_get bytes fault.place) fault.reason) (sym same) r.refuses);
          })
    ]

document_viable : (bytes : List ℕ) → IsDocument bytes → IsViable bytes
document_viable bytes d = (
  complete_from (length bytes) 0 d.1.pieces,
  record {
    tail = [];
    is_tail = (9, omega arith, refl);
    pieces = d.1.pieces;
    parses = subst (Parses d.1.pieces) (sym (append-nil bytes)) d.1.parses;
    complete = refl;
  },
)

pub fault_no_document : (bytes : List ℕ) (fault : Fault) → IsFaultOf bytes fault → IsDocument bytes → ⊥
fault_no_document bytes fault h d =
    elim h [
      | inl t ↦ let long = t.long in let short = d.1.short in omega arith
      | inr r ↦
          let le =
          r.longest.longest (length bytes) (omega arith)
          (subst IsViable (sym (take-length bytes)) (document_viable bytes d)) in
          let k : fault.place ≡ length bytes = let w = r.longest.within in omega arith in
          let f = subst (λ (n : ℕ). Stops (take n bytes) (slice_get bytes n) fault.reason) k r.refuses in
          let g =
          subst (λ (o : Option ℕ). Stops (take (length bytes) bytes) o fault.reason)
          (slice_get_past bytes (length bytes) (omega arith)) f in
          g.0 (subst IsDocument (sym (take-length bytes)) d)
    ]

pub form_once : (bytes : List ℕ) (f g : Form) {events more : List Placed} {o p : ℕ} → EndsIn f events o bytes
    → EndsIn g more p bytes → f ≡ g
form_once bytes f g a b = ap form_at (sym (ends_walk f a) ∙ ends_walk g b)

reason_once : (prefix : List ℕ) (next : Option ℕ) (r s : Reason) → Stops prefix next r → Stops prefix next s → r ≡ s
reason_once prefix None r s a b = a.1 ∙ sym b.1
reason_once prefix (Some b) r s a c = a.4 ∙ ap (λ (f : Form). refusal f b) (form_once prefix a.0 c.0 a.3 c.3) ∙ sym c.4

pub fault_once : (bytes : List ℕ) (f g : Fault) → IsFaultOf bytes f → IsFaultOf bytes g → f ≡ g
fault_once bytes f g a b =
    elim a [
      | inl t ↦ elim b [
        | inl u ↦ t.fault_is ∙ sym u.fault_is
        | inr r ↦ absurd (apart t r)
      ]
      | inr r ↦ elim b [
        | inl t ↦ absurd (apart t r)
        | inr q ↦
            let k : f.place ≡ g.place =
            (let x = q.longest.longest f.place r.longest.within r.longest.viable in
            let y = r.longest.longest g.place q.longest.within q.longest.viable in omega arith) in
            let same =
            reason_once (take g.place bytes) (slice_get bytes g.place) f.reason g.reason
            (subst (λ (n : ℕ). Stops (take n bytes) (slice_get bytes n) f.reason) k r.refuses) q.refuses in
            ap (λ (v : Reason). fault_at v f.place) same ∙ ap (fault_at g.reason) k
      ]
    ]
  where
    apart : {h i : Fault} → IsTooLong bytes h → IsRefused bytes i → ⊥
    apart {h} {i} t r =
        let long = t.long in
        let w = r.within in
        let le = r.longest.longest most_bytes (omega arith) t.viable in
        omega arith

-- ---- documents

last_finish : (e : Event) (n : ℕ) → AreRest (e ∷ []) → IsTrue (is_open_ended e) → 0 < n
last_finish (Start eight ps) n h t = absurd h
last_finish (Step c) n h t = absurd h
last_finish (Finish eight) n h t = cc

rest_more : (e f : Event) (more : List Event) → AreRest (e ∷ f ∷ more) → AreRest (f ∷ more)
rest_more (Start eight ps) f more h = absurd h
rest_more (Step c) f more h = h
rest_more (Finish eight) f more h = cc

closed_rest : (ps : List Piece) (n : ℕ) → AreRest (events_in ps) → IsClosed ps n
closed_rest [] n h = absurd h
closed_rest (p ∷ []) n h = last_finish p.event n h
closed_rest (p ∷ q ∷ ps) n h = closed_rest (q ∷ ps) n (rest_more p.event q.event (events_in ps) h)

rest_of : (e : Event) (more : List Event) → AreWhole (e ∷ more) → AreRest more
rest_of (Start eight ps) more h = h
rest_of (Step c) more h = absurd h
rest_of (Finish eight) more h = absurd h

closed_whole : (ps : List Piece) (n : ℕ) → AreWhole (events_in ps) → IsClosed ps n
closed_whole [] n h = absurd h
closed_whole (p ∷ []) n h = absurd (rest_of p.event [] h)
closed_whole (p ∷ q ∷ ps) n h = closed_rest (q ∷ ps) n (rest_of p.event (events_in (q ∷ ps)) h)

-- a document ends in the form `Ended`
pub document_ends : (events : List Placed) (bytes : List ℕ) → Document events bytes
    → (opened : ℕ) × EndsIn Ended events opened bytes
document_ends events bytes d = (
  length (joined d.pieces) + length d.parses.after,
  record {
    pieces = d.pieces;
    filler = d.parses.after;
    open_bytes = [];
    bytes_are = d.parses.bytes_are ∙ sym (append-nil (joined d.pieces ++ d.parses.after));
    each = d.parses.each;
    filler_is = d.parses.after_is;
    opens = refl;
    before = d.parses.whole;
    closed = closed_whole d.pieces (length d.parses.after + 0) d.parses.whole;
    events_are = d.events_are;
    opened_is = refl;
  },
)

-- all events of a document are complete in its bytes
pub document_complete : (events : List Placed) (bytes : List ℕ) → Document events bytes → CompleteIn events bytes
document_complete events bytes d = complete Ended (document_ends events bytes d).1

-- a prefix of bytes that parse is viable
pub parsed_prefix : (prefix rest : List ℕ) (pieces : List Piece) → Parses pieces (prefix ++ rest) → IsViable prefix
parsed_prefix prefix rest pieces h = prefixes prefix rest (
  complete_from (length (prefix ++ rest)) 0 pieces,
  record {
    tail = [];
    is_tail = (9, omega arith, refl);
    pieces = pieces;
    parses = subst (Parses pieces) (sym (append-nil (prefix ++ rest))) h;
    complete = refl;
  },
)
