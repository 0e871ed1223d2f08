-- Bytes that end in a form are a prefix of a document, and the events before what is open are the complete ones.
use Rattle.std.proofs.Common.{◌≡◌, ℕ, ◌+◌, ◌<◌, ◌≤◌, Bool, true, false, cond, List, [], ◌∷◌, ◌++◌, length, refl, sym}
use Rattle.std.proofs.Common.{ap, subst, ◌∙◌, append_assoc, arith, length-append, inl, inr}
use Rattle.std.specs.Prelude.{Contains, ◌⊎◌}
use Rattle.std.specs.List.{AllByRecursion}
use Rattle.std.proofs.lemmas.List.{append-nil}
use Rattle.std.proofs.lemmas.Bool.{le-leb, lt-leb}
use Rattle.sixel_grammar.specs.declared.command.Command.{Command}
use Rattle.sixel_grammar.specs.declared.command.Command.TheVariants.{Sixel, CarriageReturn, NextLine, Repeat, Raster}
use Rattle.sixel_grammar.specs.declared.command.Command.TheVariants.{Select, Define}
use Rattle.sixel_grammar.specs.declared.command.Event.{Event}
use Rattle.sixel_grammar.specs.declared.command.Event.TheVariants.{Start, Step, Finish}
use Rattle.sixel_grammar.specs.declared.command.Placed.{Placed}
use Rattle.sixel_grammar.specs.Bytes.{introducer}
use Rattle.sixel_grammar.specs.Spelling.{Spells, is_open_ended}
use Rattle.sixel_grammar.specs.Document.{AreFiller, Piece, IsPiece, bytes_of, joined, events_in, placed_from, AreWhole}
use Rattle.sixel_grammar.specs.Prefixes.{tails, completed_at, complete_from, CompleteIn}
use Rattle.sixel_grammar.specs.Faults.{Form, NothingYet, Introducing, Parameters, LastSeparator, NoCommand}
use Rattle.sixel_grammar.specs.Faults.{RepeatNumber, RasterFields, ColourFields, Terminating, Ended, EndsIn, IsClosed}
use Rattle.sixel_grammar.specs.Faults.{AreBegun}
use Rattle.sixel_grammar.proofs.NumberLemmas.{no_digits, fields-separator}
use Rattle.sixel_grammar.proofs.PieceLemmas.{joined-append, said-append, all-append, begun-step, begun-finish, start_of}

-- no spelling is empty
pub spells-some : (e : Event) (text : List ℕ) → Spells e text → 0 < length text
spells-some (Start true ps) text h = omega (arith, ap length h.5)
spells-some (Start false ps) text h = omega (arith, ap length h.5)
spells-some (Step (Sixel bits)) text h = omega (arith, ap length h.1)
spells-some (Step (Repeat n bits)) text h = omega (arith, ap length h.3)
spells-some (Step (Raster a b c d)) text h = omega (arith, ap length h.5)
spells-some (Step (Select r)) text h = omega (arith, ap length h.2)
spells-some (Step (Define r s x y z)) text h = omega (arith, ap length h.2)
spells-some (Step CarriageReturn) text h = omega (arith, ap length h)
spells-some (Step NextLine) text h = omega (arith, ap length h)
spells-some (Finish true) text h = omega (arith, ap length h)
spells-some (Finish false) text h = omega (arith, ap length h)

-- the first piece, from offset n on, isn't complete in this many bytes
abbrev pub IsShort : ℕ → ℕ → List Piece → Type 0
IsShort held n [] = Unit {0}
IsShort held n (p ∷ ps) = held < completed_at n p

complete-short : (held n : ℕ) (ps : List Piece) → IsShort held n ps → complete_from held n ps ≡ []
complete-short held n [] h = refl
complete-short held n (p ∷ ps) h =
    ap (λ (t : Bool).
    cond t (record { place = n + length p.filler; event = p.event } ∷ complete_from held
    (n + length (bytes_of p)) ps) [])
    (lt-leb (completed_at n p) held h)

complete-first : (held n : ℕ) (p : Piece) (ps : List Piece) → completed_at n p ≤ held
    → complete_from held n (p ∷ ps)
    ≡ record { place = n + length p.filler; event = p.event } ∷ complete_from held (n + length (bytes_of p)) ps
complete-first held n p ps h =
    ap (λ (t : Bool).
    cond t (record { place = n + length p.filler; event = p.event } ∷ complete_from held
    (n + length (bytes_of p)) ps) [])
    (le-leb (completed_at n p) held h)

one_more : (t : Bool) (k : ℕ) → (t ≡ true → 0 < k) → cond t 1 0 ≤ k
one_more true k h = let r = h refl in omega arith
one_more false k h = omega arith

at_most_one : (t : Bool) → cond t 1 0 ≤ 1
at_most_one true = omega arith
at_most_one false = omega arith

pub complete-prefix : (held n k : ℕ) (ps qs : List Piece) → AllByRecursion IsPiece ps
    → n + length (joined ps) + k ≤ held → IsClosed ps k → IsShort held (n + length (joined ps)) qs
    → complete_from held n (ps ++ qs) ≡ placed_from n ps
complete-prefix held n k [] qs each le closed short = let e : n + 0 ≡ n = omega arith in complete-short held n qs
    (rw e at short)
complete-prefix held n k (p ∷ []) qs each le closed short =
    let m = one_more (is_open_ended p.event) k closed in
    let j : length (bytes_of p ++ []) ≡ length (bytes_of p) = ap length (append-nil (bytes_of p)) in
    let first : completed_at n p ≤ held = omega arith in
    let s : n + length (bytes_of p ++ []) ≡ n + length (bytes_of p) = omega arith in
    complete-first held n p qs first
    ∙ ap (λ (es : List Placed). record { place = n + length p.filler; event = p.event } ∷ es)
    (complete-short held (n + length (bytes_of p)) qs (rw s at short))
complete-prefix held n k (p ∷ q ∷ ps) qs each le closed short =
    let some = spells-some q.event q.text each.1.0.spells in
    let m = at_most_one (is_open_ended p.event) in
    let l1 = length-append (bytes_of p) (joined (q ∷ ps)) in
    let l2 = length-append (bytes_of q) (joined ps) in
    let l3 = length-append q.filler q.text in
    let first : completed_at n p ≤ held = omega arith in
    let s : n + length (joined (p ∷ q ∷ ps)) ≡ n + length (bytes_of p) + length (joined (q ∷ ps)) = omega arith in
    complete-first held n p (q ∷ ps ++ qs) first
    ∙ ap (λ (es : List Placed). record { place = n + length p.filler; event = p.event } ∷ es)
    (complete-prefix held (n + length (bytes_of p)) k (q ∷ ps) qs each.1 (omega arith) closed (rw s at short))

-- how many bytes there are
sizes : {f : Form} {events : List Placed} {opened : ℕ} {bytes : List ℕ} (e : EndsIn f events opened bytes)
    → length bytes ≡ length (joined e.pieces) + (length e.filler + length e.open_bytes)
sizes e =
    omega (
      arith,
      ap length e.bytes_are,
      length-append (joined e.pieces ++ e.filler) e.open_bytes,
      length-append (joined e.pieces) e.filler,
    )

-- if a tail continues the bytes with more pieces, the events before those are complete
pub goes_on : {f : Form} {events : List Placed} {opened : ℕ} {bytes : List ℕ} (e : EndsIn f events opened bytes)
    (tail : List ℕ) (more : List Piece) (after : List ℕ)
    → Contains tails tail
    → e.filler ++ e.open_bytes ++ tail ≡ joined more ++ after → AllByRecursion IsPiece more → AreFiller after
    → AreWhole (events_in e.pieces ++ events_in more) → IsShort (length bytes) (length (joined e.pieces)) more
    → CompleteIn events bytes
goes_on {bytes = bytes} e tail more after is_tail joins each filler whole short = record {
  tail = tail;
  is_tail = is_tail;
  pieces = e.pieces ++ more;
  parses = record {
    after = after;
    bytes_are = ap (λ (t : List ℕ). t ++ tail) e.bytes_are
        ∙ simp append_assoc
        (ap (λ (t : List ℕ). joined e.pieces ++ t) (simp append_assoc at joins)
        ∙ sym (ap (λ (t : List ℕ). t ++ after) (joined-append e.pieces more)
        ∙ append_assoc (joined e.pieces) (joined more) after));
    each = all-append IsPiece e.pieces more e.each each;
    whole = rw said-append whole;
    after_is = filler;
  };
  complete = let z : length (joined e.pieces) ≡ 0 + length (joined e.pieces) = omega arith in e.events_are
      ∙ sym (complete-prefix (length bytes) 0 (length e.filler + length e.open_bytes) e.pieces more e.each
      (omega (arith, sizes e)) e.closed
      (rw z at short));
}

abbrev pub finish_piece : List ℕ → Piece
finish_piece filler = record { filler = filler; text = 27 ∷ 92 ∷ []; event = Finish false }

is_finish : (filler : List ℕ) → AreFiller filler → IsPiece (finish_piece filler)
is_finish filler h = record { filler_is = h; spells = refl }

-- before the start: the tail completes the start, then ends the string
with_start : {f : Form} {events : List Placed} {opened : ℕ} {bytes : List ℕ} (e : EndsIn f events opened bytes)
    (eight : Bool) (ns more : List ℕ)
    → events_in e.pieces ≡ [] → Contains tails (more ++ 27 ∷ 92 ∷ []) → 0 < length more
    → Spells (start_of eight ns) (e.open_bytes ++ more) → CompleteIn events bytes
with_start e eight ns more none is_tail some spells =
    let p : Piece = record { filler = e.filler; text = e.open_bytes ++ more; event = start_of eight ns } in
    goes_on e (more ++ 27 ∷ 92 ∷ []) (p ∷ finish_piece [] ∷ []) [] is_tail
    (simp (append_assoc, append-nil))
    (record { filler_is = e.filler_is; spells = spells }, (is_finish [] tt, tt)) tt (rw none refl)
    (omega (arith, sizes e, length-append e.filler (e.open_bytes ++ more), length-append e.open_bytes more))

-- after the start: the tail completes the command if necessary, then ends the string
with_step : {f : Form} {events : List Placed} {opened : ℕ} {bytes : List ℕ} (e : EndsIn f events opened bytes)
    (c : Command) (more : List ℕ)
    → AreBegun (events_in e.pieces) → Contains tails (more ++ 27 ∷ 92 ∷ [])
    → (is_open_ended (Step c) ≡ true) ⊎ (0 < length more) → Spells (Step c) (e.open_bytes ++ more)
    → CompleteIn events bytes
with_step {bytes = bytes} e c more begun is_tail some spells =
    let p : Piece = record { filler = e.filler; text = e.open_bytes ++ more; event = Step c } in
    let whole : length (e.filler ++ (e.open_bytes ++ more)) ≡ length e.filler + (length e.open_bytes + length more) =
    omega (arith, length-append e.filler (e.open_bytes ++ more), length-append e.open_bytes more) in
    let short : length bytes < completed_at (length (joined e.pieces)) p = elim some [
      | inl t ↦ rw t (omega (arith, sizes e, whole))
      | inr l ↦ omega (arith, sizes e, whole)
    ] in
    goes_on e (more ++ 27 ∷ 92 ∷ []) (p ∷ finish_piece [] ∷ []) [] is_tail
    (simp (append_assoc, append-nil)) (record { filler_is = e.filler_is; spells = spells }, (is_finish [] tt, tt)) tt
    (subst AreWhole (append_assoc (events_in e.pieces) (Step c ∷ []) (Finish false ∷ []))
    (begun-finish (events_in e.pieces ++ Step c ∷ []) false (begun-step (events_in e.pieces) c begun)))
    short

pub complete : (f : Form) {events : List Placed} {opened : ℕ} {bytes : List ℕ} (e : EndsIn f events opened bytes)
    → CompleteIn events bytes
complete NothingYet e =
    let o : e.open_bytes ≡ [] = e.opens in
    with_start e false (0 ∷ []) (27 ∷ 80 ∷ 113 ∷ []) e.before (0, omega arith, refl) (omega arith)
    ([], 113 ∷ [], no_digits, omega arith, inl refl, rw o refl)
complete Introducing e =
    let o : e.open_bytes ≡ 27 ∷ [] = e.opens in
    with_start e false (0 ∷ []) (80 ∷ 113 ∷ []) e.before (1, omega arith, refl) (omega arith)
    ([], 113 ∷ [], no_digits, omega arith, inl refl, rw o refl)
complete (Parameters eight ns n) e =
    let o = e.opens in
    with_start e eight (ns ++ n ∷ []) (113 ∷ []) e.before (2, omega arith, refl) (omega arith) (
      o.0,
      113 ∷ [],
      o.1,
      omega (arith, o.2, length-append ns (n ∷ [])),
      inl refl,
      ap (λ (t : List ℕ). t ++ 113 ∷ []) o.3,
    )
complete (LastSeparator eight ns) e =
    let o = e.opens in
    with_start e eight ns (113 ∷ []) e.before (2, omega arith, refl) (omega arith) (
      o.0,
      59 ∷ 113 ∷ [],
      o.1,
      omega (arith, o.2),
      inr (refl, o.2),
      ap (λ (t : List ℕ). t ++ 113 ∷ []) o.3 ∙ append_assoc (introducer eight ++ o.0) (59 ∷ []) (113 ∷ []),
    )
complete NoCommand e =
    let o : e.open_bytes ≡ [] = e.opens in
    goes_on e (27 ∷ 92 ∷ []) (finish_piece e.filler ∷ []) [] (3, omega arith, refl)
    (rw o (simp append_assoc)) (is_finish e.filler e.filler_is, tt) tt
    (begun-finish (events_in e.pieces) false e.before)
    (omega (arith, sizes e, ap length o, length-append e.filler (27 ∷ 92 ∷ [])))
complete (RepeatNumber n) e =
    let o = e.opens in
    with_step e (Repeat n 63) (126 ∷ []) e.before (4, omega arith, refl) (inr (omega arith))
    (o.0, o.1, omega arith, ap (λ (t : List ℕ). t ++ 126 ∷ []) o.2)
complete (RasterFields [] a) e =
    let o = e.opens in
    with_step e (Raster a 0 0 0) [] e.before (3, omega arith, refl) (inl refl)
    (a ∷ [], o.0, o.1, omega arith, refl, append-nil e.open_bytes ∙ o.3)
complete (RasterFields (a ∷ []) b) e =
    let o = e.opens in
    with_step e (Raster a b 0 0) [] e.before (3, omega arith, refl) (inl refl)
    (a ∷ b ∷ [], o.0, o.1, omega arith, refl, append-nil e.open_bytes ∙ o.3)
complete (RasterFields (a ∷ b ∷ []) c) e =
    let o = e.opens in
    with_step e (Raster a b c 0) [] e.before (3, omega arith, refl) (inl refl)
    (a ∷ b ∷ c ∷ [], o.0, o.1, omega arith, refl, append-nil e.open_bytes ∙ o.3)
complete (RasterFields (a ∷ b ∷ c ∷ []) d) e =
    let o = e.opens in
    with_step e (Raster a b c d) [] e.before (3, omega arith, refl) (inl refl)
    (a ∷ b ∷ c ∷ d ∷ [], o.0, o.1, omega arith, refl, append-nil e.open_bytes ∙ o.3)
complete (RasterFields (a ∷ b ∷ c ∷ d ∷ ns) n) e = let o = e.opens in absurd (omega (arith, o.2))
complete (ColourFields [] a) e =
    let o = e.opens in
    with_step e (Select a) [] e.before (3, omega arith, refl) (inl refl) (o.0, o.1, append-nil e.open_bytes ∙ o.3)
complete (ColourFields (a ∷ []) b) e =
    let o = e.opens in
    with_step e (Define a b 0 0 0) (59 ∷ 59 ∷ 59 ∷ []) e.before (7, omega arith, refl) (inl refl) (
      o.0 ++ 59 ∷ [] ++ 59 ∷ [] ++ 59 ∷ [],
      fields-separator (a ∷ b ∷ 0 ∷ []) 0 (o.0 ++ 59 ∷ [] ++ 59 ∷ [])
          (fields-separator (a ∷ b ∷ []) 0 (o.0 ++ 59 ∷ []) (fields-separator (a ∷ []) b o.0 o.1)),
      ap (λ (t : List ℕ). t ++ 59 ∷ 59 ∷ 59 ∷ []) o.3 ∙ simp append_assoc,
    )
complete (ColourFields (a ∷ b ∷ []) c) e =
    let o = e.opens in
    with_step e (Define a b c 0 0) (59 ∷ 59 ∷ []) e.before (6, omega arith, refl) (inl refl) (
      o.0 ++ 59 ∷ [] ++ 59 ∷ [],
      fields-separator (a ∷ b ∷ c ∷ []) 0 (o.0 ++ 59 ∷ []) (fields-separator (a ∷ b ∷ []) c o.0 o.1),
      ap (λ (t : List ℕ). t ++ 59 ∷ 59 ∷ []) o.3 ∙ simp append_assoc,
    )
complete (ColourFields (a ∷ b ∷ c ∷ []) d) e =
    let o = e.opens in
    with_step e (Define a b c d 0) (59 ∷ []) e.before (5, omega arith, refl) (inl refl)
    (o.0 ++ 59 ∷ [], fields-separator (a ∷ b ∷ c ∷ []) d o.0 o.1, ap (λ (t : List ℕ). t ++ 59 ∷ []) o.3)
complete (ColourFields (a ∷ b ∷ c ∷ d ∷ []) n) e =
    let o = e.opens in
    with_step e (Define a b c d n) [] e.before (3, omega arith, refl) (inl refl)
    (o.0, o.1, append-nil e.open_bytes ∙ o.3)
complete (ColourFields (a ∷ b ∷ c ∷ d ∷ k ∷ ns) n) e = let o = e.opens in absurd (omega (arith, o.2))
complete Terminating e =
    let o : e.open_bytes ≡ 27 ∷ [] = e.opens in
    goes_on e (92 ∷ []) (finish_piece e.filler ∷ []) [] (8, omega arith, refl)
    (rw o (simp append_assoc)) (is_finish e.filler e.filler_is, tt) tt
    (begun-finish (events_in e.pieces) false e.before)
    (omega (arith, sizes e, ap length o, length-append e.filler (27 ∷ 92 ∷ [])))
complete Ended e =
    let o : e.open_bytes ≡ [] = e.opens in
    goes_on e [] [] e.filler (9, omega arith, refl) (rw o (simp append-nil)) tt e.filler_is (rw append-nil e.before) tt
