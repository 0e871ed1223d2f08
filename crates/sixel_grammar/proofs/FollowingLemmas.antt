-- Events that are handed on while they are read.
use Rattle.std.proofs.Common.{◌≡◌, ◌==◌, ◌∙◌, ◌-◌, ◌<◌, ℕ, true, List, [], ◌∷◌, ◌++◌, Result, Ok, Err}
use Rattle.std.proofs.Common.{ap, append_assoc, arith, drop, get_or, length, length-append, refl, subst, sym, take}
use Rattle.std.specs.Prelude.{IfErr, OnOk}
use Rattle.std.proofs.lemmas.Bool.{eqb-true}
use Rattle.std.proofs.lemmas.List.{append-nil, length-drop, take-append-drop}
use Rattle.sixel_grammar.specs.declared.command.Placed.{Placed}
use Rattle.sixel_grammar.specs.declared.command.Run.{Run}
use Rattle.sixel_grammar.specs.declared.fault.Fault.{Fault}
use Rattle.sixel_grammar.specs.declared.halt.Halt.{Halt}
use Rattle.sixel_grammar.specs.declared.halt.Halt.TheVariants.{Refused, Stopped}
use Rattle.sixel_grammar.specs.declared.reader.Reader.{Reader}
use Rattle.sixel_grammar.specs.Faults.{IsFaultOf}
use Rattle.sixel_grammar.specs.Following.{AreFollowed, FollowsBytes, HaltsWithin, HoldsIn, MayFollow}
use Rattle.sixel_grammar.specs.Following.{RefusesAt, StopsAmong, TakesEvents, halt_of}
use Rattle.sixel_grammar.specs.Runs.{TakesRun, columns_in, events_of_run}
use Rattle.sixel_grammar.specs.Standing.{Refuses, StandsAfter, Takes}
use Rattle.sixel_grammar.proofs.SourceLemmas.{take_past}
use Rattle.sixel_grammar.proofs.UniqueLemmas.{fault_stays}

-- ---- what may follow

pub may_all : (reader : Reader) (seen more : List Placed) (bytes : List ℕ) → StandsAfter reader (seen ++ more) bytes
    → MayFollow seen more
may_all reader seen more bytes s = record {
  rest = [];
  reader = reader;
  bytes = bytes;
  stands = subst (λ (es : List Placed). StandsAfter reader (seen ++ es) bytes) (sym (append-nil more)) s;
}

-- the first of two parts
pub may_first : (seen xs ys : List Placed) → MayFollow seen (xs ++ ys) → MayFollow seen xs
may_first seen xs ys m = record {
  rest = ys ++ m.rest;
  reader = m.reader;
  bytes = m.bytes;
  stands = subst (λ (es : List Placed). StandsAfter m.reader (seen ++ es) m.bytes) (append_assoc xs ys m.rest) m.stands;
}

-- the second, after the first
pub may_then : (seen xs ys : List Placed) → MayFollow seen (xs ++ ys) → MayFollow (seen ++ xs) ys
may_then seen xs ys m = record {
  rest = m.rest;
  reader = m.reader;
  bytes = m.bytes;
  stands = subst (λ (es : List Placed). StandsAfter m.reader es m.bytes)
      (ap (λ (es : List Placed). seen ++ es) (append_assoc xs ys m.rest)
      ∙ sym (append_assoc seen xs (ys ++ m.rest)))
      m.stands;
}

-- ---- events in two parts

pub takes_none : {F : Type 0} (has_taken : F → F → List Placed → Type 0) (f : F) → TakesEvents has_taken f f []
takes_none has_taken f = λ first seen h. subst (has_taken first f) (sym (append-nil seen)) h

pub stops_first : {F S : Type 0} (has_taken : F → F → List Placed → Type 0)
    (may_stop : F → F → S → List Placed → Type 0) (a b : F) (xs ys : List Placed) (stop : S)
    → StopsAmong has_taken may_stop a b xs stop → StopsAmong has_taken may_stop a b (xs ++ ys) stop
stops_first has_taken may_stop a b xs ys stop stops = λ first seen h.
    let w = stops first seen h in
    record {
      taken = w.taken;
      rest = w.rest ++ ys;
      are = ap (λ (es : List Placed). es ++ ys) w.are ∙ append_assoc w.taken w.rest ys;
      holds = w.holds;
    }

pub stops_then : {F S : Type 0} (has_taken : F → F → List Placed → Type 0)
    (may_stop : F → F → S → List Placed → Type 0) (a b c : F) (xs ys : List Placed) (stop : S)
    → TakesEvents has_taken a b xs → StopsAmong has_taken may_stop b c ys stop
    → StopsAmong has_taken may_stop a c (xs ++ ys) stop
stops_then has_taken may_stop a b c xs ys stop takes stops = λ first seen h.
    let w = stops first (seen ++ xs) (takes first seen h) in
    record {
      taken = xs ++ w.taken;
      rest = w.rest;
      are = ap (λ (es : List Placed). xs ++ es) w.are ∙ sym (append_assoc xs w.taken w.rest);
      holds = subst (may_stop first c stop) (append_assoc seen xs w.taken) w.holds;
    }

-- ---- the events of a byte, and of a run

pub followed_byte : {F : Type 0} (has_taken : F → F → List Placed → Type 0) (reader r : Reader) (old new : F)
    (byte : ℕ) (more : List Placed) → Takes reader r byte more → TakesEvents has_taken old new more
    → FollowsBytes has_taken reader old r new (byte ∷ [])
followed_byte has_taken reader r old new byte more reads takes = λ first prefix a. record {
  events = a.events ++ more;
  read = reads a.events prefix a.read;
  taken = takes first a.events a.taken;
}

pub stopped_byte : {F S : Type 0} (has_taken : F → F → List Placed → Type 0)
    (may_stop : F → F → S → List Placed → Type 0) (reader r : Reader) (old new : F) (byte : ℕ)
    (more : List Placed) (stop : S) → Takes reader r byte more → StopsAmong has_taken may_stop old new more stop
    → HaltsWithin has_taken may_stop reader old r new (byte ∷ []) (Stopped stop)
stopped_byte has_taken may_stop reader r old new byte more stop reads stops = λ first prefix a.
    let w = stops first a.events a.taken in
    record {
      read = prefix ++ byte ∷ [];
      unread = [];
      bytes_are = sym (append-nil (prefix ++ byte ∷ []));
      taken = a.events ++ w.taken;
      rest = w.rest;
      reader = r;
      stands = subst (λ (es : List Placed). StandsAfter r es (prefix ++ byte ∷ []))
          (ap (λ (es : List Placed). a.events ++ es) w.are ∙ sym (append_assoc a.events w.taken w.rest))
          (reads a.events prefix a.read);
      holds = w.holds;
    }

pub refused_byte : {F S : Type 0} (has_taken : F → F → List Placed → Type 0)
    (may_stop : F → F → S → List Placed → Type 0) (reader r : Reader) (old : F) (byte : ℕ) (fault : Fault)
    → Refuses reader r byte fault
    → HaltsWithin has_taken may_stop reader old r old (byte ∷ []) (Refused fault)
refused_byte has_taken may_stop reader r old byte fault refuses = λ first prefix a.
    let t = refuses a.events prefix a.read in
    record {
      kept = t.2;
      read = prefix;
      byte = byte;
      unread = [];
      bytes_are = refl;
      is_fault = λ rest.
          subst (λ (b : List ℕ). IsFaultOf b fault) (append_assoc prefix (byte ∷ []) rest)
          (fault_stays (prefix ++ byte ∷ []) rest fault t.0 (omega (arith, t.1, length-append prefix (byte ∷ []))));
      place = t.1;
      before = reader;
      followed = a;
    }

pub followed_run : {F : Type 0} (has_taken : F → F → List Placed → Type 0) (reader r : Reader) (old new : F)
    (run : Run) (piece : List ℕ) → TakesRun reader r run piece
    → TakesEvents has_taken old new (events_of_run run piece)
    → FollowsBytes has_taken reader old r new (take run.length piece)
followed_run has_taken reader r old new run piece reads takes = λ first prefix a. record {
  events = a.events ++ events_of_run run piece;
  read = (reads a.events prefix a.read).1;
  taken = takes first a.events a.taken;
}

pub stopped_run : {F S : Type 0} (has_taken : F → F → List Placed → Type 0)
    (may_stop : F → F → S → List Placed → Type 0) (reader r : Reader) (old new : F) (run : Run)
    (piece : List ℕ) (stop : S) → TakesRun reader r run piece
    → StopsAmong has_taken may_stop old new (events_of_run run piece) stop
    → HaltsWithin has_taken may_stop reader old r new piece (Stopped stop)
stopped_run has_taken may_stop reader r old new run piece stop reads stops = λ first prefix a.
    let w = stops first a.events a.taken in
    record {
      read = prefix ++ take run.length piece;
      unread = drop run.length piece;
      bytes_are = ap (λ (t : List ℕ). prefix ++ t) (sym (take-append-drop run.length piece))
          ∙ sym (append_assoc prefix (take run.length piece) (drop run.length piece));
      taken = a.events ++ w.taken;
      rest = w.rest;
      reader = r;
      stands = subst (λ (es : List Placed). StandsAfter r es (prefix ++ take run.length piece))
          (ap (λ (es : List Placed). a.events ++ es) w.are ∙ sym (append_assoc a.events w.taken w.rest))
          (reads a.events prefix a.read).1;
      holds = w.holds;
    }

-- the fault is that of any bytes that begin with all of these
pub always_refused : {F : Type 0} (has_taken : F → List Placed → Type 0) (r : Reader) (follower : F) (bytes : List ℕ)
    (fault : Fault) → RefusesAt has_taken r follower bytes fault → (rest : List ℕ) → IsFaultOf (bytes ++ rest) fault
always_refused has_taken r follower bytes fault h rest =
    subst (λ (b : List ℕ). IsFaultOf b fault)
    (sym (ap (λ (b : List ℕ). b ++ rest) h.bytes_are ∙ append_assoc h.read (h.byte ∷ h.unread) rest))
    (h.is_fault (h.unread ++ rest))

-- ---- a piece in parts

-- with bytes behind them
pub halts_longer : {F S : Type 0} (has_taken : F → F → List Placed → Type 0)
    (may_stop : F → F → S → List Placed → Type 0) (reader r : Reader) (old new : F) (more later : List ℕ)
    (halt : Halt S) → HaltsWithin has_taken may_stop reader old r new more halt
    → HaltsWithin has_taken may_stop reader old r new (more ++ later) halt
halts_longer has_taken may_stop reader r old new more later (Refused fault) halts = λ first prefix a.
    let h = halts first prefix a in
    record {
      kept = h.kept;
      read = h.read;
      byte = h.byte;
      unread = h.unread ++ later;
      bytes_are = sym (append_assoc prefix more later) ∙ ap (λ (t : List ℕ). t ++ later) h.bytes_are
          ∙ append_assoc h.read (h.byte ∷ h.unread) later;
      is_fault = h.is_fault;
      place = h.place;
      before = h.before;
      followed = h.followed;
    }
halts_longer has_taken may_stop reader r old new more later (Stopped stop) halts = λ first prefix a.
    let h = halts first prefix a in
    record {
      read = h.read;
      unread = h.unread ++ later;
      bytes_are = sym (append_assoc prefix more later) ∙ ap (λ (t : List ℕ). t ++ later) h.bytes_are
          ∙ append_assoc h.read h.unread later;
      taken = h.taken;
      rest = h.rest;
      reader = h.reader;
      stands = h.stands;
      holds = h.holds;
    }

-- after bytes that were followed
pub halts_later : {F S : Type 0} (has_taken : F → F → List Placed → Type 0)
    (may_stop : F → F → S → List Placed → Type 0) (reader mid r : Reader) (old now new : F) (before more : List ℕ)
    (halt : Halt S) → FollowsBytes has_taken reader old mid now before
    → HaltsWithin has_taken may_stop mid now r new more halt
    → HaltsWithin has_taken may_stop reader old r new (before ++ more) halt
halts_later has_taken may_stop reader mid r old now new before more (Refused fault) follows halts = λ first prefix a.
    subst (λ (t : List ℕ). RefusesAt (has_taken first) r new t fault) (append_assoc prefix before more)
    (halts first (prefix ++ before) (follows first prefix a))
halts_later has_taken may_stop reader mid r old now new before more (Stopped stop) follows halts = λ first prefix a.
    subst (HoldsIn (may_stop first new stop)) (append_assoc prefix before more)
    (halts first (prefix ++ before) (follows first prefix a))

pub follows_later : {F : Type 0} (has_taken : F → F → List Placed → Type 0) (reader mid r : Reader) (old now new : F)
    (before more : List ℕ) → FollowsBytes has_taken reader old mid now before
    → FollowsBytes has_taken mid now r new more → FollowsBytes has_taken reader old r new (before ++ more)
follows_later has_taken reader mid r old now new before more one two = λ first prefix a.
    subst (AreFollowed (has_taken first) r new) (append_assoc prefix before more)
    (two first (prefix ++ before) (one first prefix a))

pub takes_nothing : {F : Type 0} (has_taken : F → F → List Placed → Type 0) (reader : Reader) (f : F)
    → FollowsBytes has_taken reader f reader f []
takes_nothing has_taken reader f = λ first prefix a.
    subst (AreFollowed (has_taken first) reader f) (sym (append-nil prefix)) a

-- what is left after the first k
abbrev pub rest_of : ℕ → List ℕ → List ℕ
rest_of k xs = take (length xs - k) (drop k xs)

pub rest_is : (k : ℕ) (xs : List ℕ) → rest_of k xs ≡ drop k xs
rest_is k xs = take_past (length xs - k) (drop k xs) (omega (arith, length-drop k xs))

-- some bytes, the first of the rest, and what is left then
pub parts_then : (done rest : List ℕ) (k : ℕ) → done ++ rest ≡ (done ++ take k rest) ++ rest_of k rest
parts_then done rest k =
    ap (λ (t : List ℕ). done ++ t)
    (sym (take-append-drop k rest) ∙ ap (λ (t : List ℕ). take k rest ++ t) (sym (rest_is k rest)))
    ∙ sym (append_assoc done (take k rest) (rest_of k rest))

pub no_rest : (rest : List ℕ) → (length rest == 0) ≡ true → rest ≡ []
no_rest [] e = refl
no_rest (x ∷ xs) e = let none : length (x ∷ xs) ≡ 0 = eqb-true _ _ e in absurd (omega (arith, none))

-- the first byte of a piece, and the rest
pub first_rest : (bytes : List ℕ) → 0 < length bytes → (get_or bytes 0 0 ∷ []) ++ drop 1 bytes ≡ bytes
first_rest [] some = absurd (omega arith)
first_rest (b ∷ rest) some = refl

-- the bytes of a run's columns, as a part of what is left after its select
pub columns_are : (run : Run) (piece : List ℕ) → take (run.length - run.start) (rest_of run.start piece)
    ≡ columns_in run piece
columns_are run piece = ap (λ (t : List ℕ). take (run.length - run.start) t) (rest_is run.start piece)

-- what holds of an error, and so another
pub if_err : {A E : Type 0} (r : Result A E) (P Q : E → Type 0) → ((e : E) → P e → Q e) → IfErr r P → IfErr r Q
if_err (Ok a) P Q f h = tt
if_err (Err e) P Q f h = f e h

-- ---- a follower's result, as that of the reading

pub on_halt : {S : Type 0} (handed : Result (Unit {0}) S) (result : Result (Unit {0}) (Halt S)) (P Q : Type 0)
    → result ≡ halt_of handed → (P → Q) → OnOk handed P → OnOk result Q
on_halt (Ok u) result P Q is f h = subst (λ r. OnOk r Q) (sym is) (f h)
on_halt (Err s) result P Q is f h = subst (λ r. OnOk r Q) (sym is) tt

pub if_halt : {S : Type 0} (handed : Result (Unit {0}) S) (result : Result (Unit {0}) (Halt S)) (P : S → Type 0)
    (Q : Halt S → Type 0) → result ≡ halt_of handed → ((s : S) → P s → Q (Stopped s)) → IfErr handed P → IfErr result Q
if_halt (Ok u) result P Q is f h = subst (λ r. IfErr r Q) (sym is) tt
if_halt (Err s) result P Q is f h = subst (λ r. IfErr r Q) (sym is) (f s h)
