-- Events that are read may be pushed, in order.
use Rattle.std.proofs.Common.{◌≡◌, ℕ, true, false, not, IsTrue, ◌⊎◌, inl, inr, List, [], ◌∷◌, ◌++◌, Result, Ok, Err}
use Rattle.std.proofs.Common.{Option, Some}
use Rattle.std.proofs.Common.{sym, ◌∙◌, ap, subst, refl, arith, length, ◌+◌, ◌-◌, ◌<◌}
use Rattle.std.specs.Prelude.{IfErr, OnErr, OnOk}
use Rattle.std.proofs.lemmas.Bool.{and_from}
use Rattle.std.proofs.lemmas.List.{map-append}
use Rattle.sixel_grammar.specs.declared.command.Command.TheVariants.{Sixel}
use Rattle.sixel_grammar.specs.declared.command.Event.{Event}
use Rattle.sixel_grammar.specs.declared.command.Event.TheVariants.{Start, Step, Finish}
use Rattle.sixel_grammar.specs.declared.command.Placed.{Placed}
use Rattle.sixel_grammar.specs.Document.{AreRest, AreWhole, Document, events_of}
use Rattle.sixel_grammar.specs.Faults.{AreBegun, ArePrefix, AreSteps, IsFaultOf}
use Rattle.sixel_grammar.specs.FixedText.{CanWriteAll}
use Rattle.sixel_grammar.specs.Following.{AreFollowed, FollowsBytes, HaltsWithin, HoldsIn, MayFollow, StopsAmong}
use Rattle.sixel_grammar.specs.declared.fault.Fault.{Fault}
use Rattle.sixel_grammar.specs.declared.halt.Halt.TheVariants.{Refused, Stopped}
use Rattle.sixel_grammar.specs.declared.reader.Reader.{Reader}
use Rattle.sixel_grammar.specs.Standing.{fault_of}
use Rattle.sixel_grammar.specs.Prefixes.{CompleteIn}
use Rattle.sixel_grammar.specs.Source.{FollowsSource, HaltsSource, IsFollowed}
use Rattle.sixel_grammar.specs.declared.source.SourceHalt.TheVariants.{Stopped as SourceStopped}
use Rattle.sixel_grammar.specs.Spelling.{IsSpellable}
use Rattle.sixel_grammar.specs.Stretches.{sixels_from}
use Rattle.sixel_grammar.proofs.FollowingLemmas.{always_refused}
use Rattle.sixel_grammar.proofs.StandLemmas.{read_complete}
use Rattle.sixel_grammar.proofs.TotalLemmas.{complete_prefix, document_whole}
use Rattle.sixel_grammar.proofs.WritableLemmas.{events_can}
use Rattle.sixel_model.specs.Profiles.{count_of}
use Rattle.sixel_judge.specs.Growth.{MayGrow, MayGrowAmong, MayGrowIn}
use Rattle.sixel_judge.specs.Standing.{CheckerValue, StandsAfter, expects, is_start, is_whole}
use Rattle.sixel_judge.specs.Stretches.{MayStep}
use Rattle.sixel_judge.proofs.GrowthLemmas.{grows_among, grows_end}
use Rattle.sixel_judge.proofs.PushLemmas.{any_step}
use Rattle.sixel_judge.proofs.StandLemmas.{begun_goes_on, registers_of, stands_expects, whole_ended, whole_events}

-- ---- an event of a prefix may come next

starts : (e : Event) (more : List Event) → AreBegun (e ∷ more) ⊎ AreWhole (e ∷ more) → is_start e ≡ true
starts (Start eight parameters) more h = refl
starts _ more h = elim h [ inl begun ↦ absurd begun | inr whole ↦ absurd whole ]

some_prefix : (events : List Event) → (events ≡ [] → ⊥) → ArePrefix events → AreBegun events ⊎ AreWhole events
some_prefix events some h = elim h [ inl none ↦ absurd (some none) | inr rest ↦ rest ]

step_next : (e : Event) (more : List Event) → AreSteps (e ∷ more) → is_start e ≡ false
step_next (Step command) more h = refl
step_next _ more h = absurd h

rest_next : (e : Event) (more : List Event) → AreRest (e ∷ more) → is_start e ≡ false
rest_next (Start eight parameters) more h = absurd h
rest_next _ more h = refl

steps_split : (xs : List Event) (e : Event) (ys : List Event) → AreSteps (xs ++ e ∷ ys)
    → AreSteps xs × (is_start e ≡ false)
steps_split [] e ys h = (tt, step_next e ys h)
steps_split (Step command ∷ xs) e ys h = steps_split xs e ys h
steps_split _ e ys h = absurd h

not_empty : (xs : List Event) (e : Event) (ys : List Event) → xs ++ e ∷ ys ≡ [] → ⊥
not_empty [] e ys h = cc
not_empty (x ∷ xs) e ys h = cc

rest_split : (xs : List Event) (e : Event) (ys : List Event) → AreRest (xs ++ e ∷ ys)
    → AreSteps xs × (is_start e ≡ false)
rest_split [] e ys h = (tt, rest_next e ys h)
rest_split (Step command ∷ xs) e ys h = rest_split xs e ys h
rest_split (Finish eight ∷ xs) e ys h = absurd (not_empty xs e ys h)
rest_split _ e ys h = absurd h

begun_split : (x : Event) (xs : List Event) (e : Event) (ys : List Event)
    → AreBegun (x ∷ (xs ++ e ∷ ys)) ⊎ AreWhole (x ∷ (xs ++ e ∷ ys)) → AreBegun (x ∷ xs) × (is_start e ≡ false)
begun_split (Start eight parameters) xs e ys h =
    elim h [ inl begun ↦ steps_split xs e ys begun | inr whole ↦ rest_split xs e ys whole ]
begun_split _ xs e ys h = elim h [ inl begun ↦ absurd begun | inr whole ↦ absurd whole ]

-- the event that follows in a prefix is expected
expected_next : (seen : List Placed) (e : Event) (ys : List Event) → ArePrefix (events_of seen ++ e ∷ ys)
    → IsTrue (expects seen e)
expected_next [] e ys h = starts e ys (some_prefix (e ∷ ys) (λ n. cc) h)
expected_next (q ∷ qs) e ys h =
    let parts = begun_split q.event (events_of qs) e ys (some_prefix (events_of (q ∷ qs) ++ e ∷ ys) (λ n. cc) h) in
    let unended : is_whole (q ∷ qs) ≡ false =
    sym (whole_events (q ∷ qs)) ∙ begun_goes_on (events_of (q ∷ qs)) parts.0 in
    and_from (not (is_whole (q ∷ qs))) (not (is_start e)) (ap not unended) (ap not parts.1)

writable_there : (seen : List Placed) (p : Placed) (rest : List Placed) → CanWriteAll (seen ++ p ∷ rest)
    → IsSpellable p.event
writable_there [] p rest h = h.0.spellable
writable_there (q ∷ qs) p rest h = writable_there qs p rest h.1

events_then : (seen : List Placed) (p : Placed) (rest : List Placed)
    → events_of (seen ++ p ∷ rest) ≡ events_of seen ++ p.event ∷ events_of rest
events_then seen p rest = map-append (λ (q : Placed). q.event) seen (p ∷ rest)

-- the event may come next, and some bytes spell it
abbrev pub MayCome : List Placed → Placed → Type 0
MayCome seen p = IsTrue (expects seen p.event) × IsSpellable p.event

may_come : (seen : List Placed) (p : Placed) (rest : List Placed) → ArePrefix (events_of (seen ++ p ∷ rest))
    → CanWriteAll (seen ++ p ∷ rest) → MayCome seen p
may_come seen p rest prefix can = (
  expected_next seen p.event (events_of rest) (subst ArePrefix (events_then seen p rest) prefix),
  writable_there seen p rest can,
)

-- an event that was read may come next
pub event_may : (seen : List Placed) (p : Placed) → MayFollow seen (p ∷ []) → MayCome seen p
event_may seen p m =
    let complete : CompleteIn (seen ++ p ∷ m.rest) m.bytes = read_complete m.reader _ m.bytes m.stands in
    may_come seen p m.rest (complete_prefix _ m.bytes complete) (events_can _ m.bytes complete)

-- before a stretch of sixels that were read, any command may come next
pub stretch_may : (seen : List Placed) (place : ℕ) (stretch : List ℕ) → 0 < length stretch
    → MayFollow seen (sixels_from place stretch) → MayStep seen
stretch_may seen place [] some m = absurd (omega arith)
stretch_may seen place (b ∷ more) some m =
    let complete : CompleteIn (seen ++ (sixels_from place (b ∷ more) ++ m.rest)) m.bytes =
    read_complete m.reader _ m.bytes m.stands in
    let p : Placed = record { place = place; event = Step (Sixel (b - 63)) } in
    any_step seen (Sixel (b - 63)) (may_come seen p (sixels_from (place + 1) more ++ m.rest)
    (complete_prefix _ m.bytes complete) (events_can _ m.bytes complete)).0

-- so may it before other events, if the same checker has seen those
pub same_may : (r n : ℕ) (checker : CheckerValue) (seen others : List Placed) → StandsAfter r checker seen → MayStep seen
    → StandsAfter n checker others → MayStep others
same_may r n checker seen others s may t = λ command.
    sym (stands_expects n checker others (Step command) t) ∙ stands_expects r checker seen (Step command) s
    ∙ may command

-- what holds always holds of a success
pub ok_says : {A E : Type 0} (P : Type 0) (r : Result A E) → P → OnOk r P
ok_says P (Ok x) h = h
ok_says P (Err e) h = tt

-- ---- what a checker has taken

abbrev pub HasTaken : CheckerValue → CheckerValue → List Placed → Type 0
HasTaken first now seen = StandsAfter (count_of first.profile) now seen

abbrev pub MayStop : {S : Type 0} → CheckerValue → CheckerValue → S → List Placed → Type 0
MayStop first now stop seen = MayGrowAmong (count_of first.profile) seen

pub stops_one : {S : Type 0} (old new : CheckerValue) (p : Placed) (result : Result (Unit {0}) S)
    → OnErr result ((registers : ℕ) (seen : List Placed) → StandsAfter registers old seen
    → MayGrow registers (events_of seen) p.event)
    → IfErr result (StopsAmong HasTaken MayStop old new (p ∷ []))
stops_one old new p (Ok u) grows = tt
stops_one old new p (Err s) grows = λ first seen h. record {
  taken = p ∷ [];
  rest = [];
  are = refl;
  holds = grows_end seen p (grows (count_of first.profile) seen h);
}

-- ---- a checker with the registers of its profile

followed_registers : (n : ℕ) {reader : Reader} {checker : CheckerValue} {bytes : List ℕ}
    → AreFollowed (StandsAfter n) reader checker bytes → count_of checker.profile ≡ n
followed_registers n {checker} a = registers_of n checker a.events a.taken

had_first : (n : ℕ) {reader : Reader} {checker : CheckerValue} {bytes : List ℕ}
    → AreFollowed (StandsAfter n) reader checker bytes → AreFollowed (HasTaken checker) reader checker bytes
had_first n {reader} {checker} {bytes} a =
    subst (λ (k : ℕ). AreFollowed (StandsAfter k) reader checker bytes) (sym (followed_registers n a)) a

-- the checker itself had this many registers
pub followed_for : (n : ℕ) (reader : Reader) (checker : CheckerValue) (bytes : List ℕ)
    → AreFollowed (StandsAfter n) reader checker bytes
    → (first : CheckerValue) × AreFollowed (HasTaken first) reader checker bytes
followed_for n reader checker bytes a = (checker, had_first n a)

pub follows_for : (n : ℕ) (reader r : Reader) (old new : CheckerValue) (prefix more : List ℕ)
    → FollowsBytes HasTaken reader old r new more → AreFollowed (StandsAfter n) reader old prefix
    → AreFollowed (StandsAfter n) r new (prefix ++ more)
follows_for n reader r old new prefix more follows a =
    subst (λ (k : ℕ). AreFollowed (StandsAfter k) r new (prefix ++ more)) (followed_registers n a)
    (follows old prefix (had_first n a))

-- the checker stopped for want of memory
pub grows_in : (n : ℕ) (bytes : List ℕ) → HoldsIn (MayGrowAmong n) bytes → MayGrowIn n bytes
grows_in n bytes h = record {
  prefix = h.read;
  rest = h.unread;
  bytes_are = h.bytes_are;
  events = h.taken ++ h.rest;
  complete = read_complete h.reader (h.taken ++ h.rest) h.read h.stands;
  grows = grows_among h.taken h.rest h.holds;
}

pub refuses_for : (S : Type 0) (n : ℕ) (reader r : Reader) (old new : CheckerValue) (prefix more : List ℕ)
    (fault : Fault) → HaltsWithin {S = S} HasTaken MayStop reader old r new more (Refused fault)
    → AreFollowed (StandsAfter n) reader old prefix
    → (fault_of r ≡ Some fault) × ((rest : List ℕ) → IsFaultOf ((prefix ++ more) ++ rest) fault)
refuses_for S n reader r old new prefix more fault halts a =
    let refused = halts old prefix (had_first n a) in
    (refused.kept, always_refused (HasTaken old) r new (prefix ++ more) fault refused)

pub stops_for : {S : Type 0} (n : ℕ) (reader r : Reader) (old new : CheckerValue) (prefix more : List ℕ) (stop : S)
    → HaltsWithin HasTaken MayStop reader old r new more (Stopped stop) → AreFollowed (StandsAfter n) reader old prefix
    → MayGrowIn n (prefix ++ more)
stops_for n reader r old new prefix more stop halts a =
    grows_in n (prefix ++ more)
    (subst (λ (k : ℕ). HoldsIn (MayGrowAmong k) (prefix ++ more)) (followed_registers n a)
    (halts old prefix (had_first n a)))

-- the events of a document are whole
pub whole_then : (events : List Placed) (bytes : List ℕ) → Document events bytes → IsTrue (is_whole events)
whole_then events bytes document =
    sym (whole_events events) ∙ whole_ended (events_of events) (document_whole events bytes document)

-- ---- the document of a source

had_none : (n : ℕ) (checker : CheckerValue) → StandsAfter n checker [] → HasTaken checker checker []
had_none n checker s = subst (λ (k : ℕ). StandsAfter k checker []) (sym (registers_of n checker [] s)) s

-- some checker had this many registers first
pub fresh_for : (n : ℕ) (checker : CheckerValue) → StandsAfter n checker []
    → (first : CheckerValue) × HasTaken first checker []
fresh_for n checker s = (checker, had_none n checker s)

pub source_for : (n : ℕ) (old new : CheckerValue) (known : Option (List ℕ)) → FollowsSource HasTaken old new known
    → StandsAfter n old [] → IsFollowed (StandsAfter n) new known
source_for n old new known follows s =
    subst (λ (k : ℕ). IsFollowed (StandsAfter k) new known) (registers_of n old [] s) (follows old (had_none n old s))

pub source_grows : {S : Type 0} (n : ℕ) (old new : CheckerValue) (stop : S) (bytes : List ℕ)
    → HaltsSource HasTaken MayStop old new (SourceStopped stop) bytes → StandsAfter n old [] → MayGrowIn n bytes
source_grows n old new stop bytes halts s =
    grows_in n bytes (subst (λ (k : ℕ). HoldsIn (MayGrowAmong k) bytes) (registers_of n old [] s)
    (halts old (had_none n old s)))
