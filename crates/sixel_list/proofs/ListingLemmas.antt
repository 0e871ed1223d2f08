-- Lemmas for the lines of events, and for a listing that follows a reader.
use Rattle.std.proofs.Common.{◌≡◌, ◌∙◌, ◌+◌, ◌-◌, ◌<◌, ◌≤◌, ℕ, zero, suc, List, [], ◌∷◌, ◌++◌, ap, arith, drop, get_or}
use Rattle.std.proofs.Common.{length, refl, subst, sym, take}
use Rattle.std.specs.Prelude.{Result, Ok, Err, IfErr, OnOk}
use Rattle.std.proofs.lemmas.Grind.{flat_map-append}
use Rattle.std.proofs.lemmas.List.{append-nil, drop-take, take-take}
use Rattle.sixel_grammar.specs.declared.command.Command.TheVariants.{Sixel}
use Rattle.sixel_grammar.specs.declared.command.Event.TheVariants.{Step}
use Rattle.sixel_grammar.specs.declared.command.Placed.{Placed}
use Rattle.sixel_grammar.specs.declared.fault.Fault.{Fault}
use Rattle.sixel_grammar.specs.declared.halt.Halt.TheVariants.{Refused, Stopped}
use Rattle.sixel_grammar.specs.declared.reader.Reader.{Reader}
use Rattle.sixel_grammar.specs.Following.{AreFollowed, FollowsBytes, HaltsWithin, HoldsIn, StopsAmong, TakesEvents}
use Rattle.sixel_grammar.specs.Standing.{StandsAfter}
use Rattle.sixel_grammar.specs.Stretches.{sixels_from}
use Rattle.sixel_io.specs.Blocks.{Drains, PutsWhole, WritesThrough, in_all}
use Rattle.sixel_io.specs.Devices.{SinkState}
use Rattle.sixel_io.specs.declared.device.DeviceFault.{DeviceFault}
use Rattle.sixel_io.proofs.DeviceLemmas.{prefix-more}
use Rattle.sixel_io.proofs.SinkLemmas.{nothing_put, through-as, through-next, through-none, through-then, through-whole}
use Rattle.sixel_judge.proofs.StretchLemmas.{sixels_then}
use Rattle.sixel_list.specs.declared.list.Listing.{Listing}
use Rattle.sixel_list.specs.Listings.{HasListed, MayFail, PutsLines}
use Rattle.sixel_report.specs.Texts.{event_line, list_text}

pub list_text-append : (xs ys : List Placed) → list_text (xs ++ ys) ≡ list_text xs ++ list_text ys
list_text-append xs ys = flat_map-append event_line xs ys

-- the line of an event was put
pub line-put : {A E : Type 0} (result : Result A E) (placed : Placed) {a b : SinkState} {u v text : List ℕ}
    → text ≡ event_line placed → PutsWhole result a b u v text
    → WritesThrough result a b u v (list_text (placed ∷ []))
line-put result placed e put = through-as (e ∙ sym (append-nil _)) (through-whole result put)

-- ---- a listing as a follower

pub lists-nothing : {K : Type 0} (state : K → SinkState) (first : Listing K) → HasListed state first first []
lists-nothing state first = record { same_out = refl; put = through-none }

-- the lines of these events were put
pub listed : {K : Type 0} (state : K → SinkState) (result : Result (Unit {0}) DeviceFault) (old new : Listing K)
    (more : List Placed) → PutsLines state result old new more
    → OnOk result (TakesEvents (HasListed state) old new more)
listed state (Ok u) old new more p = λ first seen h. record {
  same_out = p.same_out ∙ h.same_out;
  put = through-next (list_text-append seen more) h.put p.put;
}
listed state (Err s) old new more p = tt

-- or a prefix of them
pub list-failed : {K : Type 0} (state : K → SinkState) (result : Result (Unit {0}) DeviceFault) (old new : Listing K)
    (more : List Placed) → PutsLines state result old new more
    → IfErr result (StopsAmong (HasListed state) (MayFail state) old new more)
list-failed state (Ok u) old new more p = tt
list-failed state (Err s) old new more p = λ first seen h. record {
  taken = more;
  rest = [];
  are = sym (append-nil more);
  holds = record {
    same_out = p.same_out ∙ h.same_out;
    put = through-then {F = DeviceFault} (Err s) (list_text-append seen more) h.put p.put;
  };
}

-- ---- a block that is drained after a piece

drain-puts : {A E : Type 0} (result : Result A E) {a b : SinkState} {u v : List ℕ} → Drains result a b u v
    → WritesThrough result a b u v []
drain-puts (Ok x) {a} {b} {u} {v} d = record {
  put = nothing_put (in_all a.taken u) (in_all b.taken v) d.bytes;
  more = prefix-more a.taken b.taken u v [] d.prefix;
  failures = d.failures;
  unflushed = d.unflushed;
}
drain-puts (Err e) {a} {b} {u} {v} d = record {
  put = (0, nothing_put (in_all a.taken u) (in_all b.taken v) d.bytes);
  more = prefix-more a.taken b.taken u v [] d.prefix;
  failures = d.failures;
  unflushed = d.unflushed;
}

-- the block of what was `old` is drained
pub record DrainsBlock {K : Type 0} (state : K → SinkState) (result : Result (Unit {0}) DeviceFault)
    (old new : Listing K) : Type 0 where
  pub same_out : new.out.ghost_name ≡ old.out.ghost_name
  pub drains : Drains result (state old.out.now) (state new.out.now) old.lines.now new.lines.now

-- it puts no more lines
still-put : {K : Type 0} (state : K → SinkState) (result : Result (Unit {0}) DeviceFault) (first old new : Listing K)
    (events : List Placed) → HasListed state first old events → DrainsBlock state result old new
    → PutsLines state result first new events
still-put state result first old new events h d = record {
  same_out = d.same_out ∙ h.same_out;
  put = through-then result (sym (append-nil (list_text events))) h.put (drain-puts result d.drains);
}

still-followed : {K : Type 0} (state : K → SinkState) (first old new : Listing K) (reader : Reader) (bytes : List ℕ)
    → AreFollowed (HasListed state first) reader old bytes → DrainsBlock state (Ok tt) old new
    → AreFollowed (HasListed state first) reader new bytes
still-followed state first old new reader bytes a d = record {
  events = a.events;
  read = a.read;
  taken = still-put state (Ok tt) first old new a.events a.taken d;
}

-- a piece was followed, and then the block drained
pub followed-drained : {K : Type 0} (state : K → SinkState) (reader r : Reader) (old mid new : Listing K)
    (piece : List ℕ) → FollowsBytes (HasListed state) reader old r mid piece → DrainsBlock state (Ok tt) mid new
    → FollowsBytes (HasListed state) reader old r new piece
followed-drained state reader r old mid new piece follows d = λ first prefix a.
    still-followed state first mid new r (prefix ++ piece) (follows first prefix a) d

-- the bytes were refused, and then the block drained
pub refused-drained : {K : Type 0} (state : K → SinkState) (reader r : Reader) (old mid new : Listing K)
    (piece : List ℕ) (fault : Fault)
    → HaltsWithin {S = DeviceFault} (HasListed state) (MayFail state) reader old r mid piece (Refused fault)
    → DrainsBlock state (Ok tt) mid new
    → HaltsWithin {S = DeviceFault} (HasListed state) (MayFail state) reader old r new piece (Refused fault)
refused-drained state reader r old mid new piece fault halts d = λ first prefix a.
    let h = halts first prefix a in
    record {
      kept = h.kept;
      read = h.read;
      byte = h.byte;
      unread = h.unread;
      bytes_are = h.bytes_are;
      is_fault = h.is_fault;
      place = h.place;
      before = h.before;
      followed = still-followed state first mid new h.before h.read h.followed d;
    }

-- the sink failed after these bytes were followed
failed-after : {K : Type 0} (state : K → SinkState) (first mid new : Listing K) (reader : Reader)
    (bytes read unread : List ℕ) (stop : DeviceFault) → bytes ≡ read ++ unread
    → AreFollowed (HasListed state first) reader mid read → DrainsBlock state (Err stop) mid new
    → HoldsIn (MayFail state first new stop) bytes
failed-after state first mid new reader bytes read unread stop is a d = record {
  read = read;
  unread = unread;
  bytes_are = is;
  taken = a.events;
  rest = [];
  reader = reader;
  stands = subst (λ (es : List Placed). StandsAfter reader es read) (sym (append-nil a.events)) a.read;
  holds = still-put state (Err stop) first mid new a.events a.taken d;
}

pub followed-failed : {K : Type 0} (state : K → SinkState) (reader r : Reader) (old mid new : Listing K)
    (piece : List ℕ) (stop : DeviceFault) → FollowsBytes (HasListed state) reader old r mid piece
    → DrainsBlock state (Err stop) mid new
    → HaltsWithin (HasListed state) (MayFail state) reader old r new piece (Stopped stop)
followed-failed state reader r old mid new piece stop follows d = λ first prefix a.
    failed-after state first mid new r (prefix ++ piece) (prefix ++ piece) [] stop (sym (append-nil (prefix ++ piece)))
    (follows first prefix a) d

-- the same after the byte of a fault
pub refused-failed : {K : Type 0} (state : K → SinkState) (reader r : Reader) (old mid new : Listing K)
    (piece : List ℕ) (fault : Fault) (stop : DeviceFault)
    → HaltsWithin {S = DeviceFault} (HasListed state) (MayFail state) reader old r mid piece (Refused fault)
    → DrainsBlock state (Err stop) mid new
    → HaltsWithin (HasListed state) (MayFail state) reader old r new piece (Stopped stop)
refused-failed state reader r old mid new piece fault stop halts d = λ first prefix a.
    let h = halts first prefix a in
    failed-after state first mid new h.before (prefix ++ piece) h.read (h.byte ∷ h.unread) stop h.bytes_are h.followed d

-- ---- the lines of single sixels

-- one more
pub sixels-then : (place i : ℕ) (bytes : List ℕ) → i < length bytes
    → list_text (sixels_from place (take (i + 1) bytes))
    ≡ list_text (sixels_from place (take i bytes))
    ++ list_text (record { place = place + i; event = Step (Sixel (get_or bytes i 0 - 63)) } ∷ [])
sixels-then place i bytes below =
    ap list_text (sym (sixels_then [] place i bytes below)) ∙ list_text-append (sixels_from place (take i bytes)) _

sixels-split : (place n : ℕ) (bytes : List ℕ)
    → sixels_from place bytes ≡ sixels_from place (take n bytes) ++ sixels_from (place + n) (drop n bytes)
sixels-split place zero bytes =
    let same : place ≡ place + 0 = omega arith in
    ap (λ (p : ℕ). sixels_from p bytes) same
sixels-split place (suc n) [] = refl
sixels-split place (suc n) (b ∷ bytes) =
    let same : place + 1 + n ≡ place + suc n = omega arith in
    ap (λ (t : List Placed). record { place = place; event = Step (Sixel (b - 63)) } ∷ t)
    (sixels-split (place + 1) n bytes
    ∙ ap (λ (p : ℕ). sixels_from (place + 1) (take n bytes) ++ sixels_from p (drop n bytes)) same)

-- of a part of the bytes
pub sixels-part : (place from end : ℕ) (bytes : List ℕ) → from ≤ end
    → list_text (sixels_from place (take end bytes))
    ≡ list_text (sixels_from place (take from bytes))
    ++ list_text (sixels_from (place + from) (take (end - from) (drop from bytes)))
sixels-part place from end bytes le =
    let far : from + (end - from) ≡ end = omega arith in
    ap list_text (sixels-split place from (take end bytes)
    ∙ ap (λ (t : List ℕ). sixels_from place t ++ sixels_from (place + from) (drop from (take end bytes)))
    (take-take from end bytes le)
    ∙ ap (λ (t : List ℕ). sixels_from place (take from bytes) ++ sixels_from (place + from) t)
    (ap (λ (n : ℕ). drop from (take n bytes)) (sym far) ∙ drop-take from (end - from) bytes))
    ∙ list_text-append (sixels_from place (take from bytes)) _

-- of a prefix of the bytes, of the part after it, and of the rest
pub sixels-parts : (place from end : ℕ) (bytes : List ℕ) → from ≤ end → (rest : List ℕ)
    × (list_text (sixels_from place bytes) ≡ (list_text (sixels_from place (take from bytes))
    ++ list_text (sixels_from (place + from) (take (end - from) (drop from bytes)))) ++ rest)
sixels-parts place from end bytes le =
    let rest = sixels_from (place + end) (drop end bytes) in (
      list_text rest,
      ap list_text (sixels-split place end bytes) ∙ list_text-append (sixels_from place (take end bytes)) rest
          ∙ ap (λ (t : List ℕ). t ++ list_text rest) (sixels-part place from end bytes le),
    )

-- those of a prefix of the bytes, of the next byte, and of the rest
pub sixels-cut : (place i : ℕ) (bytes : List ℕ) → i < length bytes → (rest : List ℕ)
    × (list_text (sixels_from place bytes) ≡ (list_text (sixels_from place (take i bytes))
    ++ list_text (record { place = place + i; event = Step (Sixel (get_or bytes i 0 - 63)) } ∷ [])) ++ rest)
sixels-cut place i bytes below =
    let rest = sixels_from (place + (i + 1)) (drop (i + 1) bytes) in (
      list_text rest,
      ap list_text (sixels-split place (i + 1) bytes)
          ∙ list_text-append (sixels_from place (take (i + 1) bytes)) rest
          ∙ ap (λ (t : List ℕ). t ++ list_text rest) (sixels-then place i bytes below),
    )
