-- The text of `list`, and what it wrote if a device failed.
use Rattle.std.proofs.Common.{◌≡◌, ◌∙◌, ℕ, List, [], ◌++◌, Option, Some, None, refl, sym, ap, append_assoc, ◌≤◌, ◌∷◌}
use Rattle.std.proofs.Common.{length, take, subst, drop}
use Rattle.std.proofs.lemmas.List.{append-nil, take-append-drop}
use Rattle.std.specs.Io.KnownBytes.{Appends, Keeps, Consumes, IsAtEnd}
use Rattle.sixel_io.specs.Blocks.{in_all}
use Rattle.sixel_io.specs.Devices.{SinkState}
use Rattle.sixel_report.specs.Texts.{Text, BeginsWith, list_text}
use Rattle.std.specs.Prelude.{Result, Ok, Err, IfSome}
use Rattle.std.proofs.Math.Seq.{take-append_seam}
use Rattle.sixel_grammar.specs.declared.command.Placed.{Placed}
use Rattle.sixel_grammar.specs.declared.fault.Fault.{Fault}
use Rattle.sixel_grammar.specs.declared.halt.Halt.{Halt}
use Rattle.sixel_grammar.specs.declared.halt.Halt.TheVariants.{Refused, Stopped}
use Rattle.sixel_grammar.specs.declared.reader.Reader.{Reader}
use Rattle.sixel_grammar.specs.Document.{Document, most_bytes}
use Rattle.sixel_grammar.specs.Prefixes.{CompleteIn}
use Rattle.sixel_grammar.specs.Faults.{IsFaultOf}
use Rattle.sixel_grammar.specs.Following.{AreFollowed, HaltsWithin}
use Rattle.sixel_grammar.specs.Standing.{StandsAfter}
use Rattle.sixel_io.specs.declared.device.DeviceFault.{DeviceFault}
use Rattle.sixel_io.proofs.DeviceLemmas.{Keeps-refl}
use Rattle.sixel_io.proofs.SinkLemmas.{through-failed}
use Rattle.sixel_grammar.proofs.SourceLemmas.{consumes-then, all_read, take_none}
use Rattle.sixel_grammar.proofs.StandLemmas.{read_complete, read_short}
use Rattle.sixel_grammar.proofs.TotalLemmas.{before_fault, place_past}
use Rattle.sixel_grammar.proofs.UniqueLemmas.{complete_stays, document_complete}
use Rattle.sixel_report.specs.declared.fault.RunFault.{RunFault}
use Rattle.sixel_report.specs.declared.fault.RunFault.TheVariants.{Grammar, OutOfMemory, Read}
use Rattle.sixel_report.specs.declared.task.Status.{Status}
use Rattle.sixel_report.specs.declared.task.Status.TheVariants.{Done}
use Rattle.sixel_list.specs.declared.list.Listing.{Listing}
use Rattle.sixel_list.specs.Listings.{HasListed, IsDrained, MayFail}
use Rattle.sixel_report.specs.Conversions.{fault_of_halt}
use Rattle.sixel_report.specs.Outputs.{CountsWrites, WroteBy, failures_by}
use Rattle.sixel_list.specs.Outputs.{ListGives, ListsUnread}
use Rattle.sixel_list.proofs.ListingLemmas.{list_text-append}
use Rattle.sixel_report.proofs.OutputLemmas.{begins-then}

-- a block that was empty before and after: all of the text went to the sink
pub drained : (had mid has : Option (List ℕ)) (ws w v text : List ℕ) → ws ≡ [] → v ≡ []
    → Appends (in_all had ws) (in_all mid w) text → Keeps (in_all mid w) (in_all has v) → Appends had has text
drained None mid has ws w v text e d put kept = tt
drained (Some x) None has ws w v text e d put kept = absurd put
drained (Some x) (Some y) None ws w v text e d put kept = absurd kept
drained (Some x) (Some y) (Some z) ws w v text e d put kept =
    let whole : z ++ v ≡ (x ++ ws) ++ text = kept ∙ put in
    sym (append-nil z) ∙ ap (λ (t : List ℕ). z ++ t) (sym d) ∙ whole ∙ ap (λ (t : List ℕ). (x ++ t) ++ text) e
    ∙ ap (λ (t : List ℕ). t ++ text) (append-nil x)

-- the text of `list` begins with the lines of the events that are complete in a viable prefix
pub gives-begins : (bytes read more : List ℕ) (events : List Placed) → bytes ≡ read ++ more → CompleteIn events read
    → length read ≤ most_bytes
    → (text : Text) (answer : Result Status RunFault) → ListGives bytes text answer → BeginsWith text (list_text events)
gives-begins bytes read more events is c short text (Ok status) g =
    let d = document_complete g.1.0 bytes g.1.1 in
    let m = complete_stays read more events g.1.0 c (subst (CompleteIn g.1.0) is d) in
    (list_text m.0, g.1.2 ∙ ap list_text m.1 ∙ list_text-append events m.0)
gives-begins bytes read more events is c short text (Err (Grammar fault)) g =
    let past = place_past bytes read more fault is (events, c) short g.0 in
    let next = before_fault bytes read more fault.place is past in
    let m = complete_stays read next.0 events g.1.0 c (subst (CompleteIn g.1.0) next.1 g.1.1) in
    (list_text m.0, g.1.2 ∙ ap list_text m.1 ∙ list_text-append events m.0)
gives-begins bytes read more events is c short text (Err other) g = absurd g

-- the lines before a fault are those of the events that a reader completed before it
faulty-lists : (bytes read more : List ℕ) (events : List Placed) (r : Reader) (fault : Fault) → bytes ≡ read ++ more
    → IsFaultOf bytes fault → fault.place ≡ length read
    → StandsAfter r events read → ListGives bytes (list_text events) (Err (Grammar fault))
faulty-lists bytes read more events r fault is h place s =
    let prefix : take fault.place bytes ≡ read = ap (λ (n : ℕ). take n bytes) place ∙ ap (take (length read)) is
    ∙ take-append_seam read more in
    (h, (events, subst (CompleteIn events) (sym prefix) (read_complete r events read s), refl))

-- reading failed
pub unread : (a b c had has : Option (List ℕ)) (given : List ℕ) (events : List Placed) (r : Reader)
    → Consumes a b given → Keeps b c → StandsAfter r events given
    → Appends had has (list_text events) → IfSome a (λ (bytes : List ℕ). WroteBy (ListGives bytes) (ListsUnread bytes c) (Err Read) had has)
unread None b c had has given events r consumed kept s put = tt
unread (Some x) None c had has given events r consumed kept s put = absurd consumed
unread (Some x) (Some y) None had has given events r consumed kept s put = absurd kept
unread (Some x) (Some y) (Some z) had has given events r consumed kept s put = (
  given,
  list_text events,
  consumed ∙ ap (λ (t : List ℕ). given ++ t) (sym kept),
  (read_short r events given s, (events, read_complete r events given s, refl)),
  put,
)

-- all was read
ended : (a b c : Option (List ℕ)) (bytes piece : List ℕ) (n : ℕ) (P : List ℕ → Type 0) → Consumes a b bytes
    → Consumes b c (take n piece) → n ≡ 0 → IsAtEnd c → P bytes → IfSome a P
ended a b c bytes piece n P consumed last zero at_end p =
    all_read a c (bytes ++ take n piece) P (consumes-then a b c bytes (take n piece) consumed last) at_end
    (subst P (sym (ap (λ (t : List ℕ). bytes ++ t) (take_none n piece zero) ∙ append-nil bytes)) p)

pub ended-well : (a b c had has : Option (List ℕ)) (bytes piece : List ℕ) (n : ℕ) (events : List Placed)
    → Consumes a b bytes → Consumes b c (take n piece) → n ≡ 0 → IsAtEnd c
    → Document events bytes → Appends had has (list_text events)
    → IfSome a (λ (bytes : List ℕ). WroteBy (ListGives bytes) (ListsUnread bytes c) (Ok Done) had has)
ended-well a b c had has bytes piece n events consumed last zero at_end d put =
    ended a b c bytes piece n (λ (bytes : List ℕ). WroteBy (ListGives bytes) (ListsUnread bytes c) (Ok Done) had has) consumed last zero at_end
    (list_text events, (refl, (events, d, refl)), put)

pub ended-early : (a b c had has : Option (List ℕ)) (bytes piece : List ℕ) (n : ℕ) (events : List Placed) (r : Reader)
    (fault : Fault) → Consumes a b bytes → Consumes b c (take n piece)
    → n ≡ 0 → IsAtEnd c → StandsAfter r events bytes → IsFaultOf bytes fault → fault.place ≡ length bytes
    → Appends had has (list_text events)
    → IfSome a (λ (bytes : List ℕ). WroteBy (ListGives bytes) (ListsUnread bytes c) (Err (Grammar fault)) had has)
ended-early a b c had has bytes piece n events r fault consumed last zero at_end s h place put =
    ended a b c bytes piece n (λ (bytes : List ℕ). WroteBy (ListGives bytes) (ListsUnread bytes c) (Err (Grammar fault)) had has) consumed last
    zero at_end
    (list_text events, faulty-lists bytes bytes [] events r fault (sym (append-nil bytes)) h place s, put)

-- a listing that began with an empty block has put these lines, and nothing waits
pub all-written : {K : Type 0} (state : K → SinkState) (first now : Listing K) (events : List Placed)
    → first.lines.now ≡ [] → now.lines.now ≡ [] → HasListed state first now events
    → Appends (state first.out.now).taken (state now.out.now).taken (list_text events)
all-written state first now events none empty p =
    drained (state first.out.now).taken (state now.out.now).taken (state now.out.now).taken first.lines.now
    now.lines.now now.lines.now (list_text events) none empty p.put.put (Keeps-refl _)

-- the piece that was read last has a fault, or its lines couldn't be written
stopped-in : {K : Type 0} (state : K → SinkState) (first mid now : Listing K) (reader r : Reader)
    (bytes read piece rest : List ℕ) (left : Option (List ℕ)) (halt : Halt DeviceFault)
    → bytes ≡ (read ++ piece) ++ rest → first.lines.now ≡ [] → AreFollowed (HasListed state first) reader mid read
    → HaltsWithin (HasListed state) (MayFail state) reader mid r now piece halt
    → IsDrained (Err halt) now.lines.now
    → WroteBy (ListGives bytes) (ListsUnread bytes left) (Err (fault_of_halt halt)) (state first.out.now).taken (state now.out.now).taken
stopped-in state first mid now reader r bytes read piece rest left (Refused fault) is none followed halts empty =
    let h = halts first read followed in
    let split : bytes ≡ h.read ++ (h.byte ∷ (h.unread ++ rest)) =
    is ∙ ap (λ (t : List ℕ). t ++ rest) h.bytes_are ∙ append_assoc h.read (h.byte ∷ h.unread) rest in (
      list_text h.followed.events,
      faulty-lists bytes h.read (h.byte ∷ (h.unread ++ rest)) h.followed.events h.before fault split
          (subst (λ (t : List ℕ). IsFaultOf t fault) (sym split) (h.is_fault (h.unread ++ rest))) h.place
          h.followed.read,
      all-written state first now h.followed.events none empty h.followed.taken,
    )
stopped-in state first mid now reader r bytes read piece rest left (Stopped stop) is none followed halts empty =
    let h = halts first read followed in
    let split : bytes ≡ h.read ++ (h.unread ++ rest) =
    is ∙ ap (λ (t : List ℕ). t ++ rest) h.bytes_are ∙ append_assoc h.read h.unread rest in
    let put = through-failed {B = Unit {0}} {f = stop} none h.holds.put in
    let part = take put.taken.0 (list_text h.taken) in (
      part,
      put.taken.1,
      λ text answer g.
          begins-then text (list_text (h.taken ++ h.rest)) part
          (gives-begins bytes h.read (h.unread ++ rest) (h.taken ++ h.rest) split
          (read_complete h.reader _ _ h.stands) (read_short h.reader _ _ h.stands) text answer g) (
            drop put.taken.0 (list_text h.taken) ++ list_text h.rest,
            list_text-append h.taken h.rest
                ∙ ap (λ (t : Text). t ++ list_text h.rest) (sym (take-append-drop put.taken.0 (list_text h.taken)))
                ∙ append_assoc part (drop put.taken.0 (list_text h.taken)) (list_text h.rest),
          ),
    )

pub stopped : {K : Type 0} (state : K → SinkState) (first mid now : Listing K) (reader r : Reader)
    (a b c : Option (List ℕ)) (read piece : List ℕ) (halt : Halt DeviceFault) → Consumes a b read → Consumes b c piece
    → first.lines.now ≡ [] → AreFollowed (HasListed state first) reader mid read
    → HaltsWithin (HasListed state) (MayFail state) reader mid r now piece halt
    → IsDrained (Err halt) now.lines.now
    → IfSome a (λ (bytes : List ℕ).
    WroteBy (ListGives bytes) (ListsUnread bytes c) (Err (fault_of_halt halt)) (state first.out.now).taken (state now.out.now).taken)
stopped state first mid now reader r None b c read piece halt one two none followed halts empty = tt
stopped state first mid now reader r (Some x) None c read piece halt one two none followed halts empty = absurd one
stopped state first mid now reader r (Some x) (Some y) None read piece halt one two none followed halts empty =
    absurd two
stopped state first mid now reader r (Some x) (Some y) (Some z) read piece halt one two none followed halts empty =
    stopped-in state first mid now reader r x read piece z (Some z) halt
    (one ∙ ap (λ (t : List ℕ). read ++ t) two ∙ sym (append_assoc read piece z)) none followed halts empty

-- a piece never fails with OutOfMemory or Read
pub no-memory : {A S : Type 0} (halt : Halt S)
    → (let r : Result A RunFault = Err (fault_of_halt halt) in r) ≡ Err OutOfMemory → ⊥
no-memory (Refused fault) e = cc
no-memory (Stopped stop) e = cc

pub no-read : {S : Type 0} (halt : Halt S) (n : ℕ) → failures_by {A = Status} Read (Err (fault_of_halt halt)) n ≡ n
no-read (Refused fault) n = refl
no-read (Stopped stop) n = refl

-- the sink failed exactly if the answer is Write
pub halt-writes : {K : Type 0} (state : K → SinkState) (first mid now : Listing K) (reader r : Reader)
    (read piece : List ℕ) (halt : Halt DeviceFault) → AreFollowed (HasListed state first) reader mid read
    → HaltsWithin (HasListed state) (MayFail state) reader mid r now piece halt
    → CountsWrites {A = Status} (Err (fault_of_halt halt)) (state first.out.now).failures (state now.out.now).failures
halt-writes state first mid now reader r read piece (Refused fault) followed halts =
    (halts first read followed).followed.taken.put.failures
halt-writes state first mid now reader r read piece (Stopped stop) followed halts =
    (halts first read followed).holds.put.failures

-- it is the sink of what was `first`
pub halt-same : {K : Type 0} (state : K → SinkState) (first mid now : Listing K) (reader r : Reader)
    (read piece : List ℕ) (halt : Halt DeviceFault) → AreFollowed (HasListed state first) reader mid read
    → HaltsWithin (HasListed state) (MayFail state) reader mid r now piece halt
    → now.out.ghost_name ≡ first.out.ghost_name
halt-same state first mid now reader r read piece (Refused fault) followed halts =
    (halts first read followed).followed.taken.same_out
halt-same state first mid now reader r read piece (Stopped stop) followed halts =
    (halts first read followed).holds.same_out
