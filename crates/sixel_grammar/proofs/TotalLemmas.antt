-- Bytes are a document or have a fault, and the events complete in them are the first ones of a document.
use Rattle.std.proofs.Common.{take, ◌-◌, ◌≡◌, ℕ, ◌+◌, ◌≤◌, List, [], ◌∷◌, ◌++◌, length, Some, None, refl, sym, ap}
use Rattle.std.proofs.Common.{subst, ◌∙◌, append_assoc, arith, length-append, inl, inr}
use Rattle.std.specs.Prelude.{◌⊎◌}
use Rattle.std.proofs.lemmas.List.{append-nil}
use Rattle.std.proofs.lemmas.Bool.{cases_lt}
use Rattle.std.proofs.Math.Seq.{take-append_seam, take-append-add}
use Rattle.sixel_grammar.specs.declared.command.Event.{Event}
use Rattle.sixel_grammar.specs.declared.command.Placed.{Placed}
use Rattle.sixel_grammar.specs.declared.fault.Fault.{Fault}
use Rattle.sixel_grammar.specs.declared.fault.Reason.TheVariants.{Truncated, TooLong}
use Rattle.sixel_grammar.specs.Document.{Piece, bytes_of, events_in, events_of, placed_from, AreWhole, Document}
use Rattle.sixel_grammar.specs.Document.{IsDocument, most_bytes}
use Rattle.sixel_grammar.specs.Prefixes.{CompleteIn, IsViable}
use Rattle.sixel_grammar.specs.Faults.{Form, NothingYet, Introducing, Parameters, LastSeparator, NoCommand}
use Rattle.sixel_grammar.specs.Faults.{RepeatNumber, RasterFields, ColourFields, Terminating, Ended, ArePrefix, EndsIn}
use Rattle.sixel_grammar.specs.Faults.{IsFaultOf, Precede, refusal}
use Rattle.sixel_grammar.specs.Next.{next_of}
use Rattle.sixel_grammar.proofs.AdvanceLemmas.{GoesTo, advances}
use Rattle.sixel_grammar.proofs.DocumentWalkLemmas.{ended_parses}
use Rattle.sixel_grammar.proofs.PrefixLemmas.{nothing, prefix_ends}
use Rattle.sixel_grammar.proofs.StandLemmas.{fault_at, refused, too_long, truncated}
use Rattle.sixel_grammar.proofs.UniqueLemmas.{complete_once, fault_stays}
use Rattle.sixel_grammar.proofs.ViableLemmas.{complete}

placed-events : (n : ℕ) (ps : List Piece) → events_of (placed_from n ps) ≡ events_in ps
placed-events n [] = refl
placed-events n (p ∷ ps) = ap (λ (es : List Event). p.event ∷ es) (placed-events (n + length (bytes_of p)) ps)

pub document_whole : (events : List Placed) (bytes : List ℕ) → Document events bytes → AreWhole (events_of events)
document_whole events bytes d = subst AreWhole
    (sym (ap events_of d.events_are ∙ placed-events 0 d.pieces)) d.parses.whole

-- ---- prefixes

precede_prefix : (f : Form) (events : List Event) → Precede f events → ArePrefix events
precede_prefix NothingYet events h = inl h
precede_prefix Introducing events h = inl h
precede_prefix (Parameters eight ns n) events h = inl h
precede_prefix (LastSeparator eight ns) events h = inl h
precede_prefix NoCommand events h = inr (inl h)
precede_prefix (RepeatNumber n) events h = inr (inl h)
precede_prefix (RasterFields ns n) events h = inr (inl h)
precede_prefix (ColourFields ns n) events h = inr (inl h)
precede_prefix Terminating events h = inr (inl h)
precede_prefix Ended events h = inr (inr h)

pub complete_prefix : (events : List Placed) (bytes : List ℕ) → CompleteIn events bytes → ArePrefix (events_of events)
complete_prefix events bytes c =
    let v =
    prefix_ends bytes []
    (subst (λ (t : List ℕ). (es : List Placed) × CompleteIn es t) (sym (append-nil bytes)) (events, c)) in
    let e = v.3 in
    let same : events ≡ placed_from 0 e.pieces = complete_once bytes events v.1 c (complete v.0 e) ∙ e.events_are in
    subst ArePrefix (sym (ap events_of same ∙ placed-events 0 e.pieces))
    (precede_prefix v.0 (events_in e.pieces) e.before)

-- ---- a document, or a fault

abbrev Judged : List ℕ → Type 0
Judged bytes = IsDocument bytes ⊎ ((fault : Fault) × IsFaultOf bytes fault)

ended_document : {events : List Placed} {opened : ℕ} {bytes : List ℕ} (e : EndsIn Ended events opened bytes)
    → length bytes ≤ most_bytes → IsDocument bytes
ended_document {events = events} {bytes = bytes} e short = (
  events,
  record {
    pieces = e.pieces;
    parses = ended_parses e;
    events_are = e.events_are;
    short = short;
  },
)

is_ended : (f : Form) → (f ≡ Ended) ⊎ (f ≡ Ended → ⊥)
is_ended NothingYet = inr (λ e. cc)
is_ended Introducing = inr (λ e. cc)
is_ended (Parameters eight ns n) = inr (λ e. cc)
is_ended (LastSeparator eight ns) = inr (λ e. cc)
is_ended NoCommand = inr (λ e. cc)
is_ended (RepeatNumber n) = inr (λ e. cc)
is_ended (RasterFields ns n) = inr (λ e. cc)
is_ended (ColourFields ns n) = inr (λ e. cc)
is_ended Terminating = inr (λ e. cc)
is_ended Ended = inl refl

at_end : (f : Form) (events : List Placed) (opened : ℕ) (bytes : List ℕ) → EndsIn f events opened bytes
    → length bytes ≤ most_bytes → Judged bytes
at_end f events opened bytes e short =
    elim (is_ended f) [
      | inl same ↦ inl (ended_document (subst (λ (g : Form). EndsIn g events opened bytes) same e) short)
      | inr other ↦ inr (fault_at Truncated (length bytes), truncated f e short other)
    ]

-- a fault at the next byte stays the fault of longer bytes
then_fault : (bytes more : List ℕ) (b : ℕ) (fault : Fault) → IsFaultOf (bytes ++ b ∷ []) fault
    → fault.place ≡ length bytes → Judged (bytes ++ b ∷ more)
then_fault bytes more b fault h at =
    inr (
      fault,
      subst (λ (t : List ℕ). IsFaultOf t fault) (append_assoc bytes (b ∷ []) more)
          (fault_stays (bytes ++ b ∷ []) more fault h (omega (arith, at, length-append bytes (b ∷ [])))),
    )

from_here : (more : List ℕ) (f : Form) (events : List Placed) (opened : ℕ) (bytes : List ℕ)
    → EndsIn f events opened bytes → length bytes ≤ most_bytes → Judged (bytes ++ more)
from_here [] f events opened bytes e short = subst Judged (sym (append-nil bytes))
    (at_end f events opened bytes e short)
from_here (b ∷ more) f events opened bytes e short =
    elim (cases_lt (length bytes) most_bytes) [
      | inr full ↦
          let k : length bytes ≡ most_bytes = omega arith in
          then_fault bytes more b (fault_at TooLong most_bytes) (too_long f e b k) (sym k)
      | inl lt ↦
          elim (next_of f b) as (λ x. next_of f b ≡ x → GoesTo events opened bytes b x → Judged (bytes ++ b ∷ more)) [
            | None ↦ λ is g. then_fault bytes more b (fault_at (refusal f b) (length bytes)) (refused f e b lt is) refl
            | Some x ↦
                λ is g.
                subst Judged (append_assoc bytes (b ∷ []) more)
                (from_here more x.1 _ _ (bytes ++ b ∷ []) g (omega (arith, length-append bytes (b ∷ []))))
          ] refl (advances f e b)
    ]

pub judged : (bytes : List ℕ) → IsDocument bytes ⊎ ((fault : Fault) × IsFaultOf bytes fault)
judged bytes = from_here bytes NothingYet [] 0 [] nothing (omega arith)

-- ---- what comes before a fault

-- the bytes before a fault are viable
pub viable_before : (bytes : List ℕ) (fault : Fault) → IsFaultOf bytes fault → IsViable (take fault.place bytes)
viable_before bytes fault h =
    elim h [
      | inl t ↦ subst (λ (f : Fault). IsViable (take f.place bytes)) (sym t.fault_is) t.viable
      | inr r ↦ r.longest.viable
    ]

-- a fault isn't inside viable bytes
pub place_past : (bytes read more : List ℕ) (fault : Fault) → bytes ≡ read ++ more → IsViable read
    → length read ≤ most_bytes → IsFaultOf bytes fault → length read ≤ fault.place
place_past bytes read more fault is v short h =
    elim h [
      | inl t ↦ let e : fault.place ≡ most_bytes = ap (λ (f : Fault). f.place) t.fault_is in omega arith
      | inr r ↦
          let len : length bytes ≡ length read + length more = ap length is ∙ length-append read more in
          r.longest.longest (length read) (omega arith)
          (subst IsViable (sym (ap (take (length read)) is ∙ take-append_seam read more)) v)
    ]

-- so the bytes before a fault begin with the viable ones
pub before_fault : (bytes read more : List ℕ) (place : ℕ) → bytes ≡ read ++ more → length read ≤ place
    → (next : List ℕ) × (take place bytes ≡ read ++ next)
before_fault bytes read more place is le =
    let e : place ≡ length read + (place - length read) = omega arith in (
      take (place - length read) more,
      ap (λ (t : List ℕ). take place t) is ∙ ap (λ (n : ℕ). take n (read ++ more)) e
          ∙ take-append-add read more (place - length read),
    )
