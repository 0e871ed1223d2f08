-- What a reader must ensure for the next byte.
use Rattle.std.proofs.Common.{◌≡◌, ℕ, ◌+◌, ◌-◌, ◌<◌, ◌≤◌, Bool, true, false, cond, List, [], ◌∷◌, ◌++◌, length, take}
use Rattle.std.proofs.Common.{Option, Some, None, refl, sym, ap, subst, ◌∙◌, append_assoc, arith, inl, inr}
use Rattle.std.proofs.Common.{length-append}
use Rattle.std.specs.Prelude.{slice_get}
use Rattle.std.proofs.lemmas.Bool.{cases_lt, cond-true}
use Rattle.std.proofs.lemmas.List.{append-nil}
use Rattle.std.proofs.lemmas.Option.{slice_get_past}
use Rattle.std.proofs.Math.Seq.{take-append_seam, take-length}
use Rattle.sixel_grammar.specs.declared.command.Event.{Event}
use Rattle.sixel_grammar.specs.declared.command.Placed.{Placed}
use Rattle.sixel_grammar.specs.declared.command.Completed.{Completed}
use Rattle.sixel_grammar.specs.declared.fault.Fault.{Fault}
use Rattle.sixel_grammar.specs.declared.fault.Reason.{Reason}
use Rattle.sixel_grammar.specs.declared.fault.Reason.TheVariants.{Truncated, TooLong}
use Rattle.sixel_grammar.specs.declared.reader.Reader.{Reader}
use Rattle.sixel_grammar.specs.Document.{IsDocument, most_bytes}
use Rattle.sixel_grammar.specs.Prefixes.{CompleteIn, IsViable}
use Rattle.sixel_grammar.specs.Faults.{Form, NothingYet, Introducing, Parameters, LastSeparator, NoCommand}
use Rattle.sixel_grammar.specs.Faults.{RepeatNumber, RasterFields, ColourFields, Terminating, Ended, EndsIn, IsFaultOf}
use Rattle.sixel_grammar.specs.Faults.{refusal, is_idle}
use Rattle.sixel_grammar.specs.Next.{begin, within, chosen, next_of}
use Rattle.sixel_grammar.specs.Bytes.{is_data}
use Rattle.sixel_grammar.specs.declared.command.Command.{Command}
use Rattle.sixel_grammar.specs.declared.command.Command.TheVariants.{Sixel}
use Rattle.sixel_grammar.specs.declared.command.Event.TheVariants.{Step}
use Rattle.sixel_grammar.specs.Pending.{form_of}
use Rattle.sixel_grammar.specs.Standing.{StandsAfter, completions, opened_after}
use Rattle.sixel_grammar.proofs.AdvanceLemmas.{GoesTo, with_done, second_place, advances}
use Rattle.sixel_grammar.proofs.ChoiceLemmas.{goes-on}
use Rattle.sixel_grammar.proofs.PrefixLemmas.{nothing}
use Rattle.sixel_grammar.proofs.ViableLemmas.{complete}
use Rattle.sixel_grammar.proofs.WalkLemmas.{State, moved, walk}
use Rattle.sixel_grammar.proofs.DocumentWalkLemmas.{start, not_viable, document_walk, ends_walk}

abbrev pub fault_at : Reason → ℕ → Fault
fault_at reason place = record { reason = reason; place = place }

-- the events that byte number n completes: the command that it ends, and its own event
abbrev pub completed_events : ℕ → ℕ → Option Event → Option Event → List Placed
completed_events opened n None None = []
completed_events opened n None (Some event) = record { place = opened; event = event } ∷ []
completed_events opened n (Some event) None = record { place = opened; event = event } ∷ []
completed_events opened n (Some first) (Some second) =
    record { place = opened; event = first } ∷ record { place = n; event = second } ∷ []

-- the events after the byte are those before it and those that it completes
pub handed : (events : List Placed) (opened n : ℕ) (bytes : List ℕ) (first second : Option Event) → n ≡ length bytes
    → with_done (with_done events opened first) (second_place opened bytes first) second
    ≡ events ++ completed_events opened n first second
handed events opened n bytes None None e = sym (append-nil events)
handed events opened n bytes None (Some y) e = refl
handed events opened n bytes (Some x) None e = refl
handed events opened n bytes (Some x) (Some y) e =
    append_assoc events (record { place = opened; event = x } ∷ []) (record { place = length bytes; event = y } ∷ [])
    ∙ ap (λ (k : ℕ). events ++ record { place = opened; event = x } ∷ record { place = k; event = y } ∷ []) (sym e)

pub second-same : (opened n : ℕ) (bytes : List ℕ) (first : Option Event) → n ≡ length bytes
    → second_place opened bytes first ≡ moved opened n first
second-same opened n bytes None e = refl
second-same opened n bytes (Some x) e = sym e

-- the offset where what is open after a byte began
opened-next : (idle : Bool) (n o k : ℕ) → (idle ≡ false → o ≡ k) → cond idle n k ≡ cond idle n o
opened-next true n o k h = refl
opened-next false n o k h = sym (h refl)

-- a byte is accepted, with the events that it completes
pub accepted : (r q : Reader) (events : List Placed) (bytes : List ℕ) (b o : ℕ) (first second : Option Event)
    (c : Completed)
    → StandsAfter r events bytes
    → 0 < r.left → next_of (form_of r.pending) b ≡ Some (first, form_of q.pending, second)
    → o ≡ opened_after (length bytes) r
    → completions c ≡ completed_events o (length bytes) first second → q.fault ≡ r.fault → q.left ≡ r.left - 1
    → (is_idle (form_of q.pending) ≡ false → q.opened ≡ moved o (length bytes) first)
    → StandsAfter q (events ++ completions c) (bytes ++ b ∷ [])
accepted r q events bytes b o first second c s lt e at out fault left opened =
    let went : GoesTo events o bytes b (Some (first, form_of q.pending, second)) =
    subst (λ (t : Option (Option Event × Form × Option Event)). GoesTo events o bytes b t) e
    (advances (form_of r.pending) (subst (λ (k : ℕ). EndsIn (form_of r.pending) events k bytes) (sym at) s.ends) b) in
    let same : with_done (with_done events o first) (second_place o bytes first) second ≡ events ++ completions c =
    handed events o (length bytes) bytes first second refl ∙ ap (λ (t : List Placed). events ++ t) (sym out) in
    let len : length (bytes ++ b ∷ []) ≡ length bytes + 1 = length-append bytes (b ∷ []) in
    let place : cond (is_idle (form_of q.pending)) (length bytes + 1) (second_place o bytes first)
    ≡ opened_after (length (bytes ++ b ∷ [])) q =
    ap (λ (k : ℕ). cond (is_idle (form_of q.pending)) (length bytes + 1) k)
    (second-same o (length bytes) bytes first refl)
    ∙ opened-next (is_idle (form_of q.pending)) (length bytes + 1) q.opened (moved o (length bytes) first) opened
    ∙ ap (λ (k : ℕ). cond (is_idle (form_of q.pending)) k q.opened) (sym len) in
    record {
      no_fault = fault ∙ s.no_fault;
      left = omega (arith, s.left, left, len);
      ends = subst
          (λ (es : List Placed). EndsIn (form_of q.pending) es (opened_after (length (bytes ++ b ∷ [])) q)
          (bytes ++ b ∷ []))
          same (subst (λ (k : ℕ).
          EndsIn (form_of q.pending) (with_done (with_done events o first) (second_place o bytes first) second) k
          (bytes ++ b ∷ [])) place went);
    }

-- a byte continues what is open, and completes nothing
pub grown : (r q : Reader) (events : List Placed) (bytes : List ℕ) (b o : ℕ) → StandsAfter r events bytes → 0 < r.left
    → within (form_of r.pending) b ≡ Some (form_of q.pending, None) → o ≡ opened_after (length bytes) r
    → q.opened ≡ o → q.fault ≡ r.fault → q.left ≡ r.left - 1
    → StandsAfter q events (bytes ++ b ∷ [])
grown r q events bytes b o s lt w at opened fault left =
    subst (λ (es : List Placed). StandsAfter q es (bytes ++ b ∷ [])) (append-nil events)
    (accepted r q events bytes b o None None (record { first = None; second = None }) s lt
    (goes-on (form_of r.pending) (form_of q.pending) b None w) at refl fault left (λ i. opened))

-- the same, as an empty `Completed`
pub quiet : (q : Reader) (events : List Placed) (bytes : List ℕ) (c : Completed)
    → c ≡ record { first = None; second = None } → StandsAfter q events bytes
    → StandsAfter q (events ++ completions c) bytes
quiet q events bytes c none s =
    subst (λ (es : List Placed). StandsAfter q es bytes)
    (sym (append-nil events) ∙ ap (λ (d : Completed). events ++ completions d) (sym none)) s

-- a byte inside an open command, which completes nothing
pub inner : (r q : Reader) (events : List Placed) (bytes : List ℕ) (b : ℕ) (c : Completed)
    → StandsAfter r events bytes → 0 < r.left
    → within (form_of r.pending) b ≡ Some (form_of q.pending, None) → is_idle (form_of r.pending) ≡ false
    → c ≡ record { first = None; second = None }
    → q.opened ≡ r.opened → q.fault ≡ r.fault → q.left ≡ r.left - 1
    → StandsAfter q (events ++ completions c) (bytes ++ b ∷ [])
inner r q events bytes b c s lt w unfinished none opened fault left =
    quiet q events (bytes ++ b ∷ []) c none
    (grown r q events bytes b r.opened s lt w
    (ap (λ (i : Bool). cond i (length bytes) r.opened) (sym unfinished)) opened fault left)

-- a byte completes one event
pub whole : (r q : Reader) (events : List Placed) (bytes : List ℕ) (b o : ℕ) (event : Event) (c : Completed)
    → StandsAfter r events bytes → 0 < r.left
    → within (form_of r.pending) b ≡ Some (form_of q.pending, Some event) → o ≡ opened_after (length bytes) r
    → c ≡ record { first = Some (record { place = o; event = event }); second = None }
    → q.fault ≡ r.fault → q.left ≡ r.left - 1 → (is_idle (form_of q.pending) ≡ false → q.opened ≡ o)
    → StandsAfter q (events ++ completions c) (bytes ++ b ∷ [])
whole r q events bytes b o event c s lt w at is fault left opened =
    accepted r q events bytes b o None (Some event) c s lt
    (goes-on (form_of r.pending) (form_of q.pending) b (Some event) w) at (ap completions is) fault left opened

-- the same, and then no command is open
pub shut : (r q : Reader) (events : List Placed) (bytes : List ℕ) (b o : ℕ) (event : Event) (c : Completed)
    → StandsAfter r events bytes → 0 < r.left
    → within (form_of r.pending) b ≡ Some (NoCommand, Some event) → form_of q.pending ≡ NoCommand
    → o ≡ opened_after (length bytes) r
    → c ≡ record { first = Some (record { place = o; event = event }); second = None }
    → q.fault ≡ r.fault → q.left ≡ r.left - 1
    → StandsAfter q (events ++ completions c) (bytes ++ b ∷ [])
shut r q events bytes b o event c s lt w form at is fault left =
    whole r q events bytes b o event c s lt
    (w ∙ ap (λ (f : Form). Some (f, Some event)) (sym form)) at is fault left
    (λ i. absurd (let n = ap is_idle form in cc))

-- a byte that is a whole command, when no command is open
pub alone : (r q : Reader) (events : List Placed) (bytes : List ℕ) (b : ℕ) (command : Command) (c : Completed)
    → StandsAfter r events bytes → 0 < r.left → begin b ≡ Some (NoCommand, Some (Step command))
    → form_of r.pending ≡ NoCommand → q.pending ≡ r.pending
    → c ≡ record { first = Some (record { place = most_bytes - r.left; event = Step command }); second = None }
    → q.fault ≡ r.fault → q.left ≡ r.left - 1
    → StandsAfter q (events ++ completions c) (bytes ++ b ∷ [])
alone r q events bytes b command c s lt begins form same is fault left =
    let place : most_bytes - r.left ≡ length bytes = omega (arith, s.left) in
    shut r q events bytes b (length bytes) (Step command) c s lt
    (ap (λ (f : Form). within f b) form ∙ begins) (ap form_of same ∙ form)
    (ap (λ (i : Bool). cond i (length bytes) r.opened) (sym (ap is_idle form)))
    (is ∙ ap (λ (n : ℕ). record { first = Some (record { place = n; event = Step command }); second = None }) place)
    fault left

-- a single sixel when no command is open
pub sixel : (r q : Reader) (events : List Placed) (bytes : List ℕ) (b : ℕ) (c : Completed)
    → StandsAfter r events bytes → 0 < r.left → is_data b ≡ true
    → form_of r.pending ≡ NoCommand → q.pending ≡ r.pending
    → c ≡ record { first = Some (record { place = most_bytes - r.left; event = Step (Sixel (b - 63)) }); second = None }
    → q.fault ≡ r.fault → q.left ≡ r.left - 1
    → StandsAfter q (events ++ completions c) (bytes ++ b ∷ [])
sixel r q events bytes b c s lt t form same is fault left =
    alone r q events bytes b (Sixel (b - 63)) c s lt (cond-true (is_data b) _ _ t) form same is fault left

-- a byte that changes nothing, when no command is open
pub passed : (r q : Reader) (events : List Placed) (bytes : List ℕ) (b : ℕ) (c : Completed)
    → StandsAfter r events bytes → 0 < r.left → begin b ≡ Some (NoCommand, None)
    → form_of r.pending ≡ NoCommand → q.pending ≡ r.pending → c ≡ record { first = None; second = None }
    → q.fault ≡ r.fault → q.left ≡ r.left - 1
    → StandsAfter q (events ++ completions c) (bytes ++ b ∷ [])
passed r q events bytes b c s lt begins form same none fault left =
    let between : form_of q.pending ≡ NoCommand = ap form_of same ∙ form in
    accepted r q events bytes b (length bytes) None None c s lt
    (goes-on (form_of r.pending) (form_of q.pending) b None
    (ap (λ (f : Form). within f b) form ∙ begins ∙ ap (λ (f : Form). Some (f, None)) (sym between)))
    (ap (λ (i : Bool). cond i (length bytes) r.opened) (sym (ap is_idle form))) (ap completions none) fault left
    (λ i. absurd (let n = ap is_idle between in cc))

-- when no command is open, a byte ends none
chosen-none : (w y : Option (Form × Option Event)) (e : Event) (g : Form) (d : Option Event)
    → chosen w None y ≡ Some (Some e, g, d) → ⊥
chosen-none None y e g d h = cc
chosen-none (Some x) y e g d h =
    let k : Some (ended_at (Some (None, x.0, x.1))) ≡ Some (Some e) =
    ap (λ (o : Option (Option Event × Form × Option Event)). Some (ended_at o)) h in
    cc
  where
    ended_at : Option (Option Event × Form × Option Event) → Option Event
    ended_at None = None
    ended_at (Some p) = p.0

pub ends-unfinished : (f : Form) (b : ℕ) (e : Event) (g : Form) (d : Option Event)
    → next_of f b ≡ Some (Some e, g, d) → is_idle f ≡ false
ends-unfinished NothingYet b e g d h = absurd (chosen-none (within NothingYet b) (begin b) e g d h)
ends-unfinished Introducing b e g d h = refl
ends-unfinished (Parameters eight ns n) b e g d h = refl
ends-unfinished (LastSeparator eight ns) b e g d h = refl
ends-unfinished NoCommand b e g d h = absurd (chosen-none (begin b) (begin b) e g d h)
ends-unfinished (RepeatNumber n) b e g d h = refl
ends-unfinished (RasterFields ns n) b e g d h = refl
ends-unfinished (ColourFields ns n) b e g d h = refl
ends-unfinished Terminating b e g d h = refl
ends-unfinished Ended b e g d h = absurd (chosen-none (within Ended b) (begin b) e g d h)

-- a byte ends a command, and completes nothing itself
pub ended : (r q : Reader) (events : List Placed) (bytes : List ℕ) (b : ℕ) (event : Event)
    → StandsAfter r events bytes → 0 < r.left
    → next_of (form_of r.pending) b ≡ Some (Some event, form_of q.pending, None)
    → q.opened ≡ most_bytes - r.left → q.fault ≡ r.fault → q.left ≡ r.left - 1
    → StandsAfter q (events ++ record { place = r.opened; event = event } ∷ []) (bytes ++ b ∷ [])
ended r q events bytes b event s lt e opened fault left =
    let unfinished = ends-unfinished (form_of r.pending) b event (form_of q.pending) None e in
    accepted r q events bytes b r.opened (Some event) None
    (record { first = Some (record { place = r.opened; event = event }); second = None }) s lt e
    (ap (λ (i : Bool). cond i (length bytes) r.opened) (sym unfinished)) refl fault left
    (λ i. opened ∙ omega (arith, s.left))

-- a byte ends a command, and completes an event itself
pub both : (r q : Reader) (events : List Placed) (bytes : List ℕ) (b o : ℕ) (first second : Event) (c : Completed)
    → StandsAfter r events bytes → 0 < r.left
    → next_of (form_of r.pending) b ≡ Some (Some first, form_of q.pending, Some second)
    → o ≡ opened_after (most_bytes - r.left) r
    → c
    ≡ record {
      first = Some (record { place = o; event = first });
      second = Some (record { place = most_bytes - r.left; event = second });
    }
    → q.opened ≡ most_bytes - r.left → q.fault ≡ r.fault → q.left ≡ r.left - 1
    → StandsAfter q (events ++ completions c) (bytes ++ b ∷ [])
both r q events bytes b o first second c s lt e at is opened fault left =
    let place : most_bytes - r.left ≡ length bytes = omega (arith, s.left) in
    accepted r q events bytes b o (Some first) (Some second) c s lt e (at ∙ ap (λ (n : ℕ). opened_after n r) place)
    (ap completions is
    ∙ ap (λ (n : ℕ). record { place = o; event = first } ∷ record { place = n; event = second } ∷ []) place) fault left
    (λ i. opened ∙ place)

-- what is open in a state
abbrev pub form_at : Option State → Form
form_at None = NothingYet
form_at (Some s) = s.form

get-last : (xs : List ℕ) (b : ℕ) → slice_get (xs ++ b ∷ []) (length xs) ≡ Some b
get-last [] b = refl
get-last (x ∷ xs) b = get-last xs b

prefix_viable : (f : Form) {events : List Placed} {opened : ℕ} {bytes : List ℕ}
    (e : EndsIn f events opened bytes) (b : ℕ)
    → IsViable (take (length bytes) (bytes ++ b ∷ []))
prefix_viable f {events = events} {bytes = bytes} e b =
    subst IsViable (sym (take-append_seam bytes (b ∷ []))) (events, complete f e)

pub refused : (f : Form) {events : List Placed} {opened : ℕ} {bytes : List ℕ} (e : EndsIn f events opened bytes)
    (b : ℕ)
    → length bytes < most_bytes → next_of f b ≡ None
    → IsFaultOf (bytes ++ b ∷ []) (fault_at (refusal f b) (length bytes))
refused f {events = events} {opened = opened} {bytes = bytes} e b lt stop =
    let len = length-append bytes (b ∷ []) in
    inr (record {
      longest = record {
        within = omega arith;
        viable = prefix_viable f e b;
        longest = λ n le v. elim (cases_lt (length bytes) n) [
          | inl more ↦ let k : n ≡ length (bytes ++ b ∷ []) = omega arith in
              absurd (not_viable f e b [] stop
              (subst IsViable (ap (λ (m : ℕ). take m (bytes ++ b ∷ [])) k ∙ take-length (bytes ++ b ∷ [])) v))
          | inr h ↦ h
        ];
      };
      within = omega arith;
      refuses = rw (take-append_seam, get-last) (f, events, opened, e, refl);
    })

pub too_long : (f : Form) {events : List Placed} {opened : ℕ} {bytes : List ℕ}
    (e : EndsIn f events opened bytes) (b : ℕ)
    → length bytes ≡ most_bytes → IsFaultOf (bytes ++ b ∷ []) (fault_at TooLong most_bytes)
too_long f {bytes = bytes} e b k =
    inl (record {
      long = omega (arith, length-append bytes (b ∷ []));
      viable = subst (λ (n : ℕ). IsViable (take n (bytes ++ b ∷ []))) k (prefix_viable f e b);
      fault_is = refl;
    })

pub truncated : (f : Form) {events : List Placed} {opened : ℕ} {bytes : List ℕ} (e : EndsIn f events opened bytes)
    → length bytes ≤ most_bytes → (f ≡ Ended → ⊥) → IsFaultOf bytes (fault_at Truncated (length bytes))
truncated f {events = events} {bytes = bytes} e short other =
    inr (record {
      longest = record {
        within = omega arith;
        viable = subst IsViable (sym (take-length bytes)) (events, complete f e);
        longest = λ n le v. le;
      };
      within = omega arith;
      refuses = rw (slice_get_past bytes (length bytes) (omega arith)) (
        (λ (d : IsDocument (take (length bytes) bytes)).
            let w = document_walk d.1.pieces (take (length bytes) bytes) d.1.parses in
            let t = take-length bytes in
            let u = ends_walk f e in
            let x : f ≡ Ended = ap form_at (sym u ∙ ap (walk 0 start) (sym t) ∙ w) in other x),
        refl,
      );
    })

-- at the limit
pub stopped : (r : Reader) (events : List Placed) (bytes : List ℕ) (b : ℕ) → StandsAfter r events bytes → r.left ≡ 0
    → IsFaultOf (bytes ++ b ∷ []) (fault_at TooLong (most_bytes - r.left)) × (most_bytes - r.left ≡ length bytes)
stopped r events bytes b s none =
    let k : length bytes ≡ most_bytes = omega (arith, s.left, none) in
    let place : most_bytes - r.left ≡ most_bytes = omega (arith, none) in (
      subst (λ (n : ℕ). IsFaultOf (bytes ++ b ∷ []) (fault_at TooLong n)) (sym place)
          (too_long (form_of r.pending) s.ends b k),
      place ∙ sym k,
    )

-- a byte that isn't accepted
pub refused_at : (r : Reader) (events : List Placed) (bytes : List ℕ) (b : ℕ) → StandsAfter r events bytes
    → 0 < r.left → next_of (form_of r.pending) b ≡ None
    → IsFaultOf (bytes ++ b ∷ []) (fault_at (refusal (form_of r.pending) b) (most_bytes - r.left))
    × (most_bytes - r.left ≡ length bytes)
refused_at r events bytes b s lt stop =
    let place : most_bytes - r.left ≡ length bytes = omega (arith, s.left) in (
      subst (λ (n : ℕ). IsFaultOf (bytes ++ b ∷ []) (fault_at (refusal (form_of r.pending) b) n)) (sym place)
          (refused (form_of r.pending) s.ends b (omega (arith, s.left)) stop),
      place,
    )

pub nothing_read : (r : Reader) → r.fault ≡ None → r.left ≡ most_bytes → form_of r.pending ≡ NothingYet
    → StandsAfter r [] []
nothing_read r fault left form = record {
  no_fault = fault;
  left = omega (arith, left);
  ends = subst (λ (f : Form). EndsIn f [] (cond (is_idle f) 0 r.opened) []) (sym form) nothing;
}

-- ---- what follows for the bytes that a reader has read

pub read_complete : (r : Reader) (events : List Placed) (bytes : List ℕ) → StandsAfter r events bytes
    → CompleteIn events bytes
read_complete r events bytes s = complete (form_of r.pending) s.ends

pub read_short : (r : Reader) (events : List Placed) (bytes : List ℕ) → StandsAfter r events bytes
    → length bytes ≤ most_bytes
read_short r events bytes s = omega (arith, s.left)
