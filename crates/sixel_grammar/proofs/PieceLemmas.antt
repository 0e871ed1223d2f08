-- Adding a piece at the end, and what a prefix ends in after one more byte. Nothing here depends on which bytes spell
-- which event.
use Rattle.std.proofs.Common.{◌≡◌, ℕ, ◌+◌, ◌<◌, Bool, false, List, [], ◌∷◌, ◌++◌, length, refl, sym, ap, ◌∙◌}
use Rattle.std.proofs.Common.{append_assoc, arith, length-append}
use Rattle.std.specs.Prelude.{IsTrue}
use Rattle.std.specs.List.{AllByRecursion}
use Rattle.std.proofs.lemmas.List.{append-nil}
use Rattle.sixel_grammar.specs.declared.command.Command.{Command}
use Rattle.sixel_grammar.specs.declared.command.Event.{Event}
use Rattle.sixel_grammar.specs.declared.command.Event.TheVariants.{Start, Step, Finish}
use Rattle.sixel_grammar.specs.declared.command.Placed.{Placed}
use Rattle.sixel_grammar.specs.Bytes.{is_filler}
use Rattle.sixel_grammar.specs.Spelling.{Spells, is_open_ended}
use Rattle.sixel_grammar.specs.Document.{AreFiller, Piece, IsPiece, bytes_of, joined, events_in, placed_from, AreRest}
use Rattle.sixel_grammar.specs.Document.{AreWhole}
use Rattle.sixel_grammar.specs.Faults.{Form, NoCommand, Opens, Precede, AreSteps, AreBegun, IsClosed, EndsIn}

pub joined-more : (ps : List Piece) (p : Piece) → joined (ps ++ p ∷ []) ≡ joined ps ++ bytes_of p
joined-more [] p = append-nil (bytes_of p)
joined-more (q ∷ ps) p =
    ap (λ (t : List ℕ). bytes_of q ++ t) (joined-more ps p) ∙ sym (append_assoc (bytes_of q) (joined ps) (bytes_of p))

pub joined-append : (ps qs : List Piece) → joined (ps ++ qs) ≡ joined ps ++ joined qs
joined-append [] qs = refl
joined-append (q ∷ ps) qs =
    ap (λ (t : List ℕ). bytes_of q ++ t) (joined-append ps qs) ∙ sym (append_assoc (bytes_of q) (joined ps) (joined qs))

pub said-append : (ps qs : List Piece) → events_in (ps ++ qs) ≡ events_in ps ++ events_in qs
said-append [] qs = refl
said-append (q ∷ ps) qs = ap (λ (t : List Event). q.event ∷ t) (said-append ps qs)

pub all-append : {A : Type 0} (P : A → Type 0) (xs ys : List A) → AllByRecursion P xs → AllByRecursion P ys
    → AllByRecursion P (xs ++ ys)
all-append P [] ys h k = k
all-append P (x ∷ xs) ys h k = (h.0, all-append P xs ys h.1 k)

pub placed-more : (n : ℕ) (ps : List Piece) (p : Piece)
    → placed_from n (ps ++ p ∷ [])
    ≡ placed_from n ps ++ record { place = n + length (joined ps) + length p.filler; event = p.event } ∷ []
placed-more n [] p =
    let e : n + length p.filler ≡ n + 0 + length p.filler = omega arith in
    ap (λ (k : ℕ). record { place = k; event = p.event } ∷ []) e
placed-more n (q ∷ ps) p =
    let e : n + length (bytes_of q) + length (joined ps) + length p.filler
    ≡ n + length (bytes_of q ++ joined ps) + length p.filler =
    omega (arith, length-append (bytes_of q) (joined ps)) in
    ap (λ (es : List Placed). record { place = n + length q.filler; event = q.event } ∷ es)
    (placed-more (n + length (bytes_of q)) ps p
    ∙ ap (λ (k : ℕ). placed_from (n + length (bytes_of q)) ps ++ record { place = k; event = p.event } ∷ []) e)

abbrev pub start_of : Bool → List ℕ → Event
start_of eight ns = Start eight (record { items = ns })

pub steps-step : (es : List Event) (c : Command) → AreSteps es → AreSteps (es ++ Step c ∷ [])
steps-step [] c h = tt
steps-step (Start eight ps ∷ es) c h = h
steps-step (Step d ∷ es) c h = steps-step es c h
steps-step (Finish eight ∷ es) c h = h

pub begun-step : (es : List Event) (c : Command) → AreBegun es → AreBegun (es ++ Step c ∷ [])
begun-step [] c h = absurd h
begun-step (Start eight ps ∷ es) c h = steps-step es c h
begun-step (Step d ∷ es) c h = h
begun-step (Finish eight ∷ es) c h = h

steps-finish : (es : List Event) (eight : Bool) → AreSteps es → AreRest (es ++ Finish eight ∷ [])
steps-finish [] b h = refl
steps-finish (Start eight ps ∷ es) b h = h
steps-finish (Step d ∷ es) b h = steps-finish es b h
steps-finish (Finish eight ∷ es) b h = absurd h

pub begun-finish : (es : List Event) (eight : Bool) → AreBegun es → AreWhole (es ++ Finish eight ∷ [])
begun-finish [] b h = absurd h
begun-finish (Start eight ps ∷ es) b h = steps-finish es b h
begun-finish (Step d ∷ es) b h = h
begun-finish (Finish eight ∷ es) b h = h

pub closed-at : (ps : List Piece) (p : Piece) (n : ℕ) → (IsTrue (is_open_ended p.event) → 0 < n)
    → IsClosed (ps ++ p ∷ []) n
closed-at [] p n h = h
closed-at (q ∷ []) p n h = h
closed-at (q ∷ r ∷ ps) p n h = closed-at (r ∷ ps) p n h

pub closed-some : (ps : List Piece) (n : ℕ) → 0 < n → IsClosed ps n
closed-some [] n h = tt
closed-some (p ∷ []) n h = λ t. h
closed-some (p ∷ q ∷ ps) n h = closed-some (q ∷ ps) n h

-- like EndsIn, but the next byte may still lengthen the last piece
pub record Loose (form : Form) (events : List Placed) (opened : ℕ) (bytes : List ℕ) : Type 0 where
  pub pieces : List Piece
  pub filler : List ℕ
  pub open_bytes : List ℕ
  pub bytes_are : bytes ≡ joined pieces ++ filler ++ open_bytes
  pub each : AllByRecursion IsPiece pieces
  pub filler_is : AreFiller filler
  pub opens : Opens form open_bytes
  pub before : Precede form (events_in pieces)
  pub events_are : events ≡ placed_from 0 pieces
  pub opened_is : opened ≡ length (joined pieces) + length filler

pub loosen : {f : Form} {events : List Placed} {opened : ℕ} {bytes : List ℕ} → EndsIn f events opened bytes
    → Loose f events opened bytes
loosen e =
    record {
      pieces = e.pieces;
      filler = e.filler;
      open_bytes = e.open_bytes;
      bytes_are = e.bytes_are;
      each = e.each;
      filler_is = e.filler_is;
      opens = e.opens;
      before = e.before;
      events_are = e.events_are;
      opened_is = e.opened_is;
    }

-- the byte continues the open piece
pub grow : {f : Form} {events : List Placed} {opened : ℕ} {bytes : List ℕ} (e : Loose f events opened bytes)
    (b : ℕ) (g : Form)
    → Opens g (e.open_bytes ++ b ∷ []) → Precede g (events_in e.pieces) → EndsIn g events opened (bytes ++ b ∷ [])
grow e b g opens before = record {
  pieces = e.pieces;
  filler = e.filler;
  open_bytes = e.open_bytes ++ b ∷ [];
  bytes_are = ap (λ (t : List ℕ). t ++ b ∷ []) e.bytes_are
      ∙ append_assoc (joined e.pieces ++ e.filler) e.open_bytes (b ∷ []);
  each = e.each;
  filler_is = e.filler_is;
  opens = opens;
  before = before;
  closed = closed-some e.pieces (length e.filler + length (e.open_bytes ++ b ∷ []))
      (omega (arith, length-append e.open_bytes (b ∷ [])));
  events_are = e.events_are;
  opened_is = e.opened_is;
}

-- the byte is more filler
pub fill : {f : Form} {events : List Placed} {opened : ℕ} {bytes : List ℕ} (e : Loose f events opened bytes)
    (b : ℕ) (g : Form)
    → e.open_bytes ≡ [] → IsTrue (is_filler b) → Opens g [] → Precede g (events_in e.pieces)
    → EndsIn g events (length bytes + 1) (bytes ++ b ∷ [])
fill {bytes} e b g none is opens before =
    let whole : bytes ≡ joined e.pieces ++ e.filler =
    e.bytes_are
    ∙ ap (λ (t : List ℕ). joined e.pieces ++ e.filler ++ t) none
    ∙ append-nil (joined e.pieces ++ e.filler) in
    record {
      pieces = e.pieces;
      filler = e.filler ++ b ∷ [];
      open_bytes = [];
      bytes_are = ap (λ (t : List ℕ). t ++ b ∷ []) whole
          ∙ append_assoc (joined e.pieces) e.filler (b ∷ [])
          ∙ sym (append-nil (joined e.pieces ++ (e.filler ++ b ∷ [])));
      each = e.each;
      filler_is = all-append (λ (x : ℕ). IsTrue (is_filler x)) e.filler (b ∷ []) e.filler_is (is, tt);
      opens = opens;
      before = before;
      closed = closed-some e.pieces (length (e.filler ++ b ∷ []) + 0) (omega (arith, length-append e.filler (b ∷ [])));
      events_are = e.events_are;
      opened_is = omega
          (arith, ap length whole, length-append (joined e.pieces) e.filler, length-append e.filler (b ∷ []));
    }

-- the byte completes the open piece
pub close : {f : Form} {events : List Placed} {opened : ℕ} {bytes : List ℕ} (e : Loose f events opened bytes)
    (b : ℕ) (event : Event) (g : Form)
    → Spells event (e.open_bytes ++ b ∷ []) → is_open_ended event ≡ false → Opens g []
    → Precede g (events_in e.pieces ++ event ∷ [])
    → EndsIn g (events ++ record { place = opened; event = event } ∷ []) (length bytes + 1) (bytes ++ b ∷ [])
close {events = events} {opened = opened} {bytes = bytes} e b event g spells shut opens before =
    let p : Piece = record { filler = e.filler; text = e.open_bytes ++ b ∷ []; event = event } in
    let j : joined (e.pieces ++ p ∷ []) ≡ joined e.pieces ++
    (e.filler ++ (e.open_bytes ++ b ∷ [])) = joined-more e.pieces p in
    let whole : bytes ++ b ∷ [] ≡ joined (e.pieces ++ p ∷ []) =
    ap (λ (t : List ℕ). t ++ b ∷ []) e.bytes_are ∙ simp append_assoc (sym j) in
    record {
      pieces = e.pieces ++ p ∷ [];
      filler = [];
      open_bytes = [];
      bytes_are = whole ∙ sym (append-nil (joined (e.pieces ++ p ∷ [])))
          ∙ sym (append-nil (joined (e.pieces ++ p ∷ []) ++ []));
      each = all-append IsPiece e.pieces (p ∷ []) e.each (record { filler_is = e.filler_is; spells = spells }, tt);
      filler_is = tt;
      opens = opens;
      before = rw said-append before;
      closed = closed-at e.pieces p 0 (λ t. absurd cc);
      events_are = ap (λ (es : List Placed). es ++ record { place = opened; event = event } ∷ []) e.events_are
          ∙ ap (λ (k : ℕ). placed_from 0 e.pieces ++ record { place = k; event = event } ∷ [])
          (omega (arith, e.opened_is))
          ∙ sym (placed-more 0 e.pieces p);
      opened_is = omega (arith, ap length whole, length-append bytes (b ∷ []));
    }

-- the open piece is whole as it is
pub settle : {f : Form} {events : List Placed} {opened : ℕ} {bytes : List ℕ} (e : Loose f events opened bytes)
    (event : Event)
    → Spells event e.open_bytes → AreBegun (events_in e.pieces ++ event ∷ [])
    → Loose NoCommand (events ++ record { place = opened; event = event } ∷ []) (length bytes) bytes
settle {events = events} {opened = opened} {bytes = bytes} e event spells before =
    let p : Piece = record { filler = e.filler; text = e.open_bytes; event = event } in
    let j : joined (e.pieces ++ p ∷ []) ≡ joined e.pieces ++ (e.filler ++ e.open_bytes) = joined-more e.pieces p in
    let whole : bytes ≡ joined (e.pieces ++ p ∷ []) =
    e.bytes_are ∙ append_assoc (joined e.pieces) e.filler e.open_bytes ∙ sym j in
    record {
      pieces = e.pieces ++ p ∷ [];
      filler = [];
      open_bytes = [];
      bytes_are = whole ∙ sym (append-nil (joined (e.pieces ++ p ∷ [])))
          ∙ sym (append-nil (joined (e.pieces ++ p ∷ []) ++ []));
      each = all-append IsPiece e.pieces (p ∷ []) e.each (record { filler_is = e.filler_is; spells = spells }, tt);
      filler_is = tt;
      opens = refl;
      before = rw said-append before;
      events_are = ap (λ (es : List Placed). es ++ record { place = opened; event = event } ∷ []) e.events_are
          ∙ ap (λ (k : ℕ). placed_from 0 e.pieces ++ record { place = k; event = event } ∷ [])
          (omega (arith, e.opened_is))
          ∙ sym (placed-more 0 e.pieces p);
      opened_is = omega (arith, ap length whole);
    }
