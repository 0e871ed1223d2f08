-- Raster attributes that are complete in some bytes: with more bytes as much is written of them.
use Rattle.std.proofs.Common.{◌≡◌, ◌≢◌, ◌∙◌, ◌==◌, ◌+◌, ◌<◌, ◌++◌, ℕ, zero, suc, Bool, true, false, List, [], ◌∷◌, Option}
use Rattle.std.proofs.Common.{Some, None, ap, append_assoc, arith, inl, inr, length, refl, subst, sym}
use Rattle.std.specs.Prelude.{◌⊎◌, IsTrue, slice_get, if◌then◌else◌}
use Rattle.std.specs.List.{AllByRecursion}
use Rattle.std.specs.Option.{option_map}
use Rattle.std.proofs.lemmas.Bool.Decides.{nat_tests}
use Rattle.std.proofs.lemmas.List.{length-append}
use Rattle.sixel_grammar.specs.Bytes.{introducer, is_filler, raster_sign}
use Rattle.sixel_grammar.specs.declared.command.Command.TheVariants.{CarriageReturn, Define, NextLine, Raster, Repeat}
use Rattle.sixel_grammar.specs.declared.command.Command.TheVariants.{Select, Sixel}
use Rattle.sixel_grammar.specs.declared.command.Event.{Event}
use Rattle.sixel_grammar.specs.declared.command.Event.TheVariants.{Finish, Start, Step}
use Rattle.sixel_grammar.specs.declared.command.Placed.{Placed}
use Rattle.sixel_grammar.specs.declared.reader.Reader.{Reader}
use Rattle.sixel_grammar.specs.Document.{AreFiller, IsPiece, Piece, bytes_of, joined, placed_from}
use Rattle.sixel_grammar.specs.Faults.{ColourFields, Ended, Form, Introducing, IsClosed, LastSeparator, NoCommand}
use Rattle.sixel_grammar.specs.Faults.{NothingYet, Opens, Parameters, RasterFields, RepeatNumber, Terminating}
use Rattle.sixel_grammar.specs.Pending.{form_of}
use Rattle.sixel_grammar.specs.Spelling.{Spells, is_open_ended}
use Rattle.sixel_grammar.specs.Standing.{StandsAfter}
use Rattle.sixel_grammar.proofs.ViableLemmas.{spells-some}
use Rattle.sixel_omissions.specs.declared.raster.WrittenRaster.{WrittenRaster}
use Rattle.sixel_omissions.specs.Omissions.{is_numeric}
use Rattle.sixel_omissions.specs.Rasters.{first_raster, numbers_before, raster_from, written_of}

-- ---- what may be behind numbers

-- the first byte, if there is one, stands in no numbers
abbrev BeginsElse : List ℕ → Type 0
BeginsElse [] = Unit {0}
BeginsElse (b ∷ bs) = is_numeric b ≡ false

else_append : (xs ys : List ℕ) → BeginsElse xs → BeginsElse ys → BeginsElse (xs ++ ys)
else_append [] ys first second = second
else_append (x ∷ xs) ys first second = first

-- something else at the beginning
else_first : (b : ℕ) (rest bytes : List ℕ) → is_numeric b ≡ false → bytes ≡ b ∷ rest → BeginsElse bytes
else_first b rest bytes other is = subst BeginsElse (sym is) other

nothing : (bytes : List ℕ) → bytes ≡ [] → BeginsElse bytes
nothing bytes is = subst BeginsElse (sym is) tt

filler_else : (bytes : List ℕ) → AreFiller bytes → BeginsElse bytes
filler_else [] all = tt
filler_else (b ∷ bs) all = let filler : is_filler b ≡ true = all.0 in grind (arith, nat_tests)

data_else : (bits : ℕ) → is_numeric (63 + bits) ≡ false
data_else bits = grind (arith, nat_tests)

introducer_else : (eight : Bool) (rest bytes : List ℕ) → bytes ≡ introducer eight ++ rest → BeginsElse bytes
introducer_else true rest bytes is = else_first 144 rest bytes refl is
introducer_else false rest bytes is = else_first 27 (80 ∷ rest) bytes refl is

spells_else : (e : Event) (text : List ℕ) → Spells e text → BeginsElse text
spells_else (Start true ps) text h = introducer_else true (h.0 ++ h.1) text (h.5 ∙ append_assoc (introducer true) h.0 h.1)
spells_else (Start false ps) text h =
    introducer_else false (h.0 ++ h.1) text (h.5 ∙ append_assoc (introducer false) h.0 h.1)
spells_else (Step (Sixel bits)) text h = else_first (63 + bits) [] text (data_else bits) h.1
spells_else (Step (Repeat n bits)) text h = else_first 33 (h.0 ++ (63 + bits) ∷ []) text refl h.3
spells_else (Step (Raster a b c d)) text h = else_first 34 h.1 text refl h.5
spells_else (Step (Select r)) text h = else_first 35 h.0 text refl h.2
spells_else (Step (Define r s x y z)) text h = else_first 35 h.0 text refl h.2
spells_else (Step CarriageReturn) text h = else_first 36 [] text refl h
spells_else (Step NextLine) text h = else_first 45 [] text refl h
spells_else (Finish true) text h = else_first 156 [] text refl h
spells_else (Finish false) text h = else_first 27 (92 ∷ []) text refl h

opens_else : (form : Form) (bytes : List ℕ) → Opens form bytes → BeginsElse bytes
opens_else NothingYet bytes h = nothing bytes h
opens_else Introducing bytes h = else_first 27 [] bytes refl h
opens_else (Parameters eight ns n) bytes h = introducer_else eight h.0 bytes h.3
opens_else (LastSeparator eight ns) bytes h =
    introducer_else eight (h.0 ++ 59 ∷ []) bytes (h.3 ∙ append_assoc (introducer eight) h.0 (59 ∷ []))
opens_else NoCommand bytes h = nothing bytes h
opens_else (RepeatNumber n) bytes h = else_first 33 h.0 bytes refl h.2
opens_else (RasterFields ns n) bytes h = else_first 34 h.0 bytes refl h.3
opens_else (ColourFields ns n) bytes h = else_first 35 h.0 bytes refl h.3
opens_else Terminating bytes h = else_first 27 [] bytes refl h
opens_else Ended bytes h = nothing bytes h

pieces_else : (pieces : List Piece) (rest : List ℕ) → AllByRecursion IsPiece pieces → BeginsElse rest
    → BeginsElse (joined pieces ++ rest)
pieces_else [] rest each other = other
pieces_else (q ∷ qs) rest each other =
    subst BeginsElse (sym (append_assoc (bytes_of q) (joined qs) rest ∙ append_assoc q.filler q.text (joined qs ++ rest)))
    (else_append q.filler (q.text ++ (joined qs ++ rest)) (filler_else q.filler each.0.filler_is)
    (else_append q.text (joined qs ++ rest) (spells_else q.event q.text each.0.spells)
    (pieces_else qs rest each.1 other)))

-- ---- where raster attributes stand

abbrev pub IsRaster : Event → Type 0
IsRaster (Step (Raster pan pad width height)) = Unit {0}
IsRaster _ = ⊥

-- raster attributes with this offset in bytes of which the first one has the offset n, and a byte of no numbers behind
-- theirs
record StandsAt (place n : ℕ) (bytes : List ℕ) : Type 0 where
  before : List ℕ
  text : List ℕ
  end : ℕ
  behind : List ℕ
  bytes_are : bytes ≡ before ++ raster_sign ∷ (text ++ end ∷ behind)
  ends : is_numeric end ≡ false
  place_is : n + length before ≡ place

text_of : (e : Event) (text : List ℕ) → IsRaster e → Spells e text → (fields : List ℕ) × (text ≡ raster_sign ∷ fields)
text_of (Step (Raster pan pad width height)) text is h = (h.1, h.5)
text_of (Step (Sixel bits)) text is h = absurd is
text_of (Step (Repeat count bits)) text is h = absurd is
text_of (Step (Select register)) text is h = absurd is
text_of (Step (Define register system x y z)) text is h = absurd is
text_of (Step CarriageReturn) text is h = absurd is
text_of (Step NextLine) text is h = absurd is
text_of (Start eight parameters) text is h = absurd is
text_of (Finish eight) text is h = absurd is

open_ended : (e : Event) → IsRaster e → IsTrue (is_open_ended e)
open_ended (Step (Raster pan pad width height)) is = refl
open_ended (Step (Sixel bits)) is = absurd is
open_ended (Step (Repeat count bits)) is = absurd is
open_ended (Step (Select register)) is = absurd is
open_ended (Step (Define register system x y z)) is = absurd is
open_ended (Step CarriageReturn) is = absurd is
open_ended (Step NextLine) is = absurd is
open_ended (Start eight parameters) is = absurd is
open_ended (Finish eight) is = absurd is

-- the first piece, and what is behind it
first_stands : (n : ℕ) (q : Piece) (p : Placed) (end : ℕ) (behind : List ℕ) → IsPiece q → is_numeric end ≡ false
    → record { place = n + length q.filler; event = q.event } ≡ p → IsRaster p.event
    → StandsAt p.place n (bytes_of q ++ end ∷ behind)
first_stands n q p end behind piece other same is =
    let event : q.event ≡ p.event = ap (λ (r : Placed). r.event) same in
    let text = text_of q.event q.text (subst IsRaster (sym event) is) piece.spells in record {
      before = q.filler;
      text = text.0;
      end = end;
      behind = behind;
      bytes_are = append_assoc q.filler q.text (end ∷ behind)
          ∙ ap (λ (t : List ℕ). q.filler ++ (t ++ end ∷ behind)) text.1;
      ends = other;
      place_is = ap (λ (r : Placed). r.place) same;
    }

first_there : (n : ℕ) (q : Piece) (p : Placed) (behind : List ℕ) → IsPiece q → 0 < length behind → BeginsElse behind
    → record { place = n + length q.filler; event = q.event } ≡ p → IsRaster p.event
    → StandsAt p.place n (bytes_of q ++ behind)
first_there n q p [] piece some other same is = absurd (omega (arith, some))
first_there n q p (b ∷ bs) piece some other same is = first_stands n q p b bs piece other same is

-- behind bytes more
moved : (place n : ℕ) (front bytes : List ℕ) → StandsAt place (n + length front) bytes → StandsAt place n (front ++ bytes)
moved place n front bytes h = record {
  before = front ++ h.before;
  text = h.text;
  end = h.end;
  behind = h.behind;
  bytes_are = ap (λ (bs : List ℕ). front ++ bs) h.bytes_are
      ∙ sym (append_assoc front h.before (raster_sign ∷ (h.text ++ h.end ∷ h.behind)));
  ends = h.ends;
  place_is = let long = length-append front h.before in let place = h.place_is in omega (arith, long, place);
}

some_bytes : (q : Piece) (rest : List ℕ) → IsPiece q → 0 < length (bytes_of q ++ rest)
some_bytes q rest piece =
    let some = spells-some q.event q.text piece.spells in
    omega (arith, some, length-append (bytes_of q) rest, length-append q.filler q.text)

in_pieces : (n : ℕ) (rest : List ℕ) (pieces : List Piece) (i : ℕ) (p : Placed) → AllByRecursion IsPiece pieces
    → IsClosed pieces (length rest) → BeginsElse rest → slice_get (placed_from n pieces) i ≡ Some p → IsRaster p.event
    → StandsAt p.place n (joined pieces ++ rest)
in_pieces n rest [] i p each closed other there is = absurd cc
in_pieces n rest (q ∷ []) zero p each closed other there is =
    let same : record { place = n + length q.filler; event = q.event } ≡ p = cc in
    let event : q.event ≡ p.event = ap (λ (r : Placed). r.event) same in
    subst (λ (bs : List ℕ). StandsAt p.place n bs) (sym (append_assoc (bytes_of q) [] rest))
    (first_there n q p rest each.0 (closed (open_ended q.event (subst IsRaster (sym event) is))) other same is)
in_pieces n rest (q ∷ []) (suc i) p each closed other there is = absurd cc
in_pieces n rest (q ∷ r ∷ ps) zero p each closed other there is =
    let same : record { place = n + length q.filler; event = q.event } ≡ p = cc in
    let behind = joined (r ∷ ps) ++ rest in
    let some = some_bytes r (joined ps ++ rest) (each.1).0 in
    subst (λ (bs : List ℕ). StandsAt p.place n bs) (sym (append_assoc (bytes_of q) (joined (r ∷ ps)) rest))
    (first_there n q p behind each.0 (omega (arith, some, ap length (append_assoc (bytes_of r) (joined ps) rest)))
    (pieces_else (r ∷ ps) rest each.1 other) same is)
in_pieces n rest (q ∷ r ∷ ps) (suc i) p each closed other there is =
    subst (λ (bs : List ℕ). StandsAt p.place n bs) (sym (append_assoc (bytes_of q) (joined (r ∷ ps)) rest))
    (moved p.place n (bytes_of q) (joined (r ∷ ps) ++ rest)
    (in_pieces (n + length (bytes_of q)) rest (r ∷ ps) i p each.1 closed other there is))

raster_stands : (reader : Reader) (events : List Placed) (bytes : List ℕ) (i : ℕ) (p : Placed)
    → StandsAfter reader events bytes → slice_get events i ≡ Some p → IsRaster p.event → StandsAt p.place 0 bytes
raster_stands reader events bytes i p stands there is =
    let e = stands.ends in
    let rest = e.filler ++ e.open_bytes in
    let placed : slice_get (placed_from 0 e.pieces) i ≡ Some p =
    subst (λ (l : List Placed). slice_get l i ≡ Some p) e.events_are there in
    let long = length-append e.filler e.open_bytes in
    subst (λ (bs : List ℕ). StandsAt p.place 0 bs)
    (sym (e.bytes_are ∙ append_assoc (joined e.pieces) e.filler e.open_bytes))
    (in_pieces 0 rest e.pieces i p e.each (subst (IsClosed e.pieces) (sym long) e.closed)
    (else_append e.filler e.open_bytes (filler_else e.filler e.filler_is)
    (opens_else (form_of reader.pending) e.open_bytes e.opens)) placed is)

-- ---- with more bytes

numbers_same : (text : List ℕ) (end : ℕ) (behind more : List ℕ) → is_numeric end ≡ false
    → numbers_before (text ++ end ∷ behind) ≡ numbers_before ((text ++ end ∷ behind) ++ more)
numbers_same [] end behind more other = rw other refl
numbers_same (b ∷ bs) end behind more other =
    ap (λ (ns : Option (List ℕ)). if is_numeric b then option_map (λ (l : List ℕ). b ∷ l) ns else Some [])
    (numbers_same bs end behind more other)

-- none is at this offset
abbrev pub IsElsewhere : ℕ → Option WrittenRaster → Type 0
IsElsewhere place None = Unit {0}
IsElsewhere place (Some w) = w.place ≢ place

-- the same is written of those at this offset
abbrev pub AgreeAt : ℕ → Option WrittenRaster → Option WrittenRaster → Type 0
AgreeAt place one other = (one ≡ other) ⊎ (IsElsewhere place one × IsElsewhere place other)

written_elsewhere : (n place : ℕ) (numbers : Option (List ℕ)) → n < place
    → IsElsewhere place (option_map (written_of n) numbers)
written_elsewhere n place None less = tt
written_elsewhere n place (Some ns) less = λ same. omega (arith, less, same)

agree_if : (place : ℕ) (test : Bool) (a b c d : Option WrittenRaster) → IsElsewhere place a → IsElsewhere place b
    → AgreeAt place c d → AgreeAt place (if test then a else c) (if test then b else d)
agree_if place true a b c d one other agree = inr (one, other)
agree_if place false a b c d one other agree = agree

agree_from : (place n : ℕ) (before text : List ℕ) (end : ℕ) (behind more : List ℕ) → is_numeric end ≡ false
    → n + length before ≡ place
    → AgreeAt place (raster_from n (before ++ raster_sign ∷ (text ++ end ∷ behind)))
    (raster_from n ((before ++ raster_sign ∷ (text ++ end ∷ behind)) ++ more))
agree_from place n [] text end behind more other is =
    inl (ap (option_map (written_of n)) (numbers_same text end behind more other))
agree_from place n (b ∷ bs) text end behind more other is =
    let all = bs ++ raster_sign ∷ (text ++ end ∷ behind) in
    let one : length (b ∷ bs) ≡ length bs + 1 = omega arith in
    agree_if place (b == raster_sign) (option_map (written_of n) (numbers_before all))
    (option_map (written_of n) (numbers_before (all ++ more))) (raster_from (n + 1) all)
    (raster_from (n + 1) (all ++ more)) (written_elsewhere n place (numbers_before all) (omega (arith, is, one)))
    (written_elsewhere n place (numbers_before (all ++ more)) (omega (arith, is, one)))
    (agree_from place (n + 1) bs text end behind more other (omega (arith, is, one)))

pub raster_agrees : (reader : Reader) (events : List Placed) (bytes more : List ℕ) (i : ℕ) (p : Placed)
    → StandsAfter reader events bytes → slice_get events i ≡ Some p → IsRaster p.event
    → AgreeAt p.place (first_raster bytes) (first_raster (bytes ++ more))
raster_agrees reader events bytes more i p stands there is =
    let s = raster_stands reader events bytes i p stands there is in
    subst (λ (bs : List ℕ). AgreeAt p.place (first_raster bs) (first_raster (bs ++ more))) (sym s.bytes_are)
    (agree_from p.place 0 s.before s.text s.end s.behind more s.ends s.place_is)
