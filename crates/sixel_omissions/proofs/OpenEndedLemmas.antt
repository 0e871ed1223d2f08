-- Where a command stands that a later byte could have lengthened: a byte is behind it once it is complete.
use Rattle.std.proofs.Common.{◌≡◌, ◌∙◌, ◌+◌, ◌<◌, ◌++◌, ℕ, zero, suc, List, [], ◌∷◌, Some, ap, arith, length}
use Rattle.std.proofs.Common.{subst, sym}
use Rattle.std.specs.Prelude.{IsTrue, slice_get}
use Rattle.std.specs.List.{AllByRecursion}
use Rattle.std.proofs.lemmas.List.{length-append}
use Rattle.sixel_grammar.specs.Document.{IsPiece, Piece, bytes_of, joined, placed_from}
use Rattle.sixel_grammar.specs.Faults.{IsClosed}
use Rattle.sixel_grammar.specs.Spelling.{is_open_ended}
use Rattle.sixel_grammar.specs.Standing.{StandsAfter}
use Rattle.sixel_grammar.specs.declared.command.Placed.{Placed}
use Rattle.sixel_grammar.specs.declared.reader.Reader.{Reader}
use Rattle.sixel_grammar.proofs.ViableLemmas.{spells-some}

placed_piece : ℕ → Piece → Placed
placed_piece n q = record { place = n + length q.filler; event = q.event }

long : (q : Piece) (more : List ℕ) → length (bytes_of q ++ more) ≡ length q.filler + length q.text + length more
long q more = length-append (bytes_of q) more ∙ ap (λ (k : ℕ). k + length more) (length-append q.filler q.text)

-- the first piece, and what is behind it
first_there : (n rest : ℕ) (q : Piece) (p : Placed) (more : List ℕ) → IsPiece q
    → (IsTrue (is_open_ended q.event) → 0 < length more + rest) → placed_piece n q ≡ p
    → IsTrue (is_open_ended p.event) → p.place + 1 < n + length (bytes_of q ++ more) + rest
unfolding placed_piece
first_there n rest q p more piece closed same is =
    let event : q.event ≡ p.event = ap (λ (r : Placed). r.event) same in
    let place : n + length q.filler ≡ p.place = ap (λ (r : Placed). r.place) same in
    let behind : 0 < length more + rest =
    closed (subst (λ e. IsTrue (is_open_ended e)) (sym event) is) in
    let some = spells-some q.event q.text piece.spells in
    let all = long q more in
    omega (arith, place, behind, some, all)

some_bytes_in : (r : Piece) (more : List ℕ) → IsPiece r → 0 < length (bytes_of r ++ more)
some_bytes_in r more piece =
    let some = spells-some r.event r.text piece.spells in
    let all = long r more in
    omega (arith, some, all)

within_pieces : (n rest : ℕ) (pieces : List Piece) (i : ℕ) (p : Placed) → AllByRecursion IsPiece pieces
    → IsClosed pieces rest → slice_get (placed_from n pieces) i ≡ Some p → IsTrue (is_open_ended p.event)
    → p.place + 1 < n + length (joined pieces) + rest
unfolding placed_piece
within_pieces n rest [] i p each closed there is = absurd cc
within_pieces n rest (q ∷ []) zero p each closed there is =
    let same : placed_piece n q ≡ p = cc in
    first_there n rest q p [] each.0 (λ ended. omega (arith, closed ended)) same is
within_pieces n rest (q ∷ []) (suc i) p each closed there is = absurd cc
within_pieces n rest (q ∷ r ∷ ps) zero p each closed there is =
    let same : placed_piece n q ≡ p = cc in
    let some = some_bytes_in r (joined ps) (each.1).0 in
    first_there n rest q p (joined (r ∷ ps)) each.0 (λ ended. omega (arith, some)) same is
within_pieces n rest (q ∷ r ∷ ps) (suc i) p each closed there is =
    let inner = within_pieces (n + length (bytes_of q)) rest (r ∷ ps) i p each.1 closed there is in
    let all = length-append (bytes_of q) (joined (r ∷ ps)) in
    omega (arith, inner, all)

-- a command that is complete in these bytes, and that a byte could have lengthened, has a byte behind its first one
pub byte_behind : (reader : Reader) (events : List Placed) (bytes : List ℕ) (i : ℕ) (p : Placed)
    → StandsAfter reader events bytes → slice_get events i ≡ Some p → IsTrue (is_open_ended p.event)
    → p.place + 1 < length bytes
byte_behind reader events bytes i p stands there is =
    let e = stands.ends in
    let placed : slice_get (placed_from 0 e.pieces) i ≡ Some p =
    subst (λ (l : List Placed). slice_get l i ≡ Some p) e.events_are there in
    let within =
    within_pieces 0 (length e.filler + length e.open_bytes) e.pieces i p e.each e.closed placed is in
    let all : length bytes ≡ length (joined e.pieces ++ e.filler ++ e.open_bytes) = ap length e.bytes_are in
    let outer = length-append (joined e.pieces ++ e.filler) e.open_bytes in
    let middle = length-append (joined e.pieces) e.filler in
    omega (arith, within, all, outer, middle)
