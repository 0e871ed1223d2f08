-- What is done with each piece of a document while its source is read.
use Rattle.std.specs.Prelude.{◌≡◌, ◌++◌, [], ℕ, IfSome, List, Option}
use Rattle.std.proofs.Common.{◌∙◌, ap, append_assoc}
use Rattle.sixel_grammar.specs.declared.command.Placed.{Placed}
use Rattle.sixel_grammar.specs.declared.halt.Halt.{Halt}
use Rattle.sixel_grammar.specs.declared.halt.Halt.TheVariants as halt
use Rattle.sixel_grammar.specs.declared.reader.Reader.{Reader}
use Rattle.sixel_grammar.specs.declared.source.SourceHalt.{SourceHalt}
use Rattle.sixel_grammar.specs.declared.source.SourceHalt.TheVariants.{Read, Refused, Stopped}
use Rattle.sixel_grammar.specs.Document.{Document}
use Rattle.sixel_grammar.specs.Faults.{IsFaultOf}
use Rattle.sixel_grammar.specs.Following.{HoldsIn}
use Rattle.sixel_grammar.specs.Standing.{StandsAfter}

-- what a follower and a reader of pieces were first and are now, the reader, and the bytes that were read
abbrev pub Relation : Type 0 → Type 0 → Type 1
Relation F W = F → W → Reader → F → W → List ℕ → Type 0

-- no byte was read
abbrev pub Begins : {F W : Type 0} → (F → W → Reader → F → W → List ℕ → Type 0) → F → W → F → W → Type 0
Begins has_read first start follower watcher =
    (reader : Reader) → StandsAfter reader [] [] → has_read first start reader follower watcher []

-- one more piece was read
abbrev pub ReadsPiece : {F W : Type 0} → (F → W → Reader → F → W → List ℕ → Type 0) → Reader → F → W → Reader → F → W
    → List ℕ → Type 0
ReadsPiece {F} {W} has_read reader follower watcher r f w piece =
    (first : F) (start : W) (bytes : List ℕ) → has_read first start reader follower watcher bytes
    → has_read first start r f w (bytes ++ piece)

-- this ended it within a piece. Refused: it is the fault of any bytes that begin so. Stopped: it may end so in these
-- bytes
abbrev pub HaltsPiece : {F W S : Type 0} → (F → W → Reader → F → W → List ℕ → Type 0)
    → (F → W → F → W → S → List ℕ → Type 0) → Reader → F → W → F → W → List ℕ → Halt S → Type 0
HaltsPiece {F} {W} has_read may_end reader follower watcher f w piece (halt.Refused fault) =
    (first : F) (start : W) (bytes : List ℕ) → has_read first start reader follower watcher bytes
    → (rest : List ℕ) → IsFaultOf ((bytes ++ piece) ++ rest) fault
HaltsPiece {F} {W} has_read may_end reader follower watcher f w piece (halt.Stopped stop) =
    (first : F) (start : W) (bytes : List ℕ) → has_read first start reader follower watcher bytes
    → may_end first start f w stop (bytes ++ piece)

-- the bytes of the source, which are these if they are known, are a document, and all of them were read
pub record IsRead {F W : Type 0} (has_read : F → W → Reader → F → W → List ℕ → Type 0) (first : F) (start : W)
    (follower : F) (watcher : W) (known : Option (List ℕ)) : Type 0 where
  pub reader : Reader
  pub bytes : List ℕ
  pub read : has_read first start reader follower watcher bytes
  pub document : (events : List Placed) → StandsAfter reader events bytes → Document events bytes
  pub known_are : IfSome known (λ given. given ≡ bytes)

-- a source was read to its end
abbrev pub ReadsSource : {F W : Type 0} → (F → W → Reader → F → W → List ℕ → Type 0) → F → W → F → W
    → Option (List ℕ) → Type 0
ReadsSource {F} {W} has_read follower watcher f w known =
    (first : F) (start : W) → Begins has_read first start follower watcher → IsRead has_read first start f w known

-- why a source of these bytes wasn't read to its end. Read: it says nothing about the bytes. Refused: this is their
-- fault. Stopped: it may end so in the bytes
abbrev pub EndsSource : {F W S : Type 0} → (F → W → Reader → F → W → List ℕ → Type 0)
    → (F → W → F → W → S → List ℕ → Type 0) → F → W → F → W → SourceHalt S → List ℕ → Type 0
EndsSource has_read may_end follower watcher f w Read bytes = Unit {0}
EndsSource has_read may_end follower watcher f w (Refused fault) bytes = IsFaultOf bytes fault
EndsSource {F} {W} has_read may_end follower watcher f w (Stopped stop) bytes =
    (first : F) (start : W) → Begins has_read first start follower watcher → may_end first start f w stop bytes

-- what holds within some bytes holds within those and more
pub holds_longer : (stops : List Placed → Type 0) (bytes rest : List ℕ) → HoldsIn stops bytes
    → HoldsIn stops (bytes ++ rest)
holds_longer stops bytes rest h = record {
  read = h.read;
  unread = h.unread ++ rest;
  bytes_are = ap (λ (t : List ℕ). t ++ rest) h.bytes_are ∙ append_assoc h.read h.unread rest;
  taken = h.taken;
  rest = h.rest;
  reader = h.reader;
  stands = h.stands;
  holds = h.holds;
}
