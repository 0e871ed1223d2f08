-- A source that is read piece by piece.
use Rattle.std.proofs.Common.{◌≡◌, ℕ, List, [], ◌++◌, Option, None, Some, sym, subst, refl, take}
use Rattle.std.specs.Prelude.{IfSome}
use Rattle.std.specs.Io.KnownBytes.{Consumes, IsAtEnd}
use Rattle.sixel_grammar.specs.declared.command.Placed.{Placed}
use Rattle.sixel_grammar.specs.declared.halt.Halt as halt
use Rattle.sixel_grammar.specs.declared.reader.Reader.{Reader}
use Rattle.sixel_grammar.specs.Document.{Document}
use Rattle.sixel_grammar.specs.Faults.{IsFaultOf}
use Rattle.sixel_grammar.specs.Following.{AreFollowed, HaltsWithin, HoldsIn}
use Rattle.sixel_grammar.specs.declared.source.SourceHalt.{SourceHalt}
use Rattle.sixel_grammar.specs.declared.source.SourceHalt.TheVariants.{Read, Refused, Stopped}
use Rattle.sixel_grammar.specs.FirstPiece.{with_first}
use Rattle.sixel_grammar.specs.Source.{FollowsSource, HaltsSource, source_halt_of}
use Rattle.sixel_grammar.specs.Standing.{StandsAfter}
use Rattle.sixel_grammar.specs.Pieces.{Begins, EndsSource, HaltsPiece, ReadsPiece, ReadsSource}
use Rattle.sixel_grammar.proofs.FirstPieceLemmas.{told_end, told_first}
use Rattle.sixel_grammar.proofs.FollowingLemmas.{always_refused}

-- what had read nothing has read these bytes
abbrev pub Reads : {F W : Type 0} → (F → W → Reader → F → W → List ℕ → Type 0) → F → W → Reader → F → W → List ℕ
    → Type 0
Reads {F} {W} has_read follower watcher reader f w bytes =
    (first : F) (start : W) → Begins has_read first start follower watcher → has_read first start reader f w bytes

pub reads_none : {F W : Type 0} (has_read : F → W → Reader → F → W → List ℕ → Type 0) (follower : F) (watcher : W)
    (reader : Reader) → StandsAfter reader [] [] → Reads has_read follower watcher reader follower watcher []
reads_none has_read follower watcher reader stands = λ first start begins. begins reader stands

pub reads_more : {F W : Type 0} (has_read : F → W → Reader → F → W → List ℕ → Type 0) (a f g : F) (b w v : W)
    (reader r : Reader) (prefix more : List ℕ) → Reads has_read a b reader f w prefix
    → ReadsPiece has_read reader f w r g v more → Reads has_read a b r g v (prefix ++ more)
reads_more has_read a f g b w v reader r prefix more before reads = λ first start begins.
    reads first start prefix (before first start begins)

-- at the end all bytes were read
pub reads_source : {F W : Type 0} (has_read : F → W → Reader → F → W → List ℕ → Type 0) (a f : F) (b w : W)
    (reader : Reader) (known left : Option (List ℕ)) (prefix piece : List ℕ) (n : ℕ)
    → Reads has_read a b reader f w prefix → Consumes known left (prefix ++ take n piece) → n ≡ 0 → IsAtEnd left
    → ((events : List Placed) (bytes : List ℕ) → StandsAfter reader events bytes → Document events bytes)
    → ReadsSource has_read a b f w known
reads_source has_read a f b w reader known left prefix piece n reads consumes none end answer =
    λ first start begins. record {
      reader = reader;
      bytes = prefix;
      read = reads first start begins;
      document = λ events stands. answer events prefix stands;
      known_are = told_end known left prefix piece n (λ (given : List ℕ). given ≡ prefix) consumes none end refl;
    }

-- what ends the reading of a piece is right for all bytes
pub ends_source : {F W S : Type 0} (has_read : F → W → Reader → F → W → List ℕ → Type 0)
    (may_end : F → W → F → W → S → List ℕ → Type 0)
    (longer : (first : F) (start : W) (f : F) (w : W) (stop : S) (bytes rest : List ℕ)
    → may_end first start f w stop bytes → may_end first start f w stop (bytes ++ rest))
    (first a f g : F) (start b w v : W) (reader : Reader) (prefix more : List ℕ) (known left : Option (List ℕ))
    (ends : halt.Halt S) → Begins has_read first start a b → Reads has_read a b reader f w prefix
    → Consumes known left (prefix ++ more) → HaltsPiece has_read may_end reader f w g v more ends
    → IfSome known (EndsSource has_read may_end a b g v (source_halt_of ends))
ends_source has_read may_end longer first a f g start b w v reader prefix more None left ends begins before consumes
    halts = tt
ends_source has_read may_end longer first a f g start b w v reader prefix more (Some bytes) None ends begins before
    consumes halts = absurd consumes
ends_source has_read may_end longer first a f g start b w v reader prefix more (Some bytes) (Some left)
    (halt.TheVariants.Refused fault) begins before consumes halts =
    subst (λ (t : List ℕ). IsFaultOf t fault) (sym consumes)
    (halts first start prefix (before first start begins) left)
ends_source has_read may_end longer first a f g start b w v reader prefix more (Some bytes) (Some left)
    (halt.TheVariants.Stopped stop) begins before consumes halts = λ other begin is.
    subst (λ (t : List ℕ). may_end other begin g v stop t) (sym consumes)
    (longer other begin g v stop (prefix ++ more) left (halts other begin prefix (before other begin is)))

-- what ends the following of a piece ends its reading
pub halts_piece : {F W S : Type 0} (has_taken : F → F → List Placed → Type 0)
    (may_stop : F → F → S → List Placed → Type 0) (has_read : F → W → Reader → F → W → List ℕ → Type 0)
    (followed : (first : F) (start : W) (reader : Reader) (f : F) (w : W) (bytes : List ℕ)
    → has_read first start reader f w bytes → AreFollowed (has_taken first) reader f bytes)
    (reader r : Reader) (old new : F) (w v : W) (piece : List ℕ) (ends : halt.Halt S)
    → HaltsWithin has_taken may_stop reader old r new piece ends
    → HaltsPiece has_read (λ first start follower now stop bytes. HoldsIn (may_stop first follower stop) bytes) reader
    old w new v piece ends
halts_piece has_taken may_stop has_read followed reader r old new w v piece (halt.TheVariants.Refused fault) halts =
    λ first start bytes read rest.
    always_refused (has_taken first) r new (bytes ++ piece) fault
    (halts first bytes (followed first start reader old w bytes read)) rest
halts_piece has_taken may_stop has_read followed reader r old new w v piece (halt.TheVariants.Stopped stop) halts =
    λ first start bytes read. halts first bytes (followed first start reader old w bytes read)

-- ---- a source of which nothing is read

-- the first piece is a part of it
pub reads_first : {F W : Type 0} (has_read : F → W → Reader → F → W → List ℕ → Type 0) (a f : F) (b w : W)
    (known left : Option (List ℕ)) (piece : List ℕ) (read : ℕ) → Consumes known left (take read piece)
    → ReadsSource has_read a b f w (with_first piece read left) → ReadsSource has_read a b f w known
reads_first has_read a f b w known left piece read consumes reads = λ first start begins.
    let r = reads first start begins in record {
      reader = r.reader;
      bytes = r.bytes;
      read = r.read;
      document = r.document;
      known_are = told_first known left piece read (λ (given : List ℕ). given ≡ r.bytes) consumes r.known_are;
    }

-- ---- what a follower took

-- a source that was read to its end was followed
pub followed_source : {F W : Type 0} (has_taken : F → F → List Placed → Type 0)
    (has_read : F → W → Reader → F → W → List ℕ → Type 0)
    (followed : (first : F) (start : W) (reader : Reader) (f : F) (w : W) (bytes : List ℕ)
    → has_read first start reader f w bytes → AreFollowed (has_taken first) reader f bytes)
    (old new : F) (w v : W) (known : Option (List ℕ))
    → ((first : F) → has_taken first old [] → Begins has_read first w old w)
    → ReadsSource has_read old w new v known → FollowsSource has_taken old new known
followed_source has_taken has_read followed old new w v known begins reads = λ first taken.
    let r = reads first w (begins first taken) in
    let f = followed first w r.reader new v r.bytes r.read in record {
      events = f.events;
      bytes = r.bytes;
      document = r.document f.events f.read;
      taken = f.taken;
      known_are = r.known_are;
    }

-- what ended its reading ended its following
pub halted_source : {F W S : Type 0} (has_taken : F → F → List Placed → Type 0)
    (may_stop : F → F → S → List Placed → Type 0) (has_read : F → W → Reader → F → W → List ℕ → Type 0)
    (old new : F) (w v : W) (known : Option (List ℕ)) (ends : SourceHalt S)
    → ((first : F) → has_taken first old [] → Begins has_read first w old w)
    → IfSome known (EndsSource has_read (λ first start now w stop bytes. HoldsIn (may_stop first now stop) bytes) old w
    new v ends)
    → IfSome known (HaltsSource has_taken may_stop old new ends)
halted_source has_taken may_stop has_read old new w v None ends begins h = tt
halted_source has_taken may_stop has_read old new w v (Some bytes) Read begins h = tt
halted_source has_taken may_stop has_read old new w v (Some bytes) (Refused fault) begins h = h
halted_source has_taken may_stop has_read old new w v (Some bytes) (Stopped stop) begins h = λ first taken.
    h first w (begins first taken)

-- before any byte nothing was followed
pub followed_none : {F : Type 0} (has_taken : F → F → List Placed → Type 0) (first old : F) → has_taken first old []
    → (reader : Reader) → StandsAfter reader [] [] → AreFollowed (has_taken first) reader old []
followed_none has_taken first old taken reader stands = record { events = []; read = stands; taken = taken }
