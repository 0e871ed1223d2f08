-- A reader, and what takes the events that it reads.
use Rattle.std.specs.Prelude.{◌≡◌, ◌∷◌, ◌++◌, ℕ, List, Some, Result, Ok, Err, length}
use Rattle.sixel_grammar.specs.declared.command.Command.{Command}
use Rattle.sixel_grammar.specs.declared.command.Event.TheVariants.{Step}
use Rattle.sixel_grammar.specs.declared.command.Placed.{Placed}
use Rattle.sixel_grammar.specs.declared.fault.Fault.{Fault}
use Rattle.sixel_grammar.specs.declared.fault.InputFault.{InputFault}
use Rattle.sixel_grammar.specs.declared.fault.InputFault.TheVariants.{Grammar, OutOfMemory}
use Rattle.sixel_grammar.specs.declared.halt.Halt.{Halt}
use Rattle.sixel_grammar.specs.declared.halt.Halt.TheVariants.{Refused, Stopped}
use Rattle.sixel_grammar.specs.declared.reader.Reader.{Reader}
use Rattle.sixel_grammar.specs.Faults.{IsFaultOf}
use Rattle.sixel_grammar.specs.Standing.{StandsAfter, fault_of}

abbrev pub command_at : ℕ → Command → Placed
command_at place command = record { place = place; event = Step command }

-- some bytes complete the events seen, then these, and perhaps more
pub record MayFollow (seen more : List Placed) : Type 0 where
  pub rest : List Placed
  pub reader : Reader
  pub bytes : List ℕ
  pub stands : StandsAfter reader (seen ++ (more ++ rest)) bytes

-- what a follower's result is for the reading
abbrev pub halt_of : {S : Type 0} → Result (Unit {0}) S → Result (Unit {0}) (Halt S)
halt_of (Ok u) = Ok u
halt_of (Err stop) = Err (Stopped stop)

-- where a follower stops only for want of memory
abbrev pub input_fault_of : {S : Type 0} → Halt S → InputFault
input_fault_of (Refused fault) = Grammar fault
input_fault_of (Stopped stop) = OutOfMemory

-- what had taken some events has now taken those and `more`
abbrev pub TakesEvents : {F : Type 0} → (F → F → List Placed → Type 0) → F → F → List Placed → Type 0
TakesEvents {F} has_taken old new more =
    (first : F) (seen : List Placed) → has_taken first old seen → has_taken first new (seen ++ more)

-- this holds of the events seen and of the first of `more`
pub record HoldsWithin (stops : List Placed → Type 0) (seen more : List Placed) : Type 0 where
  pub taken : List Placed
  pub rest : List Placed
  pub are : more ≡ taken ++ rest
  pub holds : stops (seen ++ taken)

-- what had taken some events may stop so at one of `more`, and is `new` then
abbrev pub StopsAmong : {F S : Type 0} → (F → F → List Placed → Type 0) → (F → F → S → List Placed → Type 0) → F → F
    → List Placed → S → Type 0
StopsAmong {F} has_taken may_stop old new more stop =
    (first : F) (seen : List Placed) → has_taken first old seen → HoldsWithin (may_stop first new stop) seen more

-- the reader has read these bytes, and the events that are complete in them were taken
pub record AreFollowed {F : Type 0} (has_taken : F → List Placed → Type 0) (reader : Reader) (follower : F)
    (bytes : List ℕ) : Type 0 where
  pub events : List Placed
  pub read : StandsAfter reader events bytes
  pub taken : has_taken follower events

-- a reader and a follower that had come to the end of some bytes have now (r, new) come to the end of those and `more`
abbrev pub FollowsBytes : {F : Type 0} → (F → F → List Placed → Type 0) → Reader → F → Reader → F → List ℕ → Type 0
FollowsBytes {F} has_taken reader old r new more =
    (first : F) (prefix : List ℕ) → AreFollowed (has_taken first) reader old prefix
    → AreFollowed (has_taken first) r new (prefix ++ more)

-- this holds of the first of the events that are complete in the first of these bytes
pub record HoldsIn (stops : List Placed → Type 0) (bytes : List ℕ) : Type 0 where
  pub read : List ℕ
  pub unread : List ℕ
  pub bytes_are : bytes ≡ read ++ unread
  pub taken : List Placed
  pub rest : List Placed
  pub reader : Reader
  pub stands : StandsAfter reader (taken ++ rest) read
  pub holds : stops taken

-- a byte of these is refused: the reader has come to this fault, which is that of any bytes that begin with those read
-- before and this byte; and the events before it were taken
pub record RefusesAt {F : Type 0} (has_taken : F → List Placed → Type 0) (r : Reader) (follower : F) (bytes : List ℕ)
    (fault : Fault) : Type 0 where
  pub kept : fault_of r ≡ Some fault
  pub read : List ℕ
  pub byte : ℕ
  pub unread : List ℕ
  pub bytes_are : bytes ≡ read ++ byte ∷ unread
  pub is_fault : (rest : List ℕ) → IsFaultOf (read ++ byte ∷ rest) fault
  pub place : fault.place ≡ length read
  pub before : Reader
  pub followed : AreFollowed has_taken before follower read

-- after some bytes were read and followed, this ended it within `more`. Refused: at a byte, and the events before it
-- were taken. Stopped: the follower stopped at an event
abbrev pub HaltsWithin : {F S : Type 0} → (F → F → List Placed → Type 0) → (F → F → S → List Placed → Type 0) → Reader
    → F → Reader → F → List ℕ → Halt S → Type 0
HaltsWithin {F} has_taken may_stop reader old r new more (Refused fault) =
    (first : F) (prefix : List ℕ) → AreFollowed (has_taken first) reader old prefix
    → RefusesAt (has_taken first) r new (prefix ++ more) fault
HaltsWithin {F} has_taken may_stop reader old r new more (Stopped stop) =
    (first : F) (prefix : List ℕ) → AreFollowed (has_taken first) reader old prefix
    → HoldsIn (may_stop first new stop) (prefix ++ more)
