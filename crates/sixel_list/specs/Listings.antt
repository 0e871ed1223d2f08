-- What a listing has put to its sink.
use Rattle.std.specs.Prelude.{◌≡◌, List, [], Result, Ok, Err, ℕ}
use Rattle.sixel_grammar.specs.declared.command.Placed.{Placed}
use Rattle.sixel_grammar.specs.declared.halt.Halt.{Halt}
use Rattle.sixel_grammar.specs.declared.halt.Halt.TheVariants.{Refused, Stopped}
use Rattle.sixel_io.specs.Blocks.{WritesThrough}
use Rattle.sixel_io.specs.Devices.{SinkState}
use Rattle.sixel_io.specs.declared.device.DeviceFault.{DeviceFault}
use Rattle.sixel_list.specs.declared.list.Listing.{Listing}
use Rattle.sixel_report.specs.Texts.{list_text}

-- what was `first` has the same sink now, and has put the lines of these events through its block, on an `Err` a prefix
-- of them
pub record PutsLines {K A E : Type 0} (state : K → SinkState) (result : Result A E) (first now : Listing K)
    (events : List Placed) : Type 0 where
  pub same_out : now.out.ghost_name ≡ first.out.ghost_name
  pub put : WritesThrough result (state first.out.now) (state now.out.now) first.lines.now now.lines.now
      (list_text events)

-- what was `first` has put the lines of these events
abbrev pub HasListed : {K : Type 0} → (K → SinkState) → Listing K → Listing K → List Placed → Type 0
HasListed state first now events = PutsLines {A = Unit {0}} {E = DeviceFault} state (Ok tt) first now events

-- what was `first` has put a prefix of the lines of these events, and then its sink failed
abbrev pub MayFail : {K S : Type 0} → (K → SinkState) → Listing K → Listing K → S → List Placed → Type 0
MayFail {K} {S} state first now stop events = PutsLines {A = Unit {0}} {E = S} state (Err stop) first now events

-- unless the sink failed, nothing waits in the block
abbrev pub IsDrained : {S : Type 0} → Result (Unit {0}) (Halt S) → List ℕ → Type 0
IsDrained (Ok u) waiting = waiting ≡ []
IsDrained (Err (Refused fault)) waiting = waiting ≡ []
IsDrained (Err (Stopped stop)) waiting = Unit {0}
