use Rattle.std.proofs.Common.{false, ◌<◌, length, ◌-◌, ◌≡◌, ◌≤◌, take}
use Rattle.std.specs.Io.KnownBytes.{Appends}
use Rattle.sixel_io.specs.Devices.{NeverFlushes}
use Rattle.sixel_io.proofs.device.put_all.Given as goal

abbrev pub invariant-loop-at : goal.invariant-loop-at
invariant-loop-at g l = record {
  in_range : l.at ≤ length l.bytes;
  appended : Appends (g.K.Sink.state l.fn.out).taken (g.K.Sink.state l.out).taken (take l.at l.bytes);
  unflushed : NeverFlushes (g.K.Sink.state l.fn.out).is_flushed (g.K.Sink.state l.out).is_flushed;
  held : 0 < l.at → (g.K.Sink.state l.out).is_flushed ≡ false;
  failures : (g.K.Sink.state l.out).failures ≡ (g.K.Sink.state l.fn.out).failures;
}

abbrev pub decreases-loop-at : goal.decreases-loop-at
decreases-loop-at g l = length l.bytes - l.at
