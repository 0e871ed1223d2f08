use Rattle.std.proofs.Common.{◌-◌, ◌≡◌, ◌<◌, ◌≤◌, false, length, take, drop, ℕ}
use Rattle.std.specs.Io.KnownBytes.{Appends}
use Rattle.sixel_io.specs.Devices.{NeverFlushes}
use Rattle.sixel_io.proofs.block.Block.drain.Given as goal

abbrev pub invariant-loop-self : goal.invariant-loop-self
invariant-loop-self g l = record {
  in_range : (l.self-inside.start ≤ l.self-inside.end) × (l.self-inside.end ≤ length l.self-inside.text);
  prefix : (n : ℕ) × Appends (g.K.Sink.state l.fn.out).taken (g.K.Sink.state l.out).taken (take n l.fn.self)
      × (drop l.self-inside.start (take l.self-inside.end l.self-inside.text) ≡ drop n l.fn.self);
  unflushed : NeverFlushes (g.K.Sink.state l.fn.out).is_flushed (g.K.Sink.state l.out).is_flushed;
  held : length (drop l.self-inside.start (take l.self-inside.end l.self-inside.text)) < length l.fn.self
      → (g.K.Sink.state l.out).is_flushed ≡ false;
  failures : (g.K.Sink.state l.out).failures ≡ (g.K.Sink.state l.fn.out).failures;
}

abbrev pub decreases-loop-self : goal.decreases-loop-self
decreases-loop-self g l = l.self-inside.end - l.self-inside.start
