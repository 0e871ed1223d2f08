use Rattle.std.proofs.Common.{◌≡◌, ◌+◌, ◌-◌, ◌≤◌, vec_capacity, vec_len}
use Rattle.sixel_ppm.specs.PpmPixelCache.{GoesOn}
use Rattle.sixel_ppm.proofs.ppm.pixel_cache.PixelCache.put_fours.Given as goal

abbrev pub invariant-loop-next : goal.invariant-loop-next
invariant-loop-next l = record {
  from : l.count ≤ l.next;
  most : l.next ≤ l.end;
  len : vec_len l.registers + l.count ≡ vec_len l.fn.registers + l.next;
  capacity : vec_capacity l.fn.registers ≤ vec_capacity l.registers;
  put : GoesOn l.self l.bytes l.count l.next l.fn.registers.items l.registers.items;
}

abbrev pub decreases-loop-next : goal.decreases-loop-next
decreases-loop-next l = l.end - l.next
