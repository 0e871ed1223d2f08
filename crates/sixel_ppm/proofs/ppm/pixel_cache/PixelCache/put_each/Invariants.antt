use Rattle.std.proofs.Common.{◌≡◌, ◌+◌, vec_capacity, vec_len}
use Rattle.sixel_ppm.specs.PpmPixelCache.{GoesOn}
use Rattle.sixel_ppm.proofs.ppm.pixel_cache.PixelCache.put_each.Given as goal

abbrev pub invariant-loop-next : goal.invariant-loop-next
invariant-loop-next l = record {
  len : vec_len l.registers + l.count ≡ vec_len l.fn.registers + l.next;
  capacity : vec_capacity l.registers ≡ vec_capacity l.fn.registers;
  put : GoesOn l.self l.bytes l.count l.next l.fn.registers.items l.registers.items;
}
