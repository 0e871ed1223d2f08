use Rattle.std.proofs.Common.{◌≡◌, ◌+◌, ◌*◌, ◌-◌, ◌≤◌, ℕ, List, Option, take, vec_capacity, vec_len}
use Rattle.sixel_ppm.specs.PpmPixelCache.{Knows, PutsHits}
use Rattle.sixel_model.specs.declared.colour.Parts.{Parts}
use Rattle.sixel_ppm.proofs.ppm.pixel_cache.PixelCache.put_all.Given as goal

abbrev pub invariant-loop-count : goal.invariant-loop-count
invariant-loop-count l = record {
  within : l.count ≤ l.most;
  len : vec_len l.registers ≡ vec_len l.fn.registers + l.count;
  capacity : vec_capacity l.fn.registers ≤ vec_capacity l.registers;
  put : (maxval : ℕ) (palette : List (Option Parts)) → Knows l.self maxval palette
      → PutsHits maxval palette (take (3 * l.count) l.bytes) l.fn.registers.items l.registers.items;
}

abbrev pub decreases-loop-count : goal.decreases-loop-count
decreases-loop-count l = l.most - l.count
