use Rattle.std.proofs.Common.{◌≡◌, ◌<◌, ℕ, get_or, length, []}
use Rattle.sixel_model.specs.Colours.{palette_at}
use Rattle.sixel_ppm.specs.PpmTables.{rgbx_of}
use Rattle.sixel_ppm.proofs.ppm.table.table_of.Given as goal

abbrev pub invariant-loop-register : goal.invariant-loop-register
invariant-loop-register l = record {
  long : length l.table ≡ 256;
  entries : (r : ℕ) → r < l.register → get_or l.table r [] ≡ rgbx_of (palette_at l.palette r);
}
