use Rattle.std.proofs.Common.{◌≡◌, ◌+◌, ◌*◌, ◌++◌, take}
use Rattle.sixel_ppm.specs.PpmTables.{samples_from}
use Rattle.sixel_ppm.proofs.ppm.table.put_samples.Given as goal

abbrev pub invariant-loop-pixel : goal.invariant-loop-pixel
invariant-loop-pixel g l = record {
  place : l.at ≡ l.start + 3 * l.pixel-index;
  put : take l.at l.text
      ≡ take l.start l.fn.text ++ samples_from (g.C.ToRgbx.rgbx l.colours) (take l.pixel-index l.pixels);
}
