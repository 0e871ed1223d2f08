use Rattle.std.proofs.Common.{◌≡◌, ◌≤◌, ◌++◌, ℕ, List, length, take}
use Rattle.sixel_io.proofs.SinkLemmas.{Written}
use Rattle.sixel_ppm.specs.PpmTables.{samples_from}
use Rattle.sixel_ppm.proofs.ppm.write.put_pixels.Given as goal

abbrev pub invariant-loop-start : goal.invariant-loop-start
invariant-loop-start g l =
    let samples = samples_from (g.C.ToRgbx.rgbx l.colours) in
    record {
      short : l.start ≤ 29;
      put : (done : List ℕ) × Written (g.K.Sink.state l.fn.out) (g.K.Sink.state l.out) done
          × (l.header ++ samples l.pixels ≡ done ++ (take l.start l.text ++ samples l.rest));
    }

abbrev pub decreases-loop-start : goal.decreases-loop-start
decreases-loop-start g l = length l.rest
