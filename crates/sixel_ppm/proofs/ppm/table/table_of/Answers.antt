use Rattle.std.proofs.Common.{◌∙◌, ap, arith, length-set}
use Rattle.sixel_ppm.specs.PpmTables.{rgbx_of}
use Rattle.sixel_ppm.proofs.PpmTableLemmas.{entry_more}
use Rattle.sixel_ppm.proofs.ppm.table.table_of.Goals as goal

pub loop-register-preserved : goal.loop-register-preserved
loop-register-preserved c = record {
  long = length-set c.loop-register.table c.loop-register.register c.rgbx_of.result ∙ c.loop-register.invariant.long;
  entries = entry_more c.args.palette.now c.loop-register.table c.loop-register.register c.rgbx_of.result
      (omega (arith, c.loop-register.invariant.long, c.loop-register-test.true))
      (c.rgbx_of.ensures ∙ ap rgbx_of c.get.ensures.value) c.loop-register.invariant.entries;
}
