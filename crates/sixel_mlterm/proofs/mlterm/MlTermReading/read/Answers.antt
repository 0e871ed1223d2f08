use Rattle.sixel_mlterm.proofs.mlterm.MlTermReading.read.Goals as goal

pub returns : goal.returns
returns c = record {
  reads = λ before s. c.reads-reads.ensures before _ s;
  seen = λ before s. c.see.ensures before s;
}
