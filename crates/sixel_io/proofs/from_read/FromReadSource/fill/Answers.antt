use Rattle.sixel_io.proofs.from_read.FromReadSource.fill.Goals as goal

pub returns-in-Err-clause-bytes : goal.returns-in-Err-clause-bytes
returns-in-Err-clause-bytes g c = c.in-Err.ensures.bytes
