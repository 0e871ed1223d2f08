use Rattle.std.proofs.Common.{◌*◌, arith}
use Rattle.std.proofs.lemmas.List.{take_rest}
use Rattle.sixel_ppm.proofs.PpmPixelCacheLemmas.{cached_read}
use Rattle.sixel_ppm.proofs.ppm.samples.Samples.read_cached.Goals as goal

pub returns-clause-read : goal.returns-clause-read
returns-clause-read c =
    let bytes = c.args.bytes.now in
    let count = c.put_cached-count.result in
    cached_read c.args.self.now c.put_cached-count.new.self bytes _ count
    (omega (arith, c.put_cached-count.ensures.most, c.min-most.ensures)) c.in-Nothing.is
    (take_rest bytes (3 * count)) c.put_cached-count.ensures.put
