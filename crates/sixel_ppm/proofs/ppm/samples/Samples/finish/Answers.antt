use Rattle.std.proofs.Common.{[], ◌∙◌, ◌+◌, ap, arith}
use Rattle.sixel_ppm.specs.PpmSamples.{samples_on}
use Rattle.sixel_ppm.specs.declared.ppm.PpmFault.TheVariants.{Format}
use Rattle.sixel_ppm.specs.declared.ppm.PpmReason.TheVariants.{Short}
use Rattle.sixel_ppm.proofs.PpmSampleLemmas.{picture_accepted, refused_by, short_fails}
use Rattle.sixel_ppm.proofs.ppm.samples.Samples.finish.Goals as goal

pub returns-then-left-gt0-clause-failed : goal.returns-then-left-gt0-clause-failed
returns-then-left-gt0-clause-failed c = λ colours holds.
    let s = c.args.self in
    refused_by c.fault.result _ (samples_on s colours []) (c.fault.ensures
    ∙ ap (λ n. Format Short (s.place + n)) c.count.ensures.count)
    (short_fails s colours c.if-left-gt0.true s.partial_is_good)

pub of_parts-requires : goal.of_parts-requires
of_parts-requires c =
    let s = c.args.self in
    picture_accepted s.colours s.last s.maxval s.registers.items s.left s.width s.height c.requires.0 c.requires.1
    (omega (arith, c.if-left-gt0.false))
    s.sides
