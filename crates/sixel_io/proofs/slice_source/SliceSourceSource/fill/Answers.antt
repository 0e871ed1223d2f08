use Rattle.std.specs.Prelude.{not}
use Rattle.std.proofs.Common.{ap, ◌∙◌}
use Rattle.sixel_io.specs.SliceDevices.{SliceSourceState, fails_at}
use Rattle.sixel_io.proofs.slice_source.SliceSourceSource.fill.Goals as goal

pub returns-then-is_failing-clause-fails : goal.returns-then-is_failing-clause-fails
returns-then-is_failing-clause-fails c =
    ap not c.if-is_failing.ensures ∙ ap (λ (s : SliceSourceState). not (fails_at s.fail_at s.calls)) c.self.view_is
