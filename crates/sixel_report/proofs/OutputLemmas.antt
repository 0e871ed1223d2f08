-- What was written, and when two outputs are the same.
use Rattle.std.proofs.Common.{◌≡◌, ◌∙◌, ◌++◌, sym, ap, append_assoc}
use Rattle.sixel_io.specs.Devices.{SinkState}
use Rattle.sixel_io.proofs.SinkLemmas.{Appends-none}
use Rattle.sixel_report.specs.Outputs.{WroteNothing}
use Rattle.sixel_report.specs.Texts.{Text, BeginsWith}
use Rattle.std.specs.Prelude.{Result}
use Rattle.sixel_report.specs.declared.fault.RunFault.{RunFault}
use Rattle.sixel_report.specs.declared.task.Status.{Status}

pub nothing-written : (had has : SinkState) → has ≡ had → WroteNothing had.taken has.taken
nothing-written had has same = rw same (Appends-none had.taken)

pub begins-then : (text part more : Text) → BeginsWith text part → BeginsWith part more → BeginsWith text more
begins-then text part more p q = (q.0 ++ p.0, p.1 ∙ ap (λ (t : Text). t ++ p.0) q.1 ∙ append_assoc more q.0 p.0)

-- two texts and answers are the same if both are these
pub both_are : {t : Text} {c : Result Status RunFault} (first second : Text) (a b : Result Status RunFault)
    → (first ≡ t) × (a ≡ c) → (second ≡ t) × (b ≡ c) → (first ≡ second) × (a ≡ b)
both_are first second a b p q = (p.0 ∙ sym q.0, p.1 ∙ sym q.1)
