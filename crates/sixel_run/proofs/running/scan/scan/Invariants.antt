use Rattle.sixel_io.specs.Devices.{change}
use Rattle.sixel_model.specs.Profiles.{count_of}
use Rattle.sixel_scan.specs.Scans.{steps_left}
use Rattle.sixel_run.proofs.ScanLemmas.{Scanning}
use Rattle.sixel_run.proofs.running.scan.scan.Given as goal

abbrev pub invariant-loop-scan : goal.invariant-loop-scan
invariant-loop-scan g l =
    Scanning (g.P.PutItem.written l.put) l.eight_bit (count_of l.fn.profile) l.scan l.answer
    (change (g.S.Source.state l.fn.input) (g.S.Source.state l.input))
    (change (g.K.Sink.state l.fn.output) (g.K.Sink.state l.output))

abbrev pub decreases-loop-scan : goal.decreases-loop-scan
decreases-loop-scan g l = steps_left l.scan
