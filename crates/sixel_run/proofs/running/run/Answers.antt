use Rattle.std.proofs.Common.{◌∙◌}
use Rattle.sixel_run.proofs.RunLemmas.{flushed, unflushed}
use Rattle.sixel_run.proofs.running.run.Goals as goal

pub returns-in-Ok-clause-flushed : goal.returns-in-Ok-clause-flushed
returns-in-Ok-clause-flushed g c = λ unfailed. c.in-Ok.ensures.flushed

pub returns-in-Ok-clause-writes : goal.returns-in-Ok-clause-writes
returns-in-Ok-clause-writes g c = c.in-Ok.ensures.failures ∙ c.perform-answer.ensures.writes

pub returns-in-Err-clause-wrote : goal.returns-in-Err-clause-wrote
returns-in-Err-clause-wrote g c =
    unflushed c.args.task (g.S.Source.state c.args.input.now).remaining
    (g.S.Source.state c.perform-answer.new.input).remaining
    (g.K.Sink.state c.args.output.now).taken (g.K.Sink.state c.perform-answer.new.output).taken
    (g.K.Sink.state c.flush.new.self).taken c.perform-answer.result
    c.perform-answer.ensures.wrote c.in-Err.ensures.bytes

pub returns-in-Ok-clause-wrote : goal.returns-in-Ok-clause-wrote
returns-in-Ok-clause-wrote g c =
    flushed c.args.task (g.S.Source.state c.args.input.now).remaining
    (g.S.Source.state c.perform-answer.new.input).remaining
    (g.K.Sink.state c.args.output.now).taken (g.K.Sink.state c.perform-answer.new.output).taken
    (g.K.Sink.state c.flush.new.self).taken c.perform-answer.result
    c.perform-answer.ensures.wrote c.in-Ok.ensures.bytes
