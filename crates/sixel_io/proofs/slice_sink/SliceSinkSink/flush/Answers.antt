use Rattle.sixel_io.proofs.slice_sink.SliceSinkSink.flush.Goals as goal

pub returns-clause-calls : goal.returns-clause-calls
returns-clause-calls c = rw (← c.self.view_is) c.saturating_add-self-inside.ensures
