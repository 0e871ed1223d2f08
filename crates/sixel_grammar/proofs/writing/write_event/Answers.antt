use Rattle.sixel_grammar.proofs.writing.write_event.Goals as goal

pub returns-clause-written : goal.returns-clause-written
returns-clause-written g c = rw (← c.spelled-text.ensures, ← c.as_slice.ensures.value) c.put_all.ensures
