use Rattle.sixel_grammar.proofs.writing.put_event.Goals as goal

pub returns : goal.returns
returns g c = rw (← c.spelled-spelling.ensures, ← c.as_slice.ensures.value) c.put.ensures
