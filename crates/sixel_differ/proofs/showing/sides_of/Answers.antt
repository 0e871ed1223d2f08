use Rattle.sixel_differ.proofs.showing.sides_of.Goals as goal

pub fault_of_size-requires : goal.fault_of_size-requires
fault_of_size-requires c = (c.requires.0, c.in-Err.ensures.refused c.requires.0 c.requires.1)

pub returns-in-Err-clause-refused : goal.returns-in-Err-clause-refused
returns-in-Err-clause-refused c = λ bytes measured.
    c.fault_of_size.ensures bytes (c.in-Err.ensures.refused bytes measured)
