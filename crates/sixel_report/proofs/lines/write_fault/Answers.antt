use Rattle.sixel_report.proofs.lines.write_fault.Goals as goal

pub returns : goal.returns
returns g c = rw (c.as_slice.ensures.value, c.fault_line-line.ensures) at c.put_all.ensures
