use Rattle.sixel_run.proofs.running.write_lines.Goals as goal

pub returns-in-Check : goal.returns-in-Check
returns-in-Check g c = rw c.in-Check.is c.check.ensures

pub returns-in-Survey : goal.returns-in-Survey
returns-in-Survey g c = rw c.in-Survey.is c.survey.ensures

pub returns-in-Scan : goal.returns-in-Scan
returns-in-Scan g c = rw c.in-Scan.is c.scan.ensures
