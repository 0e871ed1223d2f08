use Rattle.sixel_report.specs.declared.fault.RunFault.TheVariants as run
use Rattle.sixel_report.specs.Texts.{fault_line}
use Rattle.sixel_report.proofs.PutLemmas.{is_put}
use Rattle.sixel_words.proofs.TellingLemmas.{memory_is_said}
use Rattle.sixel_words.proofs.telling.say_usage.Goals as goal

pub returns-in-Err : goal.returns-in-Err
returns-in-Err g c =
    (fault_line run.OutOfMemory, memory_is_said, is_put c.write_fault.result _ _ _ c.write_fault.ensures)
