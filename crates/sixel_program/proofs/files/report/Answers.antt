use Rattle.sixel_program.proofs.FilesLemmas.{memory_kept, run_kept}
use Rattle.sixel_report.proofs.PutLemmas.{is_put}
use Rattle.sixel_program.proofs.files.report.Goals as goal

pub returns : goal.returns
returns g c = record {
  answer = c.run-answer.result;
  format = c.format-format.result;
  is_format = c.format-format.ensures.format;
  wrote = run_kept c.args.task.now _ _ _ c.run-answer.result _ _ c.format-format.ensures.told
      c.run-answer.ensures.wrote;
  memory = λ is. memory_kept c.args.task.now _ _ c.format-format.ensures.told (c.run-answer.ensures.memory is);
  read = rw c.format-format.ensures.failures at c.run-answer.ensures.reads;
  written = c.run-answer.ensures.writes;
  flushed = c.run-answer.ensures.flushed;
  ends = c.exit_of.ensures;
  said = is_put c.put_said.result _ _ _ c.put_said.ensures;
}
