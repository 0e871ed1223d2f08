-- How a run ends.
use Rattle.std.specs.Prelude.{◌≡◌, ◌≢◌, ◌++◌, true, IfSome, Result, Err, Option}
use Rattle.sixel_io.specs.Devices.{Change, SinkState, SourceState}
use Rattle.sixel_report.specs.declared.exit.Exit.{Exit}
use Rattle.sixel_report.specs.declared.fault.RunFault.{RunFault}
use Rattle.sixel_report.specs.declared.task.Status.{Status}
use Rattle.sixel_report.specs.declared.task.Task.{Task}
use Rattle.sixel_report.specs.declared.fault.RunFault.TheVariants as run
use Rattle.sixel_messages.specs.declared.formats.Format.{Format}
use Rattle.sixel_messages.specs.Formats.{IsFormat, advice_for}
use Rattle.sixel_report.specs.declared.wanted_lines.Lines.{Lines}
use Rattle.sixel_report.specs.Outputs.{CountsReads, CountsWrites}
use Rattle.sixel_run.specs.Outputs.{RunWrote, TakesMemory}
use Rattle.sixel_report.specs.Texts.{Text}
use Rattle.sixel_report.specs.Exits.{IsPut, exit_for_answer}
use Rattle.sixel_messages.specs.Messages.{complaint}

-- how a run of the task ended, over an input that has this name or none. The run had some answer. The input and the
-- output are as after a run with this answer, the exit status is that of the answer, and the errors got the message
-- about it and the advice on an input of this format
pub record RunEnds (t : Task) (lines : Lines) (name : Option Text) (exit : Exit) (input : Change SourceState)
    (output errors : Change SinkState) : Type 0 where
  pub answer : Result Status RunFault
  pub format : Option Format
  pub is_format : IsFormat input.old.remaining format
  pub wrote : IfSome input.old.remaining
      (λ bytes. RunWrote t bytes input.new.remaining answer output.old.taken output.new.taken)
  pub memory : answer ≡ Err run.OutOfMemory → TakesMemory t input.old.remaining
  pub read : CountsReads answer input.old.failures input.new.failures
  pub written : CountsWrites answer output.old.failures output.new.failures
  pub flushed : answer ≢ Err run.Write → output.new.is_flushed ≡ true
  pub ends : exit ≡ exit_for_answer answer
  pub said : IsPut (complaint t lines name answer ++ advice_for format answer) errors
