-- How the program ends if its arguments name no task.
use Rattle.std.specs.Prelude.{◌≡◌, ◌++◌, ◌⊎◌, ℕ, true, take, codes}
use Rattle.std.specs.Io.KnownBytes.{Appends}
use Rattle.sixel_io.specs.Devices.{Change, SinkState, one_more}
use Rattle.sixel_report.specs.declared.fault.RunFault.TheVariants as run
use Rattle.sixel_report.specs.Texts.{Text, fault_line}
use Rattle.sixel_explain.specs.Explanations.{AreExplanations}
use Rattle.sixel_printing.specs.Printing.{printed_lines}
use Rattle.sixel_report.specs.declared.exit.Exit.{Exit}
use Rattle.sixel_report.specs.declared.exit.Exit.TheVariants.{Done, Refused, Usage}
use Rattle.sixel_report.specs.Exits.{IsPut}
use Rattle.sixel_words.specs.declared.words.WordsFault.{WordsFault}
use Rattle.sixel_words.specs.declared.words.WordsFault.TheVariants as fault

-- a sink is unchanged
abbrev pub IsLeft : Change SinkState → Type 0
IsLeft sink = sink.new ≡ sink.old

-- some text was put; it isn't specified here
abbrev pub IsShown : Change SinkState → Type 0
IsShown sink = (text : Text) × IsPut text sink

-- the text of a usage error: `sixel: `, and some text as it is printed, which isn't specified here
abbrev pub IsUsageText : Text → Type 0
IsUsageText text = (told : Text) × (text ≡ codes "sixel: " ++ printed_lines told)

-- a usage error was put
abbrev pub IsUsageSaid : Change SinkState → Type 0
IsUsageSaid sink = (text : Text) × IsUsageText text × IsPut text sink

-- the text was written to the output and flushed; or the output failed, a prefix of the text was written, and the
-- errors got the line of a failed write
abbrev pub ExplanationEnds : Text → Exit → Change SinkState → Change SinkState → Type 0
ExplanationEnds text exit output errors =
    ((exit ≡ Done) × Appends output.old.taken output.new.taken text × (output.new.failures ≡ output.old.failures)
    × (output.new.is_flushed ≡ true) × IsLeft errors)
    ⊎ ((n : ℕ) × (exit ≡ Refused) × Appends output.old.taken output.new.taken (take n text)
    × (output.new.failures ≡ one_more output.old.failures) × IsPut (fault_line run.Write) errors)

-- how the program ends after these arguments, and what it has written: help and explanations to the output, usage and
-- faults to the errors
abbrev pub WordsEnd : WordsFault → Exit → Change SinkState → Change SinkState → Type 0
WordsEnd (fault.Help text) exit output errors = (exit ≡ Done) × IsShown output × IsLeft errors
WordsEnd (fault.Explanation topics) exit output errors =
    (text : Text) × AreExplanations topics.items text × ExplanationEnds text exit output errors
WordsEnd (fault.Usage text) exit output errors = (exit ≡ Usage) × IsLeft output × IsUsageSaid errors
WordsEnd fault.OutOfMemory exit output errors =
    (exit ≡ Refused) × IsLeft output × IsPut (fault_line run.OutOfMemory) errors
