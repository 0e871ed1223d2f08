-- Which lines a task with lines writes.
use Rattle.std.specs.Prelude.{Bool, true, false}
use Rattle.sixel_scan.specs.declared.answer.Answer.{Answer}
use Rattle.sixel_scan.specs.declared.answer.Answer.TheVariants.{Portable, Broken, Refused}
use Rattle.sixel_report.specs.declared.item.Item.TheVariants.{String}
use Rattle.sixel_judge.specs.declared.verdict.Outcome.TheVariants as outcome
use Rattle.sixel_report.specs.declared.item.Item.{Item}
use Rattle.sixel_report.specs.declared.item.Item.TheVariants as item
use Rattle.sixel_report.specs.declared.wanted_lines.Lines.{Lines}
use Rattle.sixel_report.specs.declared.wanted_lines.Lines.TheVariants.{Json, Nothing, Plain}

abbrev pub is_portable_answer : Answer → Bool
is_portable_answer (Portable width height) = true
is_portable_answer (Broken finding) = false
is_portable_answer (Refused fault) = false

-- whether nothing is written of an input that isn't refused
abbrev pub is_quiet : Lines → Bool
is_quiet (Nothing json) = true
is_quiet lines = false

-- whether they are objects of JSON, and refusals are among them
abbrev pub is_json : Lines → Bool
is_json (Json only_failed) = true
is_json lines = false

-- as many of them as there are, in the same form
abbrev pub all_of : Lines → Lines
all_of (Json only_failed) = Json false
all_of (Nothing true) = Json false
all_of lines = Plain false

-- whether a line says that a picture is portable
abbrev pub is_portable_item : Item → Bool
is_portable_item (item.Outcome (outcome.Portable width height)) = true
is_portable_item (item.String s) = is_portable_answer s.answer
is_portable_item i = false
