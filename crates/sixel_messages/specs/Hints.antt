-- The hints after a check or a survey: which explanation helps.
use Rattle.std.specs.Prelude.{◌++◌, ◌∷◌, Bool, List, [], codes, flat_map, fold, map, take, Result, Ok, Err}
use Rattle.std.specs.Prelude.{if◌then◌else◌}
use Rattle.std.specs.List.{list_any}
use Rattle.std.specs.Str.{bytes_eq}
use Rattle.sixel_report.specs.Lines.{is_quiet}
use Rattle.sixel_report.specs.declared.wanted_lines.Lines.{Lines}
use Rattle.sixel_messages.specs.declared.shown.Shown.{Shown}
use Rattle.sixel_model.specs.declared.profile.Profile.{Profile}
use Rattle.sixel_model.specs.declared.profile.Profile.TheVariants.{Registers16}
use Rattle.sixel_model.specs.declared.rule.Rule.TheVariants as rule
use Rattle.sixel_emulator_check.specs.Rules.{rule_of}
use Rattle.sixel_emulator_check.specs.declared.rule.NamedRule.TheVariants.{Portable, Asked}
use Rattle.sixel_messages.specs.declared.hints.Cause.{Cause}
use Rattle.sixel_messages.specs.declared.hints.Cause.TheVariants.{Rule, Refusal}
use Rattle.sixel_report.specs.declared.fault.RunFault.{RunFault}
use Rattle.sixel_report.specs.declared.fault.RunFault.TheVariants.{Grammar}
use Rattle.sixel_report.specs.declared.task.Status.{Status}
use Rattle.sixel_report.specs.declared.task.Status.TheVariants as status
use Rattle.sixel_report.specs.declared.task.Task.{Task}
use Rattle.sixel_report.specs.declared.task.Task.TheVariants.{Check, Survey}
use Rattle.sixel_report.specs.RuleSets.{rules_in}
use Rattle.sixel_report.specs.Texts.{Text, named_rule_name, reason_name}

-- what a run found wrong with its input: the rule that is broken, or of a survey the first one and all others; or why it
-- is no sixel text
abbrev pub causes_in : Result Status RunFault → List Cause
causes_in (Ok (status.Broken found)) = Rule (Portable found.rule) ∷ []
causes_in (Ok (status.Asked found)) = Rule (Asked found.rule) ∷ []
causes_in (Ok (status.Surveyed first rules)) = Rule (rule_of first) ∷ map Rule (rules_in rules)
causes_in (Err (Grammar fault)) = Refusal fault.reason ∷ []
causes_in _ = []

abbrev pub cause_name : Cause → Text
cause_name (Rule broken) = named_rule_name broken
cause_name (Refusal reason) = reason_name reason

-- for a register above 15 there is an option
abbrev pub option_hint : Cause → Profile → Text
option_hint (Rule (Portable rule.Register)) Registers16 = codes "; '--wide' checks for 256 registers"
option_hint _ _ = []

-- the hint on what was found wrong
abbrev pub hint_line : Profile → Cause → Text
hint_line profile cause =
    codes "sixel: 'sixel explain " ++ cause_name cause ++ codes "' tells how to fix it" ++ option_hint cause profile
    ++ 10 ∷ []

-- whether two have the same name
abbrev pub is_same : Cause → Cause → Bool
is_same a b = bytes_eq (cause_name a) (cause_name b)

-- these causes, and one more if none of them is the same
abbrev pub with_cause : List Cause → Cause → List Cause
with_cause causes cause = if list_any (is_same cause) causes then causes else causes ++ cause ∷ []

-- these causes, and of the others each that isn't there yet
abbrev pub with_causes : List Cause → List Cause → List Cause
with_causes causes others = fold with_cause causes others

-- what the runs with these answers found wrong, each once, in the order in which it was found first
abbrev pub causes_of : List (Result Status RunFault) → List Cause
causes_of answers = with_causes [] (flat_map causes_in answers)

-- those with a hint: all if hints are asked for, else the first if a terminal shows it; none if the task is quiet
abbrev pub hinted : Lines → Shown → List Cause → List Cause
hinted lines shown causes =
    if is_quiet lines then [] else if shown.explains then causes else if shown.is_terminal then take 1 causes else []

-- the hints of a task on what was found wrong: only a check and a survey have some
abbrev pub hints_of : Task → List Cause → List Text
hints_of (Check profile named) causes = map (hint_line profile) causes
hints_of (Survey profile named) causes = map (hint_line profile) causes
hints_of t causes = []
