use Rattle.std.proofs.Common.{◌≡◌, List, [], take}
use Rattle.sixel_report.specs.RuleSets.{rules_of}
use Rattle.sixel_survey.specs.declared.entry.Entry.{Entry}
use Rattle.sixel_report.proofs.rule_set.add_asked.Given as goal

-- the rules of the entries so far, behind those of some others
abbrev pub invariant-loop-entry : goal.invariant-loop-entry
invariant-loop-entry l =
    (entries : List Entry) → l.initial.rules ≡ rules_of entries []
    → l.rules ≡ rules_of entries (take l.entry-index l.asked)
