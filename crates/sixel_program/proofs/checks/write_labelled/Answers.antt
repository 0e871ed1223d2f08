use Rattle.std.proofs.Common.{refl}
use Rattle.std.specs.Prelude.{option_copied}
use Rattle.sixel_program.proofs.NamedLemmas.{none_unwritten, quiet_lines}
use Rattle.sixel_program.proofs.checks.write_labelled.Goals as goal

pub returns-in-Nothing-default-clause-wrote : goal.returns-in-Nothing-default-clause-wrote
returns-in-Nothing-default-clause-wrote g c =
    let k = c.write_lines.ensures in
    rw c.in-Nothing-default.is-0
    (quiet_lines _ c.in-Nothing-default.is_json-0 _ (option_copied c.args.label) _ _ _ _ k
    (none_unwritten _ _ _ refl refl k.writes))

pub returns-in-Nothing-default-clause-loud : goal.returns-in-Nothing-default-clause-loud
returns-in-Nothing-default-clause-loud g c = λ quiet. none_unwritten _ _ _ refl refl c.write_lines.ensures.writes
