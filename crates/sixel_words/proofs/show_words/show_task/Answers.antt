use Rattle.std.proofs.Common.{◌∙◌, sym}
use Rattle.clap.specs.Matches.{found_of}
use Rattle.clap.proofs.WalkLemmas.{first_value-rows}
use Rattle.std.specs.Prelude.{codes}
use Rattle.sixel_words.proofs.show_words.show_task.Goals as goal

pub on_task-requires : goal.on_task-requires
on_task-requires c = sym (first_value-rows (found_of c.args.matches.now) (codes "on")) ∙ sym c.in-Some.ensures

pub plain_task-requires : goal.plain_task-requires
plain_task-requires c = sym (first_value-rows (found_of c.args.matches.now) (codes "on")) ∙ sym c.in-None.ensures
