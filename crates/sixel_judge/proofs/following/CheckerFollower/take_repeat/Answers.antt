use Rattle.std.proofs.lemmas.Result.{on_ok_weaker}
use Rattle.sixel_grammar.specs.Following.{command_at}
use Rattle.sixel_grammar.specs.declared.command.Command.TheVariants.{Repeat}
use Rattle.sixel_model.specs.Profiles.{count_of}
use Rattle.sixel_judge.proofs.FollowLemmas.{stops_one}
use Rattle.sixel_judge.proofs.following.CheckerFollower.take_repeat.Goals as goal

pub push_command-requires : goal.push_command-requires
push_command-requires g c = let h = c.requires in (count_of h.0.profile, h.1, h.2, h.3)

pub returns-clause-taken : goal.returns-clause-taken
returns-clause-taken g c =
    on_ok_weaker c.push_command.result (λ ok first seen h. ok (count_of first.profile) seen h) c.push_command.ensures.pushed

pub returns-clause-stopped : goal.returns-clause-stopped
returns-clause-stopped g c =
    stops_one c.args.self.now c.push_command.new.checker (command_at c.args.place (Repeat c.args.count c.args.bits))
    c.push_command.result c.push_command.ensures.grows
