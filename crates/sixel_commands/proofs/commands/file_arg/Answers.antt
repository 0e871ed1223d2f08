use Rattle.sixel_commands.proofs.commands.file_arg.Goals as goal

pub returns-clause-rule : goal.returns-clause-rule
returns-clause-rule c = rw c.help.ensures c.new.ensures.rule

pub returns-clause-local : goal.returns-clause-local
returns-clause-local c = rw c.help.ensures c.new.ensures.optional.1
