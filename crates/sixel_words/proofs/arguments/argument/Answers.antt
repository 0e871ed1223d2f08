use Rattle.sixel_words.proofs.ArgumentLemmas.{past_the_last}
use Rattle.sixel_words.proofs.arguments.argument.Goals as goal

pub returns-in-Err-NotPresent : goal.returns-in-Err-NotPresent
returns-in-Err-NotPresent g c =
    past_the_last (g.A.Arguments.given c.args.arguments.now) c.args.index c.copy.new.room
    (rw c.in-Err-NotPresent.field-0-is at c.in-Err-NotPresent.ensures.told)
