use Rattle.std.proofs.Common.{refl}
use Rattle.clap.specs.Walk.{rows_of}
use Rattle.clap.specs.Matches.{found_of}
use Rattle.sixel_words.proofs.DifferLemmas.{uncoloured}
use Rattle.sixel_words.proofs.differ_words.differ_task.Goals as goal

pub returns-in_err-background-clause-none : goal.returns-in_err-background-clause-none
returns-in_err-background-clause-none c = λ none t is.
    uncoloured (rows_of (found_of c.args.matches.now)) t (c.in_err-background.ensures.none refl) is
