use Rattle.std.proofs.Common.{refl}
use Rattle.clap.specs.Walk.{rows_of}
use Rattle.clap.specs.Matches.{found_of}
use Rattle.sixel_words.proofs.NamesLemmas.{not_checked}
use Rattle.sixel_words.proofs.check_words.check_task.Goals as goal

pub returns-in_err-terminals-clause-none : goal.returns-in_err-terminals-clause-none
returns-in_err-terminals-clause-none c = λ none t is.
    not_checked (rows_of (found_of c.args.matches.now)) t (c.in_err-terminals.ensures.none refl) is
