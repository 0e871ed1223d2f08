use Rattle.std.proofs.Common.{refl}
use Rattle.clap.specs.Walk.{rows_of}
use Rattle.clap.specs.Matches.{found_of}
use Rattle.sixel_words.proofs.FitLemmas.{not_mended}
use Rattle.sixel_words.proofs.MatchLemmas.{without_colour}
use Rattle.sixel_words.proofs.fit_words.mend_task.Goals as goal

pub returns-in_err-background-clause-none : goal.returns-in_err-background-clause-none
returns-in_err-background-clause-none c = λ none t is.
    without_colour (rows_of (found_of c.args.matches.now)) t (c.in_err-background.ensures.none refl) is

pub returns-in_err-fitting-clause-none : goal.returns-in_err-fitting-clause-none
returns-in_err-fitting-clause-none c = λ none t is.
    not_mended (rows_of (found_of c.args.matches.now)) t (c.in_err-fitting.ensures.none refl) is
