use Rattle.std.proofs.Common.{refl}
use Rattle.clap.specs.Walk.{rows_of}
use Rattle.clap.specs.Matches.{found_of}
use Rattle.sixel_words.proofs.MatchLemmas.{without_area}
use Rattle.sixel_words.proofs.show_words.plain_task.Goals as goal

pub returns-in_err-area_of-clause-none : goal.returns-in_err-area_of-clause-none
returns-in_err-area_of-clause-none c = λ none t is.
    without_area (rows_of (found_of c.args.matches.now)) t (c.in_err-area_of.ensures.none refl) is
