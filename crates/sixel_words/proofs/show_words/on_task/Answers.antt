use Rattle.std.proofs.Common.{refl}
use Rattle.clap.specs.Walk.{rows_of}
use Rattle.clap.specs.Matches.{found_of}
use Rattle.sixel_words.proofs.MatchLemmas.{on_without_colour, without_name}
use Rattle.sixel_words.proofs.show_words.on_task.Goals as goal

pub returns-in_err-named-clause-none : goal.returns-in_err-named-clause-none
returns-in_err-named-clause-none c = λ none t is.
    without_name (rows_of (found_of c.args.matches.now)) t c.args.name.now c.requires
    (c.in_err-named.ensures.none refl) is

pub returns-in_err-background-clause-none : goal.returns-in_err-background-clause-none
returns-in_err-background-clause-none c = λ none t is.
    on_without_colour (rows_of (found_of c.args.matches.now)) t c.args.name.now c.requires
    (c.in_err-background.ensures.none refl) is
