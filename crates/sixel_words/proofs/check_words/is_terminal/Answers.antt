use Rattle.std.proofs.Common.{◌∙◌, sym}
use Rattle.sixel_words.proofs.NamesLemmas.{is_terminal_so}
use Rattle.sixel_words.proofs.check_words.is_terminal.Goals as goal

pub returns : goal.returns
returns c =
    is_terminal_so c.args.part.now c.terminal_named.result c.terminal_named.ensures.some c.terminal_named.ensures.none
    ∙ sym c.is_some.ensures
