use Rattle.sixel_terminal.specs.Limits.{display_of}
use Rattle.sixel_terminal.proofs.RunLemmas.{in_class_up_to, runs}
use Rattle.sixel_terminal.proofs.laws.terminals_are_in_class.Goals as goal

pub returns : goal.returns
returns c = λ registers choices colours screen h few.
    in_class_up_to registers 16 (display_of choices colours screen) (runs choices colours screen h).in_class few
