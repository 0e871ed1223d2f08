use Rattle.sixel_terminal.proofs.BlankLemmas.{stands_past}
use Rattle.sixel_terminal.proofs.RunLemmas.{Runs, runs_seen}
use Rattle.sixel_terminal.proofs.terminal.Terminal.past_blanks.Goals as goal

pub returns : goal.returns
returns c = λ before blanks colours inks are s.
    let known : Runs c.args.self.now = runs_seen _ _ _ _ c.self.view_is c.self.invariant in
    stands_past c.args.self.now blanks before c.args.pen c.moved.result c.args.columns colours inks known
    c.moved.ensures are s
