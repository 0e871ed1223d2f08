use Rattle.sixel_terminal.proofs.UnderLemmas.{stands_front}
use Rattle.sixel_terminal.proofs.terminal.Terminal.draw_under.Goals as goal

pub returns : goal.returns
returns c = λ before colours s.
    stands_front c.args.self.now before c.args.pen c.after_box.result colours c.args.inks.now
    c.fill_ground_under.new.inks c.args.width c.args.height c.requires.binds c.requires.unclipped s c.after_box.ensures
    c.fill_ground_under.auto.inks c.fill_ground_under.ensures
