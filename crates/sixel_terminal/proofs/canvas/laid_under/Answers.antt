use Rattle.std.proofs.Common.{◌∙◌, sym}
use Rattle.sixel_terminal.proofs.CanvasLemmas.{laid_fixed, laid_registered}
use Rattle.sixel_terminal.proofs.canvas.laid_under.Goals as goal

pub returns-in-Some : goal.returns-in-Some
returns-in-Some c = laid_registered c.args.ink.now c.args.old.now _ (sym c.register.ensures ∙ c.in-Some.is)

pub returns-in-None : goal.returns-in-None
returns-in-None c = laid_fixed c.args.ink.now c.args.old.now (sym c.register.ensures ∙ c.in-None.is)
