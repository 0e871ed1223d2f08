use Rattle.std.proofs.Common.{◌∙◌, ◌++◌, List, ap, subst}
use Rattle.std.proofs.lemmas.List.{append-nil}
use Rattle.sixel_grammar.specs.declared.command.Event.{Event}
use Rattle.sixel_grammar.specs.Document.{events_of}
use Rattle.sixel_terminal.specs.Drawings.{HasDrawn}
use Rattle.sixel_emulator.specs.Readings.{drawn_by}
use Rattle.sixel_emulator.proofs.ProgressLemmas.{come_on}
use Rattle.sixel_emulator.proofs.progress.Progress.go_on.Goals as goal

pub returns-clause-come : goal.returns-clause-come
returns-clause-come c = λ m opening placed n e goes at is has come.
    come_on m opening placed n e c.args.reads c.args.self.now.course c.after-self.result c.args.self.now.end
    c.args.place c.args.self.now.drawing c.draw.new.drawing goes at has
    (c.after-self.ensures m (events_of placed) n e at is)
    (λ on before drawn.
    subst (λ (es : List Event). HasDrawn c.draw.new.drawing (before ++ es))
    (ap drawn_by (c.drawn_in.ensures.goes on)) (c.draw.ensures.drawn before drawn))
    (λ off before drawn.
    subst (HasDrawn c.draw.new.drawing)
    (ap (λ (es : List Event). before ++ es) (c.drawn_in.ensures.otherwise off) ∙ append-nil before)
    (c.draw.ensures.drawn before drawn))
    come
