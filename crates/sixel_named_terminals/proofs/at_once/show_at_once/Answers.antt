use Rattle.std.proofs.Common.{◌∙◌, refl}
use Rattle.sixel_named_terminals.proofs.at_once.show_at_once.Goals as goal

pub returns-in_ok-drawing-in-XTerm-clause-shown : goal.returns-in_ok-drawing-in-XTerm-clause-shown
returns-in_ok-drawing-in-XTerm-clause-shown g c =
    rw c.in-XTerm.is
    (c.show_source.ensures.shown c.args.background (c.args.width, c.args.height) (λ events. refl) refl
    c.as_xterm.ensures.followed
    (c.as_xterm.ensures.terminal ∙ c.in_ok-drawing-in-XTerm.ensures.terminal
    ∙ c.in_ok-xterm_terminal-in-XTerm.ensures))

pub returns-in_ok-drawing-in-MlTerm-clause-shown : goal.returns-in_ok-drawing-in-MlTerm-clause-shown
returns-in_ok-drawing-in-MlTerm-clause-shown g c =
    rw c.in-MlTerm.is
    (c.show_source-in-MlTerm.ensures.shown c.args.background (c.args.width, c.args.height) (λ events. refl) refl
    c.as_mlterm.ensures.followed
    (c.as_mlterm.ensures.terminal ∙ c.in_ok-drawing-in-MlTerm.ensures.terminal
    ∙ c.in_ok-mlterm_terminal-in-MlTerm.ensures))

pub returns-in_ok-as_foot-in-Foot-clause-shown : goal.returns-in_ok-as_foot-in-Foot-clause-shown
returns-in_ok-as_foot-in-Foot-clause-shown g c =
    rw c.in-Foot.is
    (c.show_source-in-Foot.ensures.shown c.args.background (c.args.width, c.args.height) (λ events. refl) refl
    c.in_ok-as_foot-in-Foot.ensures.followed
    (c.in_ok-as_foot-in-Foot.ensures.terminal ∙ c.in_ok-drawing-in-Foot.ensures.terminal
    ∙ c.in_ok-foot_terminal-in-Foot.ensures))
