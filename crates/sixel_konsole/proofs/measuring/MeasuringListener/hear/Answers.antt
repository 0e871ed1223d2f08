use Rattle.std.proofs.Common.{◌∷◌, [], List, subst, sym}
use Rattle.sixel_grammar.specs.declared.command.Event.{Event}
use Rattle.sixel_grammar.specs.Document.{events_of}
use Rattle.sixel_terminal.proofs.FollowLemmas.{events_then}
use Rattle.sixel_konsole.specs.Measuring.{HasTakenAll}
use Rattle.sixel_konsole.proofs.measuring.MeasuringListener.hear.Goals as goal

pub returns : goal.returns
returns c = λ first seen taken begun.
    subst (λ (es : List Event). HasTakenAll c.push.new.self es) (sym (events_then seen (_ ∷ [])))
    (c.push.ensures.taken (events_of seen) (taken begun))
