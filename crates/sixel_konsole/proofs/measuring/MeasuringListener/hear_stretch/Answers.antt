use Rattle.std.proofs.Common.{◌++◌, ◌∙◌, List, ap, subst, sym}
use Rattle.sixel_grammar.specs.declared.command.Event.{Event}
use Rattle.sixel_grammar.specs.Document.{events_of}
use Rattle.sixel_grammar.specs.Stretches.{sixels_from}
use Rattle.sixel_terminal.proofs.FollowLemmas.{events_then, sixels_are}
use Rattle.sixel_konsole.specs.Measuring.{HasTakenAll}
use Rattle.sixel_konsole.proofs.measuring.MeasuringListener.hear_stretch.Goals as goal

pub returns : goal.returns
returns c = λ first seen taken begun.
    let bytes = c.args.bytes.now in
    subst (λ (es : List Event). HasTakenAll c.push_stretch.new.self es)
    (ap (λ (es : List Event). events_of seen ++ es) (sym (sixels_are c.args._place bytes))
    ∙ sym (events_then seen (sixels_from c.args._place bytes)))
    (c.push_stretch.ensures (events_of seen) (taken begun))
