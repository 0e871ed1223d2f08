use Rattle.std.proofs.Common.{◌≤◌, ◌++◌, ◌∷◌, [], length, arith, subst}
use Rattle.sixel_grammar.specs.declared.command.Event.{Event}
use Rattle.sixel_emulator.specs.Modelled.{HasFollowed, placed_at, with_waiting}
use Rattle.sixel_emulator.proofs.ModelledLemmas.{follows_taken}
use Rattle.sixel_emulator.proofs.modelled.Modelled.push_some.Goals as goal

pub returns-clause-followed : goal.returns-clause-followed
returns-clause-followed g c = λ opening before h.
    let k = c.min-plain.result in
    let within : k ≤ length c.args.bytes.now = omega (arith, c.min-plain.ensures) in
    let enough : k ≤ c.plain_sixels.result = omega (arith, c.min-plain.ensures) in
    follows_taken g.R.Reading.model g.R.Reading.has_seen c.settle.new.self opening before c.args.place
    c.args.bytes.now k c.plain_sixels.result c.note_sixels.new.self c.read_sixels.new.self c.if-plain-eq0.false
    c.requires.some c.settle.ensures.pending c.plain_sixels.ensures enough within c.note_sixels.ensures
    (c.read_sixels.ensures.come g.R.Reading.model)
    (subst (λ (e : Event). HasFollowed g.R.Reading.model g.R.Reading.has_seen
    (with_waiting c.settle.new.self c.args.place e) opening (before ++ placed_at c.args.place e ∷ []))
    c.sixel-first.ensures (c.settle.ensures.followed opening before c.args.place h))
