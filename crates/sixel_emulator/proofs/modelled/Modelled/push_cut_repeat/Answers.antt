use Rattle.std.proofs.Common.{◌≡◌, ℕ, arith, min, refl, subst}
use Rattle.sixel_grammar.specs.declared.command.Command.TheVariants.{Repeat}
use Rattle.sixel_grammar.specs.declared.command.Event.{Event}
use Rattle.sixel_grammar.specs.declared.command.Event.TheVariants.{Step}
use Rattle.sixel_emulator.specs.Readings.{IsCut}
use Rattle.sixel_emulator.proofs.CutLemmas.{follows_cut}
use Rattle.sixel_emulator.proofs.modelled.Modelled.push_cut_repeat.Goals as goal

pub returns-clause-followed : goal.returns-clause-followed
returns-clause-followed g c = λ opening before place h.
    let m = g.R.Reading.model in
    let repeat : Event = Step (Repeat c.args.count c.args.bits) in
    let zero_columns : ℕ = c.args.self.now.progress.drawing.terminal.choices.zero in
    let columns : min c.args.count c.args.columns ≡ c.min.result = omega (arith, c.min.ensures, c.from.ensures) in
    follows_cut m g.R.Reading.has_seen c.args.self.now opening before place repeat zero_columns c.min.result
    c.note_repeat.new.self c.read_blanks.new.self c.requires.none refl
    (λ es next seen.
    subst (λ (n : ℕ). IsCut zero_columns n (m.rule es repeat next)) columns
    ((c.requires.cut es seen).repeats c.args.count c.args.bits next c.requires.some))
    c.note_repeat.ensures
    (λ first placed k reads at goes blank come.
    c.read_blanks.ensures.one m first placed k repeat reads at refl goes blank come)
    h
