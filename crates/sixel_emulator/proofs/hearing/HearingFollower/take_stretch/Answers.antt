use Rattle.std.proofs.Common.{◌++◌, List, refl, subst, sym, take}
use Rattle.sixel_grammar.specs.declared.command.Placed.{Placed}
use Rattle.sixel_grammar.specs.Stretches.{sixels_from}
use Rattle.sixel_emulator.proofs.HeardLemmas.{heard_sixels, hears_more}
use Rattle.sixel_emulator.proofs.hearing.HearingFollower.take_stretch.Goals as goal

pub returns-clause-taken : goal.returns-clause-taken
returns-clause-taken g c = λ first seen h.
    let old = c.args.self.now in
    let taken = take c.args.count c.args.bytes.now in
    let new = c.hear_stretch.new.self in
    hears_more g.F.Listener.has_taken first old (record old { listener = new }) seen (sixels_from c.args.place taken) h
    refl
    (λ one before took.
    subst (λ (l : List Placed). g.F.Listener.has_taken one new (before ++ l)) (sym (heard_sixels old.omitted c.args.place taken))
    (c.hear_stretch.ensures one before took))
