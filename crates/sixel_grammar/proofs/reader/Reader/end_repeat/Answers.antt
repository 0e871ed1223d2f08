use Rattle.std.proofs.Common.{Bool, cond, length, refl, sym, ap, arith}
use Rattle.sixel_grammar.specs.declared.command.Event.TheVariants.{Step}
use Rattle.sixel_grammar.specs.Plain.{plain_of}
use Rattle.sixel_grammar.specs.declared.command.Plain.TheVariants.{Command}
use Rattle.sixel_grammar.proofs.StandLemmas.{shut}
use Rattle.sixel_grammar.proofs.reader.Reader.end_repeat.Goals as goal

pub returns-clause-accepted : goal.returns-clause-accepted
returns-clause-accepted c = λ events bytes s.
    let ended = c.in_ok-command.ensures in
    shut c.args.self.now _ events bytes c.args.byte c.args.self.now.opened (Step c.in_ok-command.command)
    (plain_of (Command c.args.self.now.opened c.in_ok-command.command)) s (omega (arith, c.if-self-eq0.false))
    ended.ended (ended.after refl)
    (ap (λ (i : Bool). cond i (length bytes) c.args.self.now.opened) (sym (ended.unfinished refl)))
    refl refl refl
