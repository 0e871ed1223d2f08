use Rattle.sixel_grammar.specs.declared.command.Command.TheVariants.{Repeat}
use Rattle.sixel_grammar.specs.declared.command.Event.TheVariants.{Step}
use Rattle.sixel_emulator.proofs.ModelledLemmas.{follows_none, none_pending}
use Rattle.sixel_emulator.proofs.modelled.Modelled.push_blank_or_other.Goals as goal

pub returns-then-is_plain_repeat-clause-followed : goal.returns-then-is_plain_repeat-clause-followed
returns-then-is_plain_repeat-clause-followed g c = λ opening before h.
    c.push_plain_repeat.ensures.followed opening before
    (follows_none g.R.Reading.model g.R.Reading.has_seen c.args.self.now opening before c.args.place
    (Step (Repeat c.args.count c.args.bits)) (none_pending c.args.self.now.waiting.pending c.if-is_none.ensures) h)
