use Rattle.sixel_emulator.specs.Modelled.{first_sixel}
use Rattle.sixel_emulator.proofs.ModelledLemmas.{follows_none, none_pending}
use Rattle.sixel_emulator.proofs.modelled.Modelled.push_stretch.Goals as goal

pub returns-then-draws_sixels-clause-followed : goal.returns-then-draws_sixels-clause-followed
returns-then-draws_sixels-clause-followed g c = λ opening before h.
    c.push_plain.ensures.followed opening before c.args.place
    (follows_none g.R.Reading.model g.R.Reading.has_seen c.args.self.now opening before c.args.place
    (first_sixel c.args.bytes.now) (none_pending c.args.self.now.waiting.pending c.if-is_none.ensures) h)
