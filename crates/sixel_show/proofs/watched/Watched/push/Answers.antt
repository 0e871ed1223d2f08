use Rattle.sixel_show.proofs.WatchLemmas.{high_more}
use Rattle.sixel_show.proofs.watched.Watched.push.Goals as goal

pub returns-clause-watched : goal.returns-clause-watched
returns-clause-watched c = λ before h. record {
  drawn = c.push.ensures.drawn before h.drawn;
  high = cc (h.high, c.names_high_register.ensures, high_more before c.args.event.now);
}
