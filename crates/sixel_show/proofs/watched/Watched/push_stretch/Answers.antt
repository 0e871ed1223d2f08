use Rattle.std.proofs.Common.{◌∙◌, sym}
use Rattle.sixel_show.proofs.WatchLemmas.{high_stretch}
use Rattle.sixel_show.proofs.watched.Watched.push_stretch.Goals as goal

pub returns-clause-watched : goal.returns-clause-watched
returns-clause-watched c = λ before h. record {
  drawn = c.push_stretch.ensures.drawn before h.drawn;
  high = h.high ∙ sym (high_stretch before c.args.bytes.now);
}
