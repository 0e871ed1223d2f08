use Rattle.sixel_show.proofs.watched.Watched.finish.Goals as goal

pub returns : goal.returns
returns c = λ events h. record {
  screen = record {
    width = c.finish.ensures.width;
    height = c.finish.ensures.height;
    colours = c.finish.ensures.shown events h.drawn;
  };
  status = c.shown_status.ensures events h.high;
}
