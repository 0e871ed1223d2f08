use Rattle.sixel_mlterm.proofs.PastLemmas.{past_seen}
use Rattle.sixel_mlterm.proofs.mlterm.MlTerm.see_past.Goals as goal

pub returns : goal.returns
returns c = λ before bytes long s.
    past_seen c.after_sixels-self.result before bytes c.requires s
    (c.after_sixels-self.ensures 0 before bytes long s.place_is)
