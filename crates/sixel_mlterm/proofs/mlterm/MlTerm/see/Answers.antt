use Rattle.sixel_mlterm.proofs.MlTermLemmas.{seen_push}
use Rattle.sixel_mlterm.proofs.mlterm.MlTerm.see.Goals as goal

pub returns : goal.returns
returns c = λ before s.
    let m = c.args.self.now in
    let e = c.args.event.now in
    let at = rw c.name.ensures at c.after-self.ensures in
    rw c.name.ensures
    (seen_push m c.after-self.result c.buffer_with-buffer.result before e s (at before s.place_is)
    c.buffer_with-buffer.ensures)
