use Rattle.std.proofs.Common.{[], ◌∷◌, ap, inl, refl}
use Rattle.sixel_messages.proofs.PutsLemmas.{put_then, two_put}
use Rattle.sixel_program.proofs.checks.finish.Goals as goal

pub returns-in-Ok : goal.returns-in-Ok
returns-in-Ok g c =
    let flushed = c.in-Ok.ensures in
    inl (
      refl,
      flushed.bytes,
      flushed.failures,
      flushed.flushed,
      λ quiet. ap (g.K.Sink.state) (flushed.untouched quiet),
      put_then _ (_ ∷ _ ∷ []) _ (g.E.Sink.state c.put_hints.new.errors) _
          (rw c.as_slice.ensures at c.put_hints.ensures)
          (two_put _ _ _ (g.E.Sink.state c.put_wrapped.new.errors) _ (rw c.has_notes.ensures at c.put_wrapped.ensures)
          c.put_count.ensures),
    )
