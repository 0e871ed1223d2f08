use Rattle.std.proofs.Common.{None, [], ◌∷◌, ◌++◌, ◌≡◌, ◌∙◌, ◌-◌, ℕ, length, refl, sym, ap, arith}
use Rattle.sixel_grammar.specs.Document.{most_bytes}
use Rattle.sixel_grammar.specs.Standing.{opened_after}
use Rattle.sixel_grammar.proofs.ChoiceLemmas.{grown-is}
use Rattle.sixel_grammar.proofs.StandLemmas.{grown, quiet}
use Rattle.sixel_grammar.proofs.reader.Reader.try_grow.Goals as goal

pub returns-clause-accepted : goal.returns-clause-accepted
returns-clause-accepted c = λ t events bytes s.
    let place : most_bytes - c.args.self.now.left ≡ length bytes = omega (arith, s.left) in
    quiet _ events (bytes ++ c.args.byte ∷ []) (record { first = None; second = None }) refl
    (grown c.args.self.now _ events bytes c.args.byte c.opened_at-opened.result s (omega (arith, c.if-self-eq0.false))
    (grown-is _ _ (sym (c.if-not-try_grow.ensures.grown)))
    (c.opened_at-opened.ensures ∙ ap (λ (n : ℕ). opened_after n c.args.self.now) place) refl refl refl)
