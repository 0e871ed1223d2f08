use Rattle.std.proofs.Common.{◌-◌, ◌≤◌, List, ℕ, arith, length, subst, sym, take}
use Rattle.std.specs.Io.KnownBytes.{Consumes}
use Rattle.std.proofs.lemmas.Result.{err_from_is_err_and}
use Rattle.sixel_grammar.proofs.SourceLemmas.{consumes-then, no_fault_before}
use Rattle.sixel_show.proofs.ShowFirstLemmas.{take_behind}
use Rattle.sixel_show.proofs.show_on.read_behind.Goals as goal

pub returns-in_err-more-clause-unread : goal.returns-in_err-more-clause-unread
returns-in_err-more-clause-unread g c = λ a consumes.
    let failed = err_from_is_err_and c.from_residual.result c.from_residual.ensures.1 in
    let stands = c.requires.stands in
    rw failed.1
    (no_fault_before a (g.S.Source.state c.args.input.now).remaining (g.S.Source.state c.fill.new.self).remaining
    stands.0 stands.1 (take c.args.read c.args.piece.now) stands.2 consumes c.in_err-more.ensures.bytes)

pub returns-clause-read : goal.returns-clause-read
returns-clause-read g c = λ a consumes.
    let within : c.args.read ≤ length c.args.piece.now = omega (arith, c.requires.room) in
    subst (λ (t : List ℕ). Consumes a (g.S.Source.state c.fill.new.self).remaining t)
    (sym (take_behind c.args.read c.in_ok-more.more (65536 - c.args.read) c.args.piece.now c.fill.new.piece within
    c.in_ok-more.ensures.bound))
    (consumes-then a (g.S.Source.state c.args.input.now).remaining (g.S.Source.state c.fill.new.self).remaining
    (take c.args.read c.args.piece.now) (take c.in_ok-more.more c.fill.new.piece) consumes
    c.in_ok-more.ensures.bytes.0)
