use Rattle.std.proofs.Common.{ℕ, sym, subst}
use Rattle.std.specs.Prelude.{IfSome}
use Rattle.sixel_grammar.specs.Plain.{plain_of}
use Rattle.sixel_grammar.specs.Standing.{Takes, completions}
use Rattle.sixel_grammar.proofs.reader.Reader.feed_inside.Goals as goal

pub returns-then-byte-eq59-clause-accepted : goal.returns-then-byte-eq59-clause-accepted
returns-then-byte-eq59-clause-accepted c =
    subst (λ (b : ℕ).
    IfSome c.take_separator.result (λ p. Takes c.args.self.now c.take_separator.new.self b (completions (plain_of p))))
    (sym c.if-byte-eq59.true) c.take_separator.ensures.accepted

pub returns-then-byte-eq33-clause-accepted : goal.returns-then-byte-eq33-clause-accepted
returns-then-byte-eq33-clause-accepted c =
    subst (λ (b : ℕ).
    IfSome c.begin_repeat.result (λ p. Takes c.args.self.now c.begin_repeat.new.self b (completions (plain_of p))))
    (sym c.if-byte-eq33.true) c.begin_repeat.ensures.accepted
