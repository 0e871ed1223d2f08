use Rattle.std.proofs.Common.{◌≡◌, ◌-◌, ◌++◌, ◌∷◌, [], Bool, cond, length, refl, sym, ap, arith}
use Rattle.sixel_grammar.specs.Document.{most_bytes}
use Rattle.sixel_grammar.specs.Plain.{plain_of}
use Rattle.sixel_grammar.specs.declared.command.Plain.TheVariants.{Nothing}
use Rattle.sixel_grammar.proofs.StandLemmas.{grown, quiet}
use Rattle.sixel_grammar.proofs.reader.Reader.begin_repeat.Goals as goal

pub returns-then-try_begin_repeat-clause-accepted : goal.returns-then-try_begin_repeat-clause-accepted
returns-then-try_begin_repeat-clause-accepted c = λ events bytes s.
    let begun = c.if-try_begin_repeat.ensures in
    let place : most_bytes - c.args.self.now.left ≡ length bytes = omega (arith, s.left) in
    quiet _ events (bytes ++ 33 ∷ []) (plain_of Nothing) refl
    (grown c.args.self.now _ events bytes 33 (length bytes) s c.if-self-gt0.true (begun.taken refl)
    (ap (λ (i : Bool). cond i (length bytes) c.args.self.now.opened) (sym (begun.idle refl))) place refl refl)
