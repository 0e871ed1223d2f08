use Rattle.std.proofs.Common.{◌≡◌, ◌-◌, length, sym, subst, arith}
use Rattle.sixel_grammar.specs.Document.{most_bytes}
use Rattle.sixel_grammar.specs.declared.fault.Reason.TheVariants.{Truncated}
use Rattle.sixel_grammar.specs.Faults.{IsFaultOf, Ended}
use Rattle.sixel_grammar.specs.Pending.{form_of}
use Rattle.sixel_grammar.proofs.StandLemmas.{truncated, fault_at}
use Rattle.sixel_grammar.proofs.reader.Reader.finish.Goals as goal

pub returns-else-has_ended-clause-answer : goal.returns-else-has_ended-clause-answer
returns-else-has_ended-clause-answer c = λ events bytes s.
    let place : length bytes ≡ most_bytes - c.args.self.now.left = omega (arith, s.left) in
    let open_still : form_of c.args.self.now.pending ≡ Ended → ⊥ = λ h. let t = c.if-has_ended.ensures.1 h in cc in (
      subst (λ n. IsFaultOf bytes (fault_at Truncated n)) place
          (truncated (form_of c.args.self.now.pending) s.ends (omega (arith, s.left)) open_still),
      sym place,
    )
