use Rattle.std.proofs.Common.{Bool, true, false, ◌≡◌, Some, None, refl}
use Rattle.std.specs.Prelude.{if◌then◌else◌}
use Rattle.sixel_grammar.specs.Bytes.{is_filler}
use Rattle.sixel_grammar.specs.Faults.{Ended}
use Rattle.sixel_grammar.specs.Next.{only_grown}
use Rattle.sixel_grammar.proofs.pending.Pending.try_grow.Goals as goal

stays : (b : Bool) → (if b then Some Ended else None) ≡ only_grown (if b then Some (Ended, None) else None)
stays true = refl
stays false = refl

pub returns-in-Ended-clause-grown : goal.returns-in-Ended-clause-grown
returns-in-Ended-clause-grown c = rw (c.is_filler.ensures, c.in-Ended.is) (stays (is_filler c.args.byte))
