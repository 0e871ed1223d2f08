use Rattle.std.proofs.Common.{[], ◌∷◌, refl}
use Rattle.sixel_judge.proofs.GrowthLemmas.{err_says, grows_on}
use Rattle.sixel_scan.proofs.scanner.Scanner.restart_after_control.Goals as goal

pub returns-in_err-restart-clause-memory : goal.returns-in_err-restart-clause-memory
returns-in_err-restart-clause-memory c =
    err_says _ c.from_residual.result
    (grows_on (144 ∷ []) (c.args.byte ∷ [])
    (144 ∷ c.args.byte ∷ []) refl c.in_err-restart.ensures.memory)
