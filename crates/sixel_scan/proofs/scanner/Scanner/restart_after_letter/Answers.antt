use Rattle.std.proofs.Common.{[], ◌∷◌, refl}
use Rattle.std.proofs.lemmas.Result.{on_err_weaker, on_ok_weaker}
use Rattle.sixel_model.specs.Profiles.{count_of}
use Rattle.sixel_judge.proofs.GrowthLemmas.{err_says, grows_on}
use Rattle.sixel_scan.proofs.scanner.Scanner.restart_after_letter.Goals as goal

pub returns-in_err-restart-clause-memory : goal.returns-in_err-restart-clause-memory
returns-in_err-restart-clause-memory c =
    err_says _ c.from_residual.result
    (grows_on (27 ∷ []) (80 ∷ c.args.byte ∷ [])
    (27 ∷ 80 ∷ c.args.byte ∷ []) refl c.in_err-restart.ensures.memory)

pub returns-in_err-feed-clause-memory : goal.returns-in_err-feed-clause-memory
returns-in_err-feed-clause-memory c =
    let registers = count_of c.args.self.now.profile in
    err_says _ c.from_residual-in_err-feed.result
    (grows_on (27 ∷ 80 ∷ []) (c.args.byte ∷ [])
    (27 ∷ 80 ∷ c.args.byte ∷ []) refl
    (c.in_err-feed.ensures.memory registers (27 ∷ []) c.in_ok-restart.ensures.check))

pub feed-requires-2 : goal.feed-requires-2
feed-requires-2 c =
    let registers = count_of c.args.self.now.profile in
    (registers, 27 ∷ 80 ∷ [], c.in_ok-feed.ensures.read registers (27 ∷ []) c.in_ok-restart.ensures.check)

pub returns-clause-check : goal.returns-clause-check
returns-clause-check c =
    let registers = count_of c.args.self.now.profile in
    on_ok_weaker c.feed-2.result
    (λ read.
    read registers (27 ∷ 80 ∷ []) (c.in_ok-feed.ensures.read registers (27 ∷ []) c.in_ok-restart.ensures.check))
    c.feed-2.ensures.read

pub returns-clause-memory : goal.returns-clause-memory
returns-clause-memory c =
    let registers = count_of c.args.self.now.profile in
    on_err_weaker c.feed-2.result
    (λ grows.
    grows registers (27 ∷ 80 ∷ []) (c.in_ok-feed.ensures.read registers (27 ∷ []) c.in_ok-restart.ensures.check))
    c.feed-2.ensures.memory
