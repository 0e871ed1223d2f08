use Rattle.std.proofs.Common.{[]}
use Rattle.std.proofs.lemmas.Result.{on_err_weaker, on_ok_weaker}
use Rattle.sixel_model.specs.Profiles.{count_of}
use Rattle.sixel_scan.proofs.scanner.Scanner.restart.Goals as goal

pub returns-clause-check : goal.returns-clause-check
returns-clause-check c =
    on_ok_weaker c.feed.result (λ read. read (count_of c.args.self.now.profile) [] c.new.ensures) c.feed.ensures.read

pub returns-clause-memory : goal.returns-clause-memory
returns-clause-memory c =
    on_err_weaker c.feed.result (λ grows. grows (count_of c.args.self.now.profile) [] c.new.ensures)
    c.feed.ensures.memory
