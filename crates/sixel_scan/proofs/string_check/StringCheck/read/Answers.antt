use Rattle.std.proofs.Common.{◌∙◌, sym}
use Rattle.std.proofs.lemmas.Result.{on_err_weaker, on_ok_weaker}
use Rattle.sixel_scan.proofs.CheckingLemmas.{after_of, refused_on}
use Rattle.sixel_scan.proofs.string_check.StringCheck.read.Goals as goal

pub returns-in-Some-clause-read : goal.returns-in-Some-clause-read
returns-in-Some-clause-read c = λ registers bytes read.
    refused_on registers c.args.self.now bytes c.args.piece.now _ (sym c.fault.ensures ∙ c.in-Some.is) read

pub read_on-requires : goal.read_on-requires
read_on-requires c =
    let t = c.requires in (t.0, t.1, after_of t.0 c.args.self.now t.1 (sym c.fault.ensures ∙ c.in-None.is) t.2)

pub returns-in-None-clause-read : goal.returns-in-None-clause-read
returns-in-None-clause-read c =
    on_ok_weaker c.read_on.result
    (λ reads registers bytes read.
    reads registers bytes (after_of registers c.args.self.now bytes (sym c.fault.ensures ∙ c.in-None.is) read))
    c.read_on.ensures.read

pub returns-in-None-clause-memory : goal.returns-in-None-clause-memory
returns-in-None-clause-memory c =
    on_err_weaker c.read_on.result
    (λ grows registers bytes read.
    grows registers bytes (after_of registers c.args.self.now bytes (sym c.fault.ensures ∙ c.in-None.is) read))
    c.read_on.ensures.memory
