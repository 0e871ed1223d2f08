use Rattle.std.proofs.Common.{rules}
use Rattle.sixel_grammar.specs.Document.{events_of}
use Rattle.sixel_model.proofs.RuleLemmas.{none_drawn}
use Rattle.sixel_judge.proofs.CoverLemmas.{has_box}
use Rattle.sixel_judge.proofs.WholeLemmas.{full_grid}
use Rattle.sixel_judge.proofs.judge.Judge.verdict.Goals as goal

pub picture_of-requires-clause-full : goal.picture_of-requires-clause-full
picture_of-requires-clause-full g c =
    let s = rw (c.in-None-Some.is-0, c.in-None-Some.is-1) at c.requires.1 in
    full_grid _ c.requires.2 s.unbroken s.grid_is

pub unreachable-requires : goal.unreachable-requires
unreachable-requires g c =
    let s = rw (c.in-None-None.is-0, c.in-None-None.is-1) at c.requires.1 in
    has_box _ (events_of c.requires.0) c.requires.2 (none_drawn _ (events_of c.requires.0) s.unbroken)
    s.grid_is.no_box

pub returns-in-Some-default : goal.returns-in-Some-default
returns-in-Some-default g c = search rules
