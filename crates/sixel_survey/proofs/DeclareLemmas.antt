-- On the raster attributes at which a survey may allocate.
use Rattle.std.proofs.Common.{ℕ, List, [], ◌∷◌, ◌++◌, length}
use Rattle.sixel_grammar.specs.declared.command.Placed.{Placed}
use Rattle.sixel_grammar.specs.Document.{events_of}
use Rattle.sixel_model.proofs.PositionLemmas.{holds_before, holds_end, holds_within}
use Rattle.sixel_judge.proofs.JudgeLemmas.{events_push}
use Rattle.sixel_survey.specs.Declaring.{DeclareBox, DeclaresBox}

pub declares_end : (seen : List Placed) (p : Placed) → DeclaresBox (events_of seen) p.event
    → DeclareBox (seen ++ p ∷ [])
declares_end seen p d =
    (length (events_of seen), rw (events_push seen p) (holds_end DeclaresBox (events_of seen) p.event d))

pub declares_before : (seen : List Placed) (p : Placed) → DeclareBox seen → DeclareBox (seen ++ p ∷ [])
declares_before seen p d =
    let i : ℕ = d.0 in (
      i,
      rw (events_push seen p)
          (holds_before DeclaresBox (events_of seen) p.event i (holds_within DeclaresBox (events_of seen) i d.1) d.1),
    )
