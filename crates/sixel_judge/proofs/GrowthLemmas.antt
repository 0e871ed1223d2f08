-- On the raster attributes at which a checker may allocate.
use Rattle.std.proofs.Common.{◌≡◌, ℕ, Option, Some, None, List, [], ◌∷◌, ◌++◌, length, refl, sym, subst}
use Rattle.std.proofs.Common.{append_assoc, ap, ◌∙◌}
use Rattle.std.specs.Prelude.{Result, Ok, Err, IsSome, OnErr}
use Rattle.std.specs.Option.{option_map}
use Rattle.std.proofs.lemmas.List.{append-nil}
use Rattle.sixel_grammar.specs.Document.{events_of}
use Rattle.sixel_grammar.specs.Prefixes.{CompleteIn}
use Rattle.sixel_grammar.specs.declared.command.Event.{Event}
use Rattle.sixel_grammar.specs.declared.command.Placed.{Placed}
use Rattle.sixel_grammar.proofs.UniqueLemmas.{complete_stays}
use Rattle.sixel_model.specs.Events.{raster_of}
use Rattle.sixel_model.specs.Grids.{Grid}
use Rattle.sixel_model.proofs.PositionLemmas.{holds_before, holds_end, holds_within}
use Rattle.sixel_model.proofs.RuleLemmas.{none_push}
use Rattle.sixel_model.specs.Rules.{last_rule}
use Rattle.sixel_judge.specs.declared.notes.Notes.{Notes}
use Rattle.sixel_judge.specs.Growth.{MayGrow, MayGrowAmong, MayGrowIn}
use Rattle.sixel_judge.specs.Judging.{BreaksNoRule, IsGridAfter, IsUndrawn, StandsUnbroken}
use Rattle.sixel_judge.proofs.JudgeLemmas.{events_push}
use Rattle.sixel_judge.proofs.UnbrokenLemmas.{keeps, seven_bits}

-- what holds always holds on a refusal
pub err_says : {A E : Type 0} (P : Type 0) (r : Result A E) → P → OnErr r P
err_says P (Ok x) h = tt
err_says P (Err e) h = h

-- ---- events

no_box : (kept : ℕ → ℕ) (o : Option Grid) (before : List Event) → o ≡ None → IsGridAfter kept o before → IsUndrawn before
no_box kept None before e h = h
no_box kept (Some s) before e h = cc

-- the judge may allocate at raster attributes that break no rule, if there is no grid yet
pub judge_grows : {registers : ℕ} {kept : ℕ → ℕ} {notes : Notes} {grid : Option Grid} {before : List Event} (e : Event)
    → grid ≡ None → IsSome (raster_of e) → StandsUnbroken registers kept notes grid before
    → BreaksNoRule registers before e → MayGrow registers before e
judge_grows {registers} {kept} {grid} {before} e is declares s none = record {
  declares = declares;
  first = (no_box kept grid before is s.grid_is).no_box;
  unbroken = none_push registers last_rule before e s.unbroken (keeps before e none) (seven_bits _ before e none);
}

-- if a mapped option has a value, so has the option
pub some_of_map : {X A : Type 0} (f : X → A) (o : Option X) (a : A) → option_map f o ≡ Some a → IsSome o
some_of_map f None a e = cc
some_of_map f (Some x) a e = refl

pub grows_end : {registers : ℕ} (seen : List Placed) (p : Placed) → MayGrow registers (events_of seen) p.event
    → MayGrowAmong registers (seen ++ p ∷ [])
grows_end {registers} seen p g = (
  length (events_of seen),
  rw (events_push seen p) (holds_end (MayGrow registers) (events_of seen) p.event g),
)

pub grows_before : {registers : ℕ} (seen : List Placed) (p : Placed) → MayGrowAmong registers seen
    → MayGrowAmong registers (seen ++ p ∷ [])
grows_before {registers} seen p g =
    let i : ℕ = g.0 in (
      i,
      rw (events_push seen p)
          (holds_before (MayGrow registers) (events_of seen) p.event i
          (holds_within (MayGrow registers) (events_of seen) i g.1) g.1),
    )

-- if a checker may allocate at one of the events, then also with more events after them
pub grows_among : {registers : ℕ} (seen more : List Placed) → MayGrowAmong registers seen
    → MayGrowAmong registers (seen ++ more)
grows_among {registers} seen [] g = subst (MayGrowAmong registers) (sym (append-nil seen)) g
grows_among {registers} seen (p ∷ ps) g =
    subst (MayGrowAmong registers) (append_assoc seen (p ∷ []) ps)
    (grows_among (seen ++ p ∷ []) ps (grows_before seen p g))

-- if a checker may allocate at an event of a prefix, then also at one of a longer prefix
pub growth_stays : {registers : ℕ} (prefix rest : List ℕ) (first second : List Placed) → CompleteIn first prefix
    → CompleteIn second (prefix ++ rest) → MayGrowAmong registers first → MayGrowAmong registers second
growth_stays {registers} prefix rest first second c d g =
    let stays : (more : List Placed) × (second ≡ first ++ more) = complete_stays prefix rest first second c d in
    subst (MayGrowAmong registers) (sym stays.1) (grows_among first stays.0 g)

-- an allocation that may fail within the bytes may fail with more bytes after them
pub grows_on : {registers : ℕ} (bytes more all : List ℕ) → all ≡ bytes ++ more → MayGrowIn registers bytes
    → MayGrowIn registers all
grows_on bytes more all is g = record {
  prefix = g.prefix;
  rest = g.rest ++ more;
  bytes_are = is ∙ ap (λ (t : List ℕ). t ++ more) g.bytes_are ∙ append_assoc g.prefix g.rest more;
  events = g.events;
  complete = g.complete;
  grows = g.grows;
}
