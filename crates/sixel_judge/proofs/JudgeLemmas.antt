-- What a judge knows after one more event.
use Rattle.std.proofs.Common.{◌≡◌, ◌≤◌, ℕ, ◌<◌, true, false, Option, Some, None, List, [], ◌∷◌, ◌++◌, length, sym, ◌∙◌}
use Rattle.std.proofs.Common.{ap}
use Rattle.std.proofs.Common.{Bool, not, ◌&&◌, ◌||◌, refl, subst}
use Rattle.std.specs.Prelude.{is_none, is_some, slice_get}
use Rattle.std.proofs.lemmas.Bool.{both_ways, or_left}
use Rattle.std.specs.Option.{option_map}
use Rattle.std.proofs.lemmas.List.{map-append, length-map}
use Rattle.sixel_grammar.specs.Document.{events_of}
use Rattle.sixel_grammar.specs.declared.command.Placed.{Placed}
use Rattle.sixel_grammar.specs.declared.command.Event.{Event}
use Rattle.sixel_model.specs.Events.{Attributes, is_data_command, is_finish, is_painting, is_return}
use Rattle.sixel_model.specs.Rules.{breaks_raster_first, last_rule, number_of, raster_before}
use Rattle.sixel_model.specs.Grids.{Grid}
use Rattle.sixel_model.specs.Profiles.{count_of}
use Rattle.sixel_model.specs.declared.profile.Profile.{Profile}
use Rattle.sixel_model.proofs.PositionLemmas.{get_before, get_end, holds_before, holds_end, holds_within}
use Rattle.sixel_model.proofs.RuleLemmas.{first_push, first_there, none_of_none, none_push}
use Rattle.sixel_judge.specs.declared.violation.Violation.{Violation}
use Rattle.sixel_judge.specs.declared.notes.Notes.{Notes}
use Rattle.sixel_judge.specs.declared.verdict.Finding.{Finding}
use Rattle.sixel_judge.specs.Counting.{IsFirstHit}
use Rattle.sixel_judge.specs.Judging.{BreaksNoRule, IsGridAfter, JudgesAfter, StandsUnbroken}
use Rattle.sixel_judge.specs.Notes.{IsNotesAfter, is_early_with, next_but_early}
use Rattle.sixel_judge.proofs.NotesLemmas.{notes_push}
use Rattle.sixel_judge.specs.Verdicts.{IsFinding, IsPixel}
use Rattle.sixel_judge.proofs.DrawnLemmas.{undrawn_empty}
use Rattle.sixel_judge.proofs.TellLemmas.{none_broken, paints_data}
use Rattle.sixel_judge.proofs.UnbrokenLemmas.{keeps, seven_bits}

pub events_push : (seen : List Placed) (p : Placed) → events_of (seen ++ p ∷ []) ≡ events_of seen ++ p.event ∷ []
events_push seen p = map-append (λ (q : Placed). q.event) seen (p ∷ [])

pub length_events : (seen : List Placed) → length (events_of seen) ≡ length seen
length_events seen = length-map seen (λ (q : Placed). q.event)

pub judge_start : {registers : ℕ} {kept : ℕ → ℕ} (notes : Notes) → registers ≤ 256 → IsNotesAfter notes []
    → StandsUnbroken registers kept notes None []
judge_start {registers} notes bytes are = record {
  unbroken = none_of_none registers last_rule;
  bytes = bytes;
  notes_are = are;
  grid_is = undrawn_empty;
}

-- the first finding stays
pub judge_broken : {registers : ℕ} (seen : List Placed) (p : Placed) (f : Finding)
    → (i : ℕ) × IsFinding registers seen f i → (i : ℕ) × IsFinding registers (seen ++ p ∷ []) f i
judge_broken {registers} seen p f found =
    let i : ℕ = found.0 in
    let finding : IsFinding registers seen f found.0 = found.1 in
    let low : found.0 < length (events_of seen) = holds_within _ (events_of seen) found.0 finding.pixel in
    let low_seen : found.0 < length seen = rw (length_events seen) at low in (
      found.0,
      record {
        first = rw (events_push seen p)
            (first_push registers f.rule found.0 (events_of seen) p.event finding.first);
        place = ap (option_map (λ (q : Placed). q.place)) (get_before seen (p ∷ []) found.0 low_seen) ∙ finding.place;
        pixel = rw (events_push seen p)
            (holds_before (IsPixel f.rule f.pixel) (events_of seen) p.event found.0 low finding.pixel);
      },
    )

-- an event breaks the first rule
pub judge_finds : {registers : ℕ} {kept : ℕ → ℕ} {notes : Notes} {grid : Option Grid} (seen : List Placed) (p : Placed)
    {b : Violation} → StandsUnbroken registers kept notes grid (events_of seen)
    → IsFirstHit registers (events_of seen) p.event b
    → (i : ℕ) × IsFinding registers (seen ++ p ∷ []) (record { rule = b.rule; place = p.place; pixel = b.pixel }) i
judge_finds {registers} seen p {b} s violation = (
  length (events_of seen),
  record {
    first = rw (events_push seen p)
        (first_there registers b.rule (events_of seen) p.event s.unbroken violation.counts.broken
        (none_broken registers (number_of b.rule) (events_of seen) p.event s.unbroken violation.none_smaller));
    place =
        ap (λ (n : ℕ). option_map (λ (q : Placed). q.place) (slice_get (seen ++ p ∷ []) n)) (length_events seen)
        ∙ ap (option_map (λ (q : Placed). q.place)) (get_end seen p);
    pixel = rw (events_push seen p) (holds_end (IsPixel b.rule b.pixel) (events_of seen) p.event violation.pixel);
  },
)

not_early : (early paints box other : Bool) → (not box && other) ≡ false → (paints ≡ true → other ≡ true)
    → (early || (paints && not box)) ≡ early
not_early true paints box other none more = refl
not_early false false box other none more = refl
not_early false true true other none more = refl
not_early false true false other none more = absurd (both_ways other none (more refl))

not_some : (o : Option Attributes) → not (is_some o) ≡ is_none o
not_some None = refl
not_some (Some a) = refl

-- the notes after an event that breaks no rule: it doesn't paint before the box
pub notes_kept : (registers : ℕ) {n : Notes} {before : List Event} (e : Event) → IsNotesAfter n before
    → BreaksNoRule registers before e → IsNotesAfter (next_but_early n e) (before ++ e ∷ [])
unfolding breaks_raster_first
notes_kept registers {n} {before} e a none =
    let k = keeps before e none in
    let late : is_early_with n e ≡ n.early =
    not_early n.early (is_painting e) n.declared (is_data_command e || is_return e || is_finish e)
    (ap (λ (b : Bool). not b && (is_data_command e || is_return e || is_finish e)) a.declared_is
    ∙ ap (λ (b : Bool). b && (is_data_command e || is_return e || is_finish e)) (not_some (raster_before before))
    ∙ k.raster_first)
    (λ paints. or_left (is_data_command e || is_return e) (is_finish e)
    (or_left (is_data_command e) (is_return e) (paints_data e paints))) in
    subst (λ (b : Bool). IsNotesAfter (record (next_but_early n e) { early = b }) (before ++ e ∷ [])) late
    (notes_push n before e a)

-- an event breaks no rule, and there was no finding
pub judge_goes_on : {registers : ℕ} {kept : ℕ → ℕ} {notes next : Notes} {grid : Option Grid} (drawn : Option Grid)
    (seen : List Placed) (p : Placed) → StandsUnbroken registers kept notes grid (events_of seen)
    → BreaksNoRule registers (events_of seen) p.event → IsNotesAfter next (events_of seen ++ p.event ∷ [])
    → IsGridAfter kept drawn (events_of seen ++ p.event ∷ [])
    → StandsUnbroken registers kept next drawn (events_of (seen ++ p ∷ []))
judge_goes_on {registers} {kept} {next} drawn seen p s none a d =
    subst (StandsUnbroken registers kept next drawn) (sym (events_push seen p))
    (record {
      unbroken =
          none_push registers last_rule (events_of seen) p.event s.unbroken (keeps (events_of seen) p.event none)
          (seven_bits _ (events_of seen) p.event none);
      bytes = s.bytes;
      notes_are = a;
      grid_is = d;
    })

-- if there is a finding
pub finding_stays : (kept : ℕ → ℕ) (profile : Profile) (o : Option Finding) (notes : Notes) (grid : Option Grid)
    (seen : List Placed) (p : Placed) → is_some o ≡ true → JudgesAfter kept profile o notes grid seen
    → JudgesAfter kept profile o notes grid (seen ++ p ∷ [])
finding_stays kept profile (Some f) notes grid seen p e j = judge_broken seen p f j
finding_stays kept profile None notes grid seen p e j = cc

-- if there is none
pub unbroken_of : (kept : ℕ → ℕ) (profile : Profile) (o : Option Finding) (notes : Notes) (grid : Option Grid)
    (seen : List Placed) → is_some o ≡ false → JudgesAfter kept profile o notes grid seen
    → StandsUnbroken (count_of profile) kept notes grid (events_of seen)
unbroken_of kept profile (Some f) notes grid seen e j = cc
unbroken_of kept profile None notes grid seen e j = j

pub judges_of : {kept : ℕ → ℕ} (profile : Profile) (o : Option Finding) {notes : Notes} {grid : Option Grid}
    (seen : List Placed) → is_some o ≡ false → StandsUnbroken (count_of profile) kept notes grid (events_of seen)
    → JudgesAfter kept profile o notes grid seen
judges_of profile (Some f) seen e s = cc
judges_of profile None seen e s = s
