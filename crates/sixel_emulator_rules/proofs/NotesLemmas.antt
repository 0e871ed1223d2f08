-- The notes after one more event.
use Rattle.std.proofs.Common.{◌≡◌, ◌<◌, ◌≤◌, ◌+◌, ℕ, Bool, true, false, cond}
use Rattle.std.proofs.Common.{min, Option, Some, None, List, [], ◌∷◌, ◌++◌, get_or, replicate, refl, sym, ap}
use Rattle.std.proofs.Common.{◌∙◌, arith}
use Rattle.std.specs.Prelude.{nat_lt, if◌then◌else◌}
use Rattle.std.specs.Option.{option_map, option_map_or, option_or}
use Rattle.std.proofs.lemmas.List.{get_or-replicate}
use Rattle.sixel_grammar.specs.declared.command.Event.{Event}
use Rattle.sixel_model.specs.Events.{Attributes, columns_of, is_next_line, is_return, named_by}
use Rattle.sixel_model.specs.Events.{raster_of, select_of}
use Rattle.sixel_model.specs.Geometry.{band, column}
use Rattle.sixel_model.specs.Positions.{earliest, last_at, last_below, latest, since}
use Rattle.sixel_model.specs.Rules.{colour_of, definition_of, raster_before}
use Rattle.sixel_model.proofs.PositionLemmas.{latest_push}
use Rattle.sixel_model.proofs.StepLemmas.{band_push, column_push, raster_push}
use Rattle.sixel_emulator.specs.Places.{most}
use Rattle.sixel_emulator_rules.specs.Notes.{AreNarrow, IsNotesAfter, attributes, is_droppable, next_band, next_column}
use Rattle.sixel_emulator_rules.specs.Notes.{next_picked, next_shades, parts_of, shade_at}
use Rattle.sixel_emulator_rules.specs.Stale.{colour_at_select}
use Rattle.sixel_emulator_rules.specs.declared.notes.Declared.{Declared}
use Rattle.sixel_emulator_rules.specs.declared.notes.Notes.{Notes}
use Rattle.sixel_emulator_rules.proofs.StaleLemmas.{at_high, at_select_anew, at_select_still, length_shades}
use Rattle.sixel_emulator_rules.proofs.StaleLemmas.{shades_push}

-- ---- before any event

none_at : (r : ℕ) → r < 256 → option_map parts_of (shade_at (replicate 256 None) r) ≡ None
none_at r lt = by (nat_lt r 256)
  where
    by : (b : Bool) → option_map parts_of (if b then get_or (replicate 256 None) r None else None) ≡ None
    by true = ap (option_map parts_of) (get_or-replicate 256 r None None lt)
    by false = refl

pub notes_start : IsNotesAfter (record {
  column = 0;
  band = 0;
  declared = None;
  droppable = false;
  selected = None;
  named = None;
  shades = replicate 256 None;
  picked = None;
}) []
unfolding column band since latest definition_of colour_of raster_before earliest colour_at_select last_at last_below
notes_start = record {
  column_is = refl;
  band_is = refl;
  declared_is = refl;
  narrow = tt;
  droppable_is = refl;
  selected_is = refl;
  named_is = refl;
  entries = refl;
  shades_are = λ r lt. none_at r lt;
  picked_is = λ r lt is. refl;
  picked_none = λ r high is. refl;
}

-- ---- numbers that stop

pub stopped : (b : Bool) (c w : ℕ) → cond b 0 (min (min c most + w) most) ≡ min (cond b 0 (c + w)) most
stopped true c w = omega arith
stopped false c w = omega arith

stopped_band : (b : Bool) (n : ℕ) → cond b (min (min n most + 1) most) (min n most) ≡ min (n + cond b 1 0) most
stopped_band true n = omega arith
stopped_band false n = omega arith

-- ---- the colour at the last select

picked_push : {n : Notes} {before : List Event} (e : Event) (o : Option ℕ) (r : ℕ) → select_of e ≡ o
    → IsNotesAfter n before → r < 256 → option_or o n.selected ≡ Some r
    → option_map parts_of (option_map_or (shade_at n.shades) o n.picked) ≡ colour_at_select (before ++ e ∷ []) r
picked_push {n} {before} e (Some q) r is s lt named =
    let same : q ≡ r = cc in
    ap (λ (k : ℕ). option_map parts_of (shade_at n.shades k)) same
    ∙ (s.shades_are r lt ∙ sym (at_select_anew before e r q is))
picked_push {n} {before} e None r is s lt named = s.picked_is r lt named ∙ sym (at_select_still before e r is)

-- a register above 255 has no stored colour
not_picked : {n : Notes} {before : List Event} (o : Option ℕ) (r : ℕ) → IsNotesAfter n before → 256 ≤ r
    → option_or o n.selected ≡ Some r → option_map_or (shade_at n.shades) o n.picked ≡ None
not_picked {n} (Some q) r s high named =
    let same : q ≡ r = cc in
    ap (shade_at n.shades) same ∙ at_high n.shades r high
not_picked None r s high named = s.picked_none r high named

-- ---- all notes

pub notes_push : (n : Notes) (d : Option Declared) (before : List Event) (e : Event) → IsNotesAfter n before
    → option_map attributes d ≡ option_or (option_map attributes n.declared) (raster_of e)
    → (AreNarrow n.declared → AreNarrow d)
    → IsNotesAfter (record {
      column = next_column n e;
      band = next_band n e;
      declared = d;
      droppable = is_droppable e;
      selected = option_or (select_of e) n.selected;
      named = option_or (named_by e) n.named;
      shades = next_shades n.shades e;
      picked = next_picked n e;
    }) (before ++ e ∷ [])
notes_push n d before e s declared narrow = record {
  column_is =
      ap (λ (m : ℕ). cond (is_return e) 0 (min (m + columns_of 0 e) most)) s.column_is
      ∙ stopped (is_return e) (column 0 before) (columns_of 0 e)
      ∙ ap (λ (m : ℕ). min m most) (sym (column_push 0 before e));
  band_is =
      ap (λ (m : ℕ). cond (is_next_line e) (min (m + 1) most) m) s.band_is ∙ stopped_band (is_next_line e) (band before)
      ∙ ap (λ (m : ℕ). min m most) (sym (band_push before e));
  declared_is =
      declared ∙ ap (λ (o : Option Attributes). option_or o (raster_of e)) s.declared_is ∙ sym (raster_push before e);
  narrow = narrow s.narrow;
  droppable_is = ap (λ (o : Option Event). option_map_or is_droppable o false)
      (sym (latest_push (λ (c : Event). Some c) before e));
  selected_is = ap (option_or (select_of e)) s.selected_is ∙ sym (latest_push select_of before e);
  named_is = ap (option_or (named_by e)) s.named_is ∙ sym (latest_push named_by before e);
  entries = length_shades n.shades e ∙ s.entries;
  shades_are = λ r lt. shades_push n.shades before e r s.entries lt (s.shades_are r lt);
  picked_is = λ r lt is. picked_push e (select_of e) r refl s lt is;
  picked_none = λ r high is. not_picked (select_of e) r s high is;
}
