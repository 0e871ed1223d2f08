-- Sixels past all that mlterm keeps: they leave its buffer as it is.
use Rattle.std.proofs.Common.{◌≡◌, ◌+◌, ◌-◌, ℕ, true, List, [], ◌∷◌, ◌++◌, refl, sym, ap, ap₂, ◌∙◌, append-nil, arith}
use Rattle.std.proofs.lemmas.Bool.Decides.{nat_tests}
use Rattle.sixel_grammar.specs.declared.command.Command.TheVariants.{Sixel}
use Rattle.sixel_grammar.specs.declared.command.Event.{Event}
use Rattle.sixel_grammar.specs.declared.command.Event.TheVariants.{Step}
use Rattle.sixel_model.specs.Geometry.{band, column}
use Rattle.sixel_model.proofs.StepLemmas.{column_push}
use Rattle.sixel_terminal.specs.Stretches.{sixels_of}
use Rattle.sixel_emulator.proofs.PlainLemmas.{band_over, first_before}
use Rattle.sixel_emulator.specs.declared.place.Place.{Place}
use Rattle.sixel_emulator.specs.Places.{IsPlaceAfter}
use Rattle.sixel_mlterm.specs.declared.mlterm.MlTerm.{MlTerm}
use Rattle.sixel_mlterm.specs.MlTerm.{is_past_all, mlterm_buffer, rows_to}
use Rattle.sixel_mlterm.specs.MlTermSeen.{HasSeenMlTerm}
use Rattle.sixel_mlterm.proofs.MlTermLemmas.{buffer_push, colours_over, past_capped, selected_over}

-- what is past all is so further right
past_further : (c l : ℕ) → is_past_all (c + 1) (rows_to l) ≡ true → is_past_all (c + 1 + 1) (rows_to l) ≡ true
past_further c l past = grind (arith, nat_tests)

buffer_past : (before : List Event) (bytes : List ℕ)
    → is_past_all (column 0 before + 1) (rows_to (band before)) ≡ true
    → mlterm_buffer (before ++ sixels_of bytes) ≡ mlterm_buffer before
buffer_past before [] past = ap mlterm_buffer (append-nil before)
buffer_past before (b ∷ bs) past =
    let e : Event = Step (Sixel (b - 63)) in
    let new : mlterm_buffer (before ++ e ∷ []) ≡ mlterm_buffer before = buffer_push before e ∙ rw past refl in
    let across : column 0 (before ++ e ∷ []) ≡ column 0 before + 1 = column_push 0 before e in
    let down : band (before ++ e ∷ []) ≡ band before = band_over before (b ∷ []) in
    let still : is_past_all (column 0 (before ++ e ∷ []) + 1) (rows_to (band (before ++ e ∷ []))) ≡ true =
    rw (across, down) (past_further (column 0 before) (band before) past) in
    ap mlterm_buffer (first_before before b bs) ∙ (buffer_past (before ++ e ∷ []) bs still ∙ new)

pub past_seen : {m : MlTerm} (p : Place) (before : List Event) (bytes : List ℕ)
    → is_past_all (m.place.column + 1) (rows_to m.place.band) ≡ true → HasSeenMlTerm m before
    → IsPlaceAfter 0 p (before ++ sixels_of bytes)
    → HasSeenMlTerm (record m { place = p }) (before ++ sixels_of bytes)
past_seen {m} p before bytes past s moved =
    let here : is_past_all (column 0 before + 1) (rows_to (band before)) ≡ true =
    sym (past_capped (column 0 before) 1 (band before))
    ∙ (sym (ap₂ (λ (c l : ℕ). is_past_all (c + 1) (rows_to l)) s.place_is.column_is s.place_is.band_is) ∙ past) in
    record {
      place_is = moved;
      selected_is = s.selected_is ∙ sym (selected_over before bytes);
      registers = s.registers;
      said_is = λ r lt. s.said_is r lt ∙ sym (colours_over before bytes r);
      buffer_is = s.buffer_is ∙ sym (buffer_past before bytes here);
    }
