-- The height of a picture of foot's without raster attributes.
use Rattle.std.proofs.Common.{◌≡◌, ℕ, ◌+◌, ◌*◌, Bool, true, false, cond}
use Rattle.std.proofs.Common.{List}
use Rattle.std.proofs.Common.{[], ◌∷◌, ◌++◌, refl, sym, ap, subst, ◌∙◌, append_assoc, append-nil, arith}
use Rattle.std.specs.Prelude.{is_some, nat_le, if◌then◌else◌}
use Rattle.std.specs.List.{list_any}
use Rattle.std.proofs.lemmas.Bool.{le-leb, or_parts}
use Rattle.sixel_grammar.specs.declared.command.Command.TheVariants.{Raster}
use Rattle.sixel_grammar.specs.declared.command.Command.TheVariants.{NextLine}
use Rattle.sixel_grammar.specs.declared.command.Event.{Event}
use Rattle.sixel_grammar.specs.declared.command.Event.TheVariants.{Step}
use Rattle.sixel_model.specs.Events.{is_next_line, raster_of}
use Rattle.sixel_model.specs.Geometry.{band}
use Rattle.sixel_model.proofs.StepLemmas.{band_push}
use Rattle.sixel_foot.specs.Foot.{Size, foot_grows, foot_size}
use Rattle.sixel_emulator.specs.Words.{after_each, after_first}
use Rattle.sixel_foot.proofs.FootLemmas.{size_push}

no_box_step : (s : Size) (before : List Event) (e : Event) → is_some (raster_of e) ≡ false
    → s.height ≡ 6 * band before + 6
    → (foot_grows s before e).height ≡ 6 * (band before + cond (is_next_line e) 1 0) + 6
no_box_step s before (Step (Raster pan pad width height)) none h = cc
no_box_step s before (Step NextLine) none h =
    let test : nat_le s.height (6 * band before + 6) ≡ true =
    le-leb s.height (6 * band before + 6) (omega (arith, h)) in
    ap (λ (b : Bool). (if b then record s { height = 6 * band before + 12 } else s).height) test ∙ omega arith
no_box_step s before _ none h = h ∙ omega arith

-- `pre` are the events before
pub bands_are_the_height : (pre events : List Event) → (foot_size pre).height ≡ 6 * band pre + 6
    → list_any (λ e. is_some (raster_of e)) events ≡ false
    → (foot_size (pre ++ events)).height ≡ 6 * band (pre ++ events) + 6
bands_are_the_height pre [] h none =
    subst (λ (es : List Event). (foot_size es).height ≡ 6 * band es + 6) (sym (append-nil pre)) h
bands_are_the_height pre (e ∷ es) h none =
    let parts : (is_some (raster_of e) ≡ false) × (list_any (λ d. is_some (raster_of d)) es ≡ false) =
    or_parts (is_some (raster_of e)) (list_any (λ d. is_some (raster_of d)) es) none in
    let here : (foot_size (pre ++ e ∷ [])).height ≡ 6 * band (pre ++ e ∷ []) + 6 =
    ap (λ (t : Size). t.height) (size_push pre e) ∙ no_box_step (foot_size pre) pre e parts.0 h
    ∙ ap (λ (n : ℕ). 6 * n + 6) (sym (band_push pre e)) in
    subst (λ (ds : List Event). (foot_size ds).height ≡ 6 * band ds + 6) (append_assoc pre (e ∷ []) es)
    (bands_are_the_height (pre ++ e ∷ []) es here parts.1)

pub first_height : (foot_size []).height ≡ 6 * band [] + 6
unfolding after_each after_first band
first_height = refl
