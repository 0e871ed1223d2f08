-- On whole lists of events in which no rule is broken.
use Rattle.std.proofs.Common.{◌≡◌, ◌==◌, ◌&&◌, ◌*◌, ◌/◌, ◌%◌, ℕ, ◌<◌, Bool, true, Option, Some, None, List, length}
use Rattle.std.proofs.Common.{get_or, map, take, ◌∙◌, ap, refl}
use Rattle.std.specs.Prelude.{IfSome, IsSome, is_some, nat_lt}
use Rattle.std.specs.List.{list_all}
use Rattle.std.specs.Option.{option_and_then}
use Rattle.std.proofs.lemmas.Bool.{and_from, both_ways, lt-ltb, eq-eqb}
use Rattle.std.proofs.lemmas.List.Elements.{All-from_get_or}
use Rattle.std.proofs.lemmas.List.Sums.{list_all-from_AllPass}
use Rattle.sixel_grammar.specs.Document.{AreWhole}
use Rattle.sixel_grammar.specs.declared.command.Event.{Event}
use Rattle.sixel_model.specs.declared.colour.Parts.{Parts}
use Rattle.sixel_model.specs.Colours.{palette_at}
use Rattle.sixel_model.specs.Events.{Definition}
use Rattle.sixel_model.specs.Pictures.{is_side, picture_fault}
use Rattle.sixel_model.specs.Rules.{BreaksNone, StaysBlank, colour_by, colour_of, definition_of, is_covered}
use Rattle.sixel_model.specs.Rules.{gives_colour, last_rule, palette_left, picture_left, register_at}
use Rattle.sixel_model.specs.Grids.{IsFull, Grid, first_blank}
use Rattle.sixel_model.proofs.LeftLemmas.{left_at}
use Rattle.sixel_judge.specs.Judging.{IsDrawn, box_of}
use Rattle.sixel_model.proofs.RuleLemmas.{none_drawn}
use Rattle.sixel_judge.specs.Outside.{IsFirstIfAny}
use Rattle.sixel_judge.proofs.BlankLemmas.{first_blank_drawn, length_drawn, register_there}
use Rattle.sixel_judge.proofs.CoverLemmas.{all_covered}
use Rattle.sixel_judge.proofs.ColourLemmas.{definition_good, given, known_in_range}
use Rattle.sixel_judge.proofs.DrawLemmas.{falls_paints}
use Rattle.sixel_judge.proofs.ShownLemmas.{register_painting}
use Rattle.sixel_judge.proofs.UnbrokenLemmas.{defined_after}

-- ---- no pixel is blank

pub full_grid : {kept : ℕ → ℕ} (registers : ℕ) {s : Grid} {events : List Event} → AreWhole events
    → BreaksNone registers last_rule events → IsDrawn kept s events → IsFull s
full_grid registers {s} {events} whole none d = split (first_blank s) (first_blank_drawn d)
  where
    split : (o : Option (ℕ × ℕ)) → IsFirstIfAny (StaysBlank events (box_of s)) o → o ≡ None
    split None first = refl
    split (Some pixel) first =
        let point : StaysBlank events (box_of s) first.0 first.1 = (first.2).holds in
        absurd (both_ways (is_covered events first.0 first.1) point.blank
        (all_covered registers events (box_of s) first.0 first.1 whole (none_drawn registers events none) d.box
        point.inside))

-- ---- the picture has all its parts

each_passes : (p : ℕ → Bool) (xs : List ℕ) → ((i : ℕ) → i < length xs → p (get_or xs i 0) ≡ true) → list_all p xs ≡ true
each_passes p xs h = list_all-from_AllPass p xs (All-from_get_or (λ x. p x ≡ true) xs 0 h)

-- the register that painted a pixel last is one of the palette's, and has a definition
register_painted : (registers : ℕ) (events : List Event) (x y r : ℕ) → BreaksNone registers last_rule events
    → register_at events x y ≡ Some r → (r < registers) × IsSome (definition_of events r)
register_painted registers events x y r none is =
    let p = register_painting events x y r is in (
      known_in_range registers r p.at events (none_drawn registers events none) p.register,
      defined_after registers r p.at events p.event none p.here
          (falls_paints (take p.at events) p.event x y p.fell) p.register,
    )

-- the register of each pixel is one of the palette's, and has a definition
register_good : (registers : ℕ) {kept : ℕ → ℕ} {s : Grid} {events : List Event} (xs : List ℕ) (i : ℕ)
    → ((r : ℕ) → kept r ≡ r) → IsDrawn kept s events → BreaksNone registers last_rule events
    → map (λ r. Some r) xs ≡ s.cells → i < length xs
    → (get_or xs i 0 < registers) × IsSome (definition_of events (get_or xs i 0))
register_good registers {s} {events} xs i keeps d none e lt =
    register_painted registers events (i % s.width) (i / s.width) (get_or xs i 0) none
    (register_there xs i keeps d e lt)

coloured : (o : Option Definition) → IfSome o (λ d. gives_colour d ≡ true) → IsSome o
    → is_some (option_and_then colour_by o) ≡ true
coloured None h k = cc
coloured (Some d) h k = ap is_some (given (colour_by d) h).1

register_coloured : (registers : ℕ) (events : List Event) (r : ℕ) → BreaksNone registers last_rule events
    → r < registers → IsSome (definition_of events r) → is_some (palette_at (palette_left registers events) r) ≡ true
unfolding colour_of
register_coloured registers events r none lt has =
    ap is_some (left_at registers r events lt)
    ∙ coloured (definition_of events r) (definition_good registers r events (none_drawn registers events none)) has

no_fault : (registers : ℕ) (w h : ℕ) (palette : List (Option Parts)) (xs : List ℕ) → (is_side w && is_side h) ≡ true
    → (length xs == w * h) ≡ true → list_all (λ r. nat_lt r registers) xs ≡ true
    → list_all (λ r. is_some (palette_at palette r)) xs ≡ true → picture_fault registers w h palette xs ≡ None
no_fault registers w h palette xs sides long low coloured = rw (sides, long, low, coloured) refl

-- the parts of the picture that the events leave make a picture
pub picture_fits : (registers : ℕ) {kept : ℕ → ℕ} {s : Grid} {events : List Event} (xs : List ℕ)
    → ((r : ℕ) → kept r ≡ r) → IsDrawn kept s events → BreaksNone registers last_rule events
    → map (λ r. Some r) xs ≡ s.cells
    → picture_fault registers s.width s.height (palette_left registers events) xs ≡ None
picture_fits registers {s} {events} xs keeps d none e =
    no_fault _ s.width s.height (palette_left registers events) xs (and_from _ _ d.width d.height)
    (eq-eqb _ _ (length_drawn xs d e))
    (each_passes (λ r. nat_lt r registers) xs (λ i lt. lt-ltb _ _ (register_good registers xs i keeps d none e lt).0))
    (each_passes (λ r. is_some (palette_at (palette_left registers events) r)) xs (λ i lt.
    let good = register_good registers xs i keeps d none e lt in
    register_coloured registers events (get_or xs i 0) none good.0 good.1))

-- the picture that the events leave has the size of the grid
pub left_size : {kept : ℕ → ℕ} (registers : ℕ) {s : Grid} {events : List Event} → IsDrawn kept s events
    → ((picture_left registers events).width ≡ s.width) × ((picture_left registers events).height ≡ s.height)
unfolding picture_left
left_size registers d = rw d.box (refl, refl)
