use Rattle.std.proofs.Common.{◌≡◌, ℕ, Bool, true, Option, Some, None, List, length, map, sym, ap, ◌∙◌}
use Rattle.sixel_model.proofs.LeftLemmas.{length_left}
use Rattle.sixel_grammar.specs.declared.command.Event.{Event}
use Rattle.sixel_model.specs.declared.colour.Parts.{Parts}
use Rattle.sixel_model.specs.Profiles.{count_of}
use Rattle.sixel_model.specs.Pictures.{PictureValue, picture_fault, picture_of_parts}
use Rattle.sixel_model.specs.Rules.{palette_left, picture_left}
use Rattle.sixel_model.specs.Grids.{Grid}
use Rattle.sixel_plane.specs.Covers.{kept_by}
use Rattle.sixel_judge.specs.Judging.{IsDrawn}
use Rattle.sixel_judge.proofs.BlankLemmas.{picture_drawn}
use Rattle.sixel_judge.proofs.WholeLemmas.{picture_fits}
use Rattle.sixel_judge.proofs.pixels.picture_of.Goals as goal

all_kept : (keeps : Bool) → keeps ≡ true → (r : ℕ) → kept_by keeps r ≡ r
all_kept keeps is r = ap (λ (b : Bool). kept_by b r) is

-- parts that fit have no fault
fits_parts : (registers w h : ℕ) (palette left : List (Option Parts)) (xs : List ℕ) (s : Grid)
    → w ≡ s.width → h ≡ s.height → palette ≡ left → length left ≡ registers
    → picture_fault registers s.width s.height left xs ≡ None → picture_fault (length palette) w h palette xs ≡ None
fits_parts registers w h palette left xs s width height colours long fits = rw (width, height, colours, long) fits

-- a picture with the parts that the events leave is the picture that they leave
left_of : {kept : ℕ → ℕ} (registers : ℕ) (p : PictureValue) (w h : ℕ) (palette : List (Option Parts)) (xs : List ℕ)
    {s : Grid} {events : List Event} → ((r : ℕ) → kept r ≡ r) → p ≡ picture_of_parts w h palette xs → w ≡ s.width
    → h ≡ s.height → palette ≡ palette_left registers events → IsDrawn kept s events → map Some xs ≡ s.cells
    → p ≡ picture_left registers events
left_of registers p w h palette xs keeps is width height colours drawn cells =
    rw (width, height, colours) at is ∙ sym (picture_drawn _ xs keeps drawn cells)

pub of_parts-requires : goal.of_parts-requires
of_parts-requires g c =
    let registers = count_of c.args.profile in
    let events = c.requires.stands.0 in
    let u = c.requires.stands.1 in
    let s = g.P.Cover.grid c.args.plane in
    fits_parts registers _ _ _ (palette_left registers events) _ s c.width-width.ensures c.height-height.ensures
    (c.left_palette-palette.ensures events u.notes_are u.unbroken) (length_left registers events)
    (picture_fits registers c.into_registers.result.items (all_kept _ g.met.P.Plane.keeps_registers) u.grid_is
    u.unbroken c.into_registers.ensures)

pub returns : goal.returns
returns g c = λ events u. left_of (count_of c.args.profile) _ _ _ _ _
    (all_kept _ g.met.P.Plane.keeps_registers) c.of_parts.ensures c.width-width.ensures
    c.height-height.ensures (c.left_palette-palette.ensures events u.notes_are u.unbroken) u.grid_is
    c.into_registers.ensures
