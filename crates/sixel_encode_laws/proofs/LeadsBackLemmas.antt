-- The canonical list of a picture breaks no rule, and leaves the picture.
use Rattle.std.proofs.Common.{◌≡◌, ℕ, ◌+◌, ◌-◌, ◌*◌, ◌/◌, ◌%◌, ◌<◌, Bool, true, false, Option, Some, None, List, []}
use Rattle.std.proofs.Common.{◌∷◌, ◌++◌, map, length, get_or, refl, sym, ap, ◌∙◌, arith, mul_comm, div-lt_iff_lt-mul}
use Rattle.std.proofs.Common.{div-add-mod'}
use Rattle.std.specs.Prelude.{nat_lt, unwrap_or}
use Rattle.std.specs.Option.{option_map, option_and_then, option_flatten}
use Rattle.std.specs.List.{join_by}
use Rattle.std.proofs.lemmas.Bool.{lt-ltb, ltb-true, and_from, and_parts}
use Rattle.std.proofs.lemmas.Option.{slice_get-get_or}
use Rattle.std.proofs.lemmas.List.{map-append}
use Rattle.std.proofs.lemmas.List.FromFn.{fill_by_all}
use Rattle.sixel_grammar.specs.declared.command.Event.{Event}
use Rattle.sixel_grammar.specs.declared.command.Event.TheVariants.{Step, Finish}
use Rattle.sixel_grammar.specs.declared.command.Command.TheVariants.{NextLine}
use Rattle.sixel_model.specs.declared.colour.Parts.{Parts}
use Rattle.sixel_model.specs.declared.colour.Parts.TheVariants.{Rgb, Hls}
use Rattle.sixel_model.specs.Colours.{palette_at}
use Rattle.sixel_model.specs.Pictures.{PictureValue}
use Rattle.sixel_model.specs.Geometry.{falls}
use Rattle.sixel_model.specs.Grids.{row_by_row}
use Rattle.sixel_model.specs.Events.{is_in_box}
use Rattle.sixel_model.specs.Rules.{BreaksOutside, BreaksUncovered, colour_by, colour_of, is_covered, palette_left}
use Rattle.sixel_model.specs.Rules.{picture_left, raster_before, register_at, breaks_box_size, breaks_colour_value}
use Rattle.sixel_model.specs.Rules.{breaks_ratio, breaks_raster_first, breaks_raster_twice, breaks_redefined}
use Rattle.sixel_model.specs.Rules.{breaks_register, breaks_repeat_zero, breaks_undefined, breaks_unselected}
use Rattle.sixel_model.proofs.RuleLemmas.{Keeps}
use Rattle.sixel_model.proofs.GridLemmas.{rows_from_index}
use Rattle.sixel_encode.specs.Canon.{below, bands, band_commands, define_commands, picture_commands, canon_commands}
use Rattle.sixel_encode.specs.Canon.{canon_start, canon}
use Rattle.sixel_encode_laws.specs.Laws.{ListsBreakNoRule, ListsLeaveTheirPicture}
use Rattle.sixel_model.proofs.CoverLemmas.{idle_falls}
use Rattle.sixel_encode_laws.proofs.KeepLemmas.{KeepEach, keep_one, keep_append, keep_none}
use Rattle.sixel_encode_laws.proofs.StandLemmas.{Passed, Stands, box_of, definition_by, ran_as, ran_join, stands_quiet}
use Rattle.sixel_encode_laws.proofs.BandLemmas.{bands_passed, is_above}
use Rattle.sixel_encode_laws.proofs.OpeningLemmas.{Opened, defines_opened, opens_stands, raster, start_keeps}
use Rattle.sixel_encode_laws.proofs.OpeningLemmas.{raster_keeps}
use Rattle.sixel_encode_laws.proofs.OpeningLemmas.{raster_opens}
use Rattle.sixel_encode.proofs.PartedLemmas.{Parted, parted}

-- the start, then the raster attributes
abbrev prefix : PictureValue → List Event
prefix p = canon_start ∷ raster p ∷ []

-- the definitions, then the bands
abbrev middle : PictureValue → List Event
middle p = map Step (define_commands p.palette ++ join_by (band_commands p) (NextLine ∷ []) (below (bands p)))

middle_passed : {registers : ℕ} {p : PictureValue} → Parted registers p
    → Passed registers p (prefix p) (middle p) (bands p - 1) (is_above p (bands p))
middle_passed {registers} {p} h =
    let opened : Opened registers p (prefix p) (map Step (define_commands p.palette)) (length p.palette) =
    defines_opened h (raster_opens p) in
    let stands = ran_as opened (opens_stands p) in
    rw (map-append Step (define_commands p.palette) (join_by (band_commands p) (NextLine ∷ []) (below (bands p))))
    (ran_join stands (bands_passed (bands p) h stands.after (opened.after).at_margin))

-- each pixel of the box is in one of the bands
box_above : (p : PictureValue) (x y : ℕ) → is_in_box (box_of p) x y ≡ true → is_above p (bands p) x y ≡ true
box_above p x y h =
    let parts = and_parts (nat_lt x p.width) (nat_lt y p.height) h in
    let l : y < p.height = ltb-true y p.height parts.1 in
    and_from _ _ parts.0 (and_from _ _ parts.1 (lt-ltb (y / 6) (bands p) (omega arith)))

finish_keeps : (registers : ℕ) {p : PictureValue} {before : List Event} {band : ℕ}
    → Stands p before band (is_above p (bands p)) → Keeps registers before (Finish false)
unfolding breaks_raster_first breaks_raster_twice breaks_ratio breaks_box_size breaks_register breaks_colour_value
    breaks_repeat_zero breaks_unselected breaks_undefined breaks_redefined BreaksOutside BreaksUncovered
finish_keeps registers {p} {before} s = record {
  raster_first = rw s.has_box refl;
  raster_twice = rw s.has_box refl;
  ratio = refl;
  box_size = refl;
  register = refl;
  colour_value = refl;
  repeat_zero = refl;
  unselected = refl;
  undefined = refl;
  redefined = refl;
  outside = λ h. (let k = rw s.has_box at h in let f : falls before (Finish false) k.0 k.1
      ≡ false = idle_falls before (Finish false) k.0 k.1 refl in cc (f, (k.2).painted));
  uncovered = λ h. (let k = rw s.has_box at h.1 in
      let t : is_covered before k.0 k.1 ≡ true = s.covers_done k.0 k.1
      ∙ box_above p k.0 k.1 (k.2).inside in cc (t, (k.2).blank));
}

-- the canonical list of a picture breaks no rule
pub lists_break_no_rule : (registers : ℕ) → ListsBreakNoRule registers
unfolding canon canon_commands picture_commands KeepEach
lists_break_no_rule registers p picture =
    let h : Parted registers p = parted picture in
    let m : Passed registers p (prefix p) (middle p) (bands p - 1) (is_above p (bands p)) = middle_passed h in
    keep_none registers (canon_start ∷ raster p ∷ (middle p ++ Finish false ∷ [])) (
      start_keeps registers,
      refl,
      (
        raster_keeps h,
        refl,
        keep_append registers (prefix p) (middle p) (Finish false ∷ []) m.keeps
            (keep_one registers (prefix p ++ middle p) (Finish false) (finish_keeps registers m.after) refl),
      ),
    )

-- ---- the picture that is left

-- the definition of a colour gives back the colour
colour_back : (o : Option Parts) → option_and_then colour_by (option_map definition_by o) ≡ o
colour_back None = refl
colour_back (Some (Rgb r g b)) = refl
colour_back (Some (Hls h l s)) = refl

palette_entry : (xs : List (Option Parts)) (i : ℕ) → i < length xs → get_or xs i None ≡ palette_at xs i
palette_entry xs i l = sym (ap option_flatten (slice_get-get_or xs i None l))

left_palette : {p : PictureValue} {events : List Event} {band : ℕ} {done : ℕ → ℕ → Bool} → Stands p events band done
    → p.palette ≡ palette_left (length p.palette) events
unfolding palette_left colour_of
left_palette {p} {events} s =
    fill_by_all (λ r. colour_of events r) p.palette (length p.palette) None refl
    (λ r l. palette_entry p.palette r l
    ∙ sym (ap (option_and_then colour_by) (s.defines r) ∙ colour_back (palette_at p.palette r)))

left_pixel : {p : PictureValue} {events : List Event} {band : ℕ} (i : ℕ) → Stands p events band (is_above p (bands p))
    → i < p.width * p.height → 0 < p.width
    → get_or p.registers i 0 ≡ unwrap_or (register_at events (i % p.width) (i / p.width)) 0
left_pixel {p} i s l w =
    let x : i % p.width < p.width = omega arith in
    let m : i < p.height * p.width = rw (mul_comm p.height p.width) l in
    let y : i / p.width < p.height = (div-lt_iff_lt-mul w).1 m in
    let there : is_above p (bands p) (i % p.width) (i / p.width)
    ≡ true = box_above p _ _ (and_from _ _ (lt-ltb (i % p.width) p.width x) (lt-ltb (i / p.width) p.height y)) in
    let e : i / p.width * p.width + i % p.width ≡ i = div-add-mod' i p.width in
    rw (s.paints (i % p.width) (i / p.width), there, e) refl

left_pixels : {registers : ℕ} {p : PictureValue} {events : List Event} {band : ℕ} → Parted registers p
    → Stands p events band (is_above p (bands p))
    → p.registers ≡ row_by_row p.width p.height (λ x y. unwrap_or (register_at events x y) 0)
left_pixels {p} {events} h s =
    rows_from_index p.width p.height (λ x y. unwrap_or (register_at events x y) 0) p.registers 0 h.count
    (λ i l. left_pixel i s l (omega (arith, h.some_width)))

-- a list after which all pixels are painted leaves the picture
stands_left : {registers : ℕ} {p : PictureValue} {events : List Event} {band : ℕ} → Parted registers p
    → Stands p events band (is_above p (bands p)) → picture_left registers events ≡ p
unfolding picture_left
stands_left {registers} {p} {events} h s =
    let box : unwrap_or (raster_before events) (record { pan = 1; pad = 1; width = 0; height = 0 })
    ≡ box_of p = rw s.has_box refl in
    let palette : palette_left registers events ≡ p.palette = rw (← h.entries) (sym (left_palette s)) in
    let pixels : row_by_row p.width p.height (λ x y. unwrap_or (register_at events x y) 0)
    ≡ p.registers = sym (left_pixels h s) in
    rw (box, palette, pixels) refl

-- the picture that the canonical list of a picture leaves is the same
pub lists_leave_their_picture : (registers : ℕ) → ListsLeaveTheirPicture registers
unfolding canon canon_commands picture_commands
lists_leave_their_picture registers p picture =
    let h : Parted registers p = parted picture in
    let m : Passed registers p (prefix p) (middle p) (bands p - 1) (is_above p (bands p)) = middle_passed h in
    stands_left h
    (stands_quiet (Finish false) (bands p - 1) m.after refl refl (λ q. refl) (omega arith))
