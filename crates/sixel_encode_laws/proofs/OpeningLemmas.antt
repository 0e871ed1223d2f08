-- The start, the raster attributes and the definitions of a canonical list.
use Rattle.std.proofs.Common.{◌≡◌, ℕ, zero, suc, ◌+◌, ◌<◌, ◌≤◌, Bool, true, false, not, ◌||◌, Option, Some, None, List}
use Rattle.std.proofs.Common.{[], ◌∷◌, ◌++◌, map, length, refl, sym, ap, ◌∙◌, subst, arith}
use Rattle.std.specs.Prelude.{◌==◌, if◌then◌else◌, nat_lt, IfSome}
use Rattle.std.specs.Option.{option_map, option_or, option_flatten}
use Rattle.std.specs.List.{cons_option}
use Rattle.std.proofs.lemmas.Bool.{and_from, cond_both, eqb-true, le-leb, le-ltb, lt-leb, ltb-false}
use Rattle.std.proofs.lemmas.Bool.Decides.{nat_tests}
use Rattle.std.proofs.lemmas.Option.{slice_get_past}
use Rattle.sixel_grammar.specs.declared.command.Event.{Event}
use Rattle.sixel_grammar.specs.declared.command.Event.TheVariants.{Step}
use Rattle.sixel_grammar.specs.declared.command.Command.{Command}
use Rattle.sixel_grammar.specs.declared.command.Command.TheVariants.{Raster, Define}
use Rattle.sixel_model.specs.declared.colour.Parts.{Parts}
use Rattle.sixel_model.specs.declared.colour.Parts.TheVariants.{Rgb, Hls}
use Rattle.sixel_model.specs.Colours.{palette_at, IsColour}
use Rattle.sixel_model.specs.Pictures.{PictureValue, most_side}
use Rattle.sixel_model.specs.Positions.{latest, earliest, since, any_at, last_at, any_below, last_below}
use Rattle.sixel_model.specs.Events.{Definition, has_sides}
use Rattle.sixel_model.specs.Geometry.{band, column}
use Rattle.sixel_model.specs.Rules.{BreaksOutside, BreaksUncovered, definition_of, gives_colour, is_covered}
use Rattle.sixel_model.specs.Rules.{is_painted_in, raster_before, register_at, breaks_box_size, breaks_colour_value}
use Rattle.sixel_model.specs.Rules.{breaks_ratio, breaks_raster_first, breaks_raster_twice, breaks_redefined}
use Rattle.sixel_model.specs.Rules.{breaks_register, breaks_repeat_zero, breaks_undefined, breaks_unselected}
use Rattle.sixel_model.proofs.StepLemmas.{band_push, column_push, raster_push, definition_push, painted_in_push}
use Rattle.sixel_model.proofs.RuleLemmas.{Keeps}
use Rattle.sixel_encode.specs.Canon.{canon_start, define_command, define_commands}
use Rattle.sixel_model.proofs.CoverLemmas.{idle_covered, idle_register}
use Rattle.sixel_encode_laws.proofs.StandLemmas.{Ran, Stands, box_of, definition_by, quiet_keeps, ran_join, ran_none}
use Rattle.sixel_encode_laws.proofs.StandLemmas.{ran_one}
use Rattle.sixel_encode_laws.proofs.LengthLemmas.{defines_from, entry_colour}
use Rattle.sixel_encode.proofs.PartedLemmas.{Parted}

-- the definition of a colour gives a colour in range
in_range_by : (c : Parts) → IsColour c → gives_colour (definition_by c) ≡ true
in_range_by (Rgb r g b) h = and_from _ _ (and_from _ _ (le-leb r 100 h.0) (le-leb g 100 h.1)) (le-leb b 100 h.2)
in_range_by (Hls u l s) h = and_from _ _ (and_from _ _ (le-leb u 360 h.0) (le-leb l 100 h.1)) (le-leb s 100 h.2)

-- ---- before the data

-- nothing is painted yet, and the first n registers are defined
pub record Opens (p : PictureValue) (before : List Event) (n : ℕ) : Type 0 where
  pub at_line : band before ≡ 0
  pub at_margin : column 0 before ≡ 0
  pub has_box : raster_before before ≡ Some (box_of p)
  pub defines : (r : ℕ)
      → definition_of before r ≡ (if nat_lt r n then option_map definition_by (palette_at p.palette r) else None)
  pub none_painted : (r : ℕ) → is_painted_in before r ≡ false
  pub none_there : (x y : ℕ) → register_at before x y ≡ None
  pub none_covered : (x y : ℕ) → is_covered before x y ≡ false

-- events that keep the rules, and the state after them
abbrev pub Opened : ℕ → PictureValue → List Event → List Event → ℕ → Type 0
Opened registers p before events n = Ran registers (λ b. Opens p b n) before events

-- what is defined for register r, after the definition of register n
define_step : (r n : ℕ) (d o q : Option Definition) → (r ≡ n → q ≡ d) → o ≡ (if nat_lt r n then q else None)
    → option_or (if n == r then d else None) o ≡ (if nat_lt r (n + 1) then q else None)
define_step r n d o q h k =
    let more : nat_lt r (n + 1) ≡ ((n == r) || nat_lt r n) = grind (arith, nat_tests) in
    rw (k, more) (split (n == r) (nat_lt r n) d q (λ e. h (sym (eqb-true n r e))))
  where
    split : (a b : Bool) (d q : Option Definition) → (a ≡ true → q ≡ d)
        → option_or (if a then d else None) (if b then q else None) ≡ (if a || b then q else None)
    split true b (Some x) q h = sym (h refl)
    split true true None q h = refl
    split true false None q h = sym (h refl)
    split false b d q h = refl

-- one more definition
opened_define : {registers : ℕ} {p : PictureValue} {before : List Event} {n : ℕ} (s x y z : ℕ) → Opens p before n
    → n < registers → gives_colour (record { system = s; x = x; y = y; z = z }) ≡ true
    → option_map definition_by (palette_at p.palette n) ≡ Some (record { system = s; x = x; y = y; z = z })
    → Opened registers p before (Step (Define n s x y z) ∷ []) (n + 1)
unfolding breaks_register breaks_colour_value breaks_repeat_zero breaks_redefined
opened_define {registers} {p} {before} {n} s x y z o l colour h =
    let e = Step (Define n s x y z) in
    ran_one
    (quiet_keeps o.has_box refl refl refl (lt-leb registers n l) (rw colour refl) refl (rw (o.none_painted n) refl))
    refl
    (record {
      at_line = band_push before e ∙ rw o.at_line refl;
      at_margin = column_push 0 before e ∙ rw o.at_margin refl;
      has_box = raster_push before e ∙ rw o.has_box refl;
      defines = λ r. definition_push before e r
          ∙ define_step r n (Some (record { system = s; x = x; y = y; z = z })) (definition_of before r)
          (option_map definition_by (palette_at p.palette r)) (λ e. rw e h) (o.defines r);
      none_painted = λ r. painted_in_push before e r ∙ o.none_painted r;
      none_there = λ u v. idle_register before e u v refl ∙ o.none_there u v;
      none_covered = λ u v. idle_covered before e u v refl ∙ o.none_covered u v;
    })

opened_colour : {registers : ℕ} {p : PictureValue} {before : List Event} {n : ℕ} (c : Parts) → Opens p before n
    → n < registers → IsColour c → palette_at p.palette n ≡ Some c
    → Opened registers p before (Step (define_command n c) ∷ []) (n + 1)
opened_colour (Rgb r g b) o l h e =
    opened_define 2 r g b o l (in_range_by (Rgb r g b) h) (ap (option_map definition_by) e)
opened_colour (Hls u m s) o l h e =
    opened_define 1 u m s o l (in_range_by (Hls u m s) h) (ap (option_map definition_by) e)

none_or : (t : Bool) (o : Option Definition) → option_or (if t then None else None) o ≡ o
none_or true o = refl
none_or false o = refl

-- a register without a colour has no definition
opens_skip : {p : PictureValue} {before : List Event} {n : ℕ} → Opens p before n → palette_at p.palette n ≡ None
    → Opens p before (n + 1)
opens_skip {p} {before} {n} o h = record {
  at_line = o.at_line;
  at_margin = o.at_margin;
  has_box = o.has_box;
  defines = λ r. sym (none_or (n == r) (definition_of before r))
      ∙ define_step r n None (definition_of before r) (option_map definition_by (palette_at p.palette r))
      (λ e. rw (e, h) refl) (o.defines r);
  none_painted = o.none_painted;
  none_there = o.none_there;
  none_covered = o.none_covered;
}

opened_entry : {registers : ℕ} {p : PictureValue} {before : List Event} {a n : ℕ} (o : Option Parts)
    (rest : List Command) → Opens p before a → a < registers → IfSome o IsColour → palette_at p.palette a ≡ o
    → ((b : List Event) → Opens p b (a + 1) → Opened registers p b (map Step rest) n)
    → Opened registers p before (map Step (cons_option (option_map (define_command a) o) rest)) n
opened_entry {before = before} None rest o l c e k = k before (opens_skip o e)
opened_entry {before = before} {a = a} (Some colour) rest o l c e k =
    let one = opened_colour colour o l c e in ran_join one (k (before ++ Step (define_command a colour) ∷ []) one.after)

opened_from : (n : ℕ) {registers : ℕ} {p : PictureValue} {before : List Event} {a : ℕ} → Parted registers p
    → Opens p before a → a + n ≤ registers → Opened registers p before (map Step (defines_from p.palette a n)) (a + n)
opened_from zero {p = p} {before} {a} h o l = ran_none (subst (Opens p before) (let e : a ≡ a + 0 = omega arith in e) o)
opened_from (suc n) {registers} {p} {a} h o l =
    let e : a + 1 + n ≡ a + suc n = omega arith in
    opened_entry (palette_at p.palette a) (defines_from p.palette (a + 1) n) o (omega arith)
    (entry_colour p.palette a h.in_range) refl
    (λ b k. subst (Opened registers p b (map Step (defines_from p.palette (a + 1) n))) e
    (opened_from n h k (omega arith)))

-- all definitions
pub defines_opened : {registers : ℕ} {p : PictureValue} {before : List Event} → Parted registers p → Opens p before 0
    → Opened registers p before (map Step (define_commands p.palette)) (length p.palette)
unfolding define_commands
defines_opened {registers} {p} {before} h o =
    let entries : length p.palette ≡ registers = h.entries in
    subst (Opened registers p before (map Step (defines_from p.palette 0 (length p.palette))))
    (let e : 0 + length p.palette ≡ length p.palette = omega arith in e)
    (opened_from (length p.palette) h o (omega arith))

-- after the definitions of all registers, the data may begin
pub opens_stands : (p : PictureValue) (before : List Event) → Opens p before (length p.palette)
    → Stands p before 0 (λ x y. false)
opens_stands p before o = record {
  at_line = o.at_line;
  has_box = o.has_box;
  defines = λ r. o.defines r
      ∙ cond_both (nat_lt r (length p.palette)) (option_map definition_by (palette_at p.palette r)) None
      (λ d. d ≡ option_map definition_by (palette_at p.palette r)) (λ t. refl)
      (λ t. sym (ap (λ c. option_map definition_by (option_flatten c))
      (slice_get_past p.palette r (ltb-false r (length p.palette) t))));
  paints = o.none_there;
  covers_done = o.none_covered;
}

-- ---- the start and the raster attributes

abbrev pub raster : PictureValue → Event
raster p = Step (Raster 1 1 p.width p.height)

pub start_keeps : (registers : ℕ) → Keeps registers [] canon_start
unfolding breaks_raster_first breaks_raster_twice breaks_ratio breaks_box_size breaks_register breaks_colour_value
    breaks_repeat_zero breaks_unselected breaks_undefined breaks_redefined BreaksOutside BreaksUncovered raster_before
    earliest
start_keeps registers = record {
  raster_first = refl;
  raster_twice = refl;
  ratio = refl;
  box_size = refl;
  register = refl;
  colour_value = refl;
  repeat_zero = refl;
  unselected = refl;
  undefined = refl;
  redefined = refl;
  outside = λ h. h;
  uncovered = λ h. cc h.0;
}

has_sides_of : {registers : ℕ} {p : PictureValue} → Parted registers p → has_sides (box_of p) ≡ true
has_sides_of {p} h =
    and_from _ _ (and_from _ _ (le-leb 1 p.width h.some_width) (le-leb p.width most_side h.most_width))
    (and_from _ _ (le-leb 1 p.height h.some_height) (le-leb p.height most_side h.most_height))

pub raster_keeps : {registers : ℕ} {p : PictureValue} → Parted registers p
    → Keeps registers (canon_start ∷ []) (raster p)
unfolding breaks_raster_first breaks_raster_twice breaks_ratio breaks_box_size breaks_register breaks_colour_value
    breaks_repeat_zero breaks_unselected breaks_undefined breaks_redefined BreaksOutside BreaksUncovered raster_before
    earliest
raster_keeps parts = record {
  raster_first = refl;
  raster_twice = refl;
  ratio = refl;
  box_size = ap not (has_sides_of parts);
  register = refl;
  colour_value = refl;
  repeat_zero = refl;
  unselected = refl;
  undefined = refl;
  redefined = refl;
  outside = λ h. h;
  uncovered = λ h. cc h.0;
}

pub raster_opens : (p : PictureValue) → Opens p (canon_start ∷ raster p ∷ []) 0
unfolding band column since raster_before earliest definition_of latest is_painted_in any_at any_below register_at
    last_at last_below is_covered
raster_opens p = record {
  at_line = refl;
  at_margin = refl;
  has_box = refl;
  defines = λ r. (let n : nat_lt r 0 ≡ false = le-ltb r 0 (omega arith) in rw n refl);
  none_painted = λ r. painted_in_push (canon_start ∷ []) (raster p) r ∙ painted_in_push [] canon_start r;
  none_there = λ x y. idle_register (canon_start ∷ []) (raster p) x y refl ∙ idle_register [] canon_start x y refl;
  none_covered = λ x y. idle_covered (canon_start ∷ []) (raster p) x y refl ∙ idle_covered [] canon_start x y refl;
}
