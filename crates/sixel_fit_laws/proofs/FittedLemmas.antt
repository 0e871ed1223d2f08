-- What a fitted picture is.
use Rattle.std.proofs.Common.{◌≡◌, ◌≢◌, ◌∙◌, ◌+◌, ◌-◌, ◌*◌, ◌<◌, ◌≤◌, ◌++◌, ℕ, Bool, true, false, List}
use Rattle.std.proofs.Common.{Option, Some, None, ap, arith, get_or, inl, inr, is_none, length, refl, replicate}
use Rattle.std.proofs.Common.{subst, sym}
use Rattle.std.specs.Prelude.{◌==◌, ◌&&◌, IfSome, if◌then◌else◌, nat_lt, position, slice_index, slice_set}
use Rattle.std.specs.Option.{option_or}
use Rattle.std.proofs.Math.Nat.{mul-add, mul-le-mul_left, mul_comm}
use Rattle.std.proofs.lemmas.Bool.{and_parts, cases_eq, cases_lt, eqb-true, ltb-false}
use Rattle.std.proofs.lemmas.List.{get_or-append_right, get_or-replicate, get_or-set_other, get_or-set_same}
use Rattle.std.proofs.lemmas.List.{get_or_append_left, length-set}
use Rattle.std.proofs.lemmas.List.Elements.{All-set}
use Rattle.std.proofs.lemmas.List.Quantifiers.{position-Some}
use Rattle.std.proofs.lemmas.Nat.{mul-add-lt}
use Rattle.sixel_model.specs.declared.colour.Parts.{Parts}
use Rattle.sixel_model.specs.declared.colour.Parts.TheVariants.{Rgb, Hls}
use Rattle.sixel_model.specs.declared.profile.Profile.{Profile}
use Rattle.sixel_model.specs.Colours.{IsColour, is_entry, is_same, palette_at}
use Rattle.sixel_model.specs.Pictures.{IsPicture, PictureValue, picture_fault}
use Rattle.sixel_model.specs.Profiles.{count_of}
use Rattle.sixel_encode.proofs.PartedLemmas.{Parted, parted}
use Rattle.sixel_emulator_rules.specs.Asked.{is_asked}
use Rattle.sixel_emulator_rules.specs.declared.rule.AskedRule.TheVariants as rule
use Rattle.sixel_emulator_rules.specs.declared.terminals.Terminals.{Terminals}
use Rattle.sixel_fit.specs.Fits.{Fits, IsHeightFor, IsHeightIf, fit_reason, has_hue_for, is_large}
use Rattle.sixel_fit.specs.Rows.{HasRowsBelow, pad_register, with_rows}
use Rattle.sixel_fit.specs.declared.making.FitFault.TheVariants.{Large, Hue, TooHigh, NoRegister}
use Rattle.sixel_fit.proofs.RowsLemmas.{entry_at, rows_fit}
use Rattle.sixel_fit_laws.specs.Laws.{FittedIsPicture, HasAtTop}

-- ---- no reason against it

-- what is so if there is no reason
pub record HasNoReason (t : Terminals) (pad : Parts) (p : PictureValue) (height : ℕ) : Type 0 where
  pub not_large : is_large t p.width p.height ≡ false
  pub no_hue : has_hue_for t pad p.palette (nat_lt p.height height) ≡ false
  pub not_high : height ≤ 2048

none_of : (a b c d : Bool) (width height : ℕ)
    → (if a then Some (Large width height) else if b then Some Hue else if c then Some TooHigh else if d then Some
    NoRegister else None)
    ≡ None → (a ≡ false) × (b ≡ false) × (c ≡ false)
none_of true b c d width height is = cc
none_of false true c d width height is = cc
none_of false false true d width height is = cc
none_of false false false d width height is = (refl, refl, refl)

pub no_reason : (t : Terminals) (pad : Parts) (p : PictureValue) (height : ℕ) → fit_reason t pad p height ≡ None
    → HasNoReason t pad p height
no_reason t pad p height is =
    let tests = none_of (is_large t p.width p.height) (has_hue_for t pad p.palette (nat_lt p.height height))
    (nat_lt 2048 height) (nat_lt p.height height && is_none (pad_register pad p.palette)) p.width p.height is in
    record { not_large = tests.0; no_hue = tests.1; not_high = ltb-false 2048 height tests.2 }

-- ---- the height

above_if : (b : Bool) (height after : ℕ) → IsHeightIf b height after → height ≤ after
above_if true height after is = is.above
above_if false height after is = omega (arith, is)

pub fits_above : (t : Terminals) (height after : ℕ) → IsHeightFor t height after → height ≤ after
fits_above t height after is = above_if (is_asked t rule.Rows) height after is

-- ---- the register of the rows

-- a colour that a test takes for it is it
same_is : (c d : Parts) → is_same c d ≡ true → c ≡ d
same_is (Rgb a b c) (Rgb x y z) is =
    let first = and_parts (a == x && b == y) (c == z) is in
    let second = and_parts (a == x) (b == y) first.0 in
    rw (eqb-true a x second.0, eqb-true b y second.1, eqb-true c z first.1) refl
same_is (Hls a b c) (Hls x y z) is =
    let first = and_parts (a == x && b == y) (c == z) is in
    let second = and_parts (a == x) (b == y) first.0 in
    rw (eqb-true a x second.0, eqb-true b y second.1, eqb-true c z first.1) refl
same_is (Rgb a b c) (Hls x y z) is = cc
same_is (Hls a b c) (Rgb x y z) is = cc

entry_is : (pad : Parts) (o : Option Parts) → is_entry pad o ≡ true → o ≡ Some pad
entry_is pad None is = cc
entry_is pad (Some c) is = ap (λ (d : Parts). Some d) (sym (same_is pad c is))

none_is : (o : Option Parts) → is_none o ≡ true → o ≡ None
none_is None is = refl
none_is (Some c) is = cc

-- the register is one of the palette's, and has this colour or none
pub record IsFree (pad : Parts) (palette : List (Option Parts)) (r : ℕ) : Type 0 where
  pub within : r < length palette
  pub free : (colour : Parts) → palette_at palette r ≡ Some colour → colour ≡ pad

free_by : (pad : Parts) (palette : List (Option Parts)) (r : ℕ) (first second : Option ℕ)
    → position (is_entry pad) palette ≡ first → position is_none palette ≡ second → option_or first second ≡ Some r
    → IsFree pad palette r
free_by pad palette r (Some s) second one other is =
    let found = position-Some (is_entry pad) palette r None (one ∙ is) in record {
      within = found.0;
      free = λ colour has.
          let entry : get_or palette r None ≡ Some pad = entry_is pad (get_or palette r None) found.1 in
          let same : Some colour ≡ Some pad = sym has ∙ entry_at palette r ∙ entry in cc same;
    }
free_by pad palette r None second one other is =
    let found = position-Some is_none palette r None (other ∙ is) in record {
      within = found.0;
      free = λ colour has.
          let entry : get_or palette r None ≡ None = none_is (get_or palette r None) found.1 in
          let same : Some colour ≡ None = sym has ∙ entry_at palette r ∙ entry in cc same;
    }

pub register_free : (pad : Parts) (palette : List (Option Parts)) (r : ℕ) → pad_register pad palette ≡ Some r
    → IsFree pad palette r
register_free pad palette r is =
    free_by pad palette r (position (is_entry pad) palette) (position is_none palette) refl refl is

-- ---- with rows below

pub colour_here : (palette : List (Option Parts)) (r : ℕ) (pad : Parts) → r < length palette
    → palette_at (slice_set palette r (Some pad)) r ≡ Some pad
colour_here palette r pad lt =
    entry_at (slice_set palette r (Some pad)) r ∙ get_or-set_same palette r (Some pad) None lt

pub colour_other : (palette : List (Option Parts)) (r s : ℕ) (pad : Parts) → s ≢ r
    → palette_at (slice_set palette r (Some pad)) s ≡ palette_at palette s
colour_other palette r s pad other =
    entry_at (slice_set palette r (Some pad)) s ∙ get_or-set_other palette r s (Some pad) None other
    ∙ sym (entry_at palette s)

-- each colour stays
colour_stays : (palette : List (Option Parts)) (r : ℕ) (pad : Parts) → IsFree pad palette r → (s : ℕ) (colour : Parts)
    → palette_at palette s ≡ Some colour → palette_at (slice_set palette r (Some pad)) s ≡ Some colour
colour_stays palette r pad free s colour has = elim (cases_eq s r) [
  | inl same ↦
      let is : colour ≡ pad =
      free.free colour (ap (palette_at palette) (sym same) ∙ has) in
      ap (palette_at (slice_set palette r (Some pad))) same ∙ colour_here palette r pad free.within
      ∙ ap (λ (d : Parts). Some d) (sym is)
  | inr other ↦ colour_other palette r s pad other ∙ has
]

-- the registers at the top
top_kept : (width height x y r n : ℕ) (registers : List ℕ) → length registers ≡ width * height → x < width
    → y < height → slice_index (registers ++ replicate n r) (y * width + x) ≡ slice_index registers (y * width + x)
top_kept width height x y r n registers count across down =
    get_or_append_left registers (replicate n r) 0 (y * width + x)
    (rw count (mul-add-lt y width x height down across))

-- and those below
below_added : (width height after x y r : ℕ) (registers : List ℕ) → length registers ≡ width * height → x < width
    → height ≤ y → y < after
    → slice_index (registers ++ replicate (width * (after - height)) r) (y * width + x) ≡ r
below_added width height after x y r registers count across above down =
    let at : y * width + x < width * after = mul-add-lt y width x after down across in
    let parts : height + (y - height) ≡ y = omega (arith, above) in
    let rest : height + (after - height) ≡ after = omega (arith, above, down) in
    let product : width * after ≡ width * height + width * (after - height) =
    ap (λ (n : ℕ). width * n) (sym rest) ∙ mul-add width height (after - height) in
    let from : width * height ≤ width * y = mul-le-mul_left width above in
    let turned : y * width ≡ width * y = mul_comm y width in
    get_or-append_right registers (replicate (width * (after - height)) r) (width * height) (y * width + x) 0 count
    (omega (arith, from, turned))
    ∙ get_or-replicate (width * (after - height)) (y * width + x - width * height) r 0
    (omega (arith, at, product, from, turned))

-- it has the picture at its top
rows_have : (registers : ℕ) (p : PictureValue) (height : ℕ) (pad : Parts) (r : ℕ) → IsPicture registers p
    → p.height ≤ height → IsFree pad p.palette r → HasAtTop pad p (with_rows p height pad r)
rows_have registers p height pad r picture above free =
    let parts : Parted registers p = parted picture in
    record {
      width = refl;
      height = above;
      kept = λ x y across down.
          top_kept p.width p.height x y r (p.width * (height - p.height)) p.registers parts.count across down;
      added = λ x y across from down.
          ap (palette_at (slice_set p.palette r (Some pad)))
          (below_added p.width p.height height x y r p.registers parts.count across from down)
          ∙ colour_here p.palette r pad free.within;
      colours = colour_stays p.palette r pad free;
    }

-- it is a picture
rows_picture : (profile : Profile) (p : PictureValue) (height : ℕ) (pad : Parts) (r : ℕ)
    → IsPicture (count_of profile) p → p.height ≤ height → height ≤ 2048 → IsColour pad → r < length p.palette
    → IsPicture (count_of profile) (with_rows p height pad r)
rows_picture profile p height pad r picture above most colour lt =
    let q : PictureValue = with_rows p height pad r in
    let long : length q.palette ≡ count_of profile =
    length-set p.palette r (Some pad) ∙ (picture.palette).entries in
    record {
      accepted = subst (λ (n : ℕ). picture_fault n q.width q.height q.palette q.registers ≡ None) long
          (rows_fit p height pad r (record { profile = profile; parts = picture }) above most lt);
      palette = record {
        entries = long;
        in_range = All-set (λ (o : Option Parts). IfSome o IsColour) p.palette r (Some pad) colour
            (picture.palette).in_range;
      };
    }

-- ---- the fitted picture

same_has : (pad : Parts) (p : PictureValue) → HasAtTop pad p p
same_has pad p = record {
  width = refl;
  height = omega arith;
  kept = λ x y across down. refl;
  added = λ x y across from down. absurd (omega (arith, from, down));
  colours = λ r colour has. has;
}

-- it is the picture, or has rows below
pub fitted_picture : (profile : Profile) → FittedIsPicture (count_of profile)
fitted_picture profile t pad p q picture colour fitted =
    let f : Fits t pad p q = fitted.0 in
    let above : p.height ≤ q.height = fits_above t p.height q.height f.height in
    let reasons : HasNoReason t pad p q.height = no_reason t pad p q.height fitted.1 in
    elim (cases_lt p.height q.height) [
      | inl less ↦
          let rows : HasRowsBelow pad p q = f.rows less in
          let free : IsFree pad p.palette rows.register = register_free pad p.palette rows.register rows.takes in (
            subst (IsPicture (count_of profile)) (sym rows.is)
                (rows_picture profile p q.height pad rows.register picture above reasons.not_high colour free.within),
            subst (HasAtTop pad p) (sym rows.is)
                (rows_have (count_of profile) p q.height pad rows.register picture above free),
          )
      | inr not_less ↦
          let is : q ≡ p = f.same (omega (arith, above, not_less)) in (
            subst (IsPicture (count_of profile)) (sym is) picture,
            subst (HasAtTop pad p) (sym is) (same_has pad p),
          )
    ]
