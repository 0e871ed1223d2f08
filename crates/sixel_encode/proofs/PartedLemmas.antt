-- What holds for the parts of a picture.
use Rattle.std.proofs.Common.{◌≡◌, refl, ℕ, ◌+◌, ◌*◌, ◌<◌, ◌≤◌, Bool, true, false, not, ◌&&◌, Some, None, List, length}
use Rattle.std.specs.Prelude.{◌==◌, nat_le, nat_lt, IfSome, is_some, slice_index, if◌then◌else◌}
use Rattle.std.specs.List.{list_all, AllByRecursion}
use Rattle.std.proofs.lemmas.Bool.{and_parts, eqb-true, leb-true, ltb-true, true_from_ne_false}
use Rattle.std.proofs.lemmas.List.Elements.{recursion_from_All}
use Rattle.std.proofs.lemmas.List.Folds.{list_all_at}
use Rattle.std.proofs.lemmas.Nat.{mul-add-lt}
use Rattle.sixel_model.specs.declared.picture.PictureReason.TheVariants.{Size, Count, Register, NoColour}
use Rattle.sixel_model.specs.Colours.{palette_at, IsColour}
use Rattle.sixel_model.specs.Pictures.{PictureValue, IsPicture, is_side, register_of, most_side}

no_fault : (a b c d : Bool)
    → (if not a then Some Size else if not b then Some Count else if not c then Some Register else if not d then Some
    NoColour else None)
    ≡ None → (a ≡ true) × (b ≡ true) × (c ≡ true) × (d ≡ true)
no_fault true true true true h = (refl, refl, refl, refl)
no_fault true true true false h = cc h
no_fault true true false d h = cc h
no_fault true false c d h = cc h
no_fault false b c d h = cc h

-- the register is one of the palette, and has a colour
pub record IsUsed (registers : ℕ) (p : PictureValue) (r : ℕ) : Type 0 where
  pub under : r < registers
  pub coloured : is_some (palette_at p.palette r) ≡ true

-- the parts of a picture, one by one
pub record Parted (registers : ℕ) (p : PictureValue) : Type 0 where
  pub some_width : 1 ≤ p.width
  pub most_width : p.width ≤ most_side
  pub some_height : 1 ≤ p.height
  pub most_height : p.height ≤ most_side
  pub count : length p.registers ≡ p.width * p.height
  pub within : list_all (λ r. nat_lt r registers) p.registers ≡ true
  pub coloured : list_all (λ r. is_some (palette_at p.palette r)) p.registers ≡ true
  pub entries : length p.palette ≡ registers
  pub in_range : AllByRecursion (λ o. IfSome o IsColour) p.palette

pub parted : {registers : ℕ} {p : PictureValue} → IsPicture registers p → Parted registers p
parted {registers} {p} h =
    let tests = no_fault (is_side p.width && is_side p.height) (length p.registers == p.width * p.height)
    (list_all (λ r. nat_lt r registers) p.registers) (list_all (λ r. is_some (palette_at p.palette r)) p.registers)
    h.accepted in
    let sides = and_parts (is_side p.width) (is_side p.height) tests.0 in
    let wide = and_parts (nat_le 1 p.width) (nat_le p.width most_side) sides.0 in
    let high = and_parts (nat_le 1 p.height) (nat_le p.height most_side) sides.1 in
    record {
      some_width = leb-true 1 p.width wide.0;
      most_width = leb-true p.width most_side wide.1;
      some_height = leb-true 1 p.height high.0;
      most_height = leb-true p.height most_side high.1;
      count = eqb-true (length p.registers) (p.width * p.height) tests.1;
      within = tests.2;
      coloured = tests.3;
      entries = h.palette.entries;
      in_range = recursion_from_All _ p.palette h.palette.in_range;
    }

all_there : (q : ℕ → Bool) (xs : List ℕ) (i : ℕ) → i < length xs → list_all q xs ≡ true → q (slice_index xs i) ≡ true
all_there q xs i l h = true_from_ne_false (q (slice_index xs i))
    (λ f. (let some_fails : list_all q xs ≡ false = list_all_at q xs i 0 l f in cc (some_fails, h)))

-- the register of a pixel is one of the palette, and has a colour
pub pixel_used : {registers : ℕ} {p : PictureValue} → Parted registers p → (x y : ℕ) → x < p.width → y < p.height
    → IsUsed registers p (register_of p x y)
pixel_used {registers} {p} h x y l m =
    let i : y * p.width + x < length p.registers = rw h.count (mul-add-lt y p.width x p.height m l) in
    record {
      under = ltb-true _ registers (all_there (λ r. nat_lt r registers) p.registers (y * p.width + x) i h.within);
      coloured = all_there (λ r. is_some (palette_at p.palette r)) p.registers (y * p.width + x) i h.coloured;
    }
