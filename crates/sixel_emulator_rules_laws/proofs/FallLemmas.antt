-- Where foot's data commands fall, and that what is kept of one falls at the same points.
use Rattle.std.proofs.Common.{◌≡◌, ◌==◌, ℕ, ◌+◌, ◌*◌, ◌/◌, ◌%◌, ◌^◌, ◌<◌, ◌≤◌, Bool, true, false, ◌&&◌}
use Rattle.std.proofs.Common.{min, List, inl, inr, refl, sym, ap, ◌∙◌, arith}
use Rattle.std.specs.Prelude.{nat_le, if◌then◌else◌}
use Rattle.std.specs.Int.{bit_at}
use Rattle.std.proofs.Math.Nat.{mod-add-div', mod-lt}
use Rattle.std.proofs.lemmas.Bool.{cases_lt, eqb-true}
use Rattle.std.proofs.lemmas.Nat.{pow_pos}
use Rattle.std.proofs.lemmas.Nat.Bits.{bit_at_above, bit_at_cat_low}
use Rattle.sixel_grammar.specs.declared.command.Command.{Command}
use Rattle.sixel_grammar.specs.declared.command.Command.TheVariants.{Sixel, Repeat}
use Rattle.sixel_grammar.specs.declared.command.Event.{Event}
use Rattle.sixel_grammar.specs.declared.command.Event.TheVariants.{Step}
use Rattle.sixel_model.specs.Events.{bits_of, columns_of, is_data_command}
use Rattle.sixel_model.specs.Geometry.{band, column, covers, falls, touches}
use Rattle.sixel_model.proofs.CoverLemmas.{LiesUnder, covers_under, idle_falls, lies_under}
use Rattle.sixel_emulator.specs.Words.{kept, upper}
use Rattle.sixel_judge.proofs.DrawnLemmas.{no_data_bits}

-- ---- the upper rows

pub same_bool : (a b : Bool) → (a ≡ true → b ≡ true) → (b ≡ true → a ≡ true) → a ≡ b
same_bool true true h k = refl
same_bool true false h k = sym (h refl)
same_bool false true h k = k refl
same_bool false false h k = refl

pub low_bit : (bits m k : ℕ) → k < m → bit_at (bits % 2 ^ m) k ≡ bit_at bits k
low_bit bits m k lt =
    sym (bit_at_cat_low (bits / 2 ^ m) m (bits % 2 ^ m) k lt) ∙ ap (λ (n : ℕ). bit_at n k) (whole bits m)
  where
    whole : (bits m : ℕ) → bits / 2 ^ m * 2 ^ m + bits % 2 ^ m ≡ bits
    whole bits m = let is : bits % 2 ^ m + bits / 2 ^ m * 2 ^ m ≡ bits = mod-add-div' bits (2 ^ m) in omega (arith, is)

high_bit : (bits m k : ℕ) → m ≤ k → bit_at (bits % 2 ^ m) k ≡ 0
high_bit bits m k le = bit_at_above (bits % 2 ^ m) m k (mod-lt bits (pow_pos m)) le

-- a bit that is set in the upper rows is set
pub set_bit : (bits m k : ℕ) → bit_at (bits % 2 ^ m) k ≡ 1 → bit_at bits k ≡ 1
set_bit bits m k set = elim (cases_lt k m) [
  | inl low ↦ sym (low_bit bits m k low) ∙ set
  | inr high ↦ (let none : bit_at (bits % 2 ^ m) k ≡ 0 = high_bit bits m k (omega (arith, high)) in
      absurd (omega (arith, set, none)))
]

-- the upper rows cover the same points, if the bits cover none below
pub upper_covers : (left count line rows bits x y : ℕ)
    → (covers left count line 1 bits x y ≡ true → y < 6 * line + rows)
    → covers left count line 1 (upper rows bits) x y ≡ covers left count line 1 bits x y
upper_covers left count line rows bits x y above =
    same_bool _ _ (λ h.
    let u : LiesUnder left count line (upper rows bits) x y = lies_under left count line (upper rows bits) x y h in
    covers_under left count line bits x y
    (record {
      bit = u.bit;
      below = u.below;
      set = set_bit bits (min 6 rows) u.bit u.set;
      row = u.row;
      from = u.from;
      to = u.to;
    })) (λ h.
    let u : LiesUnder left count line bits x y = lies_under left count line bits x y h in
    let low : y < 6 * line + rows = above h in
    let row : y ≡ 6 * line + u.bit = u.row in
    let small : u.bit < 6 = u.below in
    covers_under left count line (upper rows bits) x y
    (record {
      bit = u.bit;
      below = u.below;
      set = low_bit bits (min 6 rows) u.bit (omega (arith, low, row, small)) ∙ u.set;
      row = u.row;
      from = u.from;
      to = u.to;
    }))

-- ---- what is kept of a data command

pub columns_not_zero : (n : ℕ) → 0 < n → (if n == 0 then 0 else n) ≡ n
columns_not_zero n some = by (n == 0) refl
  where
    by : (b : Bool) → (n == 0) ≡ b → (if b then 0 else n) ≡ n
    by true e = let none : n ≡ 0 = eqb-true n 0 e in sym none
    by false e = refl

-- what is kept of a data command of so many columns with these bits
pub record IsCell (columns bits : ℕ) (c : Command) : Type 0 where
  pub some : 0 < columns
  pub columns_is : columns_of 0 (Step c) ≡ columns
  pub bits_is : bits_of (Step c) ≡ bits
  pub is_data : is_data_command (Step c) ≡ true

pub sixel_cell : (bits : ℕ) → IsCell 1 bits (Sixel bits)
sixel_cell bits = record { some = omega arith; columns_is = refl; bits_is = refl; is_data = refl }

pub repeat_cell : (count bits : ℕ) → 0 < count → IsCell count bits (Repeat count bits)
repeat_cell count bits some =
    record { some = some; columns_is = columns_not_zero count some; bits_is = refl; is_data = refl }

-- the bits of what is kept
abbrev bits_kept : Bool → ℕ → ℕ → ℕ
bits_kept b rows bits = if b then bits else upper rows bits

kept_cell : (columns rows bits : ℕ) (c : Command) (b : Bool) → (nat_le columns columns && nat_le 6 rows) ≡ b
    → IsCell columns bits c → IsCell columns (bits_kept b rows bits) (kept columns rows c columns bits)
kept_cell columns rows bits c true is cell = rw is cell
kept_cell columns rows bits c false is cell =
    let some : 0 < min columns columns = let s : 0 < columns = cell.some in omega (arith, s) in
    let same : min columns columns ≡ columns = omega arith in
    rw is (record {
      some = cell.some;
      columns_is = columns_not_zero (min columns columns) some ∙ same;
      bits_is = refl;
      is_data = refl;
    })

cell_covers : (left line columns rows bits x y : ℕ) (b : Bool)
    → (covers left columns line 1 bits x y ≡ true → y < 6 * line + rows)
    → covers left columns line 1 (bits_kept b rows bits) x y ≡ covers left columns line 1 bits x y
cell_covers left line columns rows bits x y true above = refl
cell_covers left line columns rows bits x y false above = upper_covers left columns line rows bits x y above

falls_by : (before : List Event) (columns bits x y : ℕ) (c : Command) → IsCell columns bits c
    → falls before (Step c) x y ≡ covers (column 0 before) columns (band before) 1 bits x y
unfolding falls touches
falls_by before columns bits x y c cell = rw (cell.columns_is, cell.bits_is) refl

-- what is drawn has the same columns, and falls at the same points
pub record IsSameCell (drawing before : List Event) (e : Event) (d : Command) : Type 0 where
  pub columns_is : columns_of 0 (Step d) ≡ columns_of 0 e
  pub is_data : is_data_command (Step d) ≡ true
  pub falls_is : (x y : ℕ) → falls drawing (Step d) x y ≡ falls before e x y

pub kept_is_same : (drawing before : List Event) (columns rows bits : ℕ) (own c : Command)
    → band drawing ≡ band before → column 0 drawing ≡ column 0 before → IsCell columns bits own → IsCell columns bits c
    → ((x y : ℕ) → falls before (Step own) x y ≡ true → y < 6 * band before + rows)
    → IsSameCell drawing before (Step own) (kept columns rows c columns bits)
kept_is_same drawing before columns rows bits own c line left mine cell above =
    let b = nat_le columns columns && nat_le 6 rows in
    let k : IsCell columns (bits_kept b rows bits) (kept columns rows c columns bits) =
    kept_cell columns rows bits c b refl cell in
    record {
      columns_is = k.columns_is ∙ sym mine.columns_is;
      is_data = k.is_data;
      falls_is = λ x y.
          falls_by drawing columns (bits_kept b rows bits) x y (kept columns rows c columns bits) k
          ∙ (rw (line, left)
          (cell_covers (column 0 before) (band before) columns rows bits x y b
          (λ h. above x y (falls_by before columns bits x y own mine ∙ h)))
          ∙ sym (falls_by before columns bits x y own mine));
    }

-- ---- other events

-- an event that isn't a data command falls nowhere
pub falls_nowhere : (before : List Event) (e : Event) (x y : ℕ) → is_data_command e ≡ false
    → falls before e x y ≡ false
falls_nowhere before e x y none = idle_falls before e x y (ap (λ (n : ℕ). n % 64) (no_data_bits e none))

pub no_columns : (e : Event) → is_data_command e ≡ false → columns_of 0 e ≡ 0
no_columns (Step (Sixel bits)) none = cc
no_columns (Step (Repeat count bits)) none = cc
no_columns _ none = refl
