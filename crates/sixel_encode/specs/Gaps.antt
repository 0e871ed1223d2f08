-- Where the gaps between the columns with ink end. Only contracts of private functions cite these.
use Rattle.std.specs.Prelude.{◌≡◌, ◌≢◌, ◌==◌, ◌&&◌, ◌⊎◌, ℕ, ◌+◌, ◌-◌, ◌<◌, ◌≤◌, List, get_or, if◌then◌else◌}
use Rattle.std.specs.Prelude.{length, nat_le, slice_index}
use Rattle.std.specs.Int.{bit_at}

-- a column with ink, right behind four blank ones
pub record IsGapEnd (bytes : List ℕ) (x : ℕ) : Type 0 where
  pub after : 4 ≤ x
  pub within : x < length bytes
  pub ink : slice_index bytes x ≢ 63
  pub blank : (k : ℕ) → x ≤ k + 4 → k < x → slice_index bytes k ≡ 63

-- the items before `count` are gap ends, from left to right
pub record AreRising (bytes ends : List ℕ) (count : ℕ) : Type 0 where
  pub long : length ends ≡ 2113
  pub each : (i : ℕ) → i < count → IsGapEnd bytes (get_or ends i 0)
  pub rising : (i j : ℕ) → i < j → j < count → get_or ends i 0 < get_or ends j 0

-- one of the items before `count`
abbrev pub IsListed : List ℕ → ℕ → ℕ → Type 0
IsListed ends count x = (i : ℕ) × (i < count) × (get_or ends i 0 ≡ x)

-- the items before `count` are the gap ends before column `to`, from left to right
pub record AreGapEnds (to : ℕ) (bytes ends : List ℕ) (count : ℕ) : Type 0 where
  pub items : AreRising bytes ends count
  pub before : (i : ℕ) → i < count → get_or ends i 0 < to
  pub all : (x : ℕ) → x < to → IsGapEnd bytes x → IsListed ends count x

-- bit j is set if column at + j is blank, for the 32 columns at `at`
abbrev pub AreBlanks : ℕ → List ℕ → ℕ → Type 0
AreBlanks at bytes blank = (j : ℕ) → j < 32
    → bit_at blank j ≡ (if slice_index bytes (at + j) == 63 then 1 else 0)

-- bit i is set if column at + i - 4 is there and blank, for the four columns before `at` and the 32 from there on
abbrev pub AreBlanksFrom : ℕ → List ℕ → ℕ → Type 0
AreBlanksFrom at bytes blank = (i : ℕ) → i < 36
    → bit_at blank i ≡ (if nat_le 4 (at + i) && (slice_index bytes (at + i - 4) == 63) then 1 else 0)

-- bit j is set if column at + j is a gap end, for the 32 columns at `at`
abbrev pub AreEndBits : ℕ → List ℕ → ℕ → Type 0
AreEndBits at bytes bits = (j : ℕ) → j < 32
    → (bit_at bits j ≡ 1 → IsGapEnd bytes (at + j)) × (IsGapEnd bytes (at + j) → bit_at bits j ≡ 1)

-- the gap ends before the end of the group at `at` are the items before `count`, and then those in the mask
pub record AreGapEndsBut (at left : ℕ) (bytes ends : List ℕ) (count : ℕ) : Type 0 where
  pub items : AreRising bytes ends count
  pub before : (i : ℕ) → i < count → get_or ends i 0 < at + 32
  pub later : (i j : ℕ) → i < count → j < 32 → bit_at left j ≡ 1 → get_or ends i 0 < at + j
  pub rest : (j : ℕ) → j < 32 → bit_at left j ≡ 1 → IsGapEnd bytes (at + j)
  pub all : (x : ℕ) → x < at + 32 → IsGapEnd bytes x
      → (IsListed ends count x) ⊎ ((j : ℕ) × (j < 32) × (at + j ≡ x) × (bit_at left j ≡ 1))

-- the items from `next` on, and no others, are behind column `from`
pub record IsNext (from : ℕ) (ends : List ℕ) (count next : ℕ) : Type 0 where
  pub passed : (i : ℕ) → i < next → i < count → get_or ends i 0 ≤ from
  pub ahead : (i : ℕ) → next ≤ i → i < count → from < get_or ends i 0

-- a run can begin at column `from`: the column before it is different
abbrev pub IsApart : ℕ → List ℕ → Type 0
IsApart from bytes = 0 < from → from < length bytes → slice_index bytes (from - 1) ≢ slice_index bytes from
