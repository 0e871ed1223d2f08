-- What is done to a run of bytes.
use Rattle.std.specs.Prelude.{◌≡◌, ℕ, ◌<◌, ◌≤◌, ◌&&◌, Bool, true, false, Option, List, length, slice_index, nat_le}
use Rattle.std.specs.Prelude.{nat_lt, if◌then◌else◌}
use Rattle.std.specs.Option.{MatchOption}

-- the bytes from `from` up to `to` are changed by f, and all others are as before
pub record AreChanged (from to : ℕ) (f : ℕ → ℕ) (old new : List ℕ) : Type 0 where
  pub long : length new ≡ length old
  pub changed : (i : ℕ) → i < length old
      → slice_index new i ≡ (if nat_le from i && nat_lt i to then f (slice_index old i) else slice_index old i)

-- none of the bytes from `from` up to `to` passes the test
abbrev pub NonePasses : (ℕ → Bool) → ℕ → ℕ → List ℕ → Type 0
NonePasses test from to bytes = (k : ℕ) → from ≤ k → k < to → test (slice_index bytes k) ≡ false

-- the first byte from `from` up to `to` that passes the test has this index
pub record IsFirstAt (test : ℕ → Bool) (from to : ℕ) (bytes : List ℕ) (index : ℕ) : Type 0 where
  pub after : from ≤ index
  pub below : index < to
  pub passes : test (slice_index bytes index) ≡ true
  pub before : NonePasses test from index bytes

-- the index of the first byte from `from` up to `to` that passes the test, if one does
abbrev pub IsFirst : (ℕ → Bool) → ℕ → ℕ → List ℕ → Option ℕ → Type 0
IsFirst test from to bytes found =
    MatchOption found (NonePasses test from to bytes) (IsFirstAt test from to bytes)
