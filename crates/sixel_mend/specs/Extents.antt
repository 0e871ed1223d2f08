-- The extent with one more event. Only contracts of private functions cite these.
use Rattle.std.specs.Prelude.{◌==◌, ℕ, zero, suc, ◌+◌, ◌*◌, Bool, List, max, if◌then◌else◌}
use Rattle.std.specs.Int.{bit_at}
use Rattle.sixel_grammar.specs.declared.command.Event.{Event}
use Rattle.sixel_model.specs.Events.{bits_of, columns_of}
use Rattle.sixel_model.specs.Geometry.{band, band_rows, column}

-- one more than the last number below n that passes; 0 if none passes
abbrev pub depth_below : ℕ → (ℕ → Bool) → ℕ
depth_below zero p = 0
depth_below (suc n) p = if p n then suc n else depth_below n p

-- how many rows of its band a sixel reaches down: to its lowest set bit, or 0 if none of the six is set
abbrev pub depth : ℕ → ℕ
depth bits = depth_below band_rows (λ k. bit_at bits k == 1)

-- the greater of a side and where a command reaches, if it paints
abbrev pub reached : ℕ → ℕ → ℕ → ℕ
reached side rows to = if rows == 0 then side else max side to

-- the width with one more event
abbrev pub next_width : ℕ → List Event → Event → ℕ
next_width width before e = reached width (depth (bits_of e)) (column 1 before + columns_of 1 e)

-- the height with one more event
abbrev pub next_height : ℕ → List Event → Event → ℕ
next_height height before e = reached height (depth (bits_of e)) (band_rows * band before + depth (bits_of e))
