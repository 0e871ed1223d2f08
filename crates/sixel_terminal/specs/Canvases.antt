-- The pixels of a screen during drawing. Only contracts of private functions cite these.
use Rattle.std.specs.Prelude.{◌&&◌, ℕ, ◌+◌, Bool, min, nat_le, nat_lt}
use Rattle.sixel_model.specs.declared.colour.Parts.TheVariants.{Rgb}
use Rattle.sixel_terminal.specs.declared.pixel.Ink.{Ink}
use Rattle.sixel_terminal.specs.declared.pixel.Ink.TheVariants.{Fixed, Bound}
use Rattle.sixel_terminal.specs.declared.canvas.Span.{Span}

-- the default ink, for an index past the screen
abbrev pub black : Ink
black = Fixed (Rgb 0 0 0)

abbrev pub is_in_span : Span → ℕ → Bool
is_in_span s n = nat_le s.start n && nat_lt n s.end

-- `count` columns or rows from `start` on, as far as they are below `limit`
abbrev pub span_of : ℕ → ℕ → ℕ → Span
span_of start count limit = record { start = min start limit; end = min (start + count) limit }

-- the first ink, or the second if that shows a register
abbrev pub laid_under : Ink → Ink → Ink
laid_under ink (Fixed colour) = ink
laid_under ink (Bound register) = Bound register
