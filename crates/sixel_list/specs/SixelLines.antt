-- The lines of sixels, selects and repeats, of which the digits of the offset's hundreds are kept from one to the next.
use Rattle.std.specs.Prelude.{slice_range, take}
use Rattle.sixel_list.specs.declared.sixel_line.SixelLine.{SixelLine}
use Rattle.sixel_list.specs.declared.sixel_line.SixelLines.{SixelLines}
use Rattle.sixel_report.specs.Texts.{Text}

-- the line that was made last
abbrev pub text_of : SixelLine → Text
text_of s = slice_range s.text s.start s.end

-- the lines that were made and not put yet
abbrev pub lines_of : SixelLines → Text
lines_of s = take s.end s.text
