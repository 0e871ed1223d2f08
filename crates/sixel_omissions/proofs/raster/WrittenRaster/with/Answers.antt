use Rattle.std.proofs.Common.{◌∙◌, ◌+◌, ap, false, sym, true}
use Rattle.sixel_omissions.specs.declared.raster.WrittenRaster.{WrittenRaster}
use Rattle.sixel_omissions.proofs.RasterLemmas.{digit_more, separator_more}
use Rattle.sixel_omissions.proofs.raster.WrittenRaster.with.Goals as goal

pub returns-then-byte-eq59-clause-written : goal.returns-then-byte-eq59-clause-written
returns-then-byte-eq59-clause-written c = λ place numbers is.
    let on : WrittenRaster → WrittenRaster = λ w. record {
      place = w.place;
      separators = w.separators + 1;
      ends_with_digit = false;
    } in
    ap on is ∙ sym (separator_more place numbers c.args.byte c.if-byte-eq59.true)

pub returns-else-byte-eq59-clause-written : goal.returns-else-byte-eq59-clause-written
returns-else-byte-eq59-clause-written c = λ place numbers is.
    let on : WrittenRaster → WrittenRaster = λ w. record {
      place = w.place;
      separators = w.separators;
      ends_with_digit = true;
    } in
    ap on is ∙ sym (digit_more place numbers c.args.byte c.if-byte-eq59.false c.requires.numeric)
