use Rattle.sixel_list.proofs.SixelLineLemmas.{select-joined}
use Rattle.sixel_list.proofs.sixel_line.SixelLine.set_select.Goals as goal

pub returns : goal.returns
returns c =
    rw (c.push.ensures.text, c.push_number.ensures.text, c.set_rest.ensures.text, c.keep_hundreds.ensures)
    (select-joined c.args.place c.args.register _ _ c.requires.place c.ranges.place.fits c.two_digits-tens.ensures)
