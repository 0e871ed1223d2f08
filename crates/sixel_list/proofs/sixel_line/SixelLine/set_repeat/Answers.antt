use Rattle.sixel_list.proofs.SixelLineLemmas.{repeat-joined}
use Rattle.sixel_list.proofs.sixel_line.SixelLine.set_repeat.Goals as goal

pub returns : goal.returns
returns c =
    rw (
      c.push-2.ensures.text,
      c.push_number-2.ensures.text,
      c.push.ensures.text,
      c.push_number.ensures.text,
      c.set_rest.ensures.text,
      c.keep_hundreds.ensures,
    )
    (repeat-joined c.args.place c.args.count c.args.bits _ _ c.requires.place c.ranges.place.fits c.two_digits-tens.ensures)
