use Rattle.std.proofs.Common.{◌∙◌, ◌∷◌, ◌+◌, ◌++◌, [], List, ℕ, ap, arith, take}
use Rattle.sixel_list.specs.SixelTexts.{tail_of}
use Rattle.sixel_list.proofs.SixelLineLemmas.{sixel-joined, two-put}
use Rattle.sixel_list.proofs.sixel_line.SixelLines.put.Goals as goal

pub returns-clause-lines : goal.returns-clause-lines
returns-clause-lines c =
    let digits = c.two_digits-tens.result in
    c.put-tail.ensures.text
    ∙ ap (λ (t : List ℕ). t ++ tail_of c.args.bits)
    (two-put (c.args.end + c.put_hundreds-hundreds.result) _ _ digits.0 digits.1
    c.put_hundreds-hundreds.new.text
    (omega (arith, c.requires.room, c.put_hundreds-hundreds.ensures.short, c.put_hundreds-hundreds.ensures.long))
    (omega arith) (omega arith)
    ∙ ap (λ (t : List ℕ). t ++ digits.0 ∷ digits.1 ∷ []) c.put_hundreds-hundreds.ensures.text)
    ∙ sixel-joined c.args.place c.args.bits digits.0 digits.1 (take c.args.end c.args.self.now.text) c.requires.place
    c.ranges.place.fits c.two_digits-tens.ensures
