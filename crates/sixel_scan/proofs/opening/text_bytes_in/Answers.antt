use Rattle.std.proofs.Common.{◌≡◌, ◌+◌, ◌-◌, ◌≤◌, arith, drop, length, refl, take}
use Rattle.std.proofs.lemmas.List.{length-drop, length-take-le}
use Rattle.sixel_judge.proofs.PieceLemmas.{rest_of}
use Rattle.sixel_scan.proofs.TextLemmas.{none_further, none_of}
use Rattle.sixel_scan.proofs.opening.text_bytes_in.Goals as goal

pub loop-after-init : goal.loop-after-init
loop-after-init c = record {
  within = c.plain_bytes_in-count.ensures.within;
  none = none_of c.args.eight (take c.plain_bytes_in-count.result c.args.piece.now)
      c.plain_bytes_in-count.ensures.text;
}

pub loop-after-preserved : goal.loop-after-preserved
loop-after-preserved c =
    let test = c.loop-after-test.ensures in
    let at = c.loop-after.count in
    let piece = c.args.piece.now in
    let inside : at + 2 ≤ length piece = test.within refl in
    let rest : length (rest_of (at + 2) piece) ≡ length piece - (at + 2) =
    length-take-le (length piece - (at + 2)) (drop (at + 2) piece) (omega (arith, length-drop (at + 2) piece)) in
    record {
      within = omega (arith, inside, rest, c.plain_bytes_in.ensures.within);
      none = none_further piece at c.plain_bytes_in.result inside c.loop-after.invariant.none
          (test.escape refl) (test.no_letter refl) (test.none refl) c.plain_bytes_in.ensures.text;
    }
