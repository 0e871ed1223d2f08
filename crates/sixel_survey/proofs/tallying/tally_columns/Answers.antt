use Rattle.std.proofs.Common.{◌≡◌, false, true, rules}
use Rattle.std.specs.Option.{option_map}
use Rattle.sixel_model.specs.Events.{is_painting, is_repeat_of_zero}
use Rattle.sixel_model.proofs.PictureLemmas.{at_most_256}
use Rattle.sixel_survey.proofs.TallyingLemmas.{blank_quiet, painted_quiet}
use Rattle.sixel_survey.proofs.tallying.tally_columns.Goals as goal

pub returns-then-not-is_painting : goal.returns-then-not-is_painting
returns-then-not-is_painting g c = λ seen n k t.
    let some : is_repeat_of_zero c.args.placed.now.event ≡ false = search rules in
    let idle : is_painting c.args.placed.now.event ≡ false = search rules in
    blank_quiet c.args.placed.now (at_most_256 c.args.profile) n c.if-notes.true some idle t

pub returns-then-paints_well : goal.returns-then-paints_well
returns-then-paints_well g c = λ seen n k t.
    let some : is_repeat_of_zero c.args.placed.now.event ≡ false = search rules in
    let well : c.paints_well.result ≡ true = c.if-paints_well.true in
    painted_quiet (option_map g.P.Cover.grid c.args.plane.now)
    c.args.placed.now (at_most_256 c.args.profile) n k c.if-notes.true some
    (c.paints_well.ensures.known well) (c.paints_well.ensures.defined well) (c.paints_well.ensures.fits well) t
