use Rattle.std.proofs.Common.{◌∙◌, ap, sym}
use Rattle.std.specs.Option.{option_map}
use Rattle.sixel_judge.specs.Notes.{said}
use Rattle.sixel_judge.proofs.PaletteLemmas.{colour_none, colour_some}
use Rattle.sixel_judge.proofs.pixels.left_colour.Goals as goal

pub returns-in-Some : goal.returns-in-Some
returns-in-Some c = λ registers events s none. c.colour_in.ensures
    ∙ colour_some registers c.args.register c.in-Some.definition
    (sym (ap (option_map said) c.in-Some.is) ∙ c.definition.ensures) c.requires s none

pub returns-in-None : goal.returns-in-None
returns-in-None c = λ registers events s none. colour_none c.args.register
    (sym (ap (option_map said) c.in-None.is) ∙ c.definition.ensures) c.requires s
