use Rattle.std.proofs.Common.{◌∙◌, List, ap, map, sym}
use Rattle.std.specs.Prelude.{count_by}
use Rattle.sixel_model.specs.declared.colour.Parts.{Parts}
use Rattle.sixel_model.specs.Colours.{is_same}
use Rattle.sixel_terminal.specs.declared.pixel.Ink.{Ink}
use Rattle.sixel_terminal.specs.Screens.{colour_in_ink}
use Rattle.sixel_mend.proofs.HiddenLemmas.{hidden_counted, none_hidden_alike}
use Rattle.sixel_mend.proofs.PixelLemmas.{unpainted_pixel}
use Rattle.sixel_mend.proofs.hiding.hidden_between.Goals as goal

pub returns-in-Some : goal.returns-in-Some
returns-in-Some c = λ mark background painted other marked shown.
    let pixel = c.index-shown-at.result in
    let unpainted =
    unpainted_pixel mark c.args.marked.now c.args.shown.now c.in-Some.at pixel c.in-Some.ensures.0 c.requires.whole
    c.index-shown-at.is c.in-Some.ensures.1 c.requires.marked c.requires.shown marked shown in
    c.count_same.ensures ∙ ap (λ (cs : List Parts). count_by (is_same (colour_in_ink pixel)) cs) marked
    ∙ hidden_counted mark background painted (colour_in_ink pixel) other unpainted

pub returns-in-None : goal.returns-in-None
returns-in-None c = λ mark background painted other marked shown.
    sym (none_hidden_alike mark background painted other
    (sym marked ∙ ap (λ (pixels : List Ink). map colour_in_ink pixels) c.in-None.ensures ∙ shown))
