use Rattle.std.proofs.Common.{◌∙◌, ◌||◌, Bool, ap, refl, sym}
use Rattle.std.specs.List.{list_any}
use Rattle.std.proofs.lemmas.List.Folds.{list_any-append}
use Rattle.sixel_model.specs.Events.{is_painting}
use Rattle.sixel_terminal.specs.Stretches.{sixels_of}
use Rattle.sixel_foot.proofs.FootColourLemmas.{colours_over}
use Rattle.sixel_foot.proofs.foot.FootReading.note_sixels.Goals as goal

pub returns : goal.returns
returns c = λ before s. record {
  colours = colours_over before c.args.bytes.now s.colours;
  size = c.after_sixels-self.ensures before c.args.bytes.now refl s.size;
  has_painted_is =
      c.paints_with-has_painted.ensures
      ∙ ap (λ (a : Bool). a || list_any is_painting (sixels_of c.args.bytes.now)) s.has_painted_is
      ∙ sym (list_any-append is_painting before (sixels_of c.args.bytes.now));
}
