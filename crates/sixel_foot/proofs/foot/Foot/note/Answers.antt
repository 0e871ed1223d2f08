use Rattle.std.proofs.Common.{◌∙◌, ◌||◌, Bool, ap₂, sym}
use Rattle.sixel_model.specs.Events.{is_painting}
use Rattle.sixel_emulator.proofs.WordLemmas.{any_push}
use Rattle.sixel_foot.proofs.foot.Foot.note.Goals as goal

pub returns : goal.returns
returns c = λ before s. record {
  colours = c.note.ensures before s.colours;
  size = c.after-self.ensures before s.size;
  has_painted_is =
      ap₂ (λ (a b : Bool). a || b) s.has_painted_is c.is_painting.ensures
      ∙ sym (any_push is_painting before c.args.event.now);
}
