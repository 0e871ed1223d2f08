use Rattle.std.proofs.Common.{◌∙◌, ap, arith, sym}
use Rattle.std.specs.List.{list_any}
use Rattle.sixel_messages.specs.Hints.{is_same}
use Rattle.sixel_messages.proofs.CauseLemmas.{distinct_more, has_room}
use Rattle.sixel_messages.proofs.hints.Causes.add.Goals as goal

pub push-requires : goal.push-requires
push-requires c = (
  omega arith,
  has_room c.args.self.now.found.items c.args.cause c.args.self.now.distinct
      (ap (list_any (is_same c.args.cause)) (sym c.as_slice.ensures.value) ∙ sym c.is_among.ensures
      ∙ c.if-not-is_among.true),
)

pub invariant_of-self : goal.invariant_of-self
invariant_of-self c = record {
  distinct = rw c.push.ensures.items
      (distinct_more c.args.self.now.found.items c.args.cause c.args.self.now.distinct
      (ap (list_any (is_same c.args.cause)) (sym c.as_slice.ensures.value) ∙ sym c.is_among.ensures
      ∙ c.if-not-is_among.true));
}
