-- The names that `explain` lists.
use Rattle.std.proofs.Common.{◌≡◌, ◌∷◌, List, [], arith, map, refl}
use Rattle.std.specs.Prelude.{Contains}
use Rattle.std.specs.List.{All}
use Rattle.std.proofs.lemmas.List.Elements.{All-cons, All-nil}
use Rattle.sixel_emulator_rules.specs.declared.rule.AskedRule.TheVariants as asked
use Rattle.sixel_model.specs.declared.rule.Rule.TheVariants as rule
use Rattle.sixel_grammar.specs.declared.fault.Reason.TheVariants as reason
use Rattle.sixel_ppm.specs.declared.ppm.PpmReason.TheVariants as ppm
use Rattle.sixel_explain.specs.declared.explanations.Topic.{Topic}
use Rattle.sixel_explain.specs.declared.explanations.Topic.TheVariants as topic
use Rattle.sixel_explain.specs.Explanations.{listed_names, topic_name}

-- the index at which each is listed
pub name_listed : (t : Topic) → Contains listed_names (topic_name t)
name_listed (topic.Rule rule.RasterFirst) = (0, omega arith, refl)
name_listed (topic.Rule rule.RasterTwice) = (1, omega arith, refl)
name_listed (topic.Rule rule.Ratio) = (2, omega arith, refl)
name_listed (topic.Rule rule.BoxSize) = (3, omega arith, refl)
name_listed (topic.Rule rule.Register) = (4, omega arith, refl)
name_listed (topic.Rule rule.ColourValue) = (5, omega arith, refl)
name_listed (topic.Rule rule.RepeatZero) = (6, omega arith, refl)
name_listed (topic.Rule rule.Unselected) = (7, omega arith, refl)
name_listed (topic.Rule rule.Undefined) = (8, omega arith, refl)
name_listed (topic.Rule rule.Redefined) = (9, omega arith, refl)
name_listed (topic.Rule rule.Outside) = (10, omega arith, refl)
name_listed (topic.Rule rule.Uncovered) = (11, omega arith, refl)
name_listed (topic.Rule rule.EightBit) = (12, omega arith, refl)
name_listed (topic.Asked asked.RasterLate) = (13, omega arith, refl)
name_listed (topic.Asked asked.Dropped) = (14, omega arith, refl)
name_listed (topic.Asked asked.Stale) = (15, omega arith, refl)
name_listed (topic.Asked asked.Large) = (16, omega arith, refl)
name_listed (topic.Asked asked.Rows) = (17, omega arith, refl)
name_listed (topic.Asked asked.Past) = (18, omega arith, refl)
name_listed (topic.Asked asked.Hue) = (19, omega arith, refl)
name_listed (topic.Asked asked.Far) = (20, omega arith, refl)
name_listed (topic.Asked asked.Introducer) = (21, omega arith, refl)
name_listed (topic.Asked asked.Bare) = (22, omega arith, refl)
name_listed (topic.Asked asked.SpaceAfter) = (23, omega arith, refl)
name_listed (topic.Grammar reason.NotSixel) = (24, omega arith, refl)
name_listed (topic.Grammar reason.BadByte) = (25, omega arith, refl)
name_listed (topic.Grammar reason.NumberTooLarge) = (26, omega arith, refl)
name_listed (topic.Grammar reason.FieldCount) = (27, omega arith, refl)
name_listed (topic.Grammar reason.BadRepeat) = (28, omega arith, refl)
name_listed (topic.Grammar reason.BadTerminator) = (29, omega arith, refl)
name_listed (topic.Grammar reason.Truncated) = (30, omega arith, refl)
name_listed (topic.Grammar reason.TooLong) = (31, omega arith, refl)
name_listed (topic.Grammar reason.Trailing) = (32, omega arith, refl)
name_listed (topic.Ppm ppm.Header) = (33, omega arith, refl)
name_listed (topic.Ppm ppm.Size) = (34, omega arith, refl)
name_listed (topic.Ppm ppm.Maxval) = (35, omega arith, refl)
name_listed (topic.Ppm ppm.Sample) = (36, omega arith, refl)
name_listed (topic.Ppm ppm.Short) = (38, omega arith, refl)
name_listed (topic.Ppm ppm.Trailing) = (32, omega arith, refl)
name_listed (topic.Ppm ppm.TooManyColours) = (37, omega arith, refl)
name_listed topic.NotRgb = (39, omega arith, refl)
name_listed topic.NoBox = (40, omega arith, refl)
name_listed topic.Unmodelled = (41, omega arith, refl)
name_listed topic.NoString = (42, omega arith, refl)
name_listed topic.Empty = (43, omega arith, refl)
name_listed topic.TooLarge = (44, omega arith, refl)
name_listed topic.OutOfMemory = (45, omega arith, refl)
name_listed topic.Read = (46, omega arith, refl)
name_listed topic.Write = (47, omega arith, refl)

-- two functions that agree on a list agree on each item
pub each : {X Y : Type 0} (f g : X → Y) (xs : List X) → map f xs ≡ map g xs → All (λ x. f x ≡ g x) xs
each f g [] e = All-nil (λ x. f x ≡ g x)
each f g (x ∷ xs) e =
    let here : f x ≡ g x = cc in
    let rest : map f xs ≡ map g xs = cc in
    All-cons (λ y. f y ≡ g y) x xs here (each f g xs rest)
