use Rattle.std.proofs.lemmas.Bool.{le-leb, leb-true}
use Rattle.sixel_terminal.specs.Limits.{most_screen_side}
use Rattle.sixel_words.proofs.options.is_side.Goals as goal

pub returns-then-number-ge1 : goal.returns-then-number-ge1
returns-then-number-ge1 c = (
  (λ least. (c.if-number-ge1.true, leb-true c.args.number most_screen_side least)),
  (λ both. le-leb c.args.number most_screen_side both.1),
)
