use Rattle.std.proofs.Common.{List, Option, Some, None, sym, subst}
use Rattle.std.specs.Option.{option_to_list}
use Rattle.sixel_grammar.specs.declared.command.Event.{Event}
use Rattle.sixel_konsole.specs.declared.rectangle.KonsoleMeasure.{KonsoleMeasure}
use Rattle.sixel_konsole.specs.Konsole.{StaysLow}
use Rattle.sixel_konsole.specs.KonsoleMeasured.{HasMeasured}
use Rattle.sixel_konsole.specs.Measuring.{MeasuresBefore}
use Rattle.sixel_konsole.proofs.KonsoleLemmas.{low_more}
use Rattle.sixel_konsole.proofs.measuring.Measuring.stays_low.Goals as goal

low_before : (m : KonsoleMeasure) (read : List Event) (pending : Option Event) → MeasuresBefore m read pending
    → ((es : List Event) (next : Option Event) → HasMeasured m es next → StaysLow es) → StaysLow read
low_before m read None h low = low read None (h None)
low_before m read (Some e) h low = low read (Some e) h

pub returns : goal.returns
returns c = λ is events h.
    let m = c.args.self.now in
    subst StaysLow (sym h.are)
    (low_more h.read (option_to_list m.pending)
    (low_before m.measure h.read m.pending h.measures (c.stays_low.ensures is)))
