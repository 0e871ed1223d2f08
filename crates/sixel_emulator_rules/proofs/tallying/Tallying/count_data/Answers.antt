use Rattle.std.proofs.Common.{List, Option, ap}
use Rattle.sixel_emulator_rules.specs.declared.tally.AskedEntry.{AskedEntry}
use Rattle.sixel_emulator_rules.proofs.TallyLemmas.{tallied_data}
use Rattle.sixel_emulator_rules.proofs.tallying.Tallying.count_data.Goals as goal

pub returns : goal.returns
returns c =
    let old = c.args.self.now in
    rw (c.count-3.ensures, c.count-2.ensures, c.count.ensures)
    (ap (λ (l : List (Option AskedEntry)). record old { tallies = l })
    (tallied_data old.terminals old.notes c.args.place c.args.event.now old.tallies c.requires))
