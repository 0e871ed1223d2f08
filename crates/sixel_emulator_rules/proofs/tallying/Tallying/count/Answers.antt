use Rattle.std.proofs.Common.{◌≡◌, ◌∙◌, ◌-◌, Bool, true, List, Option, Some, ap, ap₂, set, sym}
use Rattle.sixel_emulator_rules.specs.Asked.{number_of}
use Rattle.sixel_emulator_rules.specs.Counts.{asked_in}
use Rattle.sixel_emulator_rules.specs.Tallying.{next_tally, tally_in}
use Rattle.sixel_emulator_rules.specs.declared.tally.AskedEntry.{AskedEntry}
use Rattle.sixel_emulator_rules.proofs.TallyLemmas.{not_tallied}
use Rattle.sixel_emulator_rules.proofs.tallying.Tallying.count.Goals as goal

pub returns-in-Some : goal.returns-in-Some
returns-in-Some c =
    let old = c.args.self.now in
    let rule = c.args.rule in
    let asked : asked_in old.terminals old.notes c.args.event.now rule ≡ true =
    sym c.counts.ensures ∙ c.if-counts.true in
    let tally : tally_in old.tallies rule ≡ Some c.in-Some.tally = sym c.tally_of.ensures ∙ c.in-Some.is in
    ap (λ (l : List (Option AskedEntry)). record old { tallies = l })
    (c.put.ensures
    ∙ ap (λ (o : Option AskedEntry). set old.tallies (number_of rule - 14) o)
    (c.counted.ensures rule c.args.place
    ∙ sym (ap₂ (λ (b : Bool) (o : Option AskedEntry). next_tally rule c.args.place b o) asked tally)))

pub returns-else-counts : goal.returns-else-counts
returns-else-counts c =
    let old = c.args.self.now in
    ap (λ (l : List (Option AskedEntry)). record old { tallies = l })
    (sym (not_tallied old.terminals old.notes c.args.place c.args.event.now old.tallies c.args.rule
    (sym c.counts.ensures ∙ c.if-counts.false)))
