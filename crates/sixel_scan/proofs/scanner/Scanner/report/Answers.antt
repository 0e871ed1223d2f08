use Rattle.std.proofs.Common.{length, refl}
use Rattle.sixel_model.specs.Profiles.{count_of}
use Rattle.sixel_scan.proofs.scanner.Scanner.report.Goals as goal

pub told-requires : goal.told-requires
told-requires c =
    let brief = c.finish-checked.ensures (count_of c.args.self.now.profile) c.requires.0
    (rw c.replace.ensures.value c.requires.1) in
    (brief.checked, length c.requires.0, brief.result_is, brief.within, c.requires.2)

pub returns-clause-reported : goal.returns-clause-reported
returns-clause-reported c = λ bytes read.
    let brief = c.finish-checked.ensures (count_of c.args.self.now.profile) bytes (rw c.replace.ensures.value read) in
    record {
      place = refl;
      checked = brief.checked;
      answers = brief.answers;
      tells = c.told.ensures brief.checked brief.result_is;
    }
