use Rattle.std.proofs.Common.{inr, refl}
use Rattle.sixel_report.proofs.PutLemmas.{is_put}
use Rattle.sixel_words.proofs.telling.explain.Goals as goal

pub returns-in-Err : goal.returns-in-Err
returns-in-Err g c =
    let shown = c.in-Err.ensures.bytes in (
      shown.0,
      shown.1,
      inr (
        shown.2.0,
        refl,
        shown.2.1,
        c.in-Err.ensures.failures,
        is_put c.write_fault.result _ _ _ c.write_fault.ensures,
      ),
    )
