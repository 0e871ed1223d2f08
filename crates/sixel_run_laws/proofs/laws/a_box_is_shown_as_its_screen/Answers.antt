use Rattle.std.specs.Prelude.{Err}
use Rattle.sixel_grammar.specs.Document.{events_of}
use Rattle.sixel_report.specs.declared.fault.RunFault.TheVariants.{NoBox}
use Rattle.sixel_report.proofs.FormatLemmas.{as_same}
use Rattle.sixel_show.specs.Outputs.{ShowBoxGives, ShowGives}
use Rattle.sixel_show.specs.Screens.{screen_terminal}
use Rattle.sixel_show.proofs.BoxLemmas.{boxed, declared_sides, refused, unboxed}
use Rattle.sixel_run_laws.proofs.BoxLemmas.{fault-boxed, fault-shown, no-box}
use Rattle.sixel_run_laws.proofs.FormatLemmas.{only_refused}
use Rattle.sixel_run_laws.proofs.laws.a_box_is_shown_as_its_screen.Goals as goal

pub returns-clause-shown : goal.returns-clause-shown
returns-clause-shown c = λ profile showing fill selects width height format bytes d.
    let terminal = screen_terminal profile showing fill selects in (
      declared_sides (events_of d.0) (width, height) d.2,
      as_same (ShowBoxGives profile terminal bytes) (ShowGives profile (terminal (width, height)) bytes) format
          (λ text answer. (
            unboxed profile terminal bytes d.0 (width, height) d.1 d.2 text answer,
            boxed profile terminal bytes d.0 (width, height) d.1 d.2 text answer,
          )),
    )

pub returns-clause-refused : goal.returns-clause-refused
returns-clause-refused c = λ profile showing fill selects format bytes text answer d.
    let terminal = screen_terminal profile showing fill selects in
    only_refused format (ShowBoxGives profile terminal bytes) (Err NoBox)
    (λ t a. (
      refused profile terminal bytes d.0 d.1 d.2 t a,
      λ is. no-box profile terminal bytes d.0 d.1 d.2 t a is.0 is.1,
    )) text answer

pub returns-clause-faulty : goal.returns-clause-faulty
returns-clause-faulty c = λ profile showing fill selects width height format bytes fault is.
    let terminal = screen_terminal profile showing fill selects in
    as_same (ShowBoxGives profile terminal bytes) (ShowGives profile (terminal (width, height)) bytes) format
    (λ text answer. (
      fault-shown profile terminal (width, height) bytes fault is text answer,
      fault-boxed profile terminal (width, height) bytes fault is text answer,
    ))
