use Rattle.sixel_model.specs.Profiles.{count_of}
use Rattle.sixel_promise_laws.proofs.NoneLemmas.{check_gives_the_verdict, same_in_check}
use Rattle.sixel_promise_laws.proofs.laws.a_check_for_none_gives_the_verdict.Goals as goal

pub returns : goal.returns
returns c = record { given = check_gives_the_verdict; answered = λ profile. same_in_check (count_of profile) }
