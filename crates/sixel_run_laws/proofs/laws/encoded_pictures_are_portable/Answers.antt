use Rattle.sixel_run_laws.proofs.RoundTripLemmas.{encoded_answers, encoded_checks, encoded_is_portable}
use Rattle.sixel_run_laws.proofs.laws.encoded_pictures_are_portable.Goals as goal

pub returns : goal.returns
returns c = record { portable = encoded_is_portable; answered = encoded_answers; checked = encoded_checks }
