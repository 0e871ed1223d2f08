use Rattle.sixel_encode_laws.proofs.LongestLemmas
use Rattle.sixel_encode_laws.proofs.laws.runs_are_longest.Goals as goal

pub returns : goal.returns
returns c = record { joined = LongestLemmas.runs_joined; longest = LongestLemmas.runs_longest }
