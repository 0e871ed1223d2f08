-- On the verdict on a whole list: its picture is portable, and its finding matters, unless the rule is conservative.
use Rattle.std.proofs.Common.{◌≡◌, ℕ, List, IsTrue, subst}
use Rattle.sixel_grammar.specs.declared.command.Placed.{Placed}
use Rattle.sixel_grammar.specs.Document.{AreWhole, events_of}
use Rattle.sixel_model.specs.Profiles.{count_of}
use Rattle.sixel_judge.specs.declared.verdict.Verdict.{Verdict}
use Rattle.sixel_judge.specs.declared.verdict.Verdict.TheVariants.{Portable, Broken}
use Rattle.sixel_judge.specs.Alarms.{MattersUnlessConservative}
use Rattle.sixel_judge.specs.Laws.{VerdictIsLeft}
use Rattle.sixel_judge.specs.Portable.{IsShownEverywhere}
use Rattle.sixel_judge.specs.Standing.{CheckerValue, StandsAfter, is_whole}
use Rattle.sixel_judge.specs.Verdicts.{IsVerdict}
use Rattle.sixel_judge.proofs.DifferenceLemmas.{verdict_matters}
use Rattle.sixel_judge.proofs.ShownLemmas.{left_is_portable}
use Rattle.sixel_judge.proofs.StandLemmas.{registers_inside, stands_whole}
use Rattle.sixel_judge.proofs.VerdictLemmas.{verdict_once}

pub verdict_is_left : (n : ℕ) → VerdictIsLeft n
verdict_is_left n placed p none is = ((none, is), λ v k. verdict_once n placed v (Portable p) k (none, is))

-- a picture in a verdict on a whole list is portable
pub verdict_everywhere : (n : ℕ) (placed : List Placed) (v : Verdict) → AreWhole (events_of placed)
    → IsVerdict n placed v → IsShownEverywhere n (events_of placed) v
verdict_everywhere n placed (Portable p) whole k = rw k.1 (left_is_portable n (events_of placed) whole k.0)
verdict_everywhere n placed (Broken f) whole k = tt

-- the same for each verdict on the events that a checker has seen
pub stands_everywhere : (others registers : ℕ) (checker : CheckerValue) (first seen : List Placed) (v : Verdict)
    → StandsAfter others checker first → IsTrue (is_whole first) → StandsAfter registers checker seen
    → IsVerdict registers seen v → IsShownEverywhere registers (events_of seen) v
stands_everywhere others registers checker first seen v f whole s k =
    verdict_everywhere registers seen v (stands_whole _ _ checker first seen f whole s) k

-- a finding on the events that a checker has seen matters, unless its rule is conservative
pub stands_truly : (others registers : ℕ) (checker : CheckerValue) (first seen : List Placed) (v : Verdict)
    → StandsAfter others checker first → IsTrue (is_whole first) → StandsAfter registers checker seen
    → IsVerdict registers seen v → MattersUnlessConservative registers seen v
stands_truly others registers checker first seen v f whole s k =
    verdict_matters registers seen v (stands_whole _ _ checker first seen f whole s) k

-- the verdict of its judge is that of the checker
pub verdict_inside : (registers : ℕ) (inside checker : CheckerValue) (seen : List Placed) (v : Verdict)
    → inside ≡ checker → StandsAfter registers checker seen → IsVerdict (count_of inside.profile) seen v
    → IsVerdict registers seen v
verdict_inside registers inside checker seen v is s k =
    subst (λ (n : ℕ). IsVerdict n seen v) (registers_inside registers inside checker seen is s) k
