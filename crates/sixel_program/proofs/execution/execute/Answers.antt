use Rattle.std.proofs.Common.{◌∙◌, refl, rules, sym}
use Rattle.sixel_program.proofs.RequestLemmas.{request_no_usage}
use Rattle.sixel_program.proofs.StatusLemmas.{all_read_done, all_read_judged, one_read_broken}
use Rattle.sixel_program.proofs.execution.execute.Goals as goal

pub returns-clause-ends : goal.returns-clause-ends
returns-clause-ends g c = λ is. (_, c.announce.ensures, c.answer.ensures.ends)

pub returns-clause-unread : goal.returns-clause-unread
returns-clause-unread g c = c.answer.ensures.unread

pub returns-clause-done : goal.returns-clause-done
returns-clause-done g c = λ is. all_read_done _ _ _ _ _ _ _ _ _ c.answer.ensures.ends (search rules)

pub returns-clause-broken : goal.returns-clause-broken
returns-clause-broken g c = λ is. one_read_broken _ _ _ _ _ _ _ _ _ c.answer.ensures.ends (search rules)

pub returns-clause-judged : goal.returns-clause-judged
returns-clause-judged g c = λ is. all_read_judged _ _ _ _ _ _ _ _ _ c.answer.ensures.ends (search rules)

pub returns-clause-usage : goal.returns-clause-usage
returns-clause-usage g c = λ is. absurd (request_no_usage _ _ _ _ _ _ _ _ _ c.answer.ensures.ends (search rules))

pub returns-clause-redirected : goal.returns-clause-redirected
returns-clause-redirected g c = λ is. absurd (request_no_usage _ _ _ _ _ _ _ _ _ c.answer.ensures.ends (search rules))

pub returns-clause-untouched : goal.returns-clause-untouched
returns-clause-untouched g c = λ is. absurd (request_no_usage _ _ _ _ _ _ _ _ _ c.answer.ensures.ends (search rules))

pub returns-clause-unwritten : goal.returns-clause-unwritten
returns-clause-unwritten g c = λ is. absurd (request_no_usage _ _ _ _ _ _ _ _ _ c.answer.ensures.ends (search rules))

pub returns-then-is_misdirected-clause-redirected : goal.returns-then-is_misdirected-clause-redirected
returns-then-is_misdirected-clause-redirected g c = λ is.
    rw (sym c.is_misdirected.ensures ∙ c.if-is_misdirected.true) c.put_redirection.ensures

pub returns-then-is_misdirected-clause-untouched : goal.returns-then-is_misdirected-clause-untouched
returns-then-is_misdirected-clause-untouched g c = λ is. refl

pub returns-then-is_misdirected-clause-unwritten : goal.returns-then-is_misdirected-clause-unwritten
returns-then-is_misdirected-clause-unwritten g c = λ is. refl
