use Rattle.std.proofs.Common.{subst}
use Rattle.sixel_model.proofs.PictureLemmas.{at_most_256}
use Rattle.sixel_survey.proofs.ReadsLemmas.{reads_on}
use Rattle.sixel_omissions.specs.Omissions.{IsFirstBare}
use Rattle.sixel_emulator_rules.specs.Asked.{is_asked}
use Rattle.sixel_emulator_rules.specs.Asking.{IsAnswer}
use Rattle.sixel_emulator_rules.specs.declared.rule.AskedRule.TheVariants.{Bare, SpaceAfter}
use Rattle.sixel_emulator_rules.specs.declared.terminals.Terminals.{Terminals}
use Rattle.sixel_emulator_check.specs.Trailer.{IsFirstSpace}
use Rattle.sixel_emulator_check.proofs.JoinLemmas.{answers_outcome}
use Rattle.sixel_emulator_check.proofs.NoneLemmas.{joined_outcome_answers}
use Rattle.sixel_emulator_check.proofs.WrittenLemmas.{if_asked}
use Rattle.sixel_emulator_check.proofs.checking.outcome_on.Goals as goal

pub returns-then-are_none : goal.returns-then-are_none
returns-then-are_none g c =
    rw (c.join_outcome.ensures, c.are_none.ensures c.if-are_none.true)
    (reads_on c.in_ok-outcome.outcome _ (g.S.Source.state c.args.input.now) _
    (λ bytes h. joined_outcome_answers _ bytes c.in_ok-outcome.outcome h) c.in_ok-outcome.ensures)

pub returns : goal.returns
returns g c =
    let asked = c.finding-asked.result in
    rw (c.add_rule.ensures, c.add_rule-with_bare.ensures, c.join_outcome-by_events.ensures)
    (reads_on _ _ (g.S.Source.state c.args.input.now) _
    (λ bytes h.
    answers_outcome _ _ h.0 bytes _ asked c.if_asked-bare.result c.if_asked-space.result (at_most_256 c.args.profile)
    h.1
    (c.outcome.ensures _ h.0 h.2.seen)
    (subst (λ (t : Terminals). IsAnswer t h.0 asked) h.2.terminals (c.finding-asked.ensures h.0 h.2.asked))
    (if_asked (is_asked c.args.terminals Bare) (IsFirstBare bytes) c.first.result c.if_asked-bare.result
    (c.first.ensures bytes h.3.bare) c.if_asked-bare.ensures)
    (if_asked (is_asked c.args.terminals SpaceAfter) (IsFirstSpace bytes) c.first-2.result c.if_asked-space.result
    (c.first-2.ensures bytes h.3.spaces) c.if_asked-space.ensures))
    c.in_ok-both.ensures.reads)
