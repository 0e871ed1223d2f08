use Rattle.std.proofs.Common.{◌≡◌, None, Some, ap, ◌∙◌}
use Rattle.sixel_grammar.specs.Document.{events_of}
use Rattle.sixel_model.specs.Profiles.{count_of}
use Rattle.sixel_judge.specs.Counting.{IsHit}
use Rattle.sixel_survey.specs.Tallies.{next_tally, tally_in}
use Rattle.sixel_survey.proofs.TallyLemmas.{tally_push}
use Rattle.sixel_survey.proofs.TallyingLemmas.{tallied_kept, tallied_set}
use Rattle.sixel_survey.proofs.tallying.tally_rule.Goals as goal

pub returns-in-Some : goal.returns-in-Some
returns-in-Some g c = λ seen done n k new t.
    let registers = count_of c.args.profile in
    let p = c.args.placed.now in
    let old = tally_in c.args.tallies.now c.args.rule in
    let hit : IsHit registers c.args.rule (events_of seen) p.event (Some c.in-Some.hit) =
    c.in-Some.ensures (events_of seen) n k in
    let counted : Some c.counted.result ≡ next_tally c.args.rule p.place (Some c.in-Some.hit) old =
    c.counted.ensures ∙ ap (next_tally c.args.rule p.place (Some c.in-Some.hit)) c.tally_of-tally.ensures in
    rw (c.put.ensures, counted)
    (tallied_set c.args.rule _ (tally_push registers c.args.rule seen p (Some c.in-Some.hit) old hit
    (t.before c.args.rule new)) t)

pub returns-in_default : goal.returns-in_default
returns-in_default g c = λ seen done n k new t.
    let registers = count_of c.args.profile in
    let p = c.args.placed.now in
    let old = tally_in c.args.tallies.now c.args.rule in
    let hit : IsHit registers c.args.rule (events_of seen) p.event None =
    rw c.in_default.is at (c.hit_of.ensures (events_of seen) n k) in
    tallied_kept c.args.rule (tally_push registers c.args.rule seen p None old hit (t.before c.args.rule new)) t
