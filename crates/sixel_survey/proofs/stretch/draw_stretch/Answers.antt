use Rattle.std.proofs.Common.{◌≡◌, ◌∙◌, false, true, arith, length, rules, take}
use Rattle.std.proofs.lemmas.List.{length-take-le}
use Rattle.sixel_grammar.specs.Document.{events_of}
use Rattle.sixel_judge.specs.Counting.{has_box}
use Rattle.sixel_judge.specs.Covering.{IsCoverOf}
use Rattle.sixel_plane.specs.Covers.{kept_by}
use Rattle.sixel_survey.proofs.StretchLemmas.{cover_stretch, has_box_stays, over_all}
use Rattle.sixel_survey.proofs.stretch.draw_stretch.Goals as goal

pub returns-else-not-try_cover : goal.returns-else-not-try_cover
returns-else-not-try_cover g c = λ seen place h cover.
    let bytes = c.args.bytes.now in
    let count = c.args.count in
    let yes : c.try_cover.result ≡ true = search rules in
    let here = rw c.in-Some.is at cover in
    over_all (λ l. IsCoverOf (g.P.Cover.grid c.try_cover.new.plane) (events_of l)) seen place (take count bytes) count
    (omega (arith, length-take-le count bytes c.requires.bytes))
    (rw (c.try_cover.ensures.covered yes)
    (cover_stretch seen place (kept_by g.P.Cover.keeps 0) bytes c.requires.bytes h (c.try_cover.ensures.fits yes) here
    count (omega arith)))

pub returns-in-None : goal.returns-in-None
returns-in-None g c = λ seen place h cover.
    let stretch = take c.args.count c.args.bytes.now in
    let none : has_box (events_of seen) ≡ false = rw c.in-None.is at cover in
    rw c.in-None.is
    (over_all (λ l. has_box (events_of l) ≡ false) seen place stretch (length stretch) (omega arith)
    (has_box_stays seen place stretch (length stretch) (omega arith) ∙ none))
