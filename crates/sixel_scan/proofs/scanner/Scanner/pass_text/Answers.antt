use Rattle.std.proofs.Common.{◌≡◌, ◌∙◌, ℕ, ◌+◌, ◌++◌, ap, take, subst, sym}
use Rattle.std.proofs.lemmas.List.{length-take-le}
use Rattle.sixel_model.specs.Profiles.{count_of}
use Rattle.sixel_scan.specs.declared.opening.Opening.TheVariants.{Nothing}
use Rattle.sixel_scan.specs.declared.scanner.Stage.{Stage}
use Rattle.sixel_scan.specs.declared.scanner.Stage.TheVariants.{Text}
use Rattle.sixel_scan.specs.Standing.{StandsWith}
use Rattle.sixel_scan.specs.Marking.{KnowsWith}
use Rattle.sixel_scan.proofs.MarkLemmas.{knows_at, knows_more, plain_text}
use Rattle.sixel_scan.proofs.ReportLemmas.{stands_at}
use Rattle.sixel_scan.proofs.TextLemmas.{past_text}
use Rattle.sixel_scan.proofs.scanner.Scanner.pass_text.Goals as goal

pub returns-in-Nothing-clause-stands : goal.returns-in-Nothing-clause-stands
returns-in-Nothing-clause-stands c = λ told bytes h.
    let s = c.args.self.now in
    let count = c.text_bytes_in-count.result in
    let run = take count c.args.piece.now in
    let registers = count_of s.profile in
    let stage : s.stage ≡ Text Nothing = c.in-Text.is ∙ ap Text c.in-Nothing.is in
    subst (λ (t : Stage). StandsWith s.eight registers (s.read + count) s.opened s.check t told (bytes ++ run))
    (sym stage)
    (subst (λ (n : ℕ). StandsWith s.eight registers (s.read + n) s.opened s.check (Text Nothing) told (bytes ++ run))
    (length-take-le count c.args.piece.now c.text_bytes_in-count.ensures.within)
    (past_text run (stands_at s told bytes (Text Nothing) stage h) c.text_bytes_in-count.ensures.text))

pub returns-in-Nothing-clause-knows : goal.returns-in-Nothing-clause-knows
returns-in-Nothing-clause-knows c = λ bytes h.
    let s = c.args.self.now in
    let count = c.text_bytes_in-count.result in
    let run = take count c.args.piece.now in
    let stage : s.stage ≡ Text Nothing = c.in-Text.is ∙ ap Text c.in-Nothing.is in
    let k = knows_at s stage h in
    subst (λ (t : Stage). KnowsWith t (s.read + count) s.opened s.wrapped (bytes ++ run)) (sym stage)
    (subst (λ (n : ℕ). KnowsWith (Text Nothing) (s.read + n) s.opened s.wrapped (bytes ++ run))
    (length-take-le count c.args.piece.now c.text_bytes_in-count.ensures.within)
    (knows_more (Text Nothing) run (plain_text bytes run k.ends c.text_bytes_in-count.ensures.text) k))
