use Rattle.std.proofs.Common.{◌≡◌, ◌∙◌, ◌+◌, ◌-◌, ◌++◌, ℕ, List, ap, arith, drop, length, subst, take}
use Rattle.std.proofs.Math.Seq.{take-length}
use Rattle.sixel_grammar.specs.declared.command.Placed.{Placed}
use Rattle.sixel_grammar.specs.Stretches.{sixels_from}
use Rattle.sixel_emulator.specs.Modelled.{HasFollowed}
use Rattle.sixel_emulator.proofs.ModelledLemmas.{more_sixels}
use Rattle.sixel_emulator.proofs.modelled.Modelled.push_settled.Goals as goal

in_parts : (before : List Placed) (place : ℕ) (bytes : List ℕ) (t : ℕ) → t + (length bytes - t) ≡ length bytes
    → (before ++ sixels_from place (take t bytes))
    ++ sixels_from (place + t) (take (length bytes - t) (drop t bytes))
    ≡ before ++ sixels_from place bytes
in_parts before place bytes t all =
    more_sixels before place bytes t (length bytes - t)
    ∙ ap (λ (k : ℕ). before ++ sixels_from place (take k bytes)) all
    ∙ ap (λ (l : List ℕ). before ++ sixels_from place l) (take-length bytes)

pub returns-then-taken-bytes-clause-followed : goal.returns-then-taken-bytes-clause-followed
returns-then-taken-bytes-clause-followed g c = λ opening before h.
    let t = c.add_some-taken.result in
    let bytes = c.args.bytes.now in
    let all : t + (length bytes - t) ≡ length bytes = omega (arith, c.add_some-taken.ensures.counts.1) in
    subst (HasFollowed g.R.Reading.model g.R.Reading.has_seen c.push_each.new.self opening)
    (in_parts before c.args.place bytes t all)
    (c.push_each.ensures.followed opening (before ++ sixels_from c.args.place (take t bytes))
    (c.add_some-taken.ensures.followed opening before h))
