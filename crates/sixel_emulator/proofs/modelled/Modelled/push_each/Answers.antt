use Rattle.std.proofs.Common.{◌≡◌, ◌∙◌, ◌+◌, ◌-◌, ◌++◌, ℕ, List, ap, append-nil, arith, drop, length, refl, subst}
use Rattle.std.proofs.Common.{sym, take}
use Rattle.std.proofs.Math.Seq.{take-length}
use Rattle.std.proofs.lemmas.List.{length-drop}
use Rattle.sixel_grammar.specs.Stretches.{sixels_from}
use Rattle.sixel_emulator.specs.Modelled.{HasFollowed}
use Rattle.sixel_emulator.proofs.ModelledLemmas.{more_sixels}
use Rattle.sixel_emulator.proofs.modelled.Modelled.push_each.Goals as goal

pub loop-taken-init : goal.loop-taken-init
loop-taken-init g c = (
  omega arith,
  refl,
  λ opening before h.
      subst (HasFollowed g.R.Reading.model g.R.Reading.has_seen c.args.self.now opening) (sym (append-nil before)) h,
)

pub loop-taken-preserved : goal.loop-taken-preserved
loop-taken-preserved g c = (
  omega (
    arith,
    c.loop-taken.invariant.0,
    c.push_some-taken.ensures.counts.1,
    length-drop c.loop-taken.taken c.args.bytes.now,
  ),
  c.push_some-taken.ensures.terminal ∙ c.loop-taken.invariant.1,
  λ opening before h.
      subst (HasFollowed g.R.Reading.model g.R.Reading.has_seen c.push_some-taken.new.self opening)
      (more_sixels before c.args.place c.args.bytes.now c.loop-taken.taken c.push_some-taken.result)
      (subst (λ (rest : List ℕ). HasFollowed g.R.Reading.model g.R.Reading.has_seen c.push_some-taken.new.self opening
      ((before ++ sixels_from c.args.place (take c.loop-taken.taken c.args.bytes.now))
      ++ sixels_from (c.args.place + c.loop-taken.taken) (take c.push_some-taken.result rest)))
      (to_end c.args.bytes.now c.loop-taken.taken)
      (c.push_some-taken.ensures.followed opening
      (before ++ sixels_from c.args.place (take c.loop-taken.taken c.args.bytes.now))
      (c.loop-taken.invariant.2 opening before h))),
)
  where
    to_end : (bytes : List ℕ) (t : ℕ) → take (length bytes - t) (drop t bytes) ≡ drop t bytes
    to_end bytes t =
        ap (λ (k : ℕ). take k (drop t bytes)) (sym (length-drop t bytes)) ∙ take-length (drop t bytes)

pub returns-clause-terminal : goal.returns-clause-terminal
returns-clause-terminal g c = c.loop-taken.invariant.1

pub returns-clause-followed : goal.returns-clause-followed
returns-clause-followed g c = λ opening before h.
    let all : c.loop-taken.taken ≡ length c.args.bytes.now =
    omega (arith, c.loop-taken.invariant.0, c.loop-taken-test.false) in
    subst (λ (bytes : List ℕ). HasFollowed g.R.Reading.model g.R.Reading.has_seen c.loop-taken.self opening
    (before ++ sixels_from c.args.place bytes))
    (ap (λ (k : ℕ). take k c.args.bytes.now) all ∙ take-length c.args.bytes.now)
    (c.loop-taken.invariant.2 opening before h)
