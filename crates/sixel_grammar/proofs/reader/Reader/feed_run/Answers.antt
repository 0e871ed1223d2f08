use Rattle.std.proofs.Common.{◌≡◌, ◌∙◌, ◌<◌, ◌-◌, ℕ, false, [], List, Option, IsNone, IsSome, ap, arith, get_or, length}
use Rattle.std.proofs.Common.{refl, subst, sym}
use Rattle.std.proofs.lemmas.Bool.{eqb-true}
use Rattle.std.proofs.lemmas.List.{get_or-take, length-take}
use Rattle.sixel_grammar.specs.declared.command.Run.{Run}
use Rattle.sixel_grammar.specs.Bytes.{is_data}
use Rattle.sixel_grammar.specs.Document.{most_bytes}
use Rattle.sixel_grammar.specs.Runs.{EndsNoRepeat, LeadsTo, TakesRun, selected, selected_at}
use Rattle.sixel_grammar.proofs.NoRunLemmas.{begins_none, found_none, open_or_full}
use Rattle.sixel_grammar.proofs.RunLemmas.{behind_run, run_taken, select_opened}
use Rattle.sixel_grammar.proofs.reader.Reader.feed_run.Goals as goal
use Rattle.sixel_grammar.proofs.reader.Reader.feed_run.Goals.{then-self-eq0-via-then-self-eq0}
use Rattle.sixel_grammar.proofs.reader.Reader.feed_run.Goals.{then-self-eq0-via-else-self-eq0+then-is_empty}
use Rattle.sixel_grammar.proofs.reader.Reader.feed_run.Goals.{then-self-eq0-via-else-self-eq0+else-is_empty+then-not-begins_run}

pub returns-in-Some-clause-sixels : goal.returns-in-Some-clause-sixels
returns-in-Some-clause-sixels c = λ is k from under.
    let run = c.take_columns.ensures.run in
    let found = c.in-Some.ensures in
    let within : k < c.args.self.now.left =
    omega (
      arith,
      under,
      ap (λ (r : Run). r.length) run,
      found.within.1,
      ap length c.first_bytes-seen.ensures,
      length-take c.args.self.now.left c.args.bytes.now,
    ) in
    ap is_data (sym (ap (λ (t : List ℕ). get_or t k 0) c.first_bytes-seen.ensures
    ∙ get_or-take c.args.self.now.left c.args.bytes.now k 0 within))
    ∙ found.sixels (sym (ap (λ (r : Run). r.columns) run) ∙ is) k
    (omega (arith, from, ap (λ (r : Run). r.start) run))
    (omega (arith, under, ap (λ (r : Run). r.length) run))

pub returns-in-Some-clause-taken : goal.returns-in-Some-clause-taken
returns-in-Some-clause-taken c =
    let r = c.args.self.now in
    let took = c.take_columns.ensures in
    let found = c.in-Some.ensures in
    let start = c.select_in-start.ensures in
    let place = c.take_columns.result.place in
    subst (λ (run : Run). TakesRun r c.take_columns.new.self run c.args.bytes.now) (sym took.run)
    (run_taken r c.take_columns.new.self _ c.args.bytes.now
    (r.ready (omega (arith, c.if-self-eq0.false))).2 took.pending took.fault took.left refl found.within.0
    c.first_bytes-seen.result.now c.first_bytes-seen.ensures found.within.1
    (found.leads _ c.select_in-start.result.register (start.leads _)))

pub returns-in-Some-clause-longest : goal.returns-in-Some-clause-longest
returns-in-Some-clause-longest c = λ is more.
    let run = c.take_columns.ensures.run in
    let r = c.args.self.now in
    behind_run c.take_columns.new.self r.left c.take_columns.result.length c.args.bytes.now
    c.first_bytes-seen.result.now c.first_bytes-seen.ensures
    (c.take_columns.ensures.left ∙ ap (λ (n : ℕ). r.left - n) (sym (ap (λ (t : Run). t.length) run)))
    more
    (λ room. ap (λ (n : ℕ). is_data (get_or c.first_bytes-seen.result.now n 0)) (ap (λ (t : Run). t.length) run)
    ∙ c.in-Some.ensures.longest (sym (ap (λ (t : Run). t.columns) run) ∙ is)
    (omega (arith, room, ap (λ (t : Run). t.length) run)))

pub returns-in-Some-register-clause-within : goal.returns-in-Some-register-clause-within
returns-in-Some-register-clause-within c =
    let run = c.open_select.ensures.run in
    let some = c.select_in-start.ensures in (
      let some_bytes = some.some (subst IsSome (sym c.in-Some-register.is) refl) in
          omega (arith, ap (λ (r : Run). r.start) run, ap (λ (r : Run). r.length) run, some_bytes),
      omega (
        arith,
        ap (λ (r : Run). r.length) run,
        some.within,
        ap length c.first_bytes-seen.ensures,
        length-take c.args.self.now.left c.args.bytes.now,
      ),
    )

pub returns-in-Some-register-clause-taken : goal.returns-in-Some-register-clause-taken
returns-in-Some-register-clause-taken c =
    let r = c.args.self.now in
    let q = c.open_select.new.self in
    let took = c.open_select.ensures in
    let place : ℕ = most_bytes - r.left in
    subst (λ (run : Run). TakesRun r q run c.args.bytes.now) (sym took.run)
    (select_opened r q c.in-Some-register.register c.select_in-start.result.end _ c.args.bytes.now
    (r.ready (omega (arith, c.if-self-eq0.false))).2 took.form took.fault took.left took.opened refl
    c.first_bytes-seen.result.now c.first_bytes-seen.ensures c.select_in-start.ensures.within
    (let P : Option ℕ → Type 0 = λ o. LeadsTo place c.first_bytes-seen.result.now c.select_in-start.result.end (selected o) []
    (selected_at place c.select_in-start.result.end o) in
    subst P c.in-Some-register.is (c.select_in-start.ensures.leads place)))

pub returns-then-self-eq0-clause-refused : goal.returns-then-self-eq0-clause-refused
returns-then-self-eq0-clause-refused c = λ _.
    elim c.then-self-eq0.branch [
      | then-self-eq0-via-then-self-eq0 w ↦ open_or_full c.args.self.now c.args.bytes.now w.if-self-eq0.true
      | then-self-eq0-via-else-self-eq0+then-is_empty w ↦
          begins_none c.args.self.now c.args.bytes.now (λ some. let none : length c.args.bytes.now ≡ 0 = eqb-true (length c.args.bytes.now) 0 (sym w.if-is_empty.ensures) in
          absurd (omega (arith, some, none)))
      | then-self-eq0-via-else-self-eq0+else-is_empty+then-not-begins_run w ↦
          begins_none c.args.self.now c.args.bytes.now (λ some. w.if-not-begins_run.ensures refl)
    ]

pub returns-in-None-register-clause-refused : goal.returns-in-None-register-clause-refused
returns-in-None-register-clause-refused c = λ _.
    let none = c.select_in-start.ensures.none (subst IsNone (sym c.in-None-register.is) refl) in
    let seen = c.first_bytes-seen.result.now in
    let P : ℕ → Type 0 = λ k. k < length seen → (is_data (get_or seen k 0) ≡ false)
    × (get_or seen k 0 ≡ 33 → EndsNoRepeat seen k) in
    found_none c.args.self.now c.args.bytes.now seen c.first_bytes-seen.ensures none.1
    (subst P none.0 (c.in-None.ensures.refused refl))
