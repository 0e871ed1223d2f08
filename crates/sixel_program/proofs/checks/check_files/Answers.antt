use Rattle.std.proofs.Common.{◌≡◌, ◌∙◌, ◌+◌, ◌∷◌, ◌++◌, ◌||◌, [], ℕ, List, ap, ap₂, arith, drop, false, inr, map, refl}
use Rattle.std.proofs.Common.{sym, take, true}
use Rattle.sixel_messages.specs.declared.hints.Cause.{Cause}
use Rattle.sixel_messages.specs.Hints.{causes_in, with_causes}
use Rattle.std.specs.String.{string_bytes}
use Rattle.std.proofs.lemmas.List.{take_all}
use Rattle.sixel_program.proofs.FilesLemmas.{all_labels, all_names, checked_more, cut_after, ended, labels_none}
use Rattle.sixel_program.proofs.FilesLemmas.{labels_some, more_labels, more_names, none_checked}
use Rattle.sixel_program.proofs.DashLemmas.{first_dash, labels_read, names_labelled, no_dash_before, no_dash_last}
use Rattle.sixel_program.specs.Peeked.{peeked_state}
use Rattle.sixel_program.proofs.checks.check_files.Goals as goal

pub returns-then-is_empty-clause-checked : goal.returns-then-is_empty-clause-checked
returns-then-is_empty-clause-checked g c =
    rw (labels_none c.args.names.now (sym c.is_empty.ensures ∙ c.if-is_empty.true)) c.check_input.ensures

pub returns-then-is_empty-clause-unread : goal.returns-then-is_empty-clause-unread
returns-then-is_empty-clause-unread g c = λ none.
    let read = rw (sym (labels_read c.args.task.now (map string_bytes c.args.names.now) c.requires.lines)) at none in
    let no : true ≡ false = rw (labels_none c.args.names.now (sym c.is_empty.ensures ∙ c.if-is_empty.true)) at read in
    cc

pub loop-name-init : goal.loop-name-init
loop-name-init g c = (([], none_checked _ _ _ _ _ _, c.new-causes.ensures, refl, refl, refl), λ none. refl)

pub loop-name-preserved : goal.loop-name-preserved
loop-name-preserved g c =
    let all_of = all_names c.args.names.now c.loop-name.name-index c.name-item.result c.as_str.result.now
    c.loop-name-test.true c.name-item.is c.as_str.ensures.value in
    let more = more_labels c.args.names.now c.loop-name.name-index c.name-item.result c.as_str.result.now
    c.loop-name-test.true c.name-item.is c.as_str.ensures.value in
    let names = map string_bytes (take c.loop-name.name-index c.args.names.now) in
    let name = c.as_str.result.now in
    let rest = map string_bytes (drop (c.loop-name.name-index + 1) c.args.names.now) in
    let all = checked_more _ _ _ _ _ _ _ _ _
    (peeked_state (drop c.check_file.new.input.given c.check_file.new.input.prefix.items)
    c.check_file.new.input.after (g.S.Source.state c.check_file.new.input.rest) c.check_file.new.input.failures)
    _ _ _ _ _ _ c.loop-name.invariant.0.1
    (λ other. let same = c.in-Ok.ensures.unread other in cc same)
    (λ dash. rw (names_labelled names) (first_dash names name rest (rw all_of at c.requires.once) dash))
    (λ none. rw (c.loop-name.invariant.1 (rw (names_labelled names) at none)) refl) _ c.in-Ok.ensures.checked in (
      (
        all.0,
        rw (more, c.worse-exit.ensures, c.exit_of.ensures) all.1,
        c.note.ensures ∙ ap (λ (cs : List Cause). with_causes cs (causes_in c.in-Ok.answer)) c.loop-name.invariant.0.2 ∙ sym all.2,
        ap₂ ◌||◌ c.loop-name.invariant.0.3 c.has_wrapped-wrapped.ensures ∙ sym all.3,
        ap₂ ◌+◌ c.loop-name.invariant.0.4 c.failures_in-failed.ensures ∙ sym all.4,
        all.5 ∙ ap (λ (n : ℕ). n + 1) c.loop-name.invariant.0.5,
      ),
      rw (more_names c.args.names.now c.loop-name.name-index c.name-item.result name c.loop-name-test.true
          c.name-item.is c.as_str.ensures.value)
          (λ none. c.in-Ok.ensures.unread (no_dash_last names name none)
          ∙ c.loop-name.invariant.1 (no_dash_before names (name ∷ []) none)),
    )

pub returns-in-Err-clause-checked : goal.returns-in-Err-clause-checked
returns-in-Err-clause-checked g c =
    let all = all_names c.args.names.now c.loop-name.name-index c.name-item.result c.as_str.result.now
    c.loop-name-test.true c.name-item.is c.as_str.ensures.value in
    let names = map string_bytes (take c.loop-name.name-index c.args.names.now) in
    let rest = map string_bytes (drop (c.loop-name.name-index + 1) c.args.names.now) in
    rw c.unwritten.ensures.exit
    (inr (cut_after _ _ _ _ _ _ _ _ _
    (peeked_state (drop c.check_file.new.input.given c.check_file.new.input.prefix.items)
    c.check_file.new.input.after (g.S.Source.state c.check_file.new.input.rest) c.check_file.new.input.failures)
    _ _ _ _ _ _ c.loop-name.invariant.0.1
    (λ other. let same = c.in-Err.ensures.unread other in cc same)
    (λ dash. rw (names_labelled names) (first_dash names c.as_str.result.now rest (rw all at c.requires.once) dash))
    (λ none. rw (c.loop-name.invariant.1 (rw (names_labelled names) at none)) refl) c.in-Err.field-0 _ _ _
    (all_labels c.args.names.now c.loop-name.name-index c.name-item.result c.as_str.result.now c.loop-name-test.true
    c.name-item.is c.as_str.ensures.value (sym c.is_empty.ensures ∙ c.if-is_empty.false))
    c.in-Err.ensures.checked c.unwritten.ensures.said))

pub returns-in-Err-clause-unread : goal.returns-in-Err-clause-unread
returns-in-Err-clause-unread g c = λ none.
    let all = all_names c.args.names.now c.loop-name.name-index c.name-item.result c.as_str.result.now
    c.loop-name-test.true c.name-item.is c.as_str.ensures.value in
    let names = map string_bytes (take c.loop-name.name-index c.args.names.now) in
    let name = c.as_str.result.now in
    let read = rw (sym (labels_read c.args.task.now (map string_bytes c.args.names.now) c.requires.lines)) at none in
    let named = rw
    (labels_some c.args.names.now (sym c.is_empty.ensures ∙ c.if-is_empty.false), names_labelled _) at read in
    let before = no_dash_before (names ++ name ∷ [])
    (map string_bytes (drop (c.loop-name.name-index + 1) c.args.names.now)) (rw all at named) in
    c.in-Err.ensures.unread (no_dash_last names name before)
    ∙ c.loop-name.invariant.1 (no_dash_before names (name ∷ []) before)

pub returns-clause-checked : goal.returns-clause-checked
returns-clause-checked g c =
    let all = rw
    (take_all c.loop-name.name-index c.args.names.now c.loop-name-test.false) at c.loop-name.invariant.0.1 in
    rw (labels_some c.args.names.now (sym c.is_empty.ensures ∙ c.if-is_empty.false))
    (ended _ _ _ _ _ _ _ _ _ _ _ _ _ _ _ _ _ _ _ all c.loop-name.invariant.0.2 c.loop-name.invariant.0.3
    c.loop-name.invariant.0.4 (omega (arith, c.loop-name.invariant.0.5, c.loop-name-test.false, c.loop-name.auto.name-index-end))
    c.finish.ensures)
