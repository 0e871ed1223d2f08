use Rattle.std.proofs.Common.{◌≡◌, ◌∙◌, [], List, None, Some, ap, codes, refl, subst, sym, map, true}
use Rattle.std.specs.String.{string_bytes}
use Rattle.std.proofs.lemmas.Result.{IfErr-weaker, IfOk-weaker}
use Rattle.clap.specs.Walk.{rows_of}
use Rattle.clap.specs.Matches.{found_of}
use Rattle.clap.specs.Takes.{takes}
use Rattle.clap.specs.Faults.{fault_of, is_simple_and_free}
use Rattle.clap.specs.Kinds.{HasKind, Kinds}
use Rattle.clap.specs.Simple.{App, is_simple, subcommand_of, subcommand_rows_of}
use Rattle.sixel_report.specs.declared.task.Task.{Task}
use Rattle.sixel_report.specs.Texts.{Text}
use Rattle.sixel_words.specs.Words.{AsksFor, IsExplanationOf, IsTaskOf, kinds_of}
use Rattle.sixel_commands.specs.Commands.{sixel_app}
use Rattle.sixel_words.proofs.FaultLemmas.{found_by_clap, found_in_taken, memory_is_wanted}
use Rattle.sixel_words.proofs.ExplainLemmas.{asked_by, refused_unasked, refused_unhelped, same_wish, unasked}
use Rattle.sixel_words.proofs.MatchLemmas.{both_parts, name_rows, none_of, not_some, request_is, same_task}
use Rattle.sixel_words.proofs.words.parse_request.Goals as goal
use Rattle.sixel_words.proofs.words.parse_request.Goals.{In-Ok-try_get_matches_from, In-Some}

-- the subcommand that was met is the one that the words name
met : (c : In-Some) → subcommand_of sixel_app (map string_bytes c.args.words.now)
    ≡ Some (c.in-Some.name.now, rows_of (found_of c.in-Some.found.now))
met c =
    let given = c.in-Ok-try_get_matches_from.ensures.matches (ap is_simple c.in-Ok.ensures) in
    sym (given.1 ∙ ap (λ (a : App). subcommand_of a (map string_bytes c.args.words.now)) c.in-Ok.ensures)
    ∙ both_parts (subcommand_rows_of c.in-Ok-try_get_matches_from.matches) c.in-Some.name.now
    (rows_of (found_of c.in-Some.found.now))
    (name_rows _ ∙ sym c.in-Some.ensures.name) (sym c.in-Some.ensures.rows)

-- clap takes the words
taken_by : (c : In-Ok-try_get_matches_from) → kinds_of (map string_bytes c.args.words.now) ≡ []
taken_by c =
    sym (ap (λ (a : App). fault_of a (map string_bytes c.args.words.now)) c.in-Ok.ensures)
    ∙ c.in-Ok-try_get_matches_from.ensures.kinds (ap is_simple_and_free c.in-Ok.ensures)

-- if clap accepts the arguments, matching them fails only with OutOfMemory
pub returns-in-Err-try_get_matches_from : goal.returns-in-Err-try_get_matches_from
returns-in-Err-try_get_matches_from c =
    let words = map string_bytes c.args.words.now in
    let memory = λ (taken : takes sixel_app words ≡ true).
    c.sorted_out.ensures.memory (c.in-Err-try_get_matches_from.ensures.passes
    (ap (λ (a : App). takes a words) c.in-Ok.ensures ∙ taken)) in
    let error = c.in-Err-try_get_matches_from.error in
    let has : HasKind (kinds_of words) error = subst (λ (k : Kinds). HasKind k error)
    (ap (λ (a : App). fault_of a words) c.in-Ok.ensures)
    (c.in-Err-try_get_matches_from.ensures.kinds (ap is_simple_and_free c.in-Ok.ensures)) in
    record {
      task = tt;
      request = tt;
      sides = tt;
      taken = tt;
      fault = record {
        sorted = c.sorted_out.ensures.sorted;
        found = found_by_clap words error c.sorted_out.result has c.sorted_out.ensures.kept
            c.sorted_out.ensures.unexplained c.sorted_out.ensures.memory;
        accepted = λ taken t is. memory taken;
        asked = unasked words c.sorted_out.result c.sorted_out.ensures.unexplained;
        explained = λ taken names asks. rw (memory taken) tt;
        unhelped = λ taken. rw (memory taken) tt;
      };
    }

-- once the task is known, the rest of the request fails only with OutOfMemory
pub returns-in-Some-task_of : goal.returns-in-Some-task_of
returns-in-Some-task_of c =
    let words = map string_bytes c.args.words.now in
    let result = c.request_of.result in
    let request = request_is (subcommand_of sixel_app words) c.in-Some.name.now
    (rows_of (found_of c.in-Some.found.now)) c.in-Some-task_of.task result
    (met (goal.at.returns-in-Some-task_of c).In-Some) c.in-Some-task_of.ensures.task
    c.request_of.ensures.task c.request_of.ensures.lines c.request_of.ensures.explains
    c.request_of.ensures.files in
    let taken = taken_by (goal.at.returns-in-Some-task_of c).In-Ok-try_get_matches_from in
    record {
      task = IfOk-weaker result _ _ (λ asked is. (is.0, is.1, is.2, is.3)) request;
      request = request;
      sides = IfOk-weaker result _ _ (λ asked is. rw is c.in-Some-task_of.ensures.sides) c.request_of.ensures.task;
      taken = IfOk-weaker result _ _ (λ asked is. taken) c.request_of.ensures.task;
      fault = IfErr-weaker result _ _ (λ fault is. rw is (memory_is_wanted words)) c.request_of.ensures.memory;
    }

pub returns-in-Some : goal.returns-in-Some
returns-in-Some c =
    let words = map string_bytes c.args.words.now in
    let name = c.in-Some.name.now in
    let rows = rows_of (found_of c.in-Some.found.now) in
    let is = met (goal.at.returns-in-Some c).In-Some in
    let none : (t : Task) → IsTaskOf words t → ⊥ = λ t wanted. c.in-None-task_of.ensures.none refl t
    (same_task (subcommand_of sixel_app words) wanted.0 name wanted.1 rows t wanted.2 is wanted.3) in
    let explained : (names : List Text) → AsksFor words names → IsExplanationOf names c.without_task.result
    = λ names asks.
    let wish = same_wish words names name rows asks is in
    c.without_task.ensures.explained wish.0 names wish.1 in
    record {
      task = tt;
      request = tt;
      sides = tt;
      taken = tt;
      fault = record {
        sorted = c.without_task.ensures.sorted;
        found = found_in_taken words c.without_task.result
            (taken_by (goal.at.returns-in-Some c).In-Ok-try_get_matches_from) c.without_task.ensures.unhelped none
            explained;
        accepted = λ taken t wanted. absurd (none t wanted);
        asked = asked_by words name rows c.without_task.result is c.without_task.ensures.asked;
        explained = λ taken names asks. explained names asks;
        unhelped = λ taken. c.without_task.ensures.unhelped;
      };
    }

-- words that name no subcommand have no task
pub returns : goal.returns
returns c =
    let words = map string_bytes c.args.words.now in
    let given = c.in-Ok-try_get_matches_from.ensures.matches (ap is_simple c.in-Ok.ensures) in
    let unmet : subcommand_of sixel_app words ≡ None =
    sym (given.1 ∙ ap (λ (a : App). subcommand_of a words) c.in-Ok.ensures)
    ∙ none_of (λ p. p.1) (subcommand_rows_of c.in-Ok-try_get_matches_from.matches) c.in-None.ensures.rows in
    let none : (t : Task) → IsTaskOf words t → ⊥ = λ t is. not_some _ (is.0, is.1) unmet is.2 in
    let unwished : (names : List Text) → AsksFor words names → ⊥ =
    λ names asks. not_some _ (codes "explain", asks.0) unmet asks.1 in
    let unhelped = refused_unhelped c.unnamed.result c.unnamed.ensures.refusal in
    record {
      task = tt;
      request = tt;
      sides = tt;
      taken = tt;
      fault = record {
        sorted = c.unnamed.ensures.sorted;
        found = found_in_taken words c.unnamed.result (taken_by (goal.at.returns c).In-Ok-try_get_matches_from) unhelped
            none (λ names asks. absurd (unwished names asks));
        accepted = λ taken t is. absurd (none t is);
        asked = refused_unasked words c.unnamed.result c.unnamed.ensures.refusal;
        explained = λ taken names asks. absurd (unwished names asks);
        unhelped = λ taken. unhelped;
      };
    }

pub returns-in-Err : goal.returns-in-Err
returns-in-Err c = record {
  task = tt;
  request = tt;
  sides = tt;
  taken = tt;
  fault = memory_is_wanted (map string_bytes c.args.words.now);
}
