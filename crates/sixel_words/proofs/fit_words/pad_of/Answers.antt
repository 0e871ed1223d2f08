use Rattle.std.proofs.Common.{◌≡◌, ◌∙◌, List, None, Some, codes, map, sym}
use Rattle.std.specs.Borrow.{Bor}
use Rattle.clap.specs.Walk.{Text, all_of, first_of, rows_of}
use Rattle.clap.specs.Matches.{found_of}
use Rattle.clap.proofs.WalkLemmas.{first_value-rows, raw_values-rows}
use Rattle.sixel_words.specs.Words.{HasPad, IsColourText}
use Rattle.sixel_words.proofs.ColourLemmas.{some_weaker}
use Rattle.sixel_words.proofs.FitLemmas.{pad_absent, pad_alone, pad_given, pad_of_given}
use Rattle.sixel_words.proofs.fit_words.pad_of.Goals as goal

pub returns-in-None-clause-some : goal.returns-in-None-clause-some
returns-in-None-clause-some c =
    pad_absent (rows_of (found_of c.args.matches.now)) c.args.fallback
    (sym (first_value-rows (found_of c.args.matches.now) (codes "pad")) ∙ sym c.in-None.ensures)

pub returns-in-Some-get_raw-clause-some : goal.returns-in-Some-get_raw-clause-some
returns-in-Some-get_raw-clause-some c =
    let f = found_of c.args.matches.now in
    let is : first_of (codes "pad") (rows_of f) ≡ Some c.in-Some.text.now =
    sym (first_value-rows f (codes "pad")) ∙ sym c.in-Some.ensures in
    let on : all_of (codes "on") (rows_of f) ≡ Some (map (λ value. value.now) c.in-Some-get_raw.field-0.now) =
    sym (raw_values-rows f (codes "on")) ∙ sym c.in-Some-get_raw.ensures in
    some_weaker (IsColourText c.in-Some.text.now) (HasPad (rows_of f) c.args.fallback) c.colour_of.result
    (λ pad has. pad_given (rows_of f) c.in-Some.text.now _ c.args.fallback pad is on has) c.colour_of.ensures.some

pub returns-in-Some-get_raw-clause-none : goal.returns-in-Some-get_raw-clause-none
returns-in-Some-get_raw-clause-none c = λ none other pad has.
    let f = found_of c.args.matches.now in
    let is : first_of (codes "pad") (rows_of f) ≡ Some c.in-Some.text.now =
    sym (first_value-rows f (codes "pad")) ∙ sym c.in-Some.ensures in
    let on : all_of (codes "on") (rows_of f) ≡ Some (map (λ value. value.now) c.in-Some-get_raw.field-0.now) =
    sym (raw_values-rows f (codes "on")) ∙ sym c.in-Some-get_raw.ensures in
    c.colour_of.ensures.none none pad (pad_of_given (rows_of f) c.in-Some.text.now _ other pad is on has)

pub returns-in-None-get_raw-clause-none : goal.returns-in-None-get_raw-clause-none
returns-in-None-get_raw-clause-none c = λ none other pad has.
    let f = found_of c.args.matches.now in
    let is : first_of (codes "pad") (rows_of f) ≡ Some c.in-Some.text.now =
    sym (first_value-rows f (codes "pad")) ∙ sym c.in-Some.ensures in
    let on : all_of (codes "on") (rows_of f) ≡ None =
    sym (raw_values-rows f (codes "on")) ∙ sym c.in-None-get_raw.ensures in
    pad_alone (rows_of f) c.in-Some.text.now other pad is on has
