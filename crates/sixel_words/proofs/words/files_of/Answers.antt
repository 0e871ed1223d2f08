use Rattle.std.proofs.Common.{◌≡◌, ◌∙◌, [], List, Option, ap, map, sym}
use Rattle.std.specs.Prelude.{unwrap_or}
use Rattle.std.proofs.lemmas.Result.{IfOk-weaker}
use Rattle.clap.specs.Walk.{Text, rows_of}
use Rattle.clap.specs.Matches.{found_of}
use Rattle.clap.proofs.WalkLemmas.{raw_values-rows}
use Rattle.sixel_words.specs.Words.{files_of}
use Rattle.sixel_words.proofs.words.files_of.Goals as goal

abbrev listed : Option (List Text) → List Text
listed o = unwrap_or o []

pub returns-in-Some : goal.returns-in-Some
returns-in-Some c =
    let f = found_of c.args.matches.now in
    let named : files_of (rows_of f) ≡ map (λ name. name.now) c.in-Some.names.now =
    ap listed (sym (raw_values-rows f _) ∙ sym c.in-Some.ensures) in
    IfOk-weaker c.copies.result _ _ (λ copied is. named ∙ sym is) c.copies.ensures

pub returns-in-None : goal.returns-in-None
returns-in-None c =
    let f = found_of c.args.matches.now in
    let none : files_of (rows_of f) ≡ [] = ap listed (sym (raw_values-rows f _) ∙ sym c.in-None.ensures) in
    rw c.new.ensures.items none
