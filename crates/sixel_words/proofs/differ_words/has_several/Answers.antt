use Rattle.std.proofs.Common.{◌≡◌, ◌∙◌, List, [], Option, ap, map, sym}
use Rattle.std.specs.Prelude.{length, nat_lt, unwrap_or, ℕ}
use Rattle.std.proofs.lemmas.List.{length-map}
use Rattle.clap.specs.Walk.{Text, rows_of}
use Rattle.clap.specs.Matches.{found_of}
use Rattle.clap.proofs.WalkLemmas.{raw_values-rows}
use Rattle.sixel_words.specs.Words.{files_of}
use Rattle.sixel_words.proofs.differ_words.has_several.Goals as goal

abbrev listed : Option (List Text) → List Text
listed o = unwrap_or o []

pub returns-in-Some : goal.returns-in-Some
returns-in-Some c =
    let f = found_of c.args.matches.now in
    let named : files_of (rows_of f) ≡ map (λ name. name.now) c.in-Some.names.now =
    ap listed (sym (raw_values-rows f _) ∙ sym c.in-Some.ensures) in
    ap (λ (n : ℕ). nat_lt 1 n) (ap length named ∙ length-map c.in-Some.names.now _)

pub returns-in-None : goal.returns-in-None
returns-in-None c =
    let f = found_of c.args.matches.now in
    let none : files_of (rows_of f) ≡ [] = ap listed (sym (raw_values-rows f _) ∙ sym c.in-None.ensures) in
    ap (λ (n : ℕ). nat_lt 1 n) (ap length none)
