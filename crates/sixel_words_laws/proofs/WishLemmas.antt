-- Arguments that ask for a name to be explained.
use Rattle.std.proofs.Common.{◌≡◌, ◌∙◌, ◌∷◌, List, [], None, Option, Some, ap, codes, false, is_some, refl, subst, sym}
use Rattle.std.proofs.Common.{true}
use Rattle.std.specs.Option.{option_and_then}
use Rattle.std.proofs.lemmas.List.Elements.{All-contains}
use Rattle.clap.specs.Simple.{subcommand_of}
use Rattle.clap.specs.Takes.{takes, walk_passes}
use Rattle.clap.specs.Walk.{Row, all_of, walked}
use Rattle.sixel_explain.specs.declared.explanations.Topic.{Topic}
use Rattle.sixel_explain.specs.Explanations.{Asks, line_of, listed_names, names_in, topic_name}
use Rattle.sixel_report.specs.Texts.{Text}
use Rattle.sixel_words.proofs.MatchLemmas.{rows_in}
use Rattle.sixel_explain.proofs.NameLemmas.{each, name_listed}
use Rattle.sixel_words.specs.Words.{AsksFor}
use Rattle.sixel_commands.specs.Commands.{sixel_app}

abbrev explain : Text → Text → List Text
explain program name = program ∷ codes "explain" ∷ name ∷ []

-- the names that the program reads in the words after `explain`
abbrev asked : Text → Text → Option (List Text)
asked program name =
    option_and_then (λ said. names_in (line_of said))
    (all_of (codes "name") (rows_in (subcommand_of sixel_app (explain program name))))

-- what was said asks for the names that are read in it
asks : (said : Option (List Text)) (names : List Text) → option_and_then (λ s. names_in (line_of s)) said ≡ Some names
    → Asks said names
asks None names is = let bad : None ≡ Some names = is in cc
asks (Some s) names is = is

pub name_taken : (program : Text) (t : Topic)
    → takes sixel_app (program ∷ codes "explain" ∷ topic_name t ∷ []) ≡ true
unfolding walked walk_passes
name_taken program t =
    All-contains (λ (name : Text). takes sixel_app (explain program name) ≡ true) listed_names (topic_name t)
    (each (λ (name : Text). takes sixel_app (explain program name)) (λ name. true) listed_names refl) (name_listed t)

pub name_asked : (program : Text) (t : Topic)
    → AsksFor (program ∷ codes "explain" ∷ topic_name t ∷ []) (topic_name t ∷ [])
unfolding walked
name_asked program t = (
  rows_in (subcommand_of sixel_app (explain program (topic_name t))),
  refl,
  asks (all_of (codes "name") (rows_in (subcommand_of sixel_app (explain program (topic_name t))))) (topic_name t ∷ [])
      (All-contains (λ (name : Text). asked program name ≡ Some (name ∷ [])) listed_names (topic_name t)
      (each (asked program) (λ (name : Text). Some (name ∷ [])) listed_names refl) (name_listed t)),
)

-- what the words after the subcommand's name ask for, if they are those of `explain`
abbrev pub read_in : List Text → Option (List Text)
read_in words =
    option_and_then (λ said. names_in (line_of said)) (all_of (codes "name") (rows_in (subcommand_of sixel_app words)))

unread : (said : Option (List Text)) (names : List Text) → option_and_then (λ s. names_in (line_of s)) said ≡ None
    → is_some said ≡ true → Asks said names → ⊥
unread None names none some asks = let bad : false ≡ true = some in cc
unread (Some s) names none some asks = let bad : None ≡ Some names = sym none ∙ asks in cc

-- words in which no names are read ask for nothing
pub asks_none : (words : List Text) (names : List Text) → read_in words ≡ None
    → is_some (all_of (codes "name") (rows_in (subcommand_of sixel_app words))) ≡ true → AsksFor words names → ⊥
asks_none words names none some (rows, is, asks) =
    let same : rows_in (subcommand_of sixel_app words) ≡ rows = ap rows_in is in
    unread (all_of (codes "name") rows) names
    (subst (λ (r : List Row). option_and_then (λ said. names_in (line_of said)) (all_of (codes "name") r) ≡ None) same
    none)
    (subst (λ (r : List Row). is_some (all_of (codes "name") r) ≡ true) same some) asks
