-- A name in any case of letters.
use Rattle.std.proofs.Common.{◌≡◌, ◌∙◌, ◌∷◌, [], Some, ap, append-nil, refl}
use Rattle.std.specs.Str.{str_to_ascii_lowercase}
use Rattle.std.proofs.lemmas.List.Elements.{All-contains}
use Rattle.sixel_explain.specs.declared.explanations.Topic.{Topic}
use Rattle.sixel_explain.specs.Explanations.{line_of, listed_names, names_in, topic_name}
use Rattle.sixel_explain.proofs.NameLemmas.{each, name_listed}
use Rattle.sixel_report.specs.Texts.{Text}

-- a name by itself in small letters, after the space of a line
name_alone : (t : Topic) → names_in (32 ∷ str_to_ascii_lowercase (topic_name t)) ≡ Some (topic_name t ∷ [])
name_alone t =
    All-contains (λ (name : Text). names_in (32 ∷ str_to_ascii_lowercase name) ≡ Some (name ∷ [])) listed_names
    (topic_name t)
    (each (λ (name : Text). names_in (32 ∷ str_to_ascii_lowercase name)) (λ (name : Text). Some (name ∷ []))
    listed_names refl) (name_listed t)

pub any_case : (t : Topic) (word : Text) → str_to_ascii_lowercase word ≡ str_to_ascii_lowercase (topic_name t)
    → names_in (line_of (word ∷ [])) ≡ Some (topic_name t ∷ [])
any_case t word same =
    ap (λ (w : Text). names_in (32 ∷ str_to_ascii_lowercase w)) (append-nil word)
    ∙ ap (λ (w : Text). names_in (32 ∷ w)) same ∙ name_alone t
