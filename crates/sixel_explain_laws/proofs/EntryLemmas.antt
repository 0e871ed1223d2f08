-- The line of a survey's entry asks for its rule.
use Rattle.std.proofs.Common.{◌≡◌, ◌∙◌, ◌∷◌, ◌++◌, ◌⊎◌, ℕ, [], List, Some, ap, append_assoc, inl, inr, map, refl}
use Rattle.std.proofs.lemmas.List.{map-append}
use Rattle.std.specs.Prelude.{decimal}
use Rattle.std.specs.Char.{to_ascii_lowercase}
use Rattle.sixel_emulator_rules.specs.Names.{name_of}
use Rattle.sixel_emulator_rules.specs.declared.tally.AskedEntry.{AskedEntry}
use Rattle.sixel_survey.specs.declared.entry.Entry.{Entry}
use Rattle.sixel_report.specs.Texts.{Text, asked_entry_line, entry_line, line, pixel_parts, rule_name, spaced}
use Rattle.sixel_explain.specs.declared.explanations.Topic.{Topic}
use Rattle.sixel_explain.specs.declared.explanations.Topic.TheVariants as topic
use Rattle.sixel_explain.specs.Explanations.{line_of, names_in, topic_name}
use Rattle.sixel_explain_laws.specs.Laws.{ArePasted}
use Rattle.sixel_explain_laws.proofs.PastedLemmas.{line_after, low, low_number, name_before_number, number_nameless}
use Rattle.sixel_explain_laws.proofs.PastedLemmas.{pasted, two_numbers}

-- a name, two numbers, and the numbers of a pixel or none
entry_named : (text : Text) (t : Topic) (count place : ℕ) (pixel : List Text)
    → (pixel ≡ []) ⊎ ((x : ℕ) × (y : ℕ) × (pixel ≡ decimal x ∷ decimal y ∷ []))
    → names_in (text ++ spaced (low (topic_name t) ∷ map low (decimal count ∷ decimal place ∷ pixel)))
    ≡ Some (topic_name t ∷ [])
entry_named text t count place pixel (inl none) =
    let name = low (topic_name t) in
    ap (λ (p : List Text). names_in (text ++ spaced (name ∷ map low (decimal count ∷ decimal place ∷ p)))) none
    ∙ ap (λ (d : Text). names_in (text ++ spaced (name ∷ d ∷ low (decimal place) ∷ []))) (low_number count)
    ∙ ap (λ (d : Text). names_in (text ++ spaced (name ∷ decimal count ∷ d ∷ []))) (low_number place)
    ∙ name_before_number text t (decimal count ∷ []) place
    (number_nameless count, (number_nameless place, tt))
entry_named text t count place pixel (inr one) =
    let name = low (topic_name t) in
    let x = decimal one.0 in
    let y = decimal one.1 in
    ap (λ (p : List Text). names_in (text ++ spaced (name ∷ map low (decimal count ∷ decimal place ∷ p)))) one.2
    ∙ ap (λ (d : Text). names_in (text ++ spaced (name ∷ d ∷ low (decimal place) ∷ low x ∷ low y ∷ [])))
    (low_number count)
    ∙ ap (λ (d : Text). names_in (text ++ spaced (name ∷ decimal count ∷ d ∷ low x ∷ low y ∷ []))) (low_number place)
    ∙ ap (λ (d : Text). names_in (text ++ spaced (name ∷ decimal count ∷ decimal place ∷ d ∷ low y ∷ [])))
    (low_number one.0)
    ∙ ap (λ (d : Text). names_in (text ++ spaced (name ∷ decimal count ∷ decimal place ∷ x ∷ d ∷ [])))
    (low_number one.1)
    ∙ name_before_number text t (decimal count ∷ decimal place ∷ x ∷ []) one.1
    (number_nameless count, (number_nameless place, (number_nameless one.0, (number_nameless one.1, tt))))

-- such a line, without a text before it and after one
line_pasted : (t : Topic) (count place : ℕ) (pixel said : List Text)
    → (pixel ≡ []) ⊎ ((x : ℕ) × (y : ℕ) × (pixel ≡ decimal x ∷ decimal y ∷ []))
    → ArePasted said (line (topic_name t) (decimal count ∷ decimal place ∷ pixel))
    → names_in (line_of said) ≡ Some (topic_name t ∷ [])
line_pasted t count place pixel said numbers are =
    ap names_in (pasted said (topic_name t) (decimal count ∷ decimal place ∷ pixel) are)
    ∙ entry_named [] t count place pixel numbers

line_pasted_after : (first : Text) (t : Topic) (count place : ℕ) (pixel said : List Text)
    → (pixel ≡ []) ⊎ ((x : ℕ) × (y : ℕ) × (pixel ≡ decimal x ∷ decimal y ∷ []))
    → ArePasted said (first ++ 32 ∷ line (topic_name t) (decimal count ∷ decimal place ∷ pixel))
    → names_in (line_of said) ≡ Some (topic_name t ∷ [])
line_pasted_after first t count place pixel said numbers are =
    let parts = decimal count ∷ decimal place ∷ pixel in
    let name = topic_name t in
    ap names_in
    (pasted said (first ++ 32 ∷ name) parts (are ∙ ap (λ (t : Text). 32 ∷ t) (line_after first (32 ∷ name) parts))
    ∙ ap (λ (t : Text). t ++ spaced (map low parts)) (map-append to_ascii_lowercase (32 ∷ first) (32 ∷ name))
    ∙ append_assoc (low (32 ∷ first)) (32 ∷ low name) (spaced (map low parts)))
    ∙ entry_named (low (32 ∷ first)) t count place pixel numbers

-- the line of an entry, and the same after a text and a space
pub entry_pasted : (e : Entry) (said : List Text) → ArePasted said (entry_line e)
    → names_in (line_of said) ≡ Some (rule_name e.rule ∷ [])
entry_pasted e said are =
    line_pasted (topic.Rule e.rule) e.count e.place (pixel_parts e.rule e.pixel) said (two_numbers e.rule e.pixel) are

pub entry_pasted_after : (first : Text) (e : Entry) (said : List Text) → ArePasted said (first ++ 32 ∷ entry_line e)
    → names_in (line_of said) ≡ Some (rule_name e.rule ∷ [])
entry_pasted_after first e said are =
    line_pasted_after first (topic.Rule e.rule) e.count e.place (pixel_parts e.rule e.pixel) said
    (two_numbers e.rule e.pixel) are

-- the same of a rule that a named terminal asks for
pub asked_entry_pasted : (e : AskedEntry) (said : List Text) → ArePasted said (asked_entry_line e)
    → names_in (line_of said) ≡ Some (name_of e.rule ∷ [])
asked_entry_pasted e said are = line_pasted (topic.Asked e.rule) e.count e.place [] said (inl refl) are

pub asked_entry_pasted_after : (first : Text) (e : AskedEntry) (said : List Text)
    → ArePasted said (first ++ 32 ∷ asked_entry_line e) → names_in (line_of said) ≡ Some (name_of e.rule ∷ [])
asked_entry_pasted_after first e said are =
    line_pasted_after first (topic.Asked e.rule) e.count e.place [] said (inl refl) are
