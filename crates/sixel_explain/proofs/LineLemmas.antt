-- The name that a line asks for.
use Rattle.std.proofs.Common.{◌≡◌, ◌∙◌, ◌∷◌, ◌++◌, [], Bool, List, None, Option, Some, ap, ap₂, append-nil, codes, cond}
use Rattle.std.proofs.Common.{drop, false, map, refl, subst, sym, true}
use Rattle.std.specs.Prelude.{IfSome, IsNone, find, option_map}
use Rattle.std.specs.List.{concat}
use Rattle.std.specs.Option.{option_or}
use Rattle.std.specs.Str.{bytes_eq, str_to_ascii_lowercase}
use Rattle.std.proofs.lemmas.List.{map-append}
use Rattle.std.proofs.lemmas.List.Elements.{All-contains}
use Rattle.std.proofs.lemmas.List.Folds.{concat-append}
use Rattle.std.proofs.lemmas.Slice.Eq.{bytes_eq-Decides}
use Rattle.sixel_explain.specs.declared.explanations.Topic.{Topic}
use Rattle.sixel_explain.specs.Explanations.{all_called, is_line, last_name, listed, listed_names, name_called, name_in}
use Rattle.sixel_explain.specs.Explanations.{names_in, topic_name, topic_of_end, words_of}
use Rattle.sixel_report.specs.Texts.{Text}
use Rattle.sixel_explain.proofs.NameLemmas.{each, name_listed}

-- a listed name in small letters is that name
called_itself : (t : Topic) → name_called (str_to_ascii_lowercase (topic_name t)) ≡ Some (topic_name t)
called_itself t =
    All-contains (λ (name : Text). name_called (str_to_ascii_lowercase name) ≡ Some name) listed_names (topic_name t)
    (each (λ (name : Text). name_called (str_to_ascii_lowercase name)) (λ (name : Text). Some name) listed_names refl)
    (name_listed t)

-- a word that is no topic's name in small letters is no name
pub no_name : (word : Text) (topics : List Topic)
    → ((t : Topic) → str_to_ascii_lowercase (topic_name t) ≡ word → ⊥)
    → find (λ name. bytes_eq (str_to_ascii_lowercase name) word) (map topic_name topics) ≡ None
no_name word [] none = refl
no_name word (t ∷ more) none = go (bytes_eq (str_to_ascii_lowercase (topic_name t)) word)
    (λ is. none t ((bytes_eq-Decides (str_to_ascii_lowercase (topic_name t)) word).0 is)) (no_name word more none)
  where
    go : (b : Bool) → (b ≡ true → ⊥)
        → find (λ name. bytes_eq (str_to_ascii_lowercase name) word) (map topic_name more) ≡ None
        → cond b (Some (topic_name t))
        (find (λ name. bytes_eq (str_to_ascii_lowercase name) word) (map topic_name more)) ≡ None
    go true other rest = absurd (other refl)
    go false other rest = rest

-- the word has the name of the topic that was found for it
pub called : (word : Text) (found : Option Topic)
    → IfSome found (λ t. str_to_ascii_lowercase (topic_name t) ≡ word)
    → (IsNone found → (t : Topic) → str_to_ascii_lowercase (topic_name t) ≡ word → ⊥)
    → name_called word ≡ option_map topic_name found
called word None is none = no_name word listed (none refl)
called word (Some t) is none = subst (λ (w : Text). name_called w ≡ Some (topic_name t)) is (called_itself t)

or_none : (o : Option Text) → o ≡ option_or o None
or_none None = refl
or_none (Some n) = refl

or_assoc : (a b c : Option Text) → option_or (option_or a b) c ≡ option_or a (option_or b c)
or_assoc None b c = refl
or_assoc (Some n) b c = refl

-- the last name of words is that of the later ones, if these have one
pub last_of_both : (words more : List Text)
    → last_name (words ++ more) ≡ option_or (last_name more) (last_name words)
last_of_both [] more = or_none (last_name more)
last_of_both (word ∷ words) more =
    ap (λ (o : Option Text). option_or o (name_called word)) (last_of_both words more)
    ∙ or_assoc (last_name more) (last_name words) (name_called word)

or_names : (a b : Option Topic)
    → option_map topic_name (option_or a b) ≡ option_or (option_map topic_name a) (option_map topic_name b)
or_names None b = refl
or_names (Some t) b = refl

-- one more word, and what was found for it and for the words before it
pub one_more : (words : List Text) (word : Text) (found last : Option Topic)
    → name_called word ≡ option_map topic_name found → last_name words ≡ option_map topic_name last
    → last_name (words ++ word ∷ []) ≡ option_map topic_name (option_or found last)
one_more words word found last here before =
    last_of_both words (word ∷ []) ∙ ap₂ option_or here before ∙ sym (or_names found last)

-- one more word of a line
pub one_said : (words : List Text) (word : Text) → concat (map (λ w. codes " " ++ w) (words ++ word ∷ []))
    ≡ concat (map (λ w. codes " " ++ w) words) ++ (codes " " ++ word)
one_said words word =
    let begun = map (λ w. codes " " ++ w) words in
    ap concat (map-append (λ w. codes " " ++ w) words (word ∷ []))
    ∙ concat-append begun ((codes " " ++ word) ∷ [])
    ∙ ap (λ (t : Text). concat begun ++ t) (append-nil (codes " " ++ word))

-- a line that ends like one without a name asks for the topic of its end
pub by_end : (line : Text) (t : Topic) → topic_of_end line ≡ Some t → name_in line ≡ Some (topic_name t)
by_end line t is = ap (λ (o : Option Topic). option_or (option_map topic_name o) (last_name (words_of line))) is

-- any other line asks for its last word that is a name
pub by_word : (line : Text) (name : Option Text) → topic_of_end line ≡ None → last_name (words_of line) ≡ name
    → name_in line ≡ name
by_word line name none is =
    ap (λ (o : Option Topic). option_or (option_map topic_name o) (last_name (words_of line))) none ∙ is

-- ---- each word a name

-- what was found for the words so far, before what the others are
abbrev pub onto : List Topic → Option (List Text) → Option (List Text)
onto found rest = option_map (λ names. map topic_name found ++ names) rest

pub onto_none : (rest : Option (List Text)) → onto [] rest ≡ rest
onto_none None = refl
onto_none (Some names) = refl

-- a word for which none was found
pub word_lost : (found : List Topic) (word : Text) (more : List Text) → name_called word ≡ None
    → onto found (all_called (word ∷ more)) ≡ None
word_lost found word more is = rw is refl

-- ---- what words ask for

pub names_of_line : (line : Text) → is_line line ≡ true
    → names_in line ≡ option_map (λ name. name ∷ []) (name_in line)
names_of_line line is = rw is refl

pub names_of_words : (line : Text) → is_line line ≡ false → names_in line ≡ all_called (drop 1 (words_of line))
names_of_words line is = rw is refl
