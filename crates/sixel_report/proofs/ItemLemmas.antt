-- What is written for the first items and the next one.
use Rattle.std.proofs.Common.{◌≡◌, ◌∙◌, ◌+◌, ◌<◌, ◌++◌, ◌∷◌, ℕ, List, [], ap, append_assoc, drop, take, flat_map}
use Rattle.std.proofs.Common.{get_or, length, map, sym}
use Rattle.std.proofs.lemmas.List.{append-nil, map-append, take-append-drop, take_more}
use Rattle.std.proofs.lemmas.Grind.{flat_map-append}
use Rattle.sixel_report.specs.declared.item.Item.{Item}
use Rattle.sixel_report.specs.Texts.{Text, item_line}

-- what is written for the first items and the next one
pub written_more : (written : Item → Text) (items : List Item) (i : ℕ) (d : Item) → i < length items
    → flat_map written (take i items) ++ written (get_or items i d) ≡ flat_map written (take (i + 1) items)
written_more written items i d short =
    sym (ap (flat_map written) (take_more items i d short) ∙ flat_map-append written (take i items) _
    ∙ ap (λ (t : Text). flat_map written (take i items) ++ t) (append-nil (written (get_or items i d))))

-- and for those after it
pub written_all : (written : Item → Text) (items : List Item) (i : ℕ) (d : Item) → i < length items
    → flat_map written items
    ≡ (flat_map written (take i items) ++ written (get_or items i d)) ++ flat_map written (drop (i + 1) items)
written_all written items i d short =
    let rest = drop (i + 1) items in
    ap (flat_map written) (sym (take-append-drop (i + 1) items)) ∙ flat_map-append written (take (i + 1) items) rest
    ∙ ap (λ (t : Text). t ++ flat_map written rest) (sym (written_more written items i d short))

-- the items of the first entries and the next one, behind some items
pub entry_pushed : {A : Type 0} (f : A → Item) (entries : List A) (i : ℕ) (d : A) (start before after : List Item)
    → i < length entries → before ≡ start ++ map f (take i entries) → after ≡ before ++ f (get_or entries i d) ∷ []
    → after ≡ start ++ map f (take (i + 1) entries)
entry_pushed f entries i d start before after short is more =
    let next = get_or entries i d in
    more ∙ ap (λ (items : List Item). items ++ f next ∷ []) is
    ∙ append_assoc start (map f (take i entries)) (f next ∷ [])
    ∙ ap (λ (items : List Item). start ++ items)
    (sym (ap (map f) (take_more entries i d short) ∙ map-append f (take i entries) (next ∷ [])))

-- the lines of the first items and of the next one
pub line_pushed : (items : List Item) (i : ℕ) (d : Item) (before after : Text) → i < length items
    → before ≡ flat_map item_line (take i items) → after ≡ before ++ item_line (get_or items i d)
    → after ≡ flat_map item_line (take (i + 1) items)
line_pushed items i d before after short is more =
    more ∙ ap (λ (t : Text). t ++ item_line (get_or items i d)) is ∙ written_more item_line items i d short
