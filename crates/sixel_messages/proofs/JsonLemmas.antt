-- What `print` writes for the members of a line.
use Rattle.std.proofs.Common.{◌≡◌, ◌∙◌, ◌∷◌, ◌++◌, ℕ, [], List, Option, None, Some, ap, append_assoc, append-nil, codes}
use Rattle.std.proofs.Common.{flat_map, refl, sym, true}
use Rattle.std.specs.List.{AllByRecursion}
use Rattle.std.specs.Prelude.{decimal}
use Rattle.json.specs.Print.{ends, escape, escape_byte, print_from, quoted, token_text}
use Rattle.json.specs.Token.{boolean, end_object}
use Rattle.sixel_report.specs.Texts.{Text}
use Rattle.sixel_messages.specs.declared.names.Spelling.TheVariants.{Quoted}
use Rattle.sixel_messages.specs.Json.{Member, file_member, json_line, next_member, next_members, number_member}
use Rattle.sixel_messages.specs.Json.{object_line, spelled, text_member, tokens_of}

-- ---- a member after another

pub next_text : (name text : Text)
    → next_member (text_member name text) ≡ 44 ∷ ((quoted name ++ 58 ∷ []) ++ quoted text)
unfolding next_member print_from
next_text name text = ap (λ (t : Text). 44 ∷ ((quoted name ++ 58 ∷ []) ++ t)) (append-nil (quoted text))

pub next_number : (name : Text) (n : ℕ)
    → next_member (number_member name n) ≡ 44 ∷ ((quoted name ++ 58 ∷ []) ++ decimal n)
unfolding next_member print_from
next_number name n = ap (λ (t : Text). 44 ∷ ((quoted name ++ 58 ∷ []) ++ t)) (append-nil (decimal n))

pub next_true : (name : Text) → next_member (name, boolean true) ≡ 44 ∷ ((quoted name ++ 58 ∷ []) ++ codes "true")
unfolding next_member print_from
next_true name = refl

-- ---- all members

-- the value is one token, so a comma may follow it
abbrev pub Ends : Member → Type 0
Ends member = ends member.1 ≡ true

abbrev pub AllEnd : List Member → Type 0
AllEnd members = AllByRecursion Ends members

regrouped : (k v rest end : Text) → k ++ (v ++ (rest ++ end)) ≡ ((k ++ (v ++ [])) ++ rest) ++ end
regrouped k v rest end = simp (append-nil, append_assoc)

print_members : (ms : List Member) → AllEnd ms
    → print_from true (flat_map tokens_of ms ++ end_object ∷ []) ≡ next_members ms ++ 125 ∷ []
unfolding next_member print_from
print_members [] e = refl
print_members (m ∷ ms) e =
    let k = quoted m.0 ++ 58 ∷ [] in
    let v = token_text m.1 in
    ap (λ b. 44 ∷ (k ++ (v ++ print_from b (flat_map tokens_of ms ++ end_object ∷ [])))) e.0
    ∙ ap (λ (t : Text). 44 ∷ (k ++ (v ++ t))) (print_members ms e.1)
    ∙ ap (λ (t : Text). 44 ∷ t) (regrouped k v (next_members ms) (125 ∷ []))

-- ---- a line

framed : (k v rest : Text) → (k ++ (v ++ [])) ++ (rest ++ 125 ∷ 10 ∷ []) ≡ (k ++ (v ++ (rest ++ 125 ∷ []))) ++ 10 ∷ []
framed k v rest = simp (append-nil, append_assoc)

-- what is written is the line of the object
pub object_written : (label : Option Text) (ms : List Member) → AllEnd ms
    → object_line label (next_members ms) ≡ json_line (file_member label ∷ ms)
unfolding json_line file_member object_line print_from
object_written None ms e =
    let k = quoted (codes "file") ++ 58 ∷ [] in
    ap (λ (t : Text). 123 ∷ t) (framed k (codes "null") (next_members ms))
    ∙ ap (λ (t : Text). (123 ∷ (k ++ (codes "null" ++ t))) ++ 10 ∷ []) (sym (print_members ms e))
object_written (Some name) ms e =
    let k = quoted (codes "file") ++ 58 ∷ [] in
    ap (λ (t : Text). 123 ∷ t) (framed k (quoted name) (next_members ms))
    ∙ ap (λ (t : Text). (123 ∷ (k ++ (quoted name ++ t))) ++ 10 ∷ []) (sym (print_members ms e))

-- the pieces in which it is written
pub pieces_without_name : (rest : Text)
    → codes "{\"file\":null" ++ spelled Quoted [] ++ [] ++ (rest ++ codes "}\n") ≡ object_line None rest
unfolding file_member object_line print_from escape_byte
pieces_without_name rest = refl

pub pieces_with_name : (name rest : Text)
    → codes "{\"file\":\"" ++ spelled Quoted name ++ codes "\"" ++ (rest ++ codes "}\n") ≡ object_line (Some name) rest
unfolding file_member object_line print_from escape_byte
pieces_with_name name rest =
    ap (λ (t : Text). codes "{\"file\":\"" ++ t ++ (rest ++ codes "}\n")) (sym (append-nil (escape name ++ 34 ∷ [])))
