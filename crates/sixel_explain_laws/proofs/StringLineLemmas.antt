-- The line of a string asks for its rule or its reason.
use Rattle.std.proofs.Common.{◌≡◌, ◌∙◌, ◌∷◌, ◌++◌, ℕ, [], List, Some, ap, append_assoc, codes, sym}
use Rattle.std.specs.Prelude.{decimal}
use Rattle.sixel_grammar.specs.declared.fault.Fault.{Fault}
use Rattle.sixel_judge.specs.declared.verdict.Finding.{Finding}
use Rattle.sixel_scan.specs.declared.answer.Scanned.{Scanned}
use Rattle.sixel_scan.specs.declared.answer.Answer.TheVariants.{Broken, Refused}
use Rattle.sixel_report.specs.Texts.{Text, finding_line, reason_name, refusal_line, rule_name, spaced, string_line}
use Rattle.sixel_explain.specs.declared.explanations.Topic.TheVariants as topic
use Rattle.sixel_explain.specs.Explanations.{line_of, names_in}
use Rattle.sixel_explain_laws.specs.Laws.{ArePasted}
use Rattle.sixel_explain_laws.proofs.PastedLemmas.{finding_pasted, line_after, low, low_number, name_before_number}
use Rattle.sixel_explain_laws.proofs.PastedLemmas.{number_nameless, pasted}

-- the line of a string that is no document, whatever is before it
refusal_pasted : (before : Text) (f : Fault) (said : List Text) → ArePasted said (before ++ refusal_line f)
    → names_in (line_of said) ≡ Some (reason_name f.reason ∷ [])
refusal_pasted before f said are =
    let parts = reason_name f.reason ∷ decimal f.place ∷ [] in
    let text = low (32 ∷ (before ++ codes "refused")) in
    ap names_in
    (pasted said (before ++ codes "refused") parts
    (are ∙ ap (λ (t : Text). 32 ∷ t) (line_after before (codes "refused") parts))
    ∙ ap (λ (d : Text). text ++ spaced (low (reason_name f.reason) ∷ d ∷ [])) (low_number f.place))
    ∙ name_before_number text (topic.Grammar f.reason) [] f.place (number_nameless f.place, tt)

-- a text, an offset, a space and a line
after_place : (before : Text) (place : ℕ) (line : Text)
    → before ++ (decimal place ++ 32 ∷ line) ≡ (before ++ (decimal place ++ 32 ∷ [])) ++ line
after_place before place line =
    ap (λ (t : Text). before ++ t) (sym (append_assoc (decimal place) (32 ∷ []) line))
    ∙ sym (append_assoc before (decimal place ++ 32 ∷ []) line)

pub string_finding_pasted : (before : Text) (string : Scanned) (f : Finding) (said : List Text)
    → ArePasted said (before ++ string_line (record string { answer = Broken f }))
    → names_in (line_of said) ≡ Some (rule_name f.rule ∷ [])
string_finding_pasted before string f said are =
    finding_pasted (before ++ (decimal string.place ++ 32 ∷ [])) f said
    (are ∙ ap (λ (t : Text). 32 ∷ t) (after_place before string.place (finding_line f)))

pub string_refusal_pasted : (before : Text) (string : Scanned) (f : Fault) (said : List Text)
    → ArePasted said (before ++ string_line (record string { answer = Refused f }))
    → names_in (line_of said) ≡ Some (reason_name f.reason ∷ [])
string_refusal_pasted before string f said are =
    refusal_pasted (before ++ (decimal string.place ++ 32 ∷ [])) f said
    (are ∙ ap (λ (t : Text). 32 ∷ t) (after_place before string.place (refusal_line f)))
