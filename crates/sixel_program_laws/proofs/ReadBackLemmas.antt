-- What a line of JSON reads back as, and that it is one line.
use Rattle.std.proofs.Common.{◌≡◌, ◌≤◌, ◌∙◌, ◌∷◌, ◌++◌, ◌&&◌, ℕ, [], List, Some, Bool, false, true, ap, arith, cond}
use Rattle.std.proofs.Common.{flat_map, inl, inr, nat_eq, refl, subst, sym}
use Rattle.std.proofs.lemmas.List.{append_cancel_right}
use Rattle.std.proofs.lemmas.Bool.{ne_eqb}
use Rattle.std.proofs.lemmas.Bool.Decides.{nat_tests}
use Rattle.std.proofs.lemmas.List.Elements.{All-from_recursion, recursion_from_All}
use Rattle.std.specs.Char.{digit_char}
use Rattle.std.specs.List.{AllByRecursion}
use Rattle.std.specs.Prelude.{decimal, nat_lt}
use Rattle.json.proofs.Printed.Decimals.{IsNumber-decimal}
use Rattle.json.proofs.Printed.Tokens.{tokens-print}
use Rattle.json.proofs.Printed.Trees.{document-print}
use Rattle.json.specs.Json as json
use Rattle.json.specs.Json.{document}
use Rattle.json.specs.Lex.{tokens}
use Rattle.json.specs.Tree.{HasNumbers, MembersHaveNumbers, depth, json_tokens, members_depth, members_tokens}
use Rattle.json.specs.Print.{ArePrintable, IsPrintable, begins, ends, escape, escape_byte, escape_letter, print}
use Rattle.json.specs.Print.{print_from, quoted, separator, token_text}
use Rattle.json.specs.Token.{Token, begin_object, end_object, key}
use Rattle.sixel_report.specs.Texts.{IsLine, Text}
use Rattle.sixel_explain_laws.proofs.DigitLemmas.{AreDigits, number_digits}
use Rattle.sixel_messages.specs.Json.{Member, json_line, object, tokens_of}
use Rattle.sixel_program_laws.specs.Laws.{HaveValues, IsValue, members_of, value_of}

abbrev AllHave : List Member → Type 0
AllHave members = AllByRecursion (λ (member : Member). IsValue member.1) members

-- ---- reading back

printable : (t : Token) → IsValue t → IsPrintable t
printable t (inl nothing) = subst IsPrintable (sym nothing) tt
printable t (inr (inl text)) = subst IsPrintable (sym text.1) tt
printable t (inr (inr (inl n))) = subst IsPrintable (sym n.2) (IsNumber-decimal n.0 n.1)
printable t (inr (inr (inr is))) = subst IsPrintable (sym is) tt

all_printable : (ms : List Member) → AllHave ms → ArePrintable (flat_map tokens_of ms ++ end_object ∷ [])
unfolding ArePrintable
all_printable [] h = (tt, tt)
all_printable (m ∷ ms) h = (tt, (printable m.1 h.0, all_printable ms h.1))

object_printable : (ms : List Member) → AllHave ms → ArePrintable (object ms)
unfolding ArePrintable
object_printable ms h = (tt, all_printable ms h)

-- what comes before the line feed
pub reads_back : (ms : List Member) (front : Text) → HaveValues ms → json_line ms ≡ front ++ 10 ∷ []
    → tokens front ≡ object ms
unfolding json_line
reads_back ms front h is =
    ap tokens (sym (append_cancel_right (print (object ms)) front (10 ∷ []) is))
    ∙ tokens-print (object ms)
    (object_printable ms (recursion_from_All (λ (member : Member). IsValue member.1) ms h))

-- ---- the value

one_token : (t : Token) → IsValue t → json_tokens (value_of t) ≡ t ∷ []
one_token t (inl nothing) = subst (λ u. json_tokens (value_of u) ≡ u ∷ []) (sym nothing) refl
one_token t (inr (inl text)) = subst (λ u. json_tokens (value_of u) ≡ u ∷ []) (sym text.1) refl
one_token t (inr (inr (inl n))) = subst (λ u. json_tokens (value_of u) ≡ u ∷ []) (sym n.2) refl
one_token t (inr (inr (inr is))) = subst (λ u. json_tokens (value_of u) ≡ u ∷ []) (sym is) refl

members_tokened : (ms : List Member) → AllHave ms
    → members_tokens (members_of ms) ≡ flat_map tokens_of ms ++ end_object ∷ []
members_tokened [] h = refl
members_tokened (m ∷ ms) h =
    ap (λ (ts : List Token). key m.0 ∷ (ts ++ members_tokens (members_of ms))) (one_token m.1 h.0)
    ∙ ap (λ (ts : List Token). key m.0 ∷ (m.1 ∷ ts)) (members_tokened ms h.1)

numbered : (t : Token) → IsValue t → HasNumbers (value_of t)
numbered t (inl nothing) = subst (λ u. HasNumbers (value_of u)) (sym nothing) tt
numbered t (inr (inl text)) = subst (λ u. HasNumbers (value_of u)) (sym text.1) tt
numbered t (inr (inr (inl n))) = subst (λ u. HasNumbers (value_of u)) (sym n.2) (IsNumber-decimal n.0 n.1)
numbered t (inr (inr (inr is))) = subst (λ u. HasNumbers (value_of u)) (sym is) tt

all_numbered : (ms : List Member) → AllHave ms → MembersHaveNumbers (members_of ms)
all_numbered [] h = tt
all_numbered (m ∷ ms) h = (numbered m.1 h.0, all_numbered ms h.1)

flat : (t : Token) → IsValue t → depth (value_of t) ≡ 0
flat t (inl nothing) = subst (λ u. depth (value_of u) ≡ 0) (sym nothing) refl
flat t (inr (inl text)) = subst (λ u. depth (value_of u) ≡ 0) (sym text.1) refl
flat t (inr (inr (inl n))) = subst (λ u. depth (value_of u) ≡ 0) (sym n.2) refl
flat t (inr (inr (inr is))) = subst (λ u. depth (value_of u) ≡ 0) (sym is) refl

all_flat : (ms : List Member) → AllHave ms → members_depth (members_of ms) ≤ 0
all_flat [] h = omega arith
all_flat (m ∷ ms) h = omega (arith, flat m.1 h.0, all_flat ms h.1)

-- the line is an object of these members
pub reads_as : (ms : List Member) (front : Text) → HaveValues ms → json_line ms ≡ front ++ 10 ∷ []
    → document front ≡ Some (json.object (members_of ms))
unfolding json_line
reads_as ms front h is =
    let have = recursion_from_All (λ (member : Member). IsValue member.1) ms h in
    ap document
    (sym (append_cancel_right (print (object ms)) front (10 ∷ []) is)
    ∙ ap (λ (ts : List Token). print (begin_object ∷ ts)) (sym (members_tokened ms have)))
    ∙ document-print (json.object (members_of ms)) (all_numbered ms have) (omega (arith, all_flat ms have))

-- ---- one line

abbrev NotFeed : ℕ → Type 0
NotFeed byte = nat_eq byte 10 ≡ false

abbrev Clean : Text → Type 0
Clean text = AllByRecursion NotFeed text

clean_both : (a b : Text) → Clean a → Clean b → Clean (a ++ b)
clean_both [] b c d = d
clean_both (x ∷ a) b c d = (c.0, clean_both a b c.1 d)

-- no letter of an escape is a line feed, and a line feed has one
letter_clean : (x : ℕ) → NotFeed (escape_letter x)
letter_clean x = grind (arith, nat_tests)

plain_clean : (x : ℕ) → nat_lt 0 (escape_letter x) ≡ false → NotFeed x
plain_clean x none = grind (arith, nat_tests)

digit_clean : (d : ℕ) → NotFeed (digit_char d)
digit_clean d = grind (arith, nat_tests)

by_test : (b : Bool) (x y : Text) → (b ≡ true → Clean x) → (b ≡ false → Clean y) → Clean (cond b x y)
by_test true x y p q = p refl
by_test false x y p q = q refl

byte_clean : (x : ℕ) → Clean (escape_byte x)
unfolding escape_byte
byte_clean x =
    by_test (nat_lt 0 (escape_letter x)) _ _ (λ _. (refl, (letter_clean x, tt)))
    (λ none. by_test (nat_lt x 32) _ _ (λ _. (refl, (refl, (refl, (refl, (digit_clean _, (digit_clean _, tt)))))))
    (λ _. (plain_clean x none, tt)))

escape_clean : (text : Text) → Clean (escape text)
escape_clean [] = tt
escape_clean (x ∷ text) = clean_both (escape_byte x) (escape text) (byte_clean x) (escape_clean text)

quoted_clean : (text : Text) → Clean (quoted text)
quoted_clean text = (refl, clean_both (escape text) (34 ∷ []) (escape_clean text) (refl, tt))

digits_clean : (text : Text) → AreDigits text → Clean text
digits_clean [] d = tt
digits_clean (x ∷ text) d = (ne_eqb x 10 (λ e. omega arith), digits_clean text d.1)

value_clean : (t : Token) → IsValue t → Clean (token_text t)
value_clean t (inl nothing) = subst (λ u. Clean (token_text u)) (sym nothing) (refl, (refl, (refl, (refl, tt))))
value_clean t (inr (inl text)) = subst (λ u. Clean (token_text u)) (sym text.1) (quoted_clean text.0)
value_clean t (inr (inr (inl n))) =
    subst (λ u. Clean (token_text u)) (sym n.2) (digits_clean (decimal n.0) (number_digits n.0))
value_clean t (inr (inr (inr is))) =
    subst (λ u. Clean (token_text u)) (sym is) (refl, (refl, (refl, (refl, tt))))

comma_clean : (b : Bool) → Clean (cond b (44 ∷ []) [])
comma_clean true = (refl, tt)
comma_clean false = tt

separator_clean : (after : Bool) (t : Token) → Clean (separator after t)
separator_clean after t = comma_clean (after && begins t)

all_clean : (after : Bool) (ms : List Member) → AllHave ms
    → Clean (print_from after (flat_map tokens_of ms ++ end_object ∷ []))
unfolding print_from
all_clean after [] h = clean_both (separator after end_object) (125 ∷ []) (separator_clean after end_object) (refl, tt)
all_clean after (m ∷ ms) h =
    clean_both (separator after (key m.0)) _ (separator_clean after (key m.0))
    (clean_both (quoted m.0 ++ 58 ∷ []) _ (clean_both (quoted m.0) (58 ∷ []) (quoted_clean m.0) (refl, tt))
    (clean_both (token_text m.1) _ (value_clean m.1 h.0) (all_clean (ends m.1) ms h.1)))

object_clean : (ms : List Member) → AllHave ms → Clean (print (object ms))
unfolding print_from
object_clean ms h = (refl, all_clean false ms h)

pub one_line : (ms : List Member) → HaveValues ms → IsLine (json_line ms)
unfolding json_line
one_line ms h = (
  print (object ms),
  refl,
  All-from_recursion NotFeed (print (object ms))
      (object_clean ms (recursion_from_All (λ (member : Member). IsValue member.1) ms h)),
)
