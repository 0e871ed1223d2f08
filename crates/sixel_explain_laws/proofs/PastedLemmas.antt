-- A line of the program asks for its topic.
use Rattle.std.proofs.Common.{◌≡◌, ◌≢◌, ◌∙◌, ◌∷◌, ◌++◌, ◌==◌, ◌+◌, ◌-◌, ◌<◌, ◌≤◌, ◌⊎◌, ◌||◌, ℕ, [], Bool, List, None}
use Rattle.std.proofs.Common.{Option, Some, ap, append-nil, append_assoc, arith, codes, cond, drop, false, inl, inr}
use Rattle.std.proofs.Common.{is_some, le-leb, le-ltb, length, length-append, lt-ltb, map, nat_lt, ne_eqb, refl, sym}
use Rattle.std.proofs.Common.{take, true}
use Rattle.std.specs.Prelude.{decimal}
use Rattle.std.specs.Char.{to_ascii_lowercase}
use Rattle.std.specs.Cmp.Lexicographic.{pointwise}
use Rattle.std.specs.List.{list_any, onto_first}
use Rattle.std.specs.Option.{option_or}
use Rattle.std.specs.Str.{str_to_ascii_lowercase}
use Rattle.std.proofs.lemmas.Bool.{false_from_ne_true, true≢false}
use Rattle.std.proofs.lemmas.Bool.Decides.{Decides-eqb}
use Rattle.std.proofs.lemmas.List.{append_cancel_right, drop-drop, drop_at, map-append}
use Rattle.std.proofs.lemmas.Grind.{flat_map-append}
use Rattle.std.proofs.lemmas.List.Folds.{list_any-append}
use Rattle.std.proofs.lemmas.List.Elements.{All-contains}
use Rattle.std.proofs.lemmas.List.Splits.{slice_split-cons_no}
use Rattle.std.proofs.lemmas.Slice.Eq.{ends_is}
use Rattle.sixel_emulator_rules.specs.Names.{name_of}
use Rattle.sixel_emulator_rules.specs.declared.asking.AskedFinding.{AskedFinding}
use Rattle.sixel_emulator_rules.specs.declared.rule.AskedRule.TheVariants as asked
use Rattle.sixel_model.specs.declared.rule.Rule.{Rule as ARule}
use Rattle.sixel_model.specs.declared.rule.Rule.TheVariants as rule
use Rattle.sixel_judge.specs.declared.verdict.Finding.{Finding}
use Rattle.sixel_grammar.specs.declared.fault.Reason.TheVariants.{Truncated}
use Rattle.sixel_ppm.specs.declared.ppm.PpmReason.TheVariants as ppm
use Rattle.sixel_report.specs.declared.fault.RunFault.{RunFault}
use Rattle.sixel_report.specs.declared.fault.RunFault.TheVariants as fault
use Rattle.sixel_report.specs.Texts.{Text, asked_line, fault_parts, finding_line, line, pixel_parts, rule_name, spaced}
use Rattle.sixel_explain_laws.proofs.DigitLemmas.{AreDigits, number, number_digits}
use Rattle.sixel_explain.specs.declared.explanations.Topic.{Topic}
use Rattle.sixel_explain.specs.declared.explanations.Topic.TheVariants as topic
use Rattle.sixel_explain.specs.Explanations.{ends_in, is_line, is_mark, last_name, line_of, listed, listed_names}
use Rattle.sixel_explain.specs.Explanations.{name_called, name_in, names_in, topic_name, topic_of, topic_of_end}
use Rattle.sixel_explain.specs.Explanations.{words_of}
use Rattle.sixel_explain.proofs.LineLemmas.{by_end, by_word, last_of_both, no_name}
use Rattle.sixel_explain_laws.specs.Laws.{ArePasted}
use Rattle.sixel_explain.proofs.NameLemmas.{each, name_listed}

abbrev pub low : Text → Text
low text = str_to_ascii_lowercase text

-- ---- a line and its name

-- a line asks for the one name in it
line_asks : (line name : Text) → is_line line ≡ true → name_in line ≡ Some name → names_in line ≡ Some (name ∷ [])
line_asks line name is named = rw (is, named) refl

-- ---- words

-- the list has a first text
record HasFirst (parts : List Text) : Type 0 where
  pub first : Text
  pub rest : List Text
  pub is : parts ≡ first ∷ rest

has_either : (b : Bool) (x : ℕ) (parts : List Text) → HasFirst parts
    → HasFirst (cond b ([] ∷ parts) (onto_first x parts))
has_either true x parts has = record { first = []; rest = parts; is = refl }
has_either false x parts has = record { first = x ∷ has.first; rest = has.rest; is = ap (onto_first x) has.is }

has_word : (text : Text) → HasFirst (words_of text)
has_word [] = record { first = []; rest = []; is = refl }
has_word (x ∷ text) = has_either (x == 32) x (words_of text) (has_word text)

onto_both : (b : Bool) (x : ℕ) (front back all : List Text) → HasFirst front → all ≡ front ++ back
    → cond b ([] ∷ all) (onto_first x all) ≡ cond b ([] ∷ front) (onto_first x front) ++ back
onto_both true x front back all has is = ap (λ (ws : List Text). [] ∷ ws) is
onto_both false x front back all has is =
    ap (onto_first x) is ∙ ap (λ (ws : List Text). onto_first x (ws ++ back)) has.is
    ∙ sym (ap (λ (ws : List Text). onto_first x ws ++ back) has.is)

words_of_both : (a b : Text) → words_of (a ++ 32 ∷ b) ≡ words_of a ++ words_of b
words_of_both [] b = refl
words_of_both (x ∷ a) b =
    onto_both (x == 32) x (words_of a) (words_of b) (words_of (a ++ 32 ∷ b)) (has_word a) (words_of_both a b)

abbrev pub last_in : Text → Option Text
last_in text = last_name (words_of text)

last_of_all : (a b : Text) → last_in (a ++ 32 ∷ b) ≡ option_or (last_in b) (last_in a)
last_of_all a b = ap last_name (words_of_both a b) ∙ last_of_both (words_of a) (words_of b)

-- no part has a word that is a name
abbrev pub AreNameless : List Text → Type 0
AreNameless [] = Unit {0}
AreNameless (part ∷ parts) = (last_in part ≡ None) × AreNameless parts

-- (a part and others) after a text
one_part : (text part : Text) (parts : List Text)
    → text ++ spaced (part ∷ parts) ≡ (text ++ 32 ∷ part) ++ spaced parts
one_part text part parts = sym (append_assoc text (32 ∷ part) (spaced parts))

after_nameless : (text : Text) (parts : List Text) → AreNameless parts → last_in (text ++ spaced parts) ≡ last_in text
after_nameless text [] none = ap last_in (append-nil text)
after_nameless text (part ∷ parts) none =
    ap last_in (one_part text part parts) ∙ after_nameless (text ++ 32 ∷ part) parts none.1
    ∙ last_of_all text part ∙ ap (λ (o : Option Text). option_or o (last_in text)) none.0

named_last : (text part name : Text) (parts : List Text) → last_in part ≡ Some name → AreNameless parts
    → last_in (text ++ spaced (part ∷ parts)) ≡ Some name
named_last text part name parts is none =
    ap last_in (one_part text part parts) ∙ after_nameless (text ++ 32 ∷ part) parts none
    ∙ last_of_all text part ∙ ap (λ (o : Option Text). option_or o (last_in text)) is

-- a listed name is one word, and that name
pub named_alone : (t : Topic) → last_in (low (topic_name t)) ≡ Some (topic_name t)
named_alone t =
    All-contains (λ (name : Text). last_in (low name) ≡ Some name) listed_names (topic_name t)
    (each (λ (name : Text). last_in (low name)) (λ (name : Text). Some name) listed_names refl) (name_listed t)

-- ---- numbers

digits_are_low : (ds : Text) → AreDigits ds → low ds ≡ ds
digits_are_low [] are = refl
digits_are_low (d ∷ ds) are = rw (lt-ltb d 65 (omega (arith, are.0.1)), digits_are_low ds are.1) refl

digits_are_one : (ds : Text) → AreDigits ds → words_of ds ≡ ds ∷ []
digits_are_one [] are = refl
digits_are_one (d ∷ ds) are =
    slice_split-cons_no (λ byte. byte == 32) d ds (ne_eqb d 32 (λ is. omega (arith, is, are.0.0)))
    ∙ ap (onto_first d) (digits_are_one ds are.1)

-- the text begins after the digits, as letters do
abbrev begins_high : Text → Bool
begins_high [] = false
begins_high (b ∷ text) = nat_lt 57 b

names_begin_high : (t : Topic) → begins_high (low (topic_name t)) ≡ true
names_begin_high t =
    All-contains (λ (name : Text). begins_high (low name) ≡ true) listed_names (topic_name t)
    (each (λ (name : Text). begins_high (low name)) (λ (name : Text). true) listed_names refl) (name_listed t)

digits_begin_low : (ds : Text) → AreDigits ds → begins_high ds ≡ false
digits_begin_low [] are = refl
digits_begin_low (d ∷ ds) are = le-ltb 57 d are.0.1

digits_are_no_name : (ds : Text) → AreDigits ds → name_called ds ≡ None
digits_are_no_name ds are =
    no_name ds listed (λ t is. true≢false (sym (names_begin_high t) ∙ ap begins_high is ∙ digits_begin_low ds are))

pub low_number : (n : ℕ) → low (decimal n) ≡ decimal n
low_number n = digits_are_low (decimal n) (number_digits n)

pub number_nameless : (n : ℕ) → last_in (decimal n) ≡ None
number_nameless n =
    let are = number_digits n in
    ap last_name (digits_are_one (decimal n) are) ∙ digits_are_no_name (decimal n) are

-- ---- ends

-- the end of a text decides what it ends in
at_end : (x t end : Text) → length end ≤ length t → ends_in (x ++ t) end ≡ ends_in t end
at_end x t end short =
    let more : length (x ++ t) - length end ≡ length x + (length t - length end) =
    omega (arith, length-append x t, short) in
    ap (λ (rest : Text). pointwise (λ a b. a == b) end rest)
    (ap (λ (n : ℕ). drop n (x ++ t)) more ∙ sym (drop-drop (length t - length end) (length x) (x ++ t))
    ∙ ap (drop (length t - length end)) (drop_at x t (length x) refl))

-- a text that doesn't end in `last` doesn't end in a longer text that does
not_at_end : (x t end first last : Text) → end ≡ first ++ last → length last ≤ length t → ends_in t last ≡ false
    → ends_in (x ++ t) end ≡ false
not_at_end x t end first last is short misses =
    false_from_ne_true (ends_in (x ++ t) end) (λ yes.
    let front = take (length (x ++ t) - length end) (x ++ t) in
    let whole : x ++ t ≡ front ++ end = (ends_is Decides-eqb (x ++ t) end (ends_in (x ++ t) end) refl).0 yes in
    let again : ends_in (x ++ t) last ≡ true =
    (ends_is Decides-eqb (x ++ t) last (ends_in (x ++ t) last) refl).1 (front ++ first)
    (whole ∙ ap (λ (e : Text). front ++ e) is ∙ sym (append_assoc front first last)) in
    true≢false (sym again ∙ at_end x t last short ∙ misses))

-- a line that ends in none of the endings has no topic by its end
no_topic : (text : Text) → ends_in text (codes " out of memory") ≡ false → ends_in text (codes " read failed") ≡ false
    → ends_in text (codes " no such file") ≡ false → ends_in text (codes " permission denied") ≡ false
    → ends_in text (codes " is a folder") ≡ false → ends_in text (codes " name is not valid utf-8") ≡ false
    → ends_in text (codes " write failed") ≡ false → ends_in text (codes " the input is empty") ≡ false
    → topic_of_end text ≡ None
no_topic text a b c d e f g h = rw (a, b, c, d, e, f, g, h) refl

letter_after : (b c letter : ℕ) → c ≤ 57 → 57 < letter → ends_in (b ∷ c ∷ []) (letter ∷ []) ≡ false
letter_after b c letter digit high = rw (ne_eqb letter c (λ is. omega (arith, is, digit, high))) refl

dash_before : (b c : ℕ) → b ≢ 45 → ends_in (b ∷ c ∷ []) (codes "-8") ≡ false
dash_before b c other = rw (ne_eqb 45 b (λ is. other (sym is))) refl

-- a line that ends in none of their last letters has no topic by its end
pub no_ending : (x t : Text) → 2 ≤ length t → ends_in t (codes "y") ≡ false → ends_in t (codes "d") ≡ false
    → ends_in t (codes "e") ≡ false → ends_in t (codes "r") ≡ false → ends_in t (codes "-8") ≡ false
    → topic_of_end (x ++ t) ≡ None
no_ending x t long y d e r dash =
    no_topic (x ++ t) (not_at_end x t _ (codes " out of memor") (codes "y") refl (omega (arith, long)) y)
    (not_at_end x t _ (codes " read faile") (codes "d") refl (omega (arith, long)) d)
    (not_at_end x t _ (codes " no such fil") (codes "e") refl (omega (arith, long)) e)
    (not_at_end x t _ (codes " permission denie") (codes "d") refl (omega (arith, long)) d)
    (not_at_end x t _ (codes " is a folde") (codes "r") refl (omega (arith, long)) r)
    (not_at_end x t _ (codes " name is not valid utf") (codes "-8") refl (omega (arith, long)) dash)
    (not_at_end x t _ (codes " write faile") (codes "d") refl (omega (arith, long)) d)
    (not_at_end x t _ (codes " the input is empt") (codes "y") refl (omega (arith, long)) y)

digit_at_end : (x : Text) (b c : ℕ) → b ≢ 45 → c ≤ 57 → topic_of_end (x ++ b ∷ c ∷ []) ≡ None
digit_at_end x b c other digit =
    no_ending x (b ∷ c ∷ []) (omega arith) (letter_after b c 121 digit (omega arith))
    (letter_after b c 100 digit (omega arith)) (letter_after b c 101 digit (omega arith))
    (letter_after b c 114 digit (omega arith)) (dash_before b c other)

-- the text is others and then a byte that isn't `-`
record EndsUndashed (text : Text) : Type 0 where
  pub front : Text
  pub last : ℕ
  pub is : text ≡ front ++ last ∷ []
  pub undashed : last ≢ 45

last_undashed : (b : ℕ) (ds : Text) → b ≢ 45 → AreDigits ds → EndsUndashed (b ∷ ds)
last_undashed b [] other are = record { front = []; last = b; is = refl; undashed = other }
last_undashed b (d ∷ ds) other are =
    let more = last_undashed d ds (λ is. omega (arith, is, are.0.0)) are.1 in
    record { front = b ∷ more.front; last = more.last; is = ap (λ (t : Text). b ∷ t) more.is; undashed = more.undashed }

number_at_end : (text : Text) (n : ℕ) → topic_of_end (text ++ 32 ∷ decimal n) ≡ None
number_at_end text n =
    let d = number n in
    let b = last_undashed 32 d.front (λ is. omega (arith, is)) d.digits in
    ap topic_of_end
    (ap (λ (t : Text). text ++ 32 ∷ t) d.is
    ∙ ap (λ (t : Text). text ++ (t ++ d.last ∷ [])) b.is
    ∙ ap (λ (t : Text). text ++ t) (append_assoc b.front (b.last ∷ []) (d.last ∷ []))
    ∙ sym (append_assoc text b.front (b.last ∷ d.last ∷ [])))
    ∙ digit_at_end (text ++ b.front) b.last d.last b.undashed d.digit.1

-- ---- lines

low_spaced : (parts : List Text) → low (spaced parts) ≡ spaced (map low parts)
low_spaced [] = refl
low_spaced (part ∷ parts) =
    ap (λ (t : Text). 32 ∷ t)
    (map-append to_ascii_lowercase part (spaced parts) ∙ ap (λ (t : Text). low part ++ t) (low_spaced parts))

-- the line that was pasted, in small letters
pub pasted : (said : List Text) (first : Text) (parts : List Text) → ArePasted said (line first parts)
    → line_of said ≡ low (32 ∷ first) ++ spaced (map low parts)
pasted said first parts are =
    ap low (append_cancel_right _ (32 ∷ first ++ spaced parts) (10 ∷ []) are)
    ∙ map-append to_ascii_lowercase (32 ∷ first) (spaced parts)
    ∙ ap (λ (t : Text). low (32 ∷ first) ++ t) (low_spaced parts)

-- one more part at the end
last_part : (text last : Text) (parts : List Text)
    → text ++ spaced (parts ++ last ∷ []) ≡ (text ++ spaced parts) ++ 32 ∷ last
last_part text last parts =
    ap (λ (t : Text). text ++ t)
    (flat_map-append (λ part. 32 ∷ part) parts (last ∷ [])
    ∙ ap (λ (t : Text). spaced parts ++ 32 ∷ t) (append-nil last))
    ∙ sym (append_assoc text (spaced parts) (32 ∷ last))

-- ---- marks

marked_after : (a b : Text) → list_any is_mark b ≡ true → list_any is_mark (a ++ b) ≡ true
marked_after a b marked =
    list_any-append is_mark a b ∙ ap (λ (x : Bool). list_any is_mark a || x) marked ∙ or_true (list_any is_mark a)
  where
    or_true : (x : Bool) → (x || true) ≡ true
    or_true true = refl
    or_true false = refl

marked_before : (a b : Text) → list_any is_mark a ≡ true → list_any is_mark (a ++ b) ≡ true
marked_before a b marked = list_any-append is_mark a b ∙ ap (λ (x : Bool). x || list_any is_mark b) marked

digit_marked : (d : ℕ) → (48 ≤ d) × (d ≤ 57) → is_mark d ≡ true
digit_marked d digit = rw (le-leb 48 d digit.0, le-leb d 58 (omega (arith, digit.1))) refl

number_marked : (n : ℕ) → list_any is_mark (32 ∷ decimal n) ≡ true
number_marked n =
    let d = number n in
    ap (λ (t : Text). list_any is_mark (32 ∷ t)) d.is
    ∙ marked_after (32 ∷ d.front) (d.last ∷ []) (rw (digit_marked d.last d.digit) refl)

-- a line with a mark, and one that ends like a line without a name
by_mark : (text : Text) → list_any is_mark text ≡ true → is_line text ≡ true
by_mark text marked = go (is_some (topic_of_end text)) (list_any is_mark text) marked
  where
    go : (x y : Bool) → y ≡ true → (x || y) ≡ true
    go true y is = refl
    go false y is = is

by_ending : (text : Text) (t : Topic) → topic_of_end text ≡ Some t → is_line text ≡ true
by_ending text t is = rw is refl

-- a name, and then others that aren't names, and a number
pub name_before_number : (text : Text) (t : Topic) (parts : List Text) (n : ℕ) → AreNameless (parts ++ decimal n ∷ [])
    → names_in (text ++ spaced (low (topic_name t) ∷ (parts ++ decimal n ∷ []))) ≡ Some (topic_name t ∷ [])
name_before_number text t parts n none =
    let line = text ++ spaced (low (topic_name t) ∷ (parts ++ decimal n ∷ [])) in
    let before = text ++ spaced (low (topic_name t) ∷ parts) in
    let whole = last_part text (decimal n) (low (topic_name t) ∷ parts) in
    line_asks line (topic_name t)
    (by_mark line (ap (list_any is_mark) whole ∙ marked_after before (32 ∷ decimal n) (number_marked n)))
    (by_word line (Some (topic_name t)) (ap topic_of_end whole ∙ number_at_end before n)
    (named_last text (low (topic_name t)) (topic_name t) (parts ++ decimal n ∷ []) (named_alone t) none))

-- a name, `at` and an offset
name_at : (first : Text) (t : Topic) (n : ℕ) (said : List Text)
    → ArePasted said (line first (topic_name t ∷ codes "at" ∷ decimal n ∷ []))
    → names_in (line_of said) ≡ Some (topic_name t ∷ [])
name_at first t n said are =
    ap names_in
    (pasted said first (topic_name t ∷ codes "at" ∷ decimal n ∷ []) are
    ∙ ap (λ (d : Text). low (32 ∷ first) ++ spaced (low (topic_name t) ∷ codes "at" ∷ d ∷ [])) (low_number n))
    ∙ name_before_number (low (32 ∷ first)) t (codes "at" ∷ []) n (refl, (number_nameless n, tt))

-- a name and two numbers
name_size : (first : Text) (t : Topic) (width height : ℕ) (said : List Text)
    → ArePasted said (line first (topic_name t ∷ decimal width ∷ decimal height ∷ []))
    → names_in (line_of said) ≡ Some (topic_name t ∷ [])
name_size first t width height said are =
    let name = low (topic_name t) in
    ap names_in
    (pasted said first (topic_name t ∷ decimal width ∷ decimal height ∷ []) are
    ∙ ap (λ (d : Text). low (32 ∷ first) ++ spaced (name ∷ d ∷ low (decimal height) ∷ [])) (low_number width)
    ∙ ap (λ (d : Text). low (32 ∷ first) ++ spaced (name ∷ decimal width ∷ d ∷ [])) (low_number height))
    ∙ name_before_number (low (32 ∷ first)) t (decimal width ∷ []) height
    (number_nameless width, (number_nameless height, tt))

-- a name at the end
name_last : (first : Text) (t : Topic) (said : List Text)
    → list_any is_mark (low (32 ∷ first)) ≡ true
    → topic_of_end (low (32 ∷ first) ++ 32 ∷ low (topic_name t)) ≡ None
    → ArePasted said (line first (topic_name t ∷ [])) → names_in (line_of said) ≡ Some (topic_name t ∷ [])
name_last first t said mark none are =
    let name = low (topic_name t) in
    let x = low (32 ∷ first) in
    ap names_in (pasted said first (topic_name t ∷ []) are)
    ∙ line_asks (x ++ spaced (name ∷ [])) (topic_name t)
    (by_mark (x ++ spaced (name ∷ [])) (marked_before x (spaced (name ∷ [])) mark))
    (by_word (x ++ spaced (name ∷ [])) (Some (topic_name t))
    (ap (λ (w : Text). topic_of_end (x ++ 32 ∷ w)) (append-nil name) ∙ none)
    (named_last x name (topic_name t) [] (named_alone t) tt))

-- a text that is one of the endings
pub ending_pasted : (first text : Text) (t : Topic) (said : List Text)
    → ((x : Text) → topic_of_end (x ++ 32 ∷ low text) ≡ Some t) → ArePasted said (line first (text ∷ []))
    → names_in (line_of said) ≡ Some (topic_name t ∷ [])
ending_pasted first text t said is are =
    let x = low (32 ∷ first) in
    let line = x ++ 32 ∷ low text in
    let whole : line_of said ≡ line =
    pasted said first (text ∷ []) are ∙ ap (λ (w : Text). x ++ 32 ∷ w) (append-nil (low text)) in
    ap names_in whole ∙ line_asks line (topic_name t) (by_ending line t (is x)) (by_end line t (is x))

-- ---- the endings

out_of_memory : (x : Text) → topic_of_end (x ++ codes " out of memory") ≡ Some topic.OutOfMemory
out_of_memory x = rw (at_end x (codes " out of memory") (codes " out of memory") (omega arith)) refl

pub read_failed : (x : Text) → topic_of_end (x ++ codes " read failed") ≡ Some topic.Read
read_failed x =
    let t = codes " read failed" in
    rw (not_at_end x t _ (codes " out of memor") (codes "y") refl (omega arith) refl, at_end x t t (omega arith)) refl

pub no_such_file : (x : Text) → topic_of_end (x ++ codes " no such file") ≡ Some topic.Read
no_such_file x =
    let t = codes " no such file" in
    rw (
      not_at_end x t _ (codes " out of memor") (codes "y") refl (omega arith) refl,
      not_at_end x t _ (codes " read faile") (codes "d") refl (omega arith) refl,
      at_end x t t (omega arith),
    ) refl

pub permission_denied : (x : Text) → topic_of_end (x ++ codes " permission denied") ≡ Some topic.Read
permission_denied x =
    let t = codes " permission denied" in
    rw (
      not_at_end x t _ (codes " out of memor") (codes "y") refl (omega arith) refl,
      not_at_end x t _ (codes " read fai") (codes "led") refl (omega arith) refl,
      not_at_end x t _ (codes " no such fil") (codes "e") refl (omega arith) refl,
      at_end x t t (omega arith),
    ) refl

pub is_a_folder : (x : Text) → topic_of_end (x ++ codes " is a folder") ≡ Some topic.Read
is_a_folder x =
    let t = codes " is a folder" in
    rw (
      not_at_end x t _ (codes " out of memor") (codes "y") refl (omega arith) refl,
      not_at_end x t _ (codes " read faile") (codes "d") refl (omega arith) refl,
      not_at_end x t _ (codes " no such fil") (codes "e") refl (omega arith) refl,
      not_at_end x t _ (codes " permission denie") (codes "d") refl (omega arith) refl,
      at_end x t t (omega arith),
    ) refl

pub not_utf8 : (x : Text) → topic_of_end (x ++ codes " name is not valid utf-8") ≡ Some topic.Read
not_utf8 x =
    let t = codes " name is not valid utf-8" in
    rw (
      not_at_end x t _ (codes " out of memor") (codes "y") refl (omega arith) refl,
      not_at_end x t _ (codes " read faile") (codes "d") refl (omega arith) refl,
      not_at_end x t _ (codes " no such fil") (codes "e") refl (omega arith) refl,
      not_at_end x t _ (codes " permission denie") (codes "d") refl (omega arith) refl,
      not_at_end x t _ (codes " is a folde") (codes "r") refl (omega arith) refl,
      at_end x t t (omega arith),
    ) refl

write_failed : (x : Text) → topic_of_end (x ++ codes " write failed") ≡ Some topic.Write
write_failed x =
    let t = codes " write failed" in
    rw (
      not_at_end x t _ (codes " out of memor") (codes "y") refl (omega arith) refl,
      not_at_end x t _ (codes " rea") (codes "d failed") refl (omega arith) refl,
      not_at_end x t _ (codes " no such fil") (codes "e") refl (omega arith) refl,
      not_at_end x t _ (codes " permission den") (codes "ied") refl (omega arith) refl,
      not_at_end x t _ (codes " is a folde") (codes "r") refl (omega arith) refl,
      not_at_end x t _ (codes " name is not valid utf") (codes "-8") refl (omega arith) refl,
      at_end x t t (omega arith),
    ) refl

pub the_input_is_empty : (x : Text) → topic_of_end (x ++ codes " the input is empty") ≡ Some (topic.Grammar Truncated)
the_input_is_empty x =
    let t = codes " the input is empty" in
    rw (
      not_at_end x t _ (codes " out of memo") (codes "ry") refl (omega arith) refl,
      not_at_end x t _ (codes " read faile") (codes "d") refl (omega arith) refl,
      not_at_end x t _ (codes " no such fil") (codes "e") refl (omega arith) refl,
      not_at_end x t _ (codes " permission denie") (codes "d") refl (omega arith) refl,
      not_at_end x t _ (codes " is a folde") (codes "r") refl (omega arith) refl,
      not_at_end x t _ (codes " name is not valid utf") (codes "-8") refl (omega arith) refl,
      not_at_end x t _ (codes " write faile") (codes "d") refl (omega arith) refl,
      at_end x t t (omega arith),
    ) refl

-- the last letter of these two names is that of an ending too; a colon is before the first
empty_unended : (x : Text) → topic_of_end (x ++ codes ": empty") ≡ None
empty_unended x =
    let t = codes ": empty" in
    no_topic (x ++ t) (not_at_end x t _ (codes " out of memo") (codes "ry") refl (omega arith) refl)
    (not_at_end x t _ (codes " read faile") (codes "d") refl (omega arith) refl)
    (not_at_end x t _ (codes " no such fil") (codes "e") refl (omega arith) refl)
    (not_at_end x t _ (codes " permission denie") (codes "d") refl (omega arith) refl)
    (not_at_end x t _ (codes " is a folde") (codes "r") refl (omega arith) refl)
    (not_at_end x t _ (codes " name is not valid utf") (codes "-8") refl (omega arith) refl)
    (not_at_end x t _ (codes " write faile") (codes "d") refl (omega arith) refl)
    (not_at_end x t _ (codes " the input i") (codes "s empty") refl (omega arith) refl)

too_large_unended : (x : Text) → topic_of_end (x ++ codes " toolarge") ≡ None
too_large_unended x =
    let t = codes " toolarge" in
    no_topic (x ++ t) (not_at_end x t _ (codes " out of memor") (codes "y") refl (omega arith) refl)
    (not_at_end x t _ (codes " read faile") (codes "d") refl (omega arith) refl)
    (not_at_end x t _ (codes " no such fi") (codes "le") refl (omega arith) refl)
    (not_at_end x t _ (codes " permission denie") (codes "d") refl (omega arith) refl)
    (not_at_end x t _ (codes " is a folde") (codes "r") refl (omega arith) refl)
    (not_at_end x t _ (codes " name is not valid utf") (codes "-8") refl (omega arith) refl)
    (not_at_end x t _ (codes " write faile") (codes "d") refl (omega arith) refl)
    (not_at_end x t _ (codes " the input is empt") (codes "y") refl (omega arith) refl)

hue_unended : (x : Text) → topic_of_end (x ++ codes " hue") ≡ None
hue_unended x =
    let t = codes " hue" in
    no_topic (x ++ t) (not_at_end x t _ (codes " out of memor") (codes "y") refl (omega arith) refl)
    (not_at_end x t _ (codes " read faile") (codes "d") refl (omega arith) refl)
    (not_at_end x t _ (codes " no such fi") (codes "le") refl (omega arith) refl)
    (not_at_end x t _ (codes " permission denie") (codes "d") refl (omega arith) refl)
    (not_at_end x t _ (codes " is a folde") (codes "r") refl (omega arith) refl)
    (not_at_end x t _ (codes " name is not valid utf") (codes "-8") refl (omega arith) refl)
    (not_at_end x t _ (codes " write faile") (codes "d") refl (omega arith) refl)
    (not_at_end x t _ (codes " the input is empt") (codes "y") refl (omega arith) refl)

-- ---- what the program writes

-- the text is another and then a colon, after a space and in small letters
pub record EndsInColon (text : Text) : Type 0 where
  pub front : Text
  pub is : low (32 ∷ text) ≡ front ++ 58 ∷ []

colon_marked : (text : Text) → EndsInColon text → list_any is_mark (low (32 ∷ text)) ≡ true
colon_marked text colon = ap (list_any is_mark) colon.is ∙ marked_after colon.front (58 ∷ []) refl

-- the line of a fault, whatever it begins with, if that ends in a colon
pub fault_pasted : (first : Text) (f : RunFault) (said : List Text) → EndsInColon first
    → ArePasted said (line first (fault_parts f)) → names_in (line_of said) ≡ Some (topic_name (topic_of f) ∷ [])
fault_pasted first (fault.Grammar f) said colon are = name_at first (topic.Grammar f.reason) f.place said are
fault_pasted first (fault.Ppm reason place) said colon are = name_at first (topic.Ppm reason) place said are
fault_pasted first fault.NotRgb said colon are =
    name_last first topic.NotRgb said (colon_marked first colon)
    (no_ending (low (32 ∷ first)) (codes " notrgb") (omega arith) refl refl refl refl refl) are
fault_pasted first fault.NoBox said colon are =
    name_last first topic.NoBox said (colon_marked first colon) (no_ending (low (32 ∷ first)) (codes " nobox") (omega arith) refl refl refl refl refl) are
fault_pasted first (fault.Unmodelled place) said colon are = name_at first topic.Unmodelled place said are
fault_pasted first fault.NoString said colon are =
    name_last first topic.NoString said (colon_marked first colon)
    (no_ending (low (32 ∷ first)) (codes " nostring") (omega arith) refl refl refl refl refl) are
fault_pasted first (fault.Large width height) said colon are =
    name_size first (topic.Asked asked.Large) width height said are
fault_pasted first fault.Hue said colon are =
    name_last first (topic.Asked asked.Hue) said (colon_marked first colon) (hue_unended (low (32 ∷ first))) are
fault_pasted first fault.Empty said colon are =
    name_last first topic.Empty said (colon_marked first colon)
    (ap (λ (x : Text). topic_of_end (x ++ codes " empty")) colon.is
    ∙ ap topic_of_end (append_assoc colon.front (58 ∷ []) (codes " empty")) ∙ empty_unended colon.front) are
fault_pasted first fault.TooLarge said colon are =
    name_last first topic.TooLarge said (colon_marked first colon) (too_large_unended (low (32 ∷ first))) are
fault_pasted first fault.TooManyColours said colon are =
    name_last first (topic.Ppm ppm.TooManyColours) said (colon_marked first colon)
    (no_ending (low (32 ∷ first)) (codes " toomanycolours") (omega arith) refl refl refl refl refl) are
fault_pasted first fault.OutOfMemory said colon are =
    ending_pasted first (codes "out of memory") topic.OutOfMemory said out_of_memory are
fault_pasted first fault.Read said colon are = ending_pasted first (codes "read failed") topic.Read said read_failed are
fault_pasted first fault.Write said colon are =
    ending_pasted first (codes "write failed") topic.Write said write_failed are

-- a finding names no pixel, or one
pub two_numbers : (r : ARule) (pixel : Option (ℕ × ℕ))
    → (pixel_parts r pixel ≡ []) ⊎ ((x : ℕ) × (y : ℕ) × (pixel_parts r pixel ≡ decimal x ∷ decimal y ∷ []))
two_numbers rule.Outside None = inl refl
two_numbers rule.Outside (Some p) = inr (p.0, p.1, refl)
two_numbers rule.Uncovered None = inl refl
two_numbers rule.Uncovered (Some p) = inr (p.0, p.1, refl)
two_numbers _ pixel = inl refl

-- a name, an offset, and the numbers of a pixel or none
numbers_named : (text : Text) (t : Topic) (place : ℕ) (pixel : List Text)
    → (pixel ≡ []) ⊎ ((x : ℕ) × (y : ℕ) × (pixel ≡ decimal x ∷ decimal y ∷ []))
    → names_in (text ++ spaced (map low (topic_name t ∷ decimal place ∷ pixel))) ≡ Some (topic_name t ∷ [])
numbers_named text t place pixel (inl none) =
    ap (λ (p : List Text). names_in (text ++ spaced (map low (topic_name t ∷ decimal place ∷ p)))) none
    ∙ ap (λ (d : Text). names_in (text ++ spaced (low (topic_name t) ∷ d ∷ []))) (low_number place)
    ∙ name_before_number text t [] place (number_nameless place, tt)
numbers_named text t place pixel (inr one) =
    let name = low (topic_name t) in
    ap (λ (p : List Text). names_in (text ++ spaced (map low (topic_name t ∷ decimal place ∷ p)))) one.2
    ∙ ap (λ (d : Text). names_in (text ++ spaced (name ∷ d ∷ low (decimal one.0) ∷ low (decimal one.1) ∷ [])))
    (low_number place)
    ∙ ap (λ (d : Text). names_in (text ++ spaced (name ∷ decimal place ∷ d ∷ low (decimal one.1) ∷ [])))
    (low_number one.0)
    ∙ ap (λ (d : Text). names_in (text ++ spaced (name ∷ decimal place ∷ decimal one.0 ∷ d ∷ []))) (low_number one.1)
    ∙ name_before_number text t (decimal place ∷ decimal one.0 ∷ []) one.1
    (number_nameless place, (number_nameless one.0, (number_nameless one.1, tt)))

pub line_after : (before first : Text) (parts : List Text) → before ++ line first parts ≡ line (before ++ first) parts
line_after before first parts =
    sym (append_assoc before (first ++ spaced parts) (10 ∷ []))
    ∙ ap (λ (t : Text). t ++ 10 ∷ []) (sym (append_assoc before first (spaced parts)))

-- the line of a broken rule, whatever is before it
pub finding_pasted : (before : Text) (f : Finding) (said : List Text) → ArePasted said (before ++ finding_line f)
    → names_in (line_of said) ≡ Some (rule_name f.rule ∷ [])
finding_pasted before f said are =
    let parts = rule_name f.rule ∷ decimal f.place ∷ pixel_parts f.rule f.pixel in
    ap names_in
    (pasted said (before ++ codes "broken") parts
    (are ∙ ap (λ (t : Text). 32 ∷ t) (line_after before (codes "broken") parts)))
    ∙ numbers_named (low (32 ∷ (before ++ codes "broken"))) (topic.Rule f.rule) f.place (pixel_parts f.rule f.pixel)
    (two_numbers f.rule f.pixel)

-- the same of a rule that a named terminal asks for
pub asked_pasted : (before : Text) (f : AskedFinding) (said : List Text) → ArePasted said (before ++ asked_line f)
    → names_in (line_of said) ≡ Some (name_of f.rule ∷ [])
asked_pasted before f said are =
    let parts = name_of f.rule ∷ decimal f.place ∷ [] in
    ap names_in
    (pasted said (before ++ codes "broken") parts
    (are ∙ ap (λ (t : Text). 32 ∷ t) (line_after before (codes "broken") parts)))
    ∙ numbers_named (low (32 ∷ (before ++ codes "broken"))) (topic.Asked f.rule) f.place [] (inl refl)
