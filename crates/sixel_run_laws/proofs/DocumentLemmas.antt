-- A document that begins with ESC P, and has no filler after its end, is one string.
use Rattle.std.proofs.Common.{◌≡◌, ◌≢◌, ◌∙◌, ℕ, ◌+◌, ◌≤◌, ◌⊎◌, inl, inr, Bool, true, false, IsTrue, List, []}
use Rattle.std.proofs.Common.{◌∷◌, ◌++◌, refl, sym, ap, ap₂, subst, append_assoc, arith}
use Rattle.std.specs.List.{AllByRecursion}
use Rattle.std.specs.Str.Parse.{AllDigits}
use Rattle.std.proofs.lemmas.Bool.Decides.{nat_tests}
use Rattle.std.proofs.lemmas.List.{append-nil}
use Rattle.std.proofs.lemmas.Str.Parse.{digit_from_value}
use Rattle.sixel_grammar.specs.Bytes.{introducer, is_filler, terminator}
use Rattle.sixel_grammar.specs.Document.{AreFiller, AreRest, AreWhole, Document, IsPiece, Piece, events_in, joined}
use Rattle.sixel_grammar.specs.Number.{Fields}
use Rattle.sixel_grammar.specs.Spelling.{Spells, SpellsCommand}
use Rattle.sixel_grammar.specs.declared.command.Command.{Command}
use Rattle.sixel_grammar.specs.declared.command.Command.TheVariants.{Sixel, Repeat, Raster, Select, Define}
use Rattle.sixel_grammar.specs.declared.command.Command.TheVariants.{CarriageReturn, NextLine}
use Rattle.sixel_grammar.specs.declared.command.Event.{Event}
use Rattle.sixel_grammar.specs.declared.command.Event.TheVariants.{Start, Step, Finish}
use Rattle.sixel_grammar.specs.declared.command.Placed.{Placed}
use Rattle.sixel_grammar.proofs.PieceLemmas.{all-append}
use Rattle.sixel_scan.specs.Scanning.{AreInside, IsInside}
use Rattle.sixel_scan.specs.Strings.{AreParameters, AreStrings, EndsFirst, IsOpening, IsString, is_parameter}
use Rattle.sixel_scan.proofs.EndLemmas.{end_at_eight, end_at_terminator, end_more, end_of_stream, ends_past}
use Rattle.sixel_scan.proofs.ListLemmas.{heads_differ}
use Rattle.sixel_scan.proofs.StringLemmas.{begin_with, none_in_nothing}

-- ---- no byte of a command ends the string

inside_between : (eight : Bool) (b : ℕ) → 28 ≤ b → b ≤ 126 → IsInside eight b
inside_between eight b low high = record {
  no_escape = λ e. absurd (omega (arith, e, low));
  no_cancel = λ e. absurd (omega (arith, e, low));
  no_substitute = λ e. absurd (omega (arith, e, low));
  no_terminator = λ on e. absurd (omega (arith, e, high));
}

filler_not : (b c : ℕ) → is_filler b ≡ true → is_filler c ≡ false → b ≢ c
filler_not b c is off e = let both : true ≡ false = sym is ∙ ap is_filler e ∙ off in cc

filler_inside : (eight : Bool) (b : ℕ) → is_filler b ≡ true → IsInside eight b
filler_inside eight b is = record {
  no_escape = filler_not b 27 is refl;
  no_cancel = filler_not b 24 is refl;
  no_substitute = filler_not b 26 is refl;
  no_terminator = λ on. filler_not b 156 is refl;
}

fillers_inside : (eight : Bool) (bytes : List ℕ) → AreFiller bytes → AreInside eight bytes
fillers_inside eight [] are = tt
fillers_inside eight (b ∷ bytes) are = (filler_inside eight b are.0, fillers_inside eight bytes are.1)

digits_inside : (eight : Bool) (bytes : List ℕ) → AllDigits 10 bytes → AreInside eight bytes
digits_inside eight [] are = tt
digits_inside eight (b ∷ bytes) are =
    let r = digit_from_value b are.0 in
    (inside_between eight b (omega (arith, r.0)) (omega (arith, r.1)), digits_inside eight bytes are.1)

inside_append : (eight : Bool) (xs ys : List ℕ) → AreInside eight xs → AreInside eight ys → AreInside eight (xs ++ ys)
inside_append eight xs ys p q = all-append (IsInside eight) xs ys p q

fields_inside : (eight : Bool) (ns bytes : List ℕ) → Fields ns bytes → AreInside eight bytes
fields_inside eight [] bytes h = absurd h
fields_inside eight (n ∷ []) bytes h = digits_inside eight bytes h.digits
fields_inside eight (n ∷ m ∷ ns) bytes h =
    subst (AreInside eight) (sym h.2)
    (inside_append eight h.0 (59 ∷ h.1) (digits_inside eight h.0 h.3.digits)
    (inside_between eight 59 (omega arith) (omega arith), fields_inside eight (m ∷ ns) h.1 h.4))

command_inside : (eight : Bool) (c : Command) (bytes : List ℕ) → SpellsCommand c bytes → AreInside eight bytes
command_inside eight (Sixel bits) bytes h =
    subst (AreInside eight) (sym h.1) (inside_between eight (63 + bits) (omega arith) (omega (arith, h.0)), tt)
command_inside eight (Repeat count bits) bytes h =
    subst (AreInside eight) (sym h.3)
    (inside_append eight (33 ∷ h.0) ((63 + bits) ∷ [])
    (inside_between eight 33 (omega arith) (omega arith), digits_inside eight h.0 h.1.digits)
    (inside_between eight (63 + bits) (omega arith) (omega (arith, h.2)), tt))
command_inside eight (Raster pan pad width height) bytes h =
    subst (AreInside eight) (sym h.5)
    (inside_between eight 34 (omega arith) (omega arith), fields_inside eight h.0 h.1 h.2)
command_inside eight (Select register) bytes h =
    subst (AreInside eight) (sym h.2)
    (inside_between eight 35 (omega arith) (omega arith), fields_inside eight (register ∷ []) h.0 h.1)
command_inside eight (Define register system x y z) bytes h =
    subst (AreInside eight) (sym h.2) (
      inside_between eight 35 (omega arith) (omega arith),
      fields_inside eight (register ∷ system ∷ x ∷ y ∷ z ∷ []) h.0 h.1,
    )
command_inside eight CarriageReturn bytes h =
    subst (AreInside eight) (sym h) (inside_between eight 36 (omega arith) (omega arith), tt)
command_inside eight NextLine bytes h =
    subst (AreInside eight) (sym h) (inside_between eight 45 (omega arith) (omega arith), tt)

-- ---- the terminator does

nothing_joined : (ps : List Piece) → events_in ps ≡ [] → joined ps ≡ []
nothing_joined [] e = refl
nothing_joined (p ∷ ps) e = cc

inside_off : IsInside false 156
inside_off = record {
  no_escape = λ e. absurd (omega (arith, e));
  no_cancel = λ e. absurd (omega (arith, e));
  no_substitute = λ e. absurd (omega (arith, e));
  no_terminator = λ on e. let on : false ≡ true = on in cc;
}

terminator_ends : (eight by_eight : Bool) → EndsFirst eight (terminator by_eight) []
terminator_ends eight false = end_at_terminator eight []
terminator_ends true true = end_at_eight true [] refl
terminator_ends false true = end_more inside_off (end_of_stream false)

finish_ends : (eight by_eight : Bool) (filler text after : List ℕ) → AreFiller filler → text ≡ terminator by_eight
    → after ≡ [] → EndsFirst eight (filler ++ text ++ after) []
finish_ends eight by_eight filler text after are is none =
    let whole : filler ++ terminator by_eight ≡ filler ++ text ++ after =
    sym (ap₂ (λ (a b : List ℕ). filler ++ a ++ b) is none ∙ append-nil (filler ++ terminator by_eight)) in
    subst (λ (t : List ℕ). EndsFirst eight t []) whole
    (ends_past filler (fillers_inside eight filler are) (terminator_ends eight by_eight))

piece_ends : (eight : Bool) (filler text : List ℕ) (e : Event) (ps : List Piece) → AreFiller filler → Spells e text
    → AreRest (e ∷ events_in ps) → (AreRest (events_in ps) → EndsFirst eight (joined ps) [])
    → EndsFirst eight (filler ++ text ++ joined ps) []
piece_ends eight filler text (Start by_eight parameters) ps are spells rest more = absurd rest
piece_ends eight filler text (Step c) ps are spells rest more =
    ends_past (filler ++ text)
    (inside_append eight filler text (fillers_inside eight filler are) (command_inside eight c text spells)) (more rest)
piece_ends eight filler text (Finish by_eight) ps are spells rest more =
    finish_ends eight by_eight filler text (joined ps) are spells (nothing_joined ps rest)

rest_ends : (eight : Bool) (ps : List Piece) → AllByRecursion IsPiece ps → AreRest (events_in ps)
    → EndsFirst eight (joined ps) []
rest_ends eight [] each rest = absurd rest
rest_ends eight (p ∷ ps) each rest =
    piece_ends eight p.filler p.text p.event ps each.0.filler_is each.0.spells rest (rest_ends eight ps each.1)

-- ---- the introducer and its parameters are an opening

digit_is_parameter : (b : ℕ) → 48 ≤ b → b ≤ 57 → is_parameter b ≡ true
digit_is_parameter b low high = grind (arith, nat_tests)

digits_parameters : (bytes : List ℕ) → AllDigits 10 bytes → AreParameters bytes
digits_parameters [] are = tt
digits_parameters (b ∷ bytes) are =
    let r = digit_from_value b are.0 in
    (digit_is_parameter b (omega (arith, r.0)) (omega (arith, r.1)), digits_parameters bytes are.1)

parameters_append : (xs ys : List ℕ) → AreParameters xs → AreParameters ys → AreParameters (xs ++ ys)
parameters_append xs ys p q = all-append (λ b. IsTrue (is_parameter b)) xs ys p q

fields_parameters : (ns bytes : List ℕ) → Fields ns bytes → AreParameters bytes
fields_parameters [] bytes h = absurd h
fields_parameters (n ∷ []) bytes h = digits_parameters bytes h.digits
fields_parameters (n ∷ m ∷ ns) bytes h =
    subst AreParameters (sym h.2)
    (parameters_append h.0 (59 ∷ h.1) (digits_parameters h.0 h.3.digits) (refl, fields_parameters (m ∷ ns) h.1 h.4))

opening_of : (eight : Bool) (text fields last : List ℕ) → AreParameters fields
    → (last ≡ 113 ∷ []) ⊎ (last ≡ 59 ∷ 113 ∷ []) → text ≡ introducer false ++ fields ++ last → IsOpening eight text
opening_of eight text fields last are ends is = elim ends [
  | inl e ↦ record {
    by_eight = false;
    allowed = λ on. let on : false ≡ true = on in absurd (cc);
    parameters = fields;
    parameters_are = are;
    opening_is = is ∙ ap (λ (t : List ℕ). introducer false ++ fields ++ t) e;
  }
  | inr e ↦ record {
    by_eight = false;
    allowed = λ on. let on : false ≡ true = on in absurd (cc);
    parameters = fields ++ 59 ∷ [];
    parameters_are = parameters_append fields (59 ∷ []) are (refl, tt);
    opening_is = is ∙ ap (λ (t : List ℕ). 27 ∷ 80 ∷ (fields ++ t)) e
        ∙ ap (λ (t : List ℕ). 27 ∷ 80 ∷ t) (sym (append_assoc fields (59 ∷ []) (113 ∷ [])));
  }
]

either_end : (P : Type 0) (last : List ℕ) → (last ≡ 113 ∷ []) ⊎ ((last ≡ 59 ∷ 113 ∷ []) × P)
    → (last ≡ 113 ∷ []) ⊎ (last ≡ 59 ∷ 113 ∷ [])
either_end P last h = elim h [ inl e ↦ inl e | inr e ↦ inr e.0 ]

-- ---- the whole

whole_by : (eight : Bool) (filler text : List ℕ) (e : Event) (ps : List Piece) (more : List ℕ) → AreFiller filler
    → Spells e text → AreWhole (e ∷ events_in ps) → (AreRest (events_in ps) → EndsFirst eight (joined ps) [])
    → filler ++ text ++ joined ps ≡ 27 ∷ 80 ∷ more → IsString eight (filler ++ text ++ joined ps) []
whole_by eight [] text (Start true parameters) ps more are spells whole rest starts =
    absurd (heads_differ 144 27 (spells.0 ++ spells.1 ++ joined ps) (80 ∷ more) (λ i. absurd (omega (arith, i)))
    (sym (ap (λ (t : List ℕ). t ++ joined ps) spells.5) ∙ starts))
whole_by eight [] text (Start false parameters) ps more are spells whole rest starts = record {
  opening = text;
  body = joined ps;
  opens = opening_of eight text spells.0 spells.1 (fields_parameters parameters.items spells.0 spells.2)
      (either_end _ spells.1 spells.4) spells.5;
  ends = rest whole;
  bytes_are = refl;
}
whole_by eight [] text (Step c) ps more are spells whole rest starts = absurd whole
whole_by eight [] text (Finish by_eight) ps more are spells whole rest starts = absurd whole
whole_by eight (f ∷ filler) text e ps more are spells whole rest starts = absurd (filler_not f 27 are.0 refl (cc))

whole_string : (eight : Bool) (pieces : List Piece) (more : List ℕ) → AllByRecursion IsPiece pieces
    → AreWhole (events_in pieces) → joined pieces ≡ 27 ∷ 80 ∷ more → IsString eight (joined pieces) []
whole_string eight [] more each whole starts = absurd whole
whole_string eight (p ∷ ps) more each whole starts =
    whole_by eight p.filler p.text p.event ps more each.0.filler_is each.0.spells whole (rest_ends eight ps each.1)
    starts

pub one_string : (eight : Bool) (events : List Placed) (bytes more : List ℕ) (document : Document events bytes)
    → bytes ≡ introducer false ++ more → document.parses.after ≡ []
    → AreStrings eight (record { place = 0; bytes = bytes } ∷ []) bytes
one_string eight events bytes more document starts bare =
    let p = document.parses in
    let is : bytes ≡ joined document.pieces =
    p.bytes_are ∙ ap (λ (t : List ℕ). joined document.pieces ++ t) bare ∙ append-nil (joined document.pieces) in
    let string : IsString eight bytes [] =
    subst (λ (t : List ℕ). IsString eight t []) (sym is)
    (whole_string eight document.pieces more p.each p.whole (sym is ∙ starts)) in
    subst (AreStrings eight (record { place = 0; bytes = bytes } ∷ [])) (append-nil bytes)
    (begin_with 0 [] string (none_in_nothing eight))
