use Rattle.std.proofs.Common.{◌≡◌, ◌≢◌, ◌∙◌, ◌⊎◌, Option, Some, true, false, ap, inl, inr, subst, sym}
use Rattle.sixel_scan.specs.declared.opening.Opening.{Opening}
use Rattle.sixel_scan.specs.declared.opening.Opening.TheVariants.{Nothing, Escape, Letter}
use Rattle.sixel_scan.proofs.AdvanceLemmas.{NextIs, begins_none_by, next_anew, next_introducer}
use Rattle.sixel_scan.proofs.AdvanceLemmas.{introduced_by, next_letter, next_on, next_past}
use Rattle.sixel_scan.proofs.MarkLemmas.{follows_final}
use Rattle.sixel_scan.specs.Openings.{Follows, is_introduced}
use Rattle.sixel_scan.proofs.opening.Opening.next.Goals as goal
use Rattle.sixel_scan.proofs.opening.Opening.next.Goals.{else-eight-via-else-eight}
use Rattle.sixel_scan.proofs.opening.Opening.next.Goals.{else-eight-via-then-eight+else-byte-eq-EIGHT_BIT_INTRODUCER}

pub returns-then-byte-eq-ESCAPE-clause-next : goal.returns-then-byte-eq-ESCAPE-clause-next
returns-then-byte-eq-ESCAPE-clause-next c = next_anew c.args.eight c.args.self c.args.byte c.if-byte-eq-ESCAPE.true

pub returns-then-byte-eq-EIGHT_BIT_INTRODUCER-clause-next : goal.returns-then-byte-eq-EIGHT_BIT_INTRODUCER-clause-next
returns-then-byte-eq-EIGHT_BIT_INTRODUCER-clause-next c =
    next_introducer c.args.eight c.args.self c.args.byte c.if-eight.true c.if-byte-eq-EIGHT_BIT_INTRODUCER.true

pub returns-in-Nothing-clause-next : goal.returns-in-Nothing-clause-next
returns-in-Nothing-clause-next c =
    let control : (c.args.eight ≡ false) ⊎ (c.args.byte ≢ 144) = elim c.else-eight.branch [
      | else-eight-via-then-eight+else-byte-eq-EIGHT_BIT_INTRODUCER w ↦ inr w.if-byte-eq-EIGHT_BIT_INTRODUCER.false
      | else-eight-via-else-eight w ↦ inl w.if-eight.false
    ] in
    subst (λ (o : Opening). NextIs c.args.eight o c.args.byte (Some Nothing)) (sym c.in-Nothing.is)
    (next_past c.args.eight Nothing c.args.byte tt
    (begins_none_by c.args.eight c.args.byte c.if-byte-eq-ESCAPE.false control))

pub returns-in-Escape-2-clause-next : goal.returns-in-Escape-2-clause-next
returns-in-Escape-2-clause-next c =
    let control : (c.args.eight ≡ false) ⊎ (c.args.byte ≢ 144) = elim c.else-eight.branch [
      | else-eight-via-then-eight+else-byte-eq-EIGHT_BIT_INTRODUCER w ↦ inr w.if-byte-eq-EIGHT_BIT_INTRODUCER.false
      | else-eight-via-else-eight w ↦ inl w.if-eight.false
    ] in
    subst (λ (o : Opening). NextIs c.args.eight o c.args.byte (Some Nothing)) (sym c.in-Escape-2.is)
    (next_past c.args.eight Escape c.args.byte c.if-byte-eq80.false
    (begins_none_by c.args.eight c.args.byte c.if-byte-eq-ESCAPE.false control))

pub returns-in-Escape-clause-next : goal.returns-in-Escape-clause-next
returns-in-Escape-clause-next c =
    subst (λ (o : Opening). NextIs c.args.eight o c.args.byte (Some Letter)) (sym c.in-Escape.is)
    (next_letter c.args.eight c.args.byte c.if-byte-eq80.true)

pub returns-in-Letter : goal.returns-in-Letter
returns-in-Letter c =
    let control : (c.args.eight ≡ false) ⊎ (c.args.byte ≢ 144) = elim c.else-eight.branch [
      | else-eight-via-then-eight+else-byte-eq-EIGHT_BIT_INTRODUCER w ↦ inr w.if-byte-eq-EIGHT_BIT_INTRODUCER.false
      | else-eight-via-else-eight w ↦ inl w.if-eight.false
    ] in
    let introduced = introduced_by c.args.self c.in-Letter.is in
    record {
      next = subst (λ (o : Option Opening). NextIs c.args.eight c.args.self c.args.byte o)
          (sym c.after_introducer.ensures)
          (next_on c.args.self introduced (begins_none_by c.args.eight c.args.byte c.if-byte-eq-ESCAPE.false control));
      longer = λ is. introduced;
      follows = subst (Follows c.args.self c.args.byte) (sym c.after_introducer.ensures)
          (follows_final c.args.byte (
            c.if-byte-eq-ESCAPE.false,
            λ is. absurd (let no : true ≡ false = sym introduced ∙ ap is_introduced is in cc),
          ));
    }
