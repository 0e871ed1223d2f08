use Rattle.std.proofs.Common.{refl, ◌≡◌, [], ◌∷◌, ◌++◌, ◌-◌, ◌<◌, ℕ, length, sym, ap, subst, ◌∙◌, Some, None, arith}
use Rattle.std.specs.Prelude.{OnSome}
use Rattle.sixel_grammar.specs.Document.{most_bytes}
use Rattle.sixel_grammar.specs.declared.command.Event.{Event}
use Rattle.sixel_grammar.specs.declared.command.Event.TheVariants.{Step}
use Rattle.sixel_grammar.specs.declared.fault.Fault.{Fault}
use Rattle.sixel_grammar.specs.declared.fault.Reason.{Reason}
use Rattle.sixel_grammar.specs.declared.pending.Pending.{Pending}
use Rattle.sixel_grammar.specs.Faults.{IsFaultOf, refusal}
use Rattle.sixel_grammar.specs.Next.{begin, settled, next_of, only_whole}
use Rattle.sixel_grammar.specs.Pending.{event_of, form_of}
use Rattle.sixel_grammar.specs.Standing.{opened_after}
use Rattle.sixel_grammar.proofs.ChoiceLemmas.{whole-is, stops}
use Rattle.sixel_grammar.proofs.StandLemmas.{whole, both, stopped, refused_at, fault_at}
use Rattle.sixel_grammar.proofs.reader.Reader.make_whole_or_refuse.Goals as goal

pub returns-then-self-eq0-clause-refused : goal.returns-then-self-eq0-clause-refused
returns-then-self-eq0-clause-refused c = λ events bytes s.
    let f = stopped c.args.self.now events bytes c.args.byte s c.if-self-eq0.true in (
      subst (IsFaultOf (bytes ++ c.args.byte ∷ [])) (sym c.refuse.ensures.answer) f.0,
      ap (λ (t : Fault). t.place) c.refuse.ensures.answer ∙ f.1,
      c.refuse.ensures.after,
    )

pub returns-in-Some-make_whole-clause-accepted : goal.returns-in-Some-make_whole-clause-accepted
returns-in-Some-make_whole-clause-accepted c = λ events bytes s.
    let place : most_bytes - c.args.self.now.left ≡ length bytes = omega (arith, s.left) in
    whole c.args.self.now _ events bytes c.args.byte c.opened_at-opened.result
    (event_of c.in-Some-make_whole.whole c.make_whole.new.self) c.of_one.result s
    (omega (arith, c.if-self-eq0.false))
    (whole-is _ _ _ (sym c.in-Some-make_whole.ensures.whole))
    (c.opened_at-opened.ensures ∙ ap (λ (n : ℕ). opened_after n c.args.self.now) place)
    (c.of_one.ensures
    ∙ ap
    (λ (e : Event). record { first = Some (record { place = c.opened_at-opened.result; event = e }); second = None })
    c.event_of.ensures) refl refl (λ i. refl)

pub returns-in-Some-end_and_make_whole-clause-accepted : goal.returns-in-Some-end_and_make_whole-clause-accepted
returns-in-Some-end_and_make_whole-clause-accepted c = λ events bytes s.
    let same : c.make_whole.new.self ≡ c.args.self.now.pending = c.in_default-make_whole.ensures.refused refl in
    both c.args.self.now _ events bytes c.args.byte c.opened_at-opened.result
    (Step c.in-Some-end_and_make_whole.both.ended)
    (event_of c.in-Some-end_and_make_whole.both.whole c.end_and_make_whole.new.self) c.of_two.result s
    (omega (arith, c.if-self-eq0.false))
    (ap (λ (p : Pending). next_of (form_of p) c.args.byte) (sym same) ∙ c.in-Some-end_and_make_whole.ensures.ended)
    c.opened_at-opened.ensures
    (c.of_two.ensures
    ∙ ap (λ (e : Event).
    record {
      first = Some (record { place = c.opened_at-opened.result; event = Step c.in-Some-end_and_make_whole.both.ended });
      second = Some (record { place = most_bytes - c.args.self.now.left; event = e });
    }) c.event_of-second.ensures)
    refl refl refl

pub returns-in-None-clause-refused : goal.returns-in-None-clause-refused
returns-in-None-clause-refused c = λ events bytes s.
    let lt : 0 < c.args.self.now.left = omega (arith, c.if-self-eq0.false) in
    let same : c.make_whole.new.self ≡ c.args.self.now.pending = c.in_default-make_whole.ensures.refused refl in
    let stop : next_of (form_of c.args.self.now.pending) c.args.byte ≡ None =
    stops (form_of c.args.self.now.pending) c.args.byte (c.requires.not_grown lt)
    (sym c.in_default-make_whole.ensures.whole) (c.requires.not_ended lt)
    (subst (λ (p : Pending). OnSome (settled (form_of p)) (only_whole (begin c.args.byte) ≡ None)) same
    (c.in-None.ensures.not_ended refl)) in
    let f = refused_at c.args.self.now events bytes c.args.byte s lt stop in
    let reason : c.reason_for-reason.result ≡ refusal (form_of c.args.self.now.pending) c.args.byte =
    c.reason_for-reason.ensures
    ∙ ap (λ (p : Pending). refusal (form_of p) c.args.byte) (c.in-None.ensures.refused refl ∙ same) in
    let answer : c.refuse-in-None.result
    ≡ fault_at (refusal (form_of c.args.self.now.pending) c.args.byte) (most_bytes - c.args.self.now.left) =
    c.refuse-in-None.ensures.answer ∙ ap (λ (r : Reason). fault_at r (most_bytes - c.args.self.now.left)) reason in (
      subst (IsFaultOf (bytes ++ c.args.byte ∷ [])) (sym answer) f.0,
      ap (λ (t : Fault). t.place) answer ∙ f.1,
      c.refuse-in-None.ensures.after,
    )
