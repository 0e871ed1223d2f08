use Rattle.std.proofs.Common.{◌≡◌, ◌∙◌, ◌++◌, ◌∷◌, [], ap, refl, subst, sym}
use Rattle.sixel_grammar.specs.Document.{events_of}
use Rattle.sixel_model.specs.Events.{columns_of}
use Rattle.sixel_emulator_rules.specs.Notes.{IsNotesAfter, passed}
use Rattle.sixel_emulator_rules.specs.declared.notes.Notes.{Notes}
use Rattle.sixel_emulator_rules.proofs.SettledLemmas.{notes_data}
use Rattle.sixel_emulator_rules.proofs.TallyLemmas.{tallying_push}
use Rattle.sixel_emulator_rules.proofs.tallying.Tallying.push_data.Goals as goal

pub returns-clause-taken : goal.returns-clause-taken
returns-clause-taken c =
    let old = c.args.self.now in
    let e = c.args.event.now in
    let passes : c.pass.new.self ≡ passed old.notes (columns_of 0 e) =
    c.pass.ensures
    ∙ rw c.count_data.ensures (ap (passed old.notes) (c.from.ensures ∙ c.columns_of.ensures)) in
    rw c.count_data.ensures (λ seen h.
    tallying_push old _ seen c.args.place e refl refl
    (subst (λ (n : Notes). IsNotesAfter n (events_of seen ++ e ∷ [])) (sym passes)
    (notes_data old.notes (events_of seen) e c.requires h.notes_are)) h)
