use Rattle.std.proofs.Common.{◌∙◌, ◌++◌, ℕ, List, subst, sym}
use Rattle.std.proofs.lemmas.Result.{err_from_is_err_and}
use Rattle.sixel_grammar.specs.declared.fault.InputFault.TheVariants.{Grammar}
use Rattle.sixel_grammar.specs.Prefixes.{CompleteIn}
use Rattle.sixel_grammar.specs.Reading.{ExplainsAlways}
use Rattle.sixel_grammar.specs.Document.{events_of}
use Rattle.sixel_grammar.proofs.StandLemmas.{read_complete}
use Rattle.sixel_show.specs.Boxes.{terminal_of_kind}
use Rattle.sixel_io.proofs.KeptLemmas.{kept-more}
use Rattle.sixel_show.proofs.StageLemmas.{declares-now, drawn-now, finds-box, looks-on, nothing_found, unfit-now}
use Rattle.sixel_show.proofs.show_box.look_for_box.Goals as goal

pub follow-requires : goal.follow-requires
follow-requires c =
    let h = c.requires.1 in
    (nothing_found, c.requires.0, looks-on _ h.events c.requires.0 h.read h.taken.1)

pub returns-in_err-follow-clause-halted : goal.returns-in_err-follow-clause-halted
returns-in_err-follow-clause-halted c =
    let failed = err_from_is_err_and c.from_residual.result c.from_residual.ensures.1 in
    rw (failed.1, failed.2)
    (λ bytes h. c.in_err-follow.ensures.refused nothing_found bytes (looks-on _ h.events bytes h.read h.taken.1))

pub returns-in-None-clause-read : goal.returns-in-None-clause-read
returns-in-None-clause-read c = λ bytes h.
    let f =
    finds-box _ c.follow.new.reader c.follow.new.follower _ _ bytes c.args.piece.now h.read h.taken.1
    c.in_ok-follow.ensures.followed c.in-None.is in
    record {
      events = f.events;
      read = f.read;
      taken = (
        kept-more (λ k. k.items) c.args.kept c.kept_with.result bytes c.args.piece.now c.kept_with.ensures.longer
            c.kept_with.ensures.some h.taken.0,
        sym f.taken,
      );
    }

pub returns-in-None-sides_of_box-clause-read : goal.returns-in-None-sides_of_box-clause-read
returns-in-None-sides_of_box-clause-read c = λ bytes h.
    let f =
    finds-box _ c.follow.new.reader c.follow.new.follower _ _ bytes c.args.piece.now h.read h.taken.1
    c.in_ok-follow.ensures.followed c.in-Some.is in
    record {
      events = f.events;
      read = f.read;
      taken = unfit-now (events_of f.events) c.in-Some.width c.in-Some.height f.taken
          (sym c.in-None-sides_of_box.is ∙ c.sides_of_box.ensures.value);
    }

pub returns-in_ok-draw_bytes-in-Some-sides_of_box-clause-read : goal.returns-in_ok-draw_bytes-in-Some-sides_of_box-clause-read
returns-in_ok-draw_bytes-in-Some-sides_of_box-clause-read c = λ bytes h.
    let f =
    finds-box _ c.follow.new.reader c.follow.new.follower _ _ bytes c.args.piece.now h.read h.taken.1
    c.in_ok-follow.ensures.followed c.in-Some.is in
    let watched = c.in_ok-draw_bytes-in-Some-sides_of_box in
    let sides : ℕ × ℕ = (c.in-Some-sides_of_box.width, c.in-Some-sides_of_box.height) in
    let had = rw c.in-Some-kept.is at h.taken.0 in
    let complete : CompleteIn f.events (c.deref.result.now ++ c.args.piece.now) =
    subst (λ (t : List ℕ). CompleteIn f.events (t ++ c.args.piece.now)) (sym (c.deref.ensures.value ∙ had))
    (read_complete c.follow.new.reader f.events (bytes ++ c.args.piece.now) f.read) in
    record {
      events = f.events;
      read = f.read;
      taken = drawn-now (terminal_of_kind c.args.kind) watched.field-0 (events_of f.events) c.in-Some.width
          c.in-Some.height sides f.taken (sym c.in-Some-sides_of_box.is ∙ c.sides_of_box.ensures.value)
          (watched.ensures.terminal ∙ c.in-Ok.ensures.terminal) (watched.ensures.watched f.events complete);
    }

pub returns-in_err-draw_bytes-in-Some-sides_of_box-clause-halted : goal.returns-in_err-draw_bytes-in-Some-sides_of_box-clause-halted
returns-in_err-draw_bytes-in-Some-sides_of_box-clause-halted c =
    let exit = c.from_residual-in_err-draw_bytes-in-Some-sides_of_box in
    let failed = err_from_is_err_and exit.result exit.ensures.1 in
    rw (failed.1, failed.2)
    (λ bytes h.
    let had = rw c.in-Some-kept.is at h.taken.0 in
    let fault = c.in_err-draw_bytes-in-Some-sides_of_box.field-0.0 in
    subst (λ (t : List ℕ). ExplainsAlways (Grammar fault) (t ++ c.args.piece.now)) (c.deref.ensures.value ∙ had)
    c.in_err-draw_bytes-in-Some-sides_of_box.ensures.refused)

pub returns-in_default-clause-halted : goal.returns-in_default-clause-halted
returns-in_default-clause-halted c = λ bytes h.
    let f =
    finds-box _ c.follow.new.reader c.follow.new.follower _ _ bytes c.args.piece.now h.read h.taken.1
    c.in_ok-follow.ensures.followed c.in-Some.is in
    let sides : ℕ × ℕ = (c.in-Some-sides_of_box.width, c.in-Some-sides_of_box.height) in
    declares-now c.follow.new.reader (bytes ++ c.args.piece.now) c.in-Some.width c.in-Some.height sides f
    (sym c.in-Some-sides_of_box.is ∙ c.sides_of_box.ensures.value)

pub returns-in_default-begin_in_box-clause-halted : goal.returns-in_default-begin_in_box-clause-halted
returns-in_default-begin_in_box-clause-halted c = λ bytes h.
    let f =
    finds-box _ c.follow.new.reader c.follow.new.follower _ _ bytes c.args.piece.now h.read h.taken.1
    c.in_ok-follow.ensures.followed c.in-Some.is in
    let sides : ℕ × ℕ = (c.in-Some-sides_of_box.width, c.in-Some-sides_of_box.height) in
    declares-now c.follow.new.reader (bytes ++ c.args.piece.now) c.in-Some.width c.in-Some.height sides f
    (sym c.in-Some-sides_of_box.is ∙ c.sides_of_box.ensures.value)
