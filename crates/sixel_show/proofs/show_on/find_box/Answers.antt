use Rattle.std.proofs.Common.{◌≡◌, List, Some}
use Rattle.std.specs.Prelude.{IfSome}
use Rattle.sixel_grammar.specs.declared.command.Placed.{Placed}
use Rattle.sixel_grammar.specs.Document.{Document, IsDocument, events_of}
use Rattle.sixel_grammar.specs.FirstPiece.{with_first}
use Rattle.sixel_grammar.proofs.FollowSourceLemmas.{told_known}
use Rattle.sixel_keeping.specs.declared.keeping.Keeping.{Keeping}
use Rattle.sixel_keeping.proofs.KeepingLemmas.{keeps_none, kept_so}
use Rattle.sixel_show.specs.Boxes.{HasFound, box_in}
use Rattle.sixel_show.proofs.StageLemmas.{box-of-none, nothing_found}
use Rattle.sixel_show.proofs.show_on.find_box.Goals as goal

pub read_rest-requires-clause-unread : goal.read_rest-requires-clause-unread
read_rest-requires-clause-unread g c =
    let kept : Keeping = record { kept = Some c.new.result } in
    (nothing_found, kept, keeps_none HasFound nothing_found kept box-of-none c.new.ensures.items)

pub returns-clause-read : goal.returns-clause-read
returns-clause-read g c =
    let kept : Keeping = record { kept = Some c.new.result } in
    let r = c.in_ok-read_rest.ensures.read nothing_found kept
    (keeps_none HasFound nothing_found kept box-of-none c.new.ensures.items) in
    kept_so (λ k. k.items) c.read_rest.new.pieces.kept r.bytes
    (λ bytes. IfSome (with_first c.args.piece.now c.args.read (g.S.Source.state c.args.input.now).remaining)
    (λ told. told ≡ bytes)) r.read.1 r.known_are

pub returns-clause-found : goal.returns-clause-found
returns-clause-found g c =
    let kept : Keeping = record { kept = Some c.new.result } in
    let r = c.in_ok-read_rest.ensures.read nothing_found kept
    (keeps_none HasFound nothing_found kept box-of-none c.new.ensures.items) in
    kept_so (λ k. k.items) c.read_rest.new.pieces.kept r.bytes
    (λ bytes. (placed : List Placed) × Document placed bytes
    × (c.read_rest.new.follower.found ≡ box_in (events_of placed))) r.read.1
    (r.read.0.events, r.document r.read.0.events r.read.0.read, r.read.0.taken)

pub returns-clause-told : goal.returns-clause-told
returns-clause-told g c =
    let kept : Keeping = record { kept = Some c.new.result } in
    let r = c.in_ok-read_rest.ensures.read nothing_found kept
    (keeps_none HasFound nothing_found kept box-of-none c.new.ensures.items) in
    told_known (with_first c.args.piece.now c.args.read (g.S.Source.state c.args.input.now).remaining) r.bytes
    IsDocument r.known_are (r.read.0.events, r.document r.read.0.events r.read.0.read)
