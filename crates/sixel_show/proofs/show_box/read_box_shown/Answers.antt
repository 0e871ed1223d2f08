use Rattle.std.proofs.Common.{List, Some, subst, sym}
use Rattle.std.proofs.lemmas.Result.{err_from_is_err_and}
use Rattle.sixel_grammar.specs.declared.command.Placed.{Placed}
use Rattle.sixel_grammar.specs.Document.{Document, events_of}
use Rattle.sixel_grammar.proofs.FollowSourceLemmas.{told_known}
use Rattle.sixel_show.specs.declared.show_box.InBox.{InBox}
use Rattle.sixel_show.specs.declared.show_box.Kind.{Kind}
use Rattle.sixel_show.specs.declared.show_box.Stage.TheVariants.{Undeclared}
use Rattle.sixel_show.specs.Boxes.{IsShownInBox, IsStageAfter, terminal_of_kind}
use Rattle.sixel_show.proofs.StageLemmas.{box-of-none, box_memory, undeclared_yet}
use Rattle.sixel_show.proofs.show_box.read_box_shown.Goals as goal

pub read_source-requires : goal.read_source-requires
read_source-requires g c =
    let begun : InBox = record { alloc = c.args.alloc; kind = c.args.kind; stage = Undeclared (Some c.new.result) } in
    (tt, begun, undeclared_yet begun (c.new.ensures.items, sym box-of-none))

pub returns-in_err-read_source-clause-memory : goal.returns-in_err-read_source-clause-memory
returns-in_err-read_source-clause-memory g c =
    let begun : InBox = record { alloc = c.args.alloc; kind = c.args.kind; stage = Undeclared (Some c.new.result) } in
    let failed = err_from_is_err_and c.from_residual.result c.from_residual.ensures.1 in
    rw (failed.1, failed.2)
    (box_memory _ begun c.read_source.new.pieces (g.S.Source.state c.args.input.now).remaining
    c.in_err-read_source.field-0.0 (undeclared_yet begun (c.new.ensures.items, sym box-of-none))
    c.in_err-read_source.ensures.halted)

pub returns-clause-shown : goal.returns-clause-shown
returns-clause-shown g c =
    let begun : InBox = record { alloc = c.args.alloc; kind = c.args.kind; stage = Undeclared (Some c.new.result) } in
    let r = c.in_ok-read_source.ensures.read tt begun (undeclared_yet begun (c.new.ensures.items, sym box-of-none)) in
    let a = r.read.1 in
    let stage = subst (λ (k : Kind). IsStageAfter (terminal_of_kind k) c.read_source.new.pieces.stage
    (events_of a.events) r.bytes) r.read.0 a.taken in
    told_known (g.S.Source.state c.args.input.now).remaining r.bytes
    (λ bytes. (events : List Placed) × Document events bytes
    × IsShownInBox c.args.kind.profile (terminal_of_kind c.args.kind) c.shown.result (events_of events))
    r.known_are (
      a.events,
      r.document a.events a.read,
      c.shown.ensures (terminal_of_kind c.args.kind) (events_of a.events) r.bytes stage,
    )
