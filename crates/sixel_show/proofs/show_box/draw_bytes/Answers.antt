use Rattle.std.proofs.Common.{◌++◌, [], refl}
use Rattle.std.proofs.lemmas.Result.{err_from_is_err_and}
use Rattle.sixel_grammar.specs.declared.fault.InputFault.TheVariants.{Grammar}
use Rattle.sixel_grammar.proofs.SourceLemmas.{refuses-more}
use Rattle.sixel_show.proofs.StageLemmas.{watched-all, watches-none}
use Rattle.sixel_show.proofs.show_box.draw_bytes.Goals as goal

pub follow-requires : goal.follow-requires
follow-requires c = (c.args.watched, [], watches-none _ c.args.watched c.new-reader.ensures c.requires)

pub follow-requires-2 : goal.follow-requires-2
follow-requires-2 c =
    let none = watches-none _ c.args.watched c.new-reader.ensures c.requires in
    (c.args.watched, c.args.bytes.now, c.in_ok-follow.ensures.followed c.args.watched [] none)

pub returns-in_err-follow-clause-refused : goal.returns-in_err-follow-clause-refused
returns-in_err-follow-clause-refused c =
    let none = watches-none _ c.args.watched c.new-reader.ensures c.requires in
    let failed = err_from_is_err_and c.from_residual.result c.from_residual.ensures.1 in
    rw (failed.1, failed.2)
    (refuses-more (Grammar c.in_err-follow.field-0.0) c.args.bytes.now c.args.piece.now
    (c.args.bytes.now ++ c.args.piece.now) refl (c.in_err-follow.ensures.refused c.args.watched [] none))

pub returns-in_err-follow-2-clause-refused : goal.returns-in_err-follow-2-clause-refused
returns-in_err-follow-2-clause-refused c =
    let none = watches-none _ c.args.watched c.new-reader.ensures c.requires in
    let exit = c.from_residual-in_err-follow-2 in
    let failed = err_from_is_err_and exit.result exit.ensures.1 in
    rw (failed.1, failed.2)
    (c.in_err-follow-2.ensures.refused c.args.watched c.args.bytes.now
    (c.in_ok-follow.ensures.followed c.args.watched [] none))

pub returns-clause-watched : goal.returns-clause-watched
returns-clause-watched c =
    let none = watches-none _ c.args.watched c.new-reader.ensures c.requires in
    let one = c.in_ok-follow.ensures.followed c.args.watched [] none in
    watched-all c.follow-2.new.reader c.args.watched c.follow-2.new.follower (c.args.bytes.now ++ c.args.piece.now)
    (c.in_ok-follow-2.ensures.followed c.args.watched c.args.bytes.now one)

pub returns-clause-terminal : goal.returns-clause-terminal
returns-clause-terminal c =
    let none = watches-none _ c.args.watched c.new-reader.ensures c.requires in
    let one = c.in_ok-follow.ensures.followed c.args.watched [] none in
    (c.in_ok-follow-2.ensures.followed c.args.watched c.args.bytes.now one).taken.0
