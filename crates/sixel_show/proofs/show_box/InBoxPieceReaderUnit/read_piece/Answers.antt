use Rattle.std.proofs.Common.{◌∙◌, sym}
use Rattle.std.proofs.lemmas.Result.{err_from_is_err_and}
use Rattle.sixel_show.specs.Boxes.{terminal_of_kind}
use Rattle.sixel_show.proofs.StageLemmas.{drawn-stays, unfit-stays, watches-on}
use Rattle.sixel_show.proofs.show_box.InBoxPieceReaderUnit.read_piece.Goals as goal

pub look_for_box-requires : goal.look_for_box-requires
look_for_box-requires c =
    let b = c.requires.before in
    (b.2, rw (sym c.replace.ensures.value ∙ c.in-Undeclared.is) at b.3.1)

-- ---- a drawing

pub returns-in_err-follow-in-Drawn-clause-halted : goal.returns-in_err-follow-in-Drawn-clause-halted
returns-in_err-follow-in-Drawn-clause-halted c =
    let is = sym c.replace.ensures.value ∙ c.in-Drawn.is in
    let exit = c.from_residual-in_err-follow-in-Drawn in
    let failed = err_from_is_err_and exit.result exit.ensures.1 in
    rw (failed.1, failed.2)
    (λ first start bytes h. c.in_err-follow-in-Drawn.ensures.refused c.in-Drawn.watched bytes
    (watches-on (terminal_of_kind c.args.self.now.kind) c.args.reader.now c.in-Drawn.watched bytes (rw is at h.1)))

pub returns-in_ok-follow-in-Drawn-clause-read : goal.returns-in_ok-follow-in-Drawn-clause-read
returns-in_ok-follow-in-Drawn-clause-read c = λ first start bytes h. (
  h.0,
  drawn-stays (terminal_of_kind c.args.self.now.kind) c.args.reader.now c.follow.new.reader c.in-Drawn.watched
      c.follow.new.follower bytes c.args.piece.now (rw (sym c.replace.ensures.value ∙ c.in-Drawn.is) at h.1)
      c.in_ok-follow-in-Drawn.ensures.followed,
)

-- ---- a box that fits no screen

pub returns-in_err-follow-in-Unshowable-clause-halted : goal.returns-in_err-follow-in-Unshowable-clause-halted
returns-in_err-follow-in-Unshowable-clause-halted c =
    let exit = c.from_residual-in_err-follow-in-Unshowable in
    let failed = err_from_is_err_and exit.result exit.ensures.1 in
    rw (failed.1, failed.2)
    (λ first start bytes h. c.in_err-follow-in-Unshowable.ensures.refused tt bytes
    (record { events = h.1.events; read = h.1.read; taken = tt }))

pub returns-in_ok-follow-in-Unshowable-clause-read : goal.returns-in_ok-follow-in-Unshowable-clause-read
returns-in_ok-follow-in-Unshowable-clause-read c = λ first start bytes h.
    let a = c.in_ok-follow-in-Unshowable.ensures.followed tt bytes
    (record { events = h.1.events; read = h.1.read; taken = tt }) in (
      h.0,
      rw c.replace.ensures.after
          (unfit-stays (terminal_of_kind c.args.self.now.kind) c.args.reader.now c.follow-in-Unshowable.new.reader
          a.events bytes c.args.piece.now (rw (sym c.replace.ensures.value ∙ c.in-Unshowable.is) at h.1) a.read),
    )
