use Rattle.std.proofs.Common.{[], subst, sym}
use Rattle.sixel_emulator.specs.declared.hearing.Hears.{Hears}
use Rattle.sixel_emulator.specs.Looking.{HasLooked}
use Rattle.sixel_show.specs.declared.on_konsole.Kept.TheVariants.{Bytes}
use Rattle.sixel_show.specs.declared.on_konsole.KonsoleBytes.{KonsoleBytes}
use Rattle.sixel_show.proofs.OnKonsoleLemmas.{draws_none, is_drawn}
use Rattle.sixel_show.proofs.on_konsole.follow_on_konsole.Goals as goal

pub read_rest-requires-clause-unread : goal.read_rest-requires-clause-unread
read_rest-requires-clause-unread g c =
    let start : KonsoleBytes = record { looking = c.new.result; kept = Bytes c.new-2.result } in
    let looked = subst (λ (h : Hears). HasLooked h c.new.result []) (sym c.new.ensures.0) c.new.ensures in
    (c.args.konsole.now, start, draws_none c.args.konsole.now start c.requires.unheard looked)

pub returns-clause-drawn : goal.returns-clause-drawn
returns-clause-drawn g c =
    let start : KonsoleBytes = record { looking = c.new.result; kept = Bytes c.new-2.result } in
    let looked = subst (λ (h : Hears). HasLooked h c.new.result []) (sym c.new.ensures.0) c.new.ensures in
    let r = c.in_ok-read_rest.ensures.read c.args.konsole.now start
    (draws_none c.args.konsole.now start c.requires.unheard looked) in (
      r.bytes,
      is_drawn c.args.konsole.now c.read_rest.new.follower start c.read_rest.new.pieces r.reader r.bytes
          c.new.ensures.0 r.read r.document c.requires.followed c.requires.measured c.new-2.ensures.items,
      r.known_are,
    )

pub returns-clause-terminal : goal.returns-clause-terminal
returns-clause-terminal g c =
    let start : KonsoleBytes = record { looking = c.new.result; kept = Bytes c.new-2.result } in
    let looked = subst (λ (h : Hears). HasLooked h c.new.result []) (sym c.new.ensures.0) c.new.ensures in
    let r = c.in_ok-read_rest.ensures.read c.args.konsole.now start
    (draws_none c.args.konsole.now start c.requires.unheard looked) in
    r.read.drawn.1.taken.1.0.0
