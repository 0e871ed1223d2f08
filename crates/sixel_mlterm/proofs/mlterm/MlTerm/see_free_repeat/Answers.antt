use Rattle.std.proofs.Common.{◌≡◌, ◌∙◌, ◌+◌, ap, arith}
use Rattle.sixel_grammar.specs.declared.command.Command.TheVariants.{Repeat}
use Rattle.sixel_grammar.specs.declared.command.Event.TheVariants.{Step}
use Rattle.sixel_mlterm.specs.MlTerm.{reaching}
use Rattle.sixel_mlterm.specs.MlTermSeen.{buffer_of}
use Rattle.sixel_mlterm.proofs.MlTermLemmas.{repeat_reaches, seen_push}
use Rattle.sixel_mlterm.proofs.mlterm.MlTerm.see_free_repeat.Goals as goal

pub returns : goal.returns
returns c = λ before s.
    let m = c.args.self.now in
    let end : c.from.result + c.from-2.result ≡ m.place.column + c.args.count =
    omega (arith, c.from.ensures, c.from-2.ensures) in
    seen_push m c.after-self.result c.reach_to.new.self before (Step (Repeat c.args.count c.args.bits)) s
    (c.after-self.ensures before s.place_is)
    (c.reach_to.ensures ∙ ap (reaching (buffer_of m.buffer)) end
    ∙ repeat_reaches m c.args.count c.args.bits c.requires.some c.requires.free)
