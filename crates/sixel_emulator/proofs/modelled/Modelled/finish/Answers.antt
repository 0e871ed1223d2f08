use Rattle.std.proofs.Common.{◌≡◌, ◌∙◌, None, ap, subst}
use Rattle.std.specs.Prelude.{IfOk}
use Rattle.std.specs.Option.{option_map}
use Rattle.sixel_grammar.specs.Document.{events_of}
use Rattle.sixel_terminal.specs.Displays.{Display}
use Rattle.sixel_emulator.proofs.ModelledLemmas.{all_read}
use Rattle.sixel_emulator.proofs.modelled.Modelled.finish.Goals as goal

pub returns : goal.returns
returns g c = record {
  terminal =
      subst (λ (t : Display). IfOk c.finish.result (λ d. d.terminal ≡ t)) c.read_one.ensures.terminal
      c.finish.ensures.terminal;
  gives = λ opening placed h.
      c.finish.ensures.gives g.R.Reading.model opening placed
      (all_read g.R.Reading.model g.R.Reading.has_seen c.args.self opening placed c.read_one.new.self
      (λ is.
      c.read_one.ensures.none
      (c.settle-reads.ensures.reads (events_of h.read) h.seen
      ∙ ap (option_map (λ last. g.R.Reading.model.rule (events_of h.read) last None)) is))
      (λ e is read seen controls first all n at has come.
      c.read_one.ensures.come (g.R.Reading.model.rule read e None)
      (c.settle-reads.ensures.reads read seen
      ∙ ap (option_map (λ last. g.R.Reading.model.rule read last None)) is)
      g.R.Reading.model first all n e at
      (c.waits_at_unsaid-is_unsaid.ensures g.R.Reading.model e controls is) has come)
      h);
}
