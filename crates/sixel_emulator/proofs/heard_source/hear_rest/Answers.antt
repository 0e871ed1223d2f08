use Rattle.std.proofs.Common.{◌∙◌, [], List, ap, subst, sym}
use Rattle.std.proofs.lemmas.Result.{on_ok_weaker}
use Rattle.sixel_grammar.specs.declared.command.Placed.{Placed}
use Rattle.sixel_emulator.specs.declared.hearing.Hears.{Hears}
use Rattle.sixel_emulator.specs.Heard.{heard_in}
use Rattle.sixel_emulator.specs.Looking.{HasLooked}
use Rattle.sixel_emulator.proofs.HeardLemmas.{heard_all, nothing_yet}
use Rattle.sixel_emulator.proofs.heard_source.hear_rest.Goals as goal

pub read_rest-requires-clause-unread : goal.read_rest-requires-clause-unread
read_rest-requires-clause-unread g c =
    let new = c.new-looking.result in
    let looked = subst (λ (h : Hears). HasLooked h new []) (sym c.new-looking.ensures.0) c.new-looking.ensures in (
      c.args.hearing.now,
      new,
      λ reader stands. (
        looked,
        record {
          events = [];
          read = stands;
          taken = (c.requires.unheard ∙ sym (nothing_yet new.hears), c.requires.untaken);
        },
      ),
    )

pub returns-clause-heard : goal.returns-clause-heard
returns-clause-heard g c =
    let new = c.new-looking.result in
    let looked = subst (λ (h : Hears). HasLooked h new []) (sym c.new-looking.ensures.0) c.new-looking.ensures in
    on_ok_weaker c.read_rest.result
    (λ reads.
    let r = reads c.args.hearing.now new (λ reader stands. (
      looked,
      record {
        events = [];
        read = stands;
        taken = (c.requires.unheard ∙ sym (nothing_yet new.hears), c.requires.untaken);
      },
    )) in
    let f = r.read.1 in record {
      events = f.events;
      bytes = r.bytes;
      document = r.document f.events f.read;
      taken = subst (λ (l : List Placed). g.F.Listener.has_taken c.args.hearing.now.listener
          c.read_rest.new.follower.listener l)
          (heard_all new.hears r.bytes f.events
          ∙ ap (λ (h : Hears). heard_in h r.bytes f.events) c.new-looking.ensures.0) f.taken.1;
      known_are = r.known_are;
    })
    c.read_rest.ensures.read
