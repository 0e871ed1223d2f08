use Rattle.std.proofs.Common.{ℕ, List, refl, subst}
use Rattle.sixel_grammar.specs.declared.command.Placed.{Placed}
use Rattle.sixel_grammar.proofs.UniqueLemmas.{document_once}
use Rattle.sixel_named_terminals.specs.declared.named.Named.TheVariants.{XTerm, MlTerm, Foot}
use Rattle.sixel_named_terminals.specs.Named.{heard_on}
use Rattle.sixel_differ.specs.declared.view.Views.{Views}
use Rattle.sixel_differ.specs.Drawings.{HaveDrawn}
use Rattle.sixel_differ.proofs.ShowingLemmas.{each_view}
use Rattle.sixel_differ.proofs.drawings.views_of.Goals as goal

pub konsole_view-requires-clause-drawn : goal.konsole_view-requires-clause-drawn
konsole_view-requires-clause-drawn c = (c.requires.drawn.0, c.requires.drawn.1, c.requires.drawn.2.konsole)

pub returns-clause-views : goal.returns-clause-views
returns-clause-views c = λ named placed doc.
    let d = c.requires.drawn in
    let sides : ℕ × ℕ = (c.args.width, c.args.height) in
    let drawn = subst (λ (it : List Placed).
    HaveDrawn c.args.background sides c.args.drawings (λ named. heard_on named c.args.bytes.now it))
    (document_once c.args.bytes.now d.0 placed d.1 doc) d.2 in
    let v : Views = record {
      width = c.args.width;
      height = c.args.height;
      xterm = c.view_of.result;
      mlterm = c.view_of-2.result;
      foot = c.view_of-3.result;
      konsole = c.in_ok-konsole_view.field-0;
    } in
    each_view c.args.background sides c.args.bytes.now placed v
    (c.view_of.ensures XTerm c.args.background sides (heard_on XTerm c.args.bytes.now placed) (λ events. refl) refl drawn.xterm)
    (c.view_of-2.ensures MlTerm c.args.background sides (heard_on MlTerm c.args.bytes.now placed) (λ events. refl) refl drawn.mlterm)
    (c.view_of-3.ensures Foot c.args.background sides placed (λ events. refl) refl drawn.foot)
    (c.in_ok-konsole_view.ensures.view placed doc) named
