-- `next_of` by cases: the byte completes nothing, or completes an event.
use Rattle.std.proofs.Common.{◌≡◌, Option, Some, None, refl, ap, ◌∙◌, ℕ}
use Rattle.std.specs.Prelude.{OnSome}
use Rattle.std.specs.Option.{option_map}
use Rattle.sixel_grammar.specs.declared.command.Event.{Event}
use Rattle.sixel_grammar.specs.Faults.{Form}
use Rattle.sixel_grammar.specs.Next.{begin, within, settled, chosen, next_of, only_grown, only_whole}

pub grown-is : (w : Option (Form × Option Event)) (f : Form) → only_grown w ≡ Some f → w ≡ Some (f, None)
grown-is None f h = cc
grown-is (Some (g, None)) f h = cc
grown-is (Some (g, Some e)) f h = cc

pub whole-is : (w : Option (Form × Option Event)) (f : Form) (e : Event) → only_whole w ≡ Some (f, e)
    → w ≡ Some (f, Some e)
whole-is None f e h = cc
whole-is (Some (g, None)) f e h = cc
whole-is (Some (g, Some d)) f e h = ap (option_map (λ (x : Form × Event). (x.0, Some x.1))) h

pub neither-is : (w : Option (Form × Option Event)) → only_grown w ≡ None → only_whole w ≡ None → w ≡ None
neither-is None h k = refl
neither-is (Some (g, None)) h k = cc
neither-is (Some (g, Some e)) h k = cc

-- a byte that continues what is open
pub goes-on : (f g : Form) (b : ℕ) (d : Option Event) → within f b ≡ Some (g, d) → next_of f b ≡ Some (None, g, d)
goes-on f g b d h = ap (λ (v : Option (Form × Option Event)). chosen v (settled f) (begin b)) h

-- a byte that neither continues what is open nor ends it
pub stops : (f : Form) (b : ℕ) → only_grown (within f b) ≡ None → only_whole (within f b) ≡ None
    → OnSome (settled f) (only_grown (begin b) ≡ None) → OnSome (settled f) (only_whole (begin b) ≡ None)
    → next_of f b ≡ None
stops f b h k grown whole = by_settled (settled f) grown whole
  where
    by_settled : (s : Option Event) → OnSome s (only_grown (begin b) ≡ None)
        → OnSome s (only_whole (begin b) ≡ None) → chosen (within f b) s (begin b) ≡ None
    by_settled None g w = ap (λ (v : Option (Form × Option Event)). chosen v None (begin b))
        (neither-is (within f b) h k)
    by_settled (Some e) g w = ap (λ (v : Option (Form × Option Event)). chosen v (Some e) (begin b))
        (neither-is (within f b) h k)
        ∙ ap (λ (v : Option (Form × Option Event)). chosen None (Some e) v) (neither-is (begin b) g w)
