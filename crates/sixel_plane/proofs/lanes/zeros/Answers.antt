use Rattle.std.proofs.Common.{arith, ap, ◌∙◌, ◌≡◌, ◌*◌, ◌+◌, ◌-◌, ◌≤◌, ◌++◌, ℕ, List, length, replicate, take}
use Rattle.std.proofs.lemmas.List.{length-replicate, replicate-append-replicate, take_all}
use Rattle.sixel_plane.specs.declared.lanes.TheConstants.{ZEROS}
use Rattle.sixel_plane.proofs.lanes.zeros.Goals as goal

-- growing a list of zeros with zeros gives a list of zeros
grown : (xs : List ℕ) (len a n : ℕ) → xs ≡ replicate a 0 → len ≡ a → a ≤ n
    → take n xs ++ replicate (n - len) 0 ≡ replicate n 0
grown xs len a n zeros counted grows =
    let whole : take n xs ≡ xs = take_all n xs (omega (arith, ap length zeros, length-replicate {A = ℕ} a 0)) in
    let together : a + (n - len) ≡ n = omega arith in
    ap (λ ys. ys ++ replicate (n - len) 0) (whole ∙ zeros)
    ∙ replicate-append-replicate a (n - len) 0 ∙ ap (λ k. replicate k 0) together

pub loop-piece-preserved : goal.loop-piece-preserved
loop-piece-preserved c = (
  c.in_ok-resize.ensures.items
      ∙ grown c.loop-piece.bytes.items _ (c.loop-piece.piece * ZEROS) ((c.loop-piece.piece + 1) * ZEROS)
      c.loop-piece.invariant.0 c.loop-piece.invariant.1 (omega arith),
  c.in_ok-resize.ensures.len,
)

pub returns : goal.returns
returns c =
    c.in_ok-resize-2.ensures.items
    ∙ grown c.loop-piece.bytes.items _ (c.loop-piece.piece * ZEROS) c.args.count
    c.loop-piece.invariant.0 c.loop-piece.invariant.1 (omega arith)
