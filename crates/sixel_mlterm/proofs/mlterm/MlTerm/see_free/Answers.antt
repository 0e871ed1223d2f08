use Rattle.std.proofs.Common.{◌≡◌, ◌∙◌, ◌≤◌, ◌<◌, ◌+◌, ℕ, length, ap, subst, sym, arith}
use Rattle.sixel_mlterm.specs.MlTerm.{reaching, rows_to}
use Rattle.sixel_mlterm.specs.MlTermSeen.{buffer_of, free_columns}
use Rattle.sixel_mlterm.proofs.MlTermLemmas.{mlterm_over}
use Rattle.sixel_mlterm.proofs.mlterm.MlTerm.see_free.Goals as goal

pub returns-then-count-gt0 : goal.returns-then-count-gt0
returns-then-count-gt0 c = λ before bytes long s.
    let m = c.args.self.now in
    let free = free_columns (buffer_of m.buffer) m.place.column (rows_to m.place.band) in
    let some : 0 < length bytes = omega (arith, long, c.if-count-gt0.true) in
    let end : c.from.result + c.from-then-count-gt0.result ≡ m.place.column + length bytes =
    omega (arith, long, c.from.ensures, c.from-then-count-gt0.ensures) in
    mlterm_over c.after_sixels-self.result c.reach_to.new.self before bytes some
    (subst (λ (n : ℕ). n ≤ free) (sym long) c.requires) s
    (c.after_sixels-self.ensures 0 before bytes long s.place_is)
    (c.reach_to.ensures ∙ ap (reaching (buffer_of m.buffer)) end)
