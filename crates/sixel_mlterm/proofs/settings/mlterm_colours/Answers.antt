use Rattle.std.proofs.Common.{◌≡◌, ℕ, map, ap, ◌∙◌, arith}
use Rattle.std.specs.List.{range_with_len}
use Rattle.std.proofs.lemmas.List.FromFn.{map-range_with_len_more}
use Rattle.sixel_mlterm.specs.Settings.{mlterm_colours, mlterm_start}
use Rattle.sixel_mlterm.proofs.settings.mlterm_colours.Goals as goal

pub loop-register-preserved : goal.loop-register-preserved
loop-register-preserved c =
    let n = c.loop-register.register in
    let more = map-range_with_len_more (mlterm_start c.args.background) 0 n n (omega arith) in
    let before = c.loop-register.invariant in
    let pushed = c.in_ok-push.ensures.items in
    let colour = c.mlterm_start.ensures in
    cc

pub returns : goal.returns
unfolding mlterm_colours
returns c =
    let all : c.loop-register.register ≡ 1024 = omega arith in
    c.loop-register.invariant ∙ ap (λ (n : ℕ). map (mlterm_start c.args.background) (range_with_len 0 n)) all
