use Rattle.std.proofs.Common.{◌≡◌, ◌∙◌, ◌+◌, ◌*◌, ◌++◌, List, ℕ, [], ap, length, sym, take, arith}
use Rattle.std.proofs.lemmas.Result.{err_from_is_err_and}
use Rattle.sixel_io.proofs.SinkLemmas.{writes-done, writes-next, writes-none, writes-stopped}
use Rattle.sixel_ppm.specs.PpmTables.{samples_from}
use Rattle.sixel_ppm.proofs.PpmTableLemmas.{all_put, copied_prefix, group_put}
use Rattle.sixel_ppm.proofs.ppm.write.put_pixels.Given.{Over}
use Rattle.sixel_ppm.proofs.ppm.write.put_pixels.Goals as goal
use Rattle.sixel_ppm.proofs.ppm.write.put_pixels.Goals.{After-put_samples}

pub loop-start-init : goal.loop-start-init
loop-start-init g c = record {
  short = c.requires;
  put = (
    [],
    writes-none,
    ap (λ (t : List ℕ). t ++ samples_from (g.C.ToRgbx.rgbx c.args.colours.now) c.args.pixels.now)
        (sym (copied_prefix c.args.header.now c.copy_from_slice.new.self _ c.copy_from_slice.ensures.after)),
  );
}

module _ (g : Over) (c : After-put_samples g) where
  abbrev samples : List g.row.P.Denot → List ℕ
  samples = samples_from (g.C.ToRgbx.rgbx c.args.colours.now)

  abbrev whole : List ℕ
  whole = c.args.header.now ++ samples c.args.pixels.now

  abbrev piece : List ℕ
  piece = take (c.loop-start.start + 3 * length c.split_at.result.0.now) c.put_samples.new.text

  -- all that goes out is what was put, this piece, and what is left
  grouped : whole ≡ (c.loop-start.invariant.put.0 ++ piece) ++ samples c.split_at.result.1.now
  grouped =
      let put = c.loop-start.invariant.put in
      group_put (g.C.ToRgbx.rgbx c.args.colours.now) c.loop-start.rest.now c.split_at.result.0.now
      c.split_at.result.1.now c.min.result whole put.0 (take c.loop-start.start c.loop-start.text) piece
      c.split_at.ensures.front c.split_at.ensures.back put.2 c.put_samples.ensures

pub loop-start-preserved : goal.loop-start-preserved
loop-start-preserved g c = record {
  short = omega arith;
  put = (
    _,
    writes-next c.loop-start.invariant.put.1 c.in_ok-put_all.ensures,
    grouped g (goal.at.loop-start-preserved g c).After-put_samples,
  );
}

pub returns-in_err-put_all : goal.returns-in_err-put_all
returns-in_err-put_all g c =
    let failed = err_from_is_err_and c.from_residual.result c.from_residual.ensures.1 in
    rw failed.1
    (writes-stopped _ (grouped g (goal.at.returns-in_err-put_all g c).After-put_samples)
    c.loop-start.invariant.put.1 c.in_err-put_all.ensures)

pub returns-then-is_empty : goal.returns-then-is_empty
returns-then-is_empty g c =
    writes-done
    (all_put (g.C.ToRgbx.rgbx c.args.colours.now) c.split_at.result.1.now _ _
    (sym c.is_empty.ensures ∙ c.if-is_empty.true)
    (grouped g (goal.at.returns-then-is_empty g c).After-put_samples))
    (writes-next c.loop-start.invariant.put.1 c.in_ok-put_all.ensures)
