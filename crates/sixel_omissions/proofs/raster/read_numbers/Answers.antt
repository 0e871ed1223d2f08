use Rattle.std.proofs.Common.{◌≡◌, ◌∙◌, ◌++◌, ◌+◌, List, ℕ, arith, drop, false, subst, sym, take, true}
use Rattle.std.specs.Prelude.{slice_index}
use Rattle.sixel_omissions.specs.Omissions.{is_numeric}
use Rattle.sixel_omissions.specs.Rasters.{AreNumeric, HasRead, written_of}
use Rattle.sixel_omissions.specs.declared.raster.Seen.TheVariants.{Complete}
use Rattle.sixel_grammar.proofs.SourceLemmas.{one_past, take_past}
use Rattle.sixel_omissions.proofs.RasterLemmas.{numeric_more, on_rest, read_closed}
use Rattle.sixel_omissions.proofs.raster.read_numbers.Goals as goal

pub returns-then-not-is_numeric : goal.returns-then-not-is_numeric
returns-then-not-is_numeric c = λ place numbers all is.
    let bytes = c.args.bytes.now in
    let at = c.loop-at.at in
    let so_far = c.loop-at.invariant.1 place numbers all is in
    let here : is_numeric (slice_index bytes at) ≡ false =
    sym c.is_numeric.ensures ∙ c.if-not-is_numeric.true in
    subst (λ (behind : List ℕ). HasRead place behind (Complete c.loop-at.raster)) (on_rest numbers bytes at (omega arith))
    (read_closed place (numbers ++ take at bytes) (slice_index bytes at) (drop (at + 1) bytes) c.loop-at.raster so_far.0
    here so_far.1)

pub loop-at-preserved : goal.loop-at-preserved
loop-at-preserved c =
    let bytes = c.args.bytes.now in
    let at = c.loop-at.at in
    let here : is_numeric (slice_index bytes at) ≡ true =
    sym c.is_numeric.ensures ∙ c.if-not-is_numeric.false in (
      omega (arith, c.loop-at.invariant.0, c.with-raster.ensures.few),
      λ place numbers all is.
          (let so_far = c.loop-at.invariant.1 place numbers all is in (
            numeric_more numbers bytes at (omega arith) so_far.0 here,
            subst (λ (behind : List ℕ). c.with-raster.result ≡ written_of place behind)
                (one_past numbers bytes at (omega arith))
                (c.with-raster.ensures.written place (numbers ++ take at bytes) so_far.1),
          )),
    )

pub returns : goal.returns
returns c = λ place numbers all is.
    let bytes = c.args.bytes.now in
    let whole : take c.loop-at.at bytes ≡ bytes = take_past c.loop-at.at bytes (omega arith) in
    subst (λ (behind : List ℕ). AreNumeric (numbers ++ behind) × (c.loop-at.raster ≡ written_of place (numbers ++ behind)))
    whole (c.loop-at.invariant.1 place numbers all is)
