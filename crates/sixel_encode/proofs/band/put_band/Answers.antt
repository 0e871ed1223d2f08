use Rattle.std.proofs.Common.{◌≡◌, ◌<◌, true, false, length, refl, sym, ap, ◌∙◌, arith}
use Rattle.std.proofs.lemmas.Bool.{eq-eqb, ne_eqb, not_from_false, not_from_true}
use Rattle.std.proofs.lemmas.Result.{err_from_is_err_and}
use Rattle.sixel_io.proofs.SinkLemmas.{through-as, through-done, through-next, through-none, through-steps}
use Rattle.sixel_encode.specs.Canon.{occurs}
use Rattle.sixel_encode.proofs.FoundLemmas.{are_sixels, found_in}
use Rattle.sixel_encode.proofs.StepLemmas.{first-after, first-same, register_step, registers-all, registers-then}
use Rattle.sixel_encode.proofs.StepLemmas.{registers_above, step-found, step-none}
use Rattle.sixel_encode.proofs.TextLemmas.{text-none}
use Rattle.sixel_encode.proofs.band.put_band.Goals as goal
use Rattle.sixel_encode.proofs.band.put_band.Goals.{then-own-ne0+in_ok-put_next, else-own-ne0}

pub loop-register-init : goal.loop-register-init
loop-register-init g c = record { put = rw text-none through-none; first = refl }

pub put_next-requires : goal.put_next-requires
put_next-requires g c =
    let p = c.args.picture.now in
    let register = c.loop-register.register in
    let small : register < 256 = omega (arith, c.loop-register-test.true, c.count-register-end.ensures.most) in
    record {
      sixels = are_sixels p c.args.band register (length c.loop-register.sixels) c.find_sixels.new.sixels
          (found_in c.loop-register.sixels c.rows_of-rows.ensures (c.band_groups-groups.ensures.groups register small)
          c.width.ensures.same (omega arith) c.find_sixels.ensures.long c.find_sixels.ensures.found);
      few = omega (arith, c.find_sixels.ensures.long);
      whole = omega (arith, c.find_sixels.ensures.long);
      ink = c.find_sixels.ensures.found.blank;
    }

pub returns-in_err-put_next : goal.returns-in_err-put_next
returns-in_err-put_next g c =
    let failed = err_from_is_err_and c.from_residual.result c.from_residual.ensures.1 in
    let p = c.args.picture.now in
    let register = c.loop-register.register in
    let here : occurs p c.args.band register ≡ true =
    sym (c.band_groups-groups.ensures.occurs register
    (omega (arith, c.loop-register-test.true, c.count-register-end.ensures.most)))
    ∙ not_from_false _ (ne_eqb _ 0 c.if-own-ne0.true) in
    let below : register < length p.palette =
    omega (arith, c.loop-register-test.true, c.count-register-end.ensures.value, c.profile.ensures.count) in
    let small : register < 256 = omega (arith, c.loop-register-test.true, c.count-register-end.ensures.most) in
    let found = found_in c.loop-register.sixels
    c.rows_of-rows.ensures (c.band_groups-groups.ensures.groups register small)
    c.width.ensures.same (omega arith) c.find_sixels.ensures.long c.find_sixels.ensures.found in
    rw (failed.1, registers-all p c.args.band (length p.palette) refl)
    (through-steps (registers_above p c.args.band) (register_step p c.args.band) (registers-then p c.args.band)
    register (length p.palette) below c.loop-register.invariant.put
    (through-as (step-found p c.args.band register (length c.loop-register.sixels) c.find_sixels.new.sixels
    c.loop-register.is_first found here c.loop-register.invariant.first) c.in_err-put_next.ensures))

pub loop-register-preserved : goal.loop-register-preserved
loop-register-preserved g c = elim c.if-own-ne0.branch [
  | then-own-ne0+in_ok-put_next w ↦
      let p = c.args.picture.now in
      let register = c.loop-register.register in
      let here : occurs p c.args.band register ≡ true =
      sym (c.band_groups-groups.ensures.occurs register
      (omega (arith, c.loop-register-test.true, c.count-register-end.ensures.most)))
      ∙ not_from_false _ (ne_eqb _ 0 w.if-own-ne0.true) in
      let small : register < 256 = omega (arith, c.loop-register-test.true, c.count-register-end.ensures.most) in
      let found = found_in c.loop-register.sixels
      c.rows_of-rows.ensures (c.band_groups-groups.ensures.groups register small)
      c.width.ensures.same (omega arith) w.find_sixels.ensures.long w.find_sixels.ensures.found in
      rw (w.out-is, w.text-is, w.is_first-is)
      (record {
        put = through-next (registers-then p c.args.band register) c.loop-register.invariant.put
            (through-as (step-found p c.args.band register (length c.loop-register.sixels)
            w.find_sixels.new.sixels c.loop-register.is_first found here c.loop-register.invariant.first)
            w.in_ok-put_next.ensures);
        first = first-after p c.args.band register here;
      })
  | else-own-ne0 w ↦
      let p = c.args.picture.now in
      let register = c.loop-register.register in
      let gone : occurs p c.args.band register ≡ false =
      sym (c.band_groups-groups.ensures.occurs register
      (omega (arith, c.loop-register-test.true, c.count-register-end.ensures.most)))
      ∙ not_from_true _ (eq-eqb _ 0 w.if-own-ne0.false) in
      rw (w.out-is, w.text-is, w.is_first-is)
      (record {
        put = through-as (step-none p c.args.band register gone) c.loop-register.invariant.put;
        first = c.loop-register.invariant.first ∙ first-same p c.args.band register gone;
      })
]

pub returns : goal.returns
returns g c =
    let p = c.args.picture.now in
    let done : c.loop-register.register ≡ length p.palette =
    omega (arith, c.count-register-end.ensures.value, c.profile.ensures.count) in
    through-done (ap (registers_above p c.args.band) done ∙ sym (registers-all p c.args.band (length p.palette) refl))
    c.loop-register.invariant.put
