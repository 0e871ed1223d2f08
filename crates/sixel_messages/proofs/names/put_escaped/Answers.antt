use Rattle.std.proofs.Common.{◌≡◌, ◌∙◌, ◌++◌, ℕ, ap, ap₂, append_assoc, drop, sym, take}
use Rattle.std.proofs.lemmas.Grind.{flat_map-append}
use Rattle.std.proofs.lemmas.List.{take-append-drop}
use Rattle.std.proofs.lemmas.Result.{err_from_is_err_and}
use Rattle.json.specs.Print.{escape, escape_byte}
use Rattle.sixel_io.proofs.SinkLemmas.{writes-done, writes-next, writes-stopped}
use Rattle.sixel_report.specs.Texts.{Text}
use Rattle.sixel_messages.proofs.names.put_escaped.Goals as goal

-- the name is what was written, the next part, and the rest
parted : (name first rest part more : Text) (k : ℕ) → name ≡ first ++ rest → part ≡ take k rest → more ≡ drop k rest
    → name ≡ (first ++ part) ++ more
parted name first rest part more k is front back =
    is ∙ ap (λ (t : Text). first ++ t)
    (sym (take-append-drop k rest) ∙ ap₂ (λ (a b : Text). a ++ b) (sym front) (sym back))
    ∙ sym (append_assoc first part more)

-- and so is how it is quoted
escaped_parts : (name first part more : Text) → name ≡ (first ++ part) ++ more
    → escape name ≡ (escape first ++ escape part) ++ escape more
escaped_parts name first part more is =
    ap escape is ∙ flat_map-append escape_byte (first ++ part) more
    ∙ ap (λ (t : Text). t ++ escape more) (flat_map-append escape_byte first part)

pub returns-in_err-put_all : goal.returns-in_err-put_all
returns-in_err-put_all g c =
    let failed = err_from_is_err_and c.from_residual.result c.from_residual.ensures.1 in
    let inv = c.loop-rest.invariant in
    rw failed.1
    (writes-stopped _
    (escaped_parts _ inv.0 _ _
    (parted c.args.name.now inv.0 _ _ _ _ inv.1 c.split_at.ensures.front c.split_at.ensures.back)) inv.2
    (rw c.escaped_part.ensures at (rw c.as_slice.ensures.value at c.in_err-put_all.ensures)))

pub loop-rest-preserved : goal.loop-rest-preserved
loop-rest-preserved g c =
    let inv = c.loop-rest.invariant in (
      inv.0 ++ _,
      parted c.args.name.now inv.0 _ _ _ _ inv.1 c.split_at.ensures.front c.split_at.ensures.back,
      writes-done (sym (flat_map-append escape_byte inv.0 _))
          (writes-next inv.2 (rw c.escaped_part.ensures at (rw c.as_slice.ensures.value at c.in_ok-put_all.ensures))),
    )
