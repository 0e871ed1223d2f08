use Rattle.std.proofs.Common.{◌≡◌, ◌∙◌, refl, sym, Some, None}
use Rattle.clap.specs.Walk.{first_of, rows_of}
use Rattle.clap.specs.Matches.{found_of}
use Rattle.clap.proofs.WalkLemmas.{first_value-rows}
use Rattle.sixel_words.proofs.options.flag_of.Goals as goal

pub returns-in-Some : goal.returns-in-Some
returns-in-Some c =
    let f = found_of c.args.matches.now in
    let e : first_of c.args.name.now (rows_of f) ≡ Some c.in-Some.text.now = sym (first_value-rows f c.args.name.now)
    ∙ sym c.in-Some.ensures in
    rw e (sym c.eq.ensures)

pub returns-in-None : goal.returns-in-None
returns-in-None c =
    let f = found_of c.args.matches.now in
    let e : first_of c.args.name.now (rows_of f) ≡ None = sym (first_value-rows f c.args.name.now)
    ∙ sym c.in-None.ensures in
    rw e refl
