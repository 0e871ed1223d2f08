use Rattle.std.proofs.Common.{◌≡◌, ◌∙◌, ap, refl, subst, sym}
use Rattle.sixel_grammar.specs.Document.{Document}
use Rattle.sixel_emulator.specs.declared.hearing.Hears.{Hears}
use Rattle.sixel_emulator.specs.declared.hearing.Hears.TheVariants.{SelectsAndRasters}
use Rattle.sixel_emulator.specs.declared.hearing.Omitted.{Omitted}
use Rattle.sixel_emulator.specs.declared.hearing.RasterHeard.TheVariants.{AsTheyAre}
use Rattle.sixel_emulator.specs.Heard.{omitted_in}
use Rattle.sixel_differ.specs.Drawings.{Hearings}
use Rattle.sixel_differ.proofs.DrawingLemmas.{HaveHeardOn, have_drawn_on}
use Rattle.sixel_differ.proofs.drawings.draw_all.Goals as goal

pub follow_document-requires : goal.follow_document-requires
follow_document-requires c = (
  record { follower = c.hearing_all.result },
  (
    ((refl, (refl, λ opening h. h)), (refl, (refl, λ opening h. h))),
    ((refl, λ opening h. h), (refl, ((refl, λ opening h. h), λ h. h))),
  ),
)

pub returns-clause-drawn : goal.returns-clause-drawn
returns-clause-drawn c =
    let now = c.follow_document.new.follower.follower in
    let bytes = c.args.bytes.now in
    let hears : c.omitted_in-xterm.result ≡ omitted_in SelectsAndRasters bytes =
    c.omitted_in-xterm.ensures ∙ ap (λ (h : Hears). omitted_in h bytes) c.hears.ensures in
    let f = c.in_ok-follow_document.ensures.followed (record { follower = c.hearing_all.result }) (
      ((refl, (refl, λ opening h. h)), (refl, (refl, λ opening h. h))),
      ((refl, λ opening h. h), (refl, ((refl, λ opening h. h), λ h. h))),
    ) in (
      f.events,
      subst (Document f.events) (sym f.known_are) f.document,
      λ background sides begun. rw c.drawings_in.ensures
          (have_drawn_on bytes c.omitted_in-xterm.result
          (record { bare = c.omitted_in-xterm.result.bare; raster = AsTheyAre }) c.omitted_in-konsole.result
          c.args.drawings now f.events hears
          (ap (λ (o : Omitted). record { bare = o.bare; raster = AsTheyAre }) hears)
          (c.omitted_in-konsole.ensures ∙ ap (λ (h : Hears). omitted_in h bytes) c.hears-2.ensures)
          (subst (λ (h : Hearings). HaveHeardOn h now f.events) c.hearing_all.ensures f.taken) background sides begun),
    )
