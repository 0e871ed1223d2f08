-- A `portable` line is true.
use Rattle.std.proofs.Common.{◌≡◌, ◌+◌, ◌<◌, ◌^◌, ℕ, List, arith, subst, sym, true}
use Rattle.std.proofs.lemmas.Bool.{and_parts}
use Rattle.std.proofs.lemmas.Bool.Decides.{nat_tests}
use Rattle.sixel_grammar.specs.Document.{events_of}
use Rattle.sixel_grammar.specs.declared.command.Event.{Event}
use Rattle.sixel_model.specs.declared.colour.Parts.{Parts}
use Rattle.sixel_model.specs.declared.profile.Profile.{Profile}
use Rattle.sixel_model.specs.Grids.{row_by_row}
use Rattle.sixel_model.specs.Pictures.{PictureValue, is_side}
use Rattle.sixel_model.specs.Profiles.{count_of}
use Rattle.sixel_model.proofs.PictureLemmas.{at_most_256}
use Rattle.sixel_ppm.specs.Ppm.{colours_of}
use Rattle.sixel_terminal.specs.Displays.{Display}
use Rattle.sixel_terminal.specs.Drawing.{shown_on}
use Rattle.sixel_named_terminals.specs.Named.{heard_on, model_of}
use Rattle.sixel_judge.specs.Portable.{Shows}
use Rattle.sixel_check_laws.proofs.RoomLemmas.{some_has_room}
use Rattle.sixel_emulator_rules.specs.declared.terminals.Terminals.{Terminals}
use Rattle.sixel_emulator_check_laws.specs.Shown.{IsShownOnEach}
use Rattle.sixel_emulator_check_laws.proofs.ShownLemmas.{verdicts_are_shown}
use Rattle.sixel_report.specs.Texts.{Text}
use Rattle.sixel_promise_laws.specs.Portable.{IsRendered, IsShownFromEach, PortableLineIsTrue}
use Rattle.sixel_promise_laws.specs.Twice.{PngIsThePicture}
use Rattle.sixel_promise_laws.proofs.DoneLemmas.{HasBox, IsDone, done, done_box, done_portable}
use Rattle.sixel_promise_laws.proofs.MovedLemmas.{shows_from}
use Rattle.sixel_promise_laws.proofs.PixelLemmas.{colours_are, colours_at, colours_count, render_is, render_png}

-- `render` gives the picture, and some terminal of the class with room shows its colours
is_rendered : (profile : Profile) (t : Terminals) (bytes : List ℕ) (text : Text)
    → (d : IsDone (count_of profile) t bytes text) → IsRendered profile bytes d.picture
is_rendered profile t bytes text d =
    let n : ℕ = count_of profile in
    let p : PictureValue = d.picture in
    let u = some_has_room n p.width p.height in
    let t : Display = u.0 in
    let f : ℕ → ℕ → Parts =
    λ x y. shown_on t (events_of d.events) (t.choices.origin_x + x) (t.choices.origin_y + y) in
    let shows : Shows t (events_of d.events) p = (done_portable d).shown u.0 u.1 u.2 in
    let are : colours_of p ≡ row_by_row p.width p.height f =
    colours_are n (events_of d.events) p f d.left shows.inside in
    record {
      gives = render_is n bytes d.events p d.document (d.unbroken, d.left);
      pixels = colours_count p f are;
      colours = colours_at p f are shows.inside;
    }

-- each terminal of the set shows it, at the top left and so from each origin
pub each_shows : (profile : Profile) (t : Terminals) (bytes : List ℕ) (text : Text)
    → (d : IsDone (count_of profile) t bytes text) → IsShownOnEach t bytes d.events d.picture
each_shows profile t bytes text d =
    verdicts_are_shown (count_of profile) (at_most_256 profile) t d.events bytes d.picture d.document d.verdict

from_each : (profile : Profile) (t : Terminals) (bytes : List ℕ) (text : Text)
    → (d : IsDone (count_of profile) t bytes text) → IsShownFromEach t bytes d.events d.picture
from_each profile t bytes text d = λ named background width height x y is across down.
    let p : PictureValue = d.picture in
    let at = each_shows profile t bytes text d named background p.width p.height is (omega arith) (omega arith) in
    let opening : List Event = (model_of named).opening (events_of (heard_on named bytes d.events)) in
    record {
      said = at.said;
      drawing = at.drawing;
      is_reading = at.is_reading;
      shows = shows_from named background opening at.drawing p width height x y across down at.shows;
    }

pub portable_line_is_true : PortableLineIsTrue
portable_line_is_true profile t bytes text given =
    let d : IsDone (count_of profile) t bytes text = done (count_of profile) t bytes text given in (
      d.picture,
      d.line,
      record {
        events = d.events;
        document = d.document;
        left = d.left;
        everywhere = done_portable d;
        rendered = is_rendered profile t bytes text d;
        named = from_each profile t bytes text d;
      },
    )

-- ---- the PNG

short_side : (n : ℕ) → is_side n ≡ true → n < 2 ^ 31
short_side n side = grind (arith, nat_tests)

pub png_is_the_picture : PngIsThePicture
png_is_the_picture profile t bytes text given =
    let n : ℕ = count_of profile in
    let d : IsDone n t bytes text = done n t bytes text given in
    let p : PictureValue = d.picture in
    let b : HasBox (events_of d.events) p = done_box d in
    let each = and_parts (is_side b.box.width) (is_side b.box.height) b.sides in (
      p,
      d.line,
      render_is n bytes d.events p d.document (d.unbroken, d.left),
      render_png n bytes d.events p d.document (d.unbroken, d.left)
          (subst (λ (k : ℕ). k < 2 ^ 31) (sym b.width) (short_side b.box.width each.0))
          (subst (λ (k : ℕ). k < 2 ^ 31) (sym b.height) (short_side b.box.height each.1)),
    )
