-- What `show --on` gives on a screen of the size of the box, `render` gives.
use Rattle.std.proofs.Common.{◌≡◌, ◌∙◌, ◌+◌, ℕ, Bool, true, false, List, [], Some, Result, Ok, Err}
use Rattle.std.proofs.Common.{ap₂, arith, refl, subst, sym}
use Rattle.std.specs.Prelude.{◌↔◌}
use Rattle.std.proofs.lemmas.Bool.{and_parts}
use Rattle.std.proofs.lemmas.Bool.Decides.{nat_tests}
use Rattle.sixel_grammar.specs.Document.{Document, events_of}
use Rattle.sixel_grammar.specs.declared.command.Event.{Event}
use Rattle.sixel_grammar.specs.declared.command.Placed.{Placed}
use Rattle.sixel_model.specs.declared.colour.Parts.{Parts}
use Rattle.sixel_model.specs.declared.profile.Profile.{Profile}
use Rattle.sixel_model.specs.Events.{Attributes}
use Rattle.sixel_model.specs.Grids.{row_by_row}
use Rattle.sixel_model.specs.Pictures.{PictureValue, is_side}
use Rattle.sixel_model.specs.Profiles.{count_of}
use Rattle.sixel_model.specs.Rules.{picture_left, raster_before}
use Rattle.sixel_ppm.specs.Ppm.{are_rgb, colours_of, is_file_side, ppm_text}
use Rattle.sixel_terminal.specs.Displays.{Display}
use Rattle.sixel_terminal.specs.Drawing.{screen_on, shown_on}
use Rattle.sixel_terminal.specs.Screens.{IsScreenAfter, Shown}
use Rattle.sixel_named_terminals.specs.declared.named.Named.{Named}
use Rattle.sixel_named_terminals.specs.declared.named.Named.TheVariants.{XTerm, MlTerm, Foot, Konsole}
use Rattle.sixel_named_terminals.specs.Named.{IsScreenOn, heard_on, model_of, terminal_on}
use Rattle.sixel_judge.specs.Portable.{Shows}
use Rattle.sixel_emulator_rules.specs.declared.terminals.Terminals.{Terminals}
use Rattle.sixel_emulator_rules_laws.specs.Laws.{IsShownOn}
use Rattle.sixel_report.specs.declared.fault.RunFault.{RunFault}
use Rattle.sixel_report.specs.declared.fault.RunFault.TheVariants.{NotRgb}
use Rattle.sixel_report.specs.declared.task.Area.TheVariants.{Box}
use Rattle.sixel_report.specs.declared.task.Status.{Status}
use Rattle.sixel_report.specs.declared.task.Status.TheVariants.{Done}
use Rattle.sixel_report.specs.Texts.{Text}
use Rattle.sixel_report.proofs.FormatLemmas.{as_same}
use Rattle.sixel_run.specs.Outputs.{RenderGives, picture_output}
use Rattle.sixel_show.specs.Outputs.{ShowOnGives}
use Rattle.sixel_show.specs.Screens.{declared_screen}
use Rattle.sixel_show.proofs.ShowOnLemmas.{on-once}
use Rattle.sixel_promise_laws.specs.Twice.{ShowGivesWhatRenderGives}
use Rattle.sixel_promise_laws.proofs.DoneLemmas.{HasBox, IsDone, done, done_box}
use Rattle.sixel_promise_laws.proofs.PixelLemmas.{HavePixels, colours_are, output_is, render_is}
use Rattle.sixel_promise_laws.proofs.PortableLemmas.{each_shows}

-- ---- the screen

-- the picture is at the top left of a screen of these sides
pub record IsAtCorner (t : Display) (width height : ℕ) : Type 0 where
  pub across : t.choices.screen_width ≡ width
  pub down : t.choices.screen_height ≡ height
  pub left : t.choices.origin_x ≡ 0
  pub top : t.choices.origin_y ≡ 0

at_corner : (named : Named) (background : Parts) (opening : List Event) (width height : ℕ)
    → IsAtCorner (terminal_on named background opening (width, height)) width height
at_corner XTerm background opening width height = record { across = refl; down = refl; left = refl; top = refl }
at_corner MlTerm background opening width height = record { across = refl; down = refl; left = refl; top = refl }
at_corner Foot background opening width height = record { across = refl; down = refl; left = refl; top = refl }
at_corner Konsole background opening width height = record { across = refl; down = refl; left = refl; top = refl }

have_pixels : (t : Display) (width height : ℕ) (drawing : List Event) (p : PictureValue) → IsAtCorner t width height
    → Shows t drawing p → HavePixels p (shown_on t drawing)
have_pixels t width height drawing p at shows = λ x y right below.
    let across : t.choices.origin_x + x ≡ x = omega (arith, at.left) in
    let down : t.choices.origin_y + y ≡ y = omega (arith, at.top) in
    shows.inside x y right below ∙ ap₂ (λ (u v : ℕ). Some (shown_on t drawing u v)) across down

abbrev screen_of : PictureValue → Shown
screen_of p = record { width = p.width; height = p.height; colours = colours_of p }

-- the screen is the picture
pub screen_after : (n : ℕ) (events : List Event) (t : Display) (drawing : List Event) (p : PictureValue)
    → p ≡ picture_left n events → IsAtCorner t p.width p.height → Shows t drawing p
    → IsScreenAfter t (screen_of p) drawing
unfolding screen_on
screen_after n events t drawing p left at shows = record {
  width = sym at.across;
  height = sym at.down;
  colours = colours_are n events p (shown_on t drawing) left (have_pixels t p.width p.height drawing p at shows)
      ∙ ap₂ (λ (w h : ℕ). row_by_row w h (shown_on t drawing)) (sym at.across) (sym at.down);
}

screen_shown : (n : ℕ) (named : Named) (background : Parts) (events heard : List Event) (p : PictureValue)
    → p ≡ picture_left n events → IsShownOn named background (p.width, p.height) heard p
    → IsScreenOn named background (p.width, p.height) heard (screen_of p)
screen_shown n named background events heard p left shown =
    let opening : List Event = (model_of named).opening heard in
    record {
      said = shown.said;
      drawing = shown.drawing;
      is_reading = shown.is_reading;
      after = screen_after n events (terminal_on named background opening (p.width, p.height)) shown.drawing p left
          (at_corner named background opening p.width p.height) shown.shows;
    }

-- ---- its sides

file_side : (n : ℕ) → is_side n ≡ true → is_file_side n ≡ true
file_side n side = grind (arith, nat_tests)

declared_sides : (events : List Event) (a : Attributes) → raster_before events ≡ Some a → is_file_side a.width ≡ true
    → is_file_side a.height ≡ true → declared_screen events ≡ Some (a.width, a.height)
unfolding declared_screen
declared_sides events a declared wide high = rw (declared, wide, high) refl

pub box_sides : (events : List Event) (p : PictureValue) → HasBox events p
    → declared_screen events ≡ Some (p.width, p.height)
box_sides events p b =
    let each = and_parts (is_side b.box.width) (is_side b.box.height) b.sides in
    declared_sides events b.box b.declared (file_side b.box.width each.0) (file_side b.box.height each.1)
    ∙ ap₂ (λ (w h : ℕ). Some (w, h)) (sym b.width) (sym b.height)

-- ---- what is given

show_picture : (named : Named) (background : Parts) (bytes : List ℕ) (d : List Placed) (p : PictureValue) (rgb : Bool)
    → are_rgb (colours_of p) ≡ rgb → Document d bytes → declared_screen (events_of d) ≡ Some (p.width, p.height)
    → IsScreenOn named background (p.width, p.height) (events_of (heard_on named bytes d)) (screen_of p)
    → ShowOnGives named background Box bytes (picture_output p).0 (picture_output p).1
show_picture named background bytes d p true e document sides on =
    let o : picture_output p ≡ (ppm_text p.width p.height (colours_of p), Ok Done) = rw e refl in
    rw o (d, document, ((p.width, p.height), sides, (screen_of p, on, e, refl, refl)))
show_picture named background bytes d p false e document sides on =
    let o : picture_output p ≡ ([], Err NotRgb) = rw e refl in
    rw o (refl, (d, document, ((p.width, p.height), sides, (screen_of p, on, e))))

-- it gives the picture, and nothing else
show_is : (profile : Profile) (t : Terminals) (bytes : List ℕ) (text : Text) (named : Named) (background : Parts)
    → (d : IsDone (count_of profile) t bytes text)
    → IsShownOn named background (d.picture.width, d.picture.height) (events_of (heard_on named bytes d.events))
    d.picture
    → (line : Text) (answer : Result Status RunFault)
    → ShowOnGives named background Box bytes line answer ↔ ((line, answer) ≡ picture_output d.picture)
show_is profile t bytes text named background d shown line answer =
    let p : PictureValue = d.picture in
    let on = screen_shown (count_of profile) named background (events_of d.events)
    (events_of (heard_on named bytes d.events)) p d.left shown in
    let given = show_picture named background bytes d.events p (are_rgb (colours_of p)) refl d.document
    (box_sides (events_of d.events) p (done_box d)) on in (
      λ g.
          (let o = picture_output p in
          let same = on-once named background Box bytes line o.0 answer o.1 g given in
          output_is line answer o same.0 same.1),
      λ e.
          subst (λ (o : Text × Result Status RunFault). ShowOnGives named background Box bytes o.0 o.1) (sym e) given,
    )

pub show_gives_what_render_gives : ShowGivesWhatRenderGives
show_gives_what_render_gives profile t bytes text named background format given is =
    let d : IsDone (count_of profile) t bytes text = done (count_of profile) t bytes text given in
    let p : PictureValue = d.picture in
    let shown = each_shows profile t bytes text d named background p.width p.height is (omega arith) (omega arith) in
    as_same (ShowOnGives named background Box bytes) (RenderGives (count_of profile) bytes) format (λ line answer.
    let show = show_is profile t bytes text named background d shown line answer in
    let render = render_is (count_of profile) bytes d.events p d.document (d.unbroken, d.left) line answer in
    (λ g. render.1 (show.0 g), λ g. show.1 (render.0 g)))
