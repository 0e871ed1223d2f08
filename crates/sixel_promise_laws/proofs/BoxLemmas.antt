-- What `show --box` gives on a terminal of the class, `render` gives.
use Rattle.std.proofs.Common.{◌≡◌, ◌∙◌, ◌*◌, ◌<◌, ◌≤◌, lit≤, ℕ, suc, Bool, true, false, List, [], ◌∷◌, Some, Ok}
use Rattle.std.proofs.Common.{Err, Result, ap, ap₂, arith, nat_le, refl, subst, sym}
use Rattle.std.specs.Prelude.{slice_get, if◌then◌else◌}
use Rattle.std.specs.List.{list_any}
use Rattle.std.proofs.lemmas.Bool.{and_parts, leb-true}
use Rattle.std.proofs.lemmas.List.{length-replicate}
use Rattle.std.proofs.lemmas.List.FromFn.{length-map-range_with_len}
use Rattle.sixel_grammar.specs.Document.{Document, events_of}
use Rattle.sixel_grammar.specs.declared.command.Event.{Event}
use Rattle.sixel_grammar.specs.declared.command.Placed.{Placed}
use Rattle.sixel_model.specs.declared.colour.Parts.TheVariants.{Rgb}
use Rattle.sixel_model.specs.declared.profile.Profile.{Profile}
use Rattle.sixel_model.specs.declared.profile.Profile.TheVariants.{Registers16, Registers256}
use Rattle.sixel_model.specs.Pictures.{PictureValue, is_side}
use Rattle.sixel_model.specs.Profiles.{count_of}
use Rattle.sixel_model.specs.Rules.{BreaksNone, last_rule}
use Rattle.sixel_model.proofs.RuleLemmas.{keeps_at, none_drawn}
use Rattle.sixel_ppm.specs.Ppm.{are_rgb, colours_of, ppm_text}
use Rattle.sixel_terminal.specs.Displays.{Display, HasRoom, IsGroundBelow, IsInClass}
use Rattle.sixel_terminal.specs.Drawing.{screen_on}
use Rattle.sixel_terminal.specs.declared.choices.Ground.{Ground}
use Rattle.sixel_terminal.specs.declared.choices.Ground.TheVariants.{Kept, Filled}
use Rattle.sixel_emulator_rules.specs.declared.terminals.Terminals.{Terminals}
use Rattle.sixel_report.specs.declared.fault.RunFault.{RunFault}
use Rattle.sixel_report.specs.declared.fault.RunFault.TheVariants.{NotRgb}
use Rattle.sixel_report.specs.declared.task.Status.{Status}
use Rattle.sixel_report.specs.declared.task.Status.TheVariants.{Done}
use Rattle.sixel_report.specs.Texts.{Text}
use Rattle.sixel_report.proofs.FormatLemmas.{as_same}
use Rattle.sixel_run.specs.Outputs.{RenderGives, picture_output}
use Rattle.sixel_show.specs.Notes.{has_high_register, names_high_register, shown_status}
use Rattle.sixel_show.specs.Outputs.{ShowBoxGives, ShowGives}
use Rattle.sixel_show.specs.Screens.{grey, percent_at, screen_terminal, screen_text, show_terminal}
use Rattle.sixel_show.proofs.BoxLemmas.{boxed, unboxed}
use Rattle.sixel_show.proofs.ScreenLemmas.{show-once}
use Rattle.sixel_promise_laws.specs.Twice.{ShowBoxGivesWhatRenderGives}
use Rattle.sixel_promise_laws.proofs.DoneLemmas.{HasBox, IsDone, done, done_box, done_portable}
use Rattle.sixel_promise_laws.proofs.PixelLemmas.{output_is, render_is}
use Rattle.sixel_promise_laws.proofs.ShowLemmas.{IsAtCorner, box_sides, screen_after}

-- ---- the terminal

some_registers : (profile : Profile) → 0 < count_of profile
some_registers Registers16 = lit≤ tt
some_registers Registers256 = lit≤ tt

ground_below : (fill : Bool) (registers : ℕ) → 0 < registers
    → IsGroundBelow registers (let ground : Ground = if fill then Filled 0 else Kept in ground)
ground_below true registers some = some
ground_below false registers some = tt

box_class : (profile : Profile) (showing fill selects : Bool) (width height : ℕ) → 0 < width → 0 < height
    → IsInClass (count_of profile) (screen_terminal profile showing fill selects (width, height))
unfolding show_terminal
box_class profile showing fill selects width height wide high =
    let count = length-map-range_with_len (λ register. grey (percent_at profile register)) 0 (count_of profile) in
    let some = some_registers profile in
    record {
      enough = omega (arith, count);
      selected = omega (arith, count, some);
      ground = ground_below fill _ (omega (arith, count, some));
      zero = omega arith;
      tall = omega arith;
      screen = length-replicate (width * height) (Rgb 100 100 100);
      origin_x = wide;
      origin_y = high;
    }

box_corner : (profile : Profile) (showing fill selects : Bool) (width height : ℕ)
    → IsAtCorner (screen_terminal profile showing fill selects (width, height)) width height
unfolding show_terminal
box_corner profile showing fill selects width height =
    record { across = refl; down = refl; left = refl; top = refl }

corner_room : (t : Display) (width height : ℕ) → IsAtCorner t width height → HasRoom t width height
corner_room t width height at = record {
  across = omega (arith, at.across, at.left);
  down = omega (arith, at.down, at.top);
}

some_side : (n : ℕ) → is_side n ≡ true → 0 < n
some_side n h = let least : 1 ≤ n = leb-true 1 n (and_parts (nat_le 1 n) (nat_le n 2048) h).0 in omega (arith, least)

-- ---- its screen

-- the screen of a terminal of the class is the picture
class_screen : (registers : ℕ) (t : Terminals) (bytes : List ℕ) (text : Text) (d : IsDone registers t bytes text)
    (u : Display) → IsInClass registers u → IsAtCorner u d.picture.width d.picture.height
    → colours_of d.picture ≡ screen_on u (events_of d.events)
class_screen registers t bytes text d u class at =
    let p : PictureValue = d.picture in
    (screen_after registers (events_of d.events) u (events_of d.events) p d.left at
    ((done_portable d).shown u class (corner_room u p.width p.height at))).colours

class_text : (u : Display) (events : List Event) (p : PictureValue) → IsAtCorner u p.width p.height
    → colours_of p ≡ screen_on u events → ppm_text p.width p.height (colours_of p) ≡ screen_text u events
unfolding screen_text
class_text u events p at are =
    ap₂ (λ (w h : ℕ). ppm_text w h (colours_of p)) (sym at.across) (sym at.down)
    ∙ ap (ppm_text u.choices.screen_width u.choices.screen_height) are

-- no register is above those of the profile, so nothing is noted
none_of : (f : Event → Bool) (events : List Event) → ((i : ℕ) (e : Event) → slice_get events i ≡ Some e → f e ≡ false)
    → list_any f events ≡ false
none_of f [] each = refl
none_of f (e ∷ es) each = rw (each 0 e refl) (none_of f es (λ i d here. each (suc i) d here))

unnoted : (profile : Profile) (events : List Event) → BreaksNone (count_of profile) last_rule events
    → Done ≡ shown_status profile events
unnoted Registers16 events none =
    let low : has_high_register events ≡ false =
    none_of names_high_register events
    (λ j e here. (keeps_at 16 events (none_drawn 16 events none) j e here).register) in
    rw low refl
unnoted Registers256 events none = refl

-- ---- what is given

show_class : (profile : Profile) (u : Display) (bytes : List ℕ) (d : List Placed) (p : PictureValue) (rgb : Bool)
    → are_rgb (colours_of p) ≡ rgb → Document d bytes → IsAtCorner u p.width p.height
    → colours_of p ≡ screen_on u (events_of d) → Done ≡ shown_status profile (events_of d)
    → ShowGives profile u bytes (picture_output p).0 (picture_output p).1
show_class profile u bytes d p true e document at are status =
    let o : picture_output p ≡ (ppm_text p.width p.height (colours_of p), Ok Done) = rw e refl in
    rw o (d, document, sym (ap are_rgb are) ∙ e, class_text u (events_of d) p at are, status)
show_class profile u bytes d p false e document at are status =
    let o : picture_output p ≡ ([], Err NotRgb) = rw e refl in
    rw o (refl, (d, document, sym (ap are_rgb are) ∙ e))

pub show_box_gives_what_render_gives : ShowBoxGivesWhatRenderGives
show_box_gives_what_render_gives profile t bytes text showing fill selects format given =
    let n : ℕ = count_of profile in
    let d : IsDone n t bytes text = done n t bytes text given in
    let p : PictureValue = d.picture in
    let b : HasBox (events_of d.events) p = done_box d in
    let each = and_parts (is_side b.box.width) (is_side b.box.height) b.sides in
    let wide : 0 < p.width = subst (λ (k : ℕ). 0 < k) (sym b.width) (some_side b.box.width each.0) in
    let high : 0 < p.height = subst (λ (k : ℕ). 0 < k) (sym b.height) (some_side b.box.height each.1) in
    let terminal = screen_terminal profile showing fill selects in
    let sides : ℕ × ℕ = (p.width, p.height) in
    let at = box_corner profile showing fill selects p.width p.height in
    let class = box_class profile showing fill selects p.width p.height wide high in
    let are = class_screen n t bytes text d (terminal sides) class at in
    let declared = box_sides (events_of d.events) p b in
    let o = picture_output p in
    let shown = show_class profile (terminal sides) bytes d.events p (are_rgb (colours_of p)) refl d.document at are
    (unnoted profile (events_of d.events) d.unbroken) in
    as_same (ShowBoxGives profile terminal bytes) (RenderGives n bytes) format (λ line answer.
    let render = render_is n bytes d.events p d.document (d.unbroken, d.left) line answer in (
      λ g.
          (let plain = unboxed profile terminal bytes d.events sides d.document declared line answer g in
          let same = show-once profile (terminal sides) bytes line o.0 answer o.1 plain shown in
          render.1 (output_is line answer o same.0 same.1)),
      λ g.
          boxed profile terminal bytes d.events sides d.document declared line answer
          (subst (λ (q : Text × Result Status RunFault). ShowGives profile (terminal sides) bytes q.0 q.1)
          (sym (render.0 g)) shown),
    ))
