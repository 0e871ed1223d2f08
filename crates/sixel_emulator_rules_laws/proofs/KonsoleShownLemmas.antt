-- konsole shows the picture that a list leaves, if the list breaks no rule, and none that konsole asks for.
use Rattle.std.proofs.Common.{◌≡◌, ℕ, ◌+◌, ◌%◌, ◌<◌, ◌≤◌, Bool, true, false, Option, Some, None, List, [], ◌∷◌, ◌++◌}
use Rattle.std.proofs.Common.{length, refl, sym, ap, ap₂, subst, ◌∙◌, append-nil, arith}
use Rattle.std.specs.Prelude.{unwrap_or, IsSome}
use Rattle.std.specs.List.{list_any}
use Rattle.std.proofs.lemmas.Bool.{and_from, lt-ltb}
use Rattle.std.proofs.lemmas.List.{length-replicate}
use Rattle.std.proofs.lemmas.List.FromFn.{length-map-range_with_len}
use Rattle.sixel_grammar.specs.declared.command.Event.{Event}
use Rattle.sixel_grammar.specs.declared.command.Event.TheVariants.{Start, Step, Finish}
use Rattle.sixel_grammar.specs.declared.command.Command.TheVariants.{Raster}
use Rattle.sixel_grammar.specs.Document.{AreWhole}
use Rattle.sixel_model.specs.declared.colour.Parts.{Parts}
use Rattle.sixel_model.specs.declared.rule.Rule.TheVariants.{Uncovered}
use Rattle.sixel_model.specs.Colours.{palette_at}
use Rattle.sixel_model.specs.Events.{Attributes, is_finish, is_in_box}
use Rattle.sixel_model.specs.Pictures.{PictureValue, register_of}
use Rattle.sixel_model.specs.Positions.{any_at, any_below, latest}
use Rattle.sixel_model.specs.Rules.{BreaksNone, is_covered, last_rule, picture_left, raster_before}
use Rattle.sixel_model.proofs.PositionLemmas.{get_end}
use Rattle.sixel_model.proofs.RuleLemmas.{none_before, none_drawn, seven_bits_at}
use Rattle.sixel_model.proofs.StepLemmas.{covered_push}
use Rattle.sixel_terminal.specs.Displays.{registers_of}
use Rattle.sixel_terminal.specs.Drawing.{IsPainted, is_seen_on, shown_on, stood_on}
use Rattle.sixel_named_terminals.specs.declared.named.Named.TheVariants.{Konsole}
use Rattle.sixel_konsole.specs.Konsole.{konsole_drawing, konsole_opening}
use Rattle.sixel_named_terminals.specs.Named.{tall_in}
use Rattle.sixel_konsole.specs.Settings.{konsole_colours, konsole_display, konsole_start}
use Rattle.sixel_konsole.proofs.KonsoleReadLemmas.{konsole_read}
use Rattle.sixel_judge.specs.Portable.{Shows}
use Rattle.sixel_judge.proofs.CoverLemmas.{all_covered}
use Rattle.sixel_judge.proofs.ShownLemmas.{shows_left, size_left}
use Rattle.sixel_judge.proofs.WithinLemmas.{none_painted_outside}
use Rattle.sixel_emulator_rules.specs.Asked.{is_droppable}
use Rattle.sixel_emulator_rules_laws.proofs.AskedForms.{BreaksNoneFor, none_for}
use Rattle.sixel_emulator_rules_laws.specs.Laws.{ShowsPortable}
use Rattle.sixel_emulator_rules_laws.proofs.FallLemmas.{falls_nowhere}
use Rattle.sixel_emulator_rules_laws.proofs.FollowLemmas.{beside}
use Rattle.sixel_emulator_rules_laws.proofs.InkLemmas.{inked_painted, last_ink, last_inked, painted_inked}
use Rattle.sixel_emulator_rules_laws.proofs.KonsoleBoxLemmas.{opening_box}
use Rattle.sixel_emulator_rules_laws.proofs.KonsoleDrawingLemmas.{IsBody, asked_before, body_before, front, front_boxed}
use Rattle.sixel_emulator_rules_laws.proofs.KonsoleDrawingLemmas.{is_start}
use Rattle.sixel_emulator_rules_laws.proofs.KonsoleDrawingLemmas.{plain_of}
use Rattle.sixel_emulator_rules_laws.proofs.KonsoleFormLemmas.{IsForm, form}
use Rattle.sixel_emulator_rules_laws.proofs.KonsoleInkLemmas.{IsSame, like_konsole, same_inked, same_push, same_shown}
use Rattle.sixel_emulator_rules_laws.proofs.KonsoleKeptLemmas.{IsFollowed, IsKept, box_before_end, followed}
use Rattle.sixel_emulator_rules_laws.proofs.KonsoleKeptLemmas.{kept_dropped, kept_whole}
use Rattle.sixel_emulator_rules_laws.proofs.KonsoleKeptLemmas.{raster, whole_shorter}
use Rattle.sixel_emulator_rules_laws.proofs.KonsoleRuleLemmas.{IsBox}
use Rattle.sixel_emulator_rules_laws.proofs.KonsoleSaidLemmas.{all_is_said}

-- ---- the last command

record IsPushed (events : List Event) : Type 0 where
  pub before : List Event
  pub last : Event
  pub is : events ≡ before ++ last ∷ []

pushed : (e : Event) (more : List Event) → IsPushed (e ∷ more)
pushed e [] = record { before = []; last = e; is = refl }
pushed e (d ∷ more) =
    let p = pushed d more in
    record { before = e ∷ p.before; last = p.last; is = ap (λ (es : List Event). e ∷ es) p.is }

start_goes : (start : Event) → is_start start ≡ true → is_finish start ≡ false
start_goes (Start eight parameters) h = refl
start_goes _ h = cc

-- a list that breaks no rule
record IsListed (n : ℕ) (events : List Event) : Type 0 where
  pub whole : AreWhole events
  pub unbroken : BreaksNone n last_rule events
  pub asked : BreaksNoneFor Konsole events

body : (n : ℕ) (start : Event) (a : Attributes) (steps : List Event) (eight : Bool) → is_start start ≡ true
    → list_any is_finish steps ≡ false → IsListed n ((front start a ++ steps) ++ Finish eight ∷ [])
    → IsBody n (front start a ++ steps)
body n start a steps eight starts going l = record {
  unbroken = none_before n Uncovered (front start a ++ steps) (Finish eight) (none_drawn n _ l.unbroken);
  asked = asked_before (front start a ++ steps) (Finish eight) l.asked;
  unfinished = rw (start_goes start starts, going) refl;
}

kept_by : (background : Parts) (w h n : ℕ) (start : Event) (a : Attributes) (steps : List Event) (e : Event)
    (eight : Bool) (drop : Bool) → is_droppable e ≡ drop → n ≤ 256 → is_start start ≡ true → IsBox a
    → a.height % 6 ≡ 0 → IsListed n ((front start a ++ (steps ++ e ∷ [])) ++ Finish eight ∷ [])
    → IsBody n (front start a ++ (steps ++ e ∷ []))
    → IsKept background w h n a ((front start a ++ (steps ++ e ∷ [])) ++ Finish eight ∷ []) eight
kept_by background w h n start a steps e eight true is few starts box rows l b =
    kept_dropped background w h n a (front start a ++ steps) e eight is
    (seven_bits_at n _ l.unbroken (length (front start a ++ (steps ++ e ∷ []))) (Finish eight)
    (get_end (front start a ++ (steps ++ e ∷ [])) (Finish eight)))
    (whole_shorter start a steps e eight starts l.whole) (none_drawn n _ l.unbroken) b
    (followed background w h n start a steps few starts box rows (body_before n (front start a ++ steps) e b))
kept_by background w h n start a steps e eight false is few starts box rows l b =
    kept_whole background w h n a (front start a ++ steps) e eight is l.whole (none_drawn n _ l.unbroken)
    (followed background w h n start a (steps ++ e ∷ []) few starts box rows b)

-- ---- the box isn't blank

uncovered_push : (before : List Event) (eight : Bool) → is_covered before 0 0 ≡ false
    → is_covered (before ++ Finish eight ∷ []) 0 0 ≡ false
uncovered_push before eight blank =
    covered_push before (Finish eight) 0 0 ∙ rw (falls_nowhere before (Finish eight) 0 0 refl, blank) refl

none_covered : is_covered [] 0 0 ≡ false
unfolding is_covered any_at any_below
none_covered = refl

start_covers : (start : Event) → is_start start ≡ true → is_covered (start ∷ []) 0 0 ≡ false
start_covers (Start eight parameters) h =
    covered_push [] (Start eight parameters) 0 0
    ∙ rw (falls_nowhere [] (Start eight parameters) 0 0 refl, none_covered) refl
start_covers _ h = cc

front_covers : (start : Event) (a : Attributes) → is_start start ≡ true → is_covered (front start a) 0 0 ≡ false
front_covers start a starts =
    covered_push (start ∷ []) (raster a) 0 0
    ∙ rw (falls_nowhere (start ∷ []) (raster a) 0 0 refl, start_covers start starts) refl

blank_never : (n : ℕ) (start : Event) (a : Attributes) (eight : Bool) → is_start start ≡ true → IsBox a
    → IsListed n (front start a ++ Finish eight ∷ []) → ⊥
blank_never n start a eight starts box l =
    let inside : is_in_box a 0 0 ≡ true = and_from _ _ (lt-ltb 0 a.width box.wide) (lt-ltb 0 a.height box.high) in
    let boxed = box_before_end (front start a) a eight (front_boxed start a starts) in
    let covered : is_covered (front start a ++ Finish eight ∷ []) 0 0 ≡ true =
    all_covered n (front start a ++ Finish eight ∷ []) a 0 0 l.whole (none_drawn n _ l.unbroken) boxed inside in
    let never : true ≡ false = sym covered ∙ uncovered_push (front start a) eight (front_covers start a starts) in
    cc

-- ---- what is kept

kept_steps : (background : Parts) (w h n : ℕ) (start : Event) (a : Attributes) (steps : List Event) (eight : Bool)
    → n ≤ 256 → is_start start ≡ true → IsBox a → a.height % 6 ≡ 0 → list_any is_finish steps ≡ false
    → IsListed n ((front start a ++ steps) ++ Finish eight ∷ [])
    → IsKept background w h n a ((front start a ++ steps) ++ Finish eight ∷ []) eight
kept_steps background w h n start a [] eight few starts box rows going l =
    absurd (blank_never n start a eight starts box l)
kept_steps background w h n start a (e ∷ more) eight few starts box rows going l =
    let p : IsPushed (e ∷ more) = pushed e more in
    subst (λ (es : List Event). IsKept background w h n a ((front start a ++ es) ++ Finish eight ∷ []) eight) (sym p.is)
    (kept_by background w h n start a p.before p.last eight (is_droppable p.last) refl few starts box rows
    (subst (λ (es : List Event). IsListed n ((front start a ++ es) ++ Finish eight ∷ [])) p.is l)
    (subst (λ (es : List Event). IsBody n (front start a ++ es)) p.is
    (body n start a (e ∷ more) eight starts going l)))

kept : (background : Parts) (w h n : ℕ) (events : List Event) → n ≤ 256 → IsListed n events → (f : IsForm events)
    → IsKept background w h n f.box events f.eight
kept background w h n events few l f =
    subst (λ (es : List Event). IsKept background w h n f.box es f.eight) (sym f.is)
    (kept_steps background w h n f.start f.box f.steps f.eight few f.starts f.is_box f.rows f.going
    (subst (IsListed n) f.is l))

-- ---- what is shown

konsole_count : length konsole_colours ≡ 256
unfolding konsole_colours
konsole_count = length-map-range_with_len konsole_start 0 256

seen : (background : Parts) (w h : ℕ) (events : List Event)
    → is_seen_on (like_konsole true background w h) events ≡ true
unfolding is_seen_on
seen background w h events = refl

seen_beside : (background : Parts) (w h : ℕ) (events : List Event) → is_seen_on (beside background w h) events ≡ true
unfolding is_seen_on
seen_beside background w h events = refl

-- the drawing that konsole makes of what is kept
abbrev drawing_of : Attributes → List Event → List Event
drawing_of a events = Step (Raster 1 1 a.width a.height) ∷ plain_of events

same_whole : (background : Parts) (w h : ℕ) (a : Attributes) (events : List Event) (eight : Bool) → IsBox a
    → IsFollowed background w h a events
    → IsSame background w h (events ++ Finish eight ∷ []) (drawing_of a events)
same_whole background w h a events eight box f =
    let square : raster a ≡ Step (Raster 1 1 a.width a.height) =
    ap₂ (λ (pan pad : ℕ). Step (Raster pan pad a.width a.height)) box.pan box.pad in
    let s : IsSame background w h events (drawing_of a events) =
    subst (λ (e : Event). IsSame background w h events (e ∷ plain_of events)) square f.same in
    subst (IsSame background w h (events ++ Finish eight ∷ [])) (append-nil (drawing_of a events))
    (same_push background w h events (drawing_of a events) (Finish eight) refl s)

-- the colour of the pixel in the picture that the events leave
abbrev left_at : ℕ → List Event → ℕ → ℕ → Option Parts
left_at n events x y = palette_at (picture_left n events).palette (register_of (picture_left n events) x y)

beside_shown : (background : Parts) (w h : ℕ) (events others : List Event) (x y : ℕ)
    → last_ink (beside background w h) events x y ≡ last_ink (beside background w h) others x y
    → shown_on (beside background w h) events (0 + x) (0 + y) ≡ shown_on (beside background w h) others (0 + x) (0 + y)
unfolding shown_on
beside_shown background w h events others x y same =
    ap (λ (o : Option Parts). unwrap_or o (stood_on (beside background w h) (0 + x) (0 + y)))
    (last_inked _ background w h events x y ∙ (same ∙ sym (last_inked _ background w h others x y)))

-- the picture has the same pixel without a last select or definition
left_same : (background : Parts) (w h n : ℕ) (a : Attributes) (events : List Event) (eight : Bool) (x y : ℕ) → n ≤ 256
    → IsListed n events → (k : IsKept background w h n a events eight)
    → x < a.width → y < a.height → left_at n events x y ≡ left_at n (k.kept ++ Finish eight ∷ []) x y
left_same background w h n a events eight x y few l k right below =
    let t = beside background w h in
    let many : registers_of t ≡ 1024 = length-replicate 1024 background in
    let enough : n ≤ registers_of t = omega (arith, few, many) in
    shows_left n t events a x y l.whole (none_drawn n events l.unbroken) (seen_beside background w h events) enough
    k.boxed right below
    ∙ (ap (λ (c : Parts). Some c)
    (beside_shown background w h events (k.kept ++ Finish eight ∷ []) x y (k.inks x y))
    ∙ sym (shows_left n t (k.kept ++ Finish eight ∷ []) a x y k.whole k.unbroken
    (seen_beside background w h (k.kept ++ Finish eight ∷ [])) enough
    (box_before_end k.kept a eight ((k.followed).drawn).boxed) right below))

-- a pixel that konsole paints, the terminal of the class paints
painted_too : (background : Parts) (w h : ℕ) (events drawing : List Event) (x y : ℕ)
    → IsSame background w h events drawing → IsPainted (like_konsole false background w h) drawing x y
    → IsPainted (like_konsole true background w h) events (0 + x) (0 + y)
painted_too background w h events drawing x y s painted =
    let across : x ≡ 0 + x = omega arith in
    let down : y ≡ 0 + y = omega arith in
    let there : IsPainted (like_konsole false background w h) drawing (0 + x) (0 + y) =
    subst (λ (u : ℕ). IsPainted (like_konsole false background w h) drawing u (0 + y)) across
    (subst (λ (v : ℕ). IsPainted (like_konsole false background w h) drawing x v) down painted) in
    inked_painted (like_konsole true background w h) events (0 + x) (0 + y)
    (subst (λ (o : Option Parts). IsSome o) (same_inked background w h events drawing x y s)
    (painted_inked (like_konsole false background w h) drawing (0 + x) (0 + y) there))

kept_shown : (background : Parts) (w h n : ℕ) (a : Attributes) (events : List Event) (eight : Bool) → n ≤ 256
    → IsListed n events → IsBox a → (k : IsKept background w h n a events eight)
    → Shows (like_konsole false background w h) (drawing_of a k.kept) (picture_left n events)
kept_shown background w h n a events eight few l box k =
    let es : List Event = k.kept ++ Finish eight ∷ [] in
    let t = like_konsole true background w h in
    let s : IsSame background w h es (drawing_of a k.kept) = same_whole background w h a k.kept eight box k.followed in
    let size = size_left n events a k.boxed in
    let width : (picture_left n events).width ≡ a.width = size.0 in
    let height : (picture_left n events).height ≡ a.height = size.1 in
    let enough : n ≤ registers_of t = omega (arith, few, konsole_count) in
    let there : raster_before es ≡ Some a = box_before_end k.kept a eight ((k.followed).drawn).boxed in
    record {
      inside = λ x y right below.
          let across : x < a.width = omega (arith, right, width) in
          let down : y < a.height = omega (arith, below, height) in
          left_same background w h n a events eight x y few l k across down
          ∙ (shows_left n t es a x y k.whole k.unbroken (seen background w h es) enough there across down
          ∙ ap (λ (c : Parts). Some c) (sym (same_shown background w h es (drawing_of a k.kept) x y s)));
      outside = λ x y out painted.
          none_painted_outside n t es a (0 + x) (0 + y) k.unbroken there
          (λ b. out (record {
            left = omega arith;
            top = omega arith;
            right = let right : 0 + x < 0 + a.width = b.right in omega (arith, right, width);
            bottom = let bottom : 0 + y < 0 + a.height = b.bottom in omega (arith, bottom, height);
          })) (painted_too background w h es (drawing_of a k.kept) x y s painted);
    }

-- ---- konsole

tall_one : (w h : ℕ) → tall_in (Step (Raster 1 1 w h) ∷ []) ≡ 1
unfolding latest
tall_one w h = refl

-- the drawing of the whole list
drawing_shown : (background : Parts) (w h : ℕ) (a : Attributes) (opening drawing kept : List Event) (p : PictureValue)
    → opening ≡ Step (Raster 1 1 a.width a.height) ∷ [] → drawing ≡ plain_of kept
    → Shows (like_konsole false background w h) (drawing_of a kept) p
    → Shows (konsole_display background (tall_in opening) w h) (opening ++ drawing) p
drawing_shown background w h a opening drawing kept p opens drawn shows =
    rw (opens, drawn, tall_one a.width a.height) shows

list_shown : (background : Parts) (w h n : ℕ) (events : List Event) → n ≤ 256 → IsListed n events
    → Shows (konsole_display background (tall_in (konsole_opening events)) w h)
    (konsole_opening events ++ konsole_drawing events None) (picture_left n events)
list_shown background w h n events few l =
    let f : IsForm events = form n events l.whole (none_drawn n events l.unbroken) l.asked in
    let k : IsKept background w h n f.box events f.eight = kept background w h n events few l f in
    drawing_shown background w h f.box (konsole_opening events) (konsole_drawing events None) k.kept
    (picture_left n events)
    (opening_box f.box events k.kept f.is_box (k.read).begun (k.read).counted (k.read).drawn
    ((k.followed).held).within)
    (k.read).drawn (kept_shown background w h n f.box events f.eight few l f.is_box k)

-- for counts of registers that konsole has
pub konsole_shows : (n : ℕ) → n ≤ 256 → ShowsPortable Konsole n
konsole_shows n few background width height events whole none asked across down = record {
  said = all_is_said n events none;
  drawing = konsole_opening events ++ konsole_drawing events None;
  is_reading = konsole_read events;
  shows = list_shown background width height n events few
      (record { whole = whole; unbroken = none; asked = none_for Konsole events asked });
}
