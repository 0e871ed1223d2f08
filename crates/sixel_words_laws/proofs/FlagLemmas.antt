-- Checks with any of their flags, in any order and as often as one likes.
use Rattle.std.proofs.Common.{◌≡◌, ◌∙◌, ◌∷◌, ◌++◌, ◌⊎◌, ◌&&◌, ◌||◌, zero, suc, [], Bool, List, None, Some, ap}
use Rattle.std.proofs.Common.{append-nil, append_assoc, arith, codes, false, fold, inl, inr, refl, subst, sym, true}
use Rattle.std.specs.Prelude.{All, Contains, find, if◌then◌else◌, unwrap_or}
use Rattle.std.specs.List.{list_all}
use Rattle.std.specs.Str.{bytes_eq}
use Rattle.std.proofs.lemmas.Bool.{and_from}
use Rattle.std.proofs.lemmas.List.Elements.{All-head, All-tail}
use Rattle.clap.proofs.OnLiterals.{clap_on_literals}
use Rattle.clap.specs.Simple.{App, Shape, built, entered, label_of, names_of, subcommand_of}
use Rattle.clap.specs.Takes.{default_passes, is_valid, settle_passes, takes, turn_passes, walk_passes}
use Rattle.clap.specs.Walk.{Row, Text, Walk, answers_to, finished, nothing_held, walk, walk_from, walked}
use Rattle.sixel_model.specs.declared.profile.Profile.TheVariants.{Registers16, Registers256}
use Rattle.sixel_report.specs.declared.task.Task.TheVariants.{Check}
use Rattle.sixel_words.specs.Words.{HasTerminals, IsRequestOf, files_of, is_among, is_given, lines_of, no_terminals}
use Rattle.sixel_words.specs.Words.{profile_of}
use Rattle.sixel_words.proofs.NamesLemmas.{has_nobody}
use Rattle.sixel_commands.specs.Commands.{checking_app, sixel_app}
use Rattle.sixel_words_laws.specs.Laws.{check_flags}
use Rattle.sixel_report.specs.declared.wanted_lines.Lines.TheVariants.{Nothing, Plain}

abbrev whole : App
whole = built sixel_app

-- `check`, as it is built
abbrev shape : Shape
shape = unwrap_or (find (λ s. answers_to (codes "check") (label_of s)) whole.subs) (checking_app (codes "check")).top

-- which flags were given, and which of two was given last
data Given : Type 0 where
  none : Given
  wide : Given
  quiet : Given
  wide_quiet : Given
  quiet_wide : Given

abbrev words_for : Given → List Text
words_for none = []
words_for wide = codes "--wide" ∷ []
words_for quiet = codes "--quiet" ∷ []
words_for wide_quiet = codes "--wide" ∷ codes "--quiet" ∷ []
words_for quiet_wide = codes "--quiet" ∷ codes "--wide" ∷ []

-- where the walk stands after these flags
abbrev at : Given → Walk
at g = walk shape.rules [] nothing_held (words_for g)

-- after one flag more, which is `--wide` or not
abbrev after : Bool → Given → Given
after true none = wide
after true wide = wide
after true quiet = quiet_wide
after true wide_quiet = quiet_wide
after true quiet_wide = quiet_wide
after false none = quiet
after false wide = wide_quiet
after false quiet = quiet
after false wide_quiet = wide_quiet
after false quiet_wide = wide_quiet

abbrev is_wide : Text → Bool
is_wide flag = bytes_eq (codes "--wide") flag

abbrev after_all : Given → List Text → Given
after_all g [] = g
after_all g (flag ∷ flags) = after_all (after (is_wide flag) g) flags

-- one flag is read
record IsRead (flag : Text) (g : Given) : Type 0 where
  pub step : walked shape.rules [] (at g) flag ≡ at (after (is_wide flag) g)
  pub passes : turn_passes shape [] (at g) flag ≡ true

wide_read : (g : Given) → IsRead (codes "--wide") g
unfolding clap_on_literals
wide_read none = record { step = refl; passes = refl }
wide_read wide = record { step = refl; passes = refl }
wide_read quiet = record { step = refl; passes = refl }
wide_read wide_quiet = record { step = refl; passes = refl }
wide_read quiet_wide = record { step = refl; passes = refl }

quiet_read : (g : Given) → IsRead (codes "--quiet") g
unfolding clap_on_literals
quiet_read none = record { step = refl; passes = refl }
quiet_read wide = record { step = refl; passes = refl }
quiet_read quiet = record { step = refl; passes = refl }
quiet_read wide_quiet = record { step = refl; passes = refl }
quiet_read quiet_wide = record { step = refl; passes = refl }

short_read : (g : Given) → IsRead (codes "-q") g
unfolding clap_on_literals
short_read none = record { step = refl; passes = refl }
short_read wide = record { step = refl; passes = refl }
short_read quiet = record { step = refl; passes = refl }
short_read wide_quiet = record { step = refl; passes = refl }
short_read quiet_wide = record { step = refl; passes = refl }

-- each flag is one of three
three_flags : (P : Text → Type 0) (flag : Text) → Contains check_flags flag → P (codes "-q") → P (codes "--quiet")
    → P (codes "--wide") → P flag
three_flags P flag (zero, short, is) a b c = subst P is a
three_flags P flag (suc zero, short, is) a b c = subst P is b
three_flags P flag (suc (suc zero), short, is) a b c = subst P is c
three_flags P flag (suc (suc (suc k)), short, is) a b c = let no : ⊥ = omega (arith, short) in absurd no

read : (flag : Text) (g : Given) → Contains check_flags flag → IsRead flag g
read flag g has = three_flags (λ (f : Text). IsRead f g) flag has (short_read g) (quiet_read g) (wide_read g)

abbrev AreFlags : List Text → Type 0
AreFlags [] = Unit {0}
AreFlags (flag ∷ flags) = Contains check_flags flag × AreFlags flags

-- ---- the walk of `check`

all_read : (g : Given) (flags : List Text) → AreFlags flags
    → fold (walked shape.rules []) (at g) flags ≡ at (after_all g flags)
all_read g [] are = refl
all_read g (flag ∷ flags) are =
    ap (λ (w : Walk). fold (walked shape.rules []) w flags) (read flag g are.0).step
    ∙ all_read (after (is_wide flag) g) flags are.1

all_pass : (g : Given) (flags : List Text) → AreFlags flags → walk_passes shape [] (at g) flags ≡ true
unfolding walk_passes
all_pass g [] are = refl
all_pass g (flag ∷ flags) are =
    and_from _ _ (read flag g are.0).passes
    (ap (λ (w : Walk). walk_passes shape [] w flags) (read flag g are.0).step
    ∙ all_pass (after (is_wide flag) g) flags are.1)

abbrev ends_well : Walk → Bool
ends_well w = settle_passes shape.rules shape.args_override_self w.held
    && (list_all default_passes shape.rules && is_valid shape (finished shape.rules w.held) false)

given_ends_well : (g : Given) → ends_well (at g) ≡ true
unfolding walked
given_ends_well none = refl
given_ends_well wide = refl
given_ends_well quiet = refl
given_ends_well wide_quiet = refl
given_ends_well quiet_wide = refl

-- ---- the walk of `sixel`, which stops at `check`

abbrev stopped : List Text → Walk
stopped words = record (walk_from nothing_held) { stopped = Some (codes "check", words) }

stops : walked whole.top.rules (names_of whole) (walk_from nothing_held) (codes "check") ≡ stopped []
unfolding walked
stops = refl

takes_name : turn_passes whole.top (names_of whole) (walk_from nothing_held) (codes "check") ≡ true
unfolding walked
takes_name = refl

after_stop : (words more : List Text)
    → fold (walked whole.top.rules (names_of whole)) (stopped words) more ≡ stopped (words ++ more)
unfolding walked
after_stop words [] = ap stopped (sym (append-nil words))
after_stop words (word ∷ more) =
    after_stop (words ++ word ∷ []) more ∙ ap stopped (append_assoc words (word ∷ []) more)

passes_after_stop : (words more : List Text)
    → walk_passes whole.top (names_of whole) (stopped words) more ≡ true
unfolding walked walk_passes
passes_after_stop words [] = refl
passes_after_stop words (word ∷ more) = passes_after_stop (words ++ word ∷ []) more

top_walk : (flags : List Text)
    → walk whole.top.rules (names_of whole) nothing_held (codes "check" ∷ flags) ≡ stopped flags
top_walk flags =
    ap (λ (w : Walk). fold (walked whole.top.rules (names_of whole)) w flags) stops ∙ after_stop [] flags

top_passes : (flags : List Text)
    → walk_passes whole.top (names_of whole) (walk_from nothing_held) (codes "check" ∷ flags) ≡ true
unfolding walk_passes
top_passes flags =
    and_from _ _ takes_name
    (ap (λ (w : Walk). walk_passes whole.top (names_of whole) w flags) stops ∙ passes_after_stop [] flags)

-- ---- the laws

pub flags_taken : (program : Text) (flags : List Text) → AreFlags flags
    → takes sixel_app (program ∷ codes "check" ∷ flags) ≡ true
flags_taken program flags are =
    let top = top_walk flags in
    let checked : walk shape.rules [] nothing_held flags ≡ at (after_all none flags) = all_read none flags are in
    rw (top, top_passes flags, all_pass none flags are, checked, given_ends_well (after_all none flags)) refl

abbrev rows_for : Given → List Row
rows_for g = finished shape.rules (at g).held

abbrev had_wide : Given → Bool
had_wide none = false
had_wide quiet = false
had_wide _ = true

abbrev had_quiet : Given → Bool
had_quiet none = false
had_quiet wide = false
had_quiet _ = true

wide_more : (b : Bool) (g : Given) (x : Bool) → (had_wide (after b g) || x) ≡ (had_wide g || (b || x))
wide_more true none x = refl
wide_more true wide x = refl
wide_more true quiet x = refl
wide_more true wide_quiet x = refl
wide_more true quiet_wide x = refl
wide_more false none x = refl
wide_more false wide x = refl
wide_more false quiet x = refl
wide_more false wide_quiet x = refl
wide_more false quiet_wide x = refl

wide_after : (g : Given) (flags : List Text)
    → had_wide (after_all g flags) ≡ (had_wide g || is_among flags (codes "--wide"))
wide_after none [] = refl
wide_after wide [] = refl
wide_after quiet [] = refl
wide_after wide_quiet [] = refl
wide_after quiet_wide [] = refl
wide_after g (flag ∷ flags) =
    wide_after (after (is_wide flag) g) flags ∙ wide_more (is_wide flag) g (is_among flags (codes "--wide"))

quiet_by_wide : (g : Given) → had_quiet (after true g) ≡ had_quiet g
quiet_by_wide none = refl
quiet_by_wide wide = refl
quiet_by_wide quiet = refl
quiet_by_wide wide_quiet = refl
quiet_by_wide quiet_wide = refl

quiet_by_other : (g : Given) → had_quiet (after false g) ≡ true
quiet_by_other none = refl
quiet_by_other wide = refl
quiet_by_other quiet = refl
quiet_by_other wide_quiet = refl
quiet_by_other quiet_wide = refl

or_true : (a b c : Bool) → b ≡ true ⊎ c ≡ true → (a || (b || c)) ≡ true
or_true true b c is = refl
or_true false true c is = refl
or_true false false c (inl is) = let bad : false ≡ true = is in cc
or_true false false c (inr is) = is

quiet_more : (flag : Text) (g : Given) (a b : Bool) → Contains check_flags flag
    → (had_quiet (after (is_wide flag) g) || (a || b))
    ≡ (had_quiet g || ((bytes_eq (codes "-q") flag || a) || (bytes_eq (codes "--quiet") flag || b)))
quiet_more flag g a b has =
    three_flags (λ (f : Text). (had_quiet (after (is_wide f) g) || (a || b))
    ≡ (had_quiet g || ((bytes_eq (codes "-q") f || a) || (bytes_eq (codes "--quiet") f || b)))) flag has
    (ap (λ (q : Bool). q || (a || b)) (quiet_by_other g) ∙ sym (or_true (had_quiet g) true b (inl refl)))
    (ap (λ (q : Bool). q || (a || b)) (quiet_by_other g) ∙ sym (or_true (had_quiet g) a true (inr refl)))
    (ap (λ (q : Bool). q || (a || b)) (quiet_by_wide g))

quiet_after : (g : Given) (flags : List Text) → AreFlags flags
    → had_quiet (after_all g flags) ≡ (had_quiet g || (is_among flags (codes "-q") || is_among flags (codes "--quiet")))
quiet_after none [] are = refl
quiet_after wide [] are = refl
quiet_after quiet [] are = refl
quiet_after wide_quiet [] are = refl
quiet_after quiet_wide [] are = refl
quiet_after g (flag ∷ flags) are =
    quiet_after (after (is_wide flag) g) flags are.1
    ∙ quiet_more flag g (is_among flags (codes "-q")) (is_among flags (codes "--quiet")) are.0

-- what these flags ask for
record AsksSo (g : Given) : Type 0 where
  pub profile : profile_of (rows_for g) ≡ (if had_wide g then Registers256 else Registers16)
  pub terminals : HasTerminals (rows_for g) no_terminals
  pub lines : lines_of (rows_for g) ≡ (if had_quiet g then Nothing false else Plain false)
  pub explains : is_given (codes "explain") (rows_for g) ≡ false
  pub files : files_of (rows_for g) ≡ []

-- neither `--on` nor `--ignore` is among the flags
named_nobody : (g : Given) → HasTerminals (rows_for g) no_terminals
unfolding walked
named_nobody none = has_nobody (rows_for none) refl refl
named_nobody wide = has_nobody (rows_for wide) refl refl
named_nobody quiet = has_nobody (rows_for quiet) refl refl
named_nobody wide_quiet = has_nobody (rows_for wide_quiet) refl refl
named_nobody quiet_wide = has_nobody (rows_for quiet_wide) refl refl

asks_so : (g : Given) → AsksSo g
unfolding walked
asks_so none = record { profile = refl; terminals = named_nobody none; lines = refl; explains = refl; files = refl }
asks_so wide = record { profile = refl; terminals = named_nobody wide; lines = refl; explains = refl; files = refl }
asks_so quiet = record { profile = refl; terminals = named_nobody quiet; lines = refl; explains = refl; files = refl }
asks_so wide_quiet = record { profile = refl; terminals = named_nobody wide_quiet; lines = refl; explains = refl; files = refl }
asks_so quiet_wide = record { profile = refl; terminals = named_nobody quiet_wide; lines = refl; explains = refl; files = refl }

pub flags_ask : (program : Text) (flags : List Text) → AreFlags flags
    → IsRequestOf (program ∷ codes "check" ∷ flags)
    (Check (if is_among flags (codes "--wide") then Registers256 else Registers16) no_terminals)
    (if is_among flags (codes "-q") || is_among flags (codes "--quiet") then Nothing false else Plain false) false []
flags_ask program flags are =
    let g = after_all none flags in
    let asks = asks_so g in
    let found : subcommand_of sixel_app (program ∷ codes "check" ∷ flags) ≡ Some (codes "check", rows_for g) =
    ap (λ (w : Walk). entered whole w.stopped) (top_walk flags)
    ∙ ap (λ (w : Walk). Some (codes "check", finished shape.rules w.held)) (all_read none flags are) in
    let wide = ap (λ (b : Bool). if b then Registers256 else Registers16) (wide_after none flags) in (
      codes "check",
      rows_for g,
      found,
      (refl, asks.profile ∙ wide, asks.terminals),
      asks.lines ∙ ap (λ (b : Bool). if b then Nothing false else Plain false) (quiet_after none flags are),
      asks.explains,
      asks.files,
    )

pub are_flags : (flags : List Text) → All (Contains check_flags) flags → AreFlags flags
are_flags [] all = tt
are_flags (flag ∷ flags) all =
    (All-head (Contains check_flags) flag flags all, are_flags flags (All-tail (Contains check_flags) flag flags all))
