-- Views have one comparison.
use Rattle.std.proofs.Common.{◌≡◌, ◌∙◌, ◌<◌, ◌+◌, ℕ, zero, suc, Option, Some, None, refl, sym, ap, subst, inl, inr}
use Rattle.std.proofs.Common.{arith}
use Rattle.std.specs.Prelude.{◌≢◌, ◌⊎◌}
use Rattle.sixel_model.specs.declared.colour.Parts.{Parts}
use Rattle.sixel_model.specs.declared.colour.Parts.TheVariants.{Rgb, Hls}
use Rattle.sixel_terminal.specs.Screens.{Shown}
use Rattle.sixel_named_terminals.specs.declared.named.Named.{Named}
use Rattle.sixel_named_terminals.specs.declared.named.Named.TheVariants.{XTerm, MlTerm, Foot, Konsole}
use Rattle.sixel_differ.specs.declared.comparison.Comparison.{Comparison}
use Rattle.sixel_differ.specs.declared.comparison.Standing.{Standing}
use Rattle.sixel_differ.specs.declared.comparison.Standing.TheVariants.{First, Differs, Like, Unmodelled}
use Rattle.sixel_differ.specs.declared.view.View.{View}
use Rattle.sixel_differ.specs.declared.view.View.TheVariants.{Screen, Unmodelled as Ends}
use Rattle.sixel_differ.specs.declared.view.Views.{Views}
use Rattle.sixel_differ.specs.Comparisons.{IsComparison, IsLeader, IsLikeNone, IsUnlikeFirst, NoneShows, StandsAfter}
use Rattle.sixel_differ.specs.Comparisons.{StandsWith, rank, standing_in}
use Rattle.sixel_differ.specs.Pixels.{AreAlike, ComesBefore, DifferFirstAt, seen_at}
use Rattle.sixel_differ.specs.Views.{IsUnmodelled, Shows, view_in}

-- ---- numbers and terminals

neither : (i j : ℕ) → (i < j → ⊥) → (j < i → ⊥) → i ≡ j
neither i j a b = omega (arith, a, b)

pub below_or : (k n : ℕ) → k < n + 1 → (k < n) ⊎ (k ≡ n)
below_or zero zero lt = inr refl
below_or zero (suc n) lt = inl (omega arith)
below_or (suc k) zero lt = absurd (omega (arith, lt))
below_or (suc k) (suc n) lt = elim (below_or k n (omega (arith, lt))) [
  | inl less ↦ inl (omega (arith, less))
  | inr same ↦ inr (ap suc same)
]

rank_once : (a b : Named) → rank a ≡ rank b → a ≡ b
rank_once XTerm XTerm e = refl
rank_once XTerm MlTerm e = absurd (omega (arith, e))
rank_once XTerm Foot e = absurd (omega (arith, e))
rank_once XTerm Konsole e = absurd (omega (arith, e))
rank_once MlTerm XTerm e = absurd (omega (arith, e))
rank_once MlTerm MlTerm e = refl
rank_once MlTerm Foot e = absurd (omega (arith, e))
rank_once MlTerm Konsole e = absurd (omega (arith, e))
rank_once Foot XTerm e = absurd (omega (arith, e))
rank_once Foot MlTerm e = absurd (omega (arith, e))
rank_once Foot Foot e = refl
rank_once Foot Konsole e = absurd (omega (arith, e))
rank_once Konsole XTerm e = absurd (omega (arith, e))
rank_once Konsole MlTerm e = absurd (omega (arith, e))
rank_once Konsole Foot e = absurd (omega (arith, e))
rank_once Konsole Konsole e = refl

same_screen : (a b : Shown) → Screen a ≡ Screen b → a ≡ b
same_screen a b e = cc

not_ended : (screen : Shown) (place : ℕ) → Screen screen ≡ Ends place → ⊥
not_ended screen place e = cc

shows_once : (v : Views) (named : Named) (a b : Shown) → Shows v named a → Shows v named b → a ≡ b
shows_once v named a b p q = same_screen a b (sym p ∙ q)

shows_ended : (v : Views) (named : Named) (screen : Shown) → Shows v named screen → IsUnmodelled v named → ⊥
shows_ended v named screen shows ends = not_ended screen ends.0 (sym shows ∙ ends.1)

-- ---- one first pixel

before_none : (a b : Shown) (x y u v : ℕ) → DifferFirstAt a b x y → DifferFirstAt a b u v → ComesBefore u v x y → ⊥
before_none a b x y u v p q before = q.differ (p.before u v q.column q.row before)

pixel_once : (a b : Shown) (x y u v : ℕ) → DifferFirstAt a b x y → DifferFirstAt a b u v → (x ≡ u) × (y ≡ v)
pixel_once a b x y u v p q =
    let rows : y ≡ v = neither y v (λ lt. before_none a b u v x y q p (inl lt)) (λ lt.
    before_none a b x y u v p q (inl lt)) in (
      neither x u (λ lt. before_none a b u v x y q p (inr (rows, lt))) (λ lt.
          before_none a b x y u v p q (inr (sym rows, lt))),
      rows,
    )

unlike : (a b : Shown) (x y : ℕ) → DifferFirstAt a b x y → AreAlike a b → ⊥
unlike a b x y p alike = p.differ (alike x y p.column p.row)

-- ---- at most one standing

leads_once : (v : Views) (a b : Named) (screen : Shown) → IsLeader v a screen → IsLeader v b screen → a ≡ b
leads_once v a b screen p q =
    rank_once a b (neither (rank a) (rank b) (λ lt. q.leads a p.shown lt p.shows p.alike) (λ lt.
    p.leads b q.shown lt q.shows q.alike))

first_once : (v : Views) (n : ℕ) (screen : Shown) (x y u w : ℕ) → IsUnlikeFirst v n screen x y
    → IsUnlikeFirst v n screen u w → (x ≡ u) × (y ≡ w)
first_once v n screen x y u w p q =
    let named : p.named ≡ q.named =
    rank_once p.named q.named
    (neither (rank p.named) (rank q.named) (λ lt. shows_ended v p.named p.shown p.shows (q.first p.named lt)) (λ lt.
    shows_ended v q.named q.shown q.shows (p.first q.named lt))) in
    let shows : Shows v q.named p.shown = subst (λ (k : Named). Shows v k p.shown) named p.shows in
    let same : p.shown ≡ q.shown = shows_once v q.named p.shown q.shown shows q.shows in
    pixel_once q.shown screen x y u w (subst (λ (s : Shown). DifferFirstAt s screen x y) same p.pixel) q.pixel

none_and_first : (v : Views) (n : ℕ) (screen : Shown) (x y : ℕ) → NoneShows v n → IsUnlikeFirst v n screen x y → ⊥
none_and_first v n screen x y none p = shows_ended v p.named p.shown p.shows (none p.named p.earlier)

none_and_leader : (v : Views) (n : ℕ) (named : Named) (screen : Shown) → NoneShows v n → rank named < n
    → IsLeader v named screen → ⊥
none_and_leader v n named screen none lt p = shows_ended v named p.shown p.shows (none named lt)

unlike_and_leader : (v : Views) (n : ℕ) (named : Named) (screen : Shown) → IsLikeNone v n screen → rank named < n
    → IsLeader v named screen → ⊥
unlike_and_leader v n named screen none lt p = none named p.shown lt p.shows p.alike

stands_once : (v : Views) (n : ℕ) (screen : Shown) (a b : Standing) → StandsAfter v n screen a
    → StandsAfter v n screen b → a ≡ b
stands_once v n screen First First p q = refl
stands_once v n screen First (Differs x y) p q = absurd (none_and_first v n screen x y p q.1)
stands_once v n screen First (Like named) p q = absurd (none_and_leader v n named screen p q.0 q.1)
stands_once v n screen (Differs x y) First p q = absurd (none_and_first v n screen x y q p.1)
stands_once v n screen (Differs x y) (Differs u w) p q =
    let same = first_once v n screen x y u w p.1 q.1 in
    ap (λ (k : ℕ). Differs k y) same.0 ∙ ap (λ (k : ℕ). Differs u k) same.1
stands_once v n screen (Differs x y) (Like named) p q = absurd (unlike_and_leader v n named screen p.0 q.0 q.1)
stands_once v n screen (Like named) First p q = absurd (none_and_leader v n named screen q p.0 p.1)
stands_once v n screen (Like named) (Differs x y) p q = absurd (unlike_and_leader v n named screen q.0 p.0 p.1)
stands_once v n screen (Like named) (Like other) p q = ap Like (leads_once v named other screen p.1 q.1)
stands_once v n screen (Unmodelled place) b p q = absurd p
stands_once v n screen a (Unmodelled place) p q = absurd q

view_stands_once : (v : Views) (n : ℕ) (view : View) (a b : Standing) → StandsWith v n view a → StandsWith v n view b
    → a ≡ b
view_stands_once v n (Screen screen) a b p q = stands_once v n screen a b p q
view_stands_once v n (Ends place) a b p q = p ∙ sym q

pub comparison_once : (v : Views) (c d : Comparison) → IsComparison v c → IsComparison v d → c ≡ d
comparison_once v c d p q =
    ap (λ (x : Standing). let e : Comparison = record c { xterm = x } in e) (same XTerm)
    ∙ ap (λ (x : Standing). let e : Comparison = record c { xterm = d.xterm; mlterm = x } in e) (same MlTerm)
    ∙ ap (λ (x : Standing). let e : Comparison = record d { foot = x; konsole = c.konsole } in e) (same Foot)
    ∙ ap (λ (x : Standing). let e : Comparison = record d { konsole = x } in e) (same Konsole)
  where
    same : (named : Named) → standing_in c named ≡ standing_in d named
    same named = view_stands_once v (rank named) (view_in v named) _ _ (p named) (q named)

-- ---- a first pixel, if there is one

same_number : (m n : ℕ) → (m ≡ n) ⊎ (m ≢ n)
same_number zero zero = inl refl
same_number zero (suc n) = inr (λ e. absurd (omega (arith, e)))
same_number (suc m) zero = inr (λ e. absurd (omega (arith, e)))
same_number (suc m) (suc n) = elim (same_number m n) [
  | inl e ↦ inl (ap suc e)
  | inr off ↦ inr (λ e. off (omega (arith, e)))
]

-- all three are the same, or not
same_three : (a b c x y z : ℕ) → ((a ≡ x) × (b ≡ y) × (c ≡ z)) ⊎ ((a ≡ x) × (b ≡ y) × (c ≡ z) → ⊥)
same_three a b c x y z = elim (same_number a x) [
  | inr off ↦ inr (λ e. off e.0)
  | inl p ↦ elim (same_number b y) [
    | inr off ↦ inr (λ e. off e.1)
    | inl q ↦ elim (same_number c z) [
      | inr off ↦ inr (λ e. off e.2)
      | inl r ↦ inl (p, q, r)
    ]
  ]
]

rgb_of : (a b c x y z : ℕ) → (a ≡ x) × (b ≡ y) × (c ≡ z) → Rgb a b c ≡ Rgb x y z
rgb_of a b c x y z e = let p = e.0 in let q = e.1 in let r = e.2 in cc

hls_of : (a b c x y z : ℕ) → (a ≡ x) × (b ≡ y) × (c ≡ z) → Hls a b c ≡ Hls x y z
hls_of a b c x y z e = let p = e.0 in let q = e.1 in let r = e.2 in cc

rgb_parts : (a b c x y z : ℕ) → Rgb a b c ≡ Rgb x y z → (a ≡ x) × (b ≡ y) × (c ≡ z)
rgb_parts a b c x y z e = (cc, cc, cc)

hls_parts : (a b c x y z : ℕ) → Hls a b c ≡ Hls x y z → (a ≡ x) × (b ≡ y) × (c ≡ z)
hls_parts a b c x y z e = (cc, cc, cc)

same_parts : (p q : Parts) → (p ≡ q) ⊎ (p ≢ q)
same_parts (Rgb a b c) (Rgb x y z) = elim (same_three a b c x y z) [
  | inl e ↦ inl (rgb_of a b c x y z e)
  | inr off ↦ inr (λ e. off (rgb_parts a b c x y z e))
]
same_parts (Rgb a b c) (Hls x y z) = inr (λ e. cc)
same_parts (Hls a b c) (Rgb x y z) = inr (λ e. cc)
same_parts (Hls a b c) (Hls x y z) = elim (same_three a b c x y z) [
  | inl e ↦ inl (hls_of a b c x y z e)
  | inr off ↦ inr (λ e. off (hls_parts a b c x y z e))
]

some_parts : (p q : Parts) → Some p ≡ Some q → p ≡ q
some_parts p q e = cc

same_colour : (p q : Option Parts) → (p ≡ q) ⊎ (p ≢ q)
same_colour None None = inl refl
same_colour None (Some q) = inr (λ e. cc)
same_colour (Some p) None = inr (λ e. cc)
same_colour (Some p) (Some q) = elim (same_parts p q) [
  | inl e ↦ inl (ap Some e)
  | inr off ↦ inr (λ e. off (some_parts p q e))
]

-- the first number below a bound for which something isn't so
abbrev AllBelow : (ℕ → Type 0) → ℕ → Type 0
AllBelow P n = (k : ℕ) → k < n → P k

abbrev FirstBelow : (ℕ → Type 0) → ℕ → Type 0
FirstBelow P n = (k : ℕ) × (k < n) × (P k → ⊥) × AllBelow P k

first_below : (P : ℕ → Type 0) → ((k : ℕ) → P k ⊎ (P k → ⊥)) → (n : ℕ) → AllBelow P n ⊎ FirstBelow P n
first_below P test zero = inl (λ k lt. absurd (omega (arith, lt)))
first_below P test (suc n) = elim (first_below P test n) [
  | inr found ↦ inr (found.0, omega (arith, found.1), found.2, found.3)
  | inl all ↦ elim (test n) [
    | inr off ↦ inr (n, omega arith, off, all)
    | inl here ↦
        inl (λ k lt. elim (below_or k n (omega (arith, lt))) [
          | inl less ↦ all k less
          | inr same ↦ subst P (sym same) here
        ])
  ]
]

-- one colour is seen in this column and row of the screens, or in this row
IsSameAt : Shown → Shown → ℕ → ℕ → Type 0
IsSameAt a b y x = seen_at a x y ≡ seen_at b x y

test_at : (a b : Shown) (y x : ℕ) → IsSameAt a b y x ⊎ (IsSameAt a b y x → ⊥)
unfolding IsSameAt
test_at a b y x = same_colour (seen_at a x y) (seen_at b x y)

IsSameRow : Shown → Shown → ℕ → Type 0
IsSameRow a b y = AllBelow (IsSameAt a b y) a.width

test_row : (a b : Shown) (y : ℕ) → IsSameRow a b y ⊎ (IsSameRow a b y → ⊥)
unfolding IsSameRow
test_row a b y = elim (first_below (IsSameAt a b y) (test_at a b y) a.width) [
  | inl all ↦ inl all
  | inr found ↦ inr (λ all. found.2 (all found.0 found.1))
]

first_in_row : (a b : Shown) (y : ℕ) → y < a.height → (IsSameRow a b y → ⊥) → AllBelow (IsSameRow a b) y
    → (u : ℕ) × (w : ℕ) × DifferFirstAt a b u w
unfolding IsSameAt IsSameRow
first_in_row a b y lt off above = elim (first_below (IsSameAt a b y) (test_at a b y) a.width) [
  | inl all ↦ absurd (off all)
  | inr found ↦ (
    found.0,
    y,
    record {
      column = found.1;
      row = lt;
      differ = found.2;
      before = λ u w wide high first. elim first [
        | inl less ↦ above w less u wide
        | inr same ↦
            subst (λ (k : ℕ). seen_at a u k ≡ seen_at b u k) (sym same.0) (found.3 u same.1)
      ];
    },
  )
]

alike_or_first : (a b : Shown) → AreAlike a b ⊎ ((x : ℕ) × (y : ℕ) × DifferFirstAt a b x y)
unfolding IsSameAt IsSameRow
alike_or_first a b = elim (first_below (IsSameRow a b) (test_row a b) a.height) [
  | inl all ↦ inl (λ x y wide high. all y high x wide)
  | inr found ↦ inr (first_in_row a b found.0 found.1 found.2 found.3)
]

-- ---- at least one standing

abbrev Stands : Views → ℕ → Shown → Type 0
Stands v n screen = (s : Standing) × StandsAfter v n screen s

-- with one more terminal before
with_ended : (v : Views) (named : Named) (screen : Shown) (place : ℕ) → view_in v named ≡ Ends place → (s : Standing)
    → StandsAfter v (rank named) screen s → Stands v (rank named + 1) screen
with_ended v named screen place is First p = (
  First,
  λ other lt. elim (below_or (rank other) (rank named) lt) [
    | inl less ↦ p other less
    | inr same ↦ (place, ap (view_in v) (rank_once other named same) ∙ is)
  ],
)
with_ended v named screen place is (Differs x y) p = (
  Differs x y,
  (
    λ other shown lt shows alike. elim (below_or (rank other) (rank named) lt) [
      | inl less ↦ p.0 other shown less shows alike
      | inr same ↦
          shows_ended v other shown shows (place, ap (view_in v) (rank_once other named same) ∙ is)
    ],
    record {
      named = p.1.named;
      earlier = omega (arith, p.1.earlier);
      shown = p.1.shown;
      shows = p.1.shows;
      first = p.1.first;
      pixel = p.1.pixel;
    },
  ),
)
with_ended v named screen place is (Like leader) p = (Like leader, (omega (arith, p.0), p.1))
with_ended v named screen place is (Unmodelled at) p = absurd p

like_none_more : (v : Views) (named : Named) (screen other : Shown) (x y : ℕ) → Shows v named other
    → DifferFirstAt other screen x y → IsLikeNone v (rank named) screen → IsLikeNone v (rank named + 1) screen
like_none_more v named screen other x y is differ none = λ k shown lt shows alike.
    elim (below_or (rank k) (rank named) lt) [
      | inl less ↦ none k shown less shows alike
      | inr same ↦
          let there : Shows v named shown = subst (λ (l : Named). Shows v l shown) (rank_once k named same) shows in
          let one : shown ≡ other = shows_once v named shown other there is in
          unlike other screen x y differ (subst (λ (s : Shown). AreAlike s screen) one alike)
    ]

none_alike : (v : Views) (n : ℕ) (screen : Shown) → NoneShows v n → IsLikeNone v n screen
none_alike v n screen none = λ named other lt shows alike. shows_ended v named other shows (none named lt)

now_like : (v : Views) (named : Named) (screen other : Shown) → Shows v named other → AreAlike other screen
    → IsLikeNone v (rank named) screen → Stands v (rank named + 1) screen
now_like v named screen other is alike none =
    (Like named, (omega arith, record { shown = other; shows = is; alike = alike; leads = none }))

with_shown : (v : Views) (named : Named) (screen other : Shown) → Shows v named other → (s : Standing)
    → StandsAfter v (rank named) screen s → Stands v (rank named + 1) screen
with_shown v named screen other is First p = elim (alike_or_first other screen) [
  | inl alike ↦ now_like v named screen other is alike (none_alike v (rank named) screen p)
  | inr pixel ↦ (
    Differs pixel.0 pixel.1,
    (
      like_none_more v named screen other pixel.0 pixel.1 is pixel.2 (none_alike v (rank named) screen p),
      record { named = named; earlier = omega arith; shown = other; shows = is; first = p; pixel = pixel.2 },
    ),
  )
]
with_shown v named screen other is (Differs x y) p = elim (alike_or_first other screen) [
  | inl alike ↦ now_like v named screen other is alike p.0
  | inr pixel ↦ (
    Differs x y,
    (
      like_none_more v named screen other pixel.0 pixel.1 is pixel.2 p.0,
      record {
        named = p.1.named;
        earlier = omega (arith, p.1.earlier);
        shown = p.1.shown;
        shows = p.1.shows;
        first = p.1.first;
        pixel = p.1.pixel;
      },
    ),
  )
]
with_shown v named screen other is (Like leader) p = (Like leader, (omega (arith, p.0), p.1))
with_shown v named screen other is (Unmodelled at) p = absurd p

with_view : (v : Views) (named : Named) (screen : Shown) (view : View) → view_in v named ≡ view
    → Stands v (rank named) screen → Stands v (rank named + 1) screen
with_view v named screen (Screen other) is p = with_shown v named screen other is p.0 p.1
with_view v named screen (Ends place) is p = with_ended v named screen place is p.0 p.1

with_one : (v : Views) (named : Named) (screen : Shown) → Stands v (rank named) screen
    → Stands v (rank named + 1) screen
with_one v named screen p = with_view v named screen (view_in v named) refl p

none_before : (v : Views) (screen : Shown) → Stands v 0 screen
none_before v screen = (First, λ named lt. absurd (omega (arith, lt)))

stands : (v : Views) (named : Named) (screen : Shown) → Stands v (rank named) screen
stands v XTerm screen = none_before v screen
stands v MlTerm screen = with_one v XTerm screen (none_before v screen)
stands v Foot screen = with_one v MlTerm screen (with_one v XTerm screen (none_before v screen))
stands v Konsole screen =
    with_one v Foot screen (with_one v MlTerm screen (with_one v XTerm screen (none_before v screen)))

view_stands : (v : Views) (named : Named) (view : View) → (s : Standing) × StandsWith v (rank named) view s
view_stands v named (Screen screen) = stands v named screen
view_stands v named (Ends place) = (Unmodelled place, refl)

each_stands : (v : Views) (named : Named) → (s : Standing) × StandsWith v (rank named) (view_in v named) s
each_stands v named = view_stands v named (view_in v named)

abbrev comparison_of : Views → Comparison
comparison_of v = record {
  xterm = (each_stands v XTerm).0;
  mlterm = (each_stands v MlTerm).0;
  foot = (each_stands v Foot).0;
  konsole = (each_stands v Konsole).0;
}

is_comparison : (v : Views) (named : Named)
    → StandsWith v (rank named) (view_in v named) (standing_in (comparison_of v) named)
is_comparison v XTerm = (each_stands v XTerm).1
is_comparison v MlTerm = (each_stands v MlTerm).1
is_comparison v Foot = (each_stands v Foot).1
is_comparison v Konsole = (each_stands v Konsole).1

pub some_comparison : (v : Views) → (c : Comparison) × IsComparison v c
some_comparison v = (comparison_of v, λ named. is_comparison v named)
