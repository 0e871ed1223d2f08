-- How many painted pixels are hidden, from what is shown over a mark and over the background.
use Rattle.std.proofs.Common.{◌≡◌, ◌+◌, ◌<◌, ◌∷◌, ◌∙◌, [], ℕ, Bool, false, true, List, None, Option, Some, ap, ap₂, cond}
use Rattle.std.proofs.Common.{get_or, length, refl, sym}
use Rattle.std.specs.Prelude.{count_by, is_none, unwrap_or, if◌then◌else◌}
use Rattle.std.specs.List.{list_any}
use Rattle.std.proofs.lemmas.List.{get_or-map}
use Rattle.std.proofs.lemmas.List.Folds.{list_any_at}
use Rattle.std.proofs.lemmas.List.Sums.{sum_by-cons}
use Rattle.sixel_model.specs.declared.colour.Parts.{Parts}
use Rattle.sixel_model.specs.Colours.{is_entry, is_same}
use Rattle.sixel_ppm.proofs.PpmColourLemmas.{same_as_itself}
use Rattle.sixel_mend.specs.Marking.{over}
use Rattle.sixel_mend.specs.Painted.{hidden_among}
use Rattle.sixel_mend.proofs.NumberLemmas.{same_is}

different : (mark background : Parts) → is_same mark background ≡ false → mark ≡ background → ⊥
different mark background other same =
    let bad : true ≡ false =
    sym (same_as_itself mark) ∙ ap (λ (c : Parts). is_same mark c) same ∙ other in
    cc

-- ---- some pixel isn't painted

-- if both show the same, each pixel is painted
all_painted : (mark background : Parts) (painted : List (Option Parts)) → is_same mark background ≡ false
    → over mark painted ≡ over background painted → list_any is_none painted ≡ false
all_painted mark background [] other same = refl
all_painted mark background (None ∷ painted) other same =
    let first : mark ≡ background = cc in absurd (different mark background other first)
all_painted mark background (Some d ∷ painted) other same =
    let rest : over mark painted ≡ over background painted = cc in all_painted mark background painted other rest

pub none_hidden_alike : (mark background : Parts) (painted : List (Option Parts)) → is_same mark background ≡ false
    → over mark painted ≡ over background painted → hidden_among background painted ≡ 0
none_hidden_alike mark background painted other same =
    ap (λ (b : Bool). if b then count_by (is_entry background) painted else 0)
    (all_painted mark background painted other same)

-- where they differ, a pixel isn't painted and shows the background
pub record IsUnpainted (background : Parts) (painted : List (Option Parts)) (shown : Parts) : Type 0 where
  pub some : list_any is_none painted ≡ true
  pub shows : shown ≡ background

pub unpainted_at : (mark background : Parts) (painted : List (Option Parts)) (k : ℕ) (a b : Parts)
    → k < length painted → get_or (over mark painted) k a ≡ a → get_or (over background painted) k b ≡ b
    → (a ≡ b → ⊥) → IsUnpainted background painted b
unpainted_at mark background painted k a b lt here there differ =
    by (get_or painted k None) refl
    (sym (get_or-map (λ (o : Option Parts). unwrap_or o mark) painted k None a lt) ∙ here)
    (sym (get_or-map (λ (o : Option Parts). unwrap_or o background) painted k None b lt) ∙ there)
  where
    by : (o : Option Parts) → get_or painted k None ≡ o → unwrap_or o mark ≡ a → unwrap_or o background ≡ b
        → IsUnpainted background painted b
    by None e f g = record { some = list_any_at is_none painted k None lt (ap is_none e); shows = sym g }
    by (Some d) e f g = absurd (differ (sym f ∙ g))

-- ---- the count

-- over the mark, the pixels that show the background's colour are those that are painted in it
counted_over : (mark background : Parts) (painted : List (Option Parts)) → is_same background mark ≡ false
    → count_by (is_same background) (over mark painted) ≡ count_by (is_entry background) painted
counted_over mark background [] other = refl
counted_over mark background (o ∷ painted) other =
    sum_by-cons (λ (c : Parts). cond (is_same background c) 1 0) (unwrap_or o mark) (over mark painted)
    ∙ ap₂ (λ (t : Bool) (n : ℕ). cond t 1 0 + n) (first o) (counted_over mark background painted other)
    ∙ sym (sum_by-cons (λ (p : Option Parts). cond (is_entry background p) 1 0) o painted)
  where
    first : (p : Option Parts) → is_same background (unwrap_or p mark) ≡ is_entry background p
    first None = other
    first (Some d) = refl

turned : (mark background : Parts) → is_same mark background ≡ false → is_same background mark ≡ false
turned mark background other = by (is_same background mark) refl
  where
    by : (b : Bool) → is_same background mark ≡ b → b ≡ false
    by false e = refl
    by true e = absurd (different mark background other (sym (same_is background mark e)))

pub hidden_counted : (mark background : Parts) (painted : List (Option Parts)) (shown : Parts)
    → is_same mark background ≡ false → IsUnpainted background painted shown
    → count_by (is_same shown) (over mark painted) ≡ hidden_among background painted
hidden_counted mark background painted shown other is =
    ap (λ (c : Parts). count_by (is_same c) (over mark painted)) is.shows
    ∙ counted_over mark background painted (turned mark background other)
    ∙ sym (ap (λ (b : Bool). if b then count_by (is_entry background) painted else 0) is.some)
