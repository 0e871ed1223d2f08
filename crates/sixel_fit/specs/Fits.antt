-- The picture that named terminals show in place of a picture, and why there is none.
use Rattle.std.specs.Prelude.{◌≡◌, ◌+◌, ◌%◌, ◌<◌, ◌≤◌, ◌&&◌, ◌||◌, ℕ, Bool, true, false, List, Option, Some, None}
use Rattle.std.specs.Prelude.{Result, Ok, Err, is_none, nat_lt, if◌then◌else◌}
use Rattle.std.specs.List.{list_any}
use Rattle.sixel_model.specs.declared.colour.Parts.{Parts}
use Rattle.sixel_model.specs.Geometry.{band_rows}
use Rattle.sixel_model.specs.Pictures.{PictureValue, most_side}
use Rattle.sixel_emulator_rules.specs.Asked.{is_asked}
use Rattle.sixel_emulator_rules.specs.declared.rule.AskedRule.TheVariants as rule
use Rattle.sixel_emulator_rules.specs.declared.terminals.Terminals.{Terminals}
use Rattle.sixel_fit.specs.Rows.{HasRowsBelow, is_hue, pad_register}
use Rattle.sixel_fit.specs.declared.making.FitFault.{FitFault}
use Rattle.sixel_fit.specs.declared.making.FitFault.TheVariants.{Large, Hue, TooHigh, NoRegister, OutOfMemory}

-- ---- the height

-- the least multiple of six that is no less than n
pub record IsNextMultiple (n multiple : ℕ) : Type 0 where
  pub whole : multiple % band_rows ≡ 0
  pub above : n ≤ multiple
  pub near : multiple < n + band_rows

abbrev pub IsHeightIf : Bool → ℕ → ℕ → Type 0
IsHeightIf true height after = IsNextMultiple height after
IsHeightIf false height after = after ≡ height

-- the height after it: the next multiple of six for a terminal that asks for `Rows`, as konsole does; else the same
abbrev pub IsHeightFor : Terminals → ℕ → ℕ → Type 0
IsHeightFor t height after = IsHeightIf (is_asked t rule.Rows) height after

-- ---- the picture

-- it is the picture that the terminals show in place of p: p, or p with rows of the colour below it
pub record Fits (t : Terminals) (pad : Parts) (p fitted : PictureValue) : Type 0 where
  pub height : IsHeightFor t p.height fitted.height
  pub same : fitted.height ≡ p.height → fitted ≡ p
  pub rows : p.height < fitted.height → HasRowsBelow pad p fitted

-- ---- why there is none

-- a terminal of the set asks for `Large`, as xterm does, and the sides are too large
abbrev pub is_large : Terminals → ℕ → ℕ → Bool
is_large t width height = is_asked t rule.Large && (nat_lt 1000 width || nat_lt 996 height)

-- a terminal of the set asks for `Hue`, as xterm does, and a colour is by hue, if rows are added also theirs
abbrev pub has_hue_for : Terminals → Parts → List (Option Parts) → Bool → Bool
has_hue_for t pad palette adds = is_asked t rule.Hue && (list_any is_hue palette || (adds && is_hue (Some pad)))

-- the first reason why these terminals show no such picture in place of p, with this height
abbrev pub fit_reason : Terminals → Parts → PictureValue → ℕ → Option FitFault
fit_reason t pad p height =
    if is_large t p.width p.height then Some (Large p.width p.height)
    else if has_hue_for t pad p.palette (nat_lt p.height height) then Some Hue
    else if nat_lt most_side height then Some TooHigh
    else if nat_lt p.height height && is_none (pad_register pad p.palette) then Some NoRegister
    else None

-- this is the first reason why these terminals show no such picture. Without memory there may be one, with rows below
abbrev pub Unfit : Terminals → Parts → PictureValue → FitFault → Type 0
Unfit t pad p OutOfMemory =
    (height : ℕ) × IsHeightFor t p.height height × (p.height < height) × (fit_reason t pad p height ≡ None)
Unfit t pad p fault = (height : ℕ) × IsHeightFor t p.height height × (fit_reason t pad p height ≡ Some fault)

-- the picture, if there is no such reason; else the reason
abbrev pub FitsOrNot : Terminals → Parts → PictureValue → Result PictureValue FitFault → Type 0
FitsOrNot t pad p (Ok fitted) = Fits t pad p fitted × (fit_reason t pad p fitted.height ≡ None)
FitsOrNot t pad p (Err fault) = Unfit t pad p fault
