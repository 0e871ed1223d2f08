-- Why there is no picture.
use Rattle.std.proofs.Common.{◌≡◌, ◌<◌, ℕ, Bool, true, false, Option, Some, None, ap, refl}
use Rattle.std.specs.Prelude.{◌&&◌, if◌then◌else◌, is_none, nat_lt}
use Rattle.std.proofs.lemmas.Bool.{and_from, lt-ltb}
use Rattle.sixel_model.specs.declared.colour.Parts.{Parts}
use Rattle.sixel_model.specs.Pictures.{PictureValue, most_side}
use Rattle.sixel_emulator_rules.specs.declared.terminals.Terminals.{Terminals}
use Rattle.sixel_fit.specs.Fits.{IsHeightFor, Unfit, fit_reason, has_hue_for, is_large}
use Rattle.sixel_fit.specs.Rows.{pad_register}
use Rattle.sixel_fit.specs.declared.making.FitFault.{FitFault}
use Rattle.sixel_fit.specs.declared.making.FitFault.TheVariants.{Large, Hue, TooHigh, NoRegister, OutOfMemory}

-- memory is no such reason
no_memory : (a b c d : Bool) (width height : ℕ)
    → (if a then Some (Large width height) else if b then Some Hue else if c then Some TooHigh else if d then Some
    NoRegister else None)
    ≡ Some OutOfMemory → ⊥
no_memory true b c d width height is = cc
no_memory false true c d width height is = cc
no_memory false false true d width height is = cc
no_memory false false false true width height is = cc
no_memory false false false false width height is = cc

pub unfit_from : (t : Terminals) (pad : Parts) (p : PictureValue) (height : ℕ) (fault : FitFault)
    → IsHeightFor t p.height height → fit_reason t pad p height ≡ Some fault → Unfit t pad p fault
unfit_from t pad p height OutOfMemory is reason =
    absurd (no_memory (is_large t p.width p.height) (has_hue_for t pad p.palette (nat_lt p.height height))
    (nat_lt most_side height) (nat_lt p.height height && is_none (pad_register pad p.palette)) p.width p.height reason)
unfit_from t pad p height fault is reason = (height, is, reason)

-- ---- no register is left

-- the last reason applies, so there is one
last_reason : (a b c d : Bool) (width height : ℕ) → d ≡ true
    → (if a then Some (Large width height) else if b then Some Hue else if c then Some TooHigh else if d then Some
    NoRegister else None)
    ≡ None → ⊥
last_reason true b c d width height adds is = cc
last_reason false true c d width height adds is = cc
last_reason false false true d width height adds is = cc
last_reason false false false true width height adds is = cc
last_reason false false false false width height adds is = cc

-- a picture that gets rows has a register for them, unless there is a reason
pub has_register : (t : Terminals) (pad : Parts) (p : PictureValue) (height : ℕ) → p.height < height
    → pad_register pad p.palette ≡ None → fit_reason t pad p height ≡ None → ⊥
has_register t pad p height more unfound reason =
    last_reason (is_large t p.width p.height) (has_hue_for t pad p.palette (nat_lt p.height height))
    (nat_lt most_side height) (nat_lt p.height height && is_none (pad_register pad p.palette)) p.width p.height
    (and_from (nat_lt p.height height) (is_none (pad_register pad p.palette)) (lt-ltb p.height height more)
    (ap is_none unfound)) reason

pub no_some : {X : Type 0} (o : Option X) → ((x : X) → o ≡ Some x → ⊥) → o ≡ None
no_some None other = refl
no_some (Some x) other = absurd (other x refl)
