-- What is answered is the fitted picture.
use Rattle.std.proofs.Common.{◌≡◌, ◌≢◌, ◌∙◌, ◌*◌, ◌<◌, ◌≤◌, ℕ, Bool, true, false, Option, Some, None, Ok, Err}
use Rattle.std.proofs.Common.{Result, ap, arith, inl, inr, refl, sym}
use Rattle.std.specs.Prelude.{if◌then◌else◌, nat_lt}
use Rattle.std.specs.Int.{div_ceil}
use Rattle.std.proofs.lemmas.Bool.{cases_lt, le-ltb, lt-ltb}
use Rattle.sixel_model.specs.declared.colour.Parts.{Parts}
use Rattle.sixel_model.specs.Pictures.{PictureValue}
use Rattle.sixel_emulator_rules.specs.Asked.{is_asked}
use Rattle.sixel_emulator_rules.specs.declared.rule.AskedRule.TheVariants as rule
use Rattle.sixel_emulator_rules.specs.declared.terminals.Terminals.{Terminals}
use Rattle.sixel_fit.specs.Fits.{Fits, FitsOrNot, IsHeightFor, IsHeightIf, fit_reason}
use Rattle.sixel_fit.specs.Fitted.{fit_height, fitted, fitted_at, fitted_by}
use Rattle.sixel_fit.specs.Rows.{HasRowsBelow, pad_register, with_rows}
use Rattle.sixel_fit.specs.declared.making.FitFault.{FitFault}
use Rattle.sixel_fit.specs.declared.making.FitFault.TheVariants.{Large, Hue, TooHigh, NoRegister, OutOfMemory}

-- the height is the one of the function
height_if : (b : Bool) (height after : ℕ) → IsHeightIf b height after
    → after ≡ (if b then 6 * div_ceil height 6 else height)
height_if true height after is = omega (arith, is.whole, is.above, is.near)
height_if false height after is = is

height_is : (t : Terminals) (height after : ℕ) → IsHeightFor t height after → after ≡ fit_height t height
height_is t height after is = height_if (is_asked t rule.Rows) height after is

above_if : (b : Bool) (height after : ℕ) → IsHeightIf b height after → height ≤ after
above_if true height after is = is.above
above_if false height after is = omega (arith, is)

-- a reason
refused_at : (t : Terminals) (pad : Parts) (p : PictureValue) (height : ℕ) (fault : FitFault)
    → fit_reason t pad p height ≡ Some fault → Err fault ≡ fitted_at t pad p height
refused_at t pad p height fault is =
    sym (ap (λ (o : Option FitFault). fitted_by o (nat_lt p.height height) (pad_register pad p.palette) pad p height)
    is)

-- a picture
with_rows_at : (t : Terminals) (pad : Parts) (p : PictureValue) (height r : ℕ) → fit_reason t pad p height ≡ None
    → p.height < height → pad_register pad p.palette ≡ Some r → Ok (with_rows p height pad r) ≡ fitted_at t pad p height
with_rows_at t pad p height r none less takes =
    sym (ap (λ (o : Option FitFault). fitted_by o (nat_lt p.height height) (pad_register pad p.palette) pad p height)
    none
    ∙ ap (λ (b : Bool). fitted_by None b (pad_register pad p.palette) pad p height) (lt-ltb p.height height less)
    ∙ ap (λ (o : Option ℕ). fitted_by None true o pad p height) takes)

same_at : (t : Terminals) (pad : Parts) (p : PictureValue) (height : ℕ) → fit_reason t pad p height ≡ None
    → height ≤ p.height → Ok p ≡ fitted_at t pad p height
same_at t pad p height none not_less =
    sym (ap (λ (o : Option FitFault). fitted_by o (nat_lt p.height height) (pad_register pad p.palette) pad p height)
    none
    ∙ ap (λ (b : Bool). fitted_by None b (pad_register pad p.palette) pad p height) (le-ltb p.height height not_less))

made_at : (t : Terminals) (pad : Parts) (p q : PictureValue) → Fits t pad p q → fit_reason t pad p q.height ≡ None
    → Ok q ≡ fitted_at t pad p q.height
made_at t pad p q f none = elim (cases_lt p.height q.height) [
  | inl less ↦
      let rows : HasRowsBelow pad p q = f.rows less in
      ap (λ (r : PictureValue). Ok r) rows.is ∙ with_rows_at t pad p q.height rows.register none less rows.takes
  | inr not_less ↦
      let above : p.height ≤ q.height = above_if (is_asked t rule.Rows) p.height q.height f.height in
      ap (λ (r : PictureValue). Ok r) (f.same (omega (arith, above, not_less))) ∙ same_at t pad p q.height none not_less
]

at_height : (t : Terminals) (pad : Parts) (p : PictureValue) (height : ℕ) → IsHeightFor t p.height height
    → fitted_at t pad p height ≡ fitted t pad p
unfolding fitted
at_height t pad p height is = ap (fitted_at t pad p) (height_is t p.height height is)

pub answer_is_fitted : (t : Terminals) (pad : Parts) (p : PictureValue) (answer : Result PictureValue FitFault)
    → FitsOrNot t pad p answer → answer ≢ Err OutOfMemory → answer ≡ fitted t pad p
answer_is_fitted t pad p (Ok q) is other =
    made_at t pad p q is.0 is.1 ∙ at_height t pad p q.height (is.0).height
answer_is_fitted t pad p (Err OutOfMemory) is other = absurd (other refl)
answer_is_fitted t pad p (Err (Large width height)) is other =
    refused_at t pad p is.0 (Large width height) is.2 ∙ at_height t pad p is.0 is.1
answer_is_fitted t pad p (Err Hue) is other = refused_at t pad p is.0 Hue is.2 ∙ at_height t pad p is.0 is.1
answer_is_fitted t pad p (Err TooHigh) is other = refused_at t pad p is.0 TooHigh is.2 ∙ at_height t pad p is.0 is.1
answer_is_fitted t pad p (Err NoRegister) is other =
    refused_at t pad p is.0 NoRegister is.2 ∙ at_height t pad p is.0 is.1
