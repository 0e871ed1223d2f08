-- The fitted picture, as a function: what `Fits` and `Unfit` say together, without memory.
use Rattle.std.specs.Prelude.{◌*◌, ℕ, Bool, true, false, Option, Some, None, Result, Ok, Err, nat_lt}
use Rattle.std.specs.Prelude.{if◌then◌else◌}
use Rattle.std.specs.Int.{div_ceil}
use Rattle.sixel_model.specs.declared.colour.Parts.{Parts}
use Rattle.sixel_model.specs.Geometry.{band_rows}
use Rattle.sixel_model.specs.Pictures.{PictureValue}
use Rattle.sixel_emulator_rules.specs.Asked.{is_asked}
use Rattle.sixel_emulator_rules.specs.declared.rule.AskedRule.TheVariants as rule
use Rattle.sixel_emulator_rules.specs.declared.terminals.Terminals.{Terminals}
use Rattle.sixel_fit.specs.Fits.{fit_reason}
use Rattle.sixel_fit.specs.Rows.{pad_register, with_rows}
use Rattle.sixel_fit.specs.declared.making.FitFault.{FitFault}
use Rattle.sixel_fit.specs.declared.making.FitFault.TheVariants.{NoRegister}

-- the height: the next multiple of six, or the same
abbrev pub fit_height : Terminals → ℕ → ℕ
fit_height t height = if is_asked t rule.Rows then band_rows * div_ceil height band_rows else height

-- the picture with rows below it, if there are any
abbrev pub fitted_by : Option FitFault → Bool → Option ℕ → Parts → PictureValue → ℕ → Result PictureValue FitFault
fitted_by (Some fault) adds register pad p height = Err fault
fitted_by None false register pad p height = Ok p
fitted_by None true (Some r) pad p height = Ok (with_rows p height pad r)
fitted_by None true None pad p height = Err NoRegister

-- the picture, or the first reason why there is none
abbrev pub fitted_at : Terminals → Parts → PictureValue → ℕ → Result PictureValue FitFault
fitted_at t pad p height =
    fitted_by (fit_reason t pad p height) (nat_lt p.height height) (pad_register pad p.palette) pad p height

unfoldable pub fitted : Terminals → Parts → PictureValue → Result PictureValue FitFault
fitted t pad p = fitted_at t pad p (fit_height t p.height)
