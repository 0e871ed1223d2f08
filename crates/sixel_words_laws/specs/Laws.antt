-- What the laws say.
use Rattle.std.specs.Prelude.{◌∷◌, [], List, codes}
use Rattle.clap.specs.Walk.{Text}
use Rattle.sixel_fit.specs.declared.making.Fitting.{Fitting}
use Rattle.sixel_model.specs.declared.colour.Parts.{Parts}
use Rattle.sixel_words.specs.Words.{no_terminals}

-- the flags of `check` for its profile and for no lines
abbrev pub check_flags : List Text
check_flags = codes "-q" ∷ codes "--quiet" ∷ codes "--wide" ∷ []

-- no terminal is named, and rows below would have this colour
abbrev pub for_none : Parts → Fitting
for_none pad = record { terminals = no_terminals; pad = pad }
