-- The commands, in the terms of clap's contracts.
use Rattle.std.specs.Prelude.{Bool, false, true, List, [], ◌∷◌, Some, codes, pos, map}
use Rattle.sixel_terminal.specs.Limits.{most_screen_side}
use Rattle.clap.specs.Simple.{App, new_app, new_rule, on_top, with_rule, with_subcommand}
use Rattle.clap.specs.Walk.{Rule, Text}
use Rattle.clap.specs.declared.builder.action.ArgAction.TheVariants.{Append, SetTrue}
use Rattle.clap.specs.declared.builder.value_parser.ValueParser.TheVariants as parser
use Rattle.clap.specs.declared.error.kind.ErrorKind.{ErrorKind}
use Rattle.clap.specs.declared.error.kind.ErrorKind.TheVariants as kind

-- `FILE`, optional
abbrev pub file : Rule
file = new_rule (codes "FILE")

-- `FILE`, any number of times
abbrev pub files : Rule
files = record (new_rule (codes "FILE")) { action = Some Append }

-- a subcommand without options
abbrev pub plain_app : Text → App
plain_app name = with_rule (new_app name) file

-- `--name`, without a value
abbrev pub flag : Text → Rule
flag name = record (new_rule name) { long = Some name; action = Some SetTrue }

-- `--quiet` or `-q`
abbrev pub quiet : Rule
quiet = record (flag (codes "quiet")) { short = Some 113 }

-- `--name N`, a number from 1 to 4,096, with the default `fallback`
abbrev pub side : Text → Text → Rule
side name fallback = record (new_rule name) {
  long = Some name;
  value_names = 1;
  defaults = fallback ∷ [];
  parser = Some (parser.Signed (pos 1) (pos most_screen_side));
}

-- `--on NAME`
abbrev pub on : Rule
on = record (new_rule (codes "on")) { long = Some (codes "on"); value_names = 1 }

-- `--on NAMES`, any number of times
abbrev pub names : Rule
names = record on { action = Some Append }

-- `--ignore RULES`, any number of times
abbrev pub ignore : Rule
ignore = record (new_rule (codes "ignore")) { long = Some (codes "ignore"); value_names = 1; action = Some Append }

-- `--pad COLOUR`
abbrev pub pad : Rule
pad = record (new_rule (codes "pad")) { long = Some (codes "pad"); value_names = 1 }

-- `--background COLOUR`, with the default `fallback`
abbrev pub background : Text → Rule
background fallback = record (new_rule (codes "background")) {
  long = Some (codes "background");
  value_names = 1;
  defaults = fallback ∷ [];
}

-- `render`
abbrev pub render_app : App
render_app =
    with_rule (with_rule (with_rule (new_app (codes "render")) (flag (codes "wide"))) (flag (codes "png"))) file

-- `encode`
abbrev pub encode_app : App
encode_app =
    with_rule (with_rule (with_rule (with_rule (new_app (codes "encode"))
    (flag (codes "wide")))
    names)
    pad)
    file

-- a subcommand that looks for broken rules
abbrev pub checking_app : Text → App
checking_app name =
    with_rule (with_rule (with_rule (with_rule (with_rule (with_rule (with_rule (with_rule (new_app name)
    (flag (codes "wide")))
    names)
    ignore)
    quiet)
    (flag (codes "failed")))
    (flag (codes "json")))
    (flag (codes "explain")))
    files

-- `scan`
abbrev pub scan_app : App
scan_app =
    with_rule (with_rule (with_rule (with_rule (with_rule (new_app (codes "scan"))
    (flag (codes "wide")))
    quiet)
    (flag (codes "eight-bit")))
    (flag (codes "json")))
    files

-- `show`
abbrev pub show_app : App
show_app =
    with_rule (with_rule (with_rule (with_rule (with_rule (with_rule (with_rule (with_rule (with_rule (with_rule
    (with_rule (with_rule (new_app (codes "show"))
    (flag (codes "wide")))
    quiet)
    (flag (codes "showing")))
    (flag (codes "fill")))
    (flag (codes "define-selects")))
    (side (codes "width") (codes "800")))
    (side (codes "height") (codes "480")))
    (flag (codes "box")))
    on)
    (background (codes "100,100,100")))
    (flag (codes "png")))
    file

-- `differ`
abbrev pub differ_app : App
differ_app =
    with_rule (with_rule (with_rule (new_app (codes "differ")) (background (codes "100,100,100")))
    (flag (codes "sheet")))
    files

-- `mend`
abbrev pub mend_app : App
mend_app =
    with_rule (with_rule (with_rule (with_rule (with_rule (with_rule (with_rule (with_rule (new_app (codes "mend"))
    (flag (codes "wide")))
    quiet)
    (background (codes "0,0,0")))
    (flag (codes "showing")))
    (flag (codes "define-selects")))
    names)
    pad)
    file

-- `explain`, with any number of words
abbrev pub explain_app : App
explain_app =
    with_rule (new_app (codes "explain")) (record (new_rule (codes "name")) { action = Some Append; value_names = 1 })

-- `sixel`, with a version, which each subcommand has too, and with a required subcommand; an option may be given again,
-- and its last value counts; of `--on NAMES` and `--ignore RULES` all do
abbrev pub sixel_app : App
sixel_app =
    with_subcommand (with_subcommand (with_subcommand (with_subcommand (with_subcommand (with_subcommand
    (with_subcommand (with_subcommand (with_subcommand (with_subcommand
    (on_top (λ s. record s {
      has_version = true;
      propagate_version = true;
      subcommand_required = true;
      args_override_self = true;
    }) (new_app (codes "sixel")))
    (plain_app (codes "list")).top) (checking_app (codes "check")).top) (checking_app (codes "survey")).top)
    scan_app.top) render_app.top)
    encode_app.top) show_app.top) differ_app.top) mend_app.top) explain_app.top

-- the names of the subcommands
abbrev pub subcommands : List Text
subcommands = map (λ s. s.name) sixel_app.subs

-- the kinds of clap's errors of which we may change the text: a subcommand that there isn't, an argument that isn't
-- expected, and a value that isn't taken
abbrev pub may_get_a_tip : ErrorKind → Bool
may_get_a_tip kind.InvalidSubcommand = true
may_get_a_tip kind.UnknownArgument = true
may_get_a_tip kind.TooManyValues = true
may_get_a_tip kind.ValueValidation = true
may_get_a_tip _ = false
