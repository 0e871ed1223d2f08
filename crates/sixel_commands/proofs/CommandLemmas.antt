-- Commands built argument by argument.
use Rattle.std.proofs.Common.{◌≡◌, ◌∙◌, ◌||◌, Bool, List, Ok, Option, ℕ, ap, ap₂, false, refl}
use Rattle.std.specs.Borrow.{Bor}
use Rattle.std.specs.Prelude.{Err, IfOk, Result}
use Rattle.clap.specs.Built.{AddsArg, AddsSubcommand}
use Rattle.clap.specs.Simple.{App, app_of, app_of_fields, new_app, with_rule, with_subcommand}
use Rattle.clap.specs.Walk.{Rule, Text, rule_of}
use Rattle.clap.specs.declared.builder.arg.Arg.{Arg}
use Rattle.clap.specs.declared.builder.command.Command.{Command}
use Rattle.clap.specs.declared.builder.command.Command.TheViews.{out-Command as fields_of}

-- the command parses arguments as this one does, and none of its options is global
pub record ReadsAs (a : App) (c : Command) : Type 0 where
  pub app : app_of c ≡ a
  pub local : (fields_of c).has_globals ≡ false

neither : (a b c : Bool) → a ≡ (b || c) → b ≡ false → c ≡ false → a ≡ false
neither a b c e h k = rw (e, h, k) refl

-- a command without arguments
pub named_only : (name : Text) {c : Command} → app_of c ≡ new_app name → (fields_of c).has_globals ≡ false
    → ReadsAs (new_app name) c
named_only name app local = record { app = app; local = local }

-- a new command with its help texts
pub begun : (name : Text) (c d e : Command) (about more : Option (Bor (List ℕ))) → app_of c ≡ new_app name
    → (fields_of c).has_globals ≡ false → fields_of d ≡ record (fields_of c) { about = about }
    → fields_of e ≡ record (fields_of d) { after_help = more } → ReadsAs (new_app name) e
begun name c d e about more app local told helped = record {
  app = ap app_of_fields helped ∙ ap app_of_fields told ∙ app;
  local = ap (λ f. f.has_globals) helped ∙ ap (λ f. f.has_globals) told ∙ local;
}

pub with_arg : {a : App} {rule : Rule} {c r : Command} {arg : Arg} → ReadsAs a c → rule_of arg ≡ rule
    → arg.global ≡ false → AddsArg c arg r → ReadsAs (with_rule a rule) r
with_arg is rules local adds = record {
  app = adds.shape local ∙ ap₂ with_rule is.app rules;
  local = neither _ _ _ adds.globals is.local local;
}

pub with_sub : {a b : App} {c sub r : Command} → app_of c ≡ a → app_of sub ≡ b → (fields_of sub).has_globals ≡ false
    → AddsSubcommand c sub r → app_of r ≡ with_subcommand a b.top
with_sub is told local adds = adds.shape local ∙ ap₂ with_subcommand is (ap (λ (x : App). x.top) told)

pub app_says : {E : Type 0} (a : App) (r : Result Command E) → IfOk r (ReadsAs a) → IfOk r (λ c. app_of c ≡ a)
app_says a (Ok c) is = is.app
app_says a (Err e) is = tt

pub local_says : {E : Type 0} (a : App) (r : Result Command E) → IfOk r (ReadsAs a)
    → IfOk r (λ c. (fields_of c).has_globals ≡ false)
local_says a (Ok c) is = is.local
local_says a (Err e) is = tt
