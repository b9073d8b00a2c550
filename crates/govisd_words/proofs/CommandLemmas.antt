-- What clap says of a command as it is made.
use Rattle.std.proofs.Common.{◌≡◌, ◌∙◌, ℕ, List, true, false, Some, Result, Ok, Err, IfOk, Bor, ap, ap₂}
use Rattle.clap.specs.Simple.{App, app_of, app_of_fields, with_subcommand}
use Rattle.clap.specs.Built.{AddsSubcommand}
use Rattle.clap.specs.declared.builder.command.Command.{Command}
use Rattle.clap.specs.declared.builder.command.Command.TheViews.{out-Command}

-- its settings
pub with_version : (old new : Command) (text : Bor (List ℕ)) (a : App) → out-Command new ≡ record (out-Command old) { version = Some text } → app_of old ≡ a → app_of new ≡ record a { top = record a.top { has_version = true } }
with_version old new text a is was = ap app_of_fields is ∙ ap (λ (x : App). record x { top = record x.top { has_version = true } }) was

pub with_required : (old new : Command) (a : App) → out-Command new ≡ record (out-Command old) { subcommand_required = true } → app_of old ≡ a → app_of new ≡ record a { top = record a.top { subcommand_required = true } }
with_required old new a is was = ap app_of_fields is ∙ ap (λ (x : App). record x { top = record x.top { subcommand_required = true } }) was

pub without_help : (old new : Command) (a : App) → out-Command new ≡ record (out-Command old) { disable_help_subcommand = true } → app_of old ≡ a → app_of new ≡ record a { top = record a.top { disable_help_subcommand = true } }
without_help old new a is was = ap app_of_fields is ∙ ap (λ (x : App). record x { top = record x.top { disable_help_subcommand = true } }) was

-- one more subcommand
pub added : (old sub new : Command) (a b : App) → app_of old ≡ a → app_of sub ≡ b → (out-Command sub).has_globals ≡ false → AddsSubcommand old sub new → app_of new ≡ with_subcommand a b.top
added old sub new a b was is local adds = adds.shape local ∙ ap₂ (λ (x y : App). with_subcommand x y.top) was is

-- the last one
pub added_last : {E : Type 0} (r : Result Command E) (old sub : Command) (a b : App) → app_of old ≡ a → app_of sub ≡ b → (out-Command sub).has_globals ≡ false → IfOk r (λ new. AddsSubcommand old sub new) → IfOk r (λ new. app_of new ≡ with_subcommand a b.top)
added_last (Ok new) old sub a b was is local adds = added old sub new a b was is local adds
added_last (Err e) old sub a b was is local adds = tt
