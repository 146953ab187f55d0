-- What stands behind commands that were added.
use Rattle.std.proofs.Common.{◌≡◌, Result, IfOk, subst}
use Rattle.clap.specs.Words.{App, Shape, app_of, with_subcommand}
use Rattle.clap.specs.declared.builder.command.Command.{Command}

module _ {E : Type 0} (r : Result Command E) (from to : App) (same : from ≡ to) where
  -- one command behind those of another program is one behind those of the same
  pub one_behind : (s : Shape) → IfOk r (λ made. app_of made ≡ with_subcommand from s) → IfOk r (λ made. app_of made ≡ with_subcommand to s)
  one_behind s is = subst (λ (app : App). IfOk r (λ made. app_of made ≡ with_subcommand app s)) same is

  -- and so are two
  pub two_behind : (s t : Shape) → IfOk r (λ made. app_of made ≡ with_subcommand (with_subcommand from s) t)
      → IfOk r (λ made. app_of made ≡ with_subcommand (with_subcommand to s) t)
  two_behind s t is = subst (λ (app : App). IfOk r (λ made. app_of made ≡ with_subcommand (with_subcommand app s) t)) same is
