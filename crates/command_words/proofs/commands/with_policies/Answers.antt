use Rattle.std.proofs.Common.{◌∙◌, List, ℕ, [], ◌∷◌, ap, codes}
use Rattle.clap.specs.Words.{App, Shape, with_subcommand}
use Rattle.command_words.specs.Program.{command_of}
use Rattle.command_words.proofs.Adding.{one_behind}
use Rattle.command_words.proofs.commands.with_policies.Goals as goal

abbrev on_policies : List ℕ → Shape
on_policies verb = command_of verb (codes "POLICY" ∷ [])

pub returns : goal.returns
returns c =
    one_behind c.with_command-3.result _ _
    (c.in_ok-program-4.ensures
    ∙ ap (λ (app : App). with_subcommand app (command_of (codes "explain") (codes "POLICY" ∷ codes "NAME" ∷ [])))
    (c.in_ok-program-3.ensures ∙ ap (λ (app : App). with_subcommand app (on_policies (codes "draft")))
    (c.in_ok-program-2.ensures ∙ ap (λ (app : App). with_subcommand (with_subcommand
    (with_subcommand app (on_policies (codes "rest"))) (on_policies (codes "waits"))) (on_policies (codes "emit")))
    c.in_ok-program.ensures)))
    (command_of (codes "verify") (codes "POLICY" ∷ codes "CERTS" ∷ [])) c.with_command-3.ensures
