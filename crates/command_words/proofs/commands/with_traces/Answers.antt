use Rattle.std.proofs.Common.{◌∙◌, List, ℕ, [], ◌∷◌, ap, codes}
use Rattle.clap.specs.Words.{App, Shape, with_subcommand}
use Rattle.command_words.specs.Program.{command_of}
use Rattle.command_words.proofs.Adding.{two_behind}
use Rattle.command_words.proofs.commands.with_traces.Goals as goal

abbrev on_traces : List ℕ → Shape
on_traces verb = command_of verb (codes "POLICY" ∷ codes "TRACE" ∷ [])

abbrev on_histories : List ℕ → Shape
on_histories verb = command_of verb (codes "POLICY" ∷ codes "TRACE" ∷ codes "HISTORY" ∷ [])

pub returns : goal.returns
returns c =
    two_behind c.with_two-4.result _ _
    (c.in_ok-program-4.ensures
    ∙ ap (λ (app : App). with_subcommand (with_subcommand app (on_histories (codes "replay"))) (on_histories (codes "report")))
    (c.in_ok-program-3.ensures
    ∙ ap (λ (app : App). with_subcommand app (command_of (codes "crew") (codes "POLICY" ∷ codes "TRACE" ∷ codes "WORKERS" ∷ [])))
    (c.in_ok-program-2.ensures ∙ ap (λ (app : App). with_subcommand (with_subcommand app (on_traces (codes "simulate"))) (on_traces (codes "waste"))) c.in_ok-program.ensures)))
    (on_histories (codes "migrate")) (on_histories (codes "why")) c.with_two-4.ensures
