use Rattle.std.proofs.Common.{ap, ◌∙◌, option_map}
use Rattle.round_model.specs.After.{after}
use Rattle.round_model.specs.Scenes.{waking_next}
use Rattle.core_state.specs.Views.{CoreView}
use Rattle.core_moves.proofs.Shown.{shown_at}
use Rattle.core_moves.proofs.cores.Cores.due.Goals as goal

pub returns : goal.returns
returns c p plan h are there =
    c.due.ensures ∙ ap (λ (y : CoreView). option_map (λ b. b.task.id) (waking_next c.args.round y.core))
    (shown_at p plan h (after p plan h) c.args.self.now are c.args.core c.core.result.now there c.core.ensures)
