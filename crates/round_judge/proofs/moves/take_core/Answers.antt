use Rattle.std.proofs.Common.{ap, ◌∙◌, List, set}
use Rattle.round_model.specs.declared.state.ModelCore.{ModelCore}
use Rattle.round_model.proofs.States.{set_twice}
use Rattle.round_judge.proofs.moves.take_core.Goals as goal

pub returns-clause-rest : goal.returns-clause-rest
returns-clause-rest c core =
    ap (λ (state : List ModelCore). set state c.args.at core) c.replace.ensures.is ∙ set_twice c.args.state.now c.args.at c.idle.result core
