use Rattle.std.proofs.Common.{ap, option_map, sym, ◌∙◌}
use Rattle.round_model.specs.declared.plan.Planned.{Planned}
use Rattle.turn_steps.specs.States.{entering_by}
use Rattle.turn_steps.proofs.ModelAsks.{behind_all}
use Rattle.turn_steps.proofs.turning.Turning.next_thread.Goals as goal

pub returns-then-self : goal.returns-then-self
returns-then-self c =
    let t = c.args.self.now in
    sym (ap (option_map (λ (p : Planned). p.id)) (behind_all (entering_by c.args.plan.now t.core t.round) t.arrived (c.if-self.true ∙ c.requires.plan)))
