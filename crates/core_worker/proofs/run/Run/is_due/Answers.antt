use Rattle.std.proofs.Common.{◌∙◌, ◌&&◌, ap₂, nat_lt}
use Rattle.round_model.specs.Legal.{is_due}
use Rattle.round_judge.proofs.Pasts.{list_any-ended}
use Rattle.core_worker.proofs.run.Run.is_due.Goals as goal

pub returns : goal.returns
unfolding is_due
returns c p s at =
    let plan = c.args.plan.now in
    c.is_due_by.ensures ∙ ap₂ (λ rounds left. nat_lt rounds plan.rounds && left) at.round (list_any-ended s.history c.args.self.now.ended plan.threads at.ended)
