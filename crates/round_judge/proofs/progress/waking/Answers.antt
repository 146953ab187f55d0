use Rattle.std.proofs.Common.{ℕ, ap, ap₂, ◌∙◌, find, option_map}
use Rattle.round_model.specs.declared.state.Blocked.{Blocked}
use Rattle.round_model.specs.declared.state.ModelCore.{ModelCore}
use Rattle.round_model.specs.After.{after}
use Rattle.round_model.specs.Scenes.{is_due_blocked, waking_next}
use Rattle.round_model.proofs.States.{listed_at}
use Rattle.round_judge.proofs.progress.waking.Goals as goal

pub returns : goal.returns
unfolding waking_next
returns c p plan history stands there =
    let a = c.args.core in
    let same = listed_at plan.cores (after p plan history) c.args.past.now.state a c.get.result.now stands.state c.get.ensures.item there in
    let id : Blocked → ℕ = λ b. b.task.id in
    c.first_due.ensures ∙ (ap (λ blocked. option_map id (find (is_due_blocked c.args.past.now.rounds) blocked)) c.as_slice.ensures.items
    ∙ ap₂ (λ round (core : ModelCore). option_map id (find (is_due_blocked round) core.blocked)) stands.round same)
