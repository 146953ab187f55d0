use Rattle.std.proofs.Common.{ℕ, ◌+◌, ◌++◌, Option, option_to_list, sum_by, sym, ap, ap₂, ◌∙◌}
use Rattle.std.proofs.lemmas.List.Sums.{sum_by-cons}
use Rattle.sched_base.specs.declared.task.Task.{Task}
use Rattle.round_model.specs.Cores.{load_of}
use Rattle.core_state.specs.Views.{CoreView}
use Rattle.core_state.proofs.state.CoreState.load.Goals as goal

pub returns-in-Some : goal.returns-in-Some
returns-in-Some c =
    let weight : Task → ℕ = λ t. t.weight in let queue = c.self.inside.queue.tasks in
    ap₂ (λ (a b : ℕ). a + b) c.from.ensures c.load-in-Some.ensures
    ∙ (sym (sum_by-cons weight c.in-Some.task queue)
    ∙ (ap (λ (current : Option Task). sum_by weight (option_to_list current ++ queue)) (sym c.in-Some.is)
    ∙ ap (λ (v : CoreView). load_of v.core) c.self.view_is))
