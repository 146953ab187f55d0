-- The steps of the definition of moves.
use Rattle.std.proofs.Common.{◌≡◌, ℕ, ℤ, Bool, cond, List, Some, None, sym, ap, ap₂, ◌∙◌}
use Rattle.sched_base.specs.declared.task.Task.{Task}
use Rattle.policy_tree.specs.Meaning.{BatchTree, Meaning}
use Rattle.policy_eval.specs.declared.env.CoreValues.{CoreValues}
use Rattle.policy_eval.specs.Orders.{best_of}
use Rattle.policy_eval.specs.Sights.{move_values}
use Rattle.policy_eval.specs.Values.{holds}
use Rattle.round_model.specs.declared.plan.Plan.{Plan}
use Rattle.round_model.specs.declared.state.ModelCore.{ModelCore}
use Rattle.round_model.specs.Attempts.{goes_on, kept_if, next_of}
use Rattle.round_model.specs.Cores.{consts_of}
use Rattle.round_model.specs.Work.{before}
use Rattle.batch_moves.specs.Code.Moved.{present_values}

module _ (p : Meaning) (plan : Plan) (a v : ℕ) (b : BatchTree) (thief victim : ModelCore) where
  -- nothing is queued
  pub next-none : best_of (before p.steal) victim.queue ≡ None → next_of p plan a v b thief victim ≡ None
  unfolding next_of
  next-none none = ap (kept_if (goes_on p plan a v b thief victim)) none

  -- the best thread is next where the condition holds of it, and of what is seen of both cores
  pub next-best : (t : Task) → best_of (before p.steal) victim.queue ≡ Some t → (own other : List ℤ) → own ≡ consts_of plan a → other ≡ consts_of plan v
      → (x y : CoreValues) → x ≡ present_values own thief → y ≡ present_values other victim → (goes : Bool) → holds (move_values x y t.weight t.attrs) b.condition ≡ goes
      → next_of p plan a v b thief victim ≡ cond goes (Some t) None
  unfolding next_of
  next-best t best own other own_is other_is x y x_is y_is goes is =
      let asked : CoreValues → CoreValues → Bool = λ x y. holds (move_values x y t.weight t.attrs) b.condition in
      ap (kept_if (goes_on p plan a v b thief victim)) best
      ∙ ap (λ goes. cond goes (Some t) None)
      (sym (ap₂ asked (x_is ∙ ap (λ consts. present_values consts thief) own_is) (y_is ∙ ap (λ consts. present_values consts victim) other_is)) ∙ is)
