-- Cores whose numbers lie in their ranges are in bounds.
use Rattle.std.proofs.Common.{ℕ, suc, ◌*◌, ◌≤◌, List, [], ◌∷◌, ◌++◌, length, sum_by, All, IfSome, Option, Some, None, option_to_list, sym, subst, arith}
use Rattle.std.proofs.lemmas.List.Sums.{sum_by-cons, sum_by-le}
use Rattle.sched_base.specs.declared.limits.TheConstants.{MAX_THREADS}
use Rattle.sched_base.specs.declared.task.Task.{Task}
use Rattle.policy_tree.specs.Meaning.{Meaning}
use Rattle.policy_eval.specs.Fitting.{IsTask}
use Rattle.policy_eval.specs.Ranges.{greatest_weight, least_weight}
use Rattle.round_model.specs.declared.state.ModelCore.{ModelCore}
use Rattle.round_model.specs.Bounds.{CoreInBounds, standing_count}
use Rattle.round_model.specs.Cores.{tasks_of}
use Rattle.round_model.specs.Kept.{Holds}
use Rattle.round_model.proofs.Keeping.{All-append, All-one}

-- a sum has at least so much a term
least_sum : {X : Type 0} (f : X → ℕ) (m : ℕ) (xs : List X) → All (λ x. m ≤ f x) xs → length xs * m ≤ sum_by f xs
least_sum f m [] each = omega arith
least_sum f m (x ∷ xs) each =
    let one : m ≤ f x = each 0 x (omega arith) in
    let rest = least_sum f m xs (λ k d inside. each (suc k) d (omega arith)) in
    subst (λ n. suc (length xs) * m ≤ n) (sym (sum_by-cons f x xs)) (omega arith)

-- a core whose numbers lie in their ranges, and at which few threads stand, is in bounds
pub holds_bounds : (p : Meaning) (core : ModelCore) → Holds p core → standing_count core ≤ MAX_THREADS → CoreInBounds p core
holds_bounds p core holds few =
    let tasks = all_tasks core.current holds.current in
    record {
      loads = record {
        few = omega arith;
        light = least_sum (λ (t : Task). t.weight) (least_weight p.load) (tasks_of core) (λ k d inside. (tasks k d inside).weight.least);
        heavy = sum_by-le (λ (t : Task). t.weight) (greatest_weight p.load) (tasks_of core) (λ k d inside. (tasks k d inside).weight.greatest);
      };
      tasks = tasks;
      blocked = holds.blocked;
      consts = holds.consts;
    }
  where
    all_tasks : (current : Option Task) → IfSome current (IsTask p) → All (IsTask p) (option_to_list current ++ core.queue)
    all_tasks None is = holds.queue
    all_tasks (Some t) is = All-append (IsTask p) (t ∷ []) core.queue (All-one (IsTask p) t is) holds.queue
