-- What an event keeps of a thread: its number, and that its numbers lie in their ranges.
use Rattle.std.proofs.Common.{◌≡◌, ℕ, ℤ, Bool, List, [], ◌∷◌, fold, map, slice_get, Option, Some, None, refl, ◌∙◌, subst}
use Rattle.sched_base.specs.declared.task.Task.{Task}
use Rattle.policy_tree.specs.declared.typed.Attr.{Attr}
use Rattle.policy_tree.specs.declared.typed.Event.{Event}
use Rattle.policy_tree.specs.declared.typed.Put.{Put}
use Rattle.policy_tree.specs.Meaning.{CaseTree, Meaning, SetTree}
use Rattle.policy_eval.specs.Events.{holding_cases, outcome_of_case, outcomes_of, seen_by_handler, task_after_set, with_attribute}
use Rattle.policy_eval.specs.Fitting.{IsTask}
use Rattle.policy_eval.specs.Resolved.{IsResolved}
use Rattle.policy_eval.specs.Values.{value_of}
use Rattle.policy_eval.proofs.Wide.{IsTask-set}

id-with_attribute : (found : Option Attr) (at : ℕ) (x : ℤ) (t : Task) → (with_attribute found at x t).id ≡ t.id
id-with_attribute None at x t = refl
id-with_attribute (Some a) at x t = refl

id-set : (p : Meaning) (fresh : Bool) (consts : List ℤ) (t : Task) (s : SetTree) → (task_after_set p fresh consts t s).id ≡ t.id
unfolding task_after_set
id-set p fresh consts t s =
    id-with_attribute (slice_get p.thread_attrs s.attr) s.attr (value_of (seen_by_handler fresh consts t) s.expr) t

id-sets : (p : Meaning) (fresh : Bool) (consts : List ℤ) (sets : List SetTree) (t : Task) → (fold (task_after_set p fresh consts) t sets).id ≡ t.id
id-sets p fresh consts [] t = refl
id-sets p fresh consts (s ∷ sets) t = id-sets p fresh consts sets (task_after_set p fresh consts t s) ∙ id-set p fresh consts t s

IsTask-sets : (p : Meaning) → IsResolved p → (fresh : Bool) (consts : List ℤ) (sets : List SetTree) (t : Task) → IsTask p t
    → IsTask p (fold (task_after_set p fresh consts) t sets)
IsTask-sets p is fresh consts [] t fits = fits
IsTask-sets p is fresh consts (s ∷ sets) t fits =
    IsTask-sets p is fresh consts sets (task_after_set p fresh consts t s) (IsTask-set p is fresh consts t s fits)

-- what is said of an outcome of an event that a thread meets
pub record IsKept (p : Meaning) (t : Task) (outcome : Task × Put) : Type 0 where
  pub id : outcome.0.id ≡ t.id
  pub task : IsTask p outcome.0

case_kept : (p : Meaning) → IsResolved p → (fresh : Bool) (consts : List ℤ) (t : Task) → IsTask p t → (c : CaseTree) → IsKept p t (outcome_of_case p fresh consts t c)
case_kept p is fresh consts t fits c = record { id = id-sets p fresh consts c.sets t; task = IsTask-sets p is fresh consts c.sets t fits }

first_case : (p : Meaning) → IsResolved p → (fresh : Bool) (consts : List ℤ) (t : Task) → IsTask p t → (cases : List CaseTree) (outcome : Task × Put)
    → map (outcome_of_case p fresh consts t) cases ≡ outcome ∷ [] → IsKept p t outcome
first_case p is fresh consts t fits [] outcome one = absurd (cc)
first_case p is fresh consts t fits (c ∷ cases) outcome one =
    let same : outcome_of_case p fresh consts t c ≡ outcome = cc in subst (IsKept p t) same (case_kept p is fresh consts t fits c)

-- the one outcome keeps the thread
pub outcome_kept : (p : Meaning) → IsResolved p → (e : Event) (fresh : Bool) (consts : List ℤ) (t : Task) → IsTask p t → (outcome : Task × Put)
    → outcomes_of p e fresh consts t ≡ outcome ∷ [] → IsKept p t outcome
unfolding outcomes_of
outcome_kept p is e fresh consts t fits outcome one = first_case p is fresh consts t fits (holding_cases p e fresh consts t) outcome one
