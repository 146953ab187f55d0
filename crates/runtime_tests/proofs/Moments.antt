-- The moments of the two cores, by computing.
use Rattle.std.proofs.Common.{◌≡◌, ℕ, zero, suc, ◌<◌, ◌++◌, Bool, pos, List, [], ◌∷◌, length, get_or, ◌+◌, refl, sym, ap, ap₂, subst, ◌∙◌, arith, All}
use Rattle.std.proofs.lemmas.Int.{ints}
use Rattle.std.proofs.lemmas.List.Elements.{All-from_recursion, All-nil}
use Rattle.sched_base.specs.declared.task.Task.{Task}
use Rattle.policy_tree.specs.Meaning.{KeyTree, Meaning}
use Rattle.policy_eval.specs.Events.{holding_cases, outcomes_of, task_after_set}
use Rattle.policy_eval.specs.Fitting.{IsTask}
use Rattle.policy_eval.specs.Obligations.{MeetsHandlerObligations}
use Rattle.policy_eval.specs.Ranges.{AreIn, IsIn, attribute_ranges, range}
use Rattle.policy_eval.specs.Sights.{event_values, no_attributes, thread_values}
use Rattle.policy_eval.proofs.Wide.{thread_wide}
use Rattle.run_queue.specs.Tasks.{IsSeenTask}
use Rattle.round_model.specs.declared.plan.Plan.{Plan}
use Rattle.round_model.specs.declared.plan.Planned.{Planned}
use Rattle.round_model.specs.declared.state.ModelCore.{ModelCore}
use Rattle.round_model.specs.Bursts.{HasBurst}
use Rattle.round_model.specs.Cores.{opening_state}
use Rattle.round_model.specs.Fits.{Fits, ThreadFits}
use Rattle.round_model.specs.Moves.{admitted, core_after_event, handed, received, released}
use Rattle.round_model.specs.Work.{core_after_work, worked}
use Rattle.core_state.specs.Views.{CoreView}
use Rattle.model_tests.specs.Policies.{basic}
use Rattle.model_tests.proofs.ResolvedRows.{basic_resolved}
use Rattle.model_tests.proofs.PolicyRows.{basic_handlers}
use Rattle.runtime_tests.specs.Stages.{IsReady, IsSmall, after_unit, at_burst, both_queued, empty, one_blocked, one_blocks, one_woke, two_came, two_left, two_runs}

zeros_fit : AreIn (attribute_ranges []) no_attributes
zeros_fit = (zero_in, (zero_in, (zero_in, (zero_in, (zero_in, (zero_in, (zero_in, (zero_in, tt))))))))
  where
    zero_in : IsIn (range (pos 0) (pos 0)) (pos 0)
    zero_in = record { above = omega (arith, ints); below = omega (arith, ints) }

pub task_fits : (id burst : ℕ) → IsTask basic (at_burst id burst)
task_fits id burst = record { weight = record { least = omega arith; greatest = omega arith }; attrs = zeros_fit }

pub seen_task : (id burst : ℕ) → IsSeenTask (at_burst id burst)
seen_task id burst = thread_wide basic basic_resolved (at_burst id burst) (task_fits id burst)

-- the policy's handlers
pub handlers : (p : Meaning) → p ≡ basic → MeetsHandlerObligations p
handlers p is = subst MeetsHandlerObligations (sym is) basic_handlers

-- a thread that comes is queued
pub comes : (p : Meaning) → p ≡ basic → (fresh : Bool) (t : Task) (y : CoreView)
    → ◌≡◌ {A = CoreView} (record y { core = admitted p fresh t y.core }) (record y { core = record (y.core) { queue = y.core.queue ++ t ∷ [] } })
unfolding core_after_event holding_cases outcomes_of task_after_set event_values
comes p is fresh t y = ap (λ (q : Meaning). let v : CoreView = record y { core = admitted q fresh t y.core } in v) is

-- a core as it is opened
opens : (c : ℕ) → c < 2 → opening_state one_blocks c ≡ empty.core
unfolding opening_state
opens zero less = refl
opens (suc zero) less = refl
opens (suc (suc c)) less = absurd (omega arith)

pub opened_is : (plan : Plan) (order : List KeyTree) (c : ℕ) → plan ≡ one_blocks → order ≡ [] → c < 2
    → ◌≡◌ {A = CoreView} (record { core = opening_state plan c; log = []; order = order; room = length plan.threads; blocked_room = length plan.threads; log_room = plan.limit }) empty
opened_is plan order c same none less =
    ap₂ (λ (r : Plan) (keys : List KeyTree). let v : CoreView = record { core = opening_state r c; log = []; order = keys; room = length r.threads; blocked_room = length r.threads; log_room = r.limit } in v) same none
    ∙ ap (λ (core : ModelCore). let v : CoreView = record { core = core; log = []; order = []; room = 2; blocked_room = 2; log_room = 8192 } in v) (opens c less)

-- the units
pub first_unit : after_unit 1 both_queued ≡ one_blocked
unfolding core_after_event holding_cases outcomes_of task_after_set event_values thread_values worked
first_unit = refl

pub unit_of_two : after_unit 1 two_came ≡ two_runs
unfolding core_after_event holding_cases outcomes_of task_after_set event_values thread_values worked
unit_of_two = refl

pub last_unit : after_unit 2 one_woke ≡ empty
unfolding core_after_event holding_cases outcomes_of task_after_set event_values thread_values worked
last_unit = refl

-- the cores are ready for their units
pub both_ready : IsReady both_queued
both_ready = record {
  order = refl;
  bounds = record {
    loads = record { few = omega arith; light = omega arith; heavy = omega arith };
    tasks = All-from_recursion (IsTask basic) (at_burst 1 0 ∷ at_burst 2 0 ∷ []) (task_fits 1 0, (task_fits 2 0, tt));
    blocked = All-nil _;
    consts = zeros_fit;
  };
  bursts = record {
    current = tt;
    queue = All-from_recursion (HasBurst one_blocks) (at_burst 1 0 ∷ at_burst 2 0 ∷ []) (omega arith, (omega arith, tt));
    blocked = All-nil _;
  };
  room = record { queue = omega arith; blocked = omega arith };
}

pub two_ready : IsReady two_came
two_ready = record {
  order = refl;
  bounds = record {
    loads = record { few = omega arith; light = omega arith; heavy = omega arith };
    tasks = All-from_recursion (IsTask basic) (at_burst 2 0 ∷ []) (task_fits 2 0, tt);
    blocked = All-nil _;
    consts = zeros_fit;
  };
  bursts = record {
    current = tt;
    queue = All-from_recursion (HasBurst one_blocks) (at_burst 2 0 ∷ []) (omega arith, tt);
    blocked = All-nil _;
  };
  room = record { queue = omega arith; blocked = omega arith };
}

pub woke_ready : IsReady one_woke
woke_ready = record {
  order = refl;
  bounds = record {
    loads = record { few = omega arith; light = omega arith; heavy = omega arith };
    tasks = All-from_recursion (IsTask basic) (at_burst 1 1 ∷ []) (task_fits 1 1, tt);
    blocked = All-nil _;
    consts = zeros_fit;
  };
  bursts = record {
    current = tt;
    queue = All-from_recursion (HasBurst one_blocks) (at_burst 1 1 ∷ []) (omega arith, tt);
    blocked = All-nil _;
  };
  room = record { queue = omega arith; blocked = omega arith };
}

-- the plan fits the policy
thread_one_fits : All (ThreadFits basic 2) one_blocks.threads
thread_one_fits = All-from_recursion (ThreadFits basic 2) one_blocks.threads (
  record {
    id_positive = omega arith;
    id_small = omega arith;
    core = omega arith;
    weight = record { least = omega arith; greatest = omega arith };
    program = (omega arith, omega arith, (omega arith, omega arith), (omega arith, omega arith, tt));
    few_bursts = omega arith;
  },
  (
    record {
      id_positive = omega arith;
      id_small = omega arith;
      core = omega arith;
      weight = record { least = omega arith; greatest = omega arith };
      program = (omega arith, omega arith, refl);
      few_bursts = omega arith;
    },
    tt,
  ),
)

two_numbered : (k : ℕ) (d : Planned) → k < 2 → (get_or one_blocks.threads k d).id ≡ k + 1
two_numbered zero d inside = refl
two_numbered (suc zero) d inside = refl
two_numbered (suc (suc k)) d inside = absurd (omega arith)

plan_fits : Fits basic one_blocks
plan_fits = record {
  policy = basic_resolved;
  some_cores = omega arith;
  consts_each = refl;
  consts = All-from_recursion (AreIn (attribute_ranges [])) one_blocks.consts (zeros_fit, (zeros_fit, tt));
  few_threads = omega arith;
  threads = thread_one_fits;
  distinct = λ i j d below inside same. absurd (omega (arith, two_numbered i d (omega arith), two_numbered j d inside));
  orders = All-nil _;
  one_order_each = λ i j d below inside. absurd (omega arith);
}

pub fits : (p : Meaning) (plan : Plan) → p ≡ basic → plan ≡ one_blocks → Fits p plan
fits p plan is same = subst (λ (q : Meaning). Fits q plan) (sym is) (subst (Fits basic) (sym same) plan_fits)

-- what a unit leaves, under the policy and the plan by their values
pub works : (p : Meaning) (plan : Plan) (round : ℕ) (y : CoreView) → p ≡ basic → plan ≡ one_blocks
    → ◌≡◌ {A = CoreView} (record y { core = core_after_work p plan round y.core }) (after_unit round y)
works p plan round y is same = ap₂ (λ (q : Meaning) (r : Plan). let v : CoreView = record y { core = core_after_work q r round y.core } in v) is same

-- the two halves of the steal, and the end of the block
pub two_hands : ◌≡◌ {A = CoreView} (record one_blocked { core = handed 2 one_blocked.core }) two_left
unfolding handed
two_hands = refl

pub two_arrives : ◌≡◌ {A = CoreView} (record empty { core = received (at_burst 2 0) empty.core }) two_came
unfolding received
two_arrives = refl

pub one_released : ◌≡◌ {A = CoreView} (record two_left { core = released 1 two_left.core }) empty
unfolding released
one_released = refl

-- few threads
pub small_both : IsSmall both_queued
small_both = record { nr = omega arith; load = omega arith }

pub small_blocked : IsSmall one_blocked
small_blocked = record { nr = omega arith; load = omega arith }

pub small_two : IsSmall two_came
small_two = record { nr = omega arith; load = omega arith }

pub small_empty : IsSmall empty
small_empty = record { nr = omega arith; load = omega arith }
