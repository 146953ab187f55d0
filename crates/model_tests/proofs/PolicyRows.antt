-- The policies of the worked rows are right, and the changed ones aren't.
use Rattle.std.proofs.Common.{◌≡◌, ◌≢◌, ◌≤◌, ◌<◌, ◌+◌, ℕ, pos, false, List, [], ◌∷◌, refl, arith, All, sym, subst, lit<, get_or, zero, suc}
use Rattle.std.proofs.lemmas.Int.{ints}
use Rattle.std.proofs.lemmas.List.Elements.{All-from_recursion, All-nil}
use Rattle.sched_base.specs.declared.task.Task.{Task}
use Rattle.policy_tree.specs.declared.typed.Attr.{Attr}
use Rattle.policy_tree.specs.declared.typed.Put.TheVariants as put
use Rattle.policy_tree.specs.Trees.{CondTree, always}
use Rattle.policy_tree.specs.Meaning.{CaseTree, Meaning}
use Rattle.policy_tree.specs.declared.typed.Event.{Event}
use Rattle.policy_tree.specs.declared.typed.Event.TheVariants as event
use Rattle.policy_eval.specs.declared.env.CoreValues.{CoreValues}
use Rattle.policy_eval.specs.Events.{holding_cases}
use Rattle.policy_eval.specs.Fitting.{CoreFits, IsTask}
use Rattle.policy_eval.specs.Obligations.{MeetsBalanceObligations, MeetsHandlerObligations, MeetsObligations, NoGap, NoOverlap}
use Rattle.policy_eval.specs.Ranges.{AreIn, IsIn, attribute_ranges, greatest_weight, least_weight, range}
use Rattle.policy_eval.specs.Sights.{pair_values, no_attributes}
use Rattle.policy_eval.proofs.Statements.{all_obligations}
use Rattle.round_model.specs.declared.plan.Planned.{Planned}
use Rattle.round_model.specs.Fits.{Fits, OrderFits, ThreadFits}
use Rattle.round_model.specs.Limits.{IsWithinLimits}
use Rattle.model_tests.specs.Plans.{block_and_wake, eight_threads, endless, two_cores}
use Rattle.fair_policy.specs.Fair.{fair_meaning as fair}
use Rattle.model_tests.specs.Policies.{basic}
use Rattle.fair_policy.proofs.FairMeets.{fair_meets}
use Rattle.fair_policy.proofs.FairResolved.{fair_resolved}
use Rattle.model_tests.proofs.ResolvedRows.{basic_resolved}
use Rattle.model_tests.specs.PolicyRows.{PolicyMisses, WorkedPoliciesFit, with_filter}

basic_balance : MeetsBalanceObligations basic
unfolding pair_values
basic_balance = record {
  idle_sees_overloaded = λ own victim fits other idle busy. grind (arith, ints);
  victim_is_overloaded = λ own victim fits other sees. grind (arith, ints);
  move_narrows_gap = λ own victim weight fits other is sees queued.
      let a = fits.loads.light in let b = fits.loads.heavy in let c = other.loads.light in let d = other.loads.heavy in let e = is.least in let f = is.greatest in grind (arith, ints);
  further_move_narrows_gap = tt;
}

basic_no_overlap : (e : Event) → NoOverlap basic e
unfolding holding_cases
basic_no_overlap event.Enqueue fresh consts t held fits = omega arith
basic_no_overlap event.Tick fresh consts t held fits = omega arith
basic_no_overlap event.Yield fresh consts t held fits = omega arith
basic_no_overlap event.Block fresh consts t held fits = omega arith

basic_no_gap : (e : Event) → NoGap basic e
unfolding holding_cases
basic_no_gap event.Enqueue fresh consts t held fits = omega arith
basic_no_gap event.Tick fresh consts t held fits = omega arith
basic_no_gap event.Yield fresh consts t held fits = omega arith
basic_no_gap event.Block fresh consts t held fits = omega arith

pub basic_handlers : MeetsHandlerObligations basic
basic_handlers = record { no_overlap = basic_no_overlap; no_gap = basic_no_gap }

basic_meets : MeetsObligations basic
basic_meets = all_obligations basic basic_balance basic_handlers

-- the constants of a core without attributes
pub zeros_fit : AreIn (attribute_ranges []) no_attributes
zeros_fit = (zero_in, (zero_in, (zero_in, (zero_in, (zero_in, (zero_in, (zero_in, (zero_in, tt))))))))
  where
    zero_in : IsIn (range (pos 0) (pos 0)) (pos 0)
    zero_in = record { above = omega (arith, ints); below = omega (arith, ints) }

-- programs of the worked plans
endless_fits : (cores id : ℕ) → 1 ≤ id → id ≤ 8 → 1 ≤ cores → ThreadFits basic cores (endless id)
endless_fits cores id positive small some = record {
  id_positive = positive;
  id_small = omega arith;
  core = omega arith;
  weight = record { least = omega arith; greatest = omega arith };
  program = (omega arith, omega arith, refl);
  few_bursts = omega arith;
}

-- the threads are numbered by their places
numbered : (k : ℕ) (d : Planned) → k < 8 → (get_or eight_threads.threads k d).id ≡ k + 1
numbered zero d inside = refl
numbered (suc zero) d inside = refl
numbered (suc (suc zero)) d inside = refl
numbered (suc (suc (suc zero))) d inside = refl
numbered (suc (suc (suc (suc zero)))) d inside = refl
numbered (suc (suc (suc (suc (suc zero))))) d inside = refl
numbered (suc (suc (suc (suc (suc (suc zero)))))) d inside = refl
numbered (suc (suc (suc (suc (suc (suc (suc zero))))))) d inside = refl
numbered (suc (suc (suc (suc (suc (suc (suc (suc k)))))))) d inside = absurd (omega arith)

two_numbered : (k : ℕ) (d : Planned) → k < 2 → (get_or two_cores.threads k d).id ≡ k + 1
two_numbered zero d inside = refl
two_numbered (suc zero) d inside = refl
two_numbered (suc (suc k)) d inside = absurd (omega arith)

pub two_cores_fit : Fits basic two_cores
two_cores_fit = record {
  policy = basic_resolved;
  some_cores = omega arith;
  consts_each = refl;
  consts = All-from_recursion (AreIn (attribute_ranges [])) two_cores.consts (zeros_fit, (zeros_fit, tt));
  few_threads = omega arith;
  threads = All-from_recursion (ThreadFits basic 2) two_cores.threads (fit 1 (omega arith) (omega arith), (fit 2 (omega arith) (omega arith), tt));
  distinct = λ i j d below inside same. absurd (omega (arith, two_numbered i d (omega arith), two_numbered j d inside));
  orders = λ k d inside. absurd (omega arith);
  one_order_each = λ i j d below inside. absurd (omega arith);
}
  where
    fit : (id : ℕ) → 1 ≤ id → id ≤ 8 → ThreadFits basic 2 (endless id)
    fit id positive small = endless_fits 2 id positive small (omega arith)

pub two_cores_within : IsWithinLimits two_cores
two_cores_within = record { few_cores = omega arith; few_rounds = omega arith; few_entries = omega arith }

pub eight_threads_fit : Fits basic eight_threads
eight_threads_fit = record {
  policy = basic_resolved;
  some_cores = omega arith;
  consts_each = refl;
  consts = All-from_recursion (AreIn (attribute_ranges [])) eight_threads.consts (zeros_fit, (zeros_fit, (zeros_fit, (zeros_fit, tt))));
  few_threads = omega arith;
  threads = All-from_recursion (ThreadFits basic 4) eight_threads.threads (
    fit 1 (omega arith) (omega arith),
    (
      fit 2 (omega arith) (omega arith),
      (
        fit 3 (omega arith) (omega arith),
        (
          fit 4 (omega arith) (omega arith),
          (fit 5 (omega arith) (omega arith), (fit 6 (omega arith) (omega arith), (fit 7 (omega arith) (omega arith), (fit 8 (omega arith) (omega arith), tt)))),
        ),
      ),
    ),
  );
  distinct = λ i j d below inside same. absurd (omega (arith, numbered i d (omega arith), numbered j d inside));
  orders = All-from_recursion (OrderFits 4) eight_threads.orders (
    record {
      each = All-from_recursion (λ c. c < 4) (1 ∷ 1 ∷ 1 ∷ 2 ∷ 2 ∷ 2 ∷ 3 ∷ 3 ∷ 3 ∷ []) (lit< tt, (lit< tt, (lit< tt, (lit< tt, (lit< tt, (lit< tt, (lit< tt, (lit< tt, (lit< tt, tt)))))))));
    },
    tt,
  );
  one_order_each = λ i j d below inside. absurd (omega arith);
}
  where
    fit : (id : ℕ) → 1 ≤ id → id ≤ 8 → ThreadFits basic 4 (endless id)
    fit id positive small = endless_fits 4 id positive small (omega arith)

block_and_wake_threads : All (ThreadFits fair 2) block_and_wake.threads
block_and_wake_threads = All-from_recursion (ThreadFits fair 2) block_and_wake.threads (
  record {
    id_positive = omega arith;
    id_small = omega arith;
    core = omega arith;
    weight = record { least = omega arith; greatest = omega arith };
    program = (omega arith, omega arith, (omega arith, omega arith), (omega arith, omega arith, tt));
    few_bursts = omega arith;
  },
  (
    record {
      id_positive = omega arith;
      id_small = omega arith;
      core = omega arith;
      weight = record { least = omega arith; greatest = omega arith };
      program = (omega arith, omega arith, refl);
      few_bursts = omega arith;
    },
    tt,
  ),
)

two_apart : (i j : ℕ) (d : Planned) → i < j → j < 2 → (get_or block_and_wake.threads i d).id ≢ (get_or block_and_wake.threads j d).id
two_apart zero zero d below inside same = absurd (omega arith)
two_apart zero (suc zero) d below inside same = absurd (omega arith)
two_apart zero (suc (suc j)) d below inside same = absurd (omega arith)
two_apart (suc i) j d below inside same = absurd (omega arith)

pub block_and_wake_fits : Fits fair block_and_wake
block_and_wake_fits = record {
  policy = fair_resolved;
  some_cores = omega arith;
  consts_each = refl;
  consts = All-from_recursion (AreIn (attribute_ranges [])) block_and_wake.consts (zeros_fit, (zeros_fit, tt));
  few_threads = omega arith;
  threads = block_and_wake_threads;
  distinct = two_apart;
  orders = All-nil _;
  one_order_each = λ i j d below inside. absurd (omega arith);
}

pub worked_policies_fit : WorkedPoliciesFit
worked_policies_fit = record {
  basic_resolved = basic_resolved;
  fair_resolved = fair_resolved;
  basic_meets = basic_meets;
  fair_meets = fair_meets;
  eight_threads_fit = eight_threads_fit;
  block_and_wake_fits = block_and_wake_fits;
}

-- a core with so many threads of weight 1
counted : ℕ → CoreValues
counted nr = record { nr = nr; load = nr; consts = no_attributes }

counted_fits : (nr : ℕ) → nr ≤ 1023 → (filter : CondTree) → CoreFits (with_filter filter) (counted nr)
unfolding counted
counted_fits nr small filter = record { loads = record { few = omega arith; light = omega arith; heavy = omega arith }; consts = zeros_fit }

-- a thread of weight 1
light_task : Task
light_task = record { id = 1; weight = 1; attrs = no_attributes; place = record { burst = 0; done = 0 } }

light_task_fits : (p : Meaning) → least_weight p.load ≡ 1 → greatest_weight p.load ≡ 1 → p.thread_attrs ≡ [] → IsTask p light_task
unfolding light_task
light_task_fits p least greatest none = record {
  weight = record { least = omega (arith, least); greatest = omega (arith, greatest) };
  attrs = subst (λ (attrs : List Attr). AreIn (attribute_ranges attrs) no_attributes) (sym none) zeros_fit;
}

queued_case : CaseTree
queued_case = record { guard = always; sets = []; put = put.Queue }

pub policy_misses : PolicyMisses
unfolding pair_values counted light_task holding_cases
policy_misses = record {
  gap_of_three_misses_a_pair = λ met. absurd (let sees = met (counted 0) (counted 2) (counted_fits 0 (omega arith) _) (counted_fits 2 (omega arith) _) refl (omega arith) in cc);
  gap_of_one_takes_the_last_thread = λ met. absurd (let two = met (counted 0) (counted 1) (counted_fits 0 (omega arith) _) (counted_fits 1 (omega arith) _) refl in omega arith);
  gap_of_one_keeps_the_gap = λ met. absurd (let narrows = met (counted 0) (counted 1) 1 (counted_fits 0 (omega arith) _) (counted_fits 1 (omega arith) _) (record { least = omega arith; greatest = omega arith }) refl (omega arith) in omega arith);
  victim_without_threads_keeps_the_gap = λ met. absurd (let narrows = met (counted 0) (counted 0) 1 (counted_fits 0 (omega arith) _) (counted_fits 0 (omega arith) _) (record { least = omega arith; greatest = omega arith }) refl (omega arith) in omega arith);
  two_cases_overlap = λ met. absurd (let one = met false no_attributes light_task zeros_fit (light_task_fits _ refl refl refl) in omega arith);
  no_case_leaves_a_gap = λ met. absurd (let some = met false no_attributes light_task zeros_fit (light_task_fits _ refl refl refl) in omega arith);
  product_of_variables = λ is. absurd (let scaled = is.filter.sides.0.linear.2 in cc);
  weight_in_a_filter = λ is. absurd (let allowed = is.filter.sides.0.allowed in cc);
  wide_number = λ is. absurd (let small = is.filter.sides.1.linear.below in omega (arith, ints));
  queue_in_a_block = λ is. absurd ((is.handlers event.Block).cases 0 queued_case (omega arith)).put;
  no_cores = λ fits. absurd (let some = fits.some_cores in omega arith);
}
