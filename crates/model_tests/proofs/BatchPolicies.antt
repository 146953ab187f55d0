-- The policies with a batch are resolved and meet what they owe, and their plans fit them.
use Rattle.std.proofs.Common.{◌≡◌, ◌≤◌, ◌<◌, ◌+◌, ℕ, List, [], refl, arith, get_or, zero, suc}
use Rattle.std.proofs.lemmas.Int.{ints}
use Rattle.std.proofs.lemmas.List.Elements.{All-from_recursion, All-nil}
use Rattle.policy_tree.specs.declared.typed.Event.{Event}
use Rattle.policy_tree.specs.declared.typed.Event.TheVariants as event
use Rattle.policy_tree.specs.Trees.{variable}
use Rattle.policy_tree.specs.Meaning.{Meaning, greatest_first}
use Rattle.policy_eval.specs.Events.{holding_cases}
use Rattle.policy_eval.specs.Obligations.{MeetsBalanceObligations, MeetsHandlerObligations, NoGap, NoOverlap}
use Rattle.policy_eval.specs.Ranges.{AreIn, attribute_ranges, greatest_weight, least_weight}
use Rattle.policy_eval.specs.Resolved.{IsResolved, IsResolvedHandler}
use Rattle.policy_eval.specs.Sights.{move_values, pair_values}
use Rattle.policy_eval.specs.Sites.{choosing, electing, stealing}
use Rattle.policy_eval.proofs.Statements.{all_obligations}
use Rattle.round_model.specs.declared.plan.Planned.{Planned}
use Rattle.round_model.specs.Fits.{Fits, ThreadFits}
use Rattle.round_model.specs.Limits.{IsWithinLimits}
use Rattle.fair_policy.proofs.ResolvedForms.{by_one_key, difference_linear, no_keys, number_linear, plain_case}
use Rattle.model_tests.specs.Plans.{endless, seven_threads, six_threads, six_weights, three_weights, weighing}
use Rattle.model_tests.specs.Policies.{in_batches, weighted}
use Rattle.model_tests.specs.declared.batched.BatchRow.{BatchRow}
use Rattle.model_tests.specs.declared.batched.BatchRow.TheVariants as row
use Rattle.model_tests.specs.BatchRows.{BatchedPoliciesFit}
use Rattle.model_tests.specs.Batched.{plan_in, policy_in}
use Rattle.model_tests.proofs.PolicyRows.{zeros_fit}

batched_handled : (limit : ℕ) (e : Event) → IsResolvedHandler (in_batches limit) e
batched_handled limit event.Enqueue = record { few = omega arith; cases = plain_case (in_batches limit) event.Enqueue _ tt }
batched_handled limit event.Tick = record { few = omega arith; cases = plain_case (in_batches limit) event.Tick _ tt }
batched_handled limit event.Yield = record { few = omega arith; cases = plain_case (in_batches limit) event.Yield _ tt }
batched_handled limit event.Block = record { few = omega arith; cases = plain_case (in_batches limit) event.Block _ tt }

pub batched_resolved : (limit : ℕ) → 1 ≤ limit → limit ≤ 8 → IsResolved (in_batches limit)
batched_resolved limit some few = record {
  load = record { positive = omega arith; ordered = omega arith; small = omega arith };
  core_attrs = record { few = omega arith; each = All-nil _ };
  thread_attrs = record { few = omega arith; each = All-nil _ };
  place = tt;
  elect = no_keys (in_batches limit) electing;
  handlers = batched_handled limit;
  filter = record {
    few = omega arith;
    sides = (
      record { linear = difference_linear 2 0; few = omega arith; allowed = (refl, refl) },
      record { linear = number_linear 2 (omega arith); few = omega arith; allowed = tt },
    );
  };
  choose = no_keys (in_batches limit) choosing;
  steal = no_keys (in_batches limit) stealing;
  batch = record {
    condition = record {
      few = omega arith;
      sides = (
        record { linear = difference_linear 2 0; few = omega arith; allowed = (refl, refl) },
        record { linear = number_linear 2 (omega arith); few = omega arith; allowed = tt },
      );
    };
    some = some;
    few = few;
  };
}

batched_balance : (limit : ℕ) → MeetsBalanceObligations (in_batches limit)
unfolding pair_values move_values
batched_balance limit = record {
  idle_sees_overloaded = λ own victim fits other idle busy. grind (arith, ints);
  victim_is_overloaded = λ own victim fits other sees. grind (arith, ints);
  move_narrows_gap = λ own victim weight fits other is sees queued.
      let a = fits.loads.light in let b = fits.loads.heavy in let c = other.loads.light in let d = other.loads.heavy in let e = is.least in let f = is.greatest in grind (arith, ints);
  further_move_narrows_gap = λ own victim weight attrs fits other is inside holds queued light.
      let a = fits.loads.light in let b = fits.loads.heavy in let c = other.loads.light in let d = other.loads.heavy in let e = is.least in let f = is.greatest in grind (arith, ints);
}

batched_no_overlap : (limit : ℕ) (e : Event) → NoOverlap (in_batches limit) e
unfolding holding_cases
batched_no_overlap limit event.Enqueue fresh consts t held fits = omega arith
batched_no_overlap limit event.Tick fresh consts t held fits = omega arith
batched_no_overlap limit event.Yield fresh consts t held fits = omega arith
batched_no_overlap limit event.Block fresh consts t held fits = omega arith

batched_no_gap : (limit : ℕ) (e : Event) → NoGap (in_batches limit) e
unfolding holding_cases
batched_no_gap limit event.Enqueue fresh consts t held fits = omega arith
batched_no_gap limit event.Tick fresh consts t held fits = omega arith
batched_no_gap limit event.Yield fresh consts t held fits = omega arith
batched_no_gap limit event.Block fresh consts t held fits = omega arith

pub batched_handlers : (limit : ℕ) → MeetsHandlerObligations (in_batches limit)
batched_handlers limit = record { no_overlap = batched_no_overlap limit; no_gap = batched_no_gap limit }

weighted_handled : (limit : ℕ) (e : Event) → IsResolvedHandler (weighted limit) e
weighted_handled limit event.Enqueue = record { few = omega arith; cases = plain_case (weighted limit) event.Enqueue _ tt }
weighted_handled limit event.Tick = record { few = omega arith; cases = plain_case (weighted limit) event.Tick _ tt }
weighted_handled limit event.Yield = record { few = omega arith; cases = plain_case (weighted limit) event.Yield _ tt }
weighted_handled limit event.Block = record { few = omega arith; cases = plain_case (weighted limit) event.Block _ tt }

weighted_resolved : (limit : ℕ) → 1 ≤ limit → limit ≤ 8 → IsResolved (weighted limit)
weighted_resolved limit some few = record {
  load = record { positive = omega arith; ordered = omega arith; small = omega arith };
  core_attrs = record { few = omega arith; each = All-nil _ };
  thread_attrs = record { few = omega arith; each = All-nil _ };
  place = tt;
  elect = no_keys (weighted limit) electing;
  handlers = weighted_handled limit;
  filter = record {
    few = omega arith;
    sides = (
      (
        (record { linear = tt; few = omega arith; allowed = refl }, record { linear = number_linear 0 (omega arith); few = omega arith; allowed = tt }),
        (record { linear = tt; few = omega arith; allowed = refl }, record { linear = number_linear 2 (omega arith); few = omega arith; allowed = tt }),
      ),
      (
        record { linear = difference_linear 3 1; few = omega arith; allowed = (refl, refl) },
        record { linear = number_linear 8 (omega arith); few = omega arith; allowed = tt },
      ),
    );
  };
  choose = by_one_key (weighted limit) choosing (greatest_first (variable 3)) (record { linear = tt; few = omega arith; allowed = refl });
  steal = by_one_key (weighted limit) stealing (greatest_first (variable 4)) (record { linear = tt; few = omega arith; allowed = refl });
  batch = record {
    condition = record {
      few = omega arith;
      sides = (
        record { linear = difference_linear 3 1; few = omega arith; allowed = (refl, refl) },
        record { linear = tt; few = omega arith; allowed = refl },
      );
    };
    some = some;
    few = few;
  };
}

weighted_balance : (limit : ℕ) → MeetsBalanceObligations (weighted limit)
unfolding pair_values move_values
weighted_balance limit = record {
  idle_sees_overloaded = λ own victim fits other idle busy. grind (arith, ints);
  victim_is_overloaded = λ own victim fits other sees. let d = other.loads.heavy in grind (arith, ints);
  move_narrows_gap = λ own victim weight fits other is sees queued.
      let a = fits.loads.light in let b = fits.loads.heavy in let c = other.loads.light in let d = other.loads.heavy in let e = is.least in let f = is.greatest in grind (arith, ints);
  further_move_narrows_gap = λ own victim weight attrs fits other is inside holds queued light. grind (arith, ints);
}

weighted_no_overlap : (limit : ℕ) (e : Event) → NoOverlap (weighted limit) e
unfolding holding_cases
weighted_no_overlap limit event.Enqueue fresh consts t held fits = omega arith
weighted_no_overlap limit event.Tick fresh consts t held fits = omega arith
weighted_no_overlap limit event.Yield fresh consts t held fits = omega arith
weighted_no_overlap limit event.Block fresh consts t held fits = omega arith

weighted_no_gap : (limit : ℕ) (e : Event) → NoGap (weighted limit) e
unfolding holding_cases
weighted_no_gap limit event.Enqueue fresh consts t held fits = omega arith
weighted_no_gap limit event.Tick fresh consts t held fits = omega arith
weighted_no_gap limit event.Yield fresh consts t held fits = omega arith
weighted_no_gap limit event.Block fresh consts t held fits = omega arith

weighted_handlers : (limit : ℕ) → MeetsHandlerObligations (weighted limit)
weighted_handlers limit = record { no_overlap = weighted_no_overlap limit; no_gap = weighted_no_gap limit }

-- a thread without end on the first of two cores fits
lasting_fits : (p : Meaning) (id weight : ℕ) → 1 ≤ id → id ≤ 8 → least_weight p.load ≤ weight → weight ≤ greatest_weight p.load → ThreadFits p 2 (weighing id weight)
lasting_fits p id weight positive small least greatest = record {
  id_positive = positive;
  id_small = omega arith;
  core = omega arith;
  weight = record { least = least; greatest = greatest };
  program = (omega arith, omega arith, refl);
  few_bursts = omega arith;
}

-- threads are numbered by their places
abbrev AreNumbered : List Planned → ℕ → Type 0
AreNumbered threads n = (k : ℕ) (d : Planned) → k < n → (get_or threads k d).id ≡ k + 1

six_alike_numbered : AreNumbered six_threads.threads 6
six_alike_numbered zero d inside = refl
six_alike_numbered (suc zero) d inside = refl
six_alike_numbered (suc (suc zero)) d inside = refl
six_alike_numbered (suc (suc (suc zero))) d inside = refl
six_alike_numbered (suc (suc (suc (suc zero)))) d inside = refl
six_alike_numbered (suc (suc (suc (suc (suc zero))))) d inside = refl
six_alike_numbered (suc (suc (suc (suc (suc (suc k)))))) d inside = absurd (omega arith)

seven_numbered : AreNumbered seven_threads.threads 7
seven_numbered zero d inside = refl
seven_numbered (suc zero) d inside = refl
seven_numbered (suc (suc zero)) d inside = refl
seven_numbered (suc (suc (suc zero))) d inside = refl
seven_numbered (suc (suc (suc (suc zero)))) d inside = refl
seven_numbered (suc (suc (suc (suc (suc zero))))) d inside = refl
seven_numbered (suc (suc (suc (suc (suc (suc zero)))))) d inside = refl
seven_numbered (suc (suc (suc (suc (suc (suc (suc k))))))) d inside = absurd (omega arith)

six_weighed_numbered : AreNumbered six_weights.threads 6
six_weighed_numbered zero d inside = refl
six_weighed_numbered (suc zero) d inside = refl
six_weighed_numbered (suc (suc zero)) d inside = refl
six_weighed_numbered (suc (suc (suc zero))) d inside = refl
six_weighed_numbered (suc (suc (suc (suc zero)))) d inside = refl
six_weighed_numbered (suc (suc (suc (suc (suc zero))))) d inside = refl
six_weighed_numbered (suc (suc (suc (suc (suc (suc k)))))) d inside = absurd (omega arith)

three_numbered : AreNumbered three_weights.threads 3
three_numbered zero d inside = refl
three_numbered (suc zero) d inside = refl
three_numbered (suc (suc zero)) d inside = refl
three_numbered (suc (suc (suc k))) d inside = absurd (omega arith)

six_threads_fit : (limit : ℕ) → 1 ≤ limit → limit ≤ 8 → Fits (in_batches limit) six_threads
six_threads_fit limit some few = record {
  policy = batched_resolved limit some few;
  some_cores = omega arith;
  consts_each = refl;
  consts = All-from_recursion (AreIn (attribute_ranges [])) six_threads.consts (zeros_fit, (zeros_fit, tt));
  few_threads = omega arith;
  threads = All-from_recursion (ThreadFits (in_batches limit) 2) six_threads.threads (
    fit 1 (omega arith) (omega arith),
    (fit 2 (omega arith) (omega arith), (fit 3 (omega arith) (omega arith), (fit 4 (omega arith) (omega arith), (fit 5 (omega arith) (omega arith), (fit 6 (omega arith) (omega arith), tt))))),
  );
  distinct = λ i j d below inside same. absurd (omega (arith, six_alike_numbered i d (omega arith), six_alike_numbered j d inside));
  orders = λ k d inside. absurd (omega arith);
  one_order_each = λ i j d below inside. absurd (omega arith);
}
  where
    fit : (id : ℕ) → 1 ≤ id → id ≤ 8 → ThreadFits (in_batches limit) 2 (weighing id 1)
    fit id positive small = lasting_fits (in_batches limit) id 1 positive small (omega arith) (omega arith)

seven_threads_fit : (limit : ℕ) → 1 ≤ limit → limit ≤ 8 → Fits (in_batches limit) seven_threads
seven_threads_fit limit some few = record {
  policy = batched_resolved limit some few;
  some_cores = omega arith;
  consts_each = refl;
  consts = All-from_recursion (AreIn (attribute_ranges [])) seven_threads.consts (zeros_fit, (zeros_fit, tt));
  few_threads = omega arith;
  threads = All-from_recursion (ThreadFits (in_batches limit) 2) seven_threads.threads (
    fit 1 (omega arith) (omega arith),
    (fit 2 (omega arith) (omega arith), (fit 3 (omega arith) (omega arith), (fit 4 (omega arith) (omega arith), (fit 5 (omega arith) (omega arith), (fit 6 (omega arith) (omega arith), (last, tt)))))),
  );
  distinct = λ i j d below inside same. absurd (omega (arith, seven_numbered i d (omega arith), seven_numbered j d inside));
  orders = λ k d inside. absurd (omega arith);
  one_order_each = λ i j d below inside. absurd (omega arith);
}
  where
    fit : (id : ℕ) → 1 ≤ id → id ≤ 8 → ThreadFits (in_batches limit) 2 (weighing id 1)
    fit id positive small = lasting_fits (in_batches limit) id 1 positive small (omega arith) (omega arith)

    last : ThreadFits (in_batches limit) 2 (record (endless 7) { core = 1 })
    last = record {
      id_positive = omega arith;
      id_small = omega arith;
      core = omega arith;
      weight = record { least = omega arith; greatest = omega arith };
      program = (omega arith, omega arith, refl);
      few_bursts = omega arith;
    }

six_weights_fit : (limit : ℕ) → 1 ≤ limit → limit ≤ 8 → Fits (weighted limit) six_weights
six_weights_fit limit some few = record {
  policy = weighted_resolved limit some few;
  some_cores = omega arith;
  consts_each = refl;
  consts = All-from_recursion (AreIn (attribute_ranges [])) six_weights.consts (zeros_fit, (zeros_fit, tt));
  few_threads = omega arith;
  threads = All-from_recursion (ThreadFits (weighted limit) 2) six_weights.threads (
    fit 1 2 (omega arith) (omega arith) (omega arith) (omega arith),
    (
      fit 2 7 (omega arith) (omega arith) (omega arith) (omega arith),
      (
        fit 3 8 (omega arith) (omega arith) (omega arith) (omega arith),
        (
          fit 4 5 (omega arith) (omega arith) (omega arith) (omega arith),
          (fit 5 3 (omega arith) (omega arith) (omega arith) (omega arith), (fit 6 1 (omega arith) (omega arith) (omega arith) (omega arith), tt)),
        ),
      ),
    ),
  );
  distinct = λ i j d below inside same. absurd (omega (arith, six_weighed_numbered i d (omega arith), six_weighed_numbered j d inside));
  orders = λ k d inside. absurd (omega arith);
  one_order_each = λ i j d below inside. absurd (omega arith);
}
  where
    fit : (id weight : ℕ) → 1 ≤ id → id ≤ 8 → 1 ≤ weight → weight ≤ 8 → ThreadFits (weighted limit) 2 (weighing id weight)
    fit id weight positive small least greatest = lasting_fits (weighted limit) id weight positive small least greatest

three_weights_fit : (limit : ℕ) → 1 ≤ limit → limit ≤ 8 → Fits (weighted limit) three_weights
three_weights_fit limit some few = record {
  policy = weighted_resolved limit some few;
  some_cores = omega arith;
  consts_each = refl;
  consts = All-from_recursion (AreIn (attribute_ranges [])) three_weights.consts (zeros_fit, (zeros_fit, tt));
  few_threads = omega arith;
  threads = All-from_recursion (ThreadFits (weighted limit) 2) three_weights.threads (
    fit 1 8 (omega arith) (omega arith) (omega arith) (omega arith),
    (fit 2 1 (omega arith) (omega arith) (omega arith) (omega arith), (fit 3 1 (omega arith) (omega arith) (omega arith) (omega arith), tt)),
  );
  distinct = λ i j d below inside same. absurd (omega (arith, three_numbered i d (omega arith), three_numbered j d inside));
  orders = λ k d inside. absurd (omega arith);
  one_order_each = λ i j d below inside. absurd (omega arith);
}
  where
    fit : (id weight : ℕ) → 1 ≤ id → id ≤ 8 → 1 ≤ weight → weight ≤ 8 → ThreadFits (weighted limit) 2 (weighing id weight)
    fit id weight positive small least greatest = lasting_fits (weighted limit) id weight positive small least greatest

pub batch_handlers : (row : BatchRow) (limit : ℕ) → MeetsHandlerObligations (policy_in row limit)
batch_handlers row.SixThreads limit = batched_handlers limit
batch_handlers row.SevenThreads limit = batched_handlers limit
batch_handlers row.SixWeights limit = weighted_handlers limit
batch_handlers row.ThreeWeights limit = weighted_handlers limit

pub batch_fits : (row : BatchRow) (limit : ℕ) → 1 ≤ limit → limit ≤ 8 → Fits (policy_in row limit) (plan_in row)
batch_fits row.SixThreads limit some few = six_threads_fit limit some few
batch_fits row.SevenThreads limit some few = seven_threads_fit limit some few
batch_fits row.SixWeights limit some few = six_weights_fit limit some few
batch_fits row.ThreeWeights limit some few = three_weights_fit limit some few

pub batch_within : (row : BatchRow) → IsWithinLimits (plan_in row)
batch_within row.SixThreads = record { few_cores = omega arith; few_rounds = omega arith; few_entries = omega arith }
batch_within row.SevenThreads = record { few_cores = omega arith; few_rounds = omega arith; few_entries = omega arith }
batch_within row.SixWeights = record { few_cores = omega arith; few_rounds = omega arith; few_entries = omega arith }
batch_within row.ThreeWeights = record { few_cores = omega arith; few_rounds = omega arith; few_entries = omega arith }

pub batched_policies_fit : BatchedPoliciesFit
batched_policies_fit = record {
  threads = batched_resolved 8 (omega arith) (omega arith);
  threads_meet = all_obligations (in_batches 8) (batched_balance 8) (batched_handlers 8);
  weights = weighted_resolved 8 (omega arith) (omega arith);
  weights_meet = all_obligations (weighted 8) (weighted_balance 8) (weighted_handlers 8);
}
