-- The threads and the orders of a trace fit the policy.
use Rattle.std.proofs.Common.{◌≡◌, ℕ, ◌+◌, ◌-◌, ◌≤◌, ◌<◌, Bool, true, false, cond, List, [], ◌∷◌, ◌++◌, length, Option, Some, None, refl, subst, arith}
use Rattle.std.specs.List.{AllByRecursion, cons_option}
use Rattle.std.specs.Option.{option_or}
use Rattle.std.proofs.lemmas.Bool.Decides.{nat_tests}
use Rattle.std.proofs.lemmas.List.Elements.{All-from_recursion}
use Rattle.sched_base.specs.declared.limits.TheConstants.{MAX_BLOCK_ROUNDS, MAX_BURSTS, MAX_ORDER_CORES, MAX_ROUNDS, MAX_THREADS, MAX_UNITS, MAX_WEIGHT}
use Rattle.policy_tree.specs.declared.typed.Load.{Load}
use Rattle.policy_tree.specs.declared.typed.Load.TheVariants as load
use Rattle.policy_tree.specs.Meaning.{Meaning}
use Rattle.policy_eval.specs.Fitting.{IsWeight}
use Rattle.policy_eval.specs.Ranges.{greatest_weight, least_weight}
use Rattle.round_model.specs.declared.plan.Burst.{Burst}
use Rattle.round_model.specs.declared.plan.Ending.TheVariants as ending
use Rattle.round_model.specs.declared.plan.OrderLine.{OrderLine}
use Rattle.round_model.specs.declared.plan.Planned.{Planned}
use Rattle.round_model.specs.Fits.{IsMiddle, IsProgram, OrderFits, ThreadFits}
use Rattle.job_trace.specs.declared.plan_fault.PlanFault.TheVariants.{WeightRange}
use Rattle.job_trace.specs.declared.trace.TraceLine.{TraceLine}
use Rattle.job_trace.specs.declared.trace.TraceLine.TheVariants.{Cores, Rounds, Entries, Core, Thread, Order}
use Rattle.job_trace.specs.declared.trace.Numbered.{Numbered}
use Rattle.job_trace.specs.Forms.{SpellsProgram, order_line, run_block, run_end, run_forever, run_yield, thread_line}
use Rattle.job_trace.specs.Rules.{HasSpelling, Measure, MayAllFollow, MayFollow, burst_measures, cores_of, first_passed, order_measures, ranged}
use Rattle.job_trace.specs.Plans.{counted_weight, first_fault, is_foreign, line_fault, order_of, orders_of, thread_of, threads_of, weighed, weight_fault}
use Rattle.job_trace.proofs.RangeLemmas.{first-none, in-range}

program-more : (b : Burst) (rest : List Burst) → 1 ≤ b.units → b.units ≤ MAX_UNITS → IsMiddle b.ending → IsProgram rest → IsProgram (b ∷ rest)
program-more b [] some few middle program = absurd program
program-more b (c ∷ rest) some few middle program = (some, few, middle, program)

-- the bursts of a program in their ranges, counted from that one on
record ProgramFits (count : ℕ) (bursts : List Burst) : Type 0 where
  program : IsProgram bursts
  few : count + length bursts ≤ MAX_BURSTS + 1

program-fits : (words : List (List ℕ)) (bursts : List Burst) (count : ℕ) → SpellsProgram words bursts →
    first_passed (burst_measures count bursts) ≡ None → ProgramFits count bursts
program-fits words bursts count (run_end n {units = units} spells) inside =
    let at_count = first-none (ranged count 1 MAX_BURSTS) (ranged units 1 MAX_UNITS ∷ []) inside in
    let counted = in-range count 1 MAX_BURSTS at_count.0 in
    let range = in-range units 1 MAX_UNITS (first-none (ranged units 1 MAX_UNITS) [] at_count.1).0 in
    record { program = (range.above, range.below, tt); few = omega (arith, counted.below) }
program-fits words bursts count run_forever inside =
    let at_count = first-none (ranged count 1 MAX_BURSTS) (ranged 1 1 MAX_UNITS ∷ []) inside in
    let counted = in-range count 1 MAX_BURSTS at_count.0 in
    record { program = (omega arith, omega arith, refl); few = omega (arith, counted.below) }
program-fits words bursts count (run_yield n {units = units} rest {bursts = later} spells more) inside =
    let measures : List Measure = burst_measures (count + 1) later in
    let at_count = first-none (ranged count 1 MAX_BURSTS) (ranged units 1 MAX_UNITS ∷ measures) inside in
    let at_units = first-none (ranged units 1 MAX_UNITS) measures at_count.1 in
    let range = in-range units 1 MAX_UNITS at_units.0 in
    let fits = program-fits rest later (count + 1) more at_units.1 in
    let program = fits.program in
    let few = fits.few in
    record {
      program = program-more (record { units = units; ending = ending.Yield }) later range.above range.below tt program;
      few = omega (arith, few);
    }
program-fits words bursts count (run_block n k {units = units} {rounds = rounds} rest {bursts = later} spells rounds_is more) inside =
    let measures : List Measure = burst_measures (count + 1) later in
    let blocking : List Measure = ranged rounds 1 MAX_BLOCK_ROUNDS ∷ measures in
    let at_count = first-none (ranged count 1 MAX_BURSTS) (ranged units 1 MAX_UNITS ∷ blocking) inside in
    let at_units = first-none (ranged units 1 MAX_UNITS) blocking at_count.1 in
    let at_rounds = first-none (ranged rounds 1 MAX_BLOCK_ROUNDS) measures at_units.1 in
    let range = in-range units 1 MAX_UNITS at_units.0 in
    let block = in-range rounds 1 MAX_BLOCK_ROUNDS at_rounds.0 in
    let fits = program-fits rest later (count + 1) more at_rounds.1 in
    let program = fits.program in
    let few = fits.few in
    record {
      program = program-more (record { units = units; ending = ending.Block rounds }) later range.above range.below (block.above, block.below) program;
      few = omega (arith, few);
    }

-- the weight that counts is one that the policy's threads may have
weight-fits : (p : Meaning) (weight : ℕ) → is_foreign p.load weight ≡ false → IsWeight p (counted_weight p.load weight)
weight-fits p weight e = record { least = least p.load weight e; greatest = greatest p.load weight e }
  where
    least : (l : Load) (weight : ℕ) → is_foreign l weight ≡ false → least_weight l ≤ counted_weight l weight
    least load.Count weight e = omega arith
    least (load.Weight lo hi) weight e = grind (arith, nat_tests)

    greatest : (l : Load) (weight : ℕ) → is_foreign l weight ≡ false → counted_weight l weight ≤ greatest_weight l
    greatest load.Count weight e = omega arith
    greatest (load.Weight lo hi) weight e = grind (arith, nat_tests)

-- a thread's line that follows others of so many cores
thread-fits : (p : Meaning) (front : List Numbered) (t : Planned) → 1 ≤ cores_of front → HasSpelling (Thread t) →
    MayFollow front (Thread t) → is_foreign p.load t.weight ≡ false → ThreadFits p (cores_of front) (weighed p.load t)
thread-fits p front t some (words, thread_line d c r w program {id = id} {core = core} {round = round} {weight = weight} {bursts = bursts} id_is core_is round_is weighs runs) may allowed =
    let units : List Measure = burst_measures 1 bursts in
    let weight_m : List Measure = ranged weight 1 MAX_WEIGHT ∷ units in
    let round_m : List Measure = ranged round 1 MAX_ROUNDS ∷ weight_m in
    let core_m : List Measure = ranged core 0 (cores_of front - 1) ∷ round_m in
    let at_id = first-none (ranged id 1 MAX_THREADS) core_m may.within in
    let at_core = first-none (ranged core 0 (cores_of front - 1)) round_m at_id.1 in
    let at_round = first-none (ranged round 1 MAX_ROUNDS) weight_m at_core.1 in
    let at_weight = first-none (ranged weight 1 MAX_WEIGHT) units at_round.1 in
    let id_range = in-range id 1 MAX_THREADS at_id.0 in
    let core_range = in-range core 0 (cores_of front - 1) at_core.0 in
    let fits = program-fits program bursts 1 runs at_weight.1 in
    let few = fits.few in
    record {
      id_positive = id_range.above;
      id_small = id_range.below;
      core = omega (arith, core_range.below);
      weight = weight-fits p weight allowed;
      program = fits.program;
      few_bursts = omega (arith, few);
    }

pub or-none : {X : Type 0} (a b : Option X) → option_or a b ≡ None → (a ≡ None) × (b ≡ None)
or-none None b e = (refl, e)
or-none (Some x) b e = cc

weight-allowed : (l : Load) (number weight : ℕ) → weight_fault l number weight ≡ None → is_foreign l weight ≡ false
weight-allowed l number weight e = by (is_foreign l weight) e
  where
    by : (b : Bool) → cond b (Some (WeightRange number)) None ≡ None → b ≡ false
    by true e = cc
    by false e = refl

-- the threads of lines that follow others of so many cores
pub threads-fit : (p : Meaning) (front rest : List Numbered) (cores : ℕ) → 1 ≤ cores → cores_of front ≡ cores → 1 ≤ length front →
    MayAllFollow front rest → first_fault p.load p.core_attrs rest ≡ None → AllByRecursion (ThreadFits p cores) (threads_of p.load rest)
threads-fit p front [] cores some is long all allowed = tt
threads-fit p [] (n ∷ rest) cores some is long all allowed = absurd (omega (arith, long))
threads-fit p (f ∷ front) (n ∷ rest) cores some is long (spelt, may, all) allowed =
    let parts = or-none (line_fault p.load p.core_attrs n.number n.line) (first_fault p.load p.core_attrs rest) allowed in
    by n.line refl parts.0 spelt may (threads-fit p ((f ∷ front) ++ n ∷ []) rest cores some is (omega arith) all parts.1)
  where
    by : (line : TraceLine) → n.line ≡ line → line_fault p.load p.core_attrs n.number line ≡ None → HasSpelling line → MayFollow (f ∷ front) line →
        AllByRecursion (ThreadFits p cores) (threads_of p.load rest) →
        AllByRecursion (ThreadFits p cores) (cons_option (thread_of p.load line) (threads_of p.load rest))
    by (Cores number) same e spelt may later = later
    by (Rounds number) same e spelt may later = later
    by (Entries number) same e spelt may later = later
    by (Core given) same e spelt may later = later
    by (Order order) same e spelt may later = later
    by (Thread t) same e spelt may later = (
      subst (λ m. ThreadFits p m (weighed p.load t)) is
          (thread-fits p (f ∷ front) t (omega arith) spelt may (weight-allowed p.load n.number t.weight e)),
      later,
    )

-- the cores of an order in their range
cores-fit : (last count : ℕ) (cores : List ℕ) → first_passed (order_measures last count cores) ≡ None → AllByRecursion (λ c. c ≤ last) cores
cores-fit last count [] inside = tt
cores-fit last count (core ∷ rest) inside =
    let measures : List Measure = order_measures last (count + 1) rest in
    let at_count = first-none (ranged count 1 MAX_ORDER_CORES) (ranged core 0 last ∷ measures) inside in
    let at_core = first-none (ranged core 0 last) measures at_count.1 in
    let range = in-range core 0 last at_core.0 in
    (range.below, cores-fit last (count + 1) rest at_core.1)

below-cores : (cores : ℕ) (xs : List ℕ) → 1 ≤ cores → AllByRecursion (λ c. c ≤ cores - 1) xs → AllByRecursion (λ c. c < cores) xs
below-cores cores [] some each = tt
below-cores cores (x ∷ xs) some (first, each) = (omega (arith, first, some), below-cores cores xs some each)

order-fits : (front : List Numbered) (o : OrderLine) → 1 ≤ cores_of front → HasSpelling (Order o) → MayFollow front (Order o) → OrderFits (cores_of front) o
order-fits front o some (words, order_line r first rest {round = round} {cores = cores} round_is given) may =
    let last : ℕ = cores_of front - 1 in
    let at_round = first-none (ranged round 1 MAX_ROUNDS) (order_measures last 1 cores) may.within in
    let fit = cores-fit last 1 cores at_round.1 in
    record {
      each = All-from_recursion (λ c. c < cores_of front) cores (below-cores (cores_of front) cores some fit);
    }

-- the orders of lines that follow others of so many cores
pub orders-fit : (front rest : List Numbered) (cores : ℕ) → 1 ≤ cores → cores_of front ≡ cores → 1 ≤ length front →
    MayAllFollow front rest → AllByRecursion (OrderFits cores) (orders_of rest)
orders-fit front [] cores some is long all = tt
orders-fit [] (n ∷ rest) cores some is long all = absurd (omega (arith, long))
orders-fit (f ∷ front) (n ∷ rest) cores some is long (spelt, may, all) =
    by n.line spelt may (orders-fit ((f ∷ front) ++ n ∷ []) rest cores some is (omega arith) all)
  where
    by : (line : TraceLine) → HasSpelling line → MayFollow (f ∷ front) line → AllByRecursion (OrderFits cores) (orders_of rest) →
        AllByRecursion (OrderFits cores) (cons_option (order_of line) (orders_of rest))
    by (Cores number) spelt may later = later
    by (Rounds number) spelt may later = later
    by (Entries number) spelt may later = later
    by (Core given) spelt may later = later
    by (Thread t) spelt may later = later
    by (Order o) spelt may later = (subst (λ m. OrderFits m o) is (order-fits (f ∷ front) o (omega arith) spelt may), later)
