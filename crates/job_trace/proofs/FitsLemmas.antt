-- The plan that a trace means fits the policy.
use Rattle.std.proofs.Common.{◌≡◌, ◌≢◌, ℕ, zero, suc, ◌≤◌, List, [], ◌∷◌, ◌++◌, length, map, Option, Some, None, codes, refl, ap, sym, subst, arith, eqb, lit≤}
use Rattle.std.specs.Prelude.{All, AllPairs, filter_map}
use Rattle.std.specs.List.{IsDistinct, cons_option}
use Rattle.std.proofs.lemmas.List.{length-append}
use Rattle.std.proofs.lemmas.List.Elements.{All-from_recursion}
use Rattle.sched_base.specs.declared.limits.TheConstants.{MAX_CORES, MAX_ENTRIES, MAX_ROUNDS, MAX_THREADS}
use Rattle.policy_tree.specs.declared.typed.Attr.{Attr}
use Rattle.policy_tree.specs.declared.typed.Load.{Load}
use Rattle.policy_tree.specs.Meaning.{Meaning}
use Rattle.policy_eval.specs.Ranges.{AreIn, attribute_ranges}
use Rattle.policy_eval.specs.Resolved.{IsResolved}
use Rattle.round_model.specs.declared.plan.OrderLine.{OrderLine}
use Rattle.round_model.specs.declared.plan.Plan.{Plan}
use Rattle.round_model.specs.declared.plan.Planned.{Planned}
use Rattle.round_model.specs.Fits.{Fits, OrderFits, ThreadFits}
use Rattle.round_model.specs.Limits.{IsWithinLimits}
use Rattle.job_trace.specs.declared.trace.TraceLine.{TraceLine}
use Rattle.job_trace.specs.declared.trace.TraceLine.TheVariants.{Cores, Rounds, Entries, Core, Thread, Order}
use Rattle.job_trace.specs.declared.trace.Numbered.{Numbered}
use Rattle.job_trace.specs.Rules.{KeepsRules, MayAllFollow, MayFollow, cores_in, cores_of, gift, gifts_of, ranged}
use Rattle.job_trace.specs.Plans.{SpellsPlan, consts_of, core_consts, entries_in, first_fault, given_or, limit_of, order_of, orders_of, plan_of, rounds_in, rounds_of, thread_of, threads_of}
use Rattle.job_trace.proofs.ConstLemmas.{consts-fit}
use Rattle.job_trace.proofs.NumberLemmas.{apart-pairs, few-threads, id_of, numbers-distinct}
use Rattle.job_trace.proofs.OptionLemmas.{some-same}
use Rattle.job_trace.proofs.RangeLemmas.{first-none, in-range}
use Rattle.job_trace.proofs.ThreadLemmas.{or-none, orders-fit, threads-fit}

-- a trace begins with its cores
record BeginsWithCores (p : Meaning) (n : Numbered) (rest : List Numbered) : Type 0 where
  some : 1 ≤ cores_of (n ∷ rest)
  few : cores_of (n ∷ rest) ≤ MAX_CORES
  threads : threads_of p.load (n ∷ rest) ≡ threads_of p.load rest
  orders : orders_of (n ∷ rest) ≡ orders_of rest
  fits : first_fault p.load p.core_attrs (n ∷ rest) ≡ None → first_fault p.load p.core_attrs rest ≡ None

begins : (p : Meaning) (n : Numbered) (rest : List Numbered) → MayFollow [] n.line → BeginsWithCores p n rest
begins p n rest may = by n.line refl may
  where
    by : (line : TraceLine) → n.line ≡ line → MayFollow [] line → BeginsWithCores p n rest
    by (Cores number) is may =
        let range = in-range number 1 MAX_CORES (first-none (ranged number 1 MAX_CORES) [] may.within).0 in
        record {
          some = subst (λ line. 1 ≤ cores_in line) (sym is) range.above;
          few = subst (λ line. cores_in line ≤ MAX_CORES) (sym is) range.below;
          threads = ap (λ line. cons_option (thread_of p.load line) (threads_of p.load rest)) is;
          orders = ap (λ line. cons_option (order_of line) (orders_of rest)) is;
          fits = λ none. (or-none _ _ none).1;
        }
    by (Rounds number) is may = let kind = may.kind in cc
    by (Entries number) is may = let kind = may.kind in cc
    by (Core given) is may = let kind = may.kind in cc
    by (Thread thread) is may = let kind = may.kind in cc
    by (Order order) is may = let kind = may.kind in cc

second-rounds : (n m : Numbered) (rest : List Numbered) → MayFollow (n ∷ []) m.line → rounds_of (n ∷ m ∷ rest) ≤ MAX_ROUNDS
second-rounds n m rest may = by m.line may
  where
    by : (line : TraceLine) → MayFollow (n ∷ []) line → rounds_in line ≤ MAX_ROUNDS
    by (Cores number) may = omega arith
    by (Rounds number) may = (in-range number 0 MAX_ROUNDS (first-none (ranged number 0 MAX_ROUNDS) [] may.within).0).below
    by (Entries number) may = omega arith
    by (Core given) may = omega arith
    by (Thread thread) may = omega arith
    by (Order order) may = omega arith

limit-fits : (front rest : List Numbered) → MayAllFollow front rest → limit_of rest ≤ MAX_ENTRIES
limit-fits front [] all = lit≤ tt
limit-fits front (n ∷ rest) (spelt, may, all) = by n.line may (limit-fits (front ++ n ∷ []) rest all)
  where
    by : (line : TraceLine) → MayFollow front line → limit_of rest ≤ MAX_ENTRIES → given_or (entries_in line) (limit_of rest) ≤ MAX_ENTRIES
    by (Cores number) may later = later
    by (Rounds number) may later = later
    by (Entries number) may later = (in-range number 0 MAX_ENTRIES (first-none (ranged number 0 MAX_ENTRIES) [] may.within).0).below
    by (Core given) may later = later
    by (Thread thread) may later = later
    by (Order order) may later = later

length-consts : (attrs : List Attr) (trace : List Numbered) (cores : ℕ) → length (consts_of attrs trace cores) ≡ cores
length-consts attrs trace zero = refl
length-consts attrs trace (suc core) =
    let whole = length-append (consts_of attrs trace core) (core_consts attrs trace core ∷ []) in
    omega (arith, whole, length-consts attrs trace core)

-- the number that a thread's line gives, and an order's
thread_number : TraceLine → Option ℕ
thread_number (Cores number) = None
thread_number (Rounds number) = None
thread_number (Entries number) = None
thread_number (Core given) = None
thread_number (Thread thread) = Some thread.id
thread_number (Order order) = None

order_number : TraceLine → Option ℕ
order_number (Cores number) = None
order_number (Rounds number) = None
order_number (Entries number) = None
order_number (Core given) = None
order_number (Thread thread) = None
order_number (Order order) = Some order.round

abbrev round_of : OrderLine → ℕ
round_of o = o.round

thread-gives : (line : TraceLine) (number : ℕ) → thread_number line ≡ Some number → gifts_of line ≡ gift (codes "thread") number [] ∷ []
unfolding thread_number
thread-gives (Cores n) number e = cc
thread-gives (Rounds n) number e = cc
thread-gives (Entries n) number e = cc
thread-gives (Core given) number e = cc
thread-gives (Thread thread) number e = ap (λ k. gift (codes "thread") k [] ∷ []) (some-same e)
thread-gives (Order order) number e = cc

order-gives : (line : TraceLine) (number : ℕ) → order_number line ≡ Some number → gifts_of line ≡ gift (codes "order") number [] ∷ []
unfolding order_number
order-gives (Cores n) number e = cc
order-gives (Rounds n) number e = cc
order-gives (Entries n) number e = cc
order-gives (Core given) number e = cc
order-gives (Thread thread) number e = cc
order-gives (Order order) number e = ap (λ k. gift (codes "order") k [] ∷ []) (some-same e)

thread-numbers : (l : Load) (rest : List Numbered) → filter_map (λ (n : Numbered). thread_number n.line) rest ≡ map id_of (threads_of l rest)
unfolding thread_number
thread-numbers l [] = refl
thread-numbers l (n ∷ rest) = by n.line (thread-numbers l rest)
  where
    by : (line : TraceLine) → filter_map (λ (n : Numbered). thread_number n.line) rest ≡ map id_of (threads_of l rest) →
        cons_option (thread_number line) (filter_map (λ (n : Numbered). thread_number n.line) rest) ≡ map id_of (cons_option (thread_of l line) (threads_of l rest))
    by (Cores n) e = e
    by (Rounds n) e = e
    by (Entries n) e = e
    by (Core given) e = e
    by (Thread thread) e = ap (λ ks. thread.id ∷ ks) e
    by (Order order) e = e

order-numbers : (rest : List Numbered) → filter_map (λ (n : Numbered). order_number n.line) rest ≡ map round_of (orders_of rest)
unfolding order_number
order-numbers [] = refl
order-numbers (n ∷ rest) = by n.line (order-numbers rest)
  where
    by : (line : TraceLine) → filter_map (λ (n : Numbered). order_number n.line) rest ≡ map round_of (orders_of rest) →
        cons_option (order_number line) (filter_map (λ (n : Numbered). order_number n.line) rest) ≡ map round_of (cons_option (order_of line) (orders_of rest))
    by (Cores n) e = e
    by (Rounds n) e = e
    by (Entries n) e = e
    by (Core given) e = e
    by (Thread thread) e = e
    by (Order order) e = ap (λ ks. order.round ∷ ks) e

threads-distinct : (l : Load) (front rest : List Numbered) → MayAllFollow front rest → IsDistinct eqb (map id_of (threads_of l rest))
threads-distinct l front rest all =
    subst (IsDistinct eqb) (thread-numbers l rest) (numbers-distinct (codes "thread") thread_number thread-gives front rest all)

orders-distinct : (front rest : List Numbered) → MayAllFollow front rest → IsDistinct eqb (map round_of (orders_of rest))
orders-distinct front rest all =
    subst (IsDistinct eqb) (order-numbers rest) (numbers-distinct (codes "order") order_number order-gives front rest all)

plan_of-fits : (p : Meaning) (n m : Numbered) (rest : List Numbered) → IsResolved p → MayAllFollow [] (n ∷ m ∷ rest) →
    first_fault p.load p.core_attrs (n ∷ m ∷ rest) ≡ None → Fits p (plan_of p (n ∷ m ∷ rest))
plan_of-fits p n m rest resolved (spelt, may, all) allowed =
    let trace : List Numbered = n ∷ m ∷ rest in
    let first = begins p n (m ∷ rest) may in
    let cores : ℕ = cores_of trace in
    let fit = threads-fit p (n ∷ []) (m ∷ rest) cores first.some refl (omega arith) all (first.fits allowed) in
    let apart = threads-distinct p.load (n ∷ []) (m ∷ rest) all in
    let orders = orders-fit (n ∷ []) (m ∷ rest) cores first.some refl (omega arith) all in
    let rounds = orders-distinct (n ∷ []) (m ∷ rest) all in
    let same = sym first.threads in
    let same_orders = sym first.orders in
    record {
      policy = resolved;
      some_cores = first.some;
      consts_each = length-consts p.core_attrs trace cores;
      consts = All-from_recursion (AreIn (attribute_ranges p.core_attrs)) (consts_of p.core_attrs trace cores) (consts-fit p.load p.core_attrs trace cores resolved.core_attrs allowed);
      few_threads = subst (λ ts. length ts ≤ MAX_THREADS) same (few-threads p cores (threads_of p.load (m ∷ rest)) fit apart);
      threads = subst (λ ts. All (ThreadFits p cores) ts) same (All-from_recursion (ThreadFits p cores) (threads_of p.load (m ∷ rest)) fit);
      distinct = subst (λ ts. AllPairs (λ (t u : Planned). t.id ≢ u.id) ts) same (apart-pairs id_of (threads_of p.load (m ∷ rest)) apart);
      orders = subst (λ os. All (OrderFits cores) os) same_orders (All-from_recursion (OrderFits cores) (orders_of (m ∷ rest)) orders);
      one_order_each = subst (λ os. AllPairs (λ (l k : OrderLine). l.round ≢ k.round) os) same_orders (apart-pairs round_of (orders_of (m ∷ rest)) rounds);
    }

pub plan-fits : (p : Meaning) (trace : List Numbered) (plan : Plan) → IsResolved p → KeepsRules trace → SpellsPlan p trace plan → Fits p plan
plan-fits p [] plan resolved keeps spells = absurd (omega (arith, keeps.whole))
plan-fits p (n ∷ []) plan resolved keeps spells = absurd (omega (arith, keeps.whole))
plan-fits p (n ∷ m ∷ rest) plan resolved keeps spells =
    subst (λ q. Fits p q) (sym spells.is) (plan_of-fits p n m rest resolved keeps.each spells.fits)

-- a trace keeps within the limits, whatever the policy
plan_of-within : (p : Meaning) (n m : Numbered) (rest : List Numbered) → MayAllFollow [] (n ∷ m ∷ rest) → IsWithinLimits (plan_of p (n ∷ m ∷ rest))
plan_of-within p n m rest (spelt, may, all) = record {
  few_cores = (begins p n (m ∷ rest) may).few;
  few_rounds = second-rounds n m rest all.1;
  few_entries = limit-fits [] (n ∷ m ∷ rest) (spelt, may, all);
}

pub plan-within : (p : Meaning) (trace : List Numbered) (plan : Plan) → KeepsRules trace → SpellsPlan p trace plan → IsWithinLimits plan
plan-within p [] plan keeps spells = absurd (omega (arith, keeps.whole))
plan-within p (n ∷ []) plan keeps spells = absurd (omega (arith, keeps.whole))
plan-within p (n ∷ m ∷ rest) plan keeps spells = subst IsWithinLimits (sym spells.is) (plan_of-within p n m rest keeps.each)
