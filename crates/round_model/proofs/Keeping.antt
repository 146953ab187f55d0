-- What changes of cores keep: numbers in their ranges, and how many threads stand.
use Rattle.std.proofs.Common.{◌≡◌, ◌≢◌, ℕ, zero, suc, ◌+◌, ◌-◌, ◌<◌, ◌≤◌, pos, Bool, true, false, cond, eqb, List, [], ◌∷◌, ◌++◌, map, find, take, replicate, set, length, get_or, slice_get, option_to_list, All, IfSome, IsSome, Option, Some, None, refl, ap, subst, arith}
use Rattle.std.proofs.lemmas.Bool.Decides.{nat_tests}
use Rattle.std.proofs.lemmas.Int.{ints}
use Rattle.std.proofs.lemmas.List.{length-append}
use Rattle.sched_base.specs.declared.limits.TheConstants.{MAX_ATTRIBUTES}
use Rattle.sched_base.specs.declared.task.Task.{Task}
use Rattle.policy_tree.specs.declared.typed.Attr.{Attr}
use Rattle.policy_tree.specs.declared.typed.Put.{Put}
use Rattle.policy_tree.specs.declared.typed.Put.TheVariants as put
use Rattle.policy_tree.specs.Meaning.{Meaning}
use Rattle.policy_eval.specs.Fitting.{IsTask}
use Rattle.policy_eval.specs.Ranges.{AreIn, declared_range, range}
use Rattle.policy_eval.specs.Resolved.{IsAttribute}
use Rattle.round_model.specs.declared.plan.Plan.{Plan}
use Rattle.round_model.specs.declared.plan.Planned.{Planned}
use Rattle.round_model.specs.declared.state.Blocked.{Blocked}
use Rattle.round_model.specs.declared.state.ModelCore.{ModelCore}
use Rattle.round_model.specs.Bounds.{CoreInBounds, standing_count}
use Rattle.round_model.specs.Cores.{Cores}
use Rattle.round_model.specs.Fits.{Fits, ThreadFits}
use Rattle.round_model.specs.Kept.{Holds, IsKept}
use Rattle.round_model.specs.Moves.{blocked_of, handed, is_blocked_task, is_task, queued_of, released, with_task, without_first}
use Rattle.round_model.specs.Updates.{updated}
use Rattle.round_model.specs.Programs.{entering_task, planned_of, start_of}
use Rattle.round_model.proofs.Directories.{is_thread}
use Rattle.round_model.proofs.Finding.{find-All}

-- one value more of those that come from a list, before the ones that are left
pub fill_step : {X Y : Type 0} (f : X → Y) (z : Y) (xs : List X) (at k : ℕ) (x : X) → slice_get xs at ≡ Some x
    → set (map f (take at xs) ++ replicate (suc k) z) at (f x) ≡ map f (take (suc at) xs) ++ replicate k z
fill_step f z [] at k x is = absurd (cc)
fill_step f z (y ∷ ys) zero k x is = let same : x ≡ y = cc in ap (λ (v : _). f v ∷ replicate k z) same
fill_step f z (y ∷ ys) (suc at) k x is = ap (λ (rest : List _). f y ∷ rest) (fill_step f z ys at k x is)

zeros_in : (n : ℕ) → AreIn (replicate n (range (pos 0) (pos 0))) (replicate n (pos 0))
zeros_in zero = tt
zeros_in (suc n) = (record { above = omega (arith, ints); below = omega (arith, ints) }, zeros_in n)

starts_in : (n : ℕ) (attrs : List Attr) → All IsAttribute attrs → AreIn (map declared_range attrs ++ replicate n (range (pos 0) (pos 0))) (map start_of attrs ++ replicate n (pos 0))
starts_in n [] each = zeros_in n
starts_in n (a ∷ attrs) each =
    let is = each 0 a (omega arith) in let low = is.from_low in let high = is.to_high in
    (record { above = omega (arith, ints); below = omega (arith, ints) }, starts_in n attrs (λ k d inside. each (suc k) d (omega arith)))

-- a thread of the plan enters within the policy's ranges
pub entering_fits : (p : Meaning) (plan : Plan) → Fits p plan → (id : ℕ) (t : Planned) → planned_of plan id ≡ Some t → IsTask p (entering_task p t)
entering_fits p plan fits id t is =
    let thread = subst (λ (o : Option Planned). IfSome o (ThreadFits p plan.cores)) is (find-All (is_thread id) (ThreadFits p plan.cores) plan.threads fits.threads) in
    record { weight = thread.weight; attrs = starts_in (MAX_ATTRIBUTES - length p.thread_attrs) p.thread_attrs fits.policy.thread_attrs.each }

-- what holds of each of two lists holds of both together, and back
pub All-append : {X : Type 0} (P : X → Type 0) (xs ys : List X) → All P xs → All P ys → All P (xs ++ ys)
All-append P [] ys first second k d inside = second k d inside
All-append P (x ∷ xs) ys first second zero d inside = first 0 d (omega arith)
All-append P (x ∷ xs) ys first second (suc k) d inside = All-append P xs ys (λ j e within. first (suc j) e (omega arith)) second k d (omega arith)

pub All-one : {X : Type 0} (P : X → Type 0) (x : X) → P x → All P (x ∷ [])
All-one P x is zero d inside = is
All-one P x is (suc k) d inside = absurd (omega arith)

pub All-without : {X : Type 0} (P : X → Type 0) (test : X → Bool) (xs : List X) → All P xs → All P (without_first test xs)
All-without P test [] each = each
All-without P test (x ∷ xs) each =
    let rest : All P xs = λ k d inside. each (suc k) d (omega arith) in
    elim (test x) as (λ b. All P (cond b xs (x ∷ without_first test xs))) [
      | true ↦ rest
      | false ↦ All-append P (x ∷ []) (without_first test xs) (All-one P x (each 0 x (omega arith))) (All-without P test xs rest)
    ]

pub length-without : {X : Type 0} (test : X → Bool) (xs : List X) → IsSome (find test xs) → length (without_first test xs) + 1 ≡ length xs
length-without test [] is = absurd (cc)
length-without test (x ∷ xs) is =
    elim (test x) as (λ b. IsSome (cond b (Some x) (find test xs)) → length (cond b xs (x ∷ without_first test xs)) + 1 ≡ suc (length xs)) [
      | true ↦ λ found. omega arith
      | false ↦ λ found. let rest = length-without test xs found in omega arith
    ] is

-- how many threads stand at a core, list by list
pub standing_is : (core : ModelCore) → standing_count core ≡ length (option_to_list core.current) + length core.queue + length core.blocked
standing_is core = ap (λ n. n + length core.blocked) (length-append (option_to_list core.current) core.queue)

module _ (p : Meaning) where
  -- a task that is put there
  pub holds_put : (place : Put) (wake : ℕ) (t : Task) (core : ModelCore) → Holds p core → IsTask p t → Holds p (with_task place wake t core)
  holds_put put.Queue wake t core holds fits = record { current = holds.current; queue = All-append (IsTask p) core.queue (t ∷ []) holds.queue (All-one (IsTask p) t fits); blocked = holds.blocked; consts = holds.consts }
  holds_put put.Keep wake t core holds fits = record { current = fits; queue = holds.queue; blocked = holds.blocked; consts = holds.consts }
  holds_put put.Block wake t core holds fits =
      record { current = holds.current; queue = holds.queue; blocked = All-append (λ (b : Blocked). IsTask p b.task) core.blocked (record { task = t; wake = wake } ∷ []) holds.blocked (All-one (λ (b : Blocked). IsTask p b.task) (record { task = t; wake = wake }) fits); consts = holds.consts }

  pub kept_same : (old : List ModelCore) → IsKept p 0 0 old old
  kept_same old = record { len = refl; each = λ each. each; count = omega arith }

  pub standing_put : (place : Put) (wake : ℕ) (t : Task) (core : ModelCore) → standing_count (with_task place wake t core) ≤ standing_count core + 1
  standing_put put.Queue wake t core = omega (arith, standing_is core, standing_is (with_task put.Queue wake t core), length-append core.queue (t ∷ []))
  standing_put put.Keep wake t core = omega (arith, standing_is core, standing_is (with_task put.Keep wake t core))
  standing_put put.Block wake t core = omega (arith, standing_is core, standing_is (with_task put.Block wake t core), length-append core.blocked (record { task = t; wake = wake } ∷ []))

  -- a thread that leaves a list
  pub holds_released : (id : ℕ) (core : ModelCore) → Holds p core → Holds p (released id core)
  unfolding released
  holds_released id core holds = record { current = holds.current; queue = holds.queue; blocked = All-without (λ (b : Blocked). IsTask p b.task) (is_blocked_task id) core.blocked holds.blocked; consts = holds.consts }

  pub holds_handed : (id : ℕ) (core : ModelCore) → Holds p core → Holds p (handed id core)
  unfolding handed
  holds_handed id core holds = record { current = holds.current; queue = All-without (IsTask p) (is_task id) core.queue holds.queue; blocked = holds.blocked; consts = holds.consts }

  pub standing_released : (id : ℕ) (core : ModelCore) → IsSome (blocked_of id core) → standing_count (released id core) + 1 ≤ standing_count core
  unfolding released
  standing_released id core found = omega (arith, standing_is core, standing_is (record core { blocked = without_first (is_blocked_task id) core.blocked }), length-without (is_blocked_task id) core.blocked found)

  pub standing_handed : (id : ℕ) (core : ModelCore) → IsSome (queued_of id core) → standing_count (handed id core) + 1 ≤ standing_count core
  unfolding handed
  standing_handed id core found = omega (arith, standing_is core, standing_is (record core { queue = without_first (is_task id) core.queue }), length-without (is_task id) core.queue found)

pub some_at : {X : Type 0} (xs : List X) (at : ℕ) (d : X) → at < length xs → slice_get xs at ≡ Some (get_or xs at d)
some_at [] at d inside = absurd (omega arith)
some_at (x ∷ xs) zero d inside = refl
some_at (x ∷ xs) (suc at) d inside = some_at xs at d (omega arith)

-- what holds of a core holds of it after a change of one
pub stays_after : (P : ModelCore → Type 0) (m : Cores) (at c : ℕ) (x : ModelCore) → P (m c) → (at ≡ c → P x) → P (updated m at x c)
stays_after P m at c x here there =
    elim (eqb at c) as (λ b. eqb at c ≡ b → P (cond b x (m c))) [
      | true ↦ λ e. there (grind (arith, nat_tests))
      | false ↦ λ e. here
    ] refl

-- the other cores after a change of one
pub updated_other : (m : Cores) (at c : ℕ) (x : ModelCore) → at ≢ c → updated m at x c ≡ m c
updated_other m at c x other = ap (λ b. cond b x (m c)) (let e : eqb at c ≡ false = grind (arith, nat_tests) in e)

pub queued_fits : (p : Meaning) (id : ℕ) (t : Task) (core : ModelCore) → Holds p core → queued_of id core ≡ Some t → IsTask p t
queued_fits p id t core holds is = subst (λ (o : Option Task). IfSome o (IsTask p)) is (find-All (is_task id) (IsTask p) core.queue holds.queue)

-- a core in bounds holds numbers in range
pub bounds_hold : (p : Meaning) (core : ModelCore) → CoreInBounds p core → Holds p core
bounds_hold p core in_bounds = record {
  current = first core.current in_bounds.tasks;
  queue = rest core.current in_bounds.tasks;
  blocked = in_bounds.blocked;
  consts = in_bounds.consts;
}
  where
    first : (current : Option Task) → All (IsTask p) (option_to_list current ++ core.queue) → IfSome current (IsTask p)
    first None each = tt
    first (Some t) each = each 0 t (omega arith)

    rest : (current : Option Task) → All (IsTask p) (option_to_list current ++ core.queue) → All (IsTask p) core.queue
    rest None each = each
    rest (Some t) each = λ k d inside. each (suc k) d (omega arith)
