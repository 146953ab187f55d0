-- The plan that a trace means under a policy.
use Rattle.std.specs.Prelude.{◌≡◌, ℕ, zero, suc, ◌-◌, ◌==◌, ℤ, pos, Bool, false, ◌||◌, List, [], ◌∷◌, ◌++◌, length}
use Rattle.std.specs.Prelude.{map, replicate, take, find, position, fold, filter_map, slice_set, Option, Some, None}
use Rattle.std.specs.Prelude.{Result, Ok, Err, nat_lt, int_lt, if◌then◌else◌}
use Rattle.std.specs.Option.{option_or}
use Rattle.std.specs.Str.{bytes_eq}
use Rattle.sched_base.specs.declared.limits.TheConstants.{DEFAULT_ENTRIES, MAX_ATTRIBUTES}
use Rattle.policy_tree.specs.declared.typed.Attr.{Attr}
use Rattle.policy_tree.specs.declared.typed.Load.{Load}
use Rattle.policy_tree.specs.declared.typed.Load.TheVariants as load
use Rattle.policy_tree.specs.Meaning.{Meaning}
use Rattle.round_model.specs.declared.plan.OrderLine.{OrderLine}
use Rattle.round_model.specs.declared.plan.Plan.{Plan}
use Rattle.round_model.specs.declared.plan.Planned.{Planned}
use Rattle.round_model.specs.Programs.{start_of}
use Rattle.job_trace.specs.declared.plan_fault.PlanFault.{PlanFault}
use Rattle.job_trace.specs.declared.plan_fault.PlanFault.TheVariants.{WeightRange, ConstRange, ConstName, Memory}
use Rattle.job_trace.specs.declared.trace.NamedConst.{NamedConst}
use Rattle.job_trace.specs.declared.trace.TraceLine.{TraceLine}
use Rattle.job_trace.specs.declared.trace.TraceLine.TheVariants.{Cores, Rounds, Entries, Core, Thread, Order}
use Rattle.job_trace.specs.declared.trace.Numbered.{Numbered}
use Rattle.job_trace.specs.Rules.{cores_of}

-- the load doesn't allow the weight. A load that counts threads allows every weight.
abbrev pub is_foreign : Load → ℕ → Bool
is_foreign load.Count weight = false
is_foreign (load.Weight lo hi) weight = nat_lt weight lo || nat_lt hi weight

-- the attribute has that name
abbrev pub is_named : List ℕ → Attr → Bool
is_named name attr = bytes_eq attr.name name

-- the declared range doesn't have the value
abbrev pub is_outside : Attr → ℤ → Bool
is_outside attr value = int_lt value attr.lo || int_lt attr.hi value

abbrev pub value_fault : ℕ → ℤ → Option Attr → Option PlanFault
value_fault number value None = Some (ConstName number)
value_fault number value (Some attr) = if is_outside attr value then Some (ConstRange number) else None

-- a constant that isn't declared, or is out of its declared range, in the line of that number
abbrev pub const_fault : List Attr → ℕ → NamedConst → Option PlanFault
const_fault attrs number given = value_fault number given.value (find (is_named given.name) attrs)

-- the first fault of constants of that line, from left to right
abbrev pub consts_fault : List Attr → ℕ → List NamedConst → Option PlanFault
consts_fault attrs number [] = None
consts_fault attrs number (given ∷ rest) = option_or (const_fault attrs number given) (consts_fault attrs number rest)

abbrev pub weight_fault : Load → ℕ → ℕ → Option PlanFault
weight_fault l number weight = if is_foreign l weight then Some (WeightRange number) else None

-- what doesn't fit the load and the attributes of cores in the line of that number
abbrev pub line_fault : Load → List Attr → ℕ → TraceLine → Option PlanFault
line_fault l attrs number (Cores cores) = None
line_fault l attrs number (Rounds rounds) = None
line_fault l attrs number (Entries entries) = None
line_fault l attrs number (Core given) = consts_fault attrs number given.consts
line_fault l attrs number (Thread thread) = weight_fault l number thread.weight
line_fault l attrs number (Order order) = None

-- the fault of the first line that doesn't fit
abbrev pub first_fault : Load → List Attr → List Numbered → Option PlanFault
first_fault l attrs [] = None
first_fault l attrs (n ∷ rest) = option_or (line_fault l attrs n.number n.line) (first_fault l attrs rest)

-- the weight that counts: 1 under a load that counts threads
abbrev pub counted_weight : Load → ℕ → ℕ
counted_weight load.Count weight = 1
counted_weight (load.Weight lo hi) weight = weight

abbrev pub weighed : Load → Planned → Planned
weighed l thread = record thread { weight = counted_weight l thread.weight }

-- the thread that the line lets in
abbrev pub thread_of : Load → TraceLine → Option Planned
thread_of l (Cores number) = None
thread_of l (Rounds number) = None
thread_of l (Entries number) = None
thread_of l (Core given) = None
thread_of l (Thread thread) = Some (weighed l thread)
thread_of l (Order order) = None

-- the threads that the lines let in, in their order
abbrev pub threads_of : Load → List Numbered → List Planned
threads_of l trace = filter_map (λ (n : Numbered). thread_of l n.line) trace

abbrev pub order_of : TraceLine → Option OrderLine
order_of (Cores number) = None
order_of (Rounds number) = None
order_of (Entries number) = None
order_of (Core given) = None
order_of (Thread thread) = None
order_of (Order order) = Some order

-- the orders of rounds, in the order of their lines
abbrev pub orders_of : List Numbered → List OrderLine
orders_of trace = filter_map (λ (n : Numbered). order_of n.line) trace

abbrev pub rounds_in : TraceLine → ℕ
rounds_in (Cores number) = 0
rounds_in (Rounds number) = number
rounds_in (Entries number) = 0
rounds_in (Core given) = 0
rounds_in (Thread thread) = 0
rounds_in (Order order) = 0

-- the number of rounds that the lines give
abbrev pub rounds_of : List Numbered → ℕ
rounds_of [] = 0
rounds_of (first ∷ []) = 0
rounds_of (first ∷ second ∷ rest) = rounds_in second.line

abbrev pub entries_in : TraceLine → Option ℕ
entries_in (Cores number) = None
entries_in (Rounds number) = None
entries_in (Entries number) = Some number
entries_in (Core given) = None
entries_in (Thread thread) = None
entries_in (Order order) = None

abbrev pub given_or : Option ℕ → ℕ → ℕ
given_or None other = other
given_or (Some number) other = number

-- the limit of entries that a line gives, or that of traces that give none
abbrev pub limit_of : List Numbered → ℕ
limit_of [] = DEFAULT_ENTRIES
limit_of (n ∷ rest) = given_or (entries_in n.line) (limit_of rest)

-- the declared starts of the attributes that there is room for, 0 past the last
unfoldable pub starts : List Attr → List ℤ
starts attrs = take MAX_ATTRIBUTES (map start_of attrs ++ replicate (MAX_ATTRIBUTES - length attrs) (pos 0))

abbrev pub value_put : List ℤ → ℤ → Option ℕ → List ℤ
value_put values value None = values
value_put values value (Some at) = slice_set values at value

-- the values of a core with that constant in the place of the attribute of its name
abbrev pub const_put : List Attr → List ℤ → NamedConst → List ℤ
const_put attrs values given = value_put values given.value (position (is_named given.name) attrs)

-- the values of a core with those constants in their places
abbrev pub consts_put : List Attr → List ℤ → List NamedConst → List ℤ
consts_put attrs values given = fold (const_put attrs) values given

-- the values of that core with what the line gives of them
abbrev pub line_put : List Attr → ℕ → List ℤ → TraceLine → List ℤ
line_put attrs core values (Cores number) = values
line_put attrs core values (Rounds number) = values
line_put attrs core values (Entries number) = values
line_put attrs core values (Core given) = if given.core == core then consts_put attrs values given.consts else values
line_put attrs core values (Thread thread) = values
line_put attrs core values (Order order) = values

-- the values of that core with what the lines give of them
abbrev pub lines_put : List Attr → ℕ → List ℤ → List Numbered → List ℤ
lines_put attrs core values trace = fold (λ vs (n : Numbered). line_put attrs core vs n.line) values trace

-- the constants of that core: those that the lines give, and the declared starts of the others
abbrev pub core_consts : List Attr → List Numbered → ℕ → List ℤ
core_consts attrs trace core = lines_put attrs core (starts attrs) trace

-- the constants of the first so many cores
abbrev pub consts_of : List Attr → List Numbered → ℕ → List (List ℤ)
consts_of attrs trace zero = []
consts_of attrs trace (suc core) = consts_of attrs trace core ++ core_consts attrs trace core ∷ []

-- the plan, where the trace fits
abbrev pub plan_of : Meaning → List Numbered → Plan
plan_of p trace = record {
  cores = cores_of trace;
  rounds = rounds_of trace;
  limit = limit_of trace;
  consts = consts_of p.core_attrs trace (cores_of trace);
  threads = threads_of p.load trace;
  orders = orders_of trace;
}

-- the trace, each line of which fits the policy, means that plan
pub record SpellsPlan (p : Meaning) (trace : List Numbered) (plan : Plan) : Type 0 where
  pub fits : first_fault p.load p.core_attrs trace ≡ None
  pub is : plan ≡ plan_of p trace

-- a line of the trace doesn't fit the policy, and this is the first fault
abbrev pub IsForeign : Meaning → List Numbered → PlanFault → Type 0
IsForeign p trace fault = first_fault p.load p.core_attrs trace ≡ Some fault

-- a fault that may be answered: that of the trace, or the want of memory
abbrev pub IsPlanFault : Meaning → List Numbered → PlanFault → Type 0
IsPlanFault p trace (WeightRange line) = IsForeign p trace (WeightRange line)
IsPlanFault p trace (ConstRange line) = IsForeign p trace (ConstRange line)
IsPlanFault p trace (ConstName line) = IsForeign p trace (ConstName line)
IsPlanFault p trace Memory = Unit {0}

-- the result is this answer, or the want of memory
abbrev pub IsPlannedUnlessMemory : {X : Type 0} → Result X PlanFault → Result X PlanFault → Type 0
IsPlannedUnlessMemory answer (Ok x) = answer ≡ Ok x
IsPlannedUnlessMemory answer (Err (WeightRange line)) = answer ≡ Err (WeightRange line)
IsPlannedUnlessMemory answer (Err (ConstRange line)) = answer ≡ Err (ConstRange line)
IsPlannedUnlessMemory answer (Err (ConstName line)) = answer ≡ Err (ConstName line)
IsPlannedUnlessMemory answer (Err Memory) = Unit {0}

-- a plan that meets this is the answer, unless memory is wanting
abbrev pub MustPlan : (Plan → Type 0) → Result Plan PlanFault → Type 0
MustPlan P result = (plan : Plan) → P plan → IsPlannedUnlessMemory (Ok plan) result

-- a fault that meets this is the answer, unless memory is wanting
abbrev pub MustRefusePlan : (PlanFault → Type 0) → Result Plan PlanFault → Type 0
MustRefusePlan P result = (fault : PlanFault) → P fault → IsPlannedUnlessMemory (Err fault) result
