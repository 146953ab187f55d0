-- The rules that a line of a trace keeps behind the lines before it.
use Rattle.std.specs.Prelude.{◌≡◌, ℕ, ◌+◌, ◌-◌, ◌==◌, ℤ, pos, neg_ℤ, Bool, true, false, ◌||◌, ◌&&◌, ◌≤◌, List, [], ◌∷◌}
use Rattle.std.specs.Prelude.{◌++◌, length, map, Option, Some, None, codes, nat_lt, int_lt, if◌then◌else◌}
use Rattle.std.specs.List.{list_any}
use Rattle.std.specs.Option.{option_or}
use Rattle.std.specs.Str.{bytes_eq}
use Rattle.sched_base.specs.declared.limits.TheConstants.{MAX_ATTRIBUTE, MAX_BLOCK_ROUNDS, MAX_BURSTS, MAX_CORES}
use Rattle.sched_base.specs.declared.limits.TheConstants.{MAX_ENTRIES, MAX_ORDER_CORES, MAX_ROUNDS, MAX_THREADS}
use Rattle.sched_base.specs.declared.limits.TheConstants.{MAX_UNITS, MAX_WEIGHT}
use Rattle.round_model.specs.declared.plan.Burst.{Burst}
use Rattle.round_model.specs.declared.plan.Ending.{Ending}
use Rattle.round_model.specs.declared.plan.Ending.TheVariants as ending
use Rattle.job_trace.specs.declared.trace.NamedConst.{NamedConst}
use Rattle.job_trace.specs.declared.trace.TraceLine.{TraceLine}
use Rattle.job_trace.specs.declared.trace.TraceLine.TheVariants.{Cores, Rounds, Entries, Core, Thread, Order}
use Rattle.job_trace.specs.declared.trace.Numbered.{Numbered}
use Rattle.job_trace.specs.Forms.{SpellsLine}

abbrev pub is_cores : TraceLine → Bool
is_cores (Cores number) = true
is_cores (Rounds number) = false
is_cores (Entries number) = false
is_cores (Core consts) = false
is_cores (Thread thread) = false
is_cores (Order order) = false

abbrev pub is_rounds : TraceLine → Bool
is_rounds (Cores number) = false
is_rounds (Rounds number) = true
is_rounds (Entries number) = false
is_rounds (Core consts) = false
is_rounds (Thread thread) = false
is_rounds (Order order) = false

-- the line is of a kind that may stand behind those: cores come first, rounds second
abbrev pub may_stand : List Numbered → TraceLine → Bool
may_stand [] line = is_cores line
may_stand (first ∷ []) line = is_rounds line
may_stand (first ∷ second ∷ rest) line = true

-- a number of a line: with its range, or as the value of a constant
pub data Measure : Type 0 where
  ranged : (value low high : ℕ) → Measure
  constant : (value : ℤ) → Measure

-- the rounds of a block
abbrev pub block_measures : Ending → List Measure
block_measures ending.Yield = []
block_measures (ending.Block rounds) = ranged rounds 1 MAX_BLOCK_ROUNDS ∷ []
block_measures ending.End = []
block_measures ending.Forever = []

-- the numbers of the bursts from that one on, counted from 1. The count of a burst stands before its numbers.
abbrev pub burst_measures : ℕ → List Burst → List Measure
burst_measures count [] = []
burst_measures count (b ∷ rest) =
    ranged count 1 MAX_BURSTS ∷ ranged b.units 1 MAX_UNITS
    ∷ (block_measures b.ending ++ burst_measures (count + 1) rest)

-- the numbers of an order's cores from that one on, counted from 1, up to that greatest one
abbrev pub order_measures : ℕ → ℕ → List ℕ → List Measure
order_measures last count [] = []
order_measures last count (core ∷ rest) =
    ranged count 1 MAX_ORDER_CORES ∷ ranged core 0 last ∷ order_measures last (count + 1) rest

abbrev pub const_measure : NamedConst → Measure
const_measure given = constant given.value

-- the numbers of a line from left to right, under so many cores. There is one at least, so that the last is numbered
-- one less.
abbrev pub measures : ℕ → TraceLine → List Measure
measures cores (Cores number) = ranged number 1 MAX_CORES ∷ []
measures cores (Rounds number) = ranged number 0 MAX_ROUNDS ∷ []
measures cores (Entries number) = ranged number 0 MAX_ENTRIES ∷ []
measures cores (Core given) = ranged given.core 0 (cores - 1) ∷ map const_measure given.consts
measures cores (Thread thread) =
    ranged thread.id 1 MAX_THREADS ∷ ranged thread.core 0 (cores - 1) ∷ ranged thread.round 1 MAX_ROUNDS
    ∷ ranged thread.weight 1 MAX_WEIGHT ∷ burst_measures 1 thread.bursts
measures cores (Order order) = ranged order.round 1 MAX_ROUNDS ∷ order_measures (cores - 1) 1 order.cores

-- the end of its range that the number passes
abbrev pub passed_end : Measure → Option ℤ
passed_end (ranged value low high) =
    if nat_lt value low then Some (pos low) else if nat_lt high value then Some (pos high) else None
passed_end (constant value) =
    if int_lt value (neg_ℤ MAX_ATTRIBUTE) then Some (neg_ℤ MAX_ATTRIBUTE)
    else if int_lt MAX_ATTRIBUTE value then Some MAX_ATTRIBUTE else None

-- the end that the first number out of its range passes
abbrev pub first_passed : List Measure → Option ℤ
first_passed [] = None
first_passed (m ∷ rest) = option_or (passed_end m) (first_passed rest)

-- what a line gives and no other line may give again: it is known by the line's first word, by a number where several
-- may be given, and by the name of a constant
pub record Gift : Type 0 where
  pub word : List ℕ
  pub number : ℕ
  pub name : List ℕ

abbrev pub gift : List ℕ → ℕ → List ℕ → Gift
gift word number name = record { word = word; number = number; name = name }

abbrev pub same_gift : Gift → Gift → Bool
same_gift g h = (bytes_eq g.word h.word && g.number == h.number) && bytes_eq g.name h.name

abbrev pub const_gift : ℕ → NamedConst → Gift
const_gift core given = gift (codes "core") core given.name

-- what the line gives, from left to right
abbrev pub gifts_of : TraceLine → List Gift
gifts_of (Cores number) = gift (codes "cores") 0 [] ∷ []
gifts_of (Rounds number) = gift (codes "rounds") 0 [] ∷ []
gifts_of (Entries number) = gift (codes "entries") 0 [] ∷ []
gifts_of (Core given) = map (const_gift given.core) given.consts
gifts_of (Thread thread) = gift (codes "thread") thread.id [] ∷ []
gifts_of (Order order) = gift (codes "order") order.round [] ∷ []

-- what the lines give
abbrev pub all_gifts : List Numbered → List Gift
all_gifts [] = []
all_gifts (n ∷ rest) = gifts_of n.line ++ all_gifts rest

-- one of the later is among the earlier, or among the later before it
abbrev pub is_repeated : List Gift → List Gift → Bool
is_repeated earlier [] = false
is_repeated earlier (g ∷ later) = list_any (same_gift g) earlier || is_repeated (earlier ++ g ∷ []) later

-- a line before has given what the line gives, or the line itself gives it twice
abbrev pub is_given : List Numbered → TraceLine → Bool
is_given before line = is_repeated (all_gifts before) (gifts_of line)

-- the number of cores that a line gives
abbrev pub cores_in : TraceLine → ℕ
cores_in (Cores number) = number
cores_in (Rounds number) = 0
cores_in (Entries number) = 0
cores_in (Core consts) = 0
cores_in (Thread thread) = 0
cores_in (Order order) = 0

-- the number of cores that the lines give
abbrev pub cores_of : List Numbered → ℕ
cores_of [] = 0
cores_of (first ∷ rest) = cores_in first.line

-- the line may follow those
pub record MayFollow (before : List Numbered) (line : TraceLine) : Type 0 where
  pub kind : may_stand before line ≡ true
  pub within : first_passed (measures (cores_of before) line) ≡ None
  pub once : is_given before line ≡ false

-- some words spell the line
abbrev pub HasSpelling : TraceLine → Type 0
HasSpelling line = (words : List (List ℕ)) × SpellsLine words line

-- each line has a spelling, and may follow those before it and that front
abbrev pub MayAllFollow : List Numbered → List Numbered → Type 0
MayAllFollow front [] = Unit {0}
MayAllFollow front (n ∷ rest) = HasSpelling n.line × MayFollow front n.line × MayAllFollow (front ++ n ∷ []) rest

-- the lines are a whole trace: no line breaks a rule, and cores and rounds are among them
pub record KeepsRules (trace : List Numbered) : Type 0 where
  pub whole : 2 ≤ length trace
  pub each : MayAllFollow [] trace
