-- Resolved policies: every reference stands where it may, every expression is linear, every limit is kept.
use Rattle.std.specs.Prelude.{◌<◌, ◌≤◌, ◌≤ℤ◌, List, length, All, neg_ℤ, Option, None, Some}
use Rattle.sched_base.specs.declared.limits.TheConstants.{MAX_ATTRIBUTE, MAX_ATTRIBUTES, MAX_CASES, MAX_COMPARISONS}
use Rattle.sched_base.specs.declared.limits.TheConstants.{MAX_KEYS, MAX_OPERATORS, MAX_SETS, MAX_STOLEN, MAX_WEIGHT}
use Rattle.policy_tree.specs.declared.typed.Attr.{Attr}
use Rattle.policy_tree.specs.declared.typed.Event.{Event}
use Rattle.policy_tree.specs.declared.typed.Load.{Load}
use Rattle.policy_tree.specs.Trees.{ExprTree, CondTree}
use Rattle.policy_tree.specs.Meaning.{BatchTree, CaseTree, KeyTree, Meaning, PlaceTree, SetTree, cases_on}
use Rattle.policy_tree.specs.Meaning.{greatest_first, here, least, least_first, preferring}
use Rattle.policy_eval.specs.Forms.{EachSide, IsLinear, RefersTo, comparisons_of, operators_of}
use Rattle.policy_eval.specs.Sites.{AllowsPut, Site, allows, choosing, electing, filtering, going_on, handling, placing}
use Rattle.policy_eval.specs.Sites.{stealing}
use Rattle.policy_eval.specs.Ranges.{greatest_weight, least_weight}

-- an expression that may stand there
pub record IsResolvedExpr (p : Meaning) (site : Site) (e : ExprTree) : Type 0 where
  pub linear : IsLinear e
  pub few : operators_of e ≤ MAX_OPERATORS
  pub allowed : RefersTo (allows p site) e

-- a condition that may stand there
pub record IsResolvedCond (p : Meaning) (site : Site) (c : CondTree) : Type 0 where
  pub few : comparisons_of c ≤ MAX_COMPARISONS
  pub sides : EachSide (IsResolvedExpr p site) c

-- a key that may stand there
abbrev pub IsResolvedKey : Meaning → Site → KeyTree → Type 0
IsResolvedKey p site (least_first e) = IsResolvedExpr p site e
IsResolvedKey p site (greatest_first e) = IsResolvedExpr p site e
IsResolvedKey p site (preferring c) = IsResolvedCond p site c

-- an order that may stand there
pub record IsResolvedOrder (p : Meaning) (site : Site) (order : List KeyTree) : Type 0 where
  pub few : length order ≤ MAX_KEYS
  pub keys : All (IsResolvedKey p site) order

-- an assignment to a declared attribute of threads
pub record IsResolvedSet (p : Meaning) (e : Event) (s : SetTree) : Type 0 where
  pub declared : s.attr < length p.thread_attrs
  pub value : IsResolvedExpr p (handling e) s.expr

-- a case of the handler of that event
pub record IsResolvedCase (p : Meaning) (e : Event) (c : CaseTree) : Type 0 where
  pub guard : IsResolvedCond p (handling e) c.guard
  pub few : length c.sets ≤ MAX_SETS
  pub sets : All (IsResolvedSet p e) c.sets
  pub put : AllowsPut e c.put

-- the handler of that event
pub record IsResolvedHandler (p : Meaning) (e : Event) : Type 0 where
  pub few : length (cases_on p.handlers e) ≤ MAX_CASES
  pub cases : All (IsResolvedCase p e) (cases_on p.handlers e)

abbrev pub IsResolvedPlace : Meaning → PlaceTree → Type 0
IsResolvedPlace p here = Unit {0}
IsResolvedPlace p (least e) = IsResolvedExpr p placing e

-- a batch: a steal moves at least one thread, and no more than an entry has room for
pub record IsResolvedBatch (p : Meaning) (b : BatchTree) : Type 0 where
  pub condition : IsResolvedCond p going_on b.condition
  pub some : 1 ≤ b.limit
  pub few : b.limit ≤ MAX_STOLEN

abbrev pub HasResolvedBatch : Meaning → Option BatchTree → Type 0
HasResolvedBatch p None = Unit {0}
HasResolvedBatch p (Some b) = IsResolvedBatch p b

-- the weights that loads may have
pub record IsWeightRange (l : Load) : Type 0 where
  pub positive : 1 ≤ least_weight l
  pub ordered : least_weight l ≤ greatest_weight l
  pub small : greatest_weight l ≤ MAX_WEIGHT

pub record IsAttribute (a : Attr) : Type 0 where
  pub low : neg_ℤ MAX_ATTRIBUTE ≤ℤ a.lo
  pub from_low : a.lo ≤ℤ a.start
  pub to_high : a.start ≤ℤ a.hi
  pub high : a.hi ≤ℤ MAX_ATTRIBUTE

pub record AreAttributes (attrs : List Attr) : Type 0 where
  pub few : length attrs ≤ MAX_ATTRIBUTES
  pub each : All IsAttribute attrs

-- the whole policy
pub record IsResolved (p : Meaning) : Type 0 where
  pub load : IsWeightRange p.load
  pub core_attrs : AreAttributes p.core_attrs
  pub thread_attrs : AreAttributes p.thread_attrs
  pub place : IsResolvedPlace p p.place
  pub elect : IsResolvedOrder p electing p.elect
  pub handlers : (e : Event) → IsResolvedHandler p e
  pub filter : IsResolvedCond p filtering p.filter
  pub choose : IsResolvedOrder p choosing p.choose
  pub steal : IsResolvedOrder p stealing p.steal
  pub batch : HasResolvedBatch p p.batch
