-- A policy without the places where its trees lie in memory. Every definition on policies speaks of this record.
use Rattle.std.specs.Prelude.{ℕ, List, map, Option, option_map}
use Rattle.policy_tree.specs.declared.typed.Attr.{Attr}
use Rattle.policy_tree.specs.declared.typed.Batch.{Batch}
use Rattle.policy_tree.specs.declared.typed.Case.{Case}
use Rattle.policy_tree.specs.declared.typed.Event.{Event}
use Rattle.policy_tree.specs.declared.typed.Event.TheVariants as event
use Rattle.policy_tree.specs.declared.typed.HandlerList.{HandlerList}
use Rattle.policy_tree.specs.declared.typed.Key.{Key}
use Rattle.policy_tree.specs.declared.typed.Key.TheVariants as key
use Rattle.policy_tree.specs.declared.typed.Load.{Load}
use Rattle.policy_tree.specs.declared.typed.PlaceRule.{PlaceRule}
use Rattle.policy_tree.specs.declared.typed.PlaceRule.TheVariants as rule
use Rattle.policy_tree.specs.declared.typed.Policy.{Policy}
use Rattle.policy_tree.specs.declared.typed.Put.{Put}
use Rattle.policy_tree.specs.declared.typed.Set.{Set}
use Rattle.policy_tree.specs.Trees.{CondTree, ExprTree, cond_tree, expr_tree}

-- where a thread is placed: on the acting core, or where the value is least
pub data PlaceTree : Type 0 where
  here : PlaceTree
  least : ExprTree → PlaceTree

abbrev pub place_tree : PlaceRule → PlaceTree
place_tree rule.Here = here
place_tree (rule.Least expr) = least (expr_tree expr)

-- a key of an order: the lesser value first, the greater value first, or what the condition holds of first
pub data KeyTree : Type 0 where
  least_first : ExprTree → KeyTree
  greatest_first : ExprTree → KeyTree
  preferring : CondTree → KeyTree

abbrev pub key_tree : Key → KeyTree
key_tree (key.Least expr) = least_first (expr_tree expr)
key_tree (key.Greatest expr) = greatest_first (expr_tree expr)
key_tree (key.Prefer condition) = preferring (cond_tree condition)

abbrev pub order_tree : List Key → List KeyTree
order_tree order = map key_tree order

-- when a steal goes on to another thread, and how many it moves at most
pub record BatchTree : Type 0 where
  pub condition : CondTree
  pub limit : ℕ

abbrev pub batch_tree : Batch → BatchTree
batch_tree b = record { condition = cond_tree b.cond; limit = b.limit }

-- an assignment of a case
pub record SetTree : Type 0 where
  pub attr : ℕ
  pub expr : ExprTree

abbrev pub set_tree : Set → SetTree
set_tree s = record { attr = s.attr; expr = expr_tree s.expr }

-- a case of a handler
pub record CaseTree : Type 0 where
  pub guard : CondTree
  pub sets : List SetTree
  pub put : Put

abbrev pub case_tree : Case → CaseTree
case_tree c = record { guard = cond_tree c.guard; sets = map set_tree c.sets; put = c.put }

-- the cases of each event
pub record HandlerTrees : Type 0 where
  pub on_enqueue : List CaseTree
  pub on_tick : List CaseTree
  pub on_yield : List CaseTree
  pub on_block : List CaseTree

abbrev pub handler_trees : HandlerList → HandlerTrees
handler_trees h = record {
  on_enqueue = map case_tree h.on_enqueue;
  on_tick = map case_tree h.on_tick;
  on_yield = map case_tree h.on_yield;
  on_block = map case_tree h.on_block;
}

abbrev pub cases_on : HandlerTrees → Event → List CaseTree
cases_on h event.Enqueue = h.on_enqueue
cases_on h event.Tick = h.on_tick
cases_on h event.Yield = h.on_yield
cases_on h event.Block = h.on_block

-- a whole policy
pub record Meaning : Type 0 where
  pub name : List ℕ
  pub load : Load
  pub core_attrs : List Attr
  pub thread_attrs : List Attr
  pub place : PlaceTree
  pub elect : List KeyTree
  pub handlers : HandlerTrees
  pub filter : CondTree
  pub choose : List KeyTree
  pub steal : List KeyTree
  pub batch : Option BatchTree

abbrev pub meaning_of : Policy → Meaning
meaning_of p = record {
  name = p.name;
  load = p.load;
  core_attrs = p.core_attrs;
  thread_attrs = p.thread_attrs;
  place = place_tree p.place;
  elect = order_tree p.elect;
  handlers = handler_trees p.handlers;
  filter = cond_tree p.filter;
  choose = order_tree p.choose;
  steal = order_tree p.steal;
  batch = option_map batch_tree p.batch;
}
