-- The syntax of a policy without the places where it lies in memory: what contracts compare.
use Rattle.std.specs.Prelude.{ℕ, Bool, List, [], ◌∷◌, Option, map, option_map}
use Rattle.policy_tree.specs.declared.trees.Cmp.{Cmp}
use Rattle.policy_tree.specs.declared.typed.Event.{Event}
use Rattle.policy_tree.specs.declared.typed.Put.{Put}
use Rattle.policy_syntax.specs.declared.syntax.LoadSyntax.{LoadSyntax}
use Rattle.policy_syntax.specs.declared.syntax.AttrSyntax.{AttrSyntax}
use Rattle.policy_syntax.specs.declared.syntax.PlaceSyntax.{PlaceSyntax}
use Rattle.policy_syntax.specs.declared.syntax.ElectSyntax.{ElectSyntax}
use Rattle.policy_syntax.specs.declared.syntax.KeySyntax.{KeySyntax}
use Rattle.policy_syntax.specs.declared.syntax.KeySyntax.TheVariants.{Ranked, Preferring}
use Rattle.policy_syntax.specs.declared.syntax.OrderSyntax.{OrderSyntax}
use Rattle.policy_syntax.specs.declared.syntax.BatchSyntax.{BatchSyntax}
use Rattle.policy_syntax.specs.declared.syntax.SetSyntax.{SetSyntax}
use Rattle.policy_syntax.specs.declared.syntax.CaseSyntax.{CaseSyntax}
use Rattle.policy_syntax.specs.declared.syntax.HandlerSyntax.{HandlerSyntax}
use Rattle.policy_syntax.specs.declared.syntax.Syntax.{Syntax}
use Rattle.policy_syntax.specs.declared.syntax.ExprSyntax.{ExprSyntax}
use Rattle.policy_syntax.specs.declared.syntax.ConditionSyntax.{ConditionSyntax, Always, Not', Group', And', Or', Test}
use Rattle.policy_syntax.specs.declared.syntax.ConditionSyntax.{Row_of-ConditionSyntax, end_of-ConditionSyntax}
use Rattle.policy_syntax.specs.declared.syntax.ConditionSyntax.{more_of-ConditionSyntax}

mutual
  -- a condition: its constructors have the index of the first token, a test that of its symbol
  pub data ConditionTree : Type 0 where
    always : ℕ → ConditionTree
    negated : ℕ → ConditionTree → ConditionTree
    grouped : ℕ → ConditionTree → ConditionTree
    all : ℕ → ConditionTrees → ConditionTree
    any : ℕ → ConditionTrees → ConditionTree
    test : ℕ → Cmp → ExprSyntax → ExprSyntax → ConditionTree

  pub data ConditionTrees : Type 0 where
    no_more : ConditionTrees
    more : ConditionTree → ConditionTrees → ConditionTrees

abbrev mutual
  pub condition_tree : ConditionSyntax → ConditionTree
  condition_tree (Always at) = always at
  condition_tree (Not' at p inner) = negated at (condition_tree inner)
  condition_tree (Group' at p inner) = grouped at (condition_tree inner)
  condition_tree (And' at shape parts) = all at (row_trees parts)
  condition_tree (Or' at shape parts) = any at (row_trees parts)
  condition_tree (Test at compare left right) = test at compare left right

  pub row_trees : {n : _} → Row_of-ConditionSyntax n → ConditionTrees
  row_trees end_of-ConditionSyntax = no_more
  row_trees (more_of-ConditionSyntax part rest) = more (condition_tree part) (row_trees rest)

-- a key of an order: the index of its first token, and whether the greater value comes first and the value; or the
-- condition of what comes first
pub data KeySyntaxTree : Type 0 where
  ranked : ℕ → Bool → ExprSyntax → KeySyntaxTree
  preferring : ℕ → ConditionTree → KeySyntaxTree

abbrev pub key_syntax_tree : KeySyntax → KeySyntaxTree
key_syntax_tree (Ranked at greatest value) = ranked at greatest value
key_syntax_tree (Preferring at condition) = preferring at (condition_tree condition)

-- an order
pub record OrderSyntaxTree : Type 0 where
  pub at : ℕ
  pub keys : List KeySyntaxTree

abbrev pub order_syntax_tree : OrderSyntax → OrderSyntaxTree
order_syntax_tree o = record { at = o.at; keys = map key_syntax_tree o.keys }

-- `elect` and its order
pub record ElectSyntaxTree : Type 0 where
  pub at : ℕ
  pub order : OrderSyntaxTree

abbrev pub elect_syntax_tree : ElectSyntax → ElectSyntaxTree
elect_syntax_tree e = record { at = e.at; order = order_syntax_tree e.order }

-- when a steal goes on, and how far
pub record BatchSyntaxTree : Type 0 where
  pub at : ℕ
  pub condition : ConditionTree
  pub limit_at : ℕ
  pub limit : ℕ

abbrev pub batch_syntax_tree : BatchSyntax → BatchSyntaxTree
batch_syntax_tree b =
    record { at = b.at; condition = condition_tree b.condition; limit_at = b.limit_at; limit = b.limit }

-- a case of a handler
pub record CaseSyntaxTree : Type 0 where
  pub at : ℕ
  pub guard : ConditionTree
  pub sets : List SetSyntax
  pub put_at : ℕ
  pub put : Put

abbrev pub case_syntax_tree : CaseSyntax → CaseSyntaxTree
case_syntax_tree c = record { at = c.at; guard = condition_tree c.guard; sets = c.sets; put_at = c.put_at; put = c.put }

-- a handler
pub record HandlerSyntaxTree : Type 0 where
  pub at : ℕ
  pub event : Event
  pub cases : List CaseSyntaxTree

abbrev pub handler_syntax_tree : HandlerSyntax → HandlerSyntaxTree
handler_syntax_tree h = record { at = h.at; event = h.event; cases = map case_syntax_tree h.cases }

-- the syntax of a whole policy
pub record SyntaxTree : Type 0 where
  pub name : List ℕ
  pub load : LoadSyntax
  pub attrs : List AttrSyntax
  pub place : Option PlaceSyntax
  pub elect : Option ElectSyntaxTree
  pub handlers : List HandlerSyntaxTree
  pub filter_at : ℕ
  pub filter : ConditionTree
  pub choose_at : ℕ
  pub choose : OrderSyntaxTree
  pub steal_at : ℕ
  pub steal : OrderSyntaxTree
  pub batch : Option BatchSyntaxTree

abbrev pub syntax_tree : Syntax → SyntaxTree
syntax_tree s = record {
  name = s.name;
  load = s.load;
  attrs = s.attrs;
  place = s.place;
  elect = option_map elect_syntax_tree s.elect;
  handlers = map handler_syntax_tree s.handlers;
  filter_at = s.filter_at;
  filter = condition_tree s.filter;
  choose_at = s.choose_at;
  choose = order_syntax_tree s.choose;
  steal_at = s.steal_at;
  steal = order_syntax_tree s.steal;
  batch = option_map batch_syntax_tree s.batch;
}

abbrev pub condition_trees : List ConditionSyntax → ConditionTrees
condition_trees [] = no_more
condition_trees (part ∷ rest) = more (condition_tree part) (condition_trees rest)
