-- The syntax of a level text without the places where it lies in memory.
use Rattle.std.specs.Prelude.{ℕ, List, Option, map, option_map}
use Rattle.policy_syntax.specs.declared.syntax.LoadSyntax.{LoadSyntax}
use Rattle.policy_syntax.specs.declared.syntax.AttrSyntax.{AttrSyntax}
use Rattle.policy_syntax.specs.declared.syntax.PlaceSyntax.{PlaceSyntax}
use Rattle.policy_syntax.specs.declared.levels.OneLevelSyntax.{OneLevelSyntax}
use Rattle.policy_syntax.specs.declared.levels.LevelSyntax.{LevelSyntax}
use Rattle.policy_syntax.specs.SyntaxTrees.{ConditionTree, OrderSyntaxTree, ElectSyntaxTree, BatchSyntaxTree}
use Rattle.policy_syntax.specs.SyntaxTrees.{HandlerSyntaxTree, condition_tree, order_syntax_tree, elect_syntax_tree}
use Rattle.policy_syntax.specs.SyntaxTrees.{batch_syntax_tree, handler_syntax_tree}

-- a level
pub record OneLevelSyntaxTree : Type 0 where
  pub at : ℕ
  pub within : ConditionTree
  pub filter_at : ℕ
  pub filter : ConditionTree

abbrev pub one_level_syntax_tree : OneLevelSyntax → OneLevelSyntaxTree
one_level_syntax_tree l =
    record { at = l.at; within = condition_tree l.within; filter_at = l.filter_at; filter = condition_tree l.filter }

-- the syntax of a whole level text
pub record LevelSyntaxTree : Type 0 where
  pub name : List ℕ
  pub load : LoadSyntax
  pub attrs : List AttrSyntax
  pub place : Option PlaceSyntax
  pub elect : Option ElectSyntaxTree
  pub handlers : List HandlerSyntaxTree
  pub levels : List OneLevelSyntaxTree
  pub choose_at : ℕ
  pub choose : OrderSyntaxTree
  pub steal_at : ℕ
  pub steal : OrderSyntaxTree
  pub batch : Option BatchSyntaxTree

abbrev pub level_syntax_tree : LevelSyntax → LevelSyntaxTree
level_syntax_tree s = record {
  name = s.name;
  load = s.load;
  attrs = s.attrs;
  place = s.place;
  elect = option_map elect_syntax_tree s.elect;
  handlers = map handler_syntax_tree s.handlers;
  levels = map one_level_syntax_tree s.levels;
  choose_at = s.choose_at;
  choose = order_syntax_tree s.choose;
  steal_at = s.steal_at;
  steal = order_syntax_tree s.steal;
  batch = option_map batch_syntax_tree s.batch;
}
