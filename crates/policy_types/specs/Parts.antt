-- The parts that policies and level texts have in common: all but what they declare, and the filter or the levels.
use Rattle.std.specs.Prelude.{◌≡◌, ℕ, List, Option, option_map}
use Rattle.policy_syntax.specs.declared.syntax.PlaceSyntax.{PlaceSyntax}
use Rattle.policy_syntax.specs.SyntaxTrees.{BatchSyntaxTree, ElectSyntaxTree, HandlerSyntaxTree, OrderSyntaxTree}
use Rattle.policy_tree.specs.declared.typed.Load.{Load}
use Rattle.policy_tree.specs.Meaning.{Meaning, batch_tree, handler_trees, order_tree, place_tree}
use Rattle.policy_tree.specs.Trees.{CondTree}
use Rattle.policy_types.specs.declared.parts.Choices.{Choices}
use Rattle.policy_types.specs.declared.parts.Running.{Running}
use Rattle.policy_types.specs.declared.scope.Scope.{Scope}
use Rattle.policy_types.specs.Conditions.{elect_meaning, order_meaning}
use Rattle.policy_types.specs.Handlers.{handlers_meaning}
use Rattle.policy_types.specs.Policies.{batch_meaning, place_meaning}

-- what is said of threads that stay on their core is that
pub record IsRunning (scope : Scope) (place : Option PlaceSyntax) (elect : Option ElectSyntaxTree)
    (handlers : List HandlerSyntaxTree) (r : Running) : Type 0 where
  pub places : place_tree r.place ≡ place_meaning scope place
  pub elects : order_tree r.elect ≡ elect_meaning scope elect
  pub handles : handler_trees r.handlers ≡ handlers_meaning scope handlers

-- the orders and the batch of steals are those
pub record AreChoices (scope : Scope) (choose steal : OrderSyntaxTree) (batch : Option BatchSyntaxTree)
    (c : Choices) : Type 0 where
  pub chooses : order_tree c.choose ≡ order_meaning scope choose
  pub steals : order_tree c.steal ≡ order_meaning scope steal
  pub goes_on : option_map batch_tree c.batch ≡ batch_meaning scope batch

-- the policy of that name and load that declares this and has that filter, of these parts
abbrev pub meaning_with : Scope → List ℕ → Load → Running → CondTree → Choices → Meaning
meaning_with scope name load r filter c = record {
  name = name;
  load = load;
  core_attrs = scope.cores;
  thread_attrs = scope.threads;
  place = place_tree r.place;
  elect = order_tree r.elect;
  handlers = handler_trees r.handlers;
  filter = filter;
  choose = order_tree c.choose;
  steal = order_tree c.steal;
  batch = option_map batch_tree c.batch;
}
