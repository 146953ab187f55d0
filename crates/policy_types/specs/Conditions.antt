-- The conditions and orders that a syntax is, and the rules that they break, in the order of the text. `and` and `or`
-- group to the left.
use Rattle.std.specs.Prelude.{Bool, true, false, List, [], ◌∷◌, ◌++◌, map, Option, Some, None}
use Rattle.policy_tree.specs.Meaning.{KeyTree, greatest_first, least_first, preferring}
use Rattle.policy_tree.specs.Trees as tree
use Rattle.policy_tree.specs.Trees.{CondTree, ExprTree}
use Rattle.policy_syntax.specs.SyntaxTrees.{ConditionTree, always, negated, grouped, all, any, test, ConditionTrees}
use Rattle.policy_syntax.specs.SyntaxTrees.{no_more, more, KeySyntaxTree, ranked, OrderSyntaxTree, ElectSyntaxTree}
use Rattle.policy_syntax.specs.SyntaxTrees as syntax
use Rattle.policy_types.specs.declared.fault.TypeFault.{TypeFault}
use Rattle.policy_types.specs.declared.scope.Scope.{Scope}
use Rattle.policy_types.specs.declared.sites.Site.{Site}
use Rattle.policy_types.specs.declared.sites.Site.TheVariants.{Elect}
use Rattle.policy_types.specs.Expressions.{expr_faults, expr_meaning}

-- the conjunction or the disjunction of what stands so far and one part more
abbrev pub linked : Bool → Option CondTree → CondTree → CondTree
linked both None right = right
linked true (Some left) right = tree.both left right
linked false (Some left) right = tree.either left right

-- a chain without parts, which no text has, holds always
abbrev pub chain_or_always : Option CondTree → CondTree
chain_or_always None = tree.always
chain_or_always (Some chain) = chain

abbrev mutual
  pub condition_meaning : Scope → ConditionTree → CondTree
  condition_meaning scope (always at) = tree.always
  condition_meaning scope (negated at inner) = tree.negated (condition_meaning scope inner)
  condition_meaning scope (grouped at inner) = condition_meaning scope inner
  condition_meaning scope (all at parts) = chain_meaning scope true None parts
  condition_meaning scope (any at parts) = chain_meaning scope false None parts
  condition_meaning scope (test at compare left right) =
      tree.test compare (expr_meaning scope left) (expr_meaning scope right)

  -- what stands so far, joined with these parts, one after the other
  pub chain_meaning : Scope → Bool → Option CondTree → ConditionTrees → CondTree
  chain_meaning scope both chain no_more = chain_or_always chain
  chain_meaning scope both chain (more part rest) =
      chain_meaning scope both (Some (linked both chain (condition_meaning scope part))) rest

abbrev mutual
  pub condition_faults : Scope → Site → ConditionTree → List TypeFault
  condition_faults scope site (always at) = []
  condition_faults scope site (negated at inner) = condition_faults scope site inner
  condition_faults scope site (grouped at inner) = condition_faults scope site inner
  condition_faults scope site (all at parts) = parts_faults scope site parts
  condition_faults scope site (any at parts) = parts_faults scope site parts
  condition_faults scope site (test at compare left right) = expr_faults scope site left ++ expr_faults scope site right

  pub parts_faults : Scope → Site → ConditionTrees → List TypeFault
  parts_faults scope site no_more = []
  parts_faults scope site (more part rest) = condition_faults scope site part ++ parts_faults scope site rest

-- the key that puts the greater value first, or the lesser
abbrev pub directed : Bool → ExprTree → KeyTree
directed true e = greatest_first e
directed false e = least_first e

abbrev pub key_meaning : Scope → KeySyntaxTree → KeyTree
key_meaning scope (ranked at greatest e) = directed greatest (expr_meaning scope e)
key_meaning scope (syntax.preferring at c) = preferring (condition_meaning scope c)

abbrev pub order_meaning : Scope → OrderSyntaxTree → List KeyTree
order_meaning scope order = map (key_meaning scope) order.keys

abbrev pub key_faults : Scope → Site → KeySyntaxTree → List TypeFault
key_faults scope site (ranked at greatest e) = expr_faults scope site e
key_faults scope site (syntax.preferring at c) = condition_faults scope site c

abbrev pub keys_faults : Scope → Site → List KeySyntaxTree → List TypeFault
keys_faults scope site [] = []
keys_faults scope site (k ∷ rest) = key_faults scope site k ++ keys_faults scope site rest

abbrev pub order_faults : Scope → Site → OrderSyntaxTree → List TypeFault
order_faults scope site order = keys_faults scope site order.keys

-- `first` where nothing is said
abbrev pub elect_meaning : Scope → Option ElectSyntaxTree → List KeyTree
elect_meaning scope None = []
elect_meaning scope (Some e) = order_meaning scope e.order

abbrev pub elect_faults : Scope → Option ElectSyntaxTree → List TypeFault
elect_faults scope None = []
elect_faults scope (Some e) = order_faults scope Elect e.order
