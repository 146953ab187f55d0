-- The policy that a syntax is, and the rules that it breaks, in the order of the text.
use Rattle.std.specs.Prelude.{ℕ, Bool, nat_le, ◌&&◌, not, List, [], ◌++◌, Option, Some, None}
use Rattle.sched_base.specs.declared.limits.TheConstants.{MAX_STOLEN}
use Rattle.policy_syntax.specs.declared.syntax.PlaceSyntax.{PlaceSyntax}
use Rattle.policy_syntax.specs.declared.syntax.PlaceSyntax.TheVariants.{Here, Least}
use Rattle.policy_tree.specs.Meaning.{BatchTree, Meaning, PlaceTree, here, least}
use Rattle.policy_syntax.specs.SyntaxTrees.{BatchSyntaxTree, ElectSyntaxTree, HandlerSyntaxTree, OrderSyntaxTree}
use Rattle.policy_syntax.specs.SyntaxTrees.{SyntaxTree}
use Rattle.policy_types.specs.declared.fault.TypeFault.{TypeFault}
use Rattle.policy_types.specs.declared.fault.TypeFault.TheVariants.{BadRange}
use Rattle.policy_types.specs.declared.scope.Scope.{Scope}
use Rattle.policy_types.specs.declared.sites.Site.TheVariants.{Choose, Filter, GoingOn, Placement, Steal}
use Rattle.policy_types.specs.Conditions.{condition_faults, condition_meaning, elect_faults, elect_meaning}
use Rattle.policy_types.specs.Conditions.{order_faults, order_meaning}
use Rattle.policy_types.specs.Declarations.{attrs_faults, load_faults, load_meaning, nothing_declared, scope_after}
use Rattle.policy_types.specs.Expressions.{expr_faults, expr_meaning}
use Rattle.policy_types.specs.Faults.{where_broken}
use Rattle.policy_types.specs.Handlers.{handlers_faults, handlers_meaning}

-- on the core that lets the thread in, where nothing is said
abbrev pub place_meaning : Scope → Option PlaceSyntax → PlaceTree
place_meaning scope None = here
place_meaning scope (Some (Here at)) = here
place_meaning scope (Some (Least at e)) = least (expr_meaning scope e)

abbrev pub place_faults : Scope → Option PlaceSyntax → List TypeFault
place_faults scope None = []
place_faults scope (Some (Here at)) = []
place_faults scope (Some (Least at e)) = expr_faults scope Placement e

-- a steal moves one thread, where nothing is said
abbrev pub batch_meaning : Scope → Option BatchSyntaxTree → Option BatchTree
batch_meaning scope None = None
batch_meaning scope (Some b) = Some (record { condition = condition_meaning scope b.condition; limit = b.limit })

-- whether one steal may move so many threads
abbrev pub is_batch_limit : ℕ → Bool
is_batch_limit n = nat_le 1 n && nat_le n MAX_STOLEN

abbrev pub limit_faults : BatchSyntaxTree → List TypeFault
limit_faults b = where_broken (not (is_batch_limit b.limit)) (BadRange b.limit_at)

abbrev pub batch_faults : Scope → Option BatchSyntaxTree → List TypeFault
batch_faults scope None = []
batch_faults scope (Some b) = condition_faults scope GoingOn b.condition ++ limit_faults b

-- what the policy declares
abbrev pub scope_of : SyntaxTree → Scope
scope_of s = scope_after nothing_declared s.attrs

-- the policy, where what it declares is this
abbrev pub meaning_in : Scope → SyntaxTree → Meaning
meaning_in scope s = record {
  name = s.name;
  load = load_meaning s.load;
  core_attrs = scope.cores;
  thread_attrs = scope.threads;
  place = place_meaning scope s.place;
  elect = elect_meaning scope s.elect;
  handlers = handlers_meaning scope s.handlers;
  filter = condition_meaning scope s.filter;
  choose = order_meaning scope s.choose;
  steal = order_meaning scope s.steal;
  batch = batch_meaning scope s.batch;
}

abbrev pub policy_meaning : SyntaxTree → Meaning
policy_meaning s = meaning_in (scope_of s) s

-- the rules that are broken by what is said of threads that stay on their core
abbrev pub running_faults : Scope → Option PlaceSyntax → Option ElectSyntaxTree → List HandlerSyntaxTree →
    List TypeFault
running_faults scope place elect handlers =
    place_faults scope place ++ (elect_faults scope elect ++ handlers_faults scope [] handlers)

-- and by the orders and the batch of steals
abbrev pub choices_faults : Scope → OrderSyntaxTree → OrderSyntaxTree → Option BatchSyntaxTree → List TypeFault
choices_faults scope choose steal batch =
    order_faults scope Choose choose ++ (order_faults scope Steal steal ++ batch_faults scope batch)

-- the rules that are broken behind the declarations
abbrev pub faults_in : Scope → SyntaxTree → List TypeFault
faults_in scope s =
    running_faults scope s.place s.elect s.handlers
    ++ (condition_faults scope Filter s.filter ++ choices_faults scope s.choose s.steal s.batch)

abbrev pub policy_faults : SyntaxTree → List TypeFault
policy_faults s = load_faults s.load ++ (attrs_faults nothing_declared s.attrs ++ faults_in (scope_of s) s)
