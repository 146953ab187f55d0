-- What was given, and the handlers that are left.
use Rattle.std.proofs.Common.{drop, map}
use Rattle.policy_syntax.specs.SyntaxTrees.{handler_syntax_tree}
use Rattle.policy_types.proofs.HandlersRead.{IsGivenTo}
use Rattle.policy_types.proofs.scope.Scope.handlers.Given as goal

abbrev pub invariant-loop-handler : goal.invariant-loop-handler
invariant-loop-handler l = IsGivenTo l.self (map handler_syntax_tree l.handlers) (map handler_syntax_tree (drop l.handler-index l.handlers)) l.given
