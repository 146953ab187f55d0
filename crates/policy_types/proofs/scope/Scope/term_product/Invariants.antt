-- What is read has the linear form so far.
use Rattle.std.proofs.Common.{drop}
use Rattle.policy_types.proofs.TermsRead.{IsReadTo}
use Rattle.policy_types.proofs.scope.Scope.term_product.Given as goal

abbrev pub invariant-loop-times : goal.invariant-loop-times
invariant-loop-times l = IsReadTo l.self l.term (drop l.times-index l.rest) l.product
