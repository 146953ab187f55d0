use Rattle.policy_eval.proofs.Best.{precedes-asymmetric, precedes-irreflexive, precedes-negative}
use Rattle.policy_eval.proofs.laws.law_ranked.Goals as goal

pub returns : goal.returns
returns c keys = record {
  irreflexive = precedes-irreflexive keys;
  asymmetric = precedes-asymmetric keys;
  not_before = precedes-negative keys;
}
