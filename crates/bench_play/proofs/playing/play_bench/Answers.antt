use Rattle.std.proofs.Common.{sym, subst}
use Rattle.policy_tree.specs.Meaning.{meaning_of}
use Rattle.policy_eval.specs.Obligations.{MeetsObligations}
use Rattle.bench_play.proofs.playing.play_bench.Goals as goal

pub report-requires-clause-meets : goal.report-requires-clause-meets
report-requires-clause-meets c = subst (λ policy. MeetsObligations (meaning_of policy)) (sym c.policy-under.ensures.policy) c.policy-under.ensures.meets
