use Rattle.policy_tree.specs.Meaning.{meaning_of}
use Rattle.sched_history.proofs.Printable.{legal_is_printable}
use Rattle.table_players.proofs.Fitting.{crowd_fits, crowd_within}
use Rattle.runtime_tests.proofs.spelling.is_spelled.Goals as goal

pub is_text-requires : goal.is_text-requires
is_text-requires c =
    let p = meaning_of c.args.policy.now in let plan = c.args.plan.now in
    let both = c.in_ok-legal.ensures.0 c.if-legal.true in
    legal_is_printable p plan c.args.entries.now (crowd_fits p c.requires.policy plan c.requires.plan) (crowd_within plan c.requires.plan) both.1 both.0
