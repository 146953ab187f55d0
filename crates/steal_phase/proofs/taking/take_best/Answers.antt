use Rattle.policy_tree.specs.Meaning.{meaning_of}
use Rattle.batch_moves.proofs.Reached.{consts_are, consts_in}
use Rattle.core_table.specs.Public.{plan_of}
use Rattle.steal_phase.proofs.Two.{may_go_over}
use Rattle.steal_phase.proofs.taking.take_best.Goals as goal

pub take_all-requires-clause-own : goal.take_all-requires-clause-own
take_all-requires-clause-own c =
    consts_in (meaning_of c.args.policy.now) (plan_of c.args.table.now) c.requires.fits c.args.thief.now.core c.consts-own.result.now c.consts-own.ensures

pub take_all-requires-clause-other : goal.take_all-requires-clause-other
take_all-requires-clause-other c =
    consts_in (meaning_of c.args.policy.now) (plan_of c.args.table.now) c.requires.fits c.args.victim.now.core c.consts-other.result.now c.consts-other.ensures

pub take_all-requires-clause-may : goal.take_all-requires-clause-may
take_all-requires-clause-may c =
    let a = c.args.thief.now in let b = c.args.victim.now in
    may_go_over (meaning_of c.args.policy.now) (plan_of c.args.table.now) a.core a.state b.core b.state c.requires

pub returns-clause-threads : goal.returns-clause-threads
returns-clause-threads c =
    let plan = plan_of c.args.table.now in let a = c.args.thief.now.core in let b = c.args.victim.now.core in
    c.take_all.ensures.moves plan a b (consts_are plan a c.consts-own.result.now c.consts-own.ensures) (consts_are plan b c.consts-other.result.now c.consts-other.ensures)
