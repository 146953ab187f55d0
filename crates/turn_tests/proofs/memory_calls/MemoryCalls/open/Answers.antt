use Rattle.std.proofs.Common.{◌∙◌}
use Rattle.policy_tree.specs.Meaning.{meaning_of}
use Rattle.turn_tests.proofs.Begun.{opened}
use Rattle.turn_tests.proofs.memory_calls.MemoryCalls.open.Goals as goal

pub returns-clause-kept : goal.returns-clause-kept
returns-clause-kept c =
    let policy = c.args.policy.now in let plan = c.args.plan.now in let past = c.in_ok-past.ensures in
    opened policy plan c.in_ok-past.past c.from_vec.result c.requires.fits c.requires.handlers (c.from_vec.ensures ∙ c.new-2.ensures.items) (past.stands (meaning_of policy)) (past.belongs (meaning_of policy) c.requires.fits)
