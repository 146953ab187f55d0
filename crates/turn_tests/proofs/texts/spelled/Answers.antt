use Rattle.policy_tree.specs.Meaning.{meaning_of}
use Rattle.sched_history.proofs.Printable.{legal_is_printable}
use Rattle.turn_tests.proofs.texts.spelled.Goals as goal

pub put_history-requires : goal.put_history-requires
put_history-requires c = legal_is_printable (meaning_of c.args.policy.now) c.args.plan.now c.args.history.now c.requires.fits c.requires.limits c.requires.legal c.requires.few
