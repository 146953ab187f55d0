use Rattle.policy_tree.specs.Meaning.{meaning_of}
use Rattle.policy_eval.proofs.Statements.{handler_obligations}
use Rattle.history_replay.proofs.answer.report_texts.Goals as goal

pub judge_texts-requires-clause-handlers : goal.judge_texts-requires-clause-handlers
judge_texts-requires-clause-handlers c = handler_obligations (meaning_of c.args.policy.now) c.requires.meets
