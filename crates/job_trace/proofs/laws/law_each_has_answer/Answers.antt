-- Reading comes to a trace or to a fault.
use Rattle.job_trace.proofs.AnswerLemmas.{each_answered}
use Rattle.job_trace.proofs.laws.law_each_has_answer.Goals as goal

pub returns : goal.returns
returns c = each_answered
