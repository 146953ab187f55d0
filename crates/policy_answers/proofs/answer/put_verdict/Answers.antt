-- The lines of an undecided policy.
use Rattle.policy_answers.proofs.answer.put_verdict.Goals as goal

pub returns-in-Undecided : goal.returns-in-Undecided
returns-in-Undecided g c = rw c.in-Undecided.is (rw c.as_slice-in-Undecided.ensures.items at c.put_answers-in-Undecided.ensures)
