use Rattle.std.proofs.Common.{◌≡◌, Some, sym, ap, ap₂, subst, ◌∙◌}
use Rattle.sched_base.specs.declared.task.Task.{Task}
use Rattle.round_model.specs.Moves.{handed, queued_of, received}
use Rattle.run_queue.specs.Tasks.{IsSeenTask}
use Rattle.core_state.specs.Views.{CoreView}
use Rattle.runtime_tests.specs.Stages.{at_burst}
use Rattle.runtime_tests.proofs.Moments.{seen_task, two_arrives, two_hands}
use Rattle.runtime_tests.proofs.cores.two_moves.Goals as goal

pub receive-requires-clause-task : goal.receive-requires-clause-task
receive-requires-clause-task c =
    let there : Some (at_burst 2 0) ≡ Some c.hand_over-stolen.result = sym (ap (λ (v : CoreView). queued_of 2 v.core) c.requires.from) ∙ c.hand_over-stolen.ensures.task in
    let same : at_burst 2 0 ≡ c.hand_over-stolen.result = cc in
    subst IsSeenTask same (seen_task 2 0)

pub returns-clause-from : goal.returns-clause-from
returns-clause-from c =
    c.hand_over-stolen.ensures.core ∙ (ap (λ (v : CoreView). let u : CoreView = record v { core = handed 2 v.core } in u) c.requires.from ∙ two_hands)

pub returns-clause-to : goal.returns-clause-to
returns-clause-to c =
    let there : Some (at_burst 2 0) ≡ Some c.hand_over-stolen.result = sym (ap (λ (v : CoreView). queued_of 2 v.core) c.requires.from) ∙ c.hand_over-stolen.ensures.task in
    let same : c.hand_over-stolen.result ≡ at_burst 2 0 = cc in
    c.receive.ensures
    ∙ (ap₂ (λ (v : CoreView) (t : Task). let u : CoreView = record v { core = received t v.core } in u) c.requires.to same ∙ two_arrives)
