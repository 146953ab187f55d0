use Rattle.std.proofs.Common.{ap, ◌∙◌, sym, subst}
use Rattle.policy_tree.specs.Meaning.{Meaning, meaning_of}
use Rattle.policy_eval.specs.Fitting.{IsTask}
use Rattle.core_moves.specs.Code.Changes.{CanAdmit}
use Rattle.core_table.specs.Public.{plan_of, policy_of}
use Rattle.core_calls.specs.Actors.{table_of}
use Rattle.core_calls.proofs.Held.{due_blocked}
use Rattle.core_calls.proofs.Standing.{blocked_fits, comes_over}
use Rattle.core_calls.proofs.actor.Actor.send_due.Goals as goal

pub release_blocked-task-requires : goal.release_blocked-task-requires
release_blocked-task-requires c =
    let self = c.args.self.now in let own = c.args.from.now in let other = c.args.to.now in let thread = c.in_ok-thread.thread in let two = c.requires in
    let table = table_of self in let p = meaning_of (policy_of table) in let plan = plan_of table in
    let due = sym c.due.ensures ∙ c.in_ok-thread.was in let there = due_blocked c.args.round thread own.state.core due in
    there

pub admit-requires-clause-task : goal.admit-requires-clause-task
admit-requires-clause-task c =
    let self = c.args.self.now in let own = c.args.from.now in let other = c.args.to.now in let thread = c.in_ok-thread.thread in let two = c.requires in
    let table = table_of self in let p = meaning_of (policy_of table) in let plan = plan_of table in
    let due = sym c.due.ensures ∙ c.in_ok-thread.was in let there = due_blocked c.args.round thread own.state.core due in
    subst (λ (q : Meaning). IsTask q c.release_blocked-task.result) (sym (ap meaning_of self.under))
    (blocked_fits p plan two.fits two.handlers two.history two.legal thread own.core own.state two.first two.first_now c.release_blocked-task.result c.release_blocked-task.ensures.task)

pub admit-requires-clause-consts : goal.admit-requires-clause-consts
admit-requires-clause-consts c =
    let self = c.args.self.now in let own = c.args.from.now in let other = c.args.to.now in let thread = c.in_ok-thread.thread in let two = c.requires in
    let table = table_of self in let p = meaning_of (policy_of table) in let plan = plan_of table in
    let due = sym c.due.ensures ∙ c.in_ok-thread.was in let there = due_blocked c.args.round thread own.state.core due in
    let can = subst (λ (q : Meaning). CanAdmit q other.state) (sym (ap meaning_of self.under))
    (comes_over p plan two.fits two.handlers two.history two.legal thread own.core own.state two.first two.first_now other.core other.state two.apart two.second two.second_now there) in
    can.consts

pub admit-requires-clause-room : goal.admit-requires-clause-room
admit-requires-clause-room c =
    let self = c.args.self.now in let own = c.args.from.now in let other = c.args.to.now in let thread = c.in_ok-thread.thread in let two = c.requires in
    let table = table_of self in let p = meaning_of (policy_of table) in let plan = plan_of table in
    let due = sym c.due.ensures ∙ c.in_ok-thread.was in let there = due_blocked c.args.round thread own.state.core due in
    let can = subst (λ (q : Meaning). CanAdmit q other.state) (sym (ap meaning_of self.under))
    (comes_over p plan two.fits two.handlers two.history two.legal thread own.core own.state two.first two.first_now other.core other.state two.apart two.second two.second_now there) in
    can.room
