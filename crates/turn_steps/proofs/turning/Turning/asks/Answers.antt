use Rattle.std.proofs.Common.{sym, subst}
use Rattle.turn_steps.specs.States.{state_of}
use Rattle.turn_steps.proofs.Asked.{IsAskedRight, asked_right}
use Rattle.turn_steps.proofs.turning.Turning.asks.Goals as goal

pub returns-clause-model : goal.returns-clause-model
returns-clause-model c =
    let t = c.args.self.now in let plan = c.args.plan.now in let right = asked_right plan (state_of t) c.requires.plan t.within t.behind in
    (subst (IsAskedRight plan (state_of t)) (sym c.asked.ensures) right).model

pub returns-clause-awaits : goal.returns-clause-awaits
returns-clause-awaits c =
    let t = c.args.self.now in let plan = c.args.plan.now in let right = asked_right plan (state_of t) c.requires.plan t.within t.behind in
    (subst (IsAskedRight plan (state_of t)) (sym c.asked.ensures) right).awaits

pub returns-clause-thread : goal.returns-clause-thread
returns-clause-thread c =
    let t = c.args.self.now in let plan = c.args.plan.now in let right = asked_right plan (state_of t) c.requires.plan t.within t.behind in
    (subst (IsAskedRight plan (state_of t)) (sym c.asked.ensures) right).thread

pub returns-clause-over : goal.returns-clause-over
returns-clause-over c =
    let t = c.args.self.now in let plan = c.args.plan.now in let right = asked_right plan (state_of t) c.requires.plan t.within t.behind in
    (subst (IsAskedRight plan (state_of t)) (sym c.asked.ensures) right).over

pub returns-clause-look : goal.returns-clause-look
returns-clause-look c =
    let t = c.args.self.now in let plan = c.args.plan.now in let right = asked_right plan (state_of t) c.requires.plan t.within t.behind in
    (subst (IsAskedRight plan (state_of t)) (sym c.asked.ensures) right).look
