use Rattle.std.proofs.Common.{◌≡◌, ◌≤◌, ◌+◌, length, ap, sym, ◌∙◌, subst, arith}
use Rattle.round_model.specs.declared.plan.Plan.{Plan}
use Rattle.turn_steps.specs.Answers.{told_so_far}
use Rattle.turn_steps.specs.Reaches.{IsOver}
use Rattle.turn_steps.specs.States.{TurnState, state_of}
use Rattle.core_calls.proofs.Ending.{has_turned}
use Rattle.core_calls.proofs.Knowing.{told_within}
use Rattle.core_calls.proofs.TurnEnds.{come_further, ended, turned_since}
use Rattle.core_calls.proofs.turns.turn.Goals as goal

pub loop-smaller : goal.loop-smaller
loop-smaller g c =
    let t = state_of c.loop.turning in let u = state_of c.crew_step.new.turning in let v = g.C.CoreCalls.view c.crew_step.new.calls in
    let i = c.loop.invariant in let e = c.crew_step.ensures in let now = come_further c.args.core c.args.round (g.G.Gate.passed c.args.gate.now) (g.C.CoreCalls.view c.args.calls.now) (g.C.CoreCalls.view c.loop.calls) v t u c.crew_step.result i.come e.steps e.playing.0 e.playing.1 e.passed in
    let plan : v.plan ≡ c.args.plan.now = ap (λ x. x.plan) now.rest ∙ sym c.requires.plan in
    let few : length (told_so_far u) ≤ c.args.plan.now.limit + 2 = subst (λ (x : Plan). length (told_so_far u) ≤ x.limit + 2) plan (told_within u v now.playing.told (g.met.C.CoreCalls.known c.crew_step.new.calls e.ready.0)) in
    let more = e.more c.loop-test.true in omega arith

pub returns-clause-turned : goal.returns-clause-turned
returns-clause-turned g c =
    let t = state_of c.loop.turning in let u = state_of c.crew_step.new.turning in let v = g.C.CoreCalls.view c.crew_step.new.calls in let first = g.C.CoreCalls.view c.args.calls.now in
    let i = c.loop.invariant in let e = c.crew_step.ensures in let now = come_further c.args.core c.args.round (g.G.Gate.passed c.args.gate.now) first (g.C.CoreCalls.view c.loop.calls) v t u c.crew_step.result i.come e.steps e.playing.0 e.playing.1 e.passed in
    let was : IsOver t.reached = e.over.0 c.loop-test.false in
    let over : IsOver u.reached = ended c.crew_step.result t u (g.C.CoreCalls.view c.loop.calls) v e.steps c.loop-test.false was in
    turned_since c.args.core c.args.round (g.G.Gate.passed c.args.gate.now) first v u _ now
    (has_turned u v e.playing.0 over c.turned-entries.result.0 c.turned-entries.result.1 (c.turned-entries.ensures.view v now.playing.told))
