use Rattle.std.proofs.Common.{refl, ap, rules, ◌∙◌}
use Rattle.turn_steps.specs.States.{first_state}
use Rattle.turn_tests.specs.Memory.{core_of, plan_of}
use Rattle.turn_tests.proofs.Telling.{beside_fresh, same_on}
use Rattle.turn_tests.proofs.single_steps.take_steps.Goals as goal

pub loop-init : goal.loop-init
loop-init g c =
    let it = c.args.calls.now in
    record {
      next = search rules;
      finite = search rules;
      beside = beside_fresh (g.G.Gate.passed c.args.gate.now) it c.requires.ready c.requires.fresh _ (c.new-turning.ensures ∙ ap (first_state (plan_of it) (core_of it)) c.round.ensures);
      same = record { policy = refl; plan = refl; core = refl; others = λ core apart. refl };
    }

pub loop-preserved : goal.loop-preserved
loop-preserved g c = record {
  next = search rules;
  finite = search rules;
  beside = c.step.ensures.beside;
  same = same_on c.args.calls.now c.loop.calls c.step.new.calls c.loop.invariant.same c.step.ensures.same;
}

pub returns-in_err-step-clause-same : goal.returns-in_err-step-clause-same
returns-in_err-step-clause-same g c = same_on c.args.calls.now c.loop.calls c.step.new.calls c.loop.invariant.same c.step.ensures.same
