use Rattle.std.proofs.Common.{◌∙◌, inr, refl, ap, arith}
use Rattle.round_model.specs.declared.plan.Plan.{Plan}
use Rattle.parallel_play.specs.Stages.{table_in}
use Rattle.crew_play.proofs.Passing.{passed_all, told_next}
use Rattle.crew_play.proofs.playing.play_hands.Goals as goal

pub loop-init : goal.loop-init
loop-init g c = record { crew = c.requires.crew; len = refl; capacity = refl; told = λ k d low. inr (omega arith) }

pub loop-preserved : goal.loop-preserved
loop-preserved g c =
    let i = c.loop.invariant in let s = c.step_all.ensures in record {
      crew = s.crew;
      len = s.len ∙ i.len;
      capacity = s.capacity ∙ i.capacity;
      told = told_next c.loop.counter c.loop.hands.items c.step_all.new.hands.items s.len s.steps i.told;
    }

pub returns-clause-over : goal.returns-clause-over
returns-clause-over g c =
    let i = c.loop.invariant in let ends = c.loop-test.false in let limit = ap (λ (p : Plan). p.limit) c.args.stage.now.of in
    passed_all (table_in c.args.stage.now) (g.G.Gate.passed c.args.gate.now) c.args.stage.now.round c.args.first c.loop.counter c.loop.hands.items i.crew (omega arith) i.told
