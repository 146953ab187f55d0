use Rattle.std.proofs.Common.{◌≡◌, length, vec_capacity}
use Rattle.parallel_play.specs.Stages.{table_in}
use Rattle.crew_play.specs.Hands.{IsCrew}
use Rattle.crew_play.proofs.Passing.{AreTold}
use Rattle.crew_play.proofs.playing.play_hands.Given as goal

-- the hands are those of the same cores, and each turn that isn't over was told at least as much as there were passes
abbrev pub invariant-loop : goal.invariant-loop
invariant-loop g l = record {
  crew : IsCrew (table_in l.stage) (g.G.Gate.passed l.gate) l.stage.round l.first l.hands.items;
  len : length l.hands.items ≡ length l.fn.hands.items;
  capacity : vec_capacity l.hands ≡ vec_capacity l.fn.hands;
  told : AreTold l.counter l.hands.items;
}
