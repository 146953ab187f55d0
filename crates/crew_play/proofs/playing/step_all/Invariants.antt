use Rattle.std.proofs.Common.{◌≡◌, ℕ, ◌<◌, ◌≤◌, true, length, slice_index_or}
use Rattle.parallel_play.specs.Stages.{table_in}
use Rattle.turn_steps.specs.Reaches.{IsOver}
use Rattle.crew_play.specs.declared.hands.Hand.{Hand}
use Rattle.crew_play.specs.Hands.{IsCrew, IsStep, turn_in}
use Rattle.crew_play.proofs.playing.step_all.Given as goal

-- the hands are those of the same cores, and as long as none went on those passed over are over. Of those passed over one
-- step was taken each, and the others are as they were
abbrev pub invariant-loop-hand : goal.invariant-loop-hand
invariant-loop-hand g l = record {
  crew : IsCrew (table_in l.stage) (g.G.Gate.passed l.gate) l.stage.round l.first l.hand-items;
  over : l.over ≡ true → (k : ℕ) (d : Hand) → k < l.hand-index → IsOver (turn_in (slice_index_or l.hand-items k d)).reached;
  steps : (k : ℕ) (d : Hand) → k < l.hand-index → (e : Hand) → IsStep (slice_index_or l.fn.hands.items k e) (slice_index_or l.hand-items k d);
  rest : (k : ℕ) (d : Hand) → l.hand-index ≤ k → slice_index_or l.hand-items k d ≡ slice_index_or l.fn.hands.items k d;
  len : length l.hand-items ≡ length l.fn.hands.items;
}
