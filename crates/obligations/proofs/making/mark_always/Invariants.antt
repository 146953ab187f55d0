use Rattle.std.proofs.Common.{◌≡◌, ℕ, ◌<◌, length, ltb}
use Rattle.obligations.specs.Marks.{kept_of}
use Rattle.obligations.proofs.making.mark_always.Given as goal

abbrev pub invariant-loop-variable : goal.invariant-loop-variable
invariant-loop-variable l = record {
  each : (v : ℕ) → v < 30 → kept_of l.marks v ≡ ltb v l.variable;
  long : length l.marks ≡ 30;
}
