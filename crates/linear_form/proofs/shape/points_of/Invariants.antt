use Rattle.std.proofs.Common.{◌≡◌, ◌*◌, ◌<◌, ◌^◌, drop}
use Rattle.linear_form.specs.Points.{points_of}
use Rattle.linear_form.proofs.shape.points_of.Given as goal

-- what is left to multiply with makes it the whole product, and it fits
abbrev pub invariant-loop-bound : goal.invariant-loop-bound
invariant-loop-bound l = record {
  left : l.points * points_of (drop l.bound-index l.bounds) ≡ points_of l.bounds;
  small : l.points < 2 ^ 128;
}
