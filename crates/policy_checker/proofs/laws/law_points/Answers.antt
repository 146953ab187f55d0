use Rattle.policy_checker.proofs.Points.{points_refute}
use Rattle.policy_checker.proofs.laws.law_points.Goals as goal

pub returns : goal.returns
returns c = points_refute
