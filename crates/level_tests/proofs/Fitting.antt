-- Cores whose numbers lie in the ranges of the worked policies.
use Rattle.std.proofs.Common.{◌≤◌, ℕ, pos, arith}
use Rattle.std.proofs.lemmas.Int.{ints}
use Rattle.policy_eval.specs.declared.env.CoreValues.{CoreValues}
use Rattle.policy_eval.specs.Fitting.{CoreFits}
use Rattle.policy_eval.specs.Ranges.{IsIn, range}
use Rattle.level_policy.specs.Compiled.{compiled}
use Rattle.level_policy.specs.Levels.{LevelsMeaning}
use Rattle.level_tests.specs.LevelPolicies.{numa, seen}

up_to : (high n : ℕ) → n ≤ high → IsIn (range (pos 0) (pos high)) (pos n)
up_to high n below = record { above = omega (arith, ints); below = omega (arith, ints) }

-- a core on that node. The policies of the other rows with nodes declare the same
pub node_fits : (nr node : ℕ) → nr ≤ 1023 → node ≤ 1 → CoreFits numa.plain (seen nr node 0)
node_fits nr node few small = record {
  loads = record { few = few; light = omega arith; heavy = omega arith };
  consts = (up_to 1 node small, (zero, (zero, (zero, (zero, (zero, (zero, (zero, tt))))))));
}
  where
    zero : IsIn (range (pos 0) (pos 0)) (pos 0)
    zero = up_to 0 0 (omega arith)

-- the compiled policy has the same ranges
pub compiled_fits : (l : LevelsMeaning) (core : CoreValues) → CoreFits l.plain core → CoreFits (compiled l) core
compiled_fits l core fits = record {
  loads = record { few = fits.loads.few; light = fits.loads.light; heavy = fits.loads.heavy };
  consts = fits.consts;
}
