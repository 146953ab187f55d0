-- The variables so far stand in the line.
use Rattle.std.proofs.Common.{◌≡◌, ◌++◌, take}
use Rattle.std.specs.List.{flat_map, zip}
use Rattle.policy_tree.specs.Meaning.{meaning_of}
use Rattle.policy_answers.specs.Points.{value_text}
use Rattle.policy_answers.proofs.points.add_values.Given as goal

abbrev pub invariant-loop-at : goal.invariant-loop-at
invariant-loop-at l = l.line.items ≡ l.fn.line.items ++ flat_map (value_text (meaning_of l.policy)) (take l.at (zip l.vars l.vals))
