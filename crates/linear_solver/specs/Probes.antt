-- What the code of elimination over a box finds. Nobody who believes the contract of the decider needs these words.
use Rattle.std.specs.Prelude.{List, All}
use Rattle.linear_form.specs.declared.form.Row.{Row}
use Rattle.linear_form.specs.declared.form.Bound.{Bound}
use Rattle.linear_cert.specs.Right.{IsRightLeaf}
use Rattle.linear_solver.specs.declared.probe.Reduced.{Reduced}
use Rattle.linear_solver.specs.declared.probe.Reduced.TheVariants.{Leaf, Lists, Passed}
use Rattle.linear_solver.specs.declared.probe.Reduction.{Reduction}
use Rattle.linear_solver.specs.declared.probe.Reduction.TheVariants.{Closed, Rows, Stuck}
use Rattle.linear_solver.specs.declared.open_sums.Sums.{Sums}
use Rattle.linear_solver.specs.declared.open_sums.Sums.TheVariants.{Shut, More, Full}
use Rattle.linear_solver.specs.Follows.{IsSumRow}

-- a leaf is right
abbrev pub IsReduced : List Bound → List Row → Reduced → Type 0
IsReduced bounds rows (Leaf leaf) = IsRightLeaf bounds rows leaf
IsReduced bounds rows (Lists lists) = Unit {0}
IsReduced bounds rows Passed = Unit {0}

-- a leaf is right, and the rows of the next list are sums of the numbered rows
abbrev pub IsReduction : List Bound → List Row → Reduction → Type 0
IsReduction bounds rows (Closed leaf) = IsRightLeaf bounds rows leaf
IsReduction bounds rows (Rows with next) = All (IsSumRow bounds rows) next.items
IsReduction bounds rows Stuck = Unit {0}

-- the same of sums
abbrev pub AreSums : List Bound → List Row → Sums → Type 0
AreSums bounds rows (Shut leaf) = IsRightLeaf bounds rows leaf
AreSums bounds rows (More sums) = All (IsSumRow bounds rows) sums.items
AreSums bounds rows Full = Unit {0}
