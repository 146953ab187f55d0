-- What a refutation by elimination is worth.
use Rattle.std.specs.Prelude.{List}
use Rattle.linear_form.specs.declared.form.Row.{Row}
use Rattle.linear_form.specs.declared.form.Bound.{Bound}
use Rattle.linear_form.specs.Solution.{HasNoSolution}
use Rattle.linear_form.specs.System.{IsSystem}
use Rattle.linear_solver.specs.Elimination.{IsRefutedByElimination}

-- A system that elimination refutes has no solution.
abbrev pub EliminationIsSound : Type 0
EliminationIsSound =
    (bounds : List Bound) (rows : List Row) → IsSystem (record { bounds = bounds; rows = rows }) →
    IsRefutedByElimination bounds rows
    → HasNoSolution bounds rows
