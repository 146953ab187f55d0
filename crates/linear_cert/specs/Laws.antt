-- What a right certificate is worth.
use Rattle.std.specs.Prelude.{List}
use Rattle.linear_form.specs.declared.form.Row.{Row}
use Rattle.linear_form.specs.declared.form.Bound.{Bound}
use Rattle.linear_form.specs.Solution.{HasNoSolution}
use Rattle.linear_cert.specs.Right.{CertTree, IsRight}

-- Bounds and rows for which a certificate is right have no solution, whoever found it.
abbrev pub RightIsSound : Type 0
RightIsSound = (bounds : List Bound) (rows : List Row) (cert : CertTree) → IsRight bounds rows cert →
    HasNoSolution bounds rows
