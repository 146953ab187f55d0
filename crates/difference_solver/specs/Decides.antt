-- What an answer is worth.
use Rattle.std.specs.Prelude.{List}
use Rattle.linear_form.specs.declared.form.Bound.{Bound}
use Rattle.linear_form.specs.declared.form.Row.{Row}
use Rattle.linear_form.specs.Solution.{Solves}
use Rattle.linear_cert.specs.Right.{IsRight, IsShallow, cert_tree}
use Rattle.difference_solver.specs.declared.decided.Decided.{Decided}
use Rattle.difference_solver.specs.declared.decided.Decided.TheVariants.{Holds, Fails}

-- a certificate that is right, or a point that is a solution
abbrev pub Decides : List Bound → List Row → Decided → Type 0
Decides bounds rows (Holds cert) = IsRight bounds rows (cert_tree cert)
Decides bounds rows (Fails point) = Solves bounds rows point.vals

-- no split of the certificate stands within 128 others
abbrev pub HoldsShallowly : Decided → Type 0
HoldsShallowly (Holds cert) = IsShallow (cert_tree cert)
HoldsShallowly (Fails point) = Unit {0}
