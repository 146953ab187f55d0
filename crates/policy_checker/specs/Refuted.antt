-- What refutes a system.
use Rattle.linear_form.specs.System.{LinearSystem}
use Rattle.linear_cert.specs.Right.{CertTree, IsRight, IsShallow}

-- The certificate is right for the system, and no split of it stands within `MAX_SPLITS` others.
pub record Refutes (system : LinearSystem) (tree : CertTree) : Type 0 where
  pub right : IsRight system.bounds system.rows tree
  pub shallow : IsShallow tree
