-- Lines are no more than bytes, and a bad line is one of the text's or the one behind it.
use Rattle.std.proofs.Common.{ℕ, ◌+◌, ◌≤◌, List, [], ◌∷◌, length, length-append, arith}
use Rattle.linear_cert.specs.Right.{CertTree}
use Rattle.cert_lines.specs.Faults.{IsBadAt, bad_here, bad_later}
use Rattle.cert_lines.specs.Reading.{nodes_of}
use Rattle.cert_lines.specs.Text.{cert_text}
use Rattle.cert_lines.proofs.BadLines.{lines_fit}
use Rattle.cert_file.specs.Reading.{lines_of}
use Rattle.cert_file.specs.Text.{system_line, system_text, systems_text}

pub system_fits : (tree : CertTree) → 1 + nodes_of tree ≤ length (system_text tree)
system_fits tree = omega (arith, length-append (system_line (nodes_of tree)) (10 ∷ cert_text tree), lines_fit tree)

pub systems_fit : (trees : List CertTree) → lines_of trees ≤ length (systems_text trees)
systems_fit [] = omega arith
systems_fit (tree ∷ trees) = omega (arith, length-append (system_text tree) (systems_text trees), system_fits tree, systems_fit trees)

-- a system has a line at least
pub count_fits : (trees : List CertTree) → length trees ≤ lines_of trees
count_fits [] = omega arith
count_fits (tree ∷ trees) = omega (arith, count_fits trees)

pub bad_from : (nodes : List ℕ) (number : ℕ) (text : List ℕ) (at : ℕ) → IsBadAt nodes number text at → number ≤ at
bad_from _ _ _ _ (bad_here nodes number text some none) = omega arith
bad_from _ _ _ _ (bad_later nodes after number line rest at takes bad) = omega (arith, bad_from after (number + 1) rest at bad)

pub bad_to : (nodes : List ℕ) (number : ℕ) (text : List ℕ) (at : ℕ) → IsBadAt nodes number text at → at ≤ number + length text
bad_to _ _ _ _ (bad_here nodes number text some none) = omega arith
bad_to _ _ _ _ (bad_later nodes after number line rest at takes bad) = omega (arith, bad_to after (number + 1) rest at bad, length-append line (10 ∷ rest))
