-- Parts of a text that are read. They serve the code alone.
use Rattle.std.specs.Prelude.{◌≡◌, ℕ, ◌+◌, ◌<◌, List, ◌∷◌, ◌++◌}
use Rattle.linear_cert.specs.Right.{CertTree, leaf, split, SplitsAtMost}
use Rattle.cert_lines.specs.declared.fault.CertFault.{CertFault}
use Rattle.cert_lines.specs.declared.fault.CertFault.TheVariants.{BadText, Memory}
use Rattle.cert_lines.specs.declared.node.Node.{Node}
use Rattle.cert_lines.specs.declared.node.Node.TheVariants.{Leaf, Split}
use Rattle.cert_lines.specs.Faults.{IsBadAt}
use Rattle.cert_lines.specs.Nodes.{IsLineOf}
use Rattle.cert_lines.specs.Text.{AreInRange, cert_text}

-- how many nodes a certificate has, and so how many lines its text
abbrev pub nodes_of : CertTree → ℕ
nodes_of (leaf mults) = 1
nodes_of (split variable at left right) = 1 + (nodes_of left + nodes_of right)

-- the node may stand where so many splits may still stand one within another
abbrev pub MayStand : ℕ → Node → Type 0
MayStand room (Leaf mults) = Unit {0}
MayStand room (Split variable at) = 0 < room

-- a node is read from the text's first line
pub record IsNextNode (room number : ℕ) (text : List ℕ) (node : Node) (behind : List ℕ) (next : ℕ) : Type 0 where
  pub line : List ℕ
  pub text_is : text ≡ line ++ 10 ∷ behind
  pub is : IsLineOf node line
  pub may_stand : MayStand room node
  pub next_is : next ≡ number + 1

-- a certificate is read from the front of the text, whose first line has that number
pub record IsPart (room number : ℕ) (text : List ℕ) (tree : CertTree) (behind : List ℕ) (next : ℕ) : Type 0 where
  pub text_is : text ≡ cert_text tree ++ behind
  pub within : SplitsAtMost room tree
  pub in_range : AreInRange tree
  pub next_is : next ≡ number + nodes_of tree

-- no certificate stands there: the line is bad, whatever parts are to come behind it
abbrev pub FailsIn : ℕ → ℕ → List ℕ → CertFault → Type 0
FailsIn room number text (BadText at) = (coming : List ℕ) → IsBadAt (room ∷ coming) number text at
FailsIn room number text Memory = Unit {0}
