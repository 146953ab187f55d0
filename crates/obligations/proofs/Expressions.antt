-- What follows on each side of a condition's comparisons.
use Rattle.policy_tree.specs.Trees.{ExprTree, CondTree, always, negated, both, either, test}
use Rattle.policy_eval.specs.Forms.{EachSide}

-- what follows on each side
pub EachSide-mono : (P Q : ExprTree → Type 0) → ((e : ExprTree) → P e → Q e) → (c : CondTree) → EachSide P c → EachSide Q c
EachSide-mono P Q more always sides = sides
EachSide-mono P Q more (negated c) sides = EachSide-mono P Q more c sides
EachSide-mono P Q more (both l r) sides = (EachSide-mono P Q more l sides.0, EachSide-mono P Q more r sides.1)
EachSide-mono P Q more (either l r) sides = (EachSide-mono P Q more l sides.0, EachSide-mono P Q more r sides.1)
EachSide-mono P Q more (test how l r) sides = (more l sides.0, more r sides.1)
