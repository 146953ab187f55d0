-- The lines of nodes: what a line says, or that it says nothing.
use Rattle.std.specs.Prelude.{◌≡◌, ◌≢◌, ℕ, List, ◌∷◌, ◌++◌, All, ℤ, decimal}
use Rattle.linear_cert.specs.declared.cert.Mult.{Mult}
use Rattle.cert_lines.specs.declared.node.Node.{Node}
use Rattle.cert_lines.specs.declared.node.Node.TheVariants.{Leaf, Split}
use Rattle.text_forms.specs.Cuts.{StartsWith}
use Rattle.cert_lines.specs.Text.{IsMult, IsSplit, leaf_line, mult_text, mults_text, split_line}

-- the line is that of the node
abbrev pub IsLineOf : Node → List ℕ → Type 0
IsLineOf (Leaf mults) line = All IsMult mults × (line ≡ leaf_line mults)
IsLineOf (Split variable at) line = IsSplit variable at × (line ≡ split_line variable at)

-- the line is that of no node
pub record IsNoLine (line : List ℕ) : Type 0 where
  pub no_leaf : (mults : List Mult) → All IsMult mults → line ≢ leaf_line mults
  pub no_split : (variable : ℕ) (at : ℤ) → IsSplit variable at → line ≢ split_line variable at

-- the text is multipliers, or isn't
abbrev pub AreMults : List ℕ → List Mult → Type 0
AreMults text mults = All IsMult mults × (text ≡ mults_text mults)

abbrev pub AreNoMults : List ℕ → Type 0
AreNoMults text = (mults : List Mult) → All IsMult mults → text ≢ mults_text mults

-- the text begins with a multiplier, behind which a space stands or nothing, or it doesn't
pub record BeginsWithMult (text : List ℕ) (mult : Mult) (behind : List ℕ) : Type 0 where
  pub fits : IsMult mult
  pub text_is : text ≡ mult_text mult ++ behind
  pub space : StartsWith 32 behind

abbrev pub BeginsWithNoMult : List ℕ → Type 0
BeginsWithNoMult text = (mult : Mult) (behind : List ℕ) → BeginsWithMult text mult behind → ⊥

-- a word without its space
abbrev pub word_of : Mult → List ℕ
word_of mult = decimal mult.row ++ 58 ∷ decimal mult.by
