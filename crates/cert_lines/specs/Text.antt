-- The text of a certificate: a line for each node, each ended by a line feed.
use Rattle.std.specs.Prelude.{◌≡◌, ℕ, ◌<◌, ◌^◌, List, [], ◌∷◌, ◌++◌, All, ℤ, FitsSigned, codes, decimal}
use Rattle.std.specs.Fmt.{signed_decimal}
use Rattle.std.specs.Int.{w64}
use Rattle.linear_cert.specs.declared.cert.Mult.{Mult}
use Rattle.linear_cert.specs.Right.{CertTree, leaf, split, IsShallow}

-- a multiplier: a space, the row, a colon, and how often it is taken
abbrev pub mult_text : Mult → List ℕ
mult_text mult = 32 ∷ (decimal mult.row ++ 58 ∷ decimal mult.by)

abbrev pub mults_text : List Mult → List ℕ
mults_text [] = []
mults_text (mult ∷ mults) = mult_text mult ++ mults_text mults

-- the line of a leaf, and that of a split
abbrev pub leaf_line : List Mult → List ℕ
leaf_line mults = codes "leaf" ++ mults_text mults

abbrev pub split_line : ℕ → ℤ → List ℕ
split_line variable at = codes "split " ++ (decimal variable ++ 32 ∷ signed_decimal at)

-- a split comes before its left part, and that before its right part
abbrev pub cert_text : CertTree → List ℕ
cert_text (leaf mults) = leaf_line mults ++ 10 ∷ []
cert_text (split variable at left right) = split_line variable at ++ 10 ∷ (cert_text left ++ cert_text right)

-- the numbers of a multiplier are those that its fields hold
pub record IsMult (mult : Mult) : Type 0 where
  pub row : mult.row < 2 ^ 32
  pub by : mult.by < 2 ^ 64

-- those of a split
pub record IsSplit (variable : ℕ) (at : ℤ) : Type 0 where
  pub variable_fits : variable < 2 ^ 32
  pub at_fits : FitsSigned w64 at

-- those of a certificate
abbrev pub AreInRange : CertTree → Type 0
AreInRange (leaf mults) = All IsMult mults
AreInRange (split variable at left right) = IsSplit variable at × AreInRange left × AreInRange right

-- the text is that of the certificate, in which no split stands within 128 others
pub record SpellsCertificate (text : List ℕ) (tree : CertTree) : Type 0 where
  pub text_is : text ≡ cert_text tree
  pub shallow : IsShallow tree
  pub in_range : AreInRange tree
