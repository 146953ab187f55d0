-- The tokens of expressions, each as it is spelled.
use Rattle.std.specs.Prelude.{ℕ, List, [], ◌∷◌, ◌++◌, Bool, true, false, codes, decimal, replicate}
use Rattle.std.specs.List.{flat_map}
use Rattle.policy_syntax.specs.declared.syntax.IntSyntax.{IntSyntax}
use Rattle.policy_syntax.specs.declared.syntax.RangeSyntax.{RangeSyntax}
use Rattle.policy_syntax.specs.declared.syntax.OperandSyntax.{OperandSyntax}
use Rattle.policy_syntax.specs.declared.syntax.OperandSyntax.TheVariants as operand
use Rattle.policy_syntax.specs.declared.syntax.FactorSyntax.{FactorSyntax}
use Rattle.policy_syntax.specs.declared.syntax.TimesSyntax.{TimesSyntax}
use Rattle.policy_syntax.specs.declared.syntax.TermSyntax.{TermSyntax}
use Rattle.policy_syntax.specs.declared.syntax.AddedSyntax.{AddedSyntax}
use Rattle.policy_syntax.specs.declared.syntax.ExprSyntax.{ExprSyntax}
use Rattle.policy_printer.specs.WordTexts.{sign_text, owner_text}

-- the sign of a number, where it has one
abbrev pub negative_texts : Bool → List (List ℕ)
negative_texts true = codes "-" ∷ []
negative_texts false = []

abbrev pub int_texts : IntSyntax → List (List ℕ)
int_texts v = negative_texts v.negative ++ (decimal v.value ∷ [])

abbrev pub range_texts : RangeSyntax → List (List ℕ)
range_texts v = int_texts v.low ++ (codes ".." ∷ int_texts v.high)

abbrev pub operand_texts : OperandSyntax → List (List ℕ)
operand_texts (operand.Number value) = decimal value ∷ []
operand_texts (operand.Reference owner word) = owner_text owner ∷ codes "." ∷ word ∷ []

abbrev pub factor_texts : FactorSyntax → List (List ℕ)
factor_texts v = replicate v.signs (codes "-") ++ operand_texts v.operand

abbrev pub times_texts : TimesSyntax → List (List ℕ)
times_texts v = codes "*" ∷ factor_texts v.factor

abbrev pub term_texts : TermSyntax → List (List ℕ)
term_texts v = factor_texts v.first ++ flat_map times_texts v.rest

abbrev pub added_texts : AddedSyntax → List (List ℕ)
added_texts v = sign_text v.minus ∷ term_texts v.term

abbrev pub expr_texts : ExprSyntax → List (List ℕ)
expr_texts v = term_texts v.first ++ flat_map added_texts v.rest
