-- The expression that a syntax is, and the rules that it breaks, in the order of the text. `+`, `-` and `*` group to
-- the left.
use Rattle.std.specs.Prelude.{ℕ, zero, suc, pos, Bool, true, false, not, ◌&&◌, if◌then◌else◌, List, [], ◌∷◌, ◌++◌}
use Rattle.std.specs.Prelude.{Option, Some, None}
use Rattle.policy_syntax.specs.declared.syntax.Owner.{Owner}
use Rattle.policy_syntax.specs.declared.syntax.OperandSyntax.{OperandSyntax}
use Rattle.policy_syntax.specs.declared.syntax.OperandSyntax.TheVariants.{Number, Reference}
use Rattle.policy_syntax.specs.declared.syntax.FactorSyntax.{FactorSyntax}
use Rattle.policy_syntax.specs.declared.syntax.TimesSyntax.{TimesSyntax}
use Rattle.policy_syntax.specs.declared.syntax.TermSyntax.{TermSyntax}
use Rattle.policy_syntax.specs.declared.syntax.AddedSyntax.{AddedSyntax}
use Rattle.policy_syntax.specs.declared.syntax.ExprSyntax.{ExprSyntax}
use Rattle.policy_tree.specs.Trees.{ExprTree, number, variable, negation, plus, minus, times}
use Rattle.policy_eval.specs.Forms.{has_reference}
use Rattle.policy_types.specs.declared.fault.TypeFault.{TypeFault}
use Rattle.policy_types.specs.declared.fault.TypeFault.TheVariants.{Unknown, NotLinear, NotHere, Big}
use Rattle.policy_types.specs.declared.scope.Scope.{Scope}
use Rattle.policy_types.specs.declared.sites.Feature.{Feature}
use Rattle.policy_types.specs.declared.sites.Site.{Site}
use Rattle.policy_types.specs.Faults.{behind, where_broken}
use Rattle.policy_types.specs.Forms.{has_form, has_small_form, is_small}
use Rattle.policy_types.specs.References.{allows, feature_of, reference_of}

-- what a factor is without its signs
abbrev pub operand_meaning : Scope → OperandSyntax → ExprTree
operand_meaning scope (Number value) = number (pos value)
operand_meaning scope (Reference owner word) = variable (reference_of scope owner word)

-- with so many signs before it
abbrev pub signed : ℕ → ExprTree → ExprTree
signed zero e = e
signed (suc n) e = negation (signed n e)

abbrev pub factor_meaning : Scope → FactorSyntax → ExprTree
factor_meaning scope f = signed f.signs (operand_meaning scope f.operand)

-- multiplied by these factors, one after the other
abbrev pub times_meaning : Scope → ExprTree → List TimesSyntax → ExprTree
times_meaning scope left [] = left
times_meaning scope left (t ∷ rest) = times_meaning scope (times left (factor_meaning scope t.factor)) rest

abbrev pub term_meaning : Scope → TermSyntax → ExprTree
term_meaning scope t = times_meaning scope (factor_meaning scope t.first) t.rest

-- the difference or the sum
abbrev pub joined : Bool → ExprTree → ExprTree → ExprTree
joined true left right = minus left right
joined false left right = plus left right

-- the sum so far and one term more
abbrev pub sum_with : Scope → ExprTree → AddedSyntax → ExprTree
sum_with scope left a = joined a.minus left (term_meaning scope a.term)

-- with these terms added or taken away, one after the other
abbrev pub added_meaning : Scope → ExprTree → List AddedSyntax → ExprTree
added_meaning scope left [] = left
added_meaning scope left (a ∷ rest) = added_meaning scope (sum_with scope left a) rest

abbrev pub expr_meaning : Scope → ExprSyntax → ExprTree
expr_meaning scope e = added_meaning scope (term_meaning scope e.first) e.rest

-- an operator whose linear form isn't small. Without a linear form it isn't big
abbrev pub big_faults : ℕ → ExprTree → List TypeFault
big_faults at e = where_broken (has_form e && not (has_small_form e)) (Big at)

-- each sign from that token on is an operator
abbrev pub sign_faults : ℕ → ℕ → ExprTree → List TypeFault
sign_faults at zero e = []
sign_faults at (suc n) e = big_faults at (signed (suc n) e) ++ sign_faults (behind at 1) n e

-- a word behind a dot: it is unknown, or may not stand there
abbrev pub feature_faults : Site → ℕ → Owner → Option Feature → List TypeFault
feature_faults site at owner None = Unknown at ∷ []
feature_faults site at owner (Some feature) = where_broken (not (allows site owner feature)) (NotHere at)

-- a number or a reference that begins at that token
abbrev pub operand_faults : Scope → Site → ℕ → OperandSyntax → List TypeFault
operand_faults scope site at (Number value) = where_broken (not (is_small (pos value))) (Big at)
operand_faults scope site at (Reference owner word) =
    feature_faults site (behind at 2) owner (feature_of scope owner word)

abbrev pub factor_faults : Scope → Site → FactorSyntax → List TypeFault
factor_faults scope site f =
    sign_faults f.at f.signs (operand_meaning scope f.operand)
    ++ operand_faults scope site (behind f.at f.signs) f.operand

-- the sign of a product: both sides have a reference, or the form is big
abbrev pub product_faults : ℕ → ExprTree → ExprTree → List TypeFault
product_faults at left right =
    if has_reference left && has_reference right then NotLinear at ∷ [] else big_faults at (times left right)

abbrev pub times_faults : Scope → Site → ExprTree → List TimesSyntax → List TypeFault
times_faults scope site left [] = []
times_faults scope site left (t ∷ rest) =
    product_faults t.at left (factor_meaning scope t.factor)
    ++ (factor_faults scope site t.factor
    ++ times_faults scope site (times left (factor_meaning scope t.factor)) rest)

abbrev pub term_faults : Scope → Site → TermSyntax → List TypeFault
term_faults scope site t =
    factor_faults scope site t.first ++ times_faults scope site (factor_meaning scope t.first) t.rest

abbrev pub added_faults : Scope → Site → ExprTree → List AddedSyntax → List TypeFault
added_faults scope site left [] = []
added_faults scope site left (a ∷ rest) =
    big_faults a.at (sum_with scope left a)
    ++ (term_faults scope site a.term ++ added_faults scope site (sum_with scope left a) rest)

abbrev pub expr_faults : Scope → Site → ExprSyntax → List TypeFault
expr_faults scope site e =
    term_faults scope site e.first ++ added_faults scope site (term_meaning scope e.first) e.rest
