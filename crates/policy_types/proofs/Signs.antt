-- Signs change no magnitude.
use Rattle.std.proofs.Common.{◌≡◌, ℕ, zero, suc, ◌+◌, ◌^◌, ◌<◌, ◌≤◌, eqb, ℤ, pos, neg_ℤ, leb, Bool, true, false, not, cond, ◌&&◌, List, [], ◌∷◌, ◌++◌, Some, refl, sym, ap, ap₂, subst, ◌∙◌, arith, add-one}
use Rattle.std.proofs.lemmas.Int.{ints}
use Rattle.std.proofs.lemmas.Bool.{le-leb}
use Rattle.std.proofs.lemmas.Bool.Decides.{leb_tells}
use Rattle.sched_base.specs.declared.limits.TheConstants.{MAX_VARIABLES}
use Rattle.policy_tree.specs.Trees.{ExprTree, negation, number, variable}
use Rattle.policy_syntax.specs.declared.syntax.FactorSyntax.{FactorSyntax}
use Rattle.policy_syntax.specs.declared.syntax.OperandSyntax.TheVariants.{Number, Reference}
use Rattle.policy_syntax.specs.declared.syntax.Owner.{Owner}
use Rattle.policy_eval.specs.Forms.{coefficient_of, constant_of}
use Rattle.policy_types.specs.declared.fault.TypeFault.{TypeFault}
use Rattle.policy_types.specs.declared.fault.TypeFault.TheVariants.{Big}
use Rattle.policy_types.specs.declared.scope.Scope.{Scope}
use Rattle.policy_types.specs.declared.sites.Site.{Site}
use Rattle.policy_types.specs.Expressions.{big_faults, factor_faults, factor_meaning, feature_faults, operand_faults, operand_meaning, sign_faults, signed}
use Rattle.policy_types.specs.Faults.{IsFirst, behind, first_of, where_broken}
use Rattle.policy_types.specs.Forms.{all_below, has_form, has_small_form, is_small}
use Rattle.policy_types.specs.References.{feature_of, reference_of}
use Rattle.policy_types.proofs.Firsts.{behind_none, first_behind, none_both}
use Rattle.policy_types.proofs.Small.{big_constant, small_abs, small_form, small_zero}

small_neg : (x : ℤ) → is_small (neg_ℤ x) ≡ is_small x
small_neg x = small_abs (neg_ℤ x) ∙ (ap (λ n. leb n 1099511627776) (omega (arith, ints)) ∙ sym (small_abs x))

all_below-same : (f g : ℕ → Bool) (n : ℕ) → ((v : ℕ) → f v ≡ g v) → all_below f n ≡ all_below g n
all_below-same f g zero same = refl
all_below-same f g (suc n) same = ap₂ (λ a b. a && b) (same n) (all_below-same f g n same)

negation_small : (e : ExprTree) → has_small_form (negation e) ≡ has_small_form e
unfolding has_small_form
negation_small e =
    ap₂ (λ a b. a && b) (small_neg (constant_of e))
    (all_below-same (λ v. is_small (neg_ℤ (coefficient_of e v))) (λ v. is_small (coefficient_of e v)) (suc MAX_VARIABLES) (λ v. small_neg (coefficient_of e v)))

pub signed_small : (n : ℕ) (e : ExprTree) → has_small_form (signed n e) ≡ has_small_form e
signed_small zero e = refl
signed_small (suc n) e = negation_small (signed n e) ∙ signed_small n e

pub signed_form : (n : ℕ) (e : ExprTree) → has_form (signed n e) ≡ has_form e
signed_form zero e = refl
signed_form (suc n) e = signed_form n e

pub signed_more : (n : ℕ) (e : ExprTree) → signed (n + 1) e ≡ negation (signed n e)
signed_more n e = ap (λ (m : ℕ). signed m e) (add-one n)

-- a small form isn't big at any operator
pub small_none : (at : ℕ) (e : ExprTree) → has_small_form e ≡ true → big_faults at e ≡ []
small_none at e small = rw small (either (has_form e))
  where
    either : (b : Bool) → where_broken (b && false) (Big at) ≡ []
    either true = refl
    either false = refl

small_lone : (b : Bool) → is_small (cond b (pos 1) (pos 0)) ≡ true
unfolding is_small
small_lone true = refl
small_lone false = refl

pub variable_small : (at : ℕ) → has_small_form (variable at) ≡ true
variable_small at = small_form (variable at) small_zero (λ v known. small_lone (eqb at v))

pub number_small : (x : ℤ) → is_small x ≡ true → has_small_form (number x) ≡ true
number_small x small = small_form (number x) small (λ v known. small_zero)

pub number_big : (x : ℤ) → is_small x ≡ false → has_small_form (number x) ≡ false
number_big x big = big_constant (number x) big

sign_none : (at n : ℕ) (e : ExprTree) → has_small_form e ≡ true → sign_faults at n e ≡ []
sign_none at zero e small = refl
sign_none at (suc n) e small =
    none_both (big_faults at (signed (suc n) e)) (sign_faults (behind at 1) n e)
    (small_none at (signed (suc n) e) (signed_small (suc n) e ∙ small)) (sign_none (behind at 1) n e small)

-- a factor whose operand has a small form
module _ (scope : Scope) (site : Site) (f : FactorSyntax) (small : has_small_form (operand_meaning scope f.operand) ≡ true) where
  pub factor_small : has_small_form (factor_meaning scope f) ≡ true
  factor_small = signed_small f.signs (operand_meaning scope f.operand) ∙ small

  pub factor_sound : operand_faults scope site (behind f.at f.signs) f.operand ≡ [] → factor_faults scope site f ≡ []
  factor_sound none =
      none_both (sign_faults f.at f.signs (operand_meaning scope f.operand)) (operand_faults scope site (behind f.at f.signs) f.operand)
      (sign_none f.at f.signs (operand_meaning scope f.operand) small) none

  pub factor_first : (fault : TypeFault) → IsFirst (operand_faults scope site (behind f.at f.signs) f.operand) fault → IsFirst (factor_faults scope site f) fault
  factor_first fault is =
      first_behind (sign_faults f.at f.signs (operand_meaning scope f.operand)) (operand_faults scope site (behind f.at f.signs) f.operand) fault
      (sign_none f.at f.signs (operand_meaning scope f.operand) small) is

-- a number that is too big is so at the first sign
pub number_first : (at signs : ℕ) (x : ℤ) → at < 2 ^ 32 → is_small x ≡ false → (rest : List TypeFault) → rest ≡ Big (behind at signs) ∷ [] → first_of (sign_faults at signs (number x) ++ rest) ≡ Some (Big at)
number_first at zero x fits big rest is = rw is (ap (λ n. Some (Big n)) (behind_none at fits))
number_first at (suc n) x fits big rest is =
    rw (signed_form n (number x), signed_small (suc n) (number x), number_big x big) refl

module _ (scope : Scope) (site : Site) (f : FactorSyntax) where
  -- a reference
  module _ (owner : Owner) (word : List ℕ) (at : ℕ) (is : f.operand ≡ Reference owner word) (there : at ≡ behind (behind f.at f.signs) 2) where
    pub reference_small : has_small_form (operand_meaning scope f.operand) ≡ true
    reference_small = rw is (variable_small (reference_of scope owner word))

    reference_faults : operand_faults scope site (behind f.at f.signs) f.operand ≡ feature_faults site at owner (feature_of scope owner word)
    reference_faults = rw (is, there) refl

    pub reference_sound : feature_faults site at owner (feature_of scope owner word) ≡ [] → factor_faults scope site f ≡ []
    reference_sound none = factor_sound scope site f reference_small (reference_faults ∙ none)

    pub reference_first : (fault : TypeFault) → IsFirst (feature_faults site at owner (feature_of scope owner word)) fault → IsFirst (factor_faults scope site f) fault
    reference_first fault first =
        factor_first scope site f reference_small fault (subst (λ xs. IsFirst xs fault) (sym reference_faults) first)

  -- a number
  module _ (value : ℕ) (is : f.operand ≡ Number value) where
    pub operand_small : value ≤ 1099511627776 → has_small_form (operand_meaning scope f.operand) ≡ true
    operand_small few = rw is (number_small (pos value) (small_abs (pos value) ∙ grind (arith, leb_tells)))

    pub operand_sound : value ≤ 1099511627776 → factor_faults scope site f ≡ []
    operand_sound few =
        factor_sound scope site f (operand_small few)
        (rw (is, small_abs (pos value), le-leb value 1099511627776 few) refl)

    pub operand_first : f.at < 2 ^ 32 → 1099511627776 < value → first_of (factor_faults scope site f) ≡ Some (Big f.at)
    operand_first fits many =
        let big : is_small (pos value) ≡ false = small_abs (pos value) ∙ grind (arith, leb_tells) in
        rw is (number_first f.at f.signs (pos value) fits big (where_broken (not (is_small (pos value))) (Big (behind f.at f.signs))) (rw big refl))
