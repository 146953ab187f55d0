-- The expressions and conditions of a resolved policy are ones that the evaluator takes.
use Rattle.std.proofs.Common.{◌≡◌, ℕ, suc, ◌≤◌, Bool, true, ltb, List, [], ◌∷◌, length, All, arith}
use Rattle.std.specs.List.{AllByRecursion}
use Rattle.std.proofs.lemmas.Bool.Decides.{nat_tests}
use Rattle.policy_tree.specs.declared.typed.Event.TheVariants as event
use Rattle.policy_tree.specs.Trees.{ExprTree, number, variable, negation, plus, minus, times, CondTree, always, negated, both, either, test}
use Rattle.policy_tree.specs.Meaning.{BatchTree, KeyTree, Meaning, greatest_first, least_first, preferring}
use Rattle.policy_eval.specs.Evaluable.{IsEvaluable, IsEvaluableCond, IsEvaluableKey, IsEvaluableOrder}
use Rattle.policy_eval.specs.Forms.{EachSide, RefersTo}
use Rattle.policy_eval.specs.Resolved.{IsResolved, IsResolvedBatch, IsResolvedCond, IsResolvedExpr, IsResolvedKey, IsResolvedOrder}
use Rattle.policy_eval.specs.Sites.{Site, allows, choosing, electing, filtering, going_on, handling, placing, stealing}

-- each variable that may stand somewhere is one of those that there are
known : (p : Meaning) (site : Site) (at : ℕ) → length p.core_attrs ≤ 8 → length p.thread_attrs ≤ 8 → allows p site at ≡ true → ltb at 30 ≡ true
known p filtering at cores threads e = grind (arith, nat_tests)
known p choosing at cores threads e = grind (arith, nat_tests)
known p placing at cores threads e = grind (arith, nat_tests)
known p electing at cores threads e = grind (arith, nat_tests)
known p stealing at cores threads e = grind (arith, nat_tests)
known p going_on at cores threads e = grind (arith, nat_tests)
known p (handling event.Enqueue) at cores threads e = grind (arith, nat_tests)
known p (handling event.Tick) at cores threads e = grind (arith, nat_tests)
known p (handling event.Yield) at cores threads e = grind (arith, nat_tests)
known p (handling event.Block) at cores threads e = grind (arith, nat_tests)

RefersTo-mono : (p q : ℕ → Bool) → ((at : ℕ) → p at ≡ true → q at ≡ true) → (e : ExprTree) → RefersTo p e → RefersTo q e
RefersTo-mono p q more (number n) refers = refers
RefersTo-mono p q more (variable at) refers = more at refers
RefersTo-mono p q more (negation e) refers = RefersTo-mono p q more e refers
RefersTo-mono p q more (plus l r) refers = (RefersTo-mono p q more l refers.0, RefersTo-mono p q more r refers.1)
RefersTo-mono p q more (minus l r) refers = (RefersTo-mono p q more l refers.0, RefersTo-mono p q more r refers.1)
RefersTo-mono p q more (times l r) refers = (RefersTo-mono p q more l refers.0, RefersTo-mono p q more r refers.1)

EachSide-mono : (P Q : ExprTree → Type 0) → ((e : ExprTree) → P e → Q e) → (c : CondTree) → EachSide P c → EachSide Q c
EachSide-mono P Q more always sides = sides
EachSide-mono P Q more (negated c) sides = EachSide-mono P Q more c sides
EachSide-mono P Q more (both l r) sides = (EachSide-mono P Q more l sides.0, EachSide-mono P Q more r sides.1)
EachSide-mono P Q more (either l r) sides = (EachSide-mono P Q more l sides.0, EachSide-mono P Q more r sides.1)
EachSide-mono P Q more (test how l r) sides = (more l sides.0, more r sides.1)

-- what holds of each item holds along the list
pub AllByRecursion-each : {X : Type 0} (P Q : X → Type 0) → ((x : X) → P x → Q x) → (xs : List X) → All P xs → AllByRecursion Q xs
AllByRecursion-each P Q more [] each = tt
AllByRecursion-each P Q more (x ∷ xs) each = (more x (each 0 x (omega arith)), AllByRecursion-each P Q more xs (λ k d inside. each (suc k) d (omega arith)))

module _ (p : Meaning) (is : IsResolved p) where
  pub evaluable_expr : (site : Site) (e : ExprTree) → IsResolvedExpr p site e → IsEvaluable e
  evaluable_expr site e resolved = record {
    linear = resolved.linear;
    known = RefersTo-mono (allows p site) (λ at. ltb at 30) (λ at. known p site at is.core_attrs.few is.thread_attrs.few) e resolved.allowed;
  }

  pub evaluable_cond : (site : Site) (c : CondTree) → IsResolvedCond p site c → IsEvaluableCond c
  evaluable_cond site c resolved = EachSide-mono (IsResolvedExpr p site) IsEvaluable (evaluable_expr site) c resolved.sides

  pub evaluable_batch : (b : BatchTree) → IsResolvedBatch p b → IsEvaluableCond b.condition
  evaluable_batch b resolved = evaluable_cond going_on b.condition resolved.condition

  evaluable_key : (site : Site) (key : KeyTree) → IsResolvedKey p site key → IsEvaluableKey key
  evaluable_key site (least_first e) resolved = evaluable_expr site e resolved
  evaluable_key site (greatest_first e) resolved = evaluable_expr site e resolved
  evaluable_key site (preferring c) resolved = evaluable_cond site c resolved

  pub evaluable_order : (site : Site) (order : List KeyTree) → IsResolvedOrder p site order → IsEvaluableOrder order
  evaluable_order site order resolved =
      AllByRecursion-each (IsResolvedKey p site) IsEvaluableKey (evaluable_key site) order resolved.keys
