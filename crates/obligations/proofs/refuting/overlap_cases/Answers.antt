use Rattle.std.proofs.Common.{◌≡◌, ◌++◌, ◌∷◌, List, ap, sym, subst, ◌∙◌, map, true}
use Rattle.std.specs.List.{AllByRecursion}
use Rattle.std.proofs.lemmas.List.{append_assoc}
use Rattle.policy_tree.specs.declared.typed.Case.{Case}
use Rattle.policy_tree.specs.Meaning.{case_tree}
use Rattle.policy_tree.specs.Trees.{cond_tree}
use Rattle.policy_eval.specs.Forms.{EachSide, IsLinear}
use Rattle.linear_form.specs.declared.form.Row.{Row}
use Rattle.obligations.specs.Cases.{cases_of}
use Rattle.obligations.specs.Refutations.{any_of, both_of, pairs_of}
use Rattle.obligations.specs.Tallies.{guards_of}
use Rattle.obligations.proofs.ChainSteps.{pairs_cases}
use Rattle.obligations.proofs.refuting.overlap_cases.Goals as goal

pub loop-case-preserved : goal.loop-case-preserved
loop-case-preserved c =
    let load = c.args.load in let own = c.in-Some.case.now in let later = c.in-Some.later.now in
    let all = c.loop-case.all.items in
    let guard = cond_tree own.guard in let guards = guards_of (map case_tree later) in
    let left : List Case → List (List Row) = λ more. cases_of load true (any_of (map both_of (pairs_of (guards_of (map case_tree more))))) in
    let Linear : List Case → Type 0 = λ more. AllByRecursion (EachSide IsLinear) (guards_of (map case_tree more)) in
    let split : c.loop-case.rest.now ≡ own ∷ later = c.in-Some.ensures.cases.0 in
    let linear = subst Linear split c.loop-case.invariant.linear in
    record {
      same =
          ap (λ cases. cases ++ left later) c.in_ok-all.ensures
          ∙ (append_assoc all (cases_of load true (any_of (map both_of (map (λ h. (guard, h)) guards)))) (left later)
          ∙ (ap (λ cases. all ++ cases) (sym (pairs_cases load guard guards) ∙ ap left (sym split)) ∙ c.loop-case.invariant.same));
      linear = linear.1;
    }
