-- The outermost of the links that are left.
use Rattle.std.proofs.Common.{◌≡◌, ◌∷◌, [], ◌++◌, List, IfOk, arith, ap, length, sym, subst, ◌∙◌}
use Rattle.std.proofs.lemmas.Grind.{common_steps}
use Rattle.policy_tree.specs.Trees.{always, cond_tree}
use Rattle.policy_tree.specs.declared.trees.Cond.{Cond}
use Rattle.linear_form.specs.declared.form.Row.{Row}
use Rattle.obligations.specs.ChainCases.{end_cases}
use Rattle.obligations.specs.Cases.{cases_of}
use Rattle.obligations.proofs.ChainSteps.{chain_popped}
use Rattle.obligations.proofs.building.+building.Goals as goal

pub cases_of-loop-link-preserved : goal.cases_of-loop-link-preserved
cases_of-loop-link-preserved t c =
    let all : c.loop-link.links.items ≡ c.pop.new.self.items ++ c.in-Some.link ∷ [] = c.in-Some.ensures.items in
    let was = c.loop-link.invariant in
    record {
      chain = chain_popped c.args.load c.args.outcome (cases_of c.args.load c.args.outcome (cond_tree c.args.cond.now)) c.pop.new.self.items c.loop-link.links.items c.in-Some.link
          c.loop-link.cases.items c.in_ok-cases-2.cases.items all c.in_ok-cases-2.ensures was.chain;
      below = λ k d within. let here = was.below k d in let every = ap length all in grind (arith, common_steps, here, every);
      linear = λ k d within. let here = was.linear k d in let every = ap length all in grind (arith, common_steps, here, every);
    }

pub cases_of_end-returns-in-Always : goal.cases_of_end-returns-in-Always
cases_of_end-returns-in-Always t c =
    let load = c.args.load in let outcome = c.args.outcome in
    let same : cases_of load outcome always ≡ end_cases load outcome c.args.end =
    ap (λ (end : Cond). cases_of load outcome (cond_tree end)) (sym c.in-Always.is) ∙ ap (end_cases load outcome) (sym c.in-Some.is) in
    subst (λ (all : List (List Row)). IfOk c.cases_of_always.result (λ cases. cases.items ≡ all)) same (c.cases_of_always.ensures load)
