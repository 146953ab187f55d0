-- The first fault of a part is that of the policy: what stands before it breaks no rule. The policy is that of its parts.
use Rattle.std.proofs.Common.{◌∙◌, List, ap, map, subst, sym}
use Rattle.std.proofs.lemmas.Result.{err_from_is_err_and}
use Rattle.policy_syntax.specs.declared.syntax.HandlerSyntax.{HandlerSyntax}
use Rattle.policy_syntax.specs.SyntaxTrees.{handler_syntax_tree, syntax_tree}
use Rattle.policy_types.specs.declared.sites.Site.TheVariants.{Filter}
use Rattle.policy_types.specs.Conditions.{condition_faults}
use Rattle.policy_types.specs.Faults.{IsFirst}
use Rattle.policy_types.specs.Parts.{IsRunning}
use Rattle.policy_types.specs.Policies.{running_faults}
use Rattle.policy_types.proofs.Firsts.{first_behind, first_front}
use Rattle.policy_types.proofs.SoundPolicies.{meaning_of_parts}
use Rattle.policy_types.proofs.scope.Scope.policy.Goals as goal

pub returns-in_err-running-clause-fault : goal.returns-in_err-running-clause-fault
returns-in_err-running-clause-fault c =
    let p = err_from_is_err_and c.from_residual.result c.from_residual.ensures.1 in
    let scope = c.args.self in let s = syntax_tree c.args.syntax.now in let fault = c.in_err-running.field-0.0 in
    let first = subst (λ (hs : List HandlerSyntax). IsFirst (running_faults scope s.place s.elect (map handler_syntax_tree hs)) fault) c.as_slice-handlers.ensures.items c.in_err-running.ensures.fault in
    rw (p.1, p.2) (first_front (running_faults scope s.place s.elect s.handlers) _ fault first)

pub returns-in_err-filter-clause-fault : goal.returns-in_err-filter-clause-fault
returns-in_err-filter-clause-fault c =
    let p = err_from_is_err_and c.from_residual-in_err-filter.result c.from_residual-in_err-filter.ensures.1 in
    let scope = c.args.self in let s = syntax_tree c.args.syntax.now in let fault = c.in_err-filter.field-0.0 in
    let runs = ap (λ (hs : List HandlerSyntax). running_faults scope s.place s.elect (map handler_syntax_tree hs)) (sym c.as_slice-handlers.ensures.items) ∙ c.in_ok-running.ensures.sound in
    rw (p.1, p.2)
    (first_behind (running_faults scope s.place s.elect s.handlers) _ fault runs
    (first_front (condition_faults scope Filter s.filter) _ fault c.in_err-filter.ensures.fault))

pub returns-clause-policy : goal.returns-clause-policy
returns-clause-policy c =
    let scope = c.args.self in let s = syntax_tree c.args.syntax.now in
    let runs = subst (λ (hs : List HandlerSyntax). IsRunning scope s.place s.elect (map handler_syntax_tree hs) c.in_ok-running.running) c.as_slice-handlers.ensures.items c.in_ok-running.ensures.is in
    c.policy_with.ensures ∙ meaning_of_parts scope c.args.name c.args.load s c.in_ok-running.running _ c.in_ok-choices.choices runs c.in_ok-filter.ensures.tree c.in_ok-choices.ensures.are
