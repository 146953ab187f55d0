-- The first fault of a part is that of the text: what stands before it breaks no rule. The policy by levels is that of its
-- parts.
use Rattle.std.proofs.Common.{◌∙◌, List, ap, map, refl, subst, sym}
use Rattle.std.proofs.lemmas.Result.{err_from_is_err_and}
use Rattle.policy_syntax.specs.declared.levels.OneLevelSyntax.{OneLevelSyntax}
use Rattle.policy_syntax.specs.declared.syntax.HandlerSyntax.{HandlerSyntax}
use Rattle.policy_syntax.specs.LevelTrees.{level_syntax_tree, one_level_syntax_tree}
use Rattle.policy_syntax.specs.SyntaxTrees.{handler_syntax_tree}
use Rattle.policy_types.specs.Faults.{IsFirst}
use Rattle.policy_types.specs.Levels.{beside_levels, level_list_faults, level_meaning}
use Rattle.policy_types.specs.Parts.{IsRunning}
use Rattle.policy_types.specs.Policies.{running_faults}
use Rattle.policy_types.proofs.Firsts.{first_behind, first_front}
use Rattle.policy_types.proofs.SoundPolicies.{meaning_of_parts}
use Rattle.policy_types.proofs.scope.Scope.level_text.Goals as goal

pub returns-in_err-running-clause-fault : goal.returns-in_err-running-clause-fault
returns-in_err-running-clause-fault c =
    let p = err_from_is_err_and c.from_residual.result c.from_residual.ensures.1 in
    let scope = c.args.self in let s = level_syntax_tree c.args.syntax.now in let fault = c.in_err-running.field-0.0 in
    let first = subst (λ (hs : List HandlerSyntax). IsFirst (running_faults scope s.place s.elect (map handler_syntax_tree hs)) fault) c.as_slice-handlers.ensures.items c.in_err-running.ensures.fault in
    rw (p.1, p.2) (first_front (running_faults scope s.place s.elect s.handlers) _ fault first)

pub returns-in_err-levels-clause-fault : goal.returns-in_err-levels-clause-fault
returns-in_err-levels-clause-fault c =
    let p = err_from_is_err_and c.from_residual-in_err-levels.result c.from_residual-in_err-levels.ensures.1 in
    let scope = c.args.self in let s = level_syntax_tree c.args.syntax.now in let fault = c.in_err-levels.field-0.0 in
    let runs = ap (λ (hs : List HandlerSyntax). running_faults scope s.place s.elect (map handler_syntax_tree hs)) (sym c.as_slice-handlers.ensures.items) ∙ c.in_ok-running.ensures.sound in
    let first = subst (λ (ls : List OneLevelSyntax). IsFirst (level_list_faults scope (map one_level_syntax_tree ls)) fault) c.as_slice.ensures.items c.in_err-levels.ensures.fault in
    rw (p.1, p.2)
    (first_behind (running_faults scope s.place s.elect s.handlers) _ fault runs (first_front (level_list_faults scope s.levels) _ fault first))

pub returns-clause-levels : goal.returns-clause-levels
returns-clause-levels c =
    let scope = c.args.self in let s = level_syntax_tree c.args.syntax.now in
    let runs = subst (λ (hs : List HandlerSyntax). IsRunning scope s.place s.elect (map handler_syntax_tree hs) c.in_ok-running.running) c.as_slice-handlers.ensures.items c.in_ok-running.ensures.is in
    let plain = c.policy_with-plain.ensures ∙ meaning_of_parts scope c.args.name c.args.load (beside_levels s) c.in_ok-running.running _ c.in_ok-choices.choices runs refl c.in_ok-choices.ensures.are in
    let levels = c.in_ok-levels.ensures.tree ∙ ap (λ (ls : List OneLevelSyntax). map (level_meaning scope) (map one_level_syntax_tree ls)) c.as_slice.ensures.items in
    rw (plain, levels) refl
