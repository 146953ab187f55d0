-- A handler more, and no handler left.
use Rattle.std.proofs.lemmas.List.{drop_all}
use Rattle.std.proofs.Common.{sym, ap, ◌∙◌, arith, map, drop, subst, ◌+◌, List, Some, if◌then◌else◌}
use Rattle.policy_syntax.specs.declared.syntax.HandlerSyntax.{HandlerSyntax}
use Rattle.policy_syntax.specs.declared.syntax.CaseSyntax.{CaseSyntax}
use Rattle.policy_tree.specs.Meaning.{CaseTree}
use Rattle.policy_syntax.specs.SyntaxTrees.{HandlerSyntaxTree, case_syntax_tree, handler_syntax_tree}
use Rattle.policy_types.specs.Given.{given_cases}
use Rattle.policy_types.specs.Handlers.{case_meaning, cases_faults, same_event}
use Rattle.policy_types.proofs.Firsts.{drop_item}
use Rattle.policy_types.proofs.HandlersRead.{IsGivenTo, given_all, given_more}
use Rattle.policy_types.proofs.scope.Scope.handlers.Goals as goal

pub loop-handler-preserved : goal.loop-handler-preserved
loop-handler-preserved c =
    let s = c.args.self.now in let all = map handler_syntax_tree c.args.handlers.now in let at = c.loop-handler.handler-index in let x = c.handler-item.result in
    let rest = map handler_syntax_tree (drop (at + 1) c.args.handlers.now) in
    let here = ap (map handler_syntax_tree) (drop_item c.args.handlers.now at x (omega arith) c.handler-item.is) in
    let is = subst (λ (hs : List HandlerSyntaxTree). IsGivenTo s all hs c.loop-handler.given) here c.loop-handler.invariant in
    let ev = x.event in
    let sound = ap (λ (cs : List CaseSyntax). cases_faults s ev (map case_syntax_tree cs)) (sym c.as_slice.ensures.items) ∙ c.in_ok-cases.ensures.sound in
    let tree = c.in_ok-cases.ensures.tree ∙ ap (λ (cs : List CaseSyntax). map (case_meaning s) (map case_syntax_tree cs)) c.as_slice.ensures.items in
    given_more s all rest (handler_syntax_tree x) c.loop-handler.given is (sym c.has.ensures ∙ c.if-has.false) c.with-given.result sound
    (λ e. c.with-given.ensures e ∙ ap (λ (cs : List CaseTree). if same_event e ev then Some cs else given_cases c.loop-handler.given e) tree)

pub returns-clause-tree : goal.returns-clause-tree
returns-clause-tree c =
    let s = c.args.self.now in let all = map handler_syntax_tree c.args.handlers.now in
    let over = drop_all c.loop-handler.handler-index c.args.handlers.now (omega arith) in
    c.in_ok-or_default.ensures
    ∙ given_all s all c.loop-handler.given
    (subst (λ (hs : List HandlerSyntax). IsGivenTo s all (map handler_syntax_tree hs) c.loop-handler.given) over c.loop-handler.invariant)
