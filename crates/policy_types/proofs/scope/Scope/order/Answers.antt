-- The first fault of a key is that of the order.
use Rattle.std.proofs.Common.{◌+◌, drop, map, sym, ap, ◌∙◌, arith}
use Rattle.std.proofs.lemmas.Result.{err_from_is_err_and}
use Rattle.policy_syntax.specs.SyntaxTrees.{key_syntax_tree, order_syntax_tree}
use Rattle.policy_types.specs.Conditions.{key_faults, keys_faults, order_faults}
use Rattle.policy_types.proofs.Firsts.{drop_item, part_first}
use Rattle.policy_types.proofs.scope.Scope.order.Goals as goal

pub returns-in_err-key-clause-fault : goal.returns-in_err-key-clause-fault
returns-in_err-key-clause-fault c =
    let p = err_from_is_err_and c.from_residual.result c.from_residual.ensures.1 in
    let s = c.args.self.now in let keys = c.as_slice-read.result.now in let at = c.loop-key.key-index in let x = c.key-item.result in
    rw (p.1, p.2)
    (part_first (key_faults s c.args.site (key_syntax_tree x)) (keys_faults s c.args.site (map key_syntax_tree (drop (at + 1) keys))) (order_faults s c.args.site (order_syntax_tree c.args.order.now)) c.in_err-key.field-0.0
    (sym (ap (λ ks. keys_faults s c.args.site (map key_syntax_tree ks)) (drop_item keys at x (omega arith) c.key-item.is))
    ∙ (c.loop-key.invariant.faults ∙ ap (λ ks. keys_faults s c.args.site (map key_syntax_tree ks)) c.as_slice-read.ensures.items))
    c.in_err-key.ensures.fault)
