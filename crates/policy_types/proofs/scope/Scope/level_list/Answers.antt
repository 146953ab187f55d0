-- The first fault of a level is that of them all.
use Rattle.std.proofs.Common.{◌+◌, drop, map, sym, ap, ◌∙◌, arith}
use Rattle.std.proofs.lemmas.Result.{err_from_is_err_and}
use Rattle.policy_syntax.specs.LevelTrees.{one_level_syntax_tree}
use Rattle.policy_types.specs.Levels.{level_faults, level_list_faults}
use Rattle.policy_types.proofs.Firsts.{drop_item, part_first}
use Rattle.policy_types.proofs.scope.Scope.level_list.Goals as goal

pub returns-in_err-level-clause-fault : goal.returns-in_err-level-clause-fault
returns-in_err-level-clause-fault c =
    let p = err_from_is_err_and c.from_residual.result c.from_residual.ensures.1 in
    let s = c.args.self.now in let levels = c.args.read.now in let at = c.loop-level.level-index in let x = c.level-item.result in
    rw (p.1, p.2)
    (part_first (level_faults s (one_level_syntax_tree x)) (level_list_faults s (map one_level_syntax_tree (drop (at + 1) levels))) (level_list_faults s (map one_level_syntax_tree levels)) c.in_err-level.field-0.0
    (sym (ap (λ ls. level_list_faults s (map one_level_syntax_tree ls)) (drop_item levels at x (omega arith) c.level-item.is)) ∙ c.loop-level.invariant.faults)
    c.in_err-level.ensures.fault)
