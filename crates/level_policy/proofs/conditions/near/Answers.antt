-- One level more.
use Rattle.std.proofs.Common.{◌≡◌, ◌≤◌, ◌<◌, List, get_or, length, map, sym, ap, ap₂, ◌∙◌, arith}
use Rattle.std.proofs.lemmas.List.{get_or-map, length-map}
use Rattle.policy_tree.specs.Trees.{either}
use Rattle.level_policy.specs.Levels.{LevelTree, level_tree}
use Rattle.level_policy.proofs.Chains.{near-more}
use Rattle.level_policy.proofs.conditions.near.Goals as goal

pub loop-next-preserved : goal.loop-next-preserved
loop-next-preserved c =
    let levels = c.args.levels.now in let n = c.loop-next.next in let level = c.index-levels-next.result in
    let trees : List LevelTree = map level_tree levels in
    let long : length trees ≡ length levels = length-map levels level_tree in
    let inside : n < length levels = omega arith in
    let further : n < length trees = omega arith in
    let some : 1 ≤ n = omega arith in
    let here : get_or trees n (level_tree level) ≡ level_tree (get_or levels n level)
    = get_or-map level_tree levels n level (level_tree level) inside in
    c.in_ok-near-2.ensures
    ∙ (ap₂ either c.loop-next.invariant (c.in_ok-within.ensures ∙ ap (λ (l : LevelTree). l.within) (sym here))
    ∙ sym (near-more trees n (level_tree level) some further))
