-- One level's filter more.
use Rattle.std.proofs.Common.{◌≡◌, ◌≤◌, ◌<◌, List, [], get_or, length, map, take, sym, ap, ap₂, ◌∙◌, arith}
use Rattle.std.proofs.lemmas.List.{get_or-map, length-map, take_all, take-map}
use Rattle.policy_tree.specs.Trees.{CondTree, both, cond_tree, either}
use Rattle.level_policy.specs.Compiled.{any_of, belonging, level_filters}
use Rattle.level_policy.specs.Levels.{LevelTree, level_tree}
use Rattle.level_policy.proofs.Chains.{any_of-more, length-level_filters, level_filter_at}
use Rattle.level_policy.proofs.conditions.filter.Goals as goal

pub loop-at-preserved : goal.loop-at-preserved
loop-at-preserved c =
    let levels = c.args.levels.now in let n = c.loop-at.at in let level = c.index-levels-at.result in
    let trees : List LevelTree = map level_tree levels in
    let filters : List CondTree = level_filters [] trees in
    let long : length trees ≡ length levels = length-map levels level_tree in
    let each : length filters ≡ length trees = length-level_filters [] trees in
    let inside : n < length levels = omega arith in
    let further : n < length trees = omega arith in
    let within : n < length filters = omega arith in
    let some : 1 ≤ n = omega arith in
    let here : get_or trees n (level_tree level) ≡ level_tree level
    = get_or-map level_tree levels n level (level_tree level) inside ∙ ap level_tree (sym c.index-levels-at.is) in
    let this : get_or filters n (cond_tree c.in_ok-further.further) ≡ both (belonging (map level_tree (take n levels)) (level_tree level)) (cond_tree level.filter)
    = level_filter_at [] trees n (level_tree level) (cond_tree c.in_ok-further.further) further
    ∙ ap₂ (λ (earlier : List LevelTree) (l : LevelTree). both (belonging earlier l) l.filter) (take-map level_tree n levels) here in
    c.in_ok-filter-2.ensures
    ∙ (ap₂ either c.loop-at.invariant (c.in_ok-further.ensures ∙ sym this)
    ∙ sym (any_of-more filters n (cond_tree c.in_ok-further.further) some within))

pub returns : goal.returns
returns c =
    let levels = c.args.levels.now in
    let trees : List LevelTree = map level_tree levels in
    let long : length trees ≡ length levels = length-map levels level_tree in
    let each : length (level_filters [] trees) ≡ length trees = length-level_filters [] trees in
    c.loop-at.invariant ∙ ap any_of (take_all c.loop-at.at (level_filters [] trees) (omega arith))
