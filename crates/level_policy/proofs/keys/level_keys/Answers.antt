-- One key more.
use Rattle.std.proofs.Common.{◌≡◌, ◌+◌, ◌-◌, List, [], ◌∷◌, ◌++◌, map, sym, ap, ap₂, ◌∙◌, arith}
use Rattle.std.specs.List.{range_with_len}
use Rattle.std.proofs.lemmas.List.{map-append, take-map}
use Rattle.std.proofs.lemmas.List.FromFn.{map-range_with_len_more}
use Rattle.policy_tree.specs.declared.typed.Key.TheVariants as key
use Rattle.policy_tree.specs.Meaning.{KeyTree, key_tree, order_tree, preferring}
use Rattle.level_policy.specs.Compiled.{near, nearer}
use Rattle.level_policy.specs.Levels.{LevelTree, level_tree}
use Rattle.level_policy.proofs.keys.level_keys.Goals as goal

pub loop-count-preserved : goal.loop-count-preserved
loop-count-preserved c =
    let levels = c.args.levels.now in let n = c.loop-count.count in let keys = c.loop-count.keys.items in let cond = c.in_ok-near.field-0 in
    let trees : List LevelTree = map level_tree levels in
    let this : key_tree (key.Prefer cond) ≡ nearer trees n
    = ap preferring (c.in_ok-near.ensures ∙ ap near (sym (take-map level_tree n levels))) in
    let behind : map (nearer trees) (range_with_len 1 (n - 1 + 1)) ≡ map (nearer trees) (range_with_len 1 (n - 1)) ++ nearer trees n ∷ []
    = map-range_with_len_more (nearer trees) 1 (n - 1) n (omega arith) in
    let count : n - 1 + 1 ≡ n + 1 - 1 = omega arith in
    record {
      same = ap order_tree c.in_ok-push.ensures.items
          ∙ (map-append key_tree keys (key.Prefer cond ∷ [])
          ∙ (ap₂ (λ (so_far : List KeyTree) (next : KeyTree). so_far ++ next ∷ []) c.loop-count.invariant.same this
          ∙ (sym behind ∙ ap (λ k. map (nearer trees) (range_with_len 1 k)) count)));
      len = let pushed = c.in_ok-push.ensures.len in omega arith;
    }
