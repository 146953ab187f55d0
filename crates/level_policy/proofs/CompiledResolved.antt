-- What levels as a text has them are compiled to is a resolved policy, and a short one.
use Rattle.std.proofs.Common.{◌+◌, ◌<◌, ◌≤◌, List, [], ◌∷◌, ◌++◌, length, All, arith}
use Rattle.std.proofs.lemmas.List.Elements.{All-append, All-from_recursion}
use Rattle.policy_tree.specs.Meaning.{KeyTree, Meaning}
use Rattle.policy_tree.specs.Trees.{CondTree, ExprTree, always, negated, both, either, test}
use Rattle.sched_base.specs.declared.limits.TheConstants.{MAX_COMPARISONS, MAX_KEYS}
use Rattle.policy_eval.specs.Forms.{EachSide, comparisons_of}
use Rattle.policy_eval.specs.Resolved.{IsResolved, IsResolvedCond, IsResolvedExpr, IsResolvedKey, IsResolvedOrder}
use Rattle.policy_eval.specs.Sites.{choosing, filtering}
use Rattle.level_policy.specs.Compiled.{compiled, compiled_filter, level_keys, narrowed}
use Rattle.level_policy.specs.Laws.{IsShort}
use Rattle.level_policy.specs.Levels.{LevelTree, LevelsMeaning}
use Rattle.level_policy.specs.ResolvedLevels.{AreResolved, IsResolvedLevel}
use Rattle.level_policy.proofs.Kept.{EachSide-mono, changed, changed_resolved, chosen_expr, kept_expr, kept_key}

narrowed_comparisons : (beyond within : CondTree) → comparisons_of (narrowed beyond within) ≤ comparisons_of beyond + comparisons_of within
narrowed_comparisons beyond always = omega arith
narrowed_comparisons beyond (negated c) = omega arith
narrowed_comparisons beyond (both l r) = omega arith
narrowed_comparisons beyond (either l r) = omega arith
narrowed_comparisons beyond (test how l r) = omega arith

narrowed_sides : (P : ExprTree → Type 0) (beyond within : CondTree) → EachSide P beyond → EachSide P within → EachSide P (narrowed beyond within)
narrowed_sides P beyond always x y = x
narrowed_sides P beyond (negated c) x y = (x, y)
narrowed_sides P beyond (both l r) x y = (x, y)
narrowed_sides P beyond (either l r) x y = (x, y)
narrowed_sides P beyond (test how l r) x y = (x, y)

-- comparisons: 1 and 3 of the first level, 2 and 3 of the second, 3 and 3 of the third
filter_short : (p : Meaning) (levels : List LevelTree) → 1 ≤ length levels → length levels ≤ 3 → All (IsResolvedLevel p) levels → comparisons_of (compiled_filter levels) < MAX_COMPARISONS
filter_short p [] some few each = absurd (omega arith)
filter_short p (a ∷ []) some few each = let x = each 0 a (omega arith) in omega arith
filter_short p (a ∷ b ∷ []) some few each =
    let x = each 0 a (omega arith) in let y = each 1 a (omega arith) in
    let second = narrowed_comparisons (negated a.within) b.within in omega arith
filter_short p (a ∷ b ∷ c ∷ []) some few each =
    let x = each 0 a (omega arith) in let y = each 1 a (omega arith) in let z = each 2 a (omega arith) in
    let second = narrowed_comparisons (negated a.within) b.within in
    let third = narrowed_comparisons (negated (either a.within b.within)) c.within in omega arith
filter_short p (a ∷ b ∷ c ∷ d ∷ rest) some few each = absurd (omega arith)

keys_few : (levels : List LevelTree) (text : List KeyTree) → 1 ≤ length levels → length levels ≤ 3 → length text ≤ 2 → length (level_keys levels ++ text) ≤ MAX_KEYS
keys_few [] text some few short = absurd (omega arith)
keys_few (a ∷ []) text some few short = omega arith
keys_few (a ∷ b ∷ []) text some few short = omega arith
keys_few (a ∷ b ∷ c ∷ []) text some few short = omega arith
keys_few (a ∷ b ∷ c ∷ d ∷ rest) text some few short = absurd (omega arith)

module _ (p : Meaning) (filter : CondTree) (choose : List KeyTree) where
  Sides : CondTree → Type 0
  Sides c = EachSide (IsResolvedExpr (changed p filter choose) filtering) c

  within_sides : (level : LevelTree) → IsResolvedLevel p level → Sides level.within
  unfolding Sides
  within_sides level is = EachSide-mono (IsResolvedExpr p filtering) (IsResolvedExpr (changed p filter choose) filtering) (kept_expr p filter choose filtering) level.within is.within.sides

  filter_sides : (level : LevelTree) → IsResolvedLevel p level → Sides level.filter
  unfolding Sides
  filter_sides level is = EachSide-mono (IsResolvedExpr p filtering) (IsResolvedExpr (changed p filter choose) filtering) (kept_expr p filter choose filtering) level.filter is.filter.sides

  -- a level behind others, whose filter is asked where none of them takes the core in
  further_sides : (near : CondTree) (level : LevelTree) → IsResolvedLevel p level → Sides near → Sides (narrowed (negated near) level.within)
  unfolding Sides
  further_sides near level is sides =
      narrowed_sides (IsResolvedExpr (changed p filter choose) filtering) (negated near) level.within sides (within_sides level is)

  sides_of_filter : (levels : List LevelTree) → 1 ≤ length levels → length levels ≤ 3 → All (IsResolvedLevel p) levels → Sides (compiled_filter levels)
  unfolding Sides
  sides_of_filter [] some few each = absurd (omega arith)
  sides_of_filter (a ∷ []) some few each =
      let x = each 0 a (omega arith) in (within_sides a x, filter_sides a x)
  sides_of_filter (a ∷ b ∷ []) some few each =
      let x = each 0 a (omega arith) in let y = each 1 a (omega arith) in
      ((within_sides a x, filter_sides a x), (further_sides a.within b y (within_sides a x), filter_sides b y))
  sides_of_filter (a ∷ b ∷ c ∷ []) some few each =
      let x = each 0 a (omega arith) in let y = each 1 a (omega arith) in let z = each 2 a (omega arith) in (
        ((within_sides a x, filter_sides a x), (further_sides a.within b y (within_sides a x), filter_sides b y)),
        (further_sides (either a.within b.within) c z (within_sides a x, within_sides b y), filter_sides c z),
      )
  sides_of_filter (a ∷ b ∷ c ∷ d ∷ rest) some few each = absurd (omega arith)

  pub filter_resolved : (levels : List LevelTree) → 1 ≤ length levels → length levels ≤ 3 → All (IsResolvedLevel p) levels → IsResolvedCond (changed p filter choose) filtering (compiled_filter levels)
  unfolding Sides
  filter_resolved levels some few each =
      let short = filter_short p levels some few each in record { few = omega arith; sides = sides_of_filter levels some few each }

  -- what a `within` compares, a key may compare
  nearer_sides : (level : LevelTree) → IsResolvedLevel p level → EachSide (IsResolvedExpr (changed p filter choose) choosing) level.within
  nearer_sides level is = EachSide-mono (IsResolvedExpr p filtering) (IsResolvedExpr (changed p filter choose) choosing) (chosen_expr p filter choose) level.within is.within.sides

  level_keys_resolved : (levels : List LevelTree) → length levels ≤ 3 → All (IsResolvedLevel p) levels → All (IsResolvedKey (changed p filter choose) choosing) (level_keys levels)
  level_keys_resolved [] few each = λ k d inside. absurd (omega arith)
  level_keys_resolved (a ∷ []) few each = λ k d inside. absurd (omega arith)
  level_keys_resolved (a ∷ b ∷ []) few each =
      let x = each 0 a (omega arith) in
      All-from_recursion (IsResolvedKey (changed p filter choose) choosing) (level_keys (a ∷ b ∷ [])) (record { few = omega arith; sides = nearer_sides a x }, tt)
  level_keys_resolved (a ∷ b ∷ c ∷ []) few each =
      let x = each 0 a (omega arith) in let y = each 1 a (omega arith) in
      All-from_recursion (IsResolvedKey (changed p filter choose) choosing) (level_keys (a ∷ b ∷ c ∷ [])) (
        record { few = omega arith; sides = nearer_sides a x },
        (record { few = omega arith; sides = (nearer_sides a x, nearer_sides b y) }, tt),
      )
  level_keys_resolved (a ∷ b ∷ c ∷ d ∷ rest) few each = absurd (omega arith)

  pub order_resolved : (levels : List LevelTree) (text : List KeyTree) → 1 ≤ length levels → length levels ≤ 3 → length text ≤ 2
      → All (IsResolvedLevel p) levels → IsResolvedOrder p choosing text → IsResolvedOrder (changed p filter choose) choosing (level_keys levels ++ text)
  order_resolved levels text some few short each is = record {
    few = keys_few levels text some few short;
    keys = All-append (IsResolvedKey (changed p filter choose) choosing) (level_keys levels) text (level_keys_resolved levels few each)
        (λ k d inside. kept_key p filter choose choosing _ (is.keys k d inside));
  }

module _ (l : LevelsMeaning) (are : AreResolved l) where
  pub compiled_resolved : IsResolved (compiled l)
  compiled_resolved =
      let filter = compiled_filter l.levels in let choose = level_keys l.levels ++ l.plain.choose in
      changed_resolved l.plain filter choose are.plain
      (filter_resolved l.plain filter choose l.levels are.some are.few are.levels)
      (order_resolved l.plain filter choose l.levels l.plain.choose are.some are.few are.few_keys are.levels are.plain.choose)

  pub compiled_short : IsShort (compiled l)
  compiled_short = record {
    comparisons = filter_short l.plain l.levels are.some are.few are.levels;
    keys = keys_few l.levels l.plain.choose are.some are.few are.few_keys;
  }
