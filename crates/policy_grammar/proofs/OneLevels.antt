-- The tokens have one tree at most: level texts.
use Rattle.std.proofs.Common.{◌≡◌, ◌+◌, ℕ, List, ◌∷◌, refl, arith}
use Rattle.policy_syntax.specs.LevelTrees.{OneLevelSyntaxTree, LevelSyntaxTree}
use Rattle.policy_grammar.specs.declared.terminal.Lexeme.{Lexeme}
use Rattle.policy_grammar.specs.declared.terminal.Terminal.TheVariants as terminal
use Rattle.policy_grammar.specs.Terminals.{code, kind_at, word_at}
use Rattle.policy_grammar.specs.Conditions.{IsCondition}
use Rattle.policy_grammar.specs.Levels.{IsLevel, level_of, IsLevelList, levels_none, levels_more, IsLevels, levels_of}
use Rattle.policy_grammar.proofs.CompleteConditions.{NoOr, no_operator-by}
use Rattle.policy_grammar.proofs.Standing.{level-from}
use Rattle.policy_grammar.proofs.CompleteLevels.{within-unit, level-begins, levels-stop}
use Rattle.policy_grammar.proofs.OneConditions.{unit-one, condition-one}
use Rattle.policy_grammar.proofs.OnePolicies.{front-one, choices-one}
use Rattle.policy_grammar.proofs.Same.{Same, same, same-is, same-ap, same-place, and-then}

module _ (text : List ℕ) (ts : List Lexeme) where
  level-one : {at to so : ℕ} {v w : OneLevelSyntaxTree} → IsLevel text ts at v to → NoOr ts to → IsLevel text ts at w so → NoOr ts so → Same v to w so
  level-one {at = at} (level_of {mid = mid} k kw dw kf df) n (level_of {mid = there} l lw ew lf ef) m =
      same-ap (λ t. record { at = at; within = t.0.0; filter_at = t.0.1; filter = t.1 })
      (and-then (λ i. IsCondition text ts (i + 1))
      (same-place (unit-one text ts (within-unit dw) (no_operator-by ts mid (code terminal.Filter) kf refl refl refl) (within-unit ew)
      (no_operator-by ts there (code terminal.Filter) lf refl refl refl)))
      ef (λ o. condition-one text ts df n o m))

  level-none : {at to : ℕ} {l : OneLevelSyntaxTree} → kind_at ts at ≡ code terminal.Choose → IsLevel text ts at l to → ⊥
  level-none k d = let begins = level-begins d in omega (arith, k, begins)

  level-list-one : {at to so : ℕ} {v w : List OneLevelSyntaxTree} → IsLevelList text ts at v to → kind_at ts to ≡ code terminal.Choose →
      IsLevelList text ts at w so → kind_at ts so ≡ code terminal.Choose → Same v to w so
  level-list-one levels_none n levels_none m = same
  level-list-one levels_none n (levels_more e others) m = absurd (level-none n e)
  level-list-one (levels_more d rest) n levels_none m = absurd (level-none m d)
  level-list-one (levels_more d rest) n (levels_more e others) m =
      same-ap (λ p. p.0 ∷ p.1)
      (and-then (IsLevelList text ts) (level-one d (levels-stop rest n) e (levels-stop others m)) others (λ o. level-list-one rest n o m))

  pub level_text-one : {s t : LevelSyntaxTree} → IsLevels text ts s → IsLevels text ts t → s ≡ t
  level_text-one (levels_of k0 k1 dl da dp de dh d more kc dc ks ds db) (levels_of l0 l1 el ea ep ee eh e others lc ec ls es eb) =
      let front = front-one text ts dl da dp de dh (level-from (level-begins d)) el ea ep ee eh (level-from (level-begins e)) in
      let first = and-then (IsLevel text ts) front e (λ o. level-one d (levels-stop more kc) o (levels-stop others lc)) in
      let listed = same-place (and-then (IsLevelList text ts) first others (λ o. level-list-one more kc o lc)) in
      same-is (same-ap (λ t. record {
        name = word_at text ts 1;
        load = t.0.0.0.0.0.0.0.0.0.0.0;
        attrs = t.0.0.0.0.0.0.0.0.0.0.1;
        place = t.0.0.0.0.0.0.0.0.0.1;
        elect = t.0.0.0.0.0.0.0.0.1;
        handlers = t.0.0.0.0.0.0.0.1;
        levels = t.0.0.0.0.0.0.1 ∷ t.0.0.0.0.0.1;
        choose_at = t.0.0.0.0.1;
        choose = t.0.0.0.1;
        steal_at = t.0.0.1;
        steal = t.0.1;
        batch = t.1;
      }) (choices-one text ts listed kc dc ks ds db lc ec ls es eb))
