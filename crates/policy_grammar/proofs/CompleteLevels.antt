-- What the grammar has is read, up to the first limit that its tree passes: level texts.
use Rattle.std.proofs.Common.{◌≡◌, ℕ, ◌+◌, List, ◌∷◌, refl, sym, ap, arith, lit<, ◌∙◌}
use Rattle.policy_syntax.specs.SyntaxTrees.{ConditionTree}
use Rattle.policy_syntax.specs.LevelTrees.{OneLevelSyntaxTree, LevelSyntaxTree}
use Rattle.policy_grammar.specs.declared.terminal.Lexeme.{Lexeme}
use Rattle.policy_grammar.specs.declared.terminal.Terminal.TheVariants.{Levels, Level, Within, Filter, Choose, Name}
use Rattle.policy_grammar.specs.declared.limits.Limits.{Limits}
use Rattle.policy_grammar.specs.Terminals.{code, kind_at}
use Rattle.policy_grammar.specs.Conditions.{IsUnit, unit_always, unit_test}
use Rattle.policy_grammar.specs.Levels.{IsLevelWithin, within_always, within_test, IsLevel, level_of, IsLevelList, levels_none, levels_more, IsLevels, levels_of}
use Rattle.policy_grammar.specs.Breaks.{many, comparisons, breaks_attrs, breaks_condition, breaks_elect, breaks_handlers, breaks_place}
use Rattle.policy_grammar.specs.LevelBreaks.{breaks_level, breaks_level_list, breaks_level_text}
use Rattle.policy_grammar.specs.Symbols.{Symbol, the, condition, unit, level, levels, within}
use Rattle.policy_grammar.specs.Machine.{go, level_start}
use Rattle.policy_grammar.proofs.Steps.{judged, judged-first, go-move, go-same}
use Rattle.policy_grammar.proofs.CompleteExpressions.{NoOperator, the-read, go-at}
use Rattle.policy_grammar.proofs.CompleteConditions.{NoOr, no_operator-by, no_or-by, expr-begins, unit_read, whole_read}
use Rattle.policy_grammar.proofs.Standing.{level-from}
use Rattle.policy_grammar.proofs.CompletePolicies.{front_read, choices_read, judged-is}

-- what stands behind `within` is a unit
pub within-unit : {text : List ℕ} {ts : List Lexeme} {at to : ℕ} {v : ConditionTree} → IsLevelWithin text ts at v to → IsUnit text ts at v to
within-unit (within_always k) = unit_always k
within-unit (within_test c d k e) = unit_test c d k e

pub level-begins : {text : List ℕ} {ts : List Lexeme} {at to : ℕ} {l : OneLevelSyntaxTree} → IsLevel text ts at l to → kind_at ts at ≡ code Level
level-begins (level_of k w d f e) = k

-- a level ends before a further one and before `choose`
pub levels-stop : {text : List ℕ} {ts : List Lexeme} {at to : ℕ} {ls : List OneLevelSyntaxTree} → IsLevelList text ts at ls to → kind_at ts to ≡ code Choose → NoOr ts at
levels-stop {ts = ts} {at = at} levels_none k = no_or-by ts at (code Choose) k refl refl refl refl refl
levels-stop {ts = ts} {at = at} (levels_more d more) k = no_or-by ts at (code Level) (level-begins d) refl refl refl refl refl

module _ (limits : Limits) (text : List ℕ) (ts : List Lexeme) where
  within-begins : {at to : ℕ} {v : ConditionTree} → IsLevelWithin text ts at v to → (below : List Symbol) →
      go limits ts at 0 (within ∷ below) ≡ go limits ts at 0 (unit 1 0 ∷ below)
  within-begins {at = at} (within_always k) below = go-same limits ts at 0 0 (within ∷ below) (unit 1 0 ∷ below) refl (rw k refl)
  within-begins {at = at} (within_test c d k e) below =
      let b = expr-begins d in
      go-same limits ts at 0 0 (within ∷ below) (unit 1 0 ∷ below) refl (rw (b.always, b.not, b.group) refl)

  pub within_read : {at to : ℕ} {v : ConditionTree} → IsLevelWithin text ts at v to → NoOperator ts to → (below : List Symbol) →
      go limits ts at 0 (within ∷ below) ≡ judged (breaks_condition limits 1 0 0 v) (go limits ts to (comparisons v) below)
  within_read {to = to} {v = v} d n below =
      within-begins d below ∙ unit_read limits text ts (within-unit d) n 0 1 0 below
      ∙ ap (λ i. judged (breaks_condition limits 1 0 0 v) (go limits ts to i below)) (let e : 0 + comparisons v ≡ comparisons v = omega arith in e)

  -- what a level's filter has counted is over
  pub levels-anew : (at count before : ℕ) (below : List Symbol) → go limits ts at count (levels before ∷ below) ≡ go limits ts at 0 (levels before ∷ below)
  levels-anew at count before below = go-same limits ts at count 0 (levels before ∷ below) (levels before ∷ below) refl refl

  level-body : {at to : ℕ} {l : OneLevelSyntaxTree} → IsLevel text ts at l to → NoOr ts to → (before : ℕ) (below : List Symbol) →
      go limits ts (at + 1) 0 (the Within ∷ within ∷ the Filter ∷ condition limits.level_comparisons ∷ levels before ∷ below)
      ≡ judged (breaks_level limits l) (go limits ts to 0 (levels before ∷ below))
  level-body {at = at} {to = to} (level_of {mid = mid} {within = w} {filter = f} k kw dw kf df) n before below =
      let rest = levels before ∷ below in
      the-read limits text ts (at + 1) 0 (within ∷ the Filter ∷ condition limits.level_comparisons ∷ rest) Within kw (lit< tt) refl
      ∙ go-at limits text ts 0 (within ∷ the Filter ∷ condition limits.level_comparisons ∷ rest) (let e : at + 1 + 1 ≡ at + 2 = omega arith in e)
      ∙ within_read dw (no_operator-by ts mid (code Filter) kf refl refl refl) (the Filter ∷ condition limits.level_comparisons ∷ rest)
      ∙ ap (judged (breaks_condition limits 1 0 0 w))
      (the-read limits text ts mid (comparisons w) (condition limits.level_comparisons ∷ rest) Filter kf (lit< tt) refl
      ∙ whole_read limits text ts df n limits.level_comparisons rest
      ∙ ap (judged (breaks_condition limits limits.level_comparisons 0 0 f)) (levels-anew to (comparisons f) before below))
      ∙ sym (judged-first (breaks_condition limits 1 0 0 w) _ _)

  level-first : {at to : ℕ} {l : OneLevelSyntaxTree} → IsLevel text ts at l to → (before : ℕ) (below : List Symbol) →
      go limits ts at 0 (level before ∷ below)
      ≡ judged (many limits.levels l.at before) (go limits ts (at + 1) 0 (the Within ∷ within ∷ the Filter ∷ condition limits.level_comparisons ∷ levels (before + 1) ∷ below))
  level-first {at = at} (level_of k kw dw kf df) before below =
      go-move limits ts at (code Level) 0 0 (level before ∷ below) _ (many limits.levels at before) k (lit< tt) refl

  level-further : {at to : ℕ} {l : OneLevelSyntaxTree} → IsLevel text ts at l to → (before : ℕ) (below : List Symbol) →
      go limits ts at 0 (levels before ∷ below)
      ≡ judged (many limits.levels l.at before) (go limits ts (at + 1) 0 (the Within ∷ within ∷ the Filter ∷ condition limits.level_comparisons ∷ levels (before + 1) ∷ below))
  level-further {at = at} (level_of k kw dw kf df) before below =
      go-move limits ts at (code Level) 0 0 (levels before ∷ below) _ (many limits.levels at before) k (lit< tt) refl

  pub levels_read : {at to : ℕ} {ls : List OneLevelSyntaxTree} → IsLevelList text ts at ls to → kind_at ts to ≡ code Choose → (before : ℕ) (below : List Symbol) →
      go limits ts at 0 (levels before ∷ below) ≡ judged (breaks_level_list limits before ls) (go limits ts to 0 below)
  levels_read {at = at} levels_none k before below = go-same limits ts at 0 0 (levels before ∷ below) below refl (rw k refl)
  levels_read (levels_more {l = l} d more) k before below =
      level-further d before below
      ∙ ap (judged (many limits.levels l.at before))
      (level-body d (levels-stop more k) (before + 1) below
      ∙ ap (judged (breaks_level limits l)) (levels_read more k (before + 1) below)
      ∙ sym (judged-first (breaks_level limits l) _ _))
      ∙ sym (judged-first (many limits.levels l.at before) _ _)

  pub first_read : {at mid to : ℕ} {l : OneLevelSyntaxTree} {ls : List OneLevelSyntaxTree} → IsLevel text ts at l mid → IsLevelList text ts mid ls to →
      kind_at ts to ≡ code Choose → (below : List Symbol) →
      go limits ts at 0 (level 0 ∷ below) ≡ judged (breaks_level_list limits 0 (l ∷ ls)) (go limits ts to 0 below)
  first_read {l = l} d more k below =
      level-first d 0 below
      ∙ ap (judged (many limits.levels l.at 0))
      (level-body d (levels-stop more k) 1 below
      ∙ ap (judged (breaks_level limits l)) (levels_read more k 1 below)
      ∙ sym (judged-first (breaks_level limits l) _ _))
      ∙ sym (judged-first (many limits.levels l.at 0) _ _)

-- the tokens of a level text are read to their end, up to the first limit that it passes
pub level_text_read : (limits : Limits) (text : List ℕ) (ts : List Lexeme) {s : LevelSyntaxTree} → IsLevels text ts s →
    go limits ts 0 0 (level_start limits) ≡ breaks_level_text limits s
level_text_read limits text ts (levels_of {at_choose = at_choose} {attrs = us} {place = p} {elect = e} {handlers = hs} {first = l} {further = ls} k0 k1 dl da dp de dh d more kc dc ks ds db) =
    the-read limits text ts 0 0 _ Levels k0 (lit< tt) refl
    ∙ the-read limits text ts 1 0 _ Name k1 (lit< tt) refl
    ∙ front_read limits text ts dl da dp de dh (level-from (level-begins d)) _
    ∙ judged-is (breaks_attrs limits 0 0 us) (judged-is (breaks_place limits p) (judged-is (breaks_elect limits e) (judged-is (breaks_handlers limits hs)
    (first_read limits text ts d more kc _
    ∙ judged-is (breaks_level_list limits 0 (l ∷ ls)) (choices_read limits text ts at_choose kc dc ks ds db 0 limits.level_keys)))))
