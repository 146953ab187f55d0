-- The grammar of level texts, in the same form. But for its levels such a text has the parts of a policy.
use Rattle.std.specs.Prelude.{ℕ, ◌+◌, ◌≡◌, List, [], ◌∷◌, length, Option}
use Rattle.policy_tree.specs.declared.trees.Cmp.{Cmp}
use Rattle.policy_syntax.specs.declared.syntax.LoadSyntax.{LoadSyntax}
use Rattle.policy_syntax.specs.declared.syntax.AttrSyntax.{AttrSyntax}
use Rattle.policy_syntax.specs.declared.syntax.PlaceSyntax.{PlaceSyntax}
use Rattle.policy_syntax.specs.declared.syntax.ExprSyntax.{ExprSyntax}
use Rattle.policy_syntax.specs.SyntaxTrees.{ConditionTree, always, test, OrderSyntaxTree, ElectSyntaxTree}
use Rattle.policy_syntax.specs.SyntaxTrees.{BatchSyntaxTree, HandlerSyntaxTree}
use Rattle.policy_syntax.specs.LevelTrees.{OneLevelSyntaxTree, LevelSyntaxTree}
use Rattle.policy_grammar.specs.declared.terminal.Terminal.TheVariants.{Levels, Level, Within, Filter, Choose, Steal}
use Rattle.policy_grammar.specs.declared.terminal.Terminal.TheVariants.{Always, Name}
use Rattle.policy_grammar.specs.declared.terminal.Lexeme.{Lexeme}
use Rattle.policy_grammar.specs.Terminals.{code, kind_at, word_at}
use Rattle.policy_grammar.specs.Words.{compare_word}
use Rattle.policy_grammar.specs.Expressions.{IsExpr}
use Rattle.policy_grammar.specs.Conditions.{IsCondition}
use Rattle.policy_grammar.specs.Orders.{IsOrder}
use Rattle.policy_grammar.specs.Policies.{IsLoad, IsAttrs, IsPlace, IsElect, IsHandlers, IsBatch}

-- "always" | expr cmp expr
pub data IsLevelWithin (text : List ℕ) (ts : List Lexeme) : ℕ → ConditionTree → ℕ → Type 0 where
  within_always : {at : ℕ} → kind_at ts at ≡ code Always → IsLevelWithin text ts at (always at) (at + 1)
  within_test : {at mid to : ℕ} (compare : Cmp) {left right : ExprSyntax} → IsExpr text ts at left mid →
      kind_at ts mid ≡ compare_word compare → IsExpr text ts (mid + 1) right to →
      IsLevelWithin text ts at (test mid compare left right) to

-- level = "level" "within" ("always" | expr cmp expr) "filter" cond
pub data IsLevel (text : List ℕ) (ts : List Lexeme) : ℕ → OneLevelSyntaxTree → ℕ → Type 0 where
  level_of : {at mid to : ℕ} {within filter : ConditionTree} →
      kind_at ts at ≡ code Level → kind_at ts (at + 1) ≡ code Within → IsLevelWithin text ts (at + 2) within mid →
      kind_at ts mid ≡ code Filter → IsCondition text ts (mid + 1) filter to →
      IsLevel text ts at (record { at = at; within = within; filter_at = mid; filter = filter }) to

-- level*
pub data IsLevelList (text : List ℕ) (ts : List Lexeme) : ℕ → List OneLevelSyntaxTree → ℕ → Type 0 where
  levels_none : {at : ℕ} → IsLevelList text ts at [] at
  levels_more : {at mid to : ℕ} {l : OneLevelSyntaxTree} {rest : List OneLevelSyntaxTree} →
      IsLevel text ts at l mid → IsLevelList text ts mid rest to → IsLevelList text ts at (l ∷ rest) to

-- levels = "levels" NAME load attr* [place] [elect] on* level+ choose steal
pub data IsLevels (text : List ℕ) (ts : List Lexeme) : LevelSyntaxTree → Type 0 where
  levels_of : {at_attrs at_place at_elect at_handlers at_levels at_further at_choose at_steal at_batch : ℕ}
      {load : LoadSyntax} {attrs : List AttrSyntax} {place : Option PlaceSyntax} {elect : Option ElectSyntaxTree}
      {handlers : List HandlerSyntaxTree} {first : OneLevelSyntaxTree} {further : List OneLevelSyntaxTree}
      {choose steal : OrderSyntaxTree} {batch : Option BatchSyntaxTree} →
      kind_at ts 0 ≡ code Levels → kind_at ts 1 ≡ code Name → IsLoad ts 2 load at_attrs →
      IsAttrs text ts at_attrs attrs at_place → IsPlace text ts at_place place at_elect →
      IsElect text ts at_elect elect at_handlers → IsHandlers text ts at_handlers handlers at_levels →
      IsLevel text ts at_levels first at_further → IsLevelList text ts at_further further at_choose →
      kind_at ts at_choose ≡ code Choose → IsOrder text ts (at_choose + 1) choose at_steal →
      kind_at ts at_steal ≡ code Steal → IsOrder text ts (at_steal + 1) steal at_batch →
      IsBatch text ts at_batch batch (length ts) →
      IsLevels text ts (record {
        name = word_at text ts 1;
        load = load;
        attrs = attrs;
        place = place;
        elect = elect;
        handlers = handlers;
        levels = first ∷ further;
        choose_at = at_choose;
        choose = choose;
        steal_at = at_steal;
        steal = steal;
        batch = batch;
      })
