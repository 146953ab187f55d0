-- The sections of a level text, as the parser reads them.
use Rattle.std.specs.Prelude.{ℕ, ◌≡◌, List, ◌∷◌, map, Option}
use Rattle.policy_syntax.specs.declared.levels.OneLevelSyntax.{OneLevelSyntax}
use Rattle.policy_syntax.specs.LevelTrees.{OneLevelSyntaxTree, one_level_syntax_tree}
use Rattle.policy_syntax.specs.SyntaxTrees.{OrderSyntaxTree, BatchSyntaxTree, HandlerSyntaxTree}
use Rattle.policy_grammar.specs.declared.terminal.Lexeme.{Lexeme}
use Rattle.policy_grammar.specs.Levels.{IsLevel, IsLevelList}
use Rattle.policy_grammar.specs.Policies.{IsHandlers}
use Rattle.policy_parser.specs.Sections.{IsChoices}

-- a level and those behind it
pub record Leveled (text : List ℕ) (ts : List Lexeme) (items : List OneLevelSyntax) (at to : ℕ) : Type 0 where
  pub first : OneLevelSyntaxTree
  pub rest : List OneLevelSyntaxTree
  pub mid : ℕ
  pub same : map one_level_syntax_tree items ≡ first ∷ rest
  pub is : IsLevel text ts at first mid
  pub are : IsLevelList text ts mid rest to

-- the handlers and all behind them
pub record IsLevelBack (text : List ℕ) (ts : List Lexeme) (at : ℕ) (handlers : List HandlerSyntaxTree)
    (levels : List OneLevelSyntaxTree) (choose_at : ℕ) (choose : OrderSyntaxTree) (steal_at : ℕ)
    (steal : OrderSyntaxTree) (batch : Option BatchSyntaxTree) : Type 0 where
  pub levels_at : ℕ
  pub further_at : ℕ
  pub first : OneLevelSyntaxTree
  pub further : List OneLevelSyntaxTree
  pub are : IsHandlers text ts at handlers levels_at
  pub listed : levels ≡ first ∷ further
  pub is : IsLevel text ts levels_at first further_at
  pub follow : IsLevelList text ts further_at further choose_at
  pub choices : IsChoices text ts choose_at choose steal_at steal batch
