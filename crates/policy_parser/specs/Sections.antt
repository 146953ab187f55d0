-- The sections of a policy, as the parser reads them.
use Rattle.std.specs.Prelude.{ℕ, ◌+◌, ◌≡◌, List, length, Option}
use Rattle.policy_syntax.specs.declared.syntax.LoadSyntax.{LoadSyntax}
use Rattle.policy_syntax.specs.declared.syntax.AttrSyntax.{AttrSyntax}
use Rattle.policy_syntax.specs.declared.syntax.PlaceSyntax.{PlaceSyntax}
use Rattle.policy_syntax.specs.SyntaxTrees.{ConditionTree, OrderSyntaxTree, ElectSyntaxTree, BatchSyntaxTree}
use Rattle.policy_syntax.specs.SyntaxTrees.{HandlerSyntaxTree}
use Rattle.policy_grammar.specs.declared.terminal.Lexeme.{Lexeme}
use Rattle.policy_grammar.specs.declared.terminal.Terminal.{Terminal}
use Rattle.policy_grammar.specs.declared.terminal.Terminal.TheVariants.{Name, Filter, Choose, Steal, Colon}
use Rattle.policy_grammar.specs.Terminals.{code, kind_at, word_at}
use Rattle.policy_grammar.specs.Conditions.{IsCondition}
use Rattle.policy_grammar.specs.Orders.{IsOrder}
use Rattle.policy_grammar.specs.Policies.{IsLoad, IsAttrs, IsPlace, IsElect, IsHandlers, IsBatch}

-- that word, the name and the load
pub record IsHeader (text : List ℕ) (ts : List Lexeme) (word : Terminal) (name : List ℕ) (load : LoadSyntax)
    (to : ℕ) : Type 0 where
  pub begins : kind_at ts 0 ≡ code word
  pub named : kind_at ts 1 ≡ code Name
  pub called : name ≡ word_at text ts 1
  pub loads : IsLoad ts 2 load to

-- the rules that may be left out
pub record IsRules (text : List ℕ) (ts : List Lexeme) (at : ℕ) (place : Option PlaceSyntax)
    (elect : Option ElectSyntaxTree) (to : ℕ) : Type 0 where
  pub mid : ℕ
  pub places : IsPlace text ts at place mid
  pub elects : IsElect text ts mid elect to

-- all before the handlers
pub record IsFront (text : List ℕ) (ts : List Lexeme) (word : Terminal) (name : List ℕ) (load : LoadSyntax)
    (attrs : List AttrSyntax) (place : Option PlaceSyntax) (elect : Option ElectSyntaxTree) (to : ℕ) : Type 0 where
  pub attrs_at : ℕ
  pub rules_at : ℕ
  pub header : IsHeader text ts word name load attrs_at
  pub are : IsAttrs text ts attrs_at attrs rules_at
  pub rules : IsRules text ts rules_at place elect to

-- the order of the threads to steal, and the batch
pub record IsSteals (text : List ℕ) (ts : List Lexeme) (at : ℕ) (steal : OrderSyntaxTree)
    (batch : Option BatchSyntaxTree) : Type 0 where
  pub mid : ℕ
  pub begins : kind_at ts at ≡ code Steal
  pub steals : IsOrder text ts (at + 1) steal mid
  pub goes_on : IsBatch text ts mid batch (length ts)

-- the two orders at the end, and the batch
pub record IsChoices (text : List ℕ) (ts : List Lexeme) (at : ℕ) (choose : OrderSyntaxTree) (steal_at : ℕ)
    (steal : OrderSyntaxTree) (batch : Option BatchSyntaxTree) : Type 0 where
  pub begins : kind_at ts at ≡ code Choose
  pub chooses : IsOrder text ts (at + 1) choose steal_at
  pub follows : IsSteals text ts steal_at steal batch

-- the handlers and all behind them
pub record IsBack (text : List ℕ) (ts : List Lexeme) (at : ℕ) (handlers : List HandlerSyntaxTree) (filter_at : ℕ)
    (filter : ConditionTree)
    (choose_at : ℕ) (choose : OrderSyntaxTree) (steal_at : ℕ) (steal : OrderSyntaxTree)
    (batch : Option BatchSyntaxTree) : Type 0 where
  pub are : IsHandlers text ts at handlers filter_at
  pub begins : kind_at ts filter_at ≡ code Filter
  pub filters : IsCondition text ts (filter_at + 1) filter choose_at
  pub choices : IsChoices text ts choose_at choose steal_at steal batch

-- the condition of a case, and the colon
pub record IsGuard (text : List ℕ) (ts : List Lexeme) (at : ℕ) (guard : ConditionTree) (to : ℕ) : Type 0 where
  pub colon_at : ℕ
  pub is : IsCondition text ts at guard colon_at
  pub colon : kind_at ts colon_at ≡ code Colon
  pub next : to ≡ colon_at + 1
