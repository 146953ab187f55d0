-- The grammar of policies, in the same form.
use Rattle.std.specs.Prelude.{ℕ, ◌+◌, ◌≡◌, Bool, true, List, [], ◌∷◌, length, Option, Some, None}
use Rattle.policy_tree.specs.declared.typed.Event.{Event}
use Rattle.policy_tree.specs.declared.typed.Put.{Put}
use Rattle.policy_syntax.specs.declared.syntax.IntSyntax.{IntSyntax}
use Rattle.policy_syntax.specs.declared.syntax.RangeSyntax.{RangeSyntax}
use Rattle.policy_syntax.specs.declared.syntax.LoadSyntax.{LoadSyntax}
use Rattle.policy_syntax.specs.declared.syntax.LoadSyntax.TheVariants as load
use Rattle.policy_syntax.specs.declared.syntax.AttrSyntax.{AttrSyntax}
use Rattle.policy_syntax.specs.declared.syntax.PlaceSyntax.{PlaceSyntax}
use Rattle.policy_syntax.specs.declared.syntax.PlaceSyntax.TheVariants as place
use Rattle.policy_syntax.specs.declared.syntax.SetSyntax.{SetSyntax}
use Rattle.policy_syntax.specs.declared.syntax.ExprSyntax.{ExprSyntax}
use Rattle.policy_syntax.specs.SyntaxTrees.{ConditionTree, OrderSyntaxTree, ElectSyntaxTree, BatchSyntaxTree}
use Rattle.policy_syntax.specs.SyntaxTrees.{CaseSyntaxTree, HandlerSyntaxTree, SyntaxTree}
use Rattle.policy_grammar.specs.declared.terminal.Terminal.TheVariants.{Policy, Load, Count, Weight, In, Start, Place}
use Rattle.policy_grammar.specs.declared.terminal.Terminal.TheVariants.{Here, Min, Elect, Choose, Steal, On, When}
use Rattle.policy_grammar.specs.declared.terminal.Terminal.TheVariants.{Filter, Task, While, Limit, Name, Number, Dot}
use Rattle.policy_grammar.specs.declared.terminal.Terminal.TheVariants.{Comma, Colon, Begin, Finish, Gets}
use Rattle.policy_grammar.specs.declared.terminal.Lexeme.{Lexeme}
use Rattle.policy_grammar.specs.Terminals.{code, kind_at, value_at, word_at, is_word}
use Rattle.policy_grammar.specs.Words.{attr_word, event_word, put_word}
use Rattle.policy_grammar.specs.Expressions.{IsInt, IsRange, IsExpr}
use Rattle.policy_grammar.specs.Conditions.{IsCondition}
use Rattle.policy_grammar.specs.Orders.{IsOrder}

-- load = "load" "count" | "load" "weight" range
pub data IsLoad (ts : List Lexeme) : ℕ → LoadSyntax → ℕ → Type 0 where
  load_count : {at : ℕ} → kind_at ts at ≡ code Load → kind_at ts (at + 1) ≡ code Count →
      IsLoad ts at (load.Count at) (at + 2)
  load_weight : {at to : ℕ} {range : RangeSyntax} → kind_at ts at ≡ code Load → kind_at ts (at + 1) ≡ code Weight →
      IsRange ts (at + 2) range to → IsLoad ts at (load.Weight at range) to

-- attr = ("core" | "thread") NAME "in" range "start" int
pub data IsAttr (text : List ℕ) (ts : List Lexeme) : ℕ → AttrSyntax → ℕ → Type 0 where
  attr_of : {at mid to : ℕ} (of_cores : Bool) {range : RangeSyntax} {start : IntSyntax} →
      kind_at ts at ≡ attr_word of_cores → kind_at ts (at + 1) ≡ code Name → kind_at ts (at + 2) ≡ code In →
      IsRange ts (at + 3) range mid → kind_at ts mid ≡ code Start → IsInt ts (mid + 1) start to →
      IsAttr text ts at
      (record { at = at; of_cores = of_cores; name = word_at text ts (at + 1); range = range; start = start }) to

-- attr*
pub data IsAttrs (text : List ℕ) (ts : List Lexeme) : ℕ → List AttrSyntax → ℕ → Type 0 where
  attrs_none : {at : ℕ} → IsAttrs text ts at [] at
  attrs_more : {at mid to : ℕ} {a : AttrSyntax} {rest : List AttrSyntax} →
      IsAttr text ts at a mid → IsAttrs text ts mid rest to → IsAttrs text ts at (a ∷ rest) to

-- [place], place = "place" "here" | "place" "min" expr
pub data IsPlace (text : List ℕ) (ts : List Lexeme) : ℕ → Option PlaceSyntax → ℕ → Type 0 where
  place_none : {at : ℕ} → IsPlace text ts at None at
  place_here : {at : ℕ} → kind_at ts at ≡ code Place → kind_at ts (at + 1) ≡ code Here →
      IsPlace text ts at (Some (place.Here at)) (at + 2)
  place_least : {at to : ℕ} {v : ExprSyntax} → kind_at ts at ≡ code Place → kind_at ts (at + 1) ≡ code Min →
      IsExpr text ts (at + 2) v to → IsPlace text ts at (Some (place.Least at v)) to

-- [elect], elect = "elect" order
pub data IsElect (text : List ℕ) (ts : List Lexeme) : ℕ → Option ElectSyntaxTree → ℕ → Type 0 where
  elect_none : {at : ℕ} → IsElect text ts at None at
  elect_some : {at to : ℕ} {order : OrderSyntaxTree} → kind_at ts at ≡ code Elect → IsOrder text ts (at + 1) order to →
      IsElect text ts at (Some (record { at = at; order = order })) to

-- (set ",")*, set = "t" "." WORD "=" expr
pub data IsSets (text : List ℕ) (ts : List Lexeme) : ℕ → List SetSyntax → ℕ → Type 0 where
  sets_none : {at : ℕ} → IsSets text ts at [] at
  sets_more : {at mid to : ℕ} {v : ExprSyntax} {rest : List SetSyntax} →
      kind_at ts at ≡ code Task → kind_at ts (at + 1) ≡ code Dot → is_word (kind_at ts (at + 2)) ≡ true →
      kind_at ts (at + 3) ≡ code Gets → IsExpr text ts (at + 4) v mid → kind_at ts mid ≡ code Comma →
      IsSets text ts (mid + 1) rest to →
      IsSets text ts at (record { at = at; word = word_at text ts (at + 2); value = v } ∷ rest) to

-- case = "when" cond ":" (set ",")* put
pub data IsCase (text : List ℕ) (ts : List Lexeme) : ℕ → CaseSyntaxTree → ℕ → Type 0 where
  case_of : {at mid last : ℕ} {guard : ConditionTree} {sets : List SetSyntax} (put : Put) →
      kind_at ts at ≡ code When → IsCondition text ts (at + 1) guard mid → kind_at ts mid ≡ code Colon →
      IsSets text ts (mid + 1) sets last → kind_at ts last ≡ put_word put →
      IsCase text ts at (record { at = at; guard = guard; sets = sets; put_at = last; put = put }) (last + 1)

-- case*
pub data IsCases (text : List ℕ) (ts : List Lexeme) : ℕ → List CaseSyntaxTree → ℕ → Type 0 where
  cases_none : {at : ℕ} → IsCases text ts at [] at
  cases_more : {at mid to : ℕ} {c : CaseSyntaxTree} {rest : List CaseSyntaxTree} →
      IsCase text ts at c mid → IsCases text ts mid rest to → IsCases text ts at (c ∷ rest) to

-- on = "on" ("enqueue" | "tick" | "yield" | "block") "{" case+ "}"
pub data IsHandler (text : List ℕ) (ts : List Lexeme) : ℕ → HandlerSyntaxTree → ℕ → Type 0 where
  handler_of : {at mid last : ℕ} (event : Event) {c : CaseSyntaxTree} {rest : List CaseSyntaxTree} →
      kind_at ts at ≡ code On → kind_at ts (at + 1) ≡ event_word event → kind_at ts (at + 2) ≡ code Begin →
      IsCase text ts (at + 3) c mid → IsCases text ts mid rest last → kind_at ts last ≡ code Finish →
      IsHandler text ts at (record { at = at; event = event; cases = c ∷ rest }) (last + 1)

-- on*
pub data IsHandlers (text : List ℕ) (ts : List Lexeme) : ℕ → List HandlerSyntaxTree → ℕ → Type 0 where
  handlers_none : {at : ℕ} → IsHandlers text ts at [] at
  handlers_more : {at mid to : ℕ} {h : HandlerSyntaxTree} {rest : List HandlerSyntaxTree} →
      IsHandler text ts at h mid → IsHandlers text ts mid rest to → IsHandlers text ts at (h ∷ rest) to

-- ["while" cond "limit" NUMBER]
pub data IsBatch (text : List ℕ) (ts : List Lexeme) : ℕ → Option BatchSyntaxTree → ℕ → Type 0 where
  batch_none : {at : ℕ} → IsBatch text ts at None at
  batch_some : {at mid : ℕ} {condition : ConditionTree} → kind_at ts at ≡ code While →
      IsCondition text ts (at + 1) condition mid → kind_at ts mid ≡ code Limit → kind_at ts (mid + 1) ≡ code Number →
      IsBatch text ts at (Some (record {
        at = at;
        condition = condition;
        limit_at = mid + 1;
        limit = value_at ts (mid + 1);
      })) (mid + 2)

-- policy = "policy" NAME load attr* [place] [elect] on* filter choose steal
pub data IsPolicy (text : List ℕ) (ts : List Lexeme) : SyntaxTree → Type 0 where
  policy_of : {at_attrs at_place at_elect at_handlers at_filter at_choose at_steal at_batch : ℕ}
      {load : LoadSyntax} {attrs : List AttrSyntax} {place : Option PlaceSyntax} {elect : Option ElectSyntaxTree}
      {handlers : List HandlerSyntaxTree} {filter : ConditionTree} {choose steal : OrderSyntaxTree}
      {batch : Option BatchSyntaxTree} →
      kind_at ts 0 ≡ code Policy → kind_at ts 1 ≡ code Name → IsLoad ts 2 load at_attrs →
      IsAttrs text ts at_attrs attrs at_place → IsPlace text ts at_place place at_elect →
      IsElect text ts at_elect elect at_handlers → IsHandlers text ts at_handlers handlers at_filter →
      kind_at ts at_filter ≡ code Filter → IsCondition text ts (at_filter + 1) filter at_choose →
      kind_at ts at_choose ≡ code Choose → IsOrder text ts (at_choose + 1) choose at_steal →
      kind_at ts at_steal ≡ code Steal → IsOrder text ts (at_steal + 1) steal at_batch →
      IsBatch text ts at_batch batch (length ts) →
      IsPolicy text ts (record {
        name = word_at text ts 1;
        load = load;
        attrs = attrs;
        place = place;
        elect = elect;
        handlers = handlers;
        filter_at = at_filter;
        filter = filter;
        choose_at = at_choose;
        choose = choose;
        steal_at = at_steal;
        steal = steal;
        batch = batch;
      })
