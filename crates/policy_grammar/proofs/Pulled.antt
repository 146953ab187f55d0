-- What stands before a token, by the stack of what was still to come there: what each symbol stands for.
use Rattle.std.proofs.Common.{◌≡◌, ◌≢◌, ℕ, ◌+◌, ◌==◌, ◌⊎◌, inl, inr, List, [], ◌∷◌, refl, sym, subst, arith, Bool, true, false, Option, None, ◌∙◌, if◌then◌else◌}
use Rattle.std.proofs.lemmas.Bool.Decides.{eqb_tells}
use Rattle.policy_tree.specs.declared.trees.Cmp.{Cmp}
use Rattle.policy_tree.specs.declared.typed.Event.{Event}
use Rattle.policy_tree.specs.declared.typed.Put.{Put}
use Rattle.policy_syntax.specs.declared.syntax.Owner.{Owner}
use Rattle.policy_syntax.specs.declared.syntax.IntSyntax.{IntSyntax}
use Rattle.policy_syntax.specs.declared.syntax.LoadSyntax.{LoadSyntax}
use Rattle.policy_syntax.specs.declared.syntax.AttrSyntax.{AttrSyntax}
use Rattle.policy_syntax.specs.declared.syntax.PlaceSyntax.{PlaceSyntax}
use Rattle.policy_syntax.specs.declared.syntax.SetSyntax.{SetSyntax}
use Rattle.policy_syntax.specs.declared.syntax.ExprSyntax.{ExprSyntax}
use Rattle.policy_syntax.specs.declared.syntax.TimesSyntax.{TimesSyntax}
use Rattle.policy_syntax.specs.declared.syntax.AddedSyntax.{AddedSyntax}
use Rattle.policy_syntax.specs.declared.syntax.OperandSyntax.{OperandSyntax}
use Rattle.policy_syntax.specs.LevelTrees.{OneLevelSyntaxTree}
use Rattle.policy_syntax.specs.SyntaxTrees.{ConditionTree, ConditionTrees, KeySyntaxTree, OrderSyntaxTree, ElectSyntaxTree, BatchSyntaxTree, CaseSyntaxTree, HandlerSyntaxTree}
use Rattle.policy_grammar.specs.declared.terminal.Lexeme.{Lexeme}
use Rattle.policy_grammar.specs.declared.terminal.Terminal.TheVariants.{Load, Count, Weight, Place, Here, Min, Dot, Range, Close, Minus, Star}
use Rattle.policy_grammar.specs.Terminals.{code, kind_at, is_word}
use Rattle.policy_grammar.specs.Words.{sign_word, owner_word, event_word, put_word, compare_word}
use Rattle.policy_grammar.specs.Expressions.{IsInt, range_of, IsOperand, operand_reference, factor_plain, factor_signed, IsTimes, times_none, times_more, term_of, IsAdded, added_more, IsExpr, expr_of}
use Rattle.policy_grammar.specs.Conditions.{IsUnit, IsAnds, IsOrs, IsCondition}
use Rattle.policy_grammar.specs.Orders.{IsKey, IsKeys, IsOrder}
use Rattle.policy_grammar.specs.Policies.{IsLoad, load_count, load_weight, IsAttrs, IsPlace, place_here, place_least, IsElect, IsBatch, IsSets, IsCase, IsCases, IsHandlers}
use Rattle.policy_grammar.specs.Levels.{IsLevelWithin, IsLevel, IsLevelList}
use Rattle.policy_grammar.specs.Symbols.{Symbol, the, load_rule, int, attrs, place, place_rule, elect, handlers, event, case, cases, actions, field, order, key, keys, batch, level, levels, within, condition, unit, ands, ors, close, compare, operand, dot, word, operators, state, Move, refuses, goes}

module _ (text : List ℕ) (ts : List Lexeme) where
  -- a token of that kind stands there
  pub data Token (kind : ℕ) : ℕ → ℕ → Type 0 where
    token : {at : ℕ} → kind_at ts at ≡ kind → Token kind at (at + 1)

  pub data Word : ℕ → ℕ → Type 0 where
    any_word : {at : ℕ} → is_word (kind_at ts at) ≡ true → Word at (at + 1)

  -- an assignment's part of a case, and where the thread is put
  pub data Actions : ℕ → ℕ → Type 0 where
    acts : {at last : ℕ} {sets : List SetSyntax} (put : Put) → IsSets text ts at sets last → kind_at ts last ≡ put_word put → Actions at (last + 1)

  pub record Cases (at to : ℕ) : Type 0 where
    pub first : CaseSyntaxTree
    pub rest : List CaseSyntaxTree
    pub mid : ℕ
    pub is : IsCase text ts at first mid
    pub are : IsCases text ts mid rest to

  pub record Keys (at to : ℕ) : Type 0 where
    pub first : KeySyntaxTree
    pub rest : List KeySyntaxTree
    pub mid : ℕ
    pub is : IsKey text ts at first mid
    pub are : IsKeys text ts mid rest to

  pub record LevelChain (at to : ℕ) : Type 0 where
    pub first : OneLevelSyntaxTree
    pub rest : List OneLevelSyntaxTree
    pub mid : ℕ
    pub is : IsLevel text ts at first mid
    pub are : IsLevelList text ts mid rest to

  pub record Compared (at to : ℕ) : Type 0 where
    pub by : Cmp
    pub right : ExprSyntax
    pub sign : kind_at ts at ≡ compare_word by
    pub is : IsExpr text ts (at + 1) right to

  pub record Further (at to : ℕ) : Type 0 where
    pub times : List TimesSyntax
    pub added : List AddedSyntax
    pub mid : ℕ
    pub are : IsTimes text ts at times mid
    pub sums : IsAdded text ts mid added to

  -- the tokens between two places are the symbol
  abbrev pub Means : Symbol → ℕ → ℕ → Type 0
  Means (the terminal) at to = Token (code terminal) at to
  Means load_rule at to = (from : ℕ) → Token (code Load) from at → (v : LoadSyntax) × IsLoad ts from v to
  Means int at to = (v : IntSyntax) × IsInt ts at v to
  Means (attrs cores threads) at to = (us : List AttrSyntax) × IsAttrs text ts at us to
  Means place at to = (p : Option PlaceSyntax) × IsPlace text ts at p to
  Means place_rule at to = (from : ℕ) → Token (code Place) from at → (p : Option PlaceSyntax) × IsPlace text ts from p to
  Means elect at to = (e : Option ElectSyntaxTree) × IsElect text ts at e to
  Means handlers at to = (hs : List HandlerSyntaxTree) × IsHandlers text ts at hs to
  Means event at to = (e : Event) × Token (event_word e) at to
  Means (case before) at to = Cases at to
  Means (cases before) at to = (cs : List CaseSyntaxTree) × IsCases text ts at cs to
  Means (actions before) at to = Actions at to
  Means field at to = Word at to
  Means (order most) at to = (o : OrderSyntaxTree) × IsOrder text ts at o to
  Means (key most before) at to = Keys at to
  Means (keys most before) at to = (ks : List KeySyntaxTree) × IsKeys text ts at ks to
  Means batch at to = (b : Option BatchSyntaxTree) × IsBatch text ts at b to
  Means (level before) at to = LevelChain at to
  Means (levels before) at to = (ls : List OneLevelSyntaxTree) × IsLevelList text ts at ls to
  Means within at to = (v : ConditionTree) × IsLevelWithin text ts at v to
  Means (condition most) at to = (v : ConditionTree) × IsCondition text ts at v to
  Means (unit most depth) at to = (v : ConditionTree) × IsUnit text ts at v to
  Means (ands most depth) at to = (us : ConditionTrees) × IsAnds text ts at us to
  Means (ors most depth) at to = (cs : ConditionTrees) × IsOrs text ts at cs to
  Means close at to = Token (code Close) at to
  Means (compare most depth) at to = Compared at to
  Means (operand base depth before) at to = (e : ExprSyntax) × IsExpr text ts at e to
  Means (dot base before) at to = (from : ℕ) (o : Owner) → Token (owner_word o) from at → (e : ExprSyntax) × IsExpr text ts from e to
  Means (word base before) at to = (from mid : ℕ) (o : Owner) → Token (owner_word o) from mid → Token (code Dot) mid at → (e : ExprSyntax) × IsExpr text ts from e to
  Means (operators base before) at to = Further at to

  pub data Are : List Symbol → ℕ → ℕ → Type 0 where
    are_none : {at : ℕ} → Are [] at at
    are_more : {symbol : Symbol} {below : List Symbol} {at to : ℕ} (mid : ℕ) → Means symbol at mid → Are below mid to → Are (symbol ∷ below) at to

  -- a factor before what follows it is an expression
  pub operand-further : {at mid to : ℕ} {v : OperandSyntax} → IsOperand text ts at v mid → Further mid to → (e : ExprSyntax) × IsExpr text ts at e to
  operand-further d f = (_, expr_of (term_of (factor_plain d) f.are) f.sums)

  pub signed-expr : {at to : ℕ} {e : ExprSyntax} → kind_at ts at ≡ code Minus → IsExpr text ts (at + 1) e to → (w : ExprSyntax) × IsExpr text ts at w to
  signed-expr k (expr_of (term_of {first = first} d times) added) = (_, expr_of (term_of (factor_signed first k d) times) added)

  pub star-expr : {at to : ℕ} {e : ExprSyntax} → kind_at ts at ≡ code Star → IsExpr text ts (at + 1) e to → Further at to
  star-expr k (expr_of {rest = rest} (term_of d times) added) = record { times = _; added = rest; mid = _; are = times_more k d times; sums = added }

  pub sign-expr : {at to : ℕ} {e : ExprSyntax} (minus : Bool) → kind_at ts at ≡ sign_word minus → IsExpr text ts (at + 1) e to → Further at to
  sign-expr minus k (expr_of t added) = record { times = []; added = _; mid = _; are = times_none; sums = added_more minus k t added }

  pub reference-further : {from mid at to : ℕ} (o : Owner) → Token (owner_word o) from mid → Token (code Dot) mid at → is_word (kind_at ts at) ≡ true →
      Further (at + 1) to → (e : ExprSyntax) × IsExpr text ts from e to
  reference-further {from = from} {to = to} o (token k) (token d) w f =
      let two : from + 1 + 1 ≡ from + 2 = omega arith in
      let three : from + 1 + 1 + 1 ≡ from + 3 = omega arith in
      operand-further (operand_reference o k d (subst (λ n. is_word (kind_at ts n) ≡ true) two w)) (subst (λ n. Further n to) three f)

  -- what completes the tokens behind a move completes them before it
  abbrev pub Pulls : List Symbol → ℕ → ℕ → Move → Type 0
  Pulls stack at to refuses = Unit {0}
  Pulls stack at to (goes o (state count next)) = Are next (at + 1) to → Are stack at to

  pub if-pulls : (stack : List Symbol) (at to k c : ℕ) (x y : Move) → (k ≡ c → Pulls stack at to x) → Pulls stack at to y →
      Pulls stack at to (if k == c then x else y)
  if-pulls stack at to k c x y f h = by (eqb_tells k c)
    where
      by : (((k == c) ≡ true) × (k ≡ c)) ⊎ (((k == c) ≡ false) × (k ≢ c)) → Pulls stack at to (if k == c then x else y)
      by (inl p) = rw p.0 (f p.1)
      by (inr p) = rw p.0 h

  -- a test by several kinds
  pub any-pulls : (stack : List Symbol) (at to : ℕ) (b : Bool) (x y : Move) → (b ≡ true → Pulls stack at to x) → Pulls stack at to y →
      Pulls stack at to (if b then x else y)
  any-pulls stack at to true x y f h = f refl
  any-pulls stack at to false x y f h = h

  -- the token is the whole symbol
  pub takes : (stack below : List Symbol) (at to count k c : ℕ) (y : Move) → (k ≡ c → Are below (at + 1) to → Are stack at to) → Pulls stack at to y →
      Pulls stack at to (if k == c then goes None (state count below) else y)
  takes stack below at to count k c y f h = if-pulls stack at to k c (goes None (state count below)) y f h

  pub any-takes : (stack below : List Symbol) (at to count : ℕ) (b : Bool) (y : Move) → (b ≡ true → Are below (at + 1) to → Are stack at to) → Pulls stack at to y →
      Pulls stack at to (if b then goes None (state count below) else y)
  any-takes stack below at to count b y f h = any-pulls stack at to b (goes None (state count below)) y f h

  -- a symbol that may be nothing leaves the token to those below
  pub lift-pulls : (stack below : List Symbol) (at to : ℕ) (m : Move) → (Are below at to → Are stack at to) → Pulls below at to m → Pulls stack at to m
  lift-pulls stack below at to refuses f h = tt
  lift-pulls stack below at to (goes o (state count next)) f h = λ means. f (h means)

  two-more : (at : ℕ) → at + 1 + 1 ≡ at + 2
  two-more at = omega arith

  pub load-count : {from at to : ℕ} → kind_at ts at ≡ code Count → Token (code Load) from at → to ≡ at + 1 → (v : LoadSyntax) × IsLoad ts from v to
  load-count {from = from} k (token l) e =
      let there : from + 2 ≡ from + 1 + 1 = omega arith in
      subst (λ n. (v : LoadSyntax) × IsLoad ts from v n) (there ∙ sym e) (_, load_count l k)

  pub load-weight : {from at to : ℕ} {low high : IntSyntax} {mid last : ℕ} → kind_at ts at ≡ code Weight → IsInt ts (at + 1) low mid → Token (code Range) mid last →
      IsInt ts last high to → Token (code Load) from at → (v : LoadSyntax) × IsLoad ts from v to
  load-weight {from = from} {low = low} {mid = mid} k d (token r) h (token l) =
      (_, load_weight l k (range_of (subst (λ n. IsInt ts n low mid) (two-more from) d) r h))

  pub place-here : {from at to : ℕ} → kind_at ts at ≡ code Here → Token (code Place) from at → to ≡ at + 1 → (p : Option PlaceSyntax) × IsPlace text ts from p to
  place-here {from = from} k (token l) e =
      let there : from + 2 ≡ from + 1 + 1 = omega arith in
      subst (λ n. (p : Option PlaceSyntax) × IsPlace text ts from p n) (there ∙ sym e) (_, place_here l k)

  pub place-least : {from at to : ℕ} {e : ExprSyntax} → kind_at ts at ≡ code Min → IsExpr text ts (at + 1) e to → Token (code Place) from at →
      (p : Option PlaceSyntax) × IsPlace text ts from p to
  place-least {from = from} {to = to} {e = e} k d (token l) = (_, place_least l k (subst (λ n. IsExpr text ts n e to) (two-more from) d))
