-- What is read begins some policy: each stack of what is still to come can be completed, and what completes it
-- completes the tokens before it.
use Rattle.std.proofs.Common.{◌≡◌, ℕ, ◌+◌, ◌⊎◌, inl, inr, List, [], ◌∷◌, refl, subst, arith, Bool, true, false, Option, None}
use Rattle.policy_tree.specs.declared.trees.Cmp.{Cmp}
use Rattle.policy_tree.specs.declared.typed.Event.{Event}
use Rattle.policy_tree.specs.declared.typed.Put.{Put}
use Rattle.policy_syntax.specs.declared.syntax.Owner.{Owner}
use Rattle.policy_syntax.specs.declared.syntax.IntSyntax.{IntSyntax}
use Rattle.policy_syntax.specs.declared.syntax.AttrSyntax.{AttrSyntax}
use Rattle.policy_syntax.specs.declared.syntax.ExprSyntax.{ExprSyntax}
use Rattle.policy_syntax.specs.SyntaxTrees.{ConditionTree, BatchSyntaxTree}
use Rattle.policy_grammar.specs.declared.terminal.Lexeme.{Lexeme}
use Rattle.policy_grammar.specs.declared.terminal.Terminal.TheVariants.{Count, Weight, Core, In, Start, Place, Here, Min, Elect, On, When, Within, Filter, And, Or, Not, Task, While, Limit, Prefer, Name, Number, Dot, Range, Comma, Colon, Open, Close, Begin, Finish, Minus, Star, Gets}
use Rattle.policy_grammar.specs.declared.terminal.Terminal.TheVariants as terminal_is
use Rattle.policy_grammar.specs.declared.limits.Limits.{Limits}
use Rattle.policy_grammar.specs.Terminals.{code, kind_at, is_word}
use Rattle.policy_grammar.specs.Words.{attr_word, key_word, sign_word, owner_word, event_word, put_word, compare_word}
use Rattle.policy_grammar.specs.Expressions.{IsInt, int_plain, int_signed, range_of, operand_number, times_none, added_none, IsExpr}
use Rattle.policy_grammar.specs.Conditions.{IsUnit, unit_always, unit_not, unit_group, unit_test, ands_none, ands_more, conjunction_of, ors_none, ors_more, condition_of}
use Rattle.policy_grammar.specs.Orders.{key_ranked, key_preferring, keys_none, keys_more, order_first, order_keys}
use Rattle.policy_grammar.specs.Policies.{attr_of, IsAttrs, attrs_none, attrs_more, place_none, elect_none, elect_some, IsBatch, batch_none, batch_some, sets_none, sets_more, IsCase, case_of, cases_none, cases_more, handler_of, handlers_none, handlers_more}
use Rattle.policy_grammar.specs.Levels.{IsLevelWithin, within_always, within_test, level_of, levels_none, levels_more}
use Rattle.policy_grammar.specs.Symbols.{Symbol, count_behind, the, load_rule, int, attrs, place, place_rule, elect, handlers, event, case, cases, actions, field, order, key, keys, batch, level, levels, within, condition, unit, ands, ors, close, compare, operand, dot, word, operators, Move, refuses}
use Rattle.policy_grammar.specs.Machine.{factor_move, unit_move, key_move, case_move, level_move, attr_move, symbol_move, moves}
use Rattle.policy_grammar.proofs.Pulled.{load-count, load-weight, place-here, place-least, Are, Cases, Keys, LevelChain, Pulls, acts, any-pulls, any-takes, any_word, are_more, if-pulls, lift-pulls, operand-further, reference-further, sign-expr, signed-expr, star-expr, takes, token}
use Rattle.policy_grammar.proofs.TokenWords.{compare-by, event-by, key-by, operator-by, owner-by, put-by}

module _ (limits : Limits) (text : List ℕ) (ts : List Lexeme) where
  factor-pulls : (at to count base depth before : ℕ) (below stack : List Symbol) →
      ((e : ExprSyntax) (mid : ℕ) → IsExpr text ts at e mid → Are text ts below mid to → Are text ts stack at to) →
      Pulls text ts stack at to (factor_move limits count base depth before at below (kind_at ts at))
  factor-pulls at to count base depth before below stack whole =
      if-pulls text ts stack at to _ (code terminal_is.Number) _ _ (λ k. number k)
      (if-pulls text ts stack at to _ (code terminal_is.Minus) _ _ (λ k. sign k)
      (any-pulls text ts stack at to _ _ _ (λ e. refers (owner-by _ e)) tt))
    where
      number : kind_at ts at ≡ code Number → Are text ts (operators base before ∷ below) (at + 1) to → Are text ts stack at to
      number k (are_more mid f rest) = let w = operand-further text ts (operand_number k) f in whole w.0 mid w.1 rest

      sign : kind_at ts at ≡ code Minus → Are text ts (operand base (depth + 1) (before + 1) ∷ below) (at + 1) to → Are text ts stack at to
      sign k (are_more mid f rest) = let w = signed-expr text ts k f.1 in whole w.0 mid w.1 rest

      refers : ((o : Owner) × (kind_at ts at ≡ owner_word o)) → Are text ts (dot base before ∷ below) (at + 1) to → Are text ts stack at to
      refers o (are_more mid f rest) = let w = f at o.0 (token o.1) in whole w.0 mid w.1 rest

  unit-pulls : (at to count most depth : ℕ) (below stack : List Symbol) →
      ((v : ConditionTree) (mid : ℕ) → IsUnit text ts at v mid → Are text ts below mid to → Are text ts stack at to) →
      Pulls text ts stack at to (unit_move limits count most depth at below (kind_at ts at))
  unit-pulls at to count most depth below stack whole =
      takes text ts stack below at to _ _ (code terminal_is.Always) _ (λ k rest. whole _ (at + 1) (unit_always k) rest)
      (if-pulls text ts stack at to _ (code terminal_is.Not) _ _ (λ k. negates k)
      (if-pulls text ts stack at to _ (code terminal_is.Open) _ _ (λ k. groups k)
      (factor-pulls at to count depth depth 0 (compare most depth ∷ below) stack (λ e mid d. tests e mid d))))
    where
      negates : kind_at ts at ≡ code Not → Are text ts (unit most (depth + 1) ∷ below) (at + 1) to → Are text ts stack at to
      negates k (are_more mid f rest) = whole _ mid (unit_not k f.1) rest

      groups : kind_at ts at ≡ code Open → Are text ts (unit most (depth + 1) ∷ ands most (depth + 1) ∷ ors most (depth + 1) ∷ close ∷ below) (at + 1) to → Are text ts stack at to
      groups k (are_more m1 u (are_more m2 us (are_more m3 cs (are_more m4 (token c) rest)))) =
          whole _ m4 (unit_group k (condition_of _ cs.0 (conjunction_of u.0 us.0 u.1 us.1) cs.1) c) rest

      tests : (e : ExprSyntax) (mid : ℕ) → IsExpr text ts at e mid → Are text ts (compare most depth ∷ below) mid to → Are text ts stack at to
      tests e mid d (are_more m1 r rest) = whole _ m1 (unit_test r.by d r.sign r.is) rest

  key-pulls : (at to most before : ℕ) (below stack : List Symbol) →
      ((mid : ℕ) → Keys text ts at mid → Are text ts below mid to → Are text ts stack at to) →
      Pulls text ts stack at to (key_move limits most before at below (kind_at ts at))
  key-pulls at to most before below stack whole =
      any-pulls text ts stack at to _ _ _ (λ e. keyed (key-by _ e))
      (if-pulls text ts stack at to _ (code terminal_is.Prefer) _ _ (λ k. prefers k) tt)
    where
      keyed : ((g : Bool) × (kind_at ts at ≡ key_word g)) → Are text ts (operand 0 0 0 ∷ keys most (before + 1) ∷ below) (at + 1) to → Are text ts stack at to
      keyed g (are_more m1 e (are_more m2 ks rest)) =
          whole m2 (record { first = _; rest = ks.0; mid = m1; is = key_ranked g.0 g.1 e.1; are = ks.1 }) rest

      prefers : kind_at ts at ≡ code Prefer → Are text ts (condition limits.comparisons ∷ keys most (before + 1) ∷ below) (at + 1) to → Are text ts stack at to
      prefers k (are_more m1 v (are_more m2 ks rest)) =
          whole m2 (record { first = _; rest = ks.0; mid = m1; is = key_preferring k v.1; are = ks.1 }) rest

  case-pulls : (at to before : ℕ) (below stack : List Symbol) (outer : Move) → Pulls text ts stack at to outer →
      ((mid : ℕ) → Cases text ts at mid → Are text ts below mid to → Are text ts stack at to) →
      Pulls text ts stack at to (case_move limits before at below (kind_at ts at) outer)
  case-pulls at to before below stack outer out whole =
      if-pulls text ts stack at to _ (code terminal_is.When) _ _ (λ k. cased k) out
    where
      cased : kind_at ts at ≡ code When → Are text ts (condition limits.comparisons ∷ the Colon ∷ actions 0 ∷ cases (before + 1) ∷ below) (at + 1) to → Are text ts stack at to
      cased k (are_more m1 g (are_more m2 (token c) (are_more m3 (acts p s q) (are_more m4 cs rest)))) =
          whole m4 (record { first = _; rest = cs.0; mid = _; is = case_of p k g.1 c s q; are = cs.1 }) rest

  level-pulls : (at to before : ℕ) (below stack : List Symbol) (outer : Move) → Pulls text ts stack at to outer →
      ((mid : ℕ) → LevelChain text ts at mid → Are text ts below mid to → Are text ts stack at to) →
      Pulls text ts stack at to (level_move limits before at below (kind_at ts at) outer)
  level-pulls at to before below stack outer out whole =
      if-pulls text ts stack at to _ (code terminal_is.Level) _ _ (λ k. leveled k) out
    where
      leveled : kind_at ts at ≡ code terminal_is.Level →
          Are text ts (the Within ∷ within ∷ the Filter ∷ condition limits.level_comparisons ∷ levels (before + 1) ∷ below) (at + 1) to → Are text ts stack at to
      leveled k (are_more m1 (token w) (are_more m2 d (are_more m3 (token f) (are_more m4 c (are_more m5 ls rest))))) =
          let there : at + 1 + 1 ≡ at + 2 = omega arith in
          whole m5 (record {
            first = _;
            rest = ls.0;
            mid = m4;
            is = level_of k w (subst (λ n. IsLevelWithin text ts n d.0 m2) there d.1) f c.1;
            are = ls.1;
          }) rest

  attr-pulls : (at to cores threads : ℕ) (below stack : List Symbol) (outer : Move) → Pulls text ts stack at to outer →
      ((us : List AttrSyntax) (mid : ℕ) → IsAttrs text ts at us mid → Are text ts below mid to → Are text ts stack at to) →
      Pulls text ts stack at to (attr_move limits cores threads at below (kind_at ts at) outer)
  attr-pulls at to cores threads below stack outer out whole =
      if-pulls text ts stack at to _ (code terminal_is.Core) _ _ (λ k. declared true k (cores + 1) threads)
      (if-pulls text ts stack at to _ (code terminal_is.Thread) _ _ (λ k. declared false k cores (threads + 1)) out)
    where
      declared : (of_cores : Bool) → kind_at ts at ≡ attr_word of_cores → (c t : ℕ) →
          Are text ts (the Name ∷ the In ∷ int ∷ the Range ∷ int ∷ the Start ∷ int ∷ attrs c t ∷ below) (at + 1) to → Are text ts stack at to
      declared of_cores k c t (are_more m1 (token n) (are_more m2 (token i) (are_more m3 low (are_more m4 (token r) (are_more m5 high (are_more m6 (token s) (are_more m7 begin (are_more m8 more rest)))))))) =
          let there : at + 1 + 1 ≡ at + 2 = omega arith in
          let further : at + 1 + 1 + 1 ≡ at + 3 = omega arith in
          whole _ m8
          (attrs_more
          (attr_of of_cores k n (subst (λ n. kind_at ts n ≡ code In) there i)
          (range_of (subst (λ n. IsInt ts n low.0 m3) further low.1) r high.1) s begin.1)
          more.1) rest

  symbol-pulls : (at to count : ℕ) (s : Symbol) (below : List Symbol) (outer : Move) → Pulls text ts below at to outer →
      Pulls text ts (s ∷ below) at to (symbol_move limits count at s below (kind_at ts at) outer)
  symbol-pulls at to count (the terminal) below outer out =
      takes text ts (the terminal ∷ below) below at to 0 (kind_at ts at) (code terminal) refuses
      (λ k rest. are_more {symbol = the terminal} (at + 1) (token k) rest) tt
  symbol-pulls at to count load_rule below outer out =
      takes text ts _ below at to _ _ (code terminal_is.Count) _
      (λ k rest. are_more (at + 1) (λ from l. load-count text ts k l refl) rest)
      (if-pulls text ts _ at to _ (code terminal_is.Weight) _ _ (λ k. weighs k) tt)
    where
      weighs : kind_at ts at ≡ code Weight → Are text ts (int ∷ the Range ∷ int ∷ below) (at + 1) to → Are text ts (load_rule ∷ below) at to
      weighs k (are_more m1 low (are_more m2 r (are_more m3 high rest))) =
          are_more m3 (λ from l. load-weight text ts k low.1 r high.1 l) rest
  symbol-pulls at to count int below outer out =
      takes text ts _ below at to _ _ (code terminal_is.Number) _ (λ k rest. are_more (at + 1) (_, int_plain k) rest)
      (if-pulls text ts _ at to _ (code terminal_is.Minus) _ _ (λ k. signs k) tt)
    where
      signs : kind_at ts at ≡ code Minus → Are text ts (the Number ∷ below) (at + 1) to → Are text ts (int ∷ below) at to
      signs k (are_more m1 (token n) rest) =
          let there : at + 2 ≡ at + 1 + 1 = omega arith in
          are_more (at + 1 + 1) (subst (λ n. (v : IntSyntax) × IsInt ts at v n) there (_, int_signed k n)) rest
  symbol-pulls at to count (attrs cores threads) below outer out =
      attr-pulls at to cores threads below _ outer (lift-pulls text ts _ below at to outer (λ rest. are_more at ([], attrs_none) rest) out)
      (λ us mid d rest. are_more mid (us, d) rest)
  symbol-pulls at to count place below outer out =
      if-pulls text ts _ at to _ (code terminal_is.Place) _ _ (λ k. places k) (lift-pulls text ts _ below at to outer (λ rest. are_more at (None, place_none) rest) out)
    where
      places : kind_at ts at ≡ code Place → Are text ts (place_rule ∷ below) (at + 1) to → Are text ts (place ∷ below) at to
      places k (are_more m1 f rest) = are_more m1 (f at (token k)) rest
  symbol-pulls at to count place_rule below outer out =
      takes text ts _ below at to _ _ (code terminal_is.Here) _
      (λ k rest. are_more (at + 1) (λ from l. place-here text ts k l refl) rest)
      (if-pulls text ts _ at to _ (code terminal_is.Min) _ _ (λ k. least k) tt)
    where
      least : kind_at ts at ≡ code Min → Are text ts (operand 0 0 0 ∷ below) (at + 1) to → Are text ts (place_rule ∷ below) at to
      least k (are_more m1 e rest) = are_more m1 (λ from l. place-least text ts k e.1 l) rest
  symbol-pulls at to count elect below outer out =
      if-pulls text ts _ at to _ (code terminal_is.Elect) _ _ (λ k. elects k) (lift-pulls text ts _ below at to outer (λ rest. are_more at (None, elect_none) rest) out)
    where
      elects : kind_at ts at ≡ code Elect → Are text ts (order limits.keys ∷ below) (at + 1) to → Are text ts (elect ∷ below) at to
      elects k (are_more m1 o rest) = are_more m1 (_, elect_some k o.1) rest
  symbol-pulls at to count handlers below outer out =
      if-pulls text ts _ at to _ (code terminal_is.On) _ _ (λ k. handles k) (lift-pulls text ts _ below at to outer (λ rest. are_more at ([], handlers_none) rest) out)
    where
      handles : kind_at ts at ≡ code On → Are text ts (event ∷ the Begin ∷ case 0 ∷ the Finish ∷ handlers ∷ below) (at + 1) to → Are text ts (handlers ∷ below) at to
      handles k (are_more m1 (e, token v) (are_more m2 (token b) (are_more m3 c (are_more m4 (token f) (are_more m5 hs rest))))) =
          let there : at + 1 + 1 ≡ at + 2 = omega arith in
          let further : at + 1 + 1 + 1 ≡ at + 3 = omega arith in
          are_more m5 (
            _,
            handlers_more
                (handler_of e k v (subst (λ n. kind_at ts n ≡ code Begin) there b)
                (subst (λ n. IsCase text ts n c.first c.mid) further c.is) c.are f) hs.1,
          ) rest
  symbol-pulls at to count event below outer out =
      any-takes text ts _ below at to _ _ _ (λ e. happens (event-by _ e)) tt
    where
      happens : ((e : Event) × (kind_at ts at ≡ event_word e)) → Are text ts below (at + 1) to → Are text ts (event ∷ below) at to
      happens v rest = are_more (at + 1) (v.0, token v.1) rest
  symbol-pulls at to count (case before) below outer out = case-pulls at to before below _ refuses tt (λ mid c rest. are_more mid c rest)
  symbol-pulls at to count (cases before) below outer out =
      case-pulls at to before below _ outer (lift-pulls text ts _ below at to outer (λ rest. are_more at ([], cases_none) rest) out)
      (λ mid c rest. are_more mid (_, cases_more c.is c.are) rest)
  symbol-pulls at to count (actions before) below outer out =
      if-pulls text ts _ at to _ (code terminal_is.Task) _ _ (λ k. sets k)
      (any-takes text ts _ below at to _ _ _ (λ e. puts (put-by _ e)) tt)
    where
      puts : ((p : Put) × (kind_at ts at ≡ put_word p)) → Are text ts below (at + 1) to → Are text ts (actions before ∷ below) at to
      puts p rest = are_more (at + 1) (acts p.0 sets_none p.1) rest

      sets : kind_at ts at ≡ code Task → Are text ts (the Dot ∷ field ∷ the Gets ∷ operand 0 0 0 ∷ the Comma ∷ actions (before + 1) ∷ below) (at + 1) to →
          Are text ts (actions before ∷ below) at to
      sets k (are_more m1 (token d) (are_more m2 (any_word w) (are_more m3 (token g) (are_more m4 e (are_more m5 (token c) (are_more m6 (acts p s q) rest)))))) =
          let two_on : at + 1 + 1 ≡ at + 2 = omega arith in
          let three_on : at + 1 + 1 + 1 ≡ at + 3 = omega arith in
          let four_on : at + 1 + 1 + 1 + 1 ≡ at + 4 = omega arith in
          are_more m6
          (acts p
          (sets_more k d (subst (λ n. is_word (kind_at ts n) ≡ true) two_on w) (subst (λ n. kind_at ts n ≡ code Gets) three_on g)
          (subst (λ n. IsExpr text ts n e.0 m4) four_on e.1) c s) q) rest
  symbol-pulls at to count field below outer out =
      any-takes text ts (field ∷ below) below at to 0 (is_word (kind_at ts at)) refuses
      (λ e rest. are_more {symbol = field} (at + 1) (any_word e) rest) tt
  symbol-pulls at to count (order most) below outer out =
      takes text ts _ below at to _ _ (code terminal_is.First) _ (λ k rest. are_more (at + 1) (_, order_first k) rest)
      (key-pulls at to most 0 below _ (λ mid k rest. are_more mid (_, order_keys k.is k.are) rest))
  symbol-pulls at to count (key most before) below outer out = key-pulls at to most before below _ (λ mid k rest. are_more mid k rest)
  symbol-pulls at to count (keys most before) below outer out =
      if-pulls text ts _ at to _ (code terminal_is.Comma) _ _ (λ k. follows k) (lift-pulls text ts _ below at to outer (λ rest. are_more at ([], keys_none) rest) out)
    where
      follows : kind_at ts at ≡ code Comma → Are text ts (key most before ∷ below) (at + 1) to → Are text ts (keys most before ∷ below) at to
      follows k (are_more m1 ks rest) = are_more m1 (_, keys_more k ks.is ks.are) rest
  symbol-pulls at to count batch below outer out =
      if-pulls text ts _ at to _ (code terminal_is.While) _ _ (λ k. goes_on k) (lift-pulls text ts _ below at to outer (λ rest. are_more at (None, batch_none) rest) out)
    where
      goes_on : kind_at ts at ≡ code While → Are text ts (condition limits.comparisons ∷ the Limit ∷ the Number ∷ below) (at + 1) to → Are text ts (batch ∷ below) at to
      goes_on k (are_more m1 v (are_more m2 (token l) (are_more m3 (token n) rest))) =
          let there : m1 + 2 ≡ m1 + 1 + 1 = omega arith in
          are_more (m1 + 1 + 1) (subst (λ n. (b : Option BatchSyntaxTree) × IsBatch text ts at b n) there (_, batch_some k v.1 l n)) rest
  symbol-pulls at to count (level before) below outer out = level-pulls at to before below _ refuses tt (λ mid l rest. are_more mid l rest)
  symbol-pulls at to count (levels before) below outer out =
      level-pulls at to before below _ outer (lift-pulls text ts _ below at to outer (λ rest. are_more at ([], levels_none) rest) out)
      (λ mid l rest. are_more mid (_, levels_more l.is l.are) rest)
  symbol-pulls at to count within below outer out =
      takes text ts _ below at to _ _ (code terminal_is.Always) _ (λ k rest. are_more (at + 1) (_, within_always k) rest)
      (factor-pulls at to 0 0 0 0 (compare 1 0 ∷ below) _ (λ e mid d. tests e mid d))
    where
      tests : (e : ExprSyntax) (mid : ℕ) → IsExpr text ts at e mid → Are text ts (compare 1 0 ∷ below) mid to → Are text ts (within ∷ below) at to
      tests e mid d (are_more m1 r rest) = are_more m1 (_, within_test r.by d r.sign r.is) rest
  symbol-pulls at to count (condition most) below outer out = unit-pulls at to 0 most 0 (ands most 0 ∷ ors most 0 ∷ below) _ (λ v mid d. joins v mid d)
    where
      joins : (v : ConditionTree) (mid : ℕ) → IsUnit text ts at v mid → Are text ts (ands most 0 ∷ ors most 0 ∷ below) mid to → Are text ts (condition most ∷ below) at to
      joins v mid d (are_more m1 us (are_more m2 cs rest)) = are_more m2 (_, condition_of _ cs.0 (conjunction_of v us.0 d us.1) cs.1) rest
  symbol-pulls at to count (unit most depth) below outer out = unit-pulls at to count most depth below _ (λ v mid d rest. are_more mid (v, d) rest)
  symbol-pulls at to count (ands most depth) below outer out =
      if-pulls text ts _ at to _ (code terminal_is.And) _ _ (λ k. follows k) (lift-pulls text ts _ below at to outer (λ rest. are_more at (_, ands_none) rest) out)
    where
      follows : kind_at ts at ≡ code And → Are text ts (unit most depth ∷ ands most depth ∷ below) (at + 1) to → Are text ts (ands most depth ∷ below) at to
      follows k (are_more m1 u (are_more m2 us rest)) = are_more m2 (_, ands_more k u.1 us.1) rest
  symbol-pulls at to count (ors most depth) below outer out =
      if-pulls text ts _ at to _ (code terminal_is.Or) _ _ (λ k. follows k) (lift-pulls text ts _ below at to outer (λ rest. are_more at (_, ors_none) rest) out)
    where
      follows : kind_at ts at ≡ code Or → Are text ts (unit most depth ∷ ands most depth ∷ ors most depth ∷ below) (at + 1) to → Are text ts (ors most depth ∷ below) at to
      follows k (are_more m1 u (are_more m2 us (are_more m3 cs rest))) = are_more m3 (_, ors_more k (conjunction_of u.0 us.0 u.1 us.1) cs.1) rest
  symbol-pulls at to count close below outer out =
      takes text ts (close ∷ below) below at to count (kind_at ts at) (code terminal_is.Close) refuses
      (λ k rest. are_more {symbol = close} (at + 1) (token k) rest) tt
  symbol-pulls at to count (compare most depth) below outer out =
      any-pulls text ts _ at to _ _ _ (λ e. compares (compare-by _ e)) tt
    where
      compares : ((c : Cmp) × (kind_at ts at ≡ compare_word c)) → Are text ts (operand depth depth 0 ∷ below) (at + 1) to → Are text ts (compare most depth ∷ below) at to
      compares c (are_more m1 e rest) = are_more m1 (record { by = c.0; right = e.0; sign = c.1; is = e.1 }) rest
  symbol-pulls at to count (operand base depth before) below outer out =
      factor-pulls at to count base depth before below _ (λ e mid d rest. are_more mid (e, d) rest)
  symbol-pulls at to count (dot base before) below outer out =
      if-pulls text ts _ at to _ (code terminal_is.Dot) _ _ (λ k. dots k) tt
    where
      dots : kind_at ts at ≡ code Dot → Are text ts (word base before ∷ below) (at + 1) to → Are text ts (dot base before ∷ below) at to
      dots k (are_more m1 f rest) = are_more m1 (λ from o l. f from at o l (token k)) rest
  symbol-pulls at to count (word base before) below outer out =
      any-pulls text ts _ at to _ _ _ (λ e. names e) tt
    where
      names : is_word (kind_at ts at) ≡ true → Are text ts (operators base before ∷ below) (at + 1) to → Are text ts (word base before ∷ below) at to
      names w (are_more m1 f rest) = are_more m1 (λ from mid o l d. reference-further text ts o l d w f) rest
  symbol-pulls at to count (operators base before) below outer out =
      any-pulls text ts _ at to _ _ _ (λ e. operates (operator-by _ e))
      (lift-pulls text ts _ below at to outer
      (λ rest. are_more at (record { times = []; added = []; mid = at; are = times_none; sums = added_none }) rest) out)
    where
      operates : ((kind_at ts at ≡ code Star) ⊎ ((m : Bool) × (kind_at ts at ≡ sign_word m))) → Are text ts (operand base base (before + 1) ∷ below) (at + 1) to →
          Are text ts (operators base before ∷ below) at to
      operates (inl k) (are_more m1 e rest) = are_more m1 (star-expr text ts k e.1) rest
      operates (inr k) (are_more m1 e rest) = are_more m1 (sign-expr text ts k.0 k.1 e.1) rest

  -- what completes the tokens behind a token completes them before it
  pub pulls : (at to count : ℕ) (stack : List Symbol) → Pulls text ts stack at to (moves limits count at stack (kind_at ts at))
  pulls at to count [] = tt
  pulls at to count (s ∷ below) = symbol-pulls at to count s below _ (pulls at to (count_behind s count) below)
