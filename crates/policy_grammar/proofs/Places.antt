-- Where limits are passed.
use Rattle.std.proofs.Common.{◌≡◌, ℕ, zero, suc, ◌+◌, ◌==◌, ◌||◌, List, [], ◌∷◌, refl, Bool, true, false, nat_lt, Option, Some, None, if◌then◌else◌}
use Rattle.policy_syntax.specs.declared.syntax.AttrSyntax.{AttrSyntax}
use Rattle.policy_syntax.specs.declared.syntax.PlaceSyntax.{PlaceSyntax}
use Rattle.policy_syntax.specs.declared.syntax.PlaceSyntax.TheVariants as place_is
use Rattle.policy_syntax.specs.declared.syntax.SetSyntax.{SetSyntax}
use Rattle.policy_syntax.specs.declared.syntax.TimesSyntax.{TimesSyntax}
use Rattle.policy_syntax.specs.declared.syntax.TermSyntax.{TermSyntax}
use Rattle.policy_syntax.specs.declared.syntax.AddedSyntax.{AddedSyntax}
use Rattle.policy_syntax.specs.declared.syntax.ExprSyntax.{ExprSyntax}
use Rattle.policy_syntax.specs.LevelTrees.{OneLevelSyntaxTree, LevelSyntaxTree}
use Rattle.policy_syntax.specs.SyntaxTrees.{ConditionTree, always, negated, grouped, all, any, test, ConditionTrees, no_more, more, KeySyntaxTree, ranked, preferring, ElectSyntaxTree, BatchSyntaxTree, CaseSyntaxTree, HandlerSyntaxTree, SyntaxTree}
use Rattle.policy_grammar.specs.declared.limits.Limits.{Limits}
use Rattle.policy_grammar.specs.declared.terminal.Terminal.TheVariants as terminal_is
use Rattle.policy_grammar.specs.Terminals.{code, is_word}
use Rattle.policy_grammar.specs.declared.fault.ParseFault.{ParseFault}
use Rattle.policy_grammar.specs.declared.fault.ParseFault.TheVariants.{Unexpected, Deep, Many, Memory}
use Rattle.policy_grammar.specs.Breaks.{deep, many, first_of, breaks_signs, breaks_times, breaks_term, breaks_added, breaks_expr, comparisons, breaks_condition, breaks_parts, key_at, breaks_key, breaks_keys, breaks_sets, breaks_cases, breaks_handlers, of_cores_more, of_threads_more, breaks_attrs, breaks_place, breaks_elect, breaks_batch, breaks_policy, after_term}
use Rattle.policy_grammar.specs.LevelBreaks.{breaks_level_list, breaks_level_text}
use Rattle.policy_grammar.specs.Symbols.{Symbol, count_behind, the, load_rule, int, attrs, place, place_rule, elect, handlers, event, case, cases, actions, field, order, key, keys, batch, level, levels, within, condition, unit, ands, ors, close, compare, operand, dot, word, operators, State, state, Move, refuses, goes, is_compare}
use Rattle.policy_grammar.specs.Machine.{factor_move, unit_move, key_move, case_move, level_move, attr_move, symbol_move, moves}

-- a limit, and no other fault
abbrev pub IsLimit : Option ParseFault → Type 0
IsLimit None = Unit {0}
IsLimit (Some (Unexpected at)) = ⊥
IsLimit (Some (Deep at)) = Unit {0}
IsLimit (Some (Many at limit)) = Unit {0}
IsLimit (Some Memory) = ⊥

limit-first : (a b : Option ParseFault) → IsLimit a → IsLimit b → IsLimit (first_of a b)
limit-first None b h k = k
limit-first (Some f) b h k = h

limit-if : (b : Bool) (f : ParseFault) → IsLimit (Some f) → IsLimit (if b then None else Some f)
limit-if true f h = tt
limit-if false f h = h

limit-deep : (limits : Limits) (at n : ℕ) → IsLimit (deep limits at n)
limit-deep limits at n = limit-if (nat_lt n limits.nesting) (Deep at) tt

limit-many : (limit at n : ℕ) → IsLimit (many limit at n)
limit-many limit at n = limit-if (nat_lt n limit) (Many at limit) tt

module _ (limits : Limits) where
  limit-signs : (depth before at signs : ℕ) → IsLimit (breaks_signs limits depth before at signs)
  limit-signs depth before at zero = tt
  limit-signs depth before at (suc signs) =
      limit-first _ _ (limit-first _ _ (limit-many limits.operators at before) (limit-deep limits at depth)) (limit-signs (depth + 1) (before + 1) (at + 1) signs)

  limit-times : (depth before : ℕ) (fs : List TimesSyntax) → IsLimit (breaks_times limits depth before fs)
  limit-times depth before [] = tt
  limit-times depth before (t ∷ rest) =
      limit-first _ _ (limit-many limits.operators t.at before) (limit-first _ _ (limit-signs depth (before + 1) t.factor.at t.factor.signs) (limit-times depth (before + 1 + t.factor.signs) rest))

  limit-term : (depth before : ℕ) (t : TermSyntax) → IsLimit (breaks_term limits depth before t)
  limit-term depth before t = limit-first _ _ (limit-signs depth before t.first.at t.first.signs) (limit-times depth _ t.rest)

  limit-added : (depth before : ℕ) (us : List AddedSyntax) → IsLimit (breaks_added limits depth before us)
  limit-added depth before [] = tt
  limit-added depth before (a ∷ rest) =
      limit-first _ _ (limit-many limits.operators a.at before) (limit-first _ _ (limit-term depth (before + 1) a.term) (limit-added depth (after_term (before + 1) a.term) rest))

  limit-expr : (depth : ℕ) (e : ExprSyntax) → IsLimit (breaks_expr limits depth e)
  limit-expr depth e = limit-first _ _ (limit-term depth 0 e.first) (limit-added depth _ e.rest)

  mutual
    limit-condition : (most depth count : ℕ) (v : ConditionTree) → IsLimit (breaks_condition limits most depth count v)
    limit-condition most depth count (always at) = tt
    limit-condition most depth count (negated at v) = limit-first _ _ (limit-deep limits at depth) (limit-condition most (depth + 1) count v)
    limit-condition most depth count (grouped at v) = limit-first _ _ (limit-deep limits at depth) (limit-condition most (depth + 1) count v)
    limit-condition most depth count (all at parts) = limit-parts most depth count parts
    limit-condition most depth count (any at parts) = limit-parts most depth count parts
    limit-condition most depth count (test at c left right) =
        limit-first _ _ (limit-expr depth left) (limit-first _ _ (limit-many most at count) (limit-expr depth right))

    limit-parts : (most depth count : ℕ) (parts : ConditionTrees) → IsLimit (breaks_parts limits most depth count parts)
    limit-parts most depth count no_more = tt
    limit-parts most depth count (more v rest) = limit-first _ _ (limit-condition most depth count v) (limit-parts most depth (count + comparisons v) rest)

  limit-key : (k : KeySyntaxTree) → IsLimit (breaks_key limits k)
  limit-key (ranked at greatest v) = limit-expr 0 v
  limit-key (preferring at v) = limit-condition limits.comparisons 0 0 v

  limit-keys : (most count : ℕ) (ks : List KeySyntaxTree) → IsLimit (breaks_keys limits most count ks)
  limit-keys most count [] = tt
  limit-keys most count (k ∷ rest) = limit-first _ _ (limit-many most (key_at k) count) (limit-first _ _ (limit-key k) (limit-keys most (count + 1) rest))

  limit-sets : (count : ℕ) (ss : List SetSyntax) → IsLimit (breaks_sets limits count ss)
  limit-sets count [] = tt
  limit-sets count (s ∷ rest) = limit-first _ _ (limit-many limits.sets s.at count) (limit-first _ _ (limit-expr 0 s.value) (limit-sets (count + 1) rest))

  limit-cases : (count : ℕ) (cs : List CaseSyntaxTree) → IsLimit (breaks_cases limits count cs)
  limit-cases count [] = tt
  limit-cases count (c ∷ rest) =
      limit-first _ _ (limit-many limits.cases c.at count)
      (limit-first _ _ (limit-condition limits.comparisons 0 0 c.guard) (limit-first _ _ (limit-sets 0 c.sets) (limit-cases (count + 1) rest)))

  limit-handlers : (hs : List HandlerSyntaxTree) → IsLimit (breaks_handlers limits hs)
  limit-handlers [] = tt
  limit-handlers (h ∷ rest) = limit-first _ _ (limit-cases 0 h.cases) (limit-handlers rest)

  limit-attrs : (cores threads : ℕ) (us : List AttrSyntax) → IsLimit (breaks_attrs limits cores threads us)
  limit-attrs cores threads [] = tt
  limit-attrs cores threads (a ∷ rest) = limit-first _ _ (limit-many limits.attrs a.at _) (limit-attrs (of_cores_more a.of_cores cores) (of_threads_more a.of_cores threads) rest)

  limit-place : (p : Option PlaceSyntax) → IsLimit (breaks_place limits p)
  limit-place None = tt
  limit-place (Some (place_is.Here at)) = tt
  limit-place (Some (place_is.Least at v)) = limit-expr 0 v

  limit-elect : (e : Option ElectSyntaxTree) → IsLimit (breaks_elect limits e)
  limit-elect None = tt
  limit-elect (Some e) = limit-keys limits.keys 0 e.order.keys

  limit-batch : (b : Option BatchSyntaxTree) → IsLimit (breaks_batch limits b)
  limit-batch None = tt
  limit-batch (Some b) = limit-condition limits.comparisons 0 0 b.condition

  pub limit-policy : (s : SyntaxTree) → IsLimit (breaks_policy limits s)
  limit-policy s =
      limit-first _ _ (limit-attrs 0 0 s.attrs) (limit-first _ _ (limit-place s.place) (limit-first _ _ (limit-elect s.elect)
      (limit-first _ _ (limit-handlers s.handlers) (limit-first _ _ (limit-condition limits.comparisons 0 0 s.filter)
      (limit-first _ _ (limit-keys limits.keys 0 s.choose.keys) (limit-first _ _ (limit-keys limits.keys 0 s.steal.keys) (limit-batch s.batch)))))))

  limit-levels : (count : ℕ) (ls : List OneLevelSyntaxTree) → IsLimit (breaks_level_list limits count ls)
  limit-levels count [] = tt
  limit-levels count (l ∷ rest) =
      limit-first _ _ (limit-many limits.levels l.at count)
      (limit-first _ _ (limit-first _ _ (limit-condition 1 0 0 l.within) (limit-condition limits.level_comparisons 0 0 l.filter))
      (limit-levels (count + 1) rest))

  pub limit-level-text : (s : LevelSyntaxTree) → IsLimit (breaks_level_text limits s)
  limit-level-text s =
      limit-first _ _ (limit-attrs 0 0 s.attrs) (limit-first _ _ (limit-place s.place) (limit-first _ _ (limit-elect s.elect)
      (limit-first _ _ (limit-handlers s.handlers) (limit-first _ _ (limit-levels 0 s.levels)
      (limit-first _ _ (limit-keys limits.level_keys 0 s.choose.keys) (limit-first _ _ (limit-keys limits.keys 0 s.steal.keys) (limit-batch s.batch)))))))

-- a limit that is passed at that token
abbrev pub IsHere : ℕ → ParseFault → Type 0
IsHere at (Unexpected spot) = ⊥
IsHere at (Deep spot) = spot ≡ at
IsHere at (Many spot limit) = spot ≡ at
IsHere at Memory = ⊥

abbrev pub AreHere : ℕ → Option ParseFault → Type 0
AreHere at None = Unit {0}
AreHere at (Some fault) = IsHere at fault

abbrev pub MovesHere : ℕ → Move → Type 0
MovesHere at refuses = Unit {0}
MovesHere at (goes o q) = AreHere at o

here-if : (at : ℕ) (b : Bool) (f : ParseFault) → IsHere at f → AreHere at (if b then None else Some f)
here-if at true f h = tt
here-if at false f h = h

here-deep : (limits : Limits) (at n : ℕ) → AreHere at (deep limits at n)
here-deep limits at n = here-if at (nat_lt n limits.nesting) (Deep at) refl

here-many : (limit at n : ℕ) → AreHere at (many limit at n)
here-many limit at n = here-if at (nat_lt n limit) (Many at limit) refl

here-first : (at : ℕ) (a b : Option ParseFault) → AreHere at a → AreHere at b → AreHere at (first_of a b)
here-first at None b h k = k
here-first at (Some f) b h k = h

either-here : (at : ℕ) (b : Bool) (x y : Move) → MovesHere at x → MovesHere at y → MovesHere at (if b then x else y)
either-here at true x y f g = f
either-here at false x y f g = g

token-here : (at : ℕ) (b : Bool) (q : State) → MovesHere at (if b then goes None q else refuses)
token-here at true q = tt
token-here at false q = tt

module _ (limits : Limits) where
  factor-here : (count base depth before at : ℕ) (below : List Symbol) (k : ℕ) → MovesHere at (factor_move limits count base depth before at below k)
  factor-here count base depth before at below k =
      either-here at (k == code terminal_is.Number) _ _ tt
      (either-here at (k == code terminal_is.Minus) _ _ (here-first at _ _ (here-many limits.operators at before) (here-deep limits at depth))
      (either-here at (((k == code terminal_is.Itself) || (k == code terminal_is.Victim)) ||
      ((k == code terminal_is.Core) || (k == code terminal_is.Task))) _ _ tt tt))

  unit-here : (count most depth at : ℕ) (below : List Symbol) (k : ℕ) → MovesHere at (unit_move limits count most depth at below k)
  unit-here count most depth at below k =
      either-here at (k == code terminal_is.Always) _ _ tt
      (either-here at (k == code terminal_is.Not) _ _ (here-deep limits at depth)
      (either-here at (k == code terminal_is.Open) _ _ (here-deep limits at depth) (factor-here count depth depth 0 at (compare most depth ∷ below) k)))

  key-here : (most before at : ℕ) (below : List Symbol) (k : ℕ) → MovesHere at (key_move limits most before at below k)
  key-here most before at below k =
      either-here at ((k == code terminal_is.Min) || (k == code terminal_is.Max)) _ _
      (here-many most at before) (either-here at (k == code terminal_is.Prefer) _ _ (here-many most at before) tt)

  case-here : (before at : ℕ) (below : List Symbol) (k : ℕ) (outer : Move) → MovesHere at outer → MovesHere at (case_move limits before at below k outer)
  case-here before at below k outer h =
      either-here at (k == code terminal_is.When) _ outer (here-many limits.cases at before) h

  level-here : (before at : ℕ) (below : List Symbol) (k : ℕ) (outer : Move) → MovesHere at outer → MovesHere at (level_move limits before at below k outer)
  level-here before at below k outer h =
      either-here at (k == code terminal_is.Level) _ outer (here-many limits.levels at before) h

  attr-here : (cores threads at : ℕ) (below : List Symbol) (k : ℕ) (outer : Move) → MovesHere at outer → MovesHere at (attr_move limits cores threads at below k outer)
  attr-here cores threads at below k outer h =
      either-here at (k == code terminal_is.Core) _ _ (here-many limits.attrs at cores) (either-here at (k == code terminal_is.Thread) _ outer (here-many limits.attrs at threads) h)

  symbol-here : (count at : ℕ) (s : Symbol) (below : List Symbol) (k : ℕ) (outer : Move) → MovesHere at outer → MovesHere at (symbol_move limits count at s below k outer)
  symbol-here count at (the terminal) below k outer h = token-here at (k == code terminal) (state 0 below)
  symbol-here count at load_rule below k outer h =
      either-here at (k == code terminal_is.Count) _ _ tt (either-here at (k == code terminal_is.Weight) _ _ tt tt)
  symbol-here count at int below k outer h =
      either-here at (k == code terminal_is.Number) _ _ tt (either-here at (k == code terminal_is.Minus) _ _ tt tt)
  symbol-here count at (attrs cores threads) below k outer h = attr-here cores threads at below k outer h
  symbol-here count at place below k outer h = either-here at (k == code terminal_is.Place) _ outer tt h
  symbol-here count at place_rule below k outer h =
      either-here at (k == code terminal_is.Here) _ _ tt (either-here at (k == code terminal_is.Min) _ _ tt tt)
  symbol-here count at elect below k outer h = either-here at (k == code terminal_is.Elect) _ outer tt h
  symbol-here count at handlers below k outer h = either-here at (k == code terminal_is.On) _ outer tt h
  symbol-here count at event below k outer h = either-here at (((k == code terminal_is.Enqueue) || (k == code terminal_is.Tick)) || ((k == code terminal_is.Yield) || (k == code terminal_is.Block))) _ _ tt tt
  symbol-here count at (case before) below k outer h = case-here before at below k refuses tt
  symbol-here count at (cases before) below k outer h = case-here before at below k outer h
  symbol-here count at (actions before) below k outer h =
      either-here at (k == code terminal_is.Task) _ _ (here-many limits.sets at before) (either-here at (((k == code terminal_is.Queue) || (k == code terminal_is.Keep)) || (k == code terminal_is.Block)) _ _ tt tt)
  symbol-here count at field below k outer h = token-here at (is_word k) (state 0 below)
  symbol-here count at (order most) below k outer h =
      either-here at (k == code terminal_is.First) _ _ tt (key-here most 0 at below k)
  symbol-here count at (key most before) below k outer h = key-here most before at below k
  symbol-here count at (keys most before) below k outer h = either-here at (k == code terminal_is.Comma) _ outer tt h
  symbol-here count at batch below k outer h = either-here at (k == code terminal_is.While) _ outer tt h
  symbol-here count at (level before) below k outer h = level-here before at below k refuses tt
  symbol-here count at (levels before) below k outer h = level-here before at below k outer h
  symbol-here count at within below k outer h =
      either-here at (k == code terminal_is.Always) _ _ tt (factor-here 0 0 0 0 at (compare 1 0 ∷ below) k)
  symbol-here count at (condition most) below k outer h = unit-here 0 most 0 at (ands most 0 ∷ ors most 0 ∷ below) k
  symbol-here count at (unit most depth) below k outer h = unit-here count most depth at below k
  symbol-here count at (ands most depth) below k outer h = either-here at (k == code terminal_is.And) _ outer tt h
  symbol-here count at (ors most depth) below k outer h = either-here at (k == code terminal_is.Or) _ outer tt h
  symbol-here count at close below k outer h = either-here at (k == code terminal_is.Close) _ _ tt tt
  symbol-here count at (compare most depth) below k outer h = either-here at (is_compare k) _ _ (here-many most at count) tt
  symbol-here count at (operand base depth before) below k outer h = factor-here count base depth before at below k
  symbol-here count at (dot base before) below k outer h = either-here at (k == code terminal_is.Dot) _ _ tt tt
  symbol-here count at (word base before) below k outer h = token-here at (is_word k) (state count (operators base before ∷ below))
  symbol-here count at (operators base before) below k outer h =
      either-here at (((k == code terminal_is.Star) || (k == code terminal_is.Plus)) || (k == code terminal_is.Minus))
      _ outer (here-many limits.operators at before) h

  -- a limit is passed at the token that is read
  pub moves-here : (count at : ℕ) (stack : List Symbol) (k : ℕ) → MovesHere at (moves limits count at stack k)
  moves-here count at [] k = tt
  moves-here count at (s ∷ below) k = symbol-here count at s below k _ (moves-here (count_behind s count) at below k)
