-- Reading comes to a text of the language or to a fault.
use Rattle.std.proofs.Common.{◌≡◌, ◌≢◌, ℕ, ◌+◌, inl, inr, List, [], ◌∷◌, ◌++◌, length, refl, sym, ap, subst, ◌∙◌, Bool, true, false, if◌then◌else◌, Option, Some, None, append-nil}
use Rattle.policy_syntax.specs.SyntaxTrees.{SyntaxTree}
use Rattle.policy_syntax.specs.LevelTrees.{LevelSyntaxTree}
use Rattle.policy_grammar.specs.declared.terminal.Lexeme.{Lexeme}
use Rattle.policy_grammar.specs.declared.limits.Limits.{Limits}
use Rattle.policy_grammar.specs.declared.fault.ParseFault.{ParseFault}
use Rattle.policy_grammar.specs.declared.fault.ParseFault.TheVariants.{Unexpected, Deep, Many, Memory}
use Rattle.policy_grammar.specs.Answered.{HasAnswerIn, EachHasAnswer, EachHasLevelTextAnswer}
use Rattle.policy_grammar.specs.Breaks.{breaks_policy}
use Rattle.policy_grammar.specs.LevelBreaks.{breaks_level_text}
use Rattle.policy_grammar.specs.Levels.{IsLevels, levels_none}
use Rattle.policy_grammar.specs.Conditions.{ands_none, ors_none}
use Rattle.policy_grammar.specs.Expressions.{times_none, added_none}
use Rattle.policy_grammar.specs.Symbols.{Symbol, the, load_rule, int, attrs, place, place_rule, elect, handlers, event, case, cases, actions, field, order, key, keys, batch, level, levels, within, condition, unit, ands, ors, close, compare, operand, dot, word, operators, state, Move, refuses, goes, all_nothing, is_nothing}
use Rattle.policy_grammar.specs.Machine.{moves, kind_of, after, run, go, start, level_start}
use Rattle.policy_grammar.specs.Orders.{keys_none}
use Rattle.policy_grammar.specs.Policies.{IsPolicy, attrs_none, batch_none, cases_none, elect_none, handlers_none, place_none}
use Rattle.policy_grammar.proofs.Exact.{Stops, at_end, refused, passed, course, fault-exact}
use Rattle.policy_grammar.proofs.Languages.{IsLanguage, policies, level_texts}
use Rattle.policy_grammar.proofs.Places.{IsHere, MovesHere, moves-here}
use Rattle.policy_grammar.proofs.Reached.{Reach, reach-start}
use Rattle.policy_grammar.proofs.Pulled.{Are, are_none, are_more, Means}

module _ (text : List ℕ) (ts : List Lexeme) where
  -- what may be nothing is nothing anywhere
  nothing-one : (s : Symbol) (at : ℕ) → is_nothing s ≡ true → Means text ts s at at
  nothing-one (the terminal) at e = absurd (cc)
  nothing-one load_rule at e = absurd (cc)
  nothing-one int at e = absurd (cc)
  nothing-one (attrs cores threads) at e = ([], attrs_none)
  nothing-one place at e = (None, place_none)
  nothing-one place_rule at e = absurd (cc)
  nothing-one elect at e = (None, elect_none)
  nothing-one handlers at e = ([], handlers_none)
  nothing-one event at e = absurd (cc)
  nothing-one (case before) at e = absurd (cc)
  nothing-one (cases before) at e = ([], cases_none)
  nothing-one (actions before) at e = absurd (cc)
  nothing-one field at e = absurd (cc)
  nothing-one (order most) at e = absurd (cc)
  nothing-one (key most before) at e = absurd (cc)
  nothing-one (keys most before) at e = ([], keys_none)
  nothing-one batch at e = (None, batch_none)
  nothing-one (level before) at e = absurd (cc)
  nothing-one (levels before) at e = ([], levels_none)
  nothing-one within at e = absurd (cc)
  nothing-one (condition most) at e = absurd (cc)
  nothing-one (unit most depth) at e = absurd (cc)
  nothing-one (ands most depth) at e = (_, ands_none)
  nothing-one (ors most depth) at e = (_, ors_none)
  nothing-one close at e = absurd (cc)
  nothing-one (compare most depth) at e = absurd (cc)
  nothing-one (operand base depth before) at e = absurd (cc)
  nothing-one (dot base before) at e = absurd (cc)
  nothing-one (word base before) at e = absurd (cc)
  nothing-one (operators base before) at e = record { times = []; added = []; mid = at; are = times_none; sums = added_none }

  nothing-all : (stack : List Symbol) (at : ℕ) → all_nothing stack ≡ true → Are text ts stack at at
  nothing-all [] at e = are_none
  nothing-all (s ∷ below) at e = by (is_nothing s) refl (nothing-all below at) e
    where
      by : (b : Bool) → is_nothing s ≡ b → (all_nothing below ≡ true → Are text ts below at at) →
          (if b then all_nothing below else false) ≡ true → Are text ts (s ∷ below) at at
      by true is others rest = are_more at (nothing-one s at is) (others rest)
      by false is others rest = absurd (cc)

module _ (limits : Limits) where
  -- want of memory isn't found in tokens
  end-real : (at : ℕ) (b : Bool) → (if b then None else Some (Unexpected at)) ≡ Some Memory → ⊥
  end-real at true e = cc
  end-real at false e = cc

  run-real : (ts : List Lexeme) (at count : ℕ) (stack : List Symbol) → run limits at (state count stack) ts ≡ Some Memory → ⊥
  run-real [] at count stack e = end-real at (all_nothing stack) e
  run-real (t ∷ ts) at count stack e =
      by (moves limits count at stack (kind_of t)) (moves-here limits count at stack (kind_of t)) (λ next to. run-real ts (at + 1) next to) e
    where
      here-real : (f : ParseFault) → IsHere at f → f ≢ Memory
      here-real (Unexpected k) h = absurd h
      here-real (Deep k) h = λ is. cc
      here-real (Many k limit) h = λ is. cc
      here-real Memory h = absurd h

      some-is : (f g : ParseFault) → ◌≡◌ {A = Option ParseFault} (Some f) (Some g) → f ≡ g
      some-is f g is = cc

      by : (m : Move) → MovesHere at m → ((next : ℕ) (to : List Symbol) → run limits (at + 1) (state next to) ts ≡ Some Memory → ⊥) →
          after at m (λ r. run limits (at + 1) r ts) ≡ Some Memory → ⊥
      by refuses h go_on is = cc
      by (goes None (state next to)) h go_on is = go_on next to is
      by (goes (Some g) q) h go_on is = here-real g h (some-is g Memory is)

module _ (limits : Limits) (text : List ℕ) (Tree : Type 0) (Is : List Lexeme → Tree → Type 0) (breaks : Tree → Option ParseFault) (begin : List Symbol)
    (language : IsLanguage limits text Tree Is breaks begin) where
  -- a run that finds no fault has read all tokens, and what was still to come may be nothing
  ended : {ys : List Lexeme} (xs : List Lexeme) (next : ℕ) (to : List Symbol) → Reach begin text xs to →
      Stops limits text Tree Is breaks begin (length xs) next to ys →
      run limits (length xs) (state next to) ys ≡ None → (s : Tree) × Is (xs ++ ys) s
  ended xs next to reach at_end e = by (all_nothing to) refl
    where
      by : (b : Bool) → all_nothing to ≡ b → (s : Tree) × Is (xs ++ []) s
      by true none =
          subst (λ (ts : List Lexeme). (s : Tree) × Is ts s) (sym (append-nil xs))
          (language.from xs (reach xs [] (length xs) (sym (append-nil xs)) (nothing-all text xs to (length xs) none)))
      by false none = let clash = sym (ap (λ (b : Bool). if b then None else Some (Unexpected (length xs))) none) ∙ e in absurd (cc)
  ended xs next to reach (refused t ys m) e =
      let clash = sym (ap (λ (w : Move). after (length xs) w (λ q. run limits (length xs + 1) q ys)) m) ∙ e in absurd (cc)
  ended xs next to reach (passed t ys f later there m) e =
      let clash = sym (ap (λ (w : Move). after (length xs) w (λ q. run limits (length xs + 1) q ys)) m) ∙ e in absurd (cc)

  read-all : (ts : List Lexeme) → run limits 0 (state 0 begin) ts ≡ None → (s : Tree) × Is ts s
  read-all ts e =
      let c = course limits text Tree Is breaks begin ts [] 0 begin (reach-start begin text) in
      let there = sym (c.same c.ys) ∙ subst (λ (x : List Lexeme). run limits 0 (state 0 begin) x ≡ None) c.split e in
      subst (λ (x : List Lexeme). (s : Tree) × Is x s) (sym c.split) (ended c.xs c.next c.to c.reach c.stops there)

  pub has_answer : (ts : List Lexeme) → HasAnswerIn Tree Is breaks ts
  unfolding go
  has_answer ts = by (run limits 0 (state 0 begin) ts) refl
    where
      by : (o : Option ParseFault) → run limits 0 (state 0 begin) ts ≡ o → HasAnswerIn Tree Is breaks ts
      by None e =
          let read = read-all ts e in
          inl (read.0, record { is = read.1; keeps = sym (language.read ts read.0 read.1) ∙ e })
      by (Some f) e =
          inr (f, fault-exact limits text Tree Is breaks begin language ts f e, λ is. run-real limits ts 0 0 begin (e ∙ ap Some is))

pub each_has_answer : EachHasAnswer
each_has_answer limits text ts =
    has_answer limits text SyntaxTree (IsPolicy text) (breaks_policy limits) (start limits) (policies limits text) ts

pub each_has_level_answer : EachHasLevelTextAnswer
each_has_level_answer limits text ts =
    has_answer limits text LevelSyntaxTree (IsLevels text) (breaks_level_text limits) (level_start limits) (level_texts limits text) ts
