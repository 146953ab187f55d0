-- Each stack of what is still to come can be completed, and what completes it completes what was read.
use Rattle.std.proofs.Common.{◌≡◌, ℕ, suc, ◌+◌, List, [], ◌∷◌, ◌++◌, length, refl, sym, ap, subst, arith, false, Option, None, ◌∙◌, append_assoc, append-nil, length-append}
use Rattle.policy_tree.specs.declared.trees.Cmp.TheVariants as cmp
use Rattle.policy_tree.specs.declared.typed.Event.TheVariants as event_is
use Rattle.policy_tree.specs.declared.typed.Put.TheVariants as put_is
use Rattle.policy_syntax.specs.declared.syntax.LoadSyntax.{LoadSyntax}
use Rattle.policy_syntax.specs.declared.syntax.PlaceSyntax.{PlaceSyntax}
use Rattle.policy_syntax.specs.declared.syntax.ExprSyntax.{ExprSyntax}
use Rattle.policy_syntax.specs.SyntaxTrees.{ConditionTree}
use Rattle.policy_grammar.specs.declared.terminal.Lexeme.{Lexeme}
use Rattle.policy_grammar.specs.declared.terminal.Terminal.{Terminal}
use Rattle.policy_grammar.specs.declared.terminal.Terminal.TheVariants.{Load, Count, Place, Here, Min, First, Enqueue, When, Queue, Level, Within, Filter, Always, Name, Number, Dot, Colon, Close, Equal}
use Rattle.policy_grammar.specs.declared.limits.Limits.{Limits}
use Rattle.policy_grammar.specs.declared.fault.ParseFault.{ParseFault}
use Rattle.policy_grammar.specs.Terminals.{code, kind_at}
use Rattle.policy_grammar.specs.Expressions.{int_plain, operand_number, factor_plain, times_none, term_of, added_none, IsExpr, expr_of}
use Rattle.policy_grammar.specs.Conditions.{unit_always, ands_none, conjunction_of, ors_none, IsCondition, condition_of}
use Rattle.policy_grammar.specs.Orders.{key_ranked, keys_none, order_first}
use Rattle.policy_grammar.specs.Policies.{IsLoad, load_count, attrs_none, IsPlace, place_none, place_here, elect_none, batch_none, sets_none, case_of, cases_none, handlers_none}
use Rattle.policy_grammar.specs.Symbols.{Symbol, the, load_rule, int, attrs, place, place_rule, elect, handlers, event, case, cases, actions, field, order, key, keys, batch, level, levels, within, condition, unit, ands, ors, close, compare, operand, dot, word, operators, state, goes}
use Rattle.policy_grammar.specs.Machine.{moves}
use Rattle.policy_grammar.specs.Machine.{kind_of}
use Rattle.policy_grammar.specs.Levels.{within_always, level_of, levels_none}
use Rattle.policy_grammar.proofs.Pulled.{Token, token, any_word, acts, Cases, Keys, LevelChain, Compared, Further, Means, Are, are_none, are_more, Pulls, reference-further}
use Rattle.policy_grammar.proofs.Viable.{pulls}

-- a lexeme of that kind
abbrev named : Terminal → Lexeme
named terminal = record { terminal = terminal; start = 0; end = 0; value = 0 }

kind-seam : (xs ws : List Lexeme) (i : ℕ) → kind_at (xs ++ ws) (length xs + i) ≡ kind_at ws i
kind-seam [] ws i = ap (kind_at ws) (let e : 0 + i ≡ i = omega arith in e)
kind-seam (x ∷ xs) ws i =
    let e : suc (length xs) + i ≡ suc (length xs + i) = omega arith in
    ap (kind_at (x ∷ (xs ++ ws))) e ∙ kind-seam xs ws i

kind-first : (xs ws : List Lexeme) → kind_at (xs ++ ws) (length xs) ≡ kind_at ws 0
kind-first xs ws = ap (kind_at (xs ++ ws)) (let e : length xs ≡ length xs + 0 = omega arith in e) ∙ kind-seam xs ws 0

-- the shortest tokens of a symbol
abbrev short : Symbol → List Lexeme
short (the terminal) = named terminal ∷ []
short load_rule = named Count ∷ []
short int = named Number ∷ []
short (attrs cores threads) = []
short place = []
short place_rule = named Here ∷ []
short elect = []
short handlers = []
short event = named Enqueue ∷ []
short (case before) = named When ∷ named Always ∷ named Colon ∷ named Queue ∷ []
short (cases before) = []
short (actions before) = named Queue ∷ []
short field = named Name ∷ []
short (order most) = named First ∷ []
short (key most before) = named Min ∷ named Number ∷ []
short (keys most before) = []
short batch = []
short (level before) = named Level ∷ named Within ∷ named Always ∷ named Filter ∷ named Always ∷ []
short (levels before) = []
short within = named Always ∷ []
short (condition most) = named Always ∷ []
short (unit most depth) = named Always ∷ []
short (ands most depth) = []
short (ors most depth) = []
short close = named Close ∷ []
short (compare most depth) = named Equal ∷ named Number ∷ []
short (operand base depth before) = named Number ∷ []
short (dot base before) = named Dot ∷ named Name ∷ []
short (word base before) = named Name ∷ []
short (operators base before) = []

module _ (text : List ℕ) (ts : List Lexeme) where
  number-expr : {at : ℕ} → kind_at ts at ≡ code Number → (e : ExprSyntax) × IsExpr text ts at e (at + 1)
  number-expr k = (_, expr_of (term_of (factor_plain (operand_number k)) times_none) added_none)

  nothing-further : (at : ℕ) → Further text ts at at
  nothing-further at = record { times = []; added = []; mid = at; are = times_none; sums = added_none }

  always-condition : {at : ℕ} → kind_at ts at ≡ code Always → (v : ConditionTree) × IsCondition text ts at v (at + 1)
  always-condition k = (_, condition_of _ _ (conjunction_of _ _ (unit_always k) ands_none) ors_none)

  load-word : {from at : ℕ} → kind_at ts at ≡ code Count → Token text ts (code Load) from at → (v : LoadSyntax) × IsLoad ts from v (at + 1)
  load-word {from = from} k (token l) =
      let there : from + 2 ≡ from + 1 + 1 = omega arith in
      subst (λ n. (v : LoadSyntax) × IsLoad ts from v n) there (_, load_count l k)

  place-word : {from at : ℕ} → kind_at ts at ≡ code Here → Token text ts (code Place) from at → (p : Option PlaceSyntax) × IsPlace text ts from p (at + 1)
  place-word {from = from} k (token l) =
      let there : from + 2 ≡ from + 1 + 1 = omega arith in
      subst (λ n. (p : Option PlaceSyntax) × IsPlace text ts from p n) there (_, place_here l k)

  case-short : {at : ℕ} → kind_at ts at ≡ code When → kind_at ts (at + 1) ≡ code Always → kind_at ts (at + 1 + 1) ≡ code Colon →
      kind_at ts (at + 1 + 1 + 1) ≡ code Queue → Cases text ts at (at + 1 + 1 + 1 + 1)
  case-short w a c q =
      record { first = _; rest = []; mid = _; is = case_of put_is.Queue w (always-condition a).1 c sets_none q; are = cases_none }

  level-short : {at : ℕ} → kind_at ts at ≡ code Level → kind_at ts (at + 1) ≡ code Within → kind_at ts (at + 2) ≡ code Always →
      kind_at ts (at + 2 + 1) ≡ code Filter → kind_at ts (at + 2 + 1 + 1) ≡ code Always → LevelChain text ts at (at + 2 + 1 + 1 + 1)
  level-short l w a f c =
      record { first = _; rest = []; mid = _; is = level_of l w (within_always a) f (always-condition c).1; are = levels_none }

  -- a symbol by the tokens from a place on
  short-one : (at : ℕ) (s : Symbol) (ws : List Lexeme) → ((i : ℕ) → kind_at ts (at + i) ≡ kind_at (short s ++ ws) i) →
      kind_at ts at ≡ kind_at (short s ++ ws) 0 → Means text ts s at (at + length (short s))
  short-one at (the terminal) ws k z = token z
  short-one at load_rule ws k z = λ from l. load-word z l
  short-one at int ws k z = (_, int_plain z)
  short-one at (attrs cores threads) ws k z = let e : at ≡ at + 0 = omega arith in subst (λ n. Means text ts (attrs cores threads) at n) e ([], attrs_none)
  short-one at place ws k z = let e : at ≡ at + 0 = omega arith in subst (λ n. Means text ts place at n) e (None, place_none)
  short-one at place_rule ws k z = λ from l. place-word z l
  short-one at elect ws k z = let e : at ≡ at + 0 = omega arith in subst (λ n. Means text ts elect at n) e (None, elect_none)
  short-one at handlers ws k z = let e : at ≡ at + 0 = omega arith in subst (λ n. Means text ts handlers at n) e ([], handlers_none)
  short-one at event ws k z = (event_is.Enqueue, token z)
  short-one at (case before) ws k z =
      let two : at + 2 ≡ at + 1 + 1 = omega arith in
      let three : at + 3 ≡ at + 1 + 1 + 1 = omega arith in
      let four : at + 1 + 1 + 1 + 1 ≡ at + 4 = omega arith in
      subst (λ n. Cases text ts at n) four
      (case-short z (k 1) (subst (λ n. kind_at ts n ≡ code Colon) two (k 2)) (subst (λ n. kind_at ts n ≡ code Queue) three (k 3)))
  short-one at (cases before) ws k z = let e : at ≡ at + 0 = omega arith in subst (λ n. Means text ts (cases before) at n) e ([], cases_none)
  short-one at (actions before) ws k z = acts put_is.Queue sets_none z
  short-one at field ws k z = any_word (rw z refl)
  short-one at (order most) ws k z = (_, order_first z)
  short-one at (key most before) ws k z =
      let two : at + 1 + 1 ≡ at + 2 = omega arith in
      subst (λ n. Keys text ts at n) two
      (record { first = _; rest = []; mid = _; is = key_ranked false z (number-expr (k 1)).1; are = keys_none })
  short-one at (keys most before) ws k z = let e : at ≡ at + 0 = omega arith in subst (λ n. Means text ts (keys most before) at n) e ([], keys_none)
  short-one at batch ws k z = let e : at ≡ at + 0 = omega arith in subst (λ n. Means text ts batch at n) e (None, batch_none)
  short-one at (level before) ws k z =
      let three : at + 3 ≡ at + 2 + 1 = omega arith in
      let four : at + 4 ≡ at + 2 + 1 + 1 = omega arith in
      let five : at + 2 + 1 + 1 + 1 ≡ at + 5 = omega arith in
      subst (λ n. LevelChain text ts at n) five
      (level-short z (k 1) (k 2) (subst (λ n. kind_at ts n ≡ code Filter) three (k 3)) (subst (λ n. kind_at ts n ≡ code Always) four (k 4)))
  short-one at (levels before) ws k z = let e : at ≡ at + 0 = omega arith in subst (λ n. Means text ts (levels before) at n) e ([], levels_none)
  short-one at within ws k z = (_, within_always z)
  short-one at (condition most) ws k z = always-condition z
  short-one at (unit most depth) ws k z = (_, unit_always z)
  short-one at (ands most depth) ws k z = let e : at ≡ at + 0 = omega arith in subst (λ n. Means text ts (ands most depth) at n) e (_, ands_none)
  short-one at (ors most depth) ws k z = let e : at ≡ at + 0 = omega arith in subst (λ n. Means text ts (ors most depth) at n) e (_, ors_none)
  short-one at close ws k z = token z
  short-one at (compare most depth) ws k z =
      let two : at + 1 + 1 ≡ at + 2 = omega arith in
      subst (λ n. Compared text ts at n) two
      (record { by = cmp.Eq; right = _; sign = z; is = (number-expr (k 1)).1 })
  short-one at (operand base depth before) ws k z = number-expr z
  short-one at (dot base before) ws k z = λ from o l.
      let two : at + 1 + 1 ≡ at + 2 = omega arith in
      subst (λ n. (e : ExprSyntax) × IsExpr text ts from e n) two
      (reference-further text ts o l (token z) (rw (k 1) refl) (nothing-further (at + 1 + 1)))
  short-one at (word base before) ws k z = λ from mid o l d. reference-further text ts o l d (rw z refl) (nothing-further (at + 1))
  short-one at (operators base before) ws k z = let e : at ≡ at + 0 = omega arith in subst (λ n. Further text ts at n) e (nothing-further at)

-- each stack can be completed
pub completes : (text : List ℕ) (stack : List Symbol) → (ys : List Lexeme) × ((xs : List Lexeme) → Are text (xs ++ ys) stack (length xs) (length (xs ++ ys)))
completes text [] = ([], λ xs. subst (λ n. Are text (xs ++ []) [] (length xs) n) (sym (ap length (append-nil xs))) are_none)
completes text (s ∷ below) =
    let c = completes text below in
    (short s ++ c.0, λ xs. at_front xs c.0 (c.1 (xs ++ short s)))
  where
    at_front : (xs ys : List Lexeme) → Are text ((xs ++ short s) ++ ys) below (length (xs ++ short s)) (length ((xs ++ short s) ++ ys)) →
        Are text (xs ++ (short s ++ ys)) (s ∷ below) (length xs) (length (xs ++ (short s ++ ys)))
    at_front xs ys rest =
        let same = append_assoc xs (short s) ys in
        let later = subst (λ ts. Are text ts below (length (xs ++ short s)) (length ts)) same rest in
        let one = short-one text (xs ++ (short s ++ ys)) (length xs) s ys (kind-seam xs (short s ++ ys)) (kind-first xs (short s ++ ys)) in
        are_more (length (xs ++ short s))
        (subst (λ n. Means text (xs ++ (short s ++ ys)) s (length xs) n) (sym (length-append xs (short s))) one) later

-- what completes the stack behind these tokens is all that was to come at first
abbrev pub Reach : List Symbol → List ℕ → List Lexeme → List Symbol → Type 0
Reach begin text ps stack = (ts rest : List Lexeme) (to : ℕ) → ts ≡ ps ++ rest → Are text ts stack (length ps) to → Are text ts begin 0 to

pub reach-start : (begin : List Symbol) (text : List ℕ) → Reach begin text [] begin
reach-start begin text = λ ts rest to e means. means

pub reach-step : (limits : Limits) (begin : List Symbol) (text : List ℕ) (ps : List Lexeme) (t : Lexeme) (count next : ℕ) (stack to : List Symbol) (o : Option ParseFault) →
    Reach begin text ps stack → moves limits count (length ps) stack (kind_of t) ≡ goes o (state next to) → Reach begin text (ps ++ t ∷ []) to
reach-step limits begin text ps t count next stack to o reach e = λ ts rest last same means.
    let split : ts ≡ ps ++ (t ∷ rest) = same ∙ append_assoc ps (t ∷ []) rest in
    let kind : kind_at ts (length ps) ≡ kind_of t = ap (λ x. kind_at x (length ps)) split ∙ kind-first ps (t ∷ rest) in
    let one : length (ps ++ t ∷ []) ≡ length ps + 1 = length-append ps (t ∷ []) in
    let pull = subst (Pulls text ts stack (length ps) last) (ap (moves limits count (length ps) stack) kind ∙ e) (pulls limits text ts (length ps) last count stack) in
    reach ts (t ∷ rest) last split (pull (subst (λ n. Are text ts to n last) one means))
