-- The tokens have one tree at most: policies.
use Rattle.std.proofs.Common.{◌≡◌, ◌==◌, ◌+◌, ℕ, List, ◌∷◌, length, true, false, Option, Some, refl, arith}
use Rattle.std.proofs.lemmas.Bool.{ne_eqb}
use Rattle.policy_tree.specs.declared.typed.Put.{Put}
use Rattle.policy_syntax.specs.declared.syntax.LoadSyntax.{LoadSyntax}
use Rattle.policy_syntax.specs.declared.syntax.LoadSyntax.TheVariants as load
use Rattle.policy_syntax.specs.declared.syntax.AttrSyntax.{AttrSyntax}
use Rattle.policy_syntax.specs.declared.syntax.PlaceSyntax.{PlaceSyntax}
use Rattle.policy_syntax.specs.declared.syntax.PlaceSyntax.TheVariants as place
use Rattle.policy_syntax.specs.declared.syntax.SetSyntax.{SetSyntax}
use Rattle.policy_syntax.specs.SyntaxTrees.{ConditionTree, OrderSyntaxTree, ElectSyntaxTree, BatchSyntaxTree, CaseSyntaxTree, HandlerSyntaxTree, SyntaxTree}
use Rattle.policy_grammar.specs.declared.terminal.Lexeme.{Lexeme}
use Rattle.policy_grammar.specs.declared.terminal.Terminal.TheVariants as terminal
use Rattle.policy_grammar.specs.Terminals.{code, kind_at, value_at, word_at}
use Rattle.policy_grammar.specs.Words.{put_word}
use Rattle.policy_grammar.specs.Expressions.{IsInt, IsRange}
use Rattle.policy_grammar.specs.Conditions.{IsCondition}
use Rattle.policy_grammar.specs.Orders.{IsOrder}
use Rattle.policy_grammar.specs.Policies.{IsLoad, load_count, load_weight, IsAttr, attr_of, IsAttrs, attrs_none, attrs_more, IsPlace, place_none, place_here, place_least, IsElect, elect_none, elect_some, IsBatch, batch_none, batch_some, IsSets, sets_none, sets_more, IsCase, case_of, IsCases, cases_none, cases_more, IsHandler, handler_of, IsHandlers, handlers_none, handlers_more, IsPolicy, policy_of}
use Rattle.policy_grammar.proofs.CompleteConditions.{no_operator-by, no_or-by}
use Rattle.policy_grammar.proofs.Standing.{From, from-no_operator, from-no_key, from-past, filter-from, handlers-from, elect-from, place-from, kind-end, no_key-by}
use Rattle.policy_grammar.proofs.CompletePolicies.{batch-no_key}
use Rattle.policy_grammar.proofs.OneExpressions.{int-one, range-one, expr-one}
use Rattle.policy_grammar.proofs.OneConditions.{condition-one}
use Rattle.policy_grammar.proofs.OneOrders.{order-one}
use Rattle.policy_grammar.proofs.Same.{Same, same, same-is, same-ap, same-place, and-then, is-not, attr-same, event-same, put-same, put-no_task}

-- two parts and the token behind each
closed : {X : Type 0} {x y : X} {m n : ℕ} → Same x m y n → Same x (m + 1) y (n + 1)
closed same = same

module _ (text : List ℕ) (ts : List Lexeme) where
  load-one : {at to so : ℕ} {v w : LoadSyntax} → IsLoad ts at v to → IsLoad ts at w so → Same v to w so
  load-one (load_count k c) (load_count l d) = same
  load-one (load_count k c) (load_weight l d e) = absurd (omega (arith, c, d))
  load-one (load_weight k c r) (load_count l d) = absurd (omega (arith, c, d))
  load-one {at = at} (load_weight k c r) (load_weight l d e) = same-ap (load.Weight at) (range-one text ts r e)

  attr-one : {at to so : ℕ} {v w : AttrSyntax} → IsAttr text ts at v to → IsAttr text ts at w so → Same v to w so
  attr-one {at = at} (attr_of a k n i r s d) (attr_of b k' n' i' r' s' e) =
      same-ap (λ p. record { at = at; of_cores = p.0.0; name = word_at text ts (at + 1); range = p.0.1; start = p.1 })
      (and-then (λ i. IsInt ts (i + 1))
      (and-then (λ i. IsRange ts (i + 3)) (attr-same at a b k k') r' (λ o. range-one text ts r o))
      e (λ o. int-one text ts d o))

  attr-none : {at to : ℕ} {a : AttrSyntax} → From (code terminal.Place) ts at → IsAttr text ts at a to → ⊥
  attr-none f (attr_of true k n i r s d) =
      is-not _ (code terminal.Core) (from-past (code terminal.Core) (omega arith) f) k
  attr-none f (attr_of false k n i r s d) =
      is-not _ (code terminal.Thread) (from-past (code terminal.Thread) (omega arith) f) k

  attrs-one : {at to so : ℕ} {v w : List AttrSyntax} → IsAttrs text ts at v to → From (code terminal.Place) ts to → IsAttrs text ts at w so → From (code terminal.Place) ts so → Same v to w so
  attrs-one attrs_none f attrs_none g = same
  attrs-one attrs_none f (attrs_more e others) g = absurd (attr-none f e)
  attrs-one (attrs_more d rest) f attrs_none g = absurd (attr-none g d)
  attrs-one (attrs_more d rest) f (attrs_more e others) g =
      same-ap (λ p. p.0 ∷ p.1) (and-then (IsAttrs text ts) (attr-one d e) others (λ o. attrs-one rest f o g))

  place-one : {at to so : ℕ} {v w : Option PlaceSyntax} → IsPlace text ts at v to → From (code terminal.Elect) ts to → IsPlace text ts at w so → From (code terminal.Elect) ts so → Same v to w so
  place-one place_none f place_none g = same
  place-one place_none f (place_here l h) g =
      absurd (is-not _ (code terminal.Place) (from-past (code terminal.Place) (omega arith) f) l)
  place-one place_none f (place_least l h e) g =
      absurd (is-not _ (code terminal.Place) (from-past (code terminal.Place) (omega arith) f) l)
  place-one (place_here k h) f place_none g =
      absurd (is-not _ (code terminal.Place) (from-past (code terminal.Place) (omega arith) g) k)
  place-one (place_here k h) f (place_here l i) g = same
  place-one (place_here k h) f (place_least l i e) g = absurd (omega (arith, h, i))
  place-one (place_least k h d) f place_none g =
      absurd (is-not _ (code terminal.Place) (from-past (code terminal.Place) (omega arith) g) k)
  place-one (place_least k h d) f (place_here l i) g = absurd (omega (arith, h, i))
  place-one {at = at} (place_least k h d) f (place_least l i e) g =
      same-ap (λ v. Some (place.Least at v)) (expr-one text ts d (from-no_operator f) e (from-no_operator g))

  elect-one : {at to so : ℕ} {v w : Option ElectSyntaxTree} → IsElect text ts at v to → From (code terminal.On) ts to → IsElect text ts at w so → From (code terminal.On) ts so → Same v to w so
  elect-one elect_none f elect_none g = same
  elect-one elect_none f (elect_some l e) g =
      absurd (is-not _ (code terminal.Elect) (from-past (code terminal.Elect) (omega arith) f) l)
  elect-one (elect_some k d) f elect_none g =
      absurd (is-not _ (code terminal.Elect) (from-past (code terminal.Elect) (omega arith) g) k)
  elect-one {at = at} (elect_some k d) f (elect_some l e) g =
      same-ap (λ order. Some (record { at = at; order = order }))
      (order-one text ts d (from-no_key f) e (from-no_key g))

  sets-one : {at to so : ℕ} {v w : List SetSyntax} → IsSets text ts at v to →
      (kind_at ts to == code terminal.Task) ≡ false →
      IsSets text ts at w so → (kind_at ts so == code terminal.Task) ≡ false → Same v to w so
  sets-one sets_none n sets_none m = same
  sets-one sets_none n (sets_more l d' w' g' e c' others) m = absurd (is-not _ (code terminal.Task) n l)
  sets-one (sets_more k d' w' g' d c rest) n sets_none m = absurd (is-not _ (code terminal.Task) m k)
  sets-one {at = at} (sets_more k dot word gets d c rest) n (sets_more l dot' word' gets' e c' others) m =
      same-ap (λ p. record { at = at; word = word_at text ts (at + 2); value = p.0 } ∷ p.1)
      (and-then (λ i. IsSets text ts (i + 1))
      (expr-one text ts d (no_operator-by ts _ (code terminal.Comma) c refl refl refl) e
      (no_operator-by ts _ (code terminal.Comma) c' refl refl refl))
      others (λ o. sets-one rest n o m))

  puts-end : (at : ℕ) (p : Put) → kind_at ts at ≡ put_word p → (kind_at ts at == code terminal.Task) ≡ false
  puts-end at p k =
      let less = put-no_task p in ne_eqb (kind_at ts at) (code terminal.Task) (λ e. omega (arith, e, k, less))

  put-both : {X : Type 0} {x y : X} {m n : ℕ} (p q : Put) → kind_at ts m ≡ put_word p → kind_at ts n ≡ put_word q →
      Same x m y n → Same {X = (X × ℕ) × Put} ((x, m), p) m ((y, n), q) n
  put-both {x = x} {m = m} p q k l same = same-ap (λ v. ((x, m), v)) (put-same m p q k l)

  case-one : {at to so : ℕ} {v w : CaseSyntaxTree} → IsCase text ts at v to → IsCase text ts at w so → Same v to w so
  case-one {at = at} (case_of {mid = mid} p k d c sets q) (case_of {mid = there} r l e f others s) =
      closed (same-ap (λ t. record { at = at; guard = t.0.0.0; sets = t.0.0.1; put_at = t.0.1; put = t.1 })
      (put-both p r q s
      (and-then (λ i. IsSets text ts (i + 1))
      (condition-one text ts d (no_or-by ts mid (code terminal.Colon) c refl refl refl refl refl) e (no_or-by ts there (code terminal.Colon) f refl refl refl refl refl))
      others (λ o. sets-one sets (puts-end _ p q) o (puts-end _ r s)))))

  case-when : {at to : ℕ} {c : CaseSyntaxTree} → IsCase text ts at c to → kind_at ts at ≡ code terminal.When
  case-when (case_of p k d c sets q) = k

  cases-one : {at to so : ℕ} {v w : List CaseSyntaxTree} → IsCases text ts at v to →
      (kind_at ts to == code terminal.When) ≡ false →
      IsCases text ts at w so → (kind_at ts so == code terminal.When) ≡ false → Same v to w so
  cases-one cases_none n cases_none m = same
  cases-one cases_none n (cases_more e others) m = absurd (is-not _ (code terminal.When) n (case-when e))
  cases-one (cases_more d rest) n cases_none m = absurd (is-not _ (code terminal.When) m (case-when d))
  cases-one (cases_more d rest) n (cases_more e others) m =
      same-ap (λ p. p.0 ∷ p.1) (and-then (IsCases text ts) (case-one d e) others (λ o. cases-one rest n o m))

  handler-one : {at to so : ℕ} {v w : HandlerSyntaxTree} → IsHandler text ts at v to → IsHandler text ts at w so → Same v to w so
  handler-one {at = at} (handler_of a k1 k2 k3 d more f) (handler_of b l1 l2 l3 e others g) =
      closed (same-ap (λ p. record { at = at; event = p.0.0; cases = p.0.1 ∷ p.1 })
      (and-then (IsCases text ts)
      (and-then (λ i. IsCase text ts (i + 3)) (event-same at a b k2 l2) e (λ o. case-one d o))
      others (λ o. cases-one more (rw f refl) o (rw g refl))))

  handler-on : {at to : ℕ} {h : HandlerSyntaxTree} → IsHandler text ts at h to → kind_at ts at ≡ code terminal.On
  handler-on (handler_of a k1 k2 k3 d more f) = k1

  handlers-one : {at to so : ℕ} {v w : List HandlerSyntaxTree} → IsHandlers text ts at v to → From (code terminal.Level) ts to →
      IsHandlers text ts at w so → From (code terminal.Level) ts so → Same v to w so
  handlers-one handlers_none f handlers_none g = same
  handlers-one handlers_none f (handlers_more e others) g =
      absurd (is-not _ (code terminal.On) (from-past (code terminal.On) (omega arith) f) (handler-on e))
  handlers-one (handlers_more d rest) f handlers_none g =
      absurd (is-not _ (code terminal.On) (from-past (code terminal.On) (omega arith) g) (handler-on d))
  handlers-one (handlers_more d rest) f (handlers_more e others) g =
      same-ap (λ p. p.0 ∷ p.1) (and-then (IsHandlers text ts) (handler-one d e) others (λ o. handlers-one rest f o g))

  -- `while` stands where a batch begins, and no token behind the last
  batch-none : (at : ℕ) → kind_at ts at ≡ 0 → kind_at ts at ≡ code terminal.While → ⊥
  batch-none at n w = omega (arith, n, w)

  batch-both : {at to so : ℕ} {v w : ConditionTree} → Same v to w so →
      Same {X = Option BatchSyntaxTree} (Some (record { at = at; condition = v; limit_at = to + 1; limit = value_at ts (to + 1) })) (to + 2)
      (Some (record { at = at; condition = w; limit_at = so + 1; limit = value_at ts (so + 1) })) (so + 2)
  batch-both same = same

  batch-one : {at to so : ℕ} {v w : Option BatchSyntaxTree} → IsBatch text ts at v to → kind_at ts to ≡ 0 → IsBatch text ts at w so → kind_at ts so ≡ 0 → Same v to w so
  batch-one batch_none n batch_none m = same
  batch-one batch_none n (batch_some w d l k) m = absurd (batch-none _ n w)
  batch-one (batch_some w d l k) n batch_none m = absurd (batch-none _ m w)
  batch-one (batch_some {mid = mid} w d l k) n (batch_some {mid = there} w' e l' k') m =
      batch-both
      (condition-one text ts d (no_or-by ts mid (code terminal.Limit) l refl refl refl refl refl) e
      (no_or-by ts there (code terminal.Limit) l' refl refl refl refl refl))

  -- all that stands before the filter, or before the levels
  pub front-one : {a1 a2 a3 a4 to b1 b2 b3 b4 so : ℕ} {l r : LoadSyntax} {us vs : List AttrSyntax} {p q : Option PlaceSyntax} {e o : Option ElectSyntaxTree}
      {hs js : List HandlerSyntaxTree} →
      IsLoad ts 2 l a1 → IsAttrs text ts a1 us a2 → IsPlace text ts a2 p a3 → IsElect text ts a3 e a4 → IsHandlers text ts a4 hs to → From (code terminal.Level) ts to →
      IsLoad ts 2 r b1 → IsAttrs text ts b1 vs b2 → IsPlace text ts b2 q b3 → IsElect text ts b3 o b4 → IsHandlers text ts b4 js so → From (code terminal.Level) ts so →
      Same {X = (((LoadSyntax × List AttrSyntax) × Option PlaceSyntax) × Option ElectSyntaxTree) × List HandlerSyntaxTree}
      ((((l, us), p), e), hs) to ((((r, vs), q), o), js) so
  front-one dl da dp de dh f el ea ep ee eh g =
      let fh = handlers-from dh f in
      let gh = handlers-from eh g in
      let fe = elect-from de fh in
      let ge = elect-from ee gh in
      let head = and-then (IsAttrs text ts) (load-one dl el) ea (λ o. attrs-one da (place-from dp fe) o (place-from ep ge)) in
      let placed = and-then (IsPlace text ts) head ep (λ o. place-one dp fe o ge) in
      let elected = and-then (IsElect text ts) placed ee (λ o. elect-one de fh o gh) in
      and-then (IsHandlers text ts) elected eh (λ o. handlers-one dh f o g)

  -- the orders and the batch, behind which nothing stands
  pub choices-one : {X : Type 0} {x y : X} {m n a_steal a_batch b_steal b_batch : ℕ} {c d s r : OrderSyntaxTree} {b e : Option BatchSyntaxTree} →
      Same {X = X × ℕ} (x, m) m (y, n) n →
      kind_at ts m ≡ code terminal.Choose → IsOrder text ts (m + 1) c a_steal → kind_at ts a_steal ≡ code terminal.Steal →
      IsOrder text ts (a_steal + 1) s a_batch → IsBatch text ts a_batch b (length ts) →
      kind_at ts n ≡ code terminal.Choose → IsOrder text ts (n + 1) d b_steal → kind_at ts b_steal ≡ code terminal.Steal →
      IsOrder text ts (b_steal + 1) r b_batch → IsBatch text ts b_batch e (length ts) →
      Same {X = ((((X × ℕ) × OrderSyntaxTree) × ℕ) × OrderSyntaxTree) × Option BatchSyntaxTree}
      (((((x, m), c), a_steal), s), b) (length ts) (((((y, n), d), b_steal), r), e) (length ts)
  choices-one {a_steal = a_steal} {b_steal = b_steal} front kc dc ks ds db lc ec ls es eb =
      let none = kind-end ts in
      let chosen = same-place (and-then (λ i. IsOrder text ts (i + 1)) front ec
      (λ o. order-one text ts dc (no_key-by ts a_steal (code terminal.Steal) ks refl refl refl refl refl refl) o (no_key-by ts b_steal (code terminal.Steal) ls refl refl refl refl refl refl))) in
      let stolen = and-then (λ i. IsOrder text ts (i + 1)) chosen es (λ o. order-one text ts ds (batch-no_key db none) o (batch-no_key eb none)) in
      and-then (IsBatch text ts) stolen eb (λ o. batch-one db none o none)

  pub policy-one : {s t : SyntaxTree} → IsPolicy text ts s → IsPolicy text ts t → s ≡ t
  policy-one
      (policy_of {at_choose = at_choose} k0 k1 dl da dp de dh kf df kc dc ks ds db)
      (policy_of {at_choose = bt_choose} l0 l1 el ea ep ee eh lf ef lc ec ls es eb) =
      let handled = same-place (front-one dl da dp de dh (filter-from kf) el ea ep ee eh (filter-from lf)) in
      let filtered = same-place (and-then (λ i. IsCondition text ts (i + 1)) handled ef
      (λ o. condition-one text ts df (no_or-by ts at_choose (code terminal.Choose) kc refl refl refl refl refl) o (no_or-by ts bt_choose (code terminal.Choose) lc refl refl refl refl refl))) in
      same-is (same-ap (λ t. record {
        name = word_at text ts 1;
        load = t.0.0.0.0.0.0.0.0.0.0.0;
        attrs = t.0.0.0.0.0.0.0.0.0.0.1;
        place = t.0.0.0.0.0.0.0.0.0.1;
        elect = t.0.0.0.0.0.0.0.0.1;
        handlers = t.0.0.0.0.0.0.0.1;
        filter_at = t.0.0.0.0.0.0.1;
        filter = t.0.0.0.0.0.1;
        choose_at = t.0.0.0.0.1;
        choose = t.0.0.0.1;
        steal_at = t.0.0.1;
        steal = t.0.1;
        batch = t.1;
      }) (choices-one filtered kc dc ks ds db lc ec ls es eb))
