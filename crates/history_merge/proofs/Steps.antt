-- What a cursor finds in the log of a history.
use Rattle.std.proofs.Common.{◌≡◌, ℕ, zero, suc, ◌+◌, ◌≤◌, Bool, true, false, cond, List, [], ◌∷◌, ◌++◌, slice_get, Option, None, Some, refl, sym, ap, ◌∙◌, eq-eqb, arith}
use Rattle.std.specs.Prelude.{nat_lt, ◌==◌}
use Rattle.std.proofs.lemmas.Bool.{le-ltb, lt-ltb, ltb-false, ltb-true}
use Rattle.round_model.specs.declared.entry.Entry.{Entry}
use Rattle.core_state.specs.declared.logged.Logged.{Logged}
use Rattle.core_state.specs.Logs.{logged, logged_from}
use Rattle.history_merge.specs.Code.Moves.{entry_there, moved}
use Rattle.history_merge.specs.Cursors.{passed}

-- the entry, if it passes the test
abbrev pub passing : (Entry → Bool) → Option Entry → Option Entry
passing test None = None
passing test (Some e) = cond (test e) (Some e) None

-- no entry stands before position 0
pub passed_none : (log : List Logged) → passed 0 log ≡ 0
passed_none [] = refl
passed_none (l ∷ log) = rw (le-ltb l.at 0 (omega arith)) refl

module _ (test : Entry → Bool) where
  -- a log that begins no earlier has nothing before that position
  none_before : (n at : ℕ) (es : List Entry) → n ≤ at → passed n (logged_from test at es) ≡ 0
  none_before n at [] le = refl
  none_before n at (e ∷ es) le =
      elim (test e) as (λ b. passed n (cond b (logged at e ∷ []) [] ++ logged_from test (suc at) es) ≡ 0) [
        | true ↦ rw (le-ltb at n le) refl
        | false ↦ none_before n (suc at) es (omega arith)
      ]

  -- and a log that begins later has nothing there
  none_there : (n at : ℕ) (es : List Entry) → suc n ≤ at → entry_there n (slice_get (logged_from test at es) 0) ≡ None
  none_there n at [] le = refl
  none_there n at (e ∷ es) le =
      elim (test e) as (λ b. entry_there n (slice_get (cond b (logged at e ∷ []) [] ++ logged_from test (suc at) es) 0) ≡ None) [
        | true ↦ let other : (at == n) ≡ false = grind arith in rw other refl
        | false ↦ none_there n (suc at) es (omega arith)
      ]

  -- where the cursor has passed what stands before the position, it finds the entry there if the log has it
  found_from : (n at far : ℕ) (es : List Entry) → n ≡ at + far
      → entry_there n (slice_get (logged_from test at es) (passed n (logged_from test at es))) ≡ passing test (slice_get es far)
  found_from n at far [] is = refl
  found_from n at zero (e ∷ es) is =
      elim (test e) as (λ b. entry_there n (slice_get (cond b (logged at e ∷ []) [] ++ logged_from test (suc at) es) (passed n (cond b (logged at e ∷ []) [] ++ logged_from test (suc at) es))) ≡ cond b (Some e) None) [
        | true ↦ let here : (at == n) ≡ true = eq-eqb at n (omega arith) in rw (le-ltb at n (omega arith)) (rw here refl)
        | false ↦ rw (none_before n (suc at) es (omega arith)) (none_there n (suc at) es (omega arith))
      ]
  found_from n at (suc far) (e ∷ es) is =
      elim (test e) as (λ b. entry_there n (slice_get (cond b (logged at e ∷ []) [] ++ logged_from test (suc at) es) (passed n (cond b (logged at e ∷ []) [] ++ logged_from test (suc at) es))) ≡ passing test (slice_get es far)) [
        | true ↦ rw (lt-ltb at n (omega arith))
            (let rest = logged_from test (suc at) es in let more : 1 + passed n rest ≡ suc (passed n rest) = omega arith in
            ap (λ k. entry_there n (slice_get (logged at e ∷ rest) k)) more ∙ found_from n (suc at) far es (omega arith))
        | false ↦ found_from n (suc at) far es (omega arith)
      ]

  -- and one position on, it has passed that entry
  passed_from : (n at far : ℕ) (es : List Entry) → n ≡ at + far
      → passed (suc n) (logged_from test at es) ≡ moved (passed n (logged_from test at es)) (passing test (slice_get es far))
  passed_from n at far [] is = refl
  passed_from n at zero (e ∷ es) is =
      elim (test e) as (λ b. passed (suc n) (cond b (logged at e ∷ []) [] ++ logged_from test (suc at) es) ≡ moved (passed n (cond b (logged at e ∷ []) [] ++ logged_from test (suc at) es)) (cond b (Some e) None)) [
        | true ↦ rw (lt-ltb at (suc n) (omega arith)) (rw (le-ltb at n (omega arith)) (rw (none_before (suc n) (suc at) es (omega arith)) refl))
        | false ↦ none_before (suc n) (suc at) es (omega arith) ∙ sym (none_before n (suc at) es (omega arith))
      ]
  passed_from n at (suc far) (e ∷ es) is =
      elim (test e) as (λ b. passed (suc n) (cond b (logged at e ∷ []) [] ++ logged_from test (suc at) es) ≡ moved (passed n (cond b (logged at e ∷ []) [] ++ logged_from test (suc at) es)) (passing test (slice_get es far))) [
        | true ↦ rw (lt-ltb at (suc n) (omega arith)) (rw (lt-ltb at n (omega arith))
            (ap (λ k. 1 + k) (passed_from n (suc at) far es (omega arith)) ∙ moved_more (passed n (logged_from test (suc at) es)) (passing test (slice_get es far))))
        | false ↦ passed_from n (suc at) far es (omega arith)
      ]
    where
      moved_more : (k : ℕ) (o : Option Entry) → 1 + moved k o ≡ moved (1 + k) o
      moved_more k None = refl
      moved_more k (Some x) = omega arith

  -- a cursor has passed at most as many entries as there are positions
  passed_few : (n at : ℕ) (es : List Entry) → at ≤ n → passed n (logged_from test at es) + at ≤ n
  passed_few n at [] le = omega arith
  passed_few n at (e ∷ es) le =
      elim (nat_lt at n) as (λ b. nat_lt at n ≡ b → passed n (logged_from test at (e ∷ es)) + at ≤ n) [
        | true ↦ λ less. elim (test e) as (λ b. passed n (cond b (logged at e ∷ []) [] ++ logged_from test (suc at) es) + at ≤ n) [
          | true ↦ rw less (let rest = passed_few n (suc at) es (ltb-true at n less) in omega arith)
          | false ↦ let rest = passed_few n (suc at) es (ltb-true at n less) in omega arith
        ]
        | false ↦ λ more. rw (none_before n at (e ∷ es) (ltb-false at n more)) (omega arith)
      ] refl

  pub found_in : (n : ℕ) (h : List Entry) → entry_there n (slice_get (logged_from test 0 h) (passed n (logged_from test 0 h))) ≡ passing test (slice_get h n)
  found_in n h = found_from n 0 n h (omega arith)

  pub passed_in : (n : ℕ) (h : List Entry) → passed (n + 1) (logged_from test 0 h) ≡ moved (passed n (logged_from test 0 h)) (passing test (slice_get h n))
  passed_in n h = ap (λ k. passed k (logged_from test 0 h)) (let next : n + 1 ≡ suc n = omega arith in next) ∙ passed_from n 0 n h (omega arith)

  pub few_passed : (n : ℕ) (h : List Entry) → passed n (logged_from test 0 h) ≤ n
  few_passed n h = let few = passed_few n 0 h (omega arith) in omega arith
