-- The list that the logs of a history come to is that history.
use Rattle.std.proofs.Common.{◌≡◌, ℕ, zero, suc, ◌+◌, ◌<◌, ◌≤◌, ◌||◌, max, Bool, true, false, cond, List, [], ◌∷◌, ◌++◌, length, slice_get, Option, None, Some, refl, ap, ap₂, ◌∙◌, subst, eq-eqb, arith}
use Rattle.std.specs.Prelude.{◌==◌}
use Rattle.std.specs.Option.{option_or}
use Rattle.std.proofs.lemmas.Option.{get_or_from_slice_get, slice_get_within}
use Rattle.round_model.specs.declared.entry.Entry.{Entry}
use Rattle.round_model.specs.Entries.{touches}
use Rattle.round_model.specs.Kinds.{is_round}
use Rattle.core_state.specs.Logs.{LogsOf, after_last, log_of, logged, logged_from}
use Rattle.core_state.specs.Views.{ClosedView, CoreView}
use Rattle.core_state.proofs.Quiet.{last_within}
use Rattle.history_merge.specs.Laws.{MergedLaw}
use Rattle.history_merge.specs.Merged.{before, behind_cores, count_of, entry_in, entry_of, entry_of_cores, merged, merged_from}
use Rattle.history_merge.proofs.Counts.{IsCounted, count_ends}
use Rattle.history_merge.proofs.Steps.{passing}
use Rattle.history_merge.proofs.Walks.{touched_by}

module _ (test : Entry → Bool) where
  -- a log that begins later has nothing there
  in_later : (n at : ℕ) (es : List Entry) → suc n ≤ at → entry_in n (logged_from test at es) ≡ None
  in_later n at [] le = refl
  in_later n at (e ∷ es) le =
      elim (test e) as (λ b. entry_in n (cond b (logged at e ∷ []) [] ++ logged_from test (suc at) es) ≡ None) [
        | true ↦ let other : (at == n) ≡ false = grind arith in rw other (in_later n (suc at) es (omega arith))
        | false ↦ in_later n (suc at) es (omega arith)
      ]

  in_from : (n at far : ℕ) (es : List Entry) → n ≡ at + far → entry_in n (logged_from test at es) ≡ passing test (slice_get es far)
  in_from n at far [] is = refl
  in_from n at zero (e ∷ es) is =
      elim (test e) as (λ b. entry_in n (cond b (logged at e ∷ []) [] ++ logged_from test (suc at) es) ≡ cond b (Some e) None) [
        | true ↦ let here : (at == n) ≡ true = eq-eqb at n (omega arith) in rw here refl
        | false ↦ in_later n (suc at) es (omega arith)
      ]
  in_from n at (suc far) (e ∷ es) is =
      elim (test e) as (λ b. entry_in n (cond b (logged at e ∷ []) [] ++ logged_from test (suc at) es) ≡ passing test (slice_get es far)) [
        | true ↦ let other : (at == n) ≡ false = grind arith in rw other (in_from n (suc at) far es (omega arith))
        | false ↦ in_from n (suc at) far es (omega arith)
      ]

  -- the log of those that pass has the entry of a position, if it passes
  in_log : (n : ℕ) (h : List Entry) → entry_in n (logged_from test 0 h) ≡ passing test (slice_get h n)
  in_log n h = in_from n 0 n h (omega arith)

-- one of these cores is touched, where the first has that number
abbrev any_touched : ℕ → List CoreView → Entry → Bool
any_touched c [] e = false
any_touched c (y ∷ ys) e = touches c e || any_touched (suc c) ys e

either_passes : (test other : Entry → Bool) (o : Option Entry) → option_or (passing test o) (passing other o) ≡ passing (λ e. test e || other e) o
either_passes test other None = refl
either_passes test other (Some e) =
    elim (test e) as (λ b. option_or (cond b (Some e) None) (cond (other e) (Some e) None) ≡ cond (b || other e) (Some e) None) [
      | true ↦ refl
      | false ↦ refl
    ]

none_passes : (o : Option Entry) → None ≡ passing (λ e. false) o
none_passes None = refl
none_passes (Some e) = refl

any_true : (c k : ℕ) (ys : List CoreView) (e : Entry) → k < length ys → touches (c + k) e ≡ true → any_touched c ys e ≡ true
any_true c k [] e inside is = absurd (omega arith)
any_true c zero (y ∷ ys) e inside is =
    ap (λ b. b || any_touched (suc c) ys e) (ap (λ n. touches n e) (let same : c ≡ c + 0 = omega arith in same) ∙ is)
any_true c (suc k) (y ∷ ys) e inside is =
    or_true (touches c e) (any_touched (suc c) ys e)
    (any_true (suc c) k ys e (omega arith) (ap (λ n. touches n e) (let same : suc c + k ≡ c + suc k = omega arith in same) ∙ is))
  where
    or_true : (b d : Bool) → d ≡ true → (b || d) ≡ true
    or_true true d is = refl
    or_true false d is = is

module _ (h : List Entry) where
  -- the logs of the cores from that number on have the entry, if it touches one of them
  of_cores : (n c : ℕ) (ys : List CoreView) → ((k : ℕ) (y : CoreView) → slice_get ys k ≡ Some y → y.log ≡ log_of (c + k) h)
      → entry_of_cores n ys ≡ passing (any_touched c ys) (slice_get h n)
  of_cores n c [] logs = none_passes (slice_get h n)
  of_cores n c (y ∷ ys) logs =
      let own : y.log ≡ log_of c h = logs 0 y refl ∙ ap (λ k. log_of k h) (let same : c + 0 ≡ c = omega arith in same) in
      ap₂ option_or (ap (entry_in n) own ∙ in_log (touches c) n h)
      (of_cores n (suc c) ys (λ k z there. logs (suc k) z there ∙ ap (λ j. log_of j h) (let same : c + suc k ≡ suc c + k = omega arith in same)))
      ∙ either_passes (touches c) (any_touched (suc c) ys) (slice_get h n)

  -- the position behind all these logs is within the history
  behind_within : (c : ℕ) (ys : List CoreView) → ((k : ℕ) (y : CoreView) → slice_get ys k ≡ Some y → y.log ≡ log_of (c + k) h) → behind_cores ys ≤ length h
  behind_within c [] logs = omega arith
  behind_within c (y ∷ ys) logs =
      let rest = behind_within (suc c) ys (λ k z there. logs (suc k) z there ∙ ap (λ j. log_of j h) (let same : c + suc k ≡ suc c + k = omega arith in same)) in
      let few = last_within (touches (c + 0)) h in
      let own = ap (after_last 0) (logs 0 y refl) in omega arith

-- and behind each of them
each_behind : (ys : List CoreView) (k : ℕ) (y : CoreView) → slice_get ys k ≡ Some y → after_last 0 y.log ≤ behind_cores ys
each_behind [] k y there = absurd (cc)
each_behind (z ∷ ys) zero y there = let one : z ≡ y = cc in subst (λ (v : CoreView). after_last 0 v.log ≤ max (after_last 0 z.log) (behind_cores ys)) one (omega arith)
each_behind (z ∷ ys) (suc k) y there = let rest = each_behind ys k y there in omega arith

module _ (closed : ClosedView) (h : List Entry) (logs : LogsOf h closed) where
  own_logs : (k : ℕ) (y : CoreView) → slice_get closed.cores k ≡ Some y → y.log ≡ log_of (0 + k) h
  own_logs k y there = logs.cores k y there ∙ ap (λ j. log_of j h) (let same : k ≡ 0 + k = omega arith in same)

  -- a round begins, or one of the cores is touched
  abbrev logged_somewhere : Entry → Bool
  logged_somewhere e = is_round e || any_touched 0 closed.cores e

  somewhere : (n : ℕ) (e : Entry) → slice_get h n ≡ Some e → logged_somewhere e ≡ true
  somewhere n e there =
      elim (is_round e) as (λ b. is_round e ≡ b → (b || any_touched 0 closed.cores e) ≡ true) [
        | true ↦ λ is. refl
        | false ↦ λ plain. let own = touched_by e plain in
            any_true 0 own.0 closed.cores e
            (logs.there n e (slice_get_within h n e there) own.0 (ap (touches own.0) (get_or_from_slice_get h n e e there) ∙ own.1))
            (ap (λ k. touches k e) (let same : 0 + own.0 ≡ own.0 = omega arith in same) ∙ own.1)
      ] refl

  entry_is : (n : ℕ) → entry_of closed n ≡ slice_get h n
  entry_is n =
      ap₂ option_or (ap (entry_in n) logs.rounds ∙ in_log is_round n h) (of_cores h n 0 closed.cores own_logs)
      ∙ (either_passes is_round (any_touched 0 closed.cores) (slice_get h n) ∙ all (slice_get h n) (somewhere n))
    where
      all : (o : Option Entry) → ((e : Entry) → o ≡ Some e → logged_somewhere e ≡ true) → passing logged_somewhere o ≡ o
      all None true_of = refl
      all (Some e) true_of = ap (λ b. cond b (Some e) None) (true_of e refl)

  counted : IsCounted closed (length closed.cores) (count_of closed)
  counted = record {
    within = λ g others.
        let few = last_within is_round g in let rounds = ap (after_last 0) others.rounds in
        let cores = behind_within g 0 closed.cores (λ k y there. others.cores k y there ∙ ap (λ j. log_of j g) (let same : k ≡ 0 + k = omega arith in same)) in
        omega arith;
    rounds = omega arith;
    cores = λ c y inside there. let most = each_behind closed.cores c y there in omega arith;
  }

  count_is : count_of closed ≡ length h
  count_is = count_ends closed (count_of closed) counted h logs

  -- the entries from a position on are those of the rest of the history
  rest_is : (at : ℕ) (es : List Entry) → ((k : ℕ) → entry_of closed (at + k) ≡ slice_get es k) → merged_from closed at (length es) ≡ es
  rest_is at [] same = refl
  rest_is at (e ∷ es) same =
      ap₂ before (ap (entry_of closed) (let here : at ≡ at + 0 = omega arith in here) ∙ same 0)
      (rest_is (suc at) es (λ k. ap (entry_of closed) (let next : suc at + k ≡ at + suc k = omega arith in next) ∙ same (suc k)))

  merged_is : merged closed ≡ h
  unfolding merged
  merged_is =
      ap (merged_from closed 0) count_is
      ∙ rest_is 0 h (λ k. ap (entry_of closed) (let same : 0 + k ≡ k = omega arith in same) ∙ entry_is k)

pub merged_history : MergedLaw
merged_history closed history logs = merged_is closed history logs
