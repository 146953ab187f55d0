-- How many entries a history has, by the positions behind its logs.
use Rattle.std.proofs.Common.{◌≡◌, eqb, max, ℕ, zero, suc, ◌+◌, ◌<◌, ◌≤◌, Bool, true, false, cond, List, [], ◌∷◌, ◌++◌, length, get_or, slice_get, Some, refl, sym, ap, subst, ◌∙◌, arith}
use Rattle.std.proofs.lemmas.Option.{slice_get-get_or, slice_get_within, get_or_from_slice_get}
use Rattle.round_model.specs.declared.entry.Entry.{Entry}
use Rattle.round_model.specs.Entries.{touches}
use Rattle.round_model.specs.Kinds.{is_round}
use Rattle.core_state.specs.Logs.{LogsOf, after_last, logged, logged_from}
use Rattle.core_state.specs.Views.{ClosedView, CoreView}
use Rattle.core_state.proofs.Quiet.{last_within}
use Rattle.history_merge.proofs.Walks.{core_of, touched_by}

-- no log that was passed over goes on behind the count, and the history doesn't end before it
pub record IsCounted (closed : ClosedView) (core count : ℕ) : Type 0 where
  pub within : (h : List Entry) → LogsOf h closed → count ≤ length h
  pub rounds : after_last 0 closed.rounds ≤ count
  pub cores : (c : ℕ) (y : CoreView) → c < core → slice_get closed.cores c ≡ Some y → after_last 0 y.log ≤ count

module _ (test : Entry → Bool) where
  last_grows : (start at : ℕ) (es : List Entry) → start ≤ at → start ≤ after_last start (logged_from test at es)
  last_grows start at [] early = omega arith
  last_grows start at (e ∷ es) early =
      elim (test e) as (λ b. start ≤ after_last start (cond b (logged at e ∷ []) [] ++ logged_from test (suc at) es)) [
        | true ↦ let rest = last_grows (suc at) (suc at) es (omega arith) in omega arith
        | false ↦ last_grows start (suc at) es (omega arith)
      ]

  -- an entry of the log stands before the position behind its last
  last_behind : (start at n : ℕ) (es : List Entry) (e : Entry) → start ≤ at → slice_get es n ≡ Some e → test e ≡ true
      → suc (at + n) ≤ after_last start (logged_from test at es)
  last_behind start at n [] e early there is = absurd (cc)
  last_behind start at zero (x ∷ es) e early there is =
      let one : x ≡ e = cc in
      subst (λ b. suc (at + 0) ≤ after_last start (cond b (logged at x ∷ []) [] ++ logged_from test (suc at) es)) (sym (ap test one ∙ is))
      (let rest = last_grows (suc at) (suc at) es (omega arith) in omega arith)
  last_behind start at (suc n) (x ∷ es) e early there is =
      elim (test x) as (λ b. suc (at + suc n) ≤ after_last start (cond b (logged at x ∷ []) [] ++ logged_from test (suc at) es)) [
        | true ↦ let rest = last_behind (suc at) (suc at) n es e (omega arith) there is in omega arith
        | false ↦ let rest = last_behind start (suc at) n es e (omega arith) there is in omega arith
      ]

-- a list is no longer than the places of its items
length_within : (h : List Entry) (count : ℕ) → ((n : ℕ) (e : Entry) → slice_get h n ≡ Some e → suc n ≤ count) → length h ≤ count
length_within [] count all = omega arith
length_within (x ∷ h) count all =
    all (length h) (get_or (x ∷ h) (length h) x) (slice_get-get_or (x ∷ h) (length h) x (omega arith))

module _ (closed : ClosedView) where
  pub count_begins : (count : ℕ) → count ≡ after_last 0 closed.rounds → IsCounted closed 0 count
  count_begins count is = record {
    within = λ h logs. let few = last_within is_round h in let same = is ∙ ap (after_last 0) logs.rounds in omega arith;
    rounds = omega arith;
    cores = λ c y less there. absurd (omega arith);
  }

  -- with the greater of the count and the position behind the next core's log
  pub count_goes : (core count more : ℕ) (y : CoreView) → IsCounted closed core count → slice_get closed.cores core ≡ Some y
      → more ≡ max count (after_last 0 y.log) → IsCounted closed (core + 1) more
  count_goes core count more y counted there greater = record {
    within = λ h logs.
        let few = counted.within h logs in let within = last_within (touches core) h in
        let log = ap (after_last 0) (logs.cores core y there) in omega arith;
    rounds = let rounds = counted.rounds in omega arith;
    cores = λ c z less is. elim (eqb c core) as (λ b. eqb c core ≡ b → after_last 0 z.log ≤ more) [
      | true ↦ λ same. let this : c ≡ core = grind arith in
          let item : Some y ≡ Some z = sym there ∙ (ap (slice_get closed.cores) (sym this) ∙ is) in let one : y ≡ z = cc in
          subst (λ (v : CoreView). after_last 0 v.log ≤ more) one (omega arith)
      | false ↦ λ other. let before = counted.cores c z (grind arith) is in omega arith
    ] refl;
  }

  pub count_ends : (count : ℕ) → IsCounted closed (length closed.cores) count → (h : List Entry) → LogsOf h closed → count ≡ length h
  count_ends count counted h logs =
      let within = counted.within h logs in
      let long : length h ≤ count = length_within h count (λ n e there. elim (is_round e) as (λ b. is_round e ≡ b → suc n ≤ count) [
        | true ↦ λ is.
            let behind = last_behind is_round 0 0 n h e (omega arith) there is in
            let log = ap (after_last 0) logs.rounds in let rounds = counted.rounds in omega arith
        | false ↦ λ plain. let own = touched_by e plain in
            let behind = last_behind (touches own.0) 0 0 n h e (omega arith) there own.1 in
            let inside = logs.there n e (slice_get_within h n e there) own.0 (ap (touches own.0) (get_or_from_slice_get h n e e there) ∙ own.1) in
            let y = core_of closed closed.cores own.0 inside in
            let log = ap (after_last 0) (logs.cores own.0 y.0 y.1) in
            let few = counted.cores own.0 y.0 inside y.1 in omega arith
      ] refl) in
      omega arith
