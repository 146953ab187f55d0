-- What is read at the fresh reads is what is there now.
use Rattle.std.proofs.Common.{◌≡◌, ℕ, suc, ◌+◌, ◌<◌, ◌≤◌, ◌⊎◌, inl, inr, ⊎_elim, max, Bool, cond, true, false, List, [], ◌∷◌, ◌++◌, length, take, drop, slice_index, refl, sym, ap, ◌∙◌, arith}
use Rattle.std.proofs.lemmas.List.{append-nil, length-take, take-append-drop, take-take}
use Rattle.std.proofs.lemmas.List.FromFn.{get_or-map-range_with_len}
use Rattle.policy_tree.specs.Meaning.{Meaning}
use Rattle.round_model.specs.declared.entry.Entry.{Entry}
use Rattle.round_model.specs.declared.plan.Plan.{Plan}
use Rattle.round_model.specs.After.{after}
use Rattle.round_model.specs.Cores.{seen_of}
use Rattle.round_model.specs.Entries.{touches}
use Rattle.round_model.specs.FreshReads.{touched_from}
use Rattle.round_model.specs.Reads.{round_start, values_of}
use Rattle.round_model.specs.Scenes.{scene_of}
use Rattle.round_model.proofs.Longer.{start_within}
use Rattle.core_state.specs.declared.logged.Logged.{Logged}
use Rattle.core_state.specs.Logs.{after_last, log_of, logged, logged_from}
use Rattle.core_state.proofs.Quiet.{last_within, quiet}
use Rattle.core_moves.specs.Sights.{reads_now, values_now}

-- the position behind the last entry of a core's log
pub touched_is : (c at start : ℕ) (h : List Entry) → touched_from c at start h ≡ after_last start (logged_from (touches c) at h)
touched_is c at start [] = refl
touched_is c at start (e ∷ es) =
    elim (touches c e) as (λ b. touched_from c (suc at) (cond b (suc at) start) es ≡ after_last start (cond b (logged at e ∷ []) [] ++ logged_from (touches c) (suc at) es)) [
      | true ↦ touched_is c (suc at) (suc at) es
      | false ↦ touched_is c (suc at) start es
    ]

-- the log of later entries is empty, or it ends behind them
later_or_none : (test : Entry → Bool) (at start : ℕ) (es : List Entry) → (logged_from test at es ≡ []) ⊎ (at < after_last start (logged_from test at es))
later_or_none test at start [] = inl refl
later_or_none test at start (e ∷ es) =
    elim (test e) as (λ b. (cond b (logged at e ∷ []) [] ++ logged_from test (suc at) es ≡ []) ⊎ (at < after_last start (cond b (logged at e ∷ []) [] ++ logged_from test (suc at) es))) [
      | true ↦ inr (⊎_elim
          (λ (none : logged_from test (suc at) es ≡ []). let ends : after_last (suc at) (logged_from test (suc at) es) ≡ suc at = ap (after_last (suc at)) none in omega arith)
          (λ (later : suc at < after_last (suc at) (logged_from test (suc at) es)). omega arith)
          (later_or_none test (suc at) (suc at) es))
      | false ↦ ⊎_elim (λ (none : logged_from test (suc at) es ≡ []). inl none) (λ (later : suc at < after_last start (logged_from test (suc at) es)). inr (omega arith)) (later_or_none test (suc at) start es)
    ]

-- the log of the first entries and of those behind them
logged_split : (test : Entry → Bool) (at : ℕ) (front back : List Entry) → logged_from test at (front ++ back) ≡ logged_from test at front ++ logged_from test (at + length front) back
logged_split test at [] back = ap (λ n. logged_from test n back) (omega arith)
logged_split test at (e ∷ es) back =
    let here : List Logged = cond (test e) (logged at e ∷ []) [] in
    ap (λ (rest : List Logged). here ++ rest) (logged_split test (suc at) es back ∙ ap (λ n. logged_from test (suc at) es ++ logged_from test n back) (omega arith))
    ∙ sym (Rattle.std.proofs.lemmas.List.append_assoc here (logged_from test (suc at) es) (logged_from test (at + suc (length es)) back))

-- behind the last entry that touches it, the log of a core is whole
log_whole : (c n : ℕ) (h : List Entry) → n ≤ length h → after_last 0 (log_of c h) ≤ n → log_of c (take n h) ≡ log_of c h
log_whole c n h within behind =
    let front = take n h in let back = drop n h in
    let whole : log_of c h ≡ log_of c front ++ logged_from (touches c) (length front) back = ap (log_of c) (sym (take-append-drop n h)) ∙ logged_split (touches c) 0 front back ∙ ap (λ k. log_of c front ++ logged_from (touches c) k back) (omega arith) in
    let count : length front ≡ n = omega (arith, length-take n h) in
    let ends : after_last 0 (log_of c h) ≡ after_last (after_last 0 (log_of c front)) (logged_from (touches c) (length front) back) =
    ap (after_last 0) whole ∙ Rattle.std.proofs.lemmas.List.Sums.fold-append (λ _ (l : Logged). suc l.at) 0 (log_of c front) (logged_from (touches c) (length front) back) in
    ⊎_elim
    (λ (none : logged_from (touches c) (length front) back ≡ []). sym (whole ∙ (ap (λ (list : List Logged). log_of c front ++ list) none ∙ append-nil (log_of c front))))
    (λ (later : length front < after_last (after_last 0 (log_of c front)) (logged_from (touches c) (length front) back)). absurd (omega arith))
    (later_or_none (touches c) (length front) (after_last 0 (log_of c front)) back)

module _ (p : Meaning) (plan : Plan) (h : List Entry) where
  -- so the core is the same there as now
  same_there : (c n : ℕ) → n ≤ length h → after_last 0 (log_of c h) ≤ n → after p plan (take n h) c ≡ after p plan h c
  same_there c n within behind =
      let last : ℕ = after_last 0 (log_of c h) in
      let first : List Entry → ℕ → _ = λ g k. after p plan (take k g) c in
      quiet p plan (take n h) c
      ∙ (ap (λ (log : List Logged). after p plan (take (after_last 0 log) (take n h)) c) (log_whole c n h within behind)
      ∙ (ap (λ (g : List Entry). after p plan g c) (take-take last n h behind)
      ∙ sym (quiet p plan h c)))

  -- the read of one core
  pub read_now : (a c : ℕ) → c < plan.cores → slice_index (reads_now p plan h a) c ≡ max (round_start h) (after_last 0 (log_of c h))
  unfolding scene_of
  read_now a c there =
      get_or-map-range_with_len (λ k. max (round_start h) (touched_from k 0 0 h)) 0 plan.cores c c 0 there (omega arith)
      ∙ ap (max (round_start h)) (touched_is c 0 0 h)

  -- what is read of it
  pub value_now : (a c : ℕ) → c < plan.cores → values_now p plan h a c ≡ values_of plan c (seen_of (after p plan h c))
  unfolding scene_of
  value_now a c there =
      let n : ℕ = max (round_start h) (after_last 0 (log_of c h)) in
      let within : n ≤ length h = omega (arith, start_within h, last_within (touches c) h) in
      ap (λ k. values_of plan c (seen_of (after p plan (take k h) c))) (read_now a c there)
      ∙ ap (λ core. values_of plan c (seen_of core)) (same_there c n within (omega arith))
