-- Entries and logs by place, and where a history leaves a core as it is.
use Rattle.std.proofs.Common.{◌≡◌, ◌≢◌, ℕ, zero, suc, ◌+◌, ◌<◌, ◌≤◌, ◌⊎◌, Bool, true, false, cond, List, [], ◌∷◌, ◌++◌, drop, filter, length, map, take, inl, inr, refl, sym, ap, ◌∙◌, subst, ⊎_elim, arith, eq-eqb, ne_eqb, take_all, length-drop, length-append}
use Rattle.std.proofs.Math.Seq.{drop-append-add}
use Rattle.std.proofs.lemmas.List.{append-nil, drop-append-le, take-append-le}
use Rattle.std.proofs.lemmas.List.Sums.{fold_push}
use mathlib.Core.Logic.{dite}
use mathlib.Core.Option.{some, some-ne-none, some-injective}
use native.Mathlib.Decide.{ℕ_discrete}
use lib.ListN.{get_elem?}
use Rattle.sched_base.specs.declared.limits.TheConstants.{MAX_LOAD, MAX_THREADS}
use Rattle.policy_tree.specs.Meaning.{Meaning}
use Rattle.policy_eval.specs.Obligations.{MeetsHandlerObligations}
use Rattle.policy_eval.proofs.Wide.{LoadsFit-bound}
use Rattle.round_model.specs.declared.entry.Entry.{Entry}
use Rattle.round_model.specs.declared.plan.Plan.{Plan}
use Rattle.round_model.specs.After.{after}
use Rattle.round_model.specs.Cores.{seen_of}
use Rattle.round_model.specs.Entries.{acts, touches}
use Rattle.round_model.specs.Fits.{Fits}
use Rattle.round_model.specs.Kinds.{is_round}
use Rattle.round_model.specs.Legal.{Legal}
use Rattle.round_model.specs.Reads.{round_start}
use Rattle.round_model.specs.Scenes.{own_entries}
use Rattle.round_model.proofs.Between.{same_core}
use Rattle.round_model.proofs.Bounded.{bounds_law}
use Rattle.round_model.proofs.Grows.{at_end, legal_prefix}
use Rattle.round_model.proofs.Longer.{start_of_round, start_stays, start_within}
use Rattle.core_state.specs.declared.logged.Logged.{Logged}
use Rattle.core_state.specs.Logs.{after_last, log_of, logged, logged_from}
use Rattle.core_state.proofs.Logs.{log_grows, logged_from-push}
use Rattle.core_state.proofs.Quiet.{last_within}
use Rattle.core_table.specs.Logs.{NonePass, log_at, own_log, stands_in}
use Rattle.core_table.specs.Views.{version_of_log}
use Rattle.core_table.specs.Told.{Each}

pub bool_cases : (b : Bool) → (b ≡ true) ⊎ (b ≡ false)
bool_cases true = inl refl
bool_cases false = inr refl

-- Items by place.
pub at_less : {A : Type 0} (l : List A) (k : ℕ) (x : A) → get_elem? l k ≡ some x → k < length l
at_less [] k x is = absurd (some-ne-none x (sym is))
at_less (y ∷ ys) zero x is = omega arith
at_less (y ∷ ys) (suc k) x is = let rest = at_less ys k x is in omega arith

pub entry_at : {A : Type 0} (l : List A) (k : ℕ) → k < length l → (x : A) × (get_elem? l k ≡ some x)
entry_at [] k low = absurd (omega arith)
entry_at (x ∷ xs) zero low = (x, refl)
entry_at (x ∷ xs) (suc k) low = entry_at xs k (omega arith)

-- the first entries, with the next
pub entry_more : {A : Type 0} (h : List A) (k : ℕ) (e : A) → get_elem? h k ≡ some e → take (suc k) h ≡ take k h ++ e ∷ []
entry_more [] k e is = absurd (some-ne-none e (sym is))
entry_more (x ∷ xs) zero e is = ap (λ y. y ∷ []) (some-injective x e is)
entry_more (x ∷ xs) (suc k) e is = ap (λ l. x ∷ l) (entry_more xs k e is)

pub early : {A : Type 0} (h : List A) (e : A) (k : ℕ) → k ≤ length h → take k (h ++ e ∷ []) ≡ take k h
early h e k low = take-append-le k h (e ∷ []) low

pub longer : {A : Type 0} (h : List A) (e : A) → length (h ++ e ∷ []) ≡ length h + 1
longer h e = length-append h (e ∷ [])

-- what holds at the beginning, and with each entry more, holds of every history
pub by_last : {A : Type 0} (P : List A → Type 0) → P [] → ((h : List A) (e : A) → P h → P (h ++ e ∷ [])) → (h : List A) → P h
by_last {A} P base more h = subst P (take_all (length h) h (omega arith)) (go (length h) (omega arith))
  where
    go : (k : ℕ) → k ≤ length h → P (take k h)
    go zero low = base
    go (suc k) low = let t = entry_at h k (omega arith) in subst P (sym (entry_more h k t.0 t.1)) (more (take k h) t.0 (go k (omega arith)))

-- The position behind the last entry of a log.
last_log : (test : Entry → Bool) (h : List Entry) (e : Entry) (b : Bool) → test e ≡ b
    → after_last 0 (logged_from test 0 (h ++ e ∷ [])) ≡ cond b (suc (length h)) (after_last 0 (logged_from test 0 h))
last_log test h e true is =
    ap (after_last 0) (log_grows test h e ∙ ap (λ b. logged_from test 0 h ++ cond b (logged (length h) e ∷ []) []) is)
    ∙ fold_push (λ (_ : ℕ) (l : Logged). suc l.at) 0 (logged_from test 0 h) (logged (length h) e)
last_log test h e false is =
    ap (after_last 0) (log_grows test h e ∙ (ap (λ b. logged_from test 0 h ++ cond b (logged (length h) e ∷ []) []) is ∙ append-nil (logged_from test 0 h)))

pub last_grows : (test : Entry → Bool) (h : List Entry) (e : Entry) → after_last 0 (logged_from test 0 h) ≤ after_last 0 (logged_from test 0 (h ++ e ∷ []))
last_grows test h e = let within = last_within test h in ⊎_elim
    (λ (yes : test e ≡ true). let is = last_log test h e true yes in omega arith)
    (λ (no : test e ≡ false). let is = last_log test h e false no in omega arith)
    (bool_cases (test e))

-- behind it no entry passes
pub none_later : (test : Entry → Bool) (h : List Entry) → NonePass test h (after_last 0 (logged_from test 0 h)) (length h)
none_later test = by_last (λ h. NonePass test h (after_last 0 (logged_from test 0 h)) (length h)) (λ k e low high is. absurd (omega arith))
    (λ h e rest. let long = longer h e in let within = last_within test h in ⊎_elim
    (λ (yes : test e ≡ true). let last = last_log test h e true yes in λ k x low high is. absurd (omega arith))
    (λ (no : test e ≡ false). let last = last_log test h e false no in λ k x low high is. ⊎_elim
    (λ (old : (k < length h) × (get_elem? h k ≡ some x)). rest k x (omega arith) old.0 old.1)
    (λ (new : (k ≡ length h) × (e ≡ x)). ap test (sym new.1) ∙ no)
    (at_end h e x k is))
    (bool_cases (test e)))

pub none_longer : (test : Entry → Bool) (h : List Entry) (e : Entry) (first behind : ℕ) → behind ≤ length h → NonePass test h first behind → NonePass test (h ++ e ∷ []) first behind
none_longer test h e first behind within none k x low high is = ⊎_elim
    (λ (old : (k < length h) × (get_elem? h k ≡ some x)). none k x low high old.1)
    (λ (new : (k ≡ length h) × (e ≡ x)). let at = new.0 in absurd (omega arith))
    (at_end h e x k is)

module _ (p : Meaning) (plan : Plan) (c : ℕ) (h : List Entry) where
  -- from the last entry of its log on it stays
  pub settled : (q : ℕ) → after_last 0 (log_of c h) ≤ q → q ≤ length h → after p plan (take q h) c ≡ after p plan h c
  settled q late within =
      sym (same_core p plan h c q (length h) within (omega arith) (λ k e low high is. none_later (touches c) h k e (omega arith) high is))
      ∙ ap (λ g. after p plan g c) (take_all (length h) h (omega arith))

-- Which log is that of a core.
pub stands_core : (n c : ℕ) → c ≢ n → stands_in n c ≡ touches c
stands_core n c miss = ap (λ b e. cond b (is_round e) (touches c e)) (ne_eqb c n miss)

pub stands_rounds : (n c : ℕ) → c ≡ n → stands_in n c ≡ is_round
stands_rounds n c hit = ap (λ b e. cond b (is_round e) (touches c e)) (eq-eqb c n hit)

pub log_core : (n c : ℕ) (h : List Entry) → c ≢ n → log_at n c h ≡ log_of c h
log_core n c h miss = ap (λ test. logged_from test 0 h) (stands_core n c miss)

pub version_core : (n c : ℕ) (log : List Logged) → c ≢ n → version_of_log n c log ≡ after_last 0 log
version_core n c log miss = ap (λ b. cond b 0 (after_last 0 log)) (ne_eqb c n miss)

pub version_rounds : (n c : ℕ) (log : List Logged) → c ≡ n → version_of_log n c log ≡ 0
version_rounds n c log hit = ap (λ b. cond b 0 (after_last 0 log)) (eq-eqb c n hit)

pub version_within : (n c : ℕ) (h : List Entry) → version_of_log n c (log_at n c h) ≤ length h
version_within n c h = dite (ℕ_discrete c n)
    (λ hit. let is = version_rounds n c (log_at n c h) hit in omega arith)
    (λ miss. let is = version_core n c (log_at n c h) miss in let within = last_within (stands_in n c) h in omega arith)

-- The version of a beginning of the history.
last_from : (test : Entry → Bool) (at start : ℕ) (es : List Entry) → start ≤ at → start ≤ after_last start (logged_from test at es)
last_from test at start [] low = omega arith
last_from test at start (e ∷ es) low = elim (test e) as (λ b. start ≤ after_last start (cond b (logged at e ∷ []) [] ++ logged_from test (suc at) es)) [
  | true ↦ let rest = last_from test (suc at) (suc at) es (omega arith) in omega arith
  | false ↦ let rest = last_from test (suc at) start es (omega arith) in omega arith
]

last_take : (test : Entry → Bool) (at start q : ℕ) (es : List Entry) → start ≤ at → after_last start (logged_from test at (take q es)) ≤ after_last start (logged_from test at es)
last_take test at start zero es low = last_from test at start es low
last_take test at start (suc q) [] low = omega arith
last_take test at start (suc q) (e ∷ es) low = elim (test e) as (λ b. after_last start (cond b (logged at e ∷ []) [] ++ logged_from test (suc at) (take q es)) ≤ after_last start (cond b (logged at e ∷ []) [] ++ logged_from test (suc at) es)) [
  | true ↦ last_take test (suc at) (suc at) q es (omega arith)
  | false ↦ last_take test (suc at) start q es (omega arith)
]

-- a version that a beginning gives is at most that of the whole
pub prefix_low : (n c v : ℕ) (h : List Entry) → v ≡ version_of_log n c (log_at n c (take v h)) → v ≤ version_of_log n c (log_at n c h)
prefix_low n c v h is = dite (ℕ_discrete c n)
    (λ hit. let none = version_rounds n c (log_at n c (take v h)) hit in omega arith)
    (λ miss. let a = version_core n c (log_at n c (take v h)) miss in let b = version_core n c (log_at n c h) miss in let l = last_take (stands_in n c) 0 0 v h (omega arith) in omega arith)

pub prefix_within : (n c v : ℕ) (h : List Entry) → v ≡ version_of_log n c (log_at n c (take v h)) → v ≤ length h
prefix_within n c v h is = let a = prefix_low n c v h is in let b = version_within n c h in omega arith

-- the version of the whole is one that a beginning gives
whole_last : (test : Entry → Bool) (h : List Entry) → after_last 0 (logged_from test 0 h) ≡ after_last 0 (logged_from test 0 (take (after_last 0 (logged_from test 0 h)) h))
whole_last test = by_last (λ h. after_last 0 (logged_from test 0 h) ≡ after_last 0 (logged_from test 0 (take (after_last 0 (logged_from test 0 h)) h))) refl
    (λ h e rest. let long = longer h e in let within = last_within test h in ⊎_elim
    (λ (yes : test e ≡ true). let last = last_log test h e true yes in
    ap (λ g. after_last 0 (logged_from test 0 g)) (sym (take_all (after_last 0 (logged_from test 0 (h ++ e ∷ []))) (h ++ e ∷ []) (omega arith))))
    (λ (no : test e ≡ false). let last = last_log test h e false no in
    last ∙ (rest ∙ ap (λ g. after_last 0 (logged_from test 0 g)) (sym (early h e (after_last 0 (logged_from test 0 h)) within) ∙ ap (λ k. take k (h ++ e ∷ [])) (sym last))))
    (bool_cases (test e)))

pub prefix_whole : (n c : ℕ) (h : List Entry) → version_of_log n c (log_at n c h) ≡ version_of_log n c (log_at n c (take (version_of_log n c (log_at n c h)) h))
prefix_whole n c h = dite (ℕ_discrete c n)
    (λ hit. version_rounds n c (log_at n c h) hit ∙ sym (version_rounds n c (log_at n c (take (version_of_log n c (log_at n c h)) h)) hit))
    (λ miss. let is = version_core n c (log_at n c h) miss in
    is ∙ (whole_last (stands_in n c) h
    ∙ (ap (λ k. after_last 0 (log_at n c (take k h))) (sym is)
    ∙ sym (version_core n c (log_at n c (take (version_of_log n c (log_at n c h)) h)) miss))))

-- A log is short, and its positions are those of the history.
pub log_short : (test : Entry → Bool) (at : ℕ) (es : List Entry) → length (logged_from test at es) ≤ length es
log_short test at [] = omega arith
log_short test at (e ∷ es) = let rest = log_short test (suc at) es in elim (test e) as (λ b. length (cond b (logged at e ∷ []) [] ++ logged_from test (suc at) es) ≤ suc (length es)) [
  | true ↦ omega arith
  | false ↦ omega arith
]

below_more : (at : ℕ) (e : Entry) (es : List Entry) (log : List Logged) → Each (λ (l : Logged). l.at < suc at + length es) log → Each (λ (l : Logged). l.at < at + suc (length es)) (logged at e ∷ log)
below_more at e es log rest zero x is = let same = ap (λ (l : Logged). l.at) (some-injective (logged at e) x is) in omega arith
below_more at e es log rest (suc i) x is = let t = rest i x is in omega arith

pub log_below : (test : Entry → Bool) (at : ℕ) (es : List Entry) → Each (λ (l : Logged). l.at < at + length es) (logged_from test at es)
log_below test at [] = λ i x is. absurd (some-ne-none x (sym is))
log_below test at (e ∷ es) = let rest = log_below test (suc at) es in elim (test e) as (λ b. Each (λ (l : Logged). l.at < at + suc (length es)) (cond b (logged at e ∷ []) [] ++ logged_from test (suc at) es)) [
  | true ↦ below_more at e es (logged_from test (suc at) es) rest
  | false ↦ (λ i x is. let t = rest i x is in omega arith)
]

-- A core's own entries of the open round.
pub own_grows : (a : ℕ) (h : List Entry) (e : Entry) → is_round e ≡ false → own_log a (h ++ e ∷ []) ≡ own_log a h ++ cond (acts a e) (logged (length h) e ∷ []) []
own_grows a h e not = let s : ℕ = round_start h in let low : s ≤ length h = start_within h in let rest = length-drop s h in
    (λ i. logged_from (acts a) (start_stays h e not i) (drop (start_stays h e not i) (h ++ e ∷ [])))
    ∙ (ap (logged_from (acts a) s) (drop-append-le s h (e ∷ []) low)
    ∙ (logged_from-push (acts a) s (drop s h) e
    ∙ ap (λ k. own_log a h ++ cond (acts a e) (logged k e ∷ []) []) (let is : s + length (drop s h) ≡ length h = omega arith in is)))

pub own_begins : (a : ℕ) (h : List Entry) (e : Entry) → is_round e ≡ true → own_log a (h ++ e ∷ []) ≡ []
own_begins a h e is =
    (λ i. logged_from (acts a) (start_of_round h e is i) (drop (start_of_round h e is i) (h ++ e ∷ [])))
    ∙ ap (logged_from (acts a) (length h + 1)) (drop-append-add h (e ∷ []) 1)

entries_of : (test : Entry → Bool) (at : ℕ) (es : List Entry) → map (λ (l : Logged). l.entry) (logged_from test at es) ≡ filter test es
entries_of test at [] = refl
entries_of test at (e ∷ es) = elim (test e) as (λ b. map (λ (l : Logged). l.entry) (cond b (logged at e ∷ []) [] ++ logged_from test (suc at) es) ≡ cond b (e ∷ filter test es) (filter test es)) [
  | true ↦ ap (λ l. e ∷ l) (entries_of test (suc at) es)
  | false ↦ entries_of test (suc at) es
]

pub own_is : (a : ℕ) (h : List Entry) → map (λ (l : Logged). l.entry) (own_log a h) ≡ own_entries h a
own_is a h = entries_of (acts a) (round_start h) (drop (round_start h) h)

pub own_below : (a : ℕ) (h : List Entry) → Each (λ (l : Logged). l.at < length h) (own_log a h)
own_below a h i x is = let below = log_below (acts a) (round_start h) (drop (round_start h) h) i x is in let s = start_within h in let rest = length-drop (round_start h) h in omega arith

-- What a word is to say fits it.
pub loads_fit : (p : Meaning) (plan : Plan) (h : List Entry) (c q : ℕ) → Fits p plan → MeetsHandlerObligations p → Legal p plan h → c < plan.cores
    → ((seen_of (after p plan (take q h) c)).nr ≤ MAX_THREADS) × ((seen_of (after p plan (take q h) c)).load ≤ MAX_LOAD)
loads_fit p plan h c q fits handlers legal there =
    let g : List Entry = take q h in let loads = ((bounds_law p plan g fits handlers (legal_prefix p plan h q legal)).bounds.each c there).loads in
    (loads.few, LoadsFit-bound p fits.policy (seen_of (after p plan g c)).nr (seen_of (after p plan g c)).load loads)
