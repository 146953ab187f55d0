-- Cores that show those of the model: one of them changed, and an entry more in their logs.
use Rattle.std.proofs.Common.{◌≡◌, ◌≢◌, ℕ, suc, ◌+◌, ◌<◌, ◌≤◌, eqb, Bool, cond, true, false, List, [], ◌∷◌, ◌++◌, All, length, get_or, set, slice_get, Some, get_or-set_same, get_or-set_other, refl, sym, ap, ap₂, ◌∙◌, subst, arith}
use Rattle.std.proofs.Math.ListN.{length-set}
use Rattle.std.proofs.lemmas.Bool.Decides.{nat_tests}
use Rattle.std.proofs.lemmas.List.{append-nil, length_push}
use Rattle.std.proofs.lemmas.List.FromFn.{fill_by_all, get_or-map-range_with_len, length-map-range_with_len}
use Rattle.std.proofs.lemmas.Option.{get_or_from_slice_get}
use Rattle.sched_base.specs.declared.limits.TheConstants.{MAX_ENTRIES}
use Rattle.policy_tree.specs.Meaning.{Meaning}
use Rattle.round_model.specs.declared.entry.Entry.{Entry}
use Rattle.round_model.specs.declared.entry.Entry.TheVariants as entry
use Rattle.round_model.specs.declared.plan.Plan.{Plan}
use Rattle.round_model.specs.declared.state.ModelCore.{ModelCore}
use Rattle.round_model.specs.After.{after, moved, round_of}
use Rattle.round_model.specs.Updates.{updated}
use Rattle.round_model.specs.Cores.{Cores}
use Rattle.round_model.specs.Entries.{touches}
use Rattle.round_model.specs.Fits.{Fits}
use Rattle.round_model.specs.Kinds.{is_round}
use Rattle.round_model.proofs.Grows.{one_more}
use Rattle.round_model.proofs.Keeping.{some_at}
use Rattle.round_model.proofs.Longer.{start_of_round, start_stays}
use Rattle.core_state.specs.declared.logged.Logged.{Logged}
use Rattle.core_state.specs.Logs.{log_of, logged, logged_from, round_log}
use Rattle.core_state.specs.Views.{CoreView}
use Rattle.core_state.proofs.Logs.{log_grows}
use Rattle.core_state.proofs.Quiet.{last_within}
use Rattle.core_moves.specs.Code.Changes.{AreNoted, CanLog, HoldsAt, noted}
use Rattle.core_moves.specs.Cores.{AreCoresOf, CoresView, Shows, shown}

-- what stands in a place of a list
pub item_here : {X : Type 0} (xs : List X) (at : ℕ) (x : X) → at < length xs → x ≡ get_or xs at x → slice_get xs at ≡ Some x
item_here xs at x inside is = some_at xs at x inside ∙ ap Some (sym is)

module _ (p : Meaning) (plan : Plan) (h : List Entry) (m : Cores) where
  module _ (v : CoresView) (shows : Shows p plan h m v) where
    pub shown_count : length v.cores ≡ plan.cores
    shown_count = ap length shows.cores ∙ length-map-range_with_len (shown p plan h m) 0 plan.cores

    pub shown_item : (c : ℕ) (d : CoreView) → c < plan.cores → get_or v.cores c d ≡ shown p plan h m c
    shown_item c d there = ap (λ (list : List CoreView). get_or list c d) shows.cores ∙ get_or-map-range_with_len (shown p plan h m) 0 plan.cores c c d there (omega arith)

    pub shown_at : (c : ℕ) (y : CoreView) → c < plan.cores → slice_get v.cores c ≡ Some y → y ≡ shown p plan h m c
    shown_at c y there at = sym (get_or_from_slice_get v.cores c y y at) ∙ shown_item c y there

    pub shown_some : (c : ℕ) → c < plan.cores → slice_get v.cores c ≡ Some (shown p plan h m c)
    shown_some c there = item_here v.cores c (shown p plan h m c) (omega (arith, shown_count)) (sym (shown_item c (shown p plan h m c) there))

    -- what holds of the core of the model holds of the one that shows it
    pub holds_shown : (P : CoreView → Type 0) (c : ℕ) → c < plan.cores → P (shown p plan h m c) → HoldsAt v.cores c P
    holds_shown P c there holds y at = subst P (sym (shown_at c y there at)) holds

    pub all_shown : (P : CoreView → Type 0) → ((c : ℕ) → c < plan.cores → P (shown p plan h m c)) → All P v.cores
    all_shown P each k d inside =
        let below : k < plan.cores = omega (arith, shown_count) in
        subst P (sym (shown_item k d below)) (each k below)

  -- one core changed
  pub shown_put : (old new : CoresView) → Shows p plan h m old → (c : ℕ) → c < plan.cores → (y z : CoreView) → y ≡ get_or old.cores c y
      → (change : ModelCore → ModelCore) → z ≡ record y { core = change y.core } → new ≡ record old { cores = set old.cores c z }
      → Shows p plan h (updated m c (change (m c))) new
  shown_put old new shows c there y z here change is put =
      let was : y ≡ shown p plan h m c = here ∙ shown_item old shows c y there in
      let x : ModelCore = change (m c) in
      let now : z ≡ shown p plan h (λ k. x) c = is ∙ ap (λ (v : CoreView). let u : CoreView = record v { core = change v.core } in u) was in
      let count = shown_count old shows in
      subst (Shows p plan h (updated m c x)) (sym put) (record {
        cores = fill_by_all (shown p plan h (updated m c x)) (set old.cores c z) plan.cores z (length-set old.cores c z ∙ count) (λ k inside.
            elim (eqb c k) as (λ b. eqb c k ≡ b → get_or (set old.cores c z) k z ≡ shown p plan h (λ j. cond b x (m k)) k) [
              | true ↦ λ e. let same : k ≡ c = grind (arith, nat_tests) in
                  ap (λ j. get_or (set old.cores c z) j z) same ∙ (get_or-set_same old.cores c z z (omega arith) ∙ (now ∙ ap (λ j. shown p plan h (λ i. x) j) (sym same)))
              | false ↦ λ e. let other : k ≢ c = grind (arith, nat_tests) in
                  get_or-set_other old.cores c k z z other ∙ shown_item old shows k z inside
            ] refl);
        rounds = shows.rounds;
        entries = shows.entries;
        start = shows.start;
        rounds_room = shows.rounds_room;
        limits = shows.limits;
      })

  -- the same cores by another name
  pub shown_same : (k : Cores) (v : CoresView) → ((c : ℕ) → c < plan.cores → m c ≡ k c) → Shows p plan h m v → Shows p plan h k v
  shown_same k v same shows = record {
    cores = fill_by_all (shown p plan h k) v.cores plan.cores (shown p plan h k 0) (shown_count v shows) (λ c inside.
        shown_item v shows c (shown p plan h k 0) inside ∙ ap (λ (core : ModelCore). shown p plan h (λ j. core) c) (same c inside));
    rounds = shows.rounds;
    entries = shows.entries;
    start = shows.start;
    rounds_room = shows.rounds_room;
    limits = shows.limits;
  }

  -- one core with the entry in its log, where the entry touches it
  pub noted_shown : (e : Entry) (c : ℕ) → noted (length h) e c (shown p plan h m c) ≡ shown p plan (h ++ e ∷ []) m c
  noted_shown e c =
      let with : List Logged → CoreView = λ log. record { core = m c; log = log; order = p.elect; room = length plan.threads; blocked_room = length plan.threads; log_room = plan.limit } in
      let log : List Logged = log_of c h in let last : List Logged = logged (length h) e ∷ [] in
      chosen with log last (touches c e) ∙ ap with (sym (log_grows (touches c) h e))
    where
      chosen : (with : List Logged → CoreView) (log last : List Logged) (b : Bool) → cond b (with (log ++ last)) (with log) ≡ with (log ++ cond b last [])
      chosen with log last true = refl
      chosen with log last false = ap with (sym (append-nil log))

  -- all of them
  pub shown_noted : (e : Entry) → is_round e ≡ false → (old new : CoresView) (cores : List CoreView) → Shows p plan h m old
      → AreNoted old.entries e old.cores cores → new ≡ record old { cores = cores; entries = old.entries + 1 } → Shows p plan (h ++ e ∷ []) m new
  shown_noted e kind old new cores shows are is =
      subst (Shows p plan (h ++ e ∷ []) m) (sym is) (record {
        cores = fill_by_all (shown p plan (h ++ e ∷ []) m) cores plan.cores (shown p plan h m 0) (are.len ∙ shown_count old shows) (λ c inside.
            get_or_from_slice_get cores c (noted old.entries e c (shown p plan h m c)) (shown p plan h m 0) (are.each c (shown p plan h m c) (shown_some old shows c inside))
            ∙ (ap (λ at. noted at e c (shown p plan h m c)) shows.entries ∙ noted_shown e c));
        rounds = shows.rounds ∙ (sym (append-nil (round_log h)) ∙ (ap (λ b. round_log h ++ cond b (logged (length h) e ∷ []) []) (sym kind) ∙ sym (log_grows is_round h e)));
        entries = ap (λ n. n + 1) shows.entries ∙ sym (length_push h e);
        start = shows.start ∙ sym (start_stays h e kind);
        rounds_room = shows.rounds_room;
        limits = shows.limits;
      })

  -- as a round begins
  pub shown_begun : (number : ℕ) (old new : CoresView) → Shows p plan h m old
      → new ≡ record old { rounds = old.rounds ++ logged old.entries (entry.Round number) ∷ []; entries = old.entries + 1; start = old.entries + 1 }
      → Shows p plan (h ++ entry.Round number ∷ []) m new
  unfolding touches
  shown_begun number old new shows is =
      let e : Entry = entry.Round number in
      subst (Shows p plan (h ++ e ∷ []) m) (sym is) (record {
        cores = fill_by_all (shown p plan (h ++ e ∷ []) m) old.cores plan.cores (shown p plan h m 0) (shown_count old shows) (λ c inside.
            shown_item old shows c (shown p plan h m 0) inside ∙ noted_shown e c);
        rounds = ap₂ (λ (log : List Logged) at. log ++ logged at e ∷ []) shows.rounds shows.entries ∙ sym (log_grows is_round h e);
        entries = ap (λ n. n + 1) shows.entries ∙ sym (length_push h e);
        start = ap (λ n. n + 1) shows.entries ∙ sym (start_of_round h e refl);
        rounds_room = shows.rounds_room;
        limits = shows.limits;
      })

-- a log is no longer than the history
pub log_within : (test : Entry → Bool) (at : ℕ) (h : List Entry) → length (logged_from test at h) ≤ length h
log_within test at [] = omega arith
log_within test at (e ∷ es) =
    let rest = log_within test (suc at) es in
    elim (test e) as (λ b. length (cond b (logged at e ∷ []) [] ++ logged_from test (suc at) es) ≤ suc (length es)) [
      | true ↦ omega arith
      | false ↦ omega arith
    ]

-- each log has room for the next entry
pub can_log : (p : Meaning) (plan : Plan) (h : List Entry) (m : Cores) (v : CoresView) → Shows p plan h m v → length h < plan.limit → All (CanLog v.entries) v.cores
can_log p plan h m v shows room =
    all_shown p plan h m v shows (CanLog v.entries) (λ c there. record {
      room = let few = log_within (touches c) 0 h in omega arith;
      later = let last = last_within (touches c) h in let at = shows.entries in omega arith;
    })

-- the next entry has a position
pub entries_fit : (p : Meaning) (plan : Plan) (h : List Entry) (m : Cores) (v : CoresView) → Shows p plan h m v → length h < plan.limit → v.entries < MAX_ENTRIES
entries_fit p plan h m v shows room = let at = shows.entries in let few = shows.limits.few_entries in omega arith

-- the cores with the entry more are those of the history with it
pub shown_after : (p : Meaning) (plan : Plan) (h : List Entry) (e : Entry) (m : Cores) (v : CoresView) → ((c : ℕ) → m c ≡ moved p plan (round_of h) e (after p plan h) c)
    → Shows p plan (h ++ e ∷ []) m v → AreCoresOf p plan (h ++ e ∷ []) v
shown_after p plan h e m v same shows =
    shown_same p plan (h ++ e ∷ []) m (after p plan (h ++ e ∷ [])) v (λ c inside. same c ∙ sym (ap (λ (k : Cores). k c) (one_more p plan h e))) shows

pub rounds_fit : (p : Meaning) (plan : Plan) (h : List Entry) (m : Cores) (v : CoresView) → Shows p plan h m v → length h < plan.limit → length v.rounds < v.rounds_room
rounds_fit p plan h m v shows room =
    let few = log_within is_round 0 h in let rounds = ap length shows.rounds in let all = shows.rounds_room in omega arith
