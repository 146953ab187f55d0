-- All logs at once: one of them has each entry, and so they tell the history.
use Rattle.std.proofs.Common.{◌≡◌, ℕ, zero, suc, ◌+◌, ◌<◌, ◌≤◌, ◌||◌, Bool, true, false, cond, List, [], ◌∷◌, length, eqb, slice_get, slice_set, get_or, Option, None, Some, refl, sym, ap, ap₂, ◌∙◌, eq-eqb, arith}
use Rattle.std.specs.Prelude.{replicate, slice_index, ◌==◌}
use Rattle.std.specs.Option.{option_or}
use Rattle.std.proofs.lemmas.Option.{get_or_from_slice_get, slice_get_within}
use Rattle.std.proofs.lemmas.List.{get_or-set_other, get_or-set_same, length-set}
use Rattle.sched_base.specs.declared.limits.TheConstants.{MAX_CORES}
use Rattle.round_model.specs.declared.entry.Entry.{Entry}
use Rattle.round_model.specs.declared.entry.Entry.TheVariants as entry
use Rattle.round_model.specs.Entries.{touches}
use Rattle.round_model.specs.Kinds.{is_round}
use Rattle.core_state.specs.declared.logged.Logged.{Logged}
use Rattle.core_state.specs.Logs.{AreLogsOfOne, LogsOf, logged_from}
use Rattle.core_state.specs.Views.{ClosedView, CoreView}
use Rattle.history_merge.specs.Code.Moves.{entry_there, moved}
use Rattle.history_merge.specs.Cursors.{CursorsView, StandAt, passed}
use Rattle.history_merge.specs.Laws.{OneHistoryLaw}
use Rattle.history_merge.proofs.Steps.{few_passed, found_in, passed_in, passed_none, passing}

-- a round begins, or one of the first so many cores is touched
abbrev pub seen : ℕ → Entry → Bool
seen zero e = is_round e
seen (suc c) e = touches c e || seen c e

pub seen_none : (o : Option Entry) → passing (seen 0) o ≡ passing is_round o
seen_none None = refl
seen_none (Some e) = refl

pub seen_more : (c : ℕ) (o : Option Entry) → option_or (passing (touches c) o) (passing (seen c) o) ≡ passing (seen (suc c)) o
seen_more c None = refl
seen_more c (Some e) = elim (touches c e) as (λ b. option_or (cond b (Some e) None) (cond (seen c e) (Some e) None) ≡ cond (b || seen c e) (Some e) None) [
  | true ↦ refl
  | false ↦ refl
]

-- whose core an entry touches, where it is no beginning of a round
pub touched_by : (e : Entry) → is_round e ≡ false → (c : ℕ) × (touches c e ≡ true)
unfolding touches
touched_by (entry.Round number) plain = absurd (cc)
touched_by (entry.Enter thread by at reads) plain = (at, eq-eqb at at refl)
touched_by (entry.Wake thread by at reads) plain = (by, ap (λ b. b || (at == by)) (eq-eqb by by refl))
touched_by (entry.Work by what) plain = (by, eq-eqb by by refl)
touched_by (entry.Steal by from threads reads) plain = (by, ap (λ b. b || (from == by)) (eq-eqb by by refl))
touched_by (entry.Fail by from reads) plain = (by, ap (λ b. b || (from == by)) (eq-eqb by by refl))
touched_by (entry.Pass by reads) plain = (by, eq-eqb by by refl)

or_true : (b c : Bool) → c ≡ true → (b || c) ≡ true
or_true true c is = refl
or_true false c is = is

seen_round : (n : ℕ) (e : Entry) → is_round e ≡ true → seen n e ≡ true
seen_round zero e is = is
seen_round (suc n) e is = or_true (touches n e) (seen n e) (seen_round n e is)

seen_touched : (n c : ℕ) (e : Entry) → c < n → touches c e ≡ true → seen n e ≡ true
seen_touched zero c e less is = absurd (omega arith)
seen_touched (suc n) c e less is =
    elim (eqb c n) as (λ b. eqb c n ≡ b → (touches n e || seen n e) ≡ true) [
      | true ↦ λ same. let one : c ≡ n = grind arith in ap (λ b. b || seen n e) (ap (λ k. touches k e) (sym one) ∙ is)
      | false ↦ λ other. or_true (touches n e) (seen n e) (seen_touched n c e (grind arith) is)
    ] refl

module _ (closed : ClosedView) where
  -- each entry of the history is in one of the logs
  pub seen_all : (h : List Entry) → LogsOf h closed → (n : ℕ) (e : Entry) → slice_get h n ≡ Some e → seen (length closed.cores) e ≡ true
  seen_all h logs n e there =
      elim (is_round e) as (λ b. is_round e ≡ b → seen (length closed.cores) e ≡ true) [
        | true ↦ λ is. seen_round (length closed.cores) e is
        | false ↦ λ plain. let own = touched_by e plain in
            seen_touched (length closed.cores) own.0 e
            (logs.there n e (slice_get_within h n e there) own.0 (ap (touches own.0) (get_or_from_slice_get h n e e there) ∙ own.1)) own.1
      ] refl

  pub passing_all : (h : List Entry) → LogsOf h closed → (n : ℕ) → passing (seen (length closed.cores)) (slice_get h n) ≡ slice_get h n
  passing_all h logs n = of (slice_get h n) (seen_all h logs n)
    where
      of : (o : Option Entry) → ((e : Entry) → o ≡ Some e → seen (length closed.cores) e ≡ true) → passing (seen (length closed.cores)) o ≡ o
      of None all = refl
      of (Some e) all = ap (λ b. cond b (Some e) None) (all e refl)

  -- the core of that number
  pub core_of : (cores : List CoreView) (c : ℕ) → c < length cores → (y : CoreView) × (slice_get cores c ≡ Some y)
  core_of [] c less = absurd (omega arith)
  core_of (y ∷ ys) zero less = (y, refl)
  core_of (y ∷ ys) (suc c) less = core_of ys c (omega arith)

  -- two histories with one log have the same entries of it
  same_passing : (test : Entry → Bool) (h g : List Entry) → logged_from test 0 h ≡ logged_from test 0 g → (n : ℕ)
      → passing test (slice_get h n) ≡ passing test (slice_get g n)
  same_passing test h g same n =
      sym (found_in test n h) ∙ (ap (λ (log : List Logged). entry_there n (slice_get log (passed n log))) same ∙ found_in test n g)

  same_seen : (h g : List Entry) → LogsOf h closed → LogsOf g closed → (n k : ℕ) → k ≤ length closed.cores
      → passing (seen k) (slice_get h n) ≡ passing (seen k) (slice_get g n)
  same_seen h g one other n zero few =
      seen_none (slice_get h n) ∙ (same_passing is_round h g (sym one.rounds ∙ other.rounds) n ∙ sym (seen_none (slice_get g n)))
  same_seen h g one other n (suc k) few =
      let y = core_of closed.cores k (omega arith) in
      sym (seen_more k (slice_get h n))
      ∙ (ap₂ option_or (same_passing (touches k) h g (sym (one.cores k y.0 y.1) ∙ other.cores k y.0 y.1) n) (same_seen h g one other n k (omega arith))
      ∙ seen_more k (slice_get g n))

  pub same_entries : (h g : List Entry) → LogsOf h closed → LogsOf g closed → (n : ℕ) → slice_get h n ≡ slice_get g n
  same_entries h g one other n =
      sym (passing_all h one n) ∙ (same_seen h g one other n (length closed.cores) (omega arith) ∙ passing_all g other n)

-- lists with the same items are the same
same_items : (h g : List Entry) → ((n : ℕ) → slice_get h n ≡ slice_get g n) → h ≡ g
same_items [] [] same = refl
same_items [] (x ∷ g) same = let first : None ≡ Some x = same 0 in absurd (cc)
same_items (x ∷ h) [] same = let first : Some x ≡ None = same 0 in absurd (cc)
same_items (x ∷ h) (y ∷ g) same =
    let first : Some x ≡ Some y = same 0 in let one : x ≡ y = cc in
    ap₂ (λ (e : Entry) (es : List Entry). e ∷ es) one (same_items h g (λ n. same (suc n)))

pub one_history : OneHistoryLaw
one_history closed one other first second = same_items one other (same_entries closed one other first second)

-- where the walk over the cores stands at a position: the first so many cores' cursors have passed its entry
pub record IsWalked (closed : ClosedView) (at core : ℕ) (cursors : CursorsView) (found : Option Entry) : Type 0 where
  pub entry : (h : List Entry) → LogsOf h closed → found ≡ passing (seen core) (slice_get h at)
  pub before : (c : ℕ) (y : CoreView) → c < core → slice_get closed.cores c ≡ Some y → slice_index cursors.cores c ≡ passed (at + 1) y.log
  pub behind : (c : ℕ) (y : CoreView) → core ≤ c → slice_get closed.cores c ≡ Some y → slice_index cursors.cores c ≡ passed at y.log
  pub rounds : cursors.rounds ≡ passed (at + 1) closed.rounds
  pub room : length cursors.cores ≡ MAX_CORES

module _ (closed : ClosedView) (at : ℕ) where
  -- a cursor that has passed what stands before the position, and then the entry there
  passes : (test : Entry → Bool) (h : List Entry) (log : List Logged) (cursor : ℕ) (next : Option Entry) → log ≡ logged_from test 0 h → cursor ≡ passed at log
      → next ≡ entry_there at (slice_get log cursor) → (next ≡ passing test (slice_get h at)) × (moved cursor next ≡ passed (at + 1) log)
  passes test h log cursor next is stands finds =
      let found : next ≡ passing test (slice_get h at) =
      finds ∙ (ap (λ k. entry_there at (slice_get log k)) stands ∙ (ap (λ (l : List Logged). entry_there at (slice_get l (passed at l))) is ∙ found_in test at h)) in
      (found, ap₂ moved (stands ∙ ap (passed at) is) found ∙ (sym (passed_in test at h) ∙ ap (passed (at + 1)) (sym is)))

  pub walk_begins : (old : CursorsView) (next : Option Entry) → AreLogsOfOne closed → StandAt closed at old → next ≡ entry_there at (slice_get closed.rounds old.rounds)
      → IsWalked closed at 0 (record old { rounds = moved old.rounds next }) next
  walk_begins old next one stand finds = record {
    entry = λ h logs. (passes is_round h closed.rounds old.rounds next logs.rounds stand.rounds finds).0 ∙ sym (seen_none (slice_get h at));
    before = λ c y less there. absurd (omega arith);
    behind = λ c y less there. stand.cores c y there;
    rounds = (passes is_round one.0 closed.rounds old.rounds next one.1.rounds stand.rounds finds).1;
    room = stand.room;
  }

  pub walk_ends : (cursors : CursorsView) (found : Option Entry) → IsWalked closed at (length closed.cores) cursors found → StandAt closed (at + 1) cursors
  walk_ends cursors found walked = record {
    cores = λ c y there. walked.before c y (slice_get_within closed.cores c y there) there;
    rounds = walked.rounds;
    room = walked.room;
  }

  pub walk_goes : (core : ℕ) (cursors : CursorsView) (found next : Option Entry) (y : CoreView) → AreLogsOfOne closed → IsWalked closed at core cursors found
      → slice_get closed.cores core ≡ Some y → core < MAX_CORES → next ≡ entry_there at (slice_get y.log (slice_index cursors.cores core))
      → IsWalked closed at (core + 1) (record cursors { cores = slice_set cursors.cores core (moved (slice_index cursors.cores core) next) }) (option_or next found)
  walk_goes core cursors found next y one walked there inside finds = record {
    entry = λ h logs.
        ap₂ option_or (passes (touches core) h y.log (slice_index cursors.cores core) next (logs.cores core y there) (walked.behind core y (omega arith) there) finds).0 (walked.entry h logs)
        ∙ (seen_more core (slice_get h at) ∙ ap (λ k. passing (seen k) (slice_get h at)) (let more : suc core ≡ core + 1 = omega arith in more));
    before = λ c z less is. elim (eqb c core) as (λ b. eqb c core ≡ b → get_or (slice_set cursors.cores core (moved (slice_index cursors.cores core) next)) c 0 ≡ passed (at + 1) z.log) [
      | true ↦ λ same. let this : c ≡ core = grind arith in
          let item : Some z ≡ Some y = sym is ∙ (ap (slice_get closed.cores) this ∙ there) in let log : z ≡ y = cc in
          ap (λ k. get_or (slice_set cursors.cores core (moved (slice_index cursors.cores core) next)) k 0) this
          ∙ (get_or-set_same cursors.cores core (moved (slice_index cursors.cores core) next) 0 (let full = walked.room in omega arith)
          ∙ ((passes (touches core) one.0 y.log (slice_index cursors.cores core) next (one.1.cores core y there) (walked.behind core y (omega arith) there) finds).1
          ∙ ap (λ (v : CoreView). passed (at + 1) v.log) (sym log)))
      | false ↦ λ other. get_or-set_other cursors.cores core c (moved (slice_index cursors.cores core) next) 0 (λ same. grind arith) ∙ walked.before c z (grind arith) is
    ] refl;
    behind = λ c z less is. get_or-set_other cursors.cores core c (moved (slice_index cursors.cores core) next) 0 (λ same. omega arith) ∙ walked.behind c z (omega arith) is;
    rounds = walked.rounds;
    room = length-set cursors.cores core (moved (slice_index cursors.cores core) next) ∙ walked.room;
  }

  -- no cursor stands beyond the position
  pub round_cursor_few : (old : CursorsView) → AreLogsOfOne closed → StandAt closed at old → old.rounds ≤ at
  round_cursor_few old one stand =
      let few = few_passed is_round at one.0 in let is = stand.rounds ∙ ap (passed at) one.1.rounds in omega arith

  pub cursor_few : (core : ℕ) (cursors : CursorsView) (found : Option Entry) (y : CoreView) → AreLogsOfOne closed → IsWalked closed at core cursors found
      → slice_get closed.cores core ≡ Some y → slice_index cursors.cores core ≤ at
  cursor_few core cursors found y one walked there =
      let few = few_passed (touches core) at one.0 in
      let is = walked.behind core y (omega arith) there ∙ ap (passed at) (one.1.cores core y there) in omega arith

-- at the start no cursor has passed an entry
pub start_stands : (closed : ClosedView) → StandAt closed 0 (record { cores = replicate MAX_CORES 0; rounds = 0 })
start_stands closed = record {
  cores = λ c y there. all_zero c MAX_CORES ∙ sym (passed_none y.log);
  rounds = sym (passed_none closed.rounds);
  room = refl;
}
  where
    all_zero : (c n : ℕ) → slice_index (replicate n 0) c ≡ 0
    all_zero c zero = refl
    all_zero zero (suc n) = refl
    all_zero (suc c) (suc n) = all_zero c n

-- where there is no entry, the history is over
pub none_beyond : (h : List Entry) (at : ℕ) → slice_get h at ≡ None → length h ≤ at
none_beyond [] at none = omega arith
none_beyond (e ∷ h) zero none = absurd (cc)
none_beyond (e ∷ h) (suc at) none = let rest = none_beyond h at none in omega arith
