-- In a bad round an entry pays: by it the number of idle cores falls, or it doesn't rise although a thread blocks or ends.
-- Until one does, each core that was idle as the round began stays idle, and each that was overloaded stays so, as only an
-- idle core may take the last waiting thread. So at its attempt the idle core reads itself idle and the overloaded one
-- overloaded: it doesn't pass; and whoever it chooses was overloaded as it read it, so is still, and has a thread waiting:
-- it doesn't fail. So it steals, and that pays.
use Rattle.std.proofs.Common.{◌≡◌, ◌≢◌, ℕ, zero, suc, ◌<◌, ◌≤◌, ◌⊎◌, inl, inr, IsTrue, true, false, ◌+◌, List, length, take, slice_index, refl, sym, ap, ap₂, ◌∙◌, subst, arith, length-take-le, eq-or-lt_of_le}
use Rattle.std.proofs.lemmas.Bool.{cases_lt}
use Rattle.std.proofs.lemmas.Bool.Decides.{nat_tests}
use mathlib.Core.Option.{some}
use lib.ListN.{get_elem?}
use Rattle.policy_tree.specs.Meaning.{Meaning}
use Rattle.policy_eval.specs.declared.env.CoreValues.{CoreValues}
use Rattle.policy_eval.specs.Fitting.{CoreFits}
use Rattle.policy_eval.specs.Obligations.{MeetsObligations}
use Rattle.policy_eval.specs.Sights.{pair_values}
use Rattle.policy_eval.specs.Values.{Holds, holds}
use Rattle.policy_eval.proofs.Statements.{balance_obligations, handler_obligations}
use Rattle.round_model.specs.declared.entry.Did.{Did}
use Rattle.round_model.specs.declared.entry.Entry.{Entry}
use Rattle.round_model.specs.declared.entry.Entry.TheVariants as entry
use Rattle.round_model.specs.declared.plan.Plan.{Plan}
use Rattle.round_model.specs.declared.state.CountAndLoad.{CountAndLoad}
use Rattle.round_model.specs.After.{after, round_after}
use Rattle.round_model.specs.Attempts.{present_values}
use Rattle.round_model.specs.Cores.{thread_count}
use Rattle.round_model.specs.Entries.{acts}
use Rattle.round_model.specs.Fits.{Fits}
use Rattle.round_model.specs.Kinds.{is_attempt, is_steal}
use Rattle.round_model.specs.Legal.{Legal, LegalNext}
use Rattle.round_model.specs.Outcomes.{values_at}
use Rattle.round_model.specs.Reads.{ReadsFit, round_start, value_read, values_of}
use Rattle.round_model.specs.Rounds.{Attempts, BeginsAt, IsBad, disturbs, is_leaving, round_at}
use Rattle.round_laws.specs.IdleBound.{idle_at, takes_off}
use Rattle.round_model.specs.Rows.{Row}
use Rattle.round_model.specs.Scenes.{scene_of}
use Rattle.round_model.proofs.Grows.{legal_prefix}
use Rattle.policy_eval.specs.LastWaiting.{LeavesLastToIdle}
use Rattle.round_laws.proofs.MoveObligations.{move_obligations}
use Rattle.round_laws.proofs.Choosing.{legal_fail, legal_pass, some_wait}
use Rattle.round_laws.proofs.CompleteRounds.{starts_behind}
use Rattle.round_laws.proofs.IdleCounts.{counts_none, counts_one, idle_fewer, idle_no_more}
use Rattle.round_laws.proofs.IdleSteps.{count_at, enter_at, idle_steal_lowers, off_before, off_more, wake_at, work_at, work_others}
use Rattle.round_laws.proofs.KeptLoads.{keeps_loads}
use Rattle.round_laws.proofs.MoveRows.{AreMoves, steal_at}
use Rattle.round_laws.proofs.RowCounts.{busy_leaves_two, row_more, row_others, row_there}
use Rattle.round_laws.proofs.Positions.{seen_before}
use Rattle.round_laws.proofs.RoundNumbers.{EntryAt, behind_round, entry_at, entry_inside, opened, opens_next, past_end, round_behind, round_rises, which_entry}
use Rattle.round_laws.proofs.SeenChanges.{number_same}
use Rattle.round_laws.proofs.Thefts.{present_fits}

-- a core that had no thread has none, and one that was overloaded is so
pub record SameKind (before now : ℕ) : Type 0 where
  pub none : before ≡ 0 → now ≡ 0
  pub many : 2 ≤ before → 2 ≤ now

kind_then : (a b c : ℕ) → SameKind a b → SameKind b c → SameKind a c
kind_then a b c first second = record { none = λ is. second.none (first.none is); many = λ is. second.many (first.many is) }

kind_is : (a b : ℕ) → a ≡ b → SameKind a b
kind_is a b is = record { none = λ none. omega arith; many = λ many. omega arith }

module _ (p : Meaning) (plan : Plan) (h : List Entry) where
  -- by the entry the number of idle cores falls, or it doesn't rise although a thread blocks or ends
  abbrev pub PaysAt : ℕ → Type 0
  PaysAt k = idle_at p plan h (suc k) + off_before h k + 1 ≤ idle_at p plan h k + off_before h (suc k)

  -- it doesn't
  abbrev PaysNothing : ℕ → Type 0
  PaysNothing k = idle_at p plan h k + off_before h (suc k) ≤ idle_at p plan h (suc k) + off_before h k

  -- such an entry of a round
  pub record PaysIn (number : ℕ) : Type 0 where
    pub position : ℕ
    pub there : position < length h
    pub in_round : round_at h (suc position) ≡ number
    pub pays : PaysAt position

  -- by the entry all cores keep their kind
  abbrev KeepsAll : ℕ → Type 0
  KeepsAll k = (c : ℕ) → c < plan.cores → SameKind (count_at p plan h k c) (count_at p plan h (suc k) c)

  -- up to a position all cores keep their kind
  abbrev KeepsKinds : ℕ → ℕ → Type 0
  KeepsKinds opening j = (q r c : ℕ) → opening ≤ q → q ≤ r → r ≤ j → c < plan.cores → SameKind (count_at p plan h q c) (count_at p plan h r c)

-- an attempt is no Round, and opens none
attempt_opens_none : (round : ℕ) (e : Entry) → IsTrue (is_attempt e) → round_after round e ≡ round
attempt_opens_none round (entry.Round number) attempt = absurd (cc)
attempt_opens_none round (entry.Enter thread by at reads) attempt = refl
attempt_opens_none round (entry.Wake thread by at reads) attempt = refl
attempt_opens_none round (entry.Work by what) attempt = refl
attempt_opens_none round (entry.Steal by from threads reads) attempt = refl
attempt_opens_none round (entry.Fail by from reads) attempt = refl
attempt_opens_none round (entry.Pass by reads) attempt = refl

-- at most one, and not one, is none
not_one : (n : ℕ) → n ≢ 1 → n ≤ 1 → n ≡ 0
not_one zero other few = refl
not_one (suc zero) other few = absurd (other refl)
not_one (suc (suc n)) other few = absurd (omega arith)

module _ (p : Meaning) (plan : Plan) (h : List Entry) (fits : Fits p plan) (meets : MeetsObligations p) (leaves : LeavesLastToIdle p) (legal : Legal p plan h) where
  -- what a policy may be asked of a core as it was at a position
  fit_at : (q c : ℕ) → c < plan.cores → CoreFits p (values_of plan c (value_read p plan h c q))
  fit_at q c there = present_fits p plan fits (handler_obligations p meets) (take q h) (legal_prefix p plan h q legal) c there

  -- a steal by a core that isn't idle leaves all their kind
  kinds_after : (j by from : ℕ) (threads reads : List ℕ) → get_elem? h j ≡ some (entry.Steal by from threads reads) → 1 ≤ count_at p plan h j by
      → (c : ℕ) → SameKind (count_at p plan h j c) (count_at p plan h (suc j) c)
  kinds_after j by from threads reads is busy c = by_core (number_same c by) (number_same c from)
    where
      row : AreMoves plan by from threads (after p plan (take j h)) (after p plan (take (suc j) h))
      row = (steal_at p plan h fits (move_obligations p meets) legal j by from threads reads is).1

      by_core : (c ≡ by) ⊎ (c ≢ by) → (c ≡ from) ⊎ (c ≢ from) → SameKind (count_at p plan h j c) (count_at p plan h (suc j) c)
      by_core (inl same) victim =
          let before = ap (count_at p plan h j) same in
          let now = ap (count_at p plan h (suc j)) same in
          let more = row_more plan by from threads (after p plan (take j h)) (after p plan (take (suc j) h)) row in
          record { none = λ none. absurd (omega arith); many = λ many. omega arith }
      by_core (inr not) (inl same) =
          let before = ap (count_at p plan h j) same in
          let now = ap (count_at p plan h (suc j)) same in
          let enough = (steal_at p plan h fits (move_obligations p meets) legal j by from threads reads is).0 in
          let two = (row_there plan by from threads (after p plan (take j h)) (after p plan (take (suc j) h)) enough row).overloaded in
          let left = busy_leaves_two p plan h fits meets leaves legal j by from threads reads is busy in
          record { none = λ none. absurd (omega arith); many = λ many. omega arith }
      by_core (inr not) (inr other) =
          kind_is (count_at p plan h j c) (count_at p plan h (suc j) c)
          (sym (ap (λ (s : CountAndLoad). s.nr) (row_others plan by from threads (after p plan (take j h)) (after p plan (take (suc j) h)) row c not other)))

  -- an entry that is no steal and doesn't disturb keeps all
  calm : (k : ℕ) (e : Entry) → get_elem? h k ≡ some e → is_steal e ≡ false → disturbs e ≡ false → KeepsAll p plan h k
  calm k e is other quiet c there =
      kind_is (count_at p plan h k c) (count_at p plan h (suc k) c) (sym (ap (λ (s : CountAndLoad). s.nr) (keeps_loads p plan h fits (move_obligations p meets) legal k c e is other quiet there)))

  -- one by which threads come keeps all, unless an idle core gets one
  comes : (k : ℕ) (e : Entry) → get_elem? h k ≡ some e → takes_off e ≡ false → ((c : ℕ) → count_at p plan h k c ≤ count_at p plan h (suc k) c) → PaysNothing p plan h k → KeepsAll p plan h k
  comes k e is off grows nothing c there = record { none = λ none. by_count none (cases_lt 0 (count_at p plan h (suc k) c)); many = λ many. let more = grows c in omega arith }
    where
      by_count : count_at p plan h k c ≡ 0 → (0 < count_at p plan h (suc k) c) ⊎ (count_at p plan h (suc k) c ≤ 0) → count_at p plan h (suc k) c ≡ 0
      by_count none (inl more) =
          let fewer = idle_fewer plan (after p plan (take k h)) (after p plan (take (suc k) h)) (λ b inside free. let rises = grows b in omega arith) c there none (omega arith) in
          let same = off_more h k e is in
          let zero_off = counts_none (takes_off e) off in
          absurd (omega arith)
      by_count none (inr zero_now) = omega arith

  -- where a core has a thread that isn't its only one, its unit makes none idle
  none_before : (k by : ℕ) (what : Did) → get_elem? h k ≡ some (entry.Work by what) → count_at p plan h k by ≢ 1 → (d : ℕ) → count_at p plan h (suc k) d ≡ 0 → (d ≡ by) ⊎ (d ≢ by)
      → count_at p plan h k d ≡ 0
  none_before k by what is other d none (inl same) =
      let now = ap (count_at p plan h (suc k)) same in
      let before = ap (count_at p plan h k) same in
      let most = work_at p plan h k by what is in
      let idle = not_one (count_at p plan h k by) other (omega arith) in
      omega arith
  none_before k by what is other d none (inr apart) = sym (work_others p plan h k by what is d apart) ∙ none

  -- one that blocks or ends a thread keeps all, unless the core has another one
  leaves_keeps : (k by : ℕ) (what : Did) → get_elem? h k ≡ some (entry.Work by what) → is_leaving what ≡ true → PaysNothing p plan h k → KeepsAll p plan h k
  leaves_keeps k by what is gone nothing c there = by_core (number_same c by) (number_same (count_at p plan h k by) 1)
    where
      by_core : (c ≡ by) ⊎ (c ≢ by) → (count_at p plan h k by ≡ 1) ⊎ (count_at p plan h k by ≢ 1) → SameKind (count_at p plan h k c) (count_at p plan h (suc k) c)
      by_core (inr apart) one = kind_is (count_at p plan h k c) (count_at p plan h (suc k) c) (sym (work_others p plan h k by what is c apart))
      by_core (inl same) (inl one) = let here = ap (count_at p plan h k) same in record { none = λ none. absurd (omega arith); many = λ many. absurd (omega arith) }
      by_core (inl same) (inr other) =
          let stay = idle_no_more plan (after p plan (take k h)) (after p plan (take (suc k) h)) (λ d inside none. none_before k by what is other d none (number_same d by)) in
          let off = off_more h k (entry.Work by what) is in
          let one = counts_one (takes_off (entry.Work by what)) gone in
          absurd (omega arith)

  -- a steal by an idle core pays
  steal_pays : (k by from : ℕ) (threads reads : List ℕ) → get_elem? h k ≡ some (entry.Steal by from threads reads) → count_at p plan h k by ≡ 0 → PaysAt p plan h k
  steal_pays k by from threads reads is idle =
      let less = idle_steal_lowers p plan h fits meets legal k by from threads reads is idle in
      let same = off_more h k (entry.Steal by from threads reads) is in
      omega arith

  -- an entry pays, or keeps all
  nothing_keeps : (k : ℕ) (e : Entry) → get_elem? h k ≡ some e → PaysNothing p plan h k → KeepsAll p plan h k
  nothing_keeps k (entry.Round number) is nothing = calm k (entry.Round number) is refl refl
  nothing_keeps k (entry.Enter thread by at reads) is nothing = comes k (entry.Enter thread by at reads) is refl (enter_at p plan h k thread by at reads is) nothing
  nothing_keeps k (entry.Wake thread by at reads) is nothing = comes k (entry.Wake thread by at reads) is refl (wake_at p plan h k thread by at reads is) nothing
  nothing_keeps k (entry.Work by what) is nothing =
      elim (is_leaving what) as (λ b. is_leaving what ≡ b → KeepsAll p plan h k) [
        | true ↦ λ gone. leaves_keeps k by what is gone nothing
        | false ↦ λ stays. calm k (entry.Work by what) is refl stays
      ] refl
  nothing_keeps k (entry.Steal by from threads reads) is nothing = by_thief (cases_lt 0 (count_at p plan h k by))
    where
      by_thief : (0 < count_at p plan h k by) ⊎ (count_at p plan h k by ≤ 0) → KeepsAll p plan h k
      by_thief (inl busy) = λ c there. kinds_after k by from threads reads is (omega arith) c
      by_thief (inr idle) = let pays = steal_pays k by from threads reads is (omega arith) in absurd (omega arith)
  nothing_keeps k (entry.Fail by from reads) is nothing = calm k (entry.Fail by from reads) is refl refl
  nothing_keeps k (entry.Pass by reads) is nothing = calm k (entry.Pass by reads) is refl refl

  pays_or_keeps : (k : ℕ) → EntryAt h k → ((k < length h) × PaysAt p plan h k) ⊎ KeepsAll p plan h k
  pays_or_keeps k (past_end same) = inr (λ c there. kind_is (count_at p plan h k c) (count_at p plan h (suc k) c) (sym (ap (λ (g : List Entry). thread_count (after p plan g c)) same)))
  pays_or_keeps k (entry_at e is) = by_sum (cases_lt (idle_at p plan h (suc k) + off_before h k) (idle_at p plan h k + off_before h (suc k)))
    where
      by_sum : (idle_at p plan h (suc k) + off_before h k < idle_at p plan h k + off_before h (suc k)) ⊎ (idle_at p plan h k + off_before h (suc k) ≤ idle_at p plan h (suc k) + off_before h k)
          → ((k < length h) × PaysAt p plan h k) ⊎ KeepsAll p plan h k
      by_sum (inl less) = inl (entry_inside h k e is, omega arith)
      by_sum (inr nothing) = inr (nothing_keeps k e is nothing)

  module _ (n opening : ℕ) (begins : BeginsAt h n opening) where
    kept_there : (j : ℕ) → j ≤ opening → KeepsKinds p plan h opening j
    kept_there j early q r c behind before within there = kind_is (count_at p plan h q c) (count_at p plan h r c) (ap (λ k. count_at p plan h k c) (let same : q ≡ r = omega arith in same))

    kept_more : (j : ℕ) → KeepsKinds p plan h opening j → KeepsAll p plan h j → KeepsKinds p plan h opening (suc j)
    kept_more j so_far one q r c behind before within there = by_order (eq-or-lt_of_le within) (eq-or-lt_of_le before)
      where
        by_order : (r ≡ suc j) ⊎ (r < suc j) → (q ≡ r) ⊎ (q < r) → SameKind (count_at p plan h q c) (count_at p plan h r c)
        by_order last (inl same) = kind_is (count_at p plan h q c) (count_at p plan h r c) (ap (λ k. count_at p plan h k c) same)
        by_order (inr less) (inr later) = so_far q r c behind before (omega arith) there
        by_order (inl is) (inr later) =
            subst (λ k. SameKind (count_at p plan h q c) (count_at p plan h k c)) (sym is)
            (kind_then (count_at p plan h q c) (count_at p plan h j c) (count_at p plan h (suc j) c) (so_far q j c behind (omega arith) (omega arith) there) (one c there))

    one_more : (j : ℕ) → opening ≤ j → round_at h (suc j) ≤ n → PaysIn p plan h n ⊎ KeepsKinds p plan h opening j → PaysIn p plan h n ⊎ KeepsKinds p plan h opening (suc j)
    one_more j behind within (inl found) = inl found
    one_more j behind within (inr so_far) = by_step (pays_or_keeps j (which_entry h j))
      where
        by_step : ((j < length h) × PaysAt p plan h j) ⊎ KeepsAll p plan h j → PaysIn p plan h n ⊎ KeepsKinds p plan h opening (suc j)
        by_step (inr kept) = inr (kept_more j so_far kept)
        by_step (inl (there, pays)) =
            let opens = opened h n opening begins in
            let rises = round_rises p plan h legal (suc opening) (suc j) (omega arith) in
            inl (record { position = j; there = there; in_round = omega arith; pays = pays })

    -- up to a position of the round an entry has paid, or all have kept their kind
    paid_or_kept : (j : ℕ) → round_at h j ≤ n → PaysIn p plan h n ⊎ KeepsKinds p plan h opening j
    paid_or_kept zero within = inr (kept_there zero (omega arith))
    paid_or_kept (suc j) within = by_order (paid_or_kept j) (cases_lt opening (suc j))
      where
        by_order : (round_at h j ≤ n → PaysIn p plan h n ⊎ KeepsKinds p plan h opening j) → (opening < suc j) ⊎ (suc j ≤ opening) → PaysIn p plan h n ⊎ KeepsKinds p plan h opening (suc j)
        by_order rest (inl behind) =
            let rises = round_rises p plan h legal j (suc j) (omega arith) in
            one_more j (omega arith) within (rest (omega arith))
        by_order rest (inr early) = inr (kept_there (suc j) early)

  -- the attempt at k of a core that was idle, beside an overloaded one, as the round began
  module _ (k opening a v : ℕ) (inside : k < length h) (start : round_start (take k h) ≡ suc opening) (kept : KeepsKinds p plan h opening k)
      (own : a < plan.cores) (there : v < plan.cores) (idle : count_at p plan h opening a ≡ 0) (overloaded : 2 ≤ count_at p plan h opening v) where
    record IsRead (q : ℕ) : Type 0 where
      behind : opening ≤ q
      before : q ≤ k

    read_at : (reads : List ℕ) → ReadsFit plan.cores (round_start (take k h)) (length (take k h)) reads → (c : ℕ) → c < plan.cores → IsRead (slice_index reads c)
    read_at reads read c here =
        let long : length (take k h) ≡ k = length-take-le k h (omega arith) in
        let one_each = read.one_each in
        let one = read.each c 0 (omega arith) in
        let low = one.in_round in
        let high = one.before_entry in
        record { behind = omega arith; before = omega arith }

    sees : (reads : List ℕ) → ReadsFit plan.cores (round_start (take k h)) (length (take k h)) reads → (c : ℕ) → c < plan.cores
        → values_at p plan (take k h) reads c ≡ values_of plan c (value_read p plan h c (slice_index reads c))
    sees reads read c here = ap (values_of plan c) (seen_before p plan h k c (slice_index reads c) (read_at reads read c here).before)

    idle_then : (q : ℕ) → IsRead q → count_at p plan h q a ≡ 0
    idle_then q read = (kept opening q a (omega arith) read.behind read.before own).none idle

    -- it doesn't pass
    no_pass : (reads : List ℕ) → LegalNext p plan (take k h) (entry.Pass a reads) → ⊥
    unfolding LegalNext Row scene_of
    no_pass reads next =
        let read = next.row.read in
        let q = slice_index reads a in
        let r = slice_index reads v in
        let own_read = read_at reads read a own in
        let its_read = read_at reads read v there in
        let many = (kept opening r v (omega arith) its_read.behind its_read.before there).many overloaded in
        let passes = (balance_obligations p meets).idle_sees_overloaded (values_of plan a (value_read p plan h a q)) (values_of plan v (value_read p plan h v r))
        (fit_at q a own) (fit_at r v there) (idle_then q own_read) many in
        legal_pass p plan (take k h) a reads next v (record {
          there = there;
          apart = λ is. let count : count_at p plan h opening a ≡ count_at p plan h opening v = ap (count_at p plan h opening) is in omega arith;
          passes = subst (λ b. b ≡ true) (sym (ap₂ (λ (x y : CoreValues). holds (pair_values x y) p.filter) (sees reads read a own) (sees reads read v there))) passes;
        })

    -- and doesn't fail
    no_fail : (from : ℕ) (reads : List ℕ) → LegalNext p plan (take k h) (entry.Fail a from reads) → ⊥
    no_fail from reads next =
        let m = after p plan (take k h) in
        let failed = legal_fail p plan (take k h) a from reads next in
        let read = failed.read in
        let victim = failed.candidate.there in
        let q = slice_index reads a in
        let r = slice_index reads from in
        let its_read = read_at reads read from victim in
        let passed : Holds (pair_values (values_of plan a (value_read p plan h a q)) (values_of plan from (value_read p plan h from r))) p.filter =
        subst (λ b. b ≡ true) (ap₂ (λ (x y : CoreValues). holds (pair_values x y) p.filter) (sees reads read a own) (sees reads read from victim)) failed.candidate.passes in
        let many = (balance_obligations p meets).victim_is_overloaded (values_of plan a (value_read p plan h a q)) (values_of plan from (value_read p plan h from r)) (fit_at q a own) (fit_at r from victim) passed in
        let now = (kept r k from its_read.behind its_read.before (omega arith) victim).many many in
        let idle_now = idle_then k (record { behind = let b = its_read.behind in let c = its_read.before in omega arith; before = omega arith }) in
        let passes = (balance_obligations p meets).idle_sees_overloaded (present_values plan m a) (present_values plan m from) (fit_at k a own) (fit_at k from victim) idle_now now in
        some_wait (m from) now (failed.nothing passes)

    is_paid : opening ≤ k → (e : Entry) → get_elem? h k ≡ some e → IsTrue (acts a e) → IsTrue (is_attempt e) → PaysAt p plan h k
    unfolding acts
    is_paid behind (entry.Round number) is by_core attempt = absurd (cc)
    is_paid behind (entry.Enter thread by at reads) is by_core attempt = absurd (cc)
    is_paid behind (entry.Wake thread by at reads) is by_core attempt = absurd (cc)
    is_paid behind (entry.Work by what) is by_core attempt = absurd (cc)
    is_paid behind (entry.Steal by from threads reads) is by_core attempt =
        let same : by ≡ a = grind (arith, nat_tests) in
        steal_pays k by from threads reads is (ap (count_at p plan h k) same ∙ idle_then k (record { behind = behind; before = omega arith }))
    is_paid behind (entry.Fail by from reads) is by_core attempt =
        let same : by ≡ a = grind (arith, nat_tests) in
        absurd (no_fail from reads (subst (λ c. LegalNext p plan (take k h) (entry.Fail c from reads)) same (legal k (entry.Fail by from reads) is)))
    is_paid behind (entry.Pass by reads) is by_core attempt =
        let same : by ≡ a = grind (arith, nat_tests) in
        absurd (no_pass reads (subst (λ c. LegalNext p plan (take k h) (entry.Pass c reads)) same (legal k (entry.Pass by reads) is)))

  -- in a bad round some entry pays
  pub bad_round_pays : (n : ℕ) → IsBad p plan h n → PaysIn p plan h n
  bad_round_pays n bad =
      let attempt = bad.complete bad.beside.idle bad.beside.idle_there in
      let in_round = attempt.in_round in
      by_search attempt (paid_or_kept n bad.position bad.begins attempt.position (omega arith))
    where
      by_search : (attempt : Attempts h n bad.beside.idle) → PaysIn p plan h n ⊎ KeepsKinds p plan h bad.position attempt.position → PaysIn p plan h n
      by_search attempt (inl found) = found
      by_search attempt (inr kept) =
          let k = attempt.position in
          let in_round = attempt.in_round in
          let next = opens_next p plan h legal n bad.position bad.begins in
          let behind = behind_round p plan h legal bad.position k (omega arith) in
          let start = starts_behind p plan h legal n bad.position k bad.begins behind in_round in
          let inside = entry_inside h k attempt.attempt attempt.stands in
          record {
            position = k;
            there = inside;
            in_round = round_behind h k attempt.attempt attempt.stands ∙ (attempt_opens_none (round_at h k) attempt.attempt attempt.is ∙ in_round);
            pays = is_paid k bad.position bad.beside.idle bad.beside.overloaded inside start kept
                bad.beside.idle_there bad.beside.overloaded_there bad.beside.is_idle bad.beside.is_overloaded (omega arith) attempt.attempt attempt.stands attempt.by_core attempt.is;
          }
