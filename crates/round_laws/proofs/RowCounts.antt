-- Thread counts behind a row of moves: the thief has as many more as were moved, the others have what they had. And a core
-- that had threads leaves two at its victim, where only idle cores take the last waiting thread.
use Rattle.std.proofs.Common.{◌≡◌, ◌≢◌, ℕ, zero, suc, ◌+◌, ◌-◌, ◌<◌, ◌≤◌, Bool, true, false, cond, List, [], ◌∷◌, length, take, Option, Some, None, refl, ap, ◌∙◌, arith}
use mathlib.Core.Option.{some}
use lib.ListN.{get_elem?}
use Rattle.sched_base.specs.declared.task.Task.{Task}
use Rattle.policy_tree.specs.Meaning.{BatchTree, Meaning}
use Rattle.policy_eval.specs.LastWaiting.{LeavesLastToIdle}
use Rattle.policy_eval.specs.Obligations.{BatchLeavesLast, FilterLeavesLast, MeetsObligations}
use Rattle.policy_eval.specs.Orders.{best_of}
use Rattle.policy_eval.proofs.Statements.{handler_obligations}
use Rattle.round_model.specs.declared.entry.Entry.{Entry}
use Rattle.round_model.specs.declared.entry.Entry.TheVariants as entry
use Rattle.round_model.specs.declared.plan.Plan.{Plan}
use Rattle.round_model.specs.declared.state.ModelCore.{ModelCore}
use Rattle.round_model.specs.After.{after, round_of}
use Rattle.round_model.specs.Attempts.{further_moves, goes_on, moves_after, moves_of, moves_with, next_of}
use Rattle.round_model.specs.Choices.{may_steal}
use Rattle.round_model.specs.Cores.{Cores, seen_of, thread_count}
use Rattle.round_model.specs.Fits.{Fits}
use Rattle.round_model.specs.Legal.{Legal}
use Rattle.round_model.specs.Moves.{handed, handed_all, received}
use Rattle.round_model.specs.Reads.{values_of}
use Rattle.round_model.specs.Work.{before}
use Rattle.round_model.proofs.Grows.{legal_prefix}
use Rattle.round_model.proofs.MovedOn.{left_cons, none_leave}
use Rattle.round_model.proofs.MoveSteps.{kept_is}
use Rattle.round_model.proofs.Once.{best-found}
use Rattle.round_laws.proofs.MoveObligations.{move_obligations}
use Rattle.round_laws.proofs.Amounts.{amount_received, count_is}
use Rattle.round_laws.proofs.Choosing.{legal_steal}
use Rattle.round_laws.proofs.MoveRows.{AreMoves, steal_after, steal_at}
use Rattle.round_laws.proofs.Positions.{state_behind}
use Rattle.round_laws.proofs.Thefts.{AreReady, first_leaves, further_leaves, ready_after, ready_now}

module _ (plan : Plan) (by from : ℕ) where
  -- thief and victim of a row of some moves, before it
  pub record AreThere (m : Cores) : Type 0 where
    pub own : by < plan.cores
    pub there : from < plan.cores
    pub apart : by ≢ from
    pub overloaded : 2 ≤ thread_count (m from)

  pub row_there : (threads : List ℕ) (m w : Cores) → 1 ≤ length threads → AreMoves plan by from threads m w → AreThere m
  row_there [] m w enough row = absurd (omega arith)
  row_there (thread ∷ threads) m w enough (k, move, rest) =
      record { own = move.thief_there; there = move.victim_there; apart = move.apart; overloaded = move.overloaded }

  -- the thief has so many more
  pub row_more : (threads : List ℕ) (m w : Cores) → AreMoves plan by from threads m w → thread_count (w by) ≡ thread_count (m by) + length threads
  row_more [] m w same = omega (arith, ap thread_count (same by))
  row_more (thread ∷ threads) m w (k, move, rest) =
      let e : thread_count (w by) ≡ thread_count (m by) + suc (length threads) =
      let more = move.more in omega (arith, row_more threads k w rest) in e

  -- and of the other cores the same is seen
  pub row_others : (threads : List ℕ) (m w : Cores) → AreMoves plan by from threads m w → (c : ℕ) → c ≢ by → c ≢ from → seen_of (w c) ≡ seen_of (m c)
  row_others [] m w same c first second = ap seen_of (same c)
  row_others (thread ∷ threads) m w (k, move, rest) c first second = row_others threads k w rest c first second ∙ move.others c first second

module _ (p : Meaning) (plan : Plan) (fits : Fits p plan) (by from : ℕ) (own : by < plan.cores) (there : from < plan.cores) where
  -- the victim once the threads of these numbers were moved
  abbrev LeavesTwo : List ℕ → ModelCore → Type 0
  LeavesTwo ids victim = 2 ≤ thread_count (handed_all ids victim)

  leaves_all : (victim : ModelCore) → 2 ≤ thread_count victim → LeavesTwo [] victim
  leaves_all victim two = omega (arith, ap thread_count (none_leave victim))

  leaves_more : (id : ℕ) (ids : List ℕ) (victim : ModelCore) → LeavesTwo ids (handed id victim) → LeavesTwo (id ∷ ids) victim
  leaves_more id ids victim rest = omega (arith, ap thread_count (left_cons id ids victim))

  one_more : (t : Task) (thief : ModelCore) → thread_count (received t thief) ≡ thread_count thief + 1
  one_more t thief = omega (arith, amount_received (λ w. 1) t thief, count_is (received t thief), count_is thief)

  module _ (batch : BatchTree) (leaves : BatchLeavesLast p (Some batch)) where
    -- the further moves, whose thief has two threads or more
    further_two : (n : ℕ) (thief victim : ModelCore) → AreReady p thief victim → 2 ≤ thread_count thief → 2 ≤ thread_count victim
        → LeavesTwo (further_moves p plan by from batch n thief victim) victim
    unfolding further_moves next_of
    further_two zero thief victim ready busy two = leaves_all victim two
    further_two (suc n) thief victim ready busy two =
        at (next_of p plan by from batch thief victim) refl (λ t. further_two n (received t thief) (handed t.id victim))
      where
        at : (next : Option Task) → next_of p plan by from batch thief victim ≡ next
            → ((t : Task) → AreReady p (received t thief) (handed t.id victim) → 2 ≤ thread_count (received t thief) → 2 ≤ thread_count (handed t.id victim)
            → LeavesTwo (further_moves p plan by from batch n (received t thief) (handed t.id victim)) (handed t.id victim))
            → LeavesTwo (moves_with next (λ t. t.id ∷ further_moves p plan by from batch n (received t thief) (handed t.id victim))) victim
        at None none rest = leaves_all victim two
        at (Some t) next rest =
            let kept = kept_is (goes_on p plan by from batch thief victim) (best_of (before p.steal) victim.queue) t next in
            let queued = best-found (before p.steal) victim.queue t ready.once kept.0 in
            leaves_more t.id (further_moves p plan by from batch n (received t thief) (handed t.id victim)) victim
            (rest t (ready_after p thief victim ready t queued) (omega (arith, one_more t thief))
            (further_leaves p thief victim ready t queued plan fits by from own there batch leaves kept.1 busy))

  after_two : (batch : Option BatchTree) → BatchLeavesLast p batch → (thief victim : ModelCore) → AreReady p thief victim → 2 ≤ thread_count thief → 2 ≤ thread_count victim
      → LeavesTwo (moves_after p plan by from batch thief victim) victim
  after_two None leaves thief victim ready busy two = leaves_all victim two
  after_two (Some batch) leaves thief victim ready busy two = further_two batch leaves (batch.limit - 1) thief victim ready busy two

  -- all moves, whose thief had a thread
  moves_two : (batch : Option BatchTree) → FilterLeavesLast p → BatchLeavesLast p batch → (thief victim : ModelCore) → AreReady p thief victim → 1 ≤ thread_count thief → 2 ≤ thread_count victim
      → LeavesTwo (moves_of p plan by from batch thief victim) victim
  moves_two batch first further thief victim ready busy two =
      at (may_steal p (values_of plan by (seen_of thief)) (values_of plan from (seen_of victim))) refl (best_of (before p.steal) victim.queue) refl
    where
      at : (test : Bool) → may_steal p (values_of plan by (seen_of thief)) (values_of plan from (seen_of victim)) ≡ test
          → (best : Option Task) → best_of (before p.steal) victim.queue ≡ best
          → LeavesTwo (moves_with (cond test best None) (λ t. t.id ∷ moves_after p plan by from batch (received t thief) (handed t.id victim))) victim
      at true passes None best = leaves_all victim two
      at false fails best found = leaves_all victim two
      at true passes (Some t) best =
          let queued = best-found (before p.steal) victim.queue t ready.once best in
          leaves_more t.id (moves_after p plan by from batch (received t thief) (handed t.id victim)) victim
          (after_two batch further (received t thief) (handed t.id victim) (ready_after p thief victim ready t queued) (omega (arith, one_more t thief))
          (first_leaves p thief victim ready t queued plan fits by from own there first passes busy))

-- the steal of a core with threads leaves two at its victim
pub busy_leaves_two : (p : Meaning) (plan : Plan) (h : List Entry) → Fits p plan → MeetsObligations p → LeavesLastToIdle p → Legal p plan h
    → (k by from : ℕ) (threads reads : List ℕ) → get_elem? h k ≡ some (entry.Steal by from threads reads)
    → 1 ≤ thread_count (after p plan (take k h) by) → 2 ≤ thread_count (after p plan (take (suc k) h) from)
busy_leaves_two p plan h fits meets leaves legal k by from threads reads is busy =
    let e = entry.Steal by from threads reads in
    let so_far = legal_prefix p plan h k legal in
    let m = after p plan (take k h) in
    let steal = steal_at p plan h fits (move_obligations p meets) legal k by from threads reads is in
    let both = row_there plan by from threads m (after p plan (take (suc k) h)) steal.0 steal.1 in
    let means = legal_steal p plan (take k h) by from threads reads (legal k e is) in
    let ready = ready_now p plan fits (handler_obligations p meets) (take k h) so_far by from both.own both.there both.apart in
    let two = moves_two p plan fits by from both.own both.there p.batch leaves.filter leaves.batch (m by) (m from) ready busy both.overloaded in
    let left = (steal_after by from both.apart m p plan (round_of (take k h)) threads reads).victim_is in
    let here : after p plan (take (suc k) h) from ≡ handed_all threads (m from) = ap (λ (w : Cores). w from) (state_behind p plan h k e is) ∙ left in
    let same = ap (λ (ids : List ℕ). thread_count (handed_all ids (m from))) means.moves in
    omega (arith, ap thread_count here, same, two)
