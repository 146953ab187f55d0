-- A legal steal is a row of moves: each of its threads is the best one in the victim's queue as the moves before left it.
use Rattle.std.proofs.Common.{◌≡◌, ◌≢◌, ℕ, zero, suc, ◌-◌, ◌<◌, ◌≤◌, eqb, Bool, true, false, cond, List, [], ◌∷◌, length, take, IsTrue, Option, Some, None, refl, sym, ap, ◌∙◌, subst, arith}
use Rattle.std.proofs.lemmas.Bool.Decides.{nat_tests}
use mathlib.Core.Option.{some}
use lib.ListN.{get_elem?}
use Rattle.sched_base.specs.declared.task.Task.{Task}
use Rattle.policy_tree.specs.Meaning.{BatchTree, Meaning}
use Rattle.policy_eval.specs.Obligations.{MoveNarrowsGap, NarrowsGapBy}
use Rattle.policy_eval.specs.Orders.{best_of}
use Rattle.round_model.specs.declared.entry.Entry.{Entry}
use Rattle.round_model.specs.declared.entry.Entry.TheVariants as entry
use Rattle.round_model.specs.declared.plan.Plan.{Plan}
use Rattle.round_model.specs.declared.state.ModelCore.{ModelCore}
use Rattle.round_model.specs.After.{after, moved, round_of}
use Rattle.round_model.specs.Attempts.{further_moves, goes_on, moves_after, moves_of, moves_with, next_of}
use Rattle.round_model.specs.Choices.{may_steal}
use Rattle.round_model.specs.Outcomes.{values_at}
use Rattle.round_model.specs.Updates.{updated}
use Rattle.round_model.specs.Cores.{Cores, seen_of}
use Rattle.round_model.specs.Fits.{Fits}
use Rattle.round_model.specs.Kinds.{is_steal}
use Rattle.round_model.specs.Legal.{Legal, LegalNext}
use Rattle.round_model.specs.Moves.{handed, handed_all, queued_of, received, received_all, taken_from}
use Rattle.round_model.specs.Reads.{values_of}
use Rattle.round_model.specs.Work.{before}
use Rattle.round_model.proofs.Grows.{legal_prefix}
use Rattle.round_model.proofs.Keeping.{updated_other}
use Rattle.round_model.proofs.Moved.{moved_steal}
use Rattle.round_model.proofs.MovedOn.{come_cons, left_cons, none_come, none_leave}
use Rattle.round_model.proofs.MoveSteps.{kept_is}
use Rattle.round_model.proofs.Once.{best-found}
use Rattle.round_model.proofs.There.{acts_there}
use Rattle.round_laws.specs.Rest.{MeetsMoveObligations}
use Rattle.round_laws.proofs.Choosing.{choice_is, legal_steal}
use Rattle.round_laws.proofs.Positions.{state_behind}
use Rattle.round_laws.proofs.Thefts.{AreReady, AreWith, IsMove, Narrows, first_narrows, further_narrows, is_move, ready_after, ready_now}

-- from the cores m to the cores w the threads of these numbers are moved, one after the other
abbrev pub AreMoves : Plan → (by from : ℕ) → List ℕ → Cores → Cores → Type 0
AreMoves plan by from [] m w = (c : ℕ) → w c ≡ m c
AreMoves plan by from (thread ∷ threads) m w = (k : Cores) × IsMove plan by from thread m k × AreMoves plan by from threads k w

-- the core that was changed
updated_here : (m : Cores) (at : ℕ) (x : ModelCore) → updated m at x at ≡ x
updated_here m at x = let same : eqb at at ≡ true = grind (arith, nat_tests) in ap (λ b. cond b x (m at)) same

module _ (by from : ℕ) (apart : by ≢ from) (m : Cores) where
  -- thief and victim changed
  with_both : (thief victim : ModelCore) → AreWith by from m thief victim (updated (updated m by thief) from victim)
  with_both thief victim =
      let first = updated m by thief in
      record {
        thief_is = updated_other first from by victim (λ same. apart (sym same)) ∙ updated_here m by thief;
        victim_is = updated_here first from victim;
        others = λ c this that. updated_other first from c victim (λ same. that (sym same)) ∙ updated_other m by c thief (λ same. this (sym same));
      }

  -- the cores once the threads of these numbers were moved
  abbrev AreAfter : List ℕ → (thief victim : ModelCore) → Cores → Type 0
  AreAfter ids thief victim w = AreWith by from m (received_all (taken_from ids victim.queue).found thief) (handed_all ids victim) w

  -- such are those after a steal
  pub steal_after : (p : Meaning) (plan : Plan) (round : ℕ) (threads reads : List ℕ) → AreAfter threads (m by) (m from) (moved p plan round (entry.Steal by from threads reads) m)
  steal_after p plan round threads reads =
      let both = with_both (received_all (taken_from threads (m from).queue).found (m by)) (handed_all threads (m from)) in
      let alike = moved_steal p plan round m by from threads reads apart in
      record {
        thief_is = sym (alike by) ∙ both.thief_is;
        victim_is = sym (alike from) ∙ both.victim_is;
        others = λ c this that. sym (alike c) ∙ both.others c this that;
      }

  module _ (p : Meaning) (plan : Plan) (fits : Fits p plan) (own : by < plan.cores) (there : from < plan.cores) where
    module _ (w : Cores) where
      -- in whichever cores these moves are the next ones, they are a row that ends with the cores w
      abbrev RowsFrom : List ℕ → (thief victim : ModelCore) → Type 0
      RowsFrom ids thief victim = (k : Cores) → AreReady p thief victim → AreWith by from m thief victim k → AreAfter ids thief victim w → AreMoves plan by from ids k w

      no_move : (thief victim : ModelCore) → RowsFrom [] thief victim
      no_move thief victim k ready was is c =
          elim (eqb c by) as (λ b. eqb c by ≡ b → w c ≡ k c) [
            | true ↦ λ e. let same : c ≡ by = grind (arith, nat_tests) in
                ap w same ∙ (is.thief_is ∙ none_come thief ∙ sym was.thief_is) ∙ ap k (sym same)
            | false ↦ λ first. elim (eqb c from) as (λ b. eqb c from ≡ b → w c ≡ k c) [
              | true ↦ λ e. let same : c ≡ from = grind (arith, nat_tests) in
                  ap w same ∙ (is.victim_is ∙ none_leave victim ∙ sym was.victim_is) ∙ ap k (sym same)
              | false ↦ λ second.
                  let this : c ≢ by = grind (arith, nat_tests) in let that : c ≢ from = grind (arith, nat_tests) in
                  is.others c this that ∙ sym (was.others c this that)
            ] refl
          ] refl

      -- a move of the best thread, and then the others
      one_more : (t : Task) (ids : List ℕ) (thief victim : ModelCore) → best_of (before p.steal) victim.queue ≡ Some t
          → ((ready : AreReady p thief victim) (queued : queued_of t.id victim ≡ Some t) → Narrows p thief victim ready t queued)
          → RowsFrom ids (received t thief) (handed t.id victim) → RowsFrom (t.id ∷ ids) thief victim
      one_more t ids thief victim best narrows rest k ready was is =
          let queued = best-found (before p.steal) victim.queue t ready.once best in
          let next = updated (updated m by (received t thief)) from (handed t.id victim) in
          let both = with_both (received t thief) (handed t.id victim) in
          let behind : AreAfter ids (received t thief) (handed t.id victim) w = record {
            thief_is = is.thief_is ∙ come_cons t ids thief victim queued;
            victim_is = is.victim_is ∙ left_cons t.id ids victim;
            others = is.others;
          } in (
            next,
            is_move p thief victim ready t queued plan fits by from own there apart (narrows ready queued) m k next was both,
            rest next (ready_after p thief victim ready t queued) both behind,
          )

      -- the further moves
      further_row : (batch : BatchTree) → NarrowsGapBy p (Some batch) → (n : ℕ) (thief victim : ModelCore) → RowsFrom (further_moves p plan by from batch n thief victim) thief victim
      unfolding further_moves next_of
      further_row batch narrows zero thief victim = no_move thief victim
      further_row batch narrows (suc n) thief victim =
          at (next_of p plan by from batch thief victim) refl (λ t. further_row batch narrows n (received t thief) (handed t.id victim))
        where
          at : (next : Option Task) → next_of p plan by from batch thief victim ≡ next
              → ((t : Task) → RowsFrom (further_moves p plan by from batch n (received t thief) (handed t.id victim)) (received t thief) (handed t.id victim))
              → RowsFrom (moves_with next (λ t. t.id ∷ further_moves p plan by from batch n (received t thief) (handed t.id victim))) thief victim
          at None none rest = no_move thief victim
          at (Some t) next rest =
              let kept = kept_is (goes_on p plan by from batch thief victim) (best_of (before p.steal) victim.queue) t next in
              one_more t (further_moves p plan by from batch n (received t thief) (handed t.id victim)) thief victim kept.0
              (λ ready queued. further_narrows p thief victim ready t queued plan fits by from own there batch narrows kept.1) (rest t)

      after_row : (batch : Option BatchTree) → NarrowsGapBy p batch → (thief victim : ModelCore) → RowsFrom (moves_after p plan by from batch thief victim) thief victim
      after_row None narrows thief victim = no_move thief victim
      after_row (Some batch) narrows thief victim = further_row batch narrows (batch.limit - 1) thief victim

      -- all moves, the first of which the filter decides
      moves_row : (batch : Option BatchTree) → MoveNarrowsGap p → NarrowsGapBy p batch → (thief victim : ModelCore) → RowsFrom (moves_of p plan by from batch thief victim) thief victim
      moves_row batch first further thief victim =
          at (may_steal p (values_of plan by (seen_of thief)) (values_of plan from (seen_of victim))) refl (best_of (before p.steal) victim.queue) refl
        where
          at : (test : Bool) → may_steal p (values_of plan by (seen_of thief)) (values_of plan from (seen_of victim)) ≡ test
              → (best : Option Task) → best_of (before p.steal) victim.queue ≡ best
              → RowsFrom (moves_with (cond test best None) (λ t. t.id ∷ moves_after p plan by from batch (received t thief) (handed t.id victim))) thief victim
          at true passes None best = no_move thief victim
          at false fails best found = no_move thief victim
          at true passes (Some t) best =
              one_more t (moves_after p plan by from batch (received t thief) (handed t.id victim)) thief victim best
              (λ ready queued. first_narrows p thief victim ready t queued plan fits by from own there first passes)
              (after_row batch further (received t thief) (handed t.id victim))

module _ (p : Meaning) (plan : Plan) (fits : Fits p plan) (obligations : MeetsMoveObligations p) (h : List Entry) (so_far : Legal p plan h) (by from : ℕ) where
  -- the moves of an attempt after a legal history are a row, by whichever batch each further move narrows the gap
  pub moves_are : by < plan.cores → from < plan.cores → by ≢ from → (batch : Option BatchTree) → NarrowsGapBy p batch → (threads reads : List ℕ)
      → let m = after p plan h in threads ≡ moves_of p plan by from batch (m by) (m from)
      → AreMoves plan by from threads m (moved p plan (round_of h) (entry.Steal by from threads reads) m)
  moves_are own there apart batch narrows threads reads are =
      let m = after p plan h in
      let w = moved p plan (round_of h) (entry.Steal by from threads reads) m in
      let first = obligations.move_narrows_gap in
      let ready = ready_now p plan fits obligations.handlers h so_far by from own there apart in
      let self : AreWith by from m (m by) (m from) m = record { thief_is = refl; victim_is = refl; others = λ c this that. refl } in
      let rows : RowsFrom by from apart m p plan fits own there w threads (m by) (m from) =
      subst (λ (ids : List ℕ). RowsFrom by from apart m p plan fits own there w ids (m by) (m from)) (sym are)
      (moves_row by from apart m p plan fits own there w batch first narrows (m by) (m from)) in
      rows m ready self (steal_after by from apart m p plan (round_of h) threads reads)

  -- so a legal steal moves its threads one after the other, one at least
  pub steal_is : (threads reads : List ℕ) → LegalNext p plan h (entry.Steal by from threads reads)
      → (1 ≤ length threads) × AreMoves plan by from threads (after p plan h) (moved p plan (round_of h) (entry.Steal by from threads reads) (after p plan h))
  steal_is threads reads legal =
      let means = legal_steal p plan h by from threads reads legal in
      let candidate = choice_is p plan.cores (values_at p plan h reads) by from means.choice in
      let own = acts_there p plan h (entry.Steal by from threads reads) by refl legal in
      let further = obligations.further_move_narrows_gap in
      (means.some, moves_are own candidate.there candidate.apart p.batch further threads reads means.moves)

-- and so is each steal of a legal history
pub steal_at : (p : Meaning) (plan : Plan) (history : List Entry) → Fits p plan → MeetsMoveObligations p → Legal p plan history
    → (k by from : ℕ) (threads reads : List ℕ) → get_elem? history k ≡ some (entry.Steal by from threads reads)
    → (1 ≤ length threads) × AreMoves plan by from threads (after p plan (take k history)) (after p plan (take (suc k) history))
steal_at p plan history fits obligations legal k by from threads reads is =
    let e = entry.Steal by from threads reads in
    let steal = steal_is p plan fits obligations (take k history) (legal_prefix p plan history k legal) by from threads reads (legal k e is) in
    (steal.0, subst (AreMoves plan by from threads (after p plan (take k history))) (sym (state_behind p plan history k e is)) steal.1)

-- what holds of each Steal holds of each entry that is one
pub steal_cases : (P : Entry → Type 0) → ((by from : ℕ) (threads reads : List ℕ) → P (entry.Steal by from threads reads)) → (e : Entry) → IsTrue (is_steal e) → P e
steal_cases P each (entry.Round number) steal = absurd (cc)
steal_cases P each (entry.Enter thread by at reads) steal = absurd (cc)
steal_cases P each (entry.Wake thread by at reads) steal = absurd (cc)
steal_cases P each (entry.Work by what) steal = absurd (cc)
steal_cases P each (entry.Steal by from threads reads) steal = each by from threads reads
steal_cases P each (entry.Fail by from reads) steal = absurd (cc)
steal_cases P each (entry.Pass by reads) steal = absurd (cc)
