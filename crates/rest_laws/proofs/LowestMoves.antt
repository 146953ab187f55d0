-- What the moves of a steal leave its victim, where all threads weigh the same: more threads than the thief had before, and where
-- lower cores see as much, a lower core still passes the filter with it.
use Rattle.std.proofs.Common.{◌≡◌, ℕ, zero, suc, ◌+◌, ◌-◌, ◌*◌, ◌<◌, ◌≤◌, ◌⊎◌, inl, inr, Bool, true, false, cond, IsTrue, List, [], ◌∷◌, Option, Some, None, refl, sym, subst, arith}
use Rattle.std.proofs.lemmas.Bool.{cases_lt}
use Rattle.std.proofs.lemmas.Nat.{mul-le}
use Rattle.sched_base.specs.declared.task.Task.{Task}
use Rattle.policy_tree.specs.Meaning.{BatchTree, Meaning}
use Rattle.policy_eval.specs.declared.env.CoreValues.{CoreValues}
use Rattle.policy_eval.specs.Fitting.{CoreFits}
use Rattle.policy_eval.specs.Obligations.{FurtherMoveNarrowsGap, MoveNarrowsGap, NarrowsGapBy}
use Rattle.policy_eval.specs.Orders.{best_of}
use Rattle.policy_eval.specs.Ranges.{greatest_weight, least_weight}
use Rattle.policy_eval.specs.Sights.{pair_values}
use Rattle.policy_eval.specs.Values.{Holds as Passes}
use Rattle.round_model.specs.declared.plan.Plan.{Plan}
use Rattle.round_model.specs.declared.state.ModelCore.{ModelCore}
use Rattle.round_model.specs.Attempts.{further_moves, goes_on, moves_after, moves_of, moves_with, next_of}
use Rattle.round_model.specs.Choices.{may_steal}
use Rattle.round_model.specs.Cores.{load_of, seen_of, thread_count}
use Rattle.round_model.specs.Fits.{Fits}
use Rattle.round_model.specs.Moves.{handed, handed_all, queued_of, received}
use Rattle.round_model.specs.Reads.{values_of}
use Rattle.round_model.specs.Work.{before}
use Rattle.round_model.proofs.MovedOn.{left_cons, none_leave}
use Rattle.round_model.proofs.MoveSteps.{kept_is}
use Rattle.round_model.proofs.Once.{best-found}
use Rattle.rest_laws.specs.LowestFirst.{BatchLeavesSeen, LowerSeesAsMuch}
use Rattle.round_laws.proofs.Amounts.{amount_handed, amount_received, count_is}
use Rattle.rest_laws.proofs.Gap.{equal_load}
use Rattle.round_laws.proofs.Thefts.{AreReady, first_narrows, further_narrows, its_fits, ready_after, thief_bounds, values_fit, victim_bounds}

-- what holds of thief and victim of a row of moves
module _ (p : Meaning) (plan : Plan) (by from : ℕ) (Inv : (thief victim : ModelCore) → Type 0) (P : ModelCore → Type 0) (ends : (thief victim : ModelCore) → Inv thief victim → P victim) where
  -- each further move keeps it
  abbrev pub Keeps : Option BatchTree → Type 0
  Keeps None = Unit {0}
  Keeps (Some batch) = (thief victim : ModelCore) (t : Task) (ready : AreReady p thief victim) (queued : queued_of t.id victim ≡ Some t)
      → IsTrue (goes_on p plan by from batch thief victim t) → Inv thief victim → Inv (received t thief) (handed t.id victim)

  no_move : (victim : ModelCore) → P victim → P (handed_all [] victim)
  no_move victim now = subst P (sym (none_leave victim)) now

  one_move : (id : ℕ) (ids : List ℕ) (victim : ModelCore) → P (handed_all ids (handed id victim)) → P (handed_all (id ∷ ids) victim)
  one_move id ids victim now = subst P (sym (left_cons id ids victim)) now

  further_left : (batch : BatchTree) → Keeps (Some batch) → (n : ℕ) (thief victim : ModelCore) → AreReady p thief victim → Inv thief victim
      → P (handed_all (further_moves p plan by from batch n thief victim) victim)
  unfolding further_moves next_of
  further_left batch keeps zero thief victim ready now = no_move victim (ends thief victim now)
  further_left batch keeps (suc n) thief victim ready now =
      at (next_of p plan by from batch thief victim) refl (λ t. further_left batch keeps n (received t thief) (handed t.id victim))
    where
      at : (next : Option Task) → next_of p plan by from batch thief victim ≡ next
          → ((t : Task) → AreReady p (received t thief) (handed t.id victim) → Inv (received t thief) (handed t.id victim)
          → P (handed_all (further_moves p plan by from batch n (received t thief) (handed t.id victim)) (handed t.id victim)))
          → P (handed_all (moves_with next (λ t. t.id ∷ further_moves p plan by from batch n (received t thief) (handed t.id victim))) victim)
      at None none rest = no_move victim (ends thief victim now)
      at (Some t) next rest =
          let kept = kept_is (goes_on p plan by from batch thief victim) (best_of (before p.steal) victim.queue) t next in
          let queued = best-found (before p.steal) victim.queue t ready.once kept.0 in
          one_move t.id (further_moves p plan by from batch n (received t thief) (handed t.id victim)) victim
          (rest t (ready_after p thief victim ready t queued) (keeps thief victim t ready queued kept.1 now))

  after_left : (batch : Option BatchTree) → Keeps batch → (thief victim : ModelCore) → AreReady p thief victim → Inv thief victim
      → P (handed_all (moves_after p plan by from batch thief victim) victim)
  after_left None keeps thief victim ready now = no_move victim (ends thief victim now)
  after_left (Some batch) keeps thief victim ready now = further_left batch keeps (batch.limit - 1) thief victim ready now

  -- all moves, where the first brings it about
  pub moves_left : (batch : Option BatchTree) → Keeps batch → (thief victim : ModelCore) → (ready : AreReady p thief victim) → P victim
      → ((t : Task) (queued : queued_of t.id victim ≡ Some t) → Passes (pair_values (values_of plan by (seen_of thief)) (values_of plan from (seen_of victim))) p.filter
      → Inv (received t thief) (handed t.id victim))
      → P (handed_all (moves_of p plan by from batch thief victim) victim)
  moves_left batch keeps thief victim ready now first =
      at (may_steal p (values_of plan by (seen_of thief)) (values_of plan from (seen_of victim))) refl (best_of (before p.steal) victim.queue) refl
    where
      at : (test : Bool) → may_steal p (values_of plan by (seen_of thief)) (values_of plan from (seen_of victim)) ≡ test
          → (best : Option Task) → best_of (before p.steal) victim.queue ≡ best
          → P (handed_all (moves_with (cond test best None) (λ t. t.id ∷ moves_after p plan by from batch (received t thief) (handed t.id victim))) victim)
      at true passes None best = no_move victim now
      at false fails best found = no_move victim now
      at true passes (Some t) best =
          let queued = best-found (before p.steal) victim.queue t ready.once best in
          one_move t.id (moves_after p plan by from batch (received t thief) (handed t.id victim)) victim
          (after_left batch keeps (received t thief) (handed t.id victim) (ready_after p thief victim ready t queued) (first t queued passes))

-- so many threads of the weight w with one more weigh less than others only if they are fewer by two
two_fewer : (n m w weight : ℕ) → w ≤ weight → n * w + weight < m * w → n + 2 ≤ m
two_fewer n m w weight heavy less = by_order (cases_lt m (n + 2))
  where
    by_order : (m < n + 2) ⊎ (n + 2 ≤ m) → n + 2 ≤ m
    by_order (inl few) = let most = mul-le m w (n + 1) w (omega arith) (omega arith) in absurd (omega arith)
    by_order (inr enough) = enough

module _ (p : Meaning) (same : least_weight p.load ≡ greatest_weight p.load) where
  -- where the filter holds, the victim has two threads more
  pub passes_two : MoveNarrowsGap p → (own victim : CoreValues) → CoreFits p own → CoreFits p victim → Passes (pair_values own victim) p.filter → own.nr + 2 ≤ victim.nr
  passes_two narrows own victim own_fits victim_fits passes =
      let w = least_weight p.load in
      let light = victim_fits.loads.light in
      let first = equal_load p same own.nr own.load own_fits.loads in
      let second = equal_load p same victim.nr victim.load victim_fits.loads in
      let gap = narrows own victim w own_fits victim_fits (record { least = omega arith; greatest = omega arith }) passes (omega arith) in
      two_fewer own.nr victim.nr w w (omega arith) (omega arith)

module _ (p : Meaning) (plan : Plan) (fits : Fits p plan) (same : least_weight p.load ≡ greatest_weight p.load) where
  module _ (by from : ℕ) (own : by < plan.cores) (there : from < plan.cores) (thief victim : ModelCore) (ready : AreReady p thief victim) (t : Task) (queued : queued_of t.id victim ≡ Some t) where
    thief_fits : CoreFits p (values_of plan by (seen_of thief))
    thief_fits = values_fit p plan fits by own thief (thief_bounds p thief victim ready)

    victim_fits : CoreFits p (values_of plan from (seen_of victim))
    victim_fits = values_fit p plan fits from there victim (victim_bounds p thief victim ready)

    -- so it is before each move
    narrow_two : load_of thief + t.weight < load_of victim → thread_count thief + 2 ≤ thread_count victim
    narrow_two gap =
        let first = equal_load p same (thread_count thief) (load_of thief) thief_fits.loads in
        let second = equal_load p same (thread_count victim) (load_of victim) victim_fits.loads in
        two_fewer (thread_count thief) (thread_count victim) (least_weight p.load) t.weight (its_fits p thief victim ready t queued).weight.least (omega arith)

    received_one : thread_count (received t thief) ≡ thread_count thief + 1
    received_one = omega (arith, amount_received (λ w. 1) t thief, count_is (received t thief), count_is thief)

    handed_one : thread_count (handed t.id victim) + 1 ≡ thread_count victim
    handed_one = omega (arith, amount_handed (λ w. 1) t.id t victim queued, count_is (handed t.id victim), count_is victim)

    handed_fits : CoreFits p (values_of plan from (seen_of (handed t.id victim)))
    handed_fits = values_fit p plan fits from there (handed t.id victim) (victim_bounds p (received t thief) (handed t.id victim) (ready_after p thief victim ready t queued))

  module _ (by from : ℕ) (own : by < plan.cores) (there : from < plan.cores) where
    -- the victim keeps more than the thief had
    module _ (bound : ℕ) where
      abbrev Higher : (thief victim : ModelCore) → Type 0
      Higher thief victim = (bound ≤ thread_count thief) × (bound + 1 ≤ thread_count victim)

      abbrev IsAbove : ModelCore → Type 0
      IsAbove victim = bound + 1 ≤ thread_count victim

      higher_on : (thief victim : ModelCore) (ready : AreReady p thief victim) (t : Task) (queued : queued_of t.id victim ≡ Some t) → load_of thief + t.weight < load_of victim
          → bound ≤ thread_count thief → Higher (received t thief) (handed t.id victim)
      higher_on thief victim ready t queued gap enough =
          let two = narrow_two by from own there thief victim ready t queued gap in
          let more = received_one by from own there thief victim ready t queued in
          let fewer = handed_one by from own there thief victim ready t queued in
          (omega arith, omega arith)

      keeps_higher : (batch : Option BatchTree) → NarrowsGapBy p batch → Keeps p plan by from Higher IsAbove (λ thief victim now. now.1) batch
      keeps_higher None narrows = tt
      keeps_higher (Some batch) narrows = λ thief victim t ready queued goes now.
          higher_on thief victim ready t queued (further_narrows p thief victim ready t queued plan fits by from own there batch narrows goes) now.0

      pub victim_above : MoveNarrowsGap p → FurtherMoveNarrowsGap p → (thief victim : ModelCore) → AreReady p thief victim → bound ≤ thread_count thief → bound + 1 ≤ thread_count victim
          → IsAbove (handed_all (moves_of p plan by from p.batch thief victim) victim)
      victim_above first further thief victim ready enough now =
          moves_left p plan by from Higher IsAbove (λ thief victim now. now.1) p.batch (keeps_higher p.batch further) thief victim ready now
          (λ t queued passes. higher_on thief victim ready t queued (first_narrows p thief victim ready t queued plan fits by from own there first passes) enough)

    -- and a lower core sees it still
    module _ (lower : CoreValues) (lower_fits : CoreFits p lower) where
      abbrev Seen : ModelCore → Type 0
      Seen victim = Passes (pair_values lower (values_of plan from (seen_of victim))) p.filter

      abbrev SeenBelow : (thief victim : ModelCore) → Type 0
      SeenBelow thief victim = (lower.nr + 2 ≤ thread_count thief) × Seen victim

      keeps_seen : (batch : Option BatchTree) → BatchLeavesSeen p batch → Keeps p plan by from SeenBelow Seen (λ thief victim now. now.1) batch
      keeps_seen None leaves = tt
      keeps_seen (Some batch) leaves = λ thief victim t ready queued goes now.
          let more = received_one by from own there thief victim ready t queued in
          let fewer = handed_one by from own there thief victim ready t queued in
          let task = its_fits p thief victim ready t queued in
          let low = now.0 in (
            omega arith,
            leaves (values_of plan by (seen_of thief)) (values_of plan from (seen_of victim)) lower (values_of plan from (seen_of (handed t.id victim))) t.weight t.attrs
                (thief_fits by from own there thief victim ready t queued) (victim_fits by from own there thief victim ready t queued) lower_fits (handed_fits by from own there thief victim ready t queued)
                task.weight task.attrs refl goes (omega arith) low (omega arith),
          )

      pub victim_seen : LowerSeesAsMuch p → BatchLeavesSeen p p.batch → (thief victim : ModelCore) → AreReady p thief victim → lower.nr + 1 ≤ thread_count thief → Seen victim
          → Seen (handed_all (moves_of p plan by from p.batch thief victim) victim)
      victim_seen sees leaves thief victim ready low now =
          moves_left p plan by from SeenBelow Seen (λ thief victim now. now.1) p.batch (keeps_seen p.batch leaves) thief victim ready now
          (λ t queued passes.
          let more = received_one by from own there thief victim ready t queued in
          let fewer = handed_one by from own there thief victim ready t queued in (
            omega arith,
            sees (values_of plan by (seen_of thief)) (values_of plan from (seen_of victim)) lower (values_of plan from (seen_of (handed t.id victim)))
                (thief_fits by from own there thief victim ready t queued) (victim_fits by from own there thief victim ready t queued) lower_fits (handed_fits by from own there thief victim ready t queued)
                refl passes (omega arith) (omega arith),
          ))
