-- Where all threads weigh the same, only an idle core takes the last waiting thread: else the move wouldn't narrow the gap.
use Rattle.std.proofs.Common.{◌≡◌, ℕ, zero, suc, ◌*◌, ◌<◌, ◌≤◌, Option, None, Some, refl, arith}
use Rattle.std.proofs.lemmas.Nat.{mul-le}
use Rattle.policy_tree.specs.Meaning.{BatchTree, Meaning}
use Rattle.policy_eval.specs.Fitting.{LoadsFit}
use Rattle.policy_eval.specs.LastWaiting.{EqualWeightsLaw}
use Rattle.policy_eval.specs.Obligations.{BatchLeavesLast, NarrowsGapBy}
use Rattle.policy_eval.specs.Ranges.{greatest_weight, least_weight}
use Rattle.policy_eval.proofs.Statements.{balance_obligations}

-- only no times a number is less than the number
no_times : (n w : ℕ) → n * w < w → n ≡ 0
no_times zero w small = refl
no_times (suc n) w small = absurd (omega arith)

module _ (p : Meaning) (same : least_weight p.load ≡ greatest_weight p.load) where
  -- at most two threads are no heavier than two
  light : (nr load : ℕ) → LoadsFit p nr load → nr ≤ 2 → load ≤ 2 * least_weight p.load
  light nr load fits few =
      let most = mul-le nr (greatest_weight p.load) 2 (least_weight p.load) few (omega arith) in
      let heavy = fits.heavy in
      omega arith

  equal_batch : (batch : Option BatchTree) → NarrowsGapBy p batch → BatchLeavesLast p batch
  equal_batch None narrows = tt
  equal_batch (Some batch) narrows = λ own victim weight attrs own_fits victim_fits weighs held goes there few.
      let w = least_weight p.load in
      let least = victim_fits.loads.light in
      let own_light = own_fits.loads.light in
      let most = light victim.nr victim.load victim_fits.loads few in
      let low = weighs.least in
      let high = weighs.greatest in
      let gap = narrows own victim weight attrs own_fits victim_fits weighs held goes there (omega arith) in
      let none : own.nr ≡ 0 = no_times own.nr w (omega arith) in
      omega arith

pub equal_weights : EqualWeightsLaw
equal_weights p meets same = record {
  filter = λ own victim own_fits victim_fits passes few.
      let w = least_weight p.load in
      let least = victim_fits.loads.light in
      let own_light = own_fits.loads.light in
      let most = light p same victim.nr victim.load victim_fits.loads few in
      let gap = (balance_obligations p meets).move_narrows_gap own victim w own_fits victim_fits (record { least = omega arith; greatest = omega arith }) passes (omega arith) in
      no_times own.nr w (omega arith);
  batch = equal_batch p same p.batch (balance_obligations p meets).further_move_narrows_gap;
}
