-- Where no core has two threads more than another, none has more than its share.
use Rattle.std.proofs.Common.{◌≡◌, ℕ, zero, suc, ◌+◌, ◌-◌, ◌*◌, ◌/◌, ◌<◌, ◌≤◌, List, take, sym, ◌∙◌, refl, arith}
use Rattle.std.proofs.lemmas.Nat.{le-div}
use Rattle.std.proofs.Math.Nat.{mul_comm}
use Rattle.policy_tree.specs.Meaning.{Meaning}
use Rattle.round_model.specs.declared.entry.Entry.{Entry}
use Rattle.round_model.specs.declared.plan.Plan.{Plan}
use Rattle.round_model.specs.After.{after}
use Rattle.round_model.specs.Cores.{Cores, thread_count}
use Rattle.round_laws.proofs.WaitingCounts.{thread_total}
use Rattle.rest_laws.specs.Gap.{CountsWithin}
use Rattle.rest_laws.specs.LowestFirst.{EachHas}
use Rattle.rest_laws.proofs.Gap.{even_counts}
use Rattle.rest_laws.proofs.Levels.{total_at_least, up_some}
use Rattle.turn_laws.specs.Turns.{FairShareLaw, share}
use Rattle.turn_laws.proofs.Turns.{turns_law}

module _ (plan : Plan) (m : Cores) (close : CountsWithin plan m 1) (c : ℕ) (there : c < plan.cores) where
  up_to_share : (count : ℕ) → thread_count (m c) ≡ count → count ≤ share plan m
  up_to_share zero is = omega arith
  up_to_share (suc level) is =
      let each : EachHas plan m level = λ a inside. let near = close c a there inside in omega arith in
      let enough = total_at_least plan m level each in
      let more = up_some plan level m c there (omega arith) in
      le-div (suc level) (thread_total plan m + (plan.cores - 1)) plan.cores (omega arith) (omega (arith, mul_comm level plan.cores))

  pub within_share : thread_count (m c) ≤ share plan m
  within_share = up_to_share (thread_count (m c)) refl

pub fair_share : FairShareLaw
fair_share p plan h fits meets queues same gap legal first last opening ending x c rests there stands has =
    let m = after p plan (take opening h) in
    let close = even_counts p plan h opening fits meets.handlers legal same gap rests.rest in
    turns_law p plan h fits meets queues legal first last opening (share plan m) ending x c rests there stands (within_share plan m close c there) has
