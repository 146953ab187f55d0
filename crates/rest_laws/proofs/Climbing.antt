-- Rounds paid for by levels: k of n = k + 1 cores come above a level at most until all do, when the next one begins. Each steal keeps
-- what was paid, and a steal by a core with the fewest threads pays for one more.
use Rattle.std.proofs.Common.{◌≡◌, ◌≢◌, ℕ, suc, ◌+◌, ◌-◌, ◌*◌, ◌<◌, ◌≤◌, ◌⊎◌, inl, inr, max, List, take, ap, arith, eq-or-lt_of_le}
use Rattle.std.proofs.lemmas.Nat.{mul-le}
use Rattle.std.proofs.Math.Nat.{mul-add}
use mathlib.Core.Option.{some}
use lib.ListN.{get_elem?}
use Rattle.policy_tree.specs.Meaning.{Meaning}
use Rattle.round_model.specs.declared.entry.Entry.{Entry}
use Rattle.round_model.specs.declared.entry.Entry.TheVariants as entry
use Rattle.round_model.specs.declared.plan.Plan.{Plan}
use Rattle.round_model.specs.declared.state.CountAndLoad.{CountAndLoad}
use Rattle.round_model.specs.After.{after}
use Rattle.round_model.specs.Cores.{Cores, seen_of, thread_count}
use Rattle.round_model.specs.Fits.{Fits}
use Rattle.round_model.specs.Legal.{Legal}
use Rattle.rest_laws.specs.LowestFirst.{EachHas, LowestFirst, above}
use Rattle.round_laws.specs.Rest.{MeetsMoveObligations, RestlessAt}
use Rattle.rest_laws.proofs.Levels.{above_is, paid_by_threads, paid_with_one, total_at_least, up, up_all, up_but_one, up_more, up_some, up_stays}
use Rattle.rest_laws.proofs.LowestRounds.{least_of}
use Rattle.rest_laws.proofs.LowestSteps.{both, each_has_yet, left_above, others_count, sees_two, thief_more, two_more}
use Rattle.round_laws.proofs.SeenChanges.{number_same}
use Rattle.round_laws.proofs.WaitingCounts.{thread_total}

-- so many rounds and so many lowest threads are paid for by a level, which each core has, and by the cores above it
pub record HasClimbed (plan : Plan) (m : Cores) (low rounds : ℕ) : Type 0 where
  pub level : ℕ
  pub each : EachHas plan m level
  pub paid : rounds + 1 + (plan.cores - 1) * low ≤ (plan.cores - 1) * level + max 1 (up plan level m)

-- at first no round is
pub climbs_none : (plan : Plan) (m : Cores) (low : ℕ) → EachHas plan m low → HasClimbed plan m low 0
climbs_none plan m low each = record { level = low; each = each; paid = omega arith }

-- where each core has as many threads as before
pub climbs_same : (plan : Plan) (m w : Cores) (low rounds : ℕ) → ((c : ℕ) → c < plan.cores → seen_of (w c) ≡ seen_of (m c)) → HasClimbed plan m low rounds → HasClimbed plan w low rounds
climbs_same plan m w low rounds same so_far =
    let stays = up_stays plan so_far.level m w (λ c there more. let count = ap (λ (s : CountAndLoad). s.nr) (same c there) in omega arith) in
    let paid = so_far.paid in
    record {
      level = so_far.level;
      each = λ c there. let had = so_far.each c there in let count = ap (λ (s : CountAndLoad). s.nr) (same c there) in omega arith;
      paid = omega arith;
    }

-- a level that each core has may be the number of a core's threads that none falls short of
to_least : (plan : Plan) (m : Cores) (low rounds a : ℕ) → 1 ≤ plan.cores → a < plan.cores → EachHas plan m (thread_count (m a)) → (so_far : HasClimbed plan m low rounds)
    → rounds + 1 + (plan.cores - 1) * low ≤ (plan.cores - 1) * thread_count (m a) + max 1 (up plan (thread_count (m a)) m)
to_least plan m low rounds a enough own least so_far = by_order (eq-or-lt_of_le (so_far.each a own))
  where
    by_order : (so_far.level ≡ thread_count (m a)) ⊎ (so_far.level < thread_count (m a))
        → rounds + 1 + (plan.cores - 1) * low ≤ (plan.cores - 1) * thread_count (m a) + max 1 (up plan (thread_count (m a)) m)
    by_order (inl is) =
        let paid = so_far.paid in
        let product = ap (λ l. (plan.cores - 1) * l) is in
        let count = ap (λ l. up plan l m) is in
        omega arith
    by_order (inr less) =
        let paid = so_far.paid in
        let higher = mul-le (plan.cores - 1) (so_far.level + 1) (plan.cores - 1) (thread_count (m a)) (omega arith) (omega arith) in
        let few = up_all plan so_far.level m in
        omega (arith, mul-add (plan.cores - 1) so_far.level 1)

module _ (p : Meaning) (plan : Plan) (h : List Entry) (fits : Fits p plan) (meets : MeetsMoveObligations p) (lowest : LowestFirst p) (legal : Legal p plan h) where
  module _ (k by from : ℕ) (threads reads : List ℕ) (is : get_elem? h k ≡ some (entry.Steal by from threads reads)) (low rounds : ℕ) where
    abbrev m : Cores
    m = after p plan (take k h)

    abbrev w : Cores
    w = after p plan (take (suc k) h)

    -- no core falls from above a level to it, where the thief has the level
    keeps_up : (level : ℕ) → level ≤ thread_count (m by) → (c : ℕ) → c < plan.cores → level < thread_count (m c) → level < thread_count (w c)
    keeps_up level had c there more = by_place (number_same c by) (number_same c from)
      where
        by_place : (c ≡ by) ⊎ (c ≢ by) → (c ≡ from) ⊎ (c ≢ from) → level < thread_count (w c)
        by_place (inl at) other = let same = ap (λ i. thread_count (w i)) at in let gains = thief_more p plan h fits meets lowest legal k by from threads reads is in omega arith
        by_place (inr this) (inl at) = let same = ap (λ i. thread_count (w i)) at in let left = left_above p plan h fits meets lowest legal k by from threads reads is in omega arith
        by_place (inr this) (inr that) = omega (arith, others_count p plan h fits meets lowest legal k by from threads reads is c this that)

    -- each steal keeps what was paid
    pub climbs_on : HasClimbed plan (after p plan (take k h)) low rounds → HasClimbed plan (after p plan (take (suc k) h)) low rounds
    climbs_on so_far =
        let own = (both p plan h fits meets lowest legal k by from threads reads is).own in
        let stays = up_stays plan so_far.level m w (keeps_up so_far.level (so_far.each by own)) in
        let paid = so_far.paid in
        record { level = so_far.level; each = each_has_yet p plan h fits meets lowest legal k by from threads reads is so_far.level so_far.each; paid = omega arith }

    -- and pays for a round more, where its thief had the fewest threads
    pub climbs_more : EachHas plan (after p plan (take k h)) (thread_count (after p plan (take k h) by)) → HasClimbed plan (after p plan (take k h)) low rounds
        → HasClimbed plan (after p plan (take (suc k) h)) low (suc rounds)
    climbs_more least so_far =
        let pair = both p plan h fits meets lowest legal k by from threads reads is in
        let level = thread_count (m by) in
        let gains = thief_more p plan h fits meets lowest legal k by from threads reads is in
        let two = two_more p plan h fits meets lowest legal k by from threads reads is in
        let above = up_some plan level m from pair.there (omega arith) in
        let more = up_more plan level m w (keeps_up level (omega arith)) by pair.own (omega arith) (omega arith) in
        let paid = to_least plan m low rounds by fits.some_cores pair.own least so_far in
        record { level = level; each = each_has_yet p plan h fits meets lowest legal k by from threads reads is level least; paid = omega arith }

  module _ (opening k low rounds : ℕ) (each : EachHas plan (after p plan (take opening h)) low)
      (same : thread_total plan (after p plan (take k h)) ≡ thread_total plan (after p plan (take opening h))) (so_far : HasClimbed plan (after p plan (take k h)) low rounds) where
    -- so the rounds are bounded by the threads
    pub rounds_few : plan.cores * rounds + above plan (after p plan (take opening h)) low ≤ plan.cores * above plan (after p plan (take opening h)) low
    rounds_few =
        let m = after p plan (take k h) in
        let enough = fits.some_cores in
        let held = total_at_least plan m so_far.level so_far.each in
        let whole = above_is plan (after p plan (take opening h)) low each in
        paid_by_threads plan.cores (plan.cores - 1) low so_far.level (up plan so_far.level m) (above plan (after p plan (take opening h)) low) rounds (omega arith) so_far.paid
        (up_all plan so_far.level m) (omega arith)

    -- and one more is, where the cores are restless still
    pub one_more_few : RestlessAt p plan h k → plan.cores * suc rounds + above plan (after p plan (take opening h)) low ≤ plan.cores * above plan (after p plan (take opening h)) low
    one_more_few restless =
        let m = after p plan (take k h) in
        let enough = fits.some_cores in
        let least = least_of (λ c. thread_count (m c)) plan.cores fits.some_cores in
        let level = thread_count (m least.place) in
        let two = sees_two p plan h fits meets lowest legal k restless.thief restless.victim restless.thief_there restless.victim_there restless.passes in
        let under = least.least restless.thief restless.thief_there in
        let held = total_at_least plan m level least.least in
        let here = up_some plan level m restless.victim restless.victim_there (omega arith) in
        let there = up_some plan (suc level) m restless.victim restless.victim_there (omega arith) in
        let whole = above_is plan (after p plan (take opening h)) low each in
        let paid = to_least plan m low rounds least.place fits.some_cores least.there least.least so_far in
        paid_with_one plan.cores (plan.cores - 1) low level (up plan level m) (above plan (after p plan (take opening h)) low) rounds (omega arith) paid
        here (up_but_one plan level m least.place least.there (omega arith)) (omega arith)
