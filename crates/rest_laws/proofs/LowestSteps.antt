-- A steal where lower cores see as much: its victim keeps more threads than its thief had, and a core with fewer threads than the
-- thief sees whom it saw.
use Rattle.std.proofs.Common.{◌≡◌, ◌≢◌, ℕ, suc, ◌+◌, ◌<◌, ◌≤◌, ◌⊎◌, inl, inr, List, take, refl, sym, ap, ◌∙◌, subst, arith}
use mathlib.Core.Option.{some}
use lib.ListN.{get_elem?}
use Rattle.policy_tree.specs.Meaning.{Meaning}
use Rattle.policy_eval.specs.Fitting.{CoreFits}
use Rattle.policy_eval.specs.Sights.{pair_values}
use Rattle.policy_eval.specs.Values.{Holds}
use Rattle.round_model.specs.declared.entry.Entry.{Entry}
use Rattle.round_model.specs.declared.entry.Entry.TheVariants as entry
use Rattle.round_model.specs.declared.plan.Plan.{Plan}
use Rattle.round_model.specs.declared.state.CountAndLoad.{CountAndLoad}
use Rattle.round_model.specs.declared.state.ModelCore.{ModelCore}
use Rattle.round_model.specs.After.{after, round_of}
use Rattle.round_model.specs.Attempts.{moves_of, present_values}
use Rattle.round_model.specs.Cores.{Cores, seen_of, thread_count}
use Rattle.round_model.specs.Fits.{Fits}
use Rattle.round_model.specs.Legal.{Legal}
use Rattle.round_model.specs.Moves.{handed_all}
use Rattle.round_model.specs.Reads.{values_of}
use Rattle.round_model.proofs.Grows.{legal_prefix}
use Rattle.rest_laws.specs.LowestFirst.{EachHas, LowestFirst}
use Rattle.round_laws.specs.Rest.{MeetsMoveObligations}
use Rattle.round_laws.proofs.Choosing.{PassesNow, StealMeans, choice_by, legal_steal, steal_passes}
use Rattle.rest_laws.proofs.LowestMoves.{passes_two, victim_above, victim_seen}
use Rattle.round_laws.proofs.MoveRows.{AreMoves, steal_after, steal_at}
use Rattle.round_laws.proofs.Positions.{state_behind}
use Rattle.round_laws.proofs.Restless.{passes_same}
use Rattle.round_laws.proofs.RowCounts.{AreThere, row_more, row_others, row_there}
use Rattle.round_laws.proofs.SeenChanges.{number_same}
use Rattle.round_laws.proofs.Thefts.{present_fits, ready_now}

module _ (p : Meaning) (plan : Plan) (h : List Entry) (fits : Fits p plan) (meets : MeetsMoveObligations p) (lowest : LowestFirst p) (legal : Legal p plan h) where
  -- the values of each core may be asked about
  pub fit_at : (k c : ℕ) → c < plan.cores → CoreFits p (present_values plan (after p plan (take k h)) c)
  fit_at k c there = present_fits p plan fits meets.handlers (take k h) (legal_prefix p plan h k legal) c there

  -- where a core may steal from another, that one has two threads more
  pub sees_two : (k a c : ℕ) → a < plan.cores → c < plan.cores → PassesNow p plan (after p plan (take k h)) a c
      → thread_count (after p plan (take k h) a) + 2 ≤ thread_count (after p plan (take k h) c)
  sees_two k a c own there passes =
      passes_two p lowest.equal_weights meets.move_narrows_gap (present_values plan (after p plan (take k h)) a) (present_values plan (after p plan (take k h)) c) (fit_at k a own) (fit_at k c there) passes

  module _ (k by from : ℕ) (threads reads : List ℕ) (is : get_elem? h k ≡ some (entry.Steal by from threads reads)) where
    -- the cores before and after it
    abbrev pub m : Cores
    m = after p plan (take k h)

    abbrev pub w : Cores
    w = after p plan (take (suc k) h)

    row : AreMoves plan by from threads m w
    row = (steal_at p plan h fits meets legal k by from threads reads is).1

    pub both : AreThere plan by from m
    both = row_there plan by from threads m w (steal_at p plan h fits meets legal k by from threads reads is).0 row

    means : StealMeans p plan m by from threads (choice_by p plan (take k h) by reads)
    means = legal_steal p plan (take k h) by from threads reads (legal k (entry.Steal by from threads reads) is)

    passes : PassesNow p plan m by from
    passes = steal_passes p plan m by from threads (choice_by p plan (take k h) by reads) means

    -- the victim has two threads more than the thief
    pub two_more : thread_count (m by) + 2 ≤ thread_count (m from)
    two_more = sees_two k by from both.own both.there passes

    -- the victim is left with what its moves leave of it
    left : handed_all (moves_of p plan by from p.batch (m by) (m from)) (m from) ≡ w from
    left =
        let end = (steal_after by from both.apart m p plan (round_of (take k h)) threads reads).victim_is in
        ap (λ (ids : List ℕ). handed_all ids (m from)) (sym means.moves)
        ∙ sym (ap (λ (c : Cores). c from) (state_behind p plan h k (entry.Steal by from threads reads) is) ∙ end)

    -- which is more than the thief had
    pub left_above : thread_count (m by) + 1 ≤ thread_count (w from)
    left_above =
        let ready = ready_now p plan fits meets.handlers (take k h) (legal_prefix p plan h k legal) by from both.own both.there both.apart in
        let two = two_more in
        let kept = victim_above p plan fits lowest.equal_weights by from both.own both.there (thread_count (m by)) meets.move_narrows_gap meets.further_move_narrows_gap
        (m by) (m from) ready (omega arith) (omega arith) in
        omega (arith, ap thread_count left)

    -- the thief has more than it had
    pub thief_more : thread_count (m by) + 1 ≤ thread_count (w by)
    thief_more =
        let some = (steal_at p plan h fits meets legal k by from threads reads is).0 in
        omega (arith, row_more plan by from threads m w row)

    -- and of the other cores the same is seen
    pub others_same : (c : ℕ) → c ≢ by → c ≢ from → seen_of (w c) ≡ seen_of (m c)
    others_same = row_others plan by from threads m w row

    pub others_count : (c : ℕ) → c ≢ by → c ≢ from → thread_count (w c) ≡ thread_count (m c)
    others_count c this that = ap (λ (s : CountAndLoad). s.nr) (others_same c this that)

    -- so where each core had so many, each has so many yet
    pub each_has_yet : (low : ℕ) → EachHas plan m low → EachHas plan w low
    each_has_yet low each c there = by_place (number_same c by) (number_same c from)
      where
        by_place : (c ≡ by) ⊎ (c ≢ by) → (c ≡ from) ⊎ (c ≢ from) → low ≤ thread_count (w c)
        by_place (inl is) other = let same = ap (λ i. thread_count (w i)) is in let had = each by both.own in let more = thief_more in omega arith
        by_place (inr this) (inl is) = let same = ap (λ i. thread_count (w i)) is in let had = each by both.own in let more = left_above in omega arith
        by_place (inr this) (inr that) = let had = each c there in omega (arith, others_count c this that)

    -- a core with fewer threads than the thief is neither of the two
    module _ (a : ℕ) (own : a < plan.cores) (fewer : thread_count (m a) < thread_count (m by)) where
      not_thief : a ≢ by
      not_thief is = let same = ap (λ i. thread_count (m i)) is in omega arith

      not_victim : a ≢ from
      not_victim is = let same = ap (λ i. thread_count (m i)) is in let two = two_more in omega arith

      pub lower_same : seen_of (w a) ≡ seen_of (m a)
      lower_same = others_same a not_thief not_victim

      -- and sees whom it saw
      sees_thief : PassesNow p plan m a by → PassesNow p plan w a by
      sees_thief now =
          let more = thief_more in
          let same = ap (λ (s : CountAndLoad). s.nr) lower_same in
          lowest.filter (present_values plan m a) (present_values plan m by) (present_values plan w a) (present_values plan w by)
          (fit_at k a own) (fit_at k by both.own) (fit_at (suc k) a own) (fit_at (suc k) by both.own) refl now (omega arith) (omega arith)

      sees_victim : PassesNow p plan m a from → PassesNow p plan w a from
      sees_victim now =
          let ready = ready_now p plan fits meets.handlers (take k h) (legal_prefix p plan h k legal) by from both.own both.there both.apart in
          let seen = victim_seen p plan fits lowest.equal_weights by from both.own both.there (present_values plan m a) (fit_at k a own) lowest.filter lowest.batch
          (m by) (m from) ready (omega arith) now in
          subst (λ (s : CountAndLoad). Holds (pair_values (values_of plan a s) (present_values plan w from)) p.filter) (sym lower_same)
          (subst (λ (core : ModelCore). Holds (pair_values (present_values plan m a) (values_of plan from (seen_of core))) p.filter) left seen)

      pub sees_yet : (c : ℕ) → PassesNow p plan m a c → PassesNow p plan w a c
      sees_yet c now = by_place (number_same c by) (number_same c from)
        where
          by_place : (c ≡ by) ⊎ (c ≢ by) → (c ≡ from) ⊎ (c ≢ from) → PassesNow p plan w a c
          by_place (inl is) other = subst (PassesNow p plan w a) (sym is) (sees_thief (subst (PassesNow p plan m a) is now))
          by_place (inr this) (inl is) = subst (PassesNow p plan w a) (sym is) (sees_victim (subst (PassesNow p plan m a) is now))
          by_place (inr this) (inr that) = passes_same p plan m w a c (sym lower_same) (sym (others_same c this that)) now
