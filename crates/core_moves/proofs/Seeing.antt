-- What a core sees of the cores that a legal history left.
use Rattle.std.proofs.Common.{◌≡◌, ℕ, ◌<◌, ◌≤◌, List, All, length, take, sym, ◌∙◌, subst, arith}
use Rattle.sched_base.specs.declared.limits.TheConstants.{MAX_CORES, MAX_ENTRIES}
use Rattle.policy_tree.specs.Meaning.{Meaning}
use Rattle.policy_eval.specs.declared.env.CoreValues.{CoreValues}
use Rattle.policy_eval.specs.Fitting.{CoreFits}
use Rattle.policy_eval.specs.Obligations.{MeetsHandlerObligations}
use Rattle.round_model.specs.declared.entry.Entry.{Entry}
use Rattle.round_model.specs.declared.plan.Plan.{Plan}
use Rattle.round_model.specs.After.{after}
use Rattle.round_model.specs.Choices.{values_in}
use Rattle.round_model.specs.Cores.{seen_of}
use Rattle.round_model.specs.Fits.{Fits}
use Rattle.round_model.specs.Reads.{values_of}
use Rattle.round_model.proofs.Outcomes.{values_All}
use Rattle.core_state.specs.Logs.{after_last}
use Rattle.core_state.specs.Views.{CoreView}
use Rattle.core_state.proofs.Quiet.{last_within}
use Rattle.round_model.specs.Entries.{touches}
use Rattle.core_moves.specs.Code.Changes.{HoldsAt, IsCountable}
use Rattle.core_moves.specs.Cores.{AreCoresOf, AreReached, CoresView, shown}
use Rattle.core_moves.specs.Sights.{values_now}
use Rattle.core_moves.proofs.Fresh.{value_now}
use Rattle.core_moves.proofs.Reached.{countable, seen_fits}
use Rattle.core_moves.proofs.Shown.{all_shown, holds_shown, shown_count, shown_some}

-- the core was seen as it is
abbrev pub IsSeenAt : Plan → List CoreView → ℕ → CoreValues → Type 0
IsSeenAt plan cores c seen = HoldsAt cores c (λ y. seen ≡ values_of plan c (seen_of y.core))

module _ (p : Meaning) (plan : Plan) (v : CoresView) where
  -- that is what the history left
  pub seen_is : (h : List Entry) → AreCoresOf p plan h v → (c : ℕ) (seen : CoreValues) → c < plan.cores → IsSeenAt plan v.cores c seen
      → seen ≡ values_of plan c (seen_of (after p plan h c))
  seen_is h are c seen there is = is (shown p plan h (after p plan h) c) (shown_some p plan h (after p plan h) v are c there)

  -- and what a core reads that looks just now
  pub seen_now : (h : List Entry) → AreCoresOf p plan h v → (a c : ℕ) (seen : CoreValues) → c < plan.cores → IsSeenAt plan v.cores c seen → seen ≡ values_now p plan h a c
  seen_now h are a c seen there is = seen_is h are c seen there is ∙ sym (value_now p plan h a c there)

  module _ (reached : AreReached p plan v) where
    pub count : length v.cores ≡ plan.cores
    count = let h = reached.0 in shown_count p plan h (after p plan h) v reached.1.are

    pub in_sight : (c : ℕ) → c < plan.cores → c < length v.cores
    in_sight c there = omega (arith, count)

    -- the position behind a log's last entry is one
    pub log_ends : (c : ℕ) → c < plan.cores → HoldsAt v.cores c (λ y. after_last 0 y.log ≤ MAX_ENTRIES)
    log_ends c there =
        let h = reached.0 in
        holds_shown p plan h (after p plan h) v reached.1.are (λ y. after_last 0 y.log ≤ MAX_ENTRIES) c there
        (let last = last_within (touches c) h in let within = reached.1.within in let few = reached.1.are.limits.few_entries in omega arith)

    module _ (fits : Fits p plan) (handlers : MeetsHandlerObligations p) where
      pub all_countable : All IsCountable v.cores
      all_countable = let h = reached.0 in all_shown p plan h (after p plan h) v reached.1.are IsCountable (countable p plan fits handlers h reached.1.legal)

      -- its numbers lie in the policy's ranges
      pub seen_core_fits : (c : ℕ) (seen : CoreValues) → c < plan.cores → IsSeenAt plan v.cores c seen → CoreFits p seen
      seen_core_fits c seen there is =
          let h = reached.0 in
          subst (CoreFits p) (sym (seen_is h reached.1.are c seen there is)) (seen_fits p plan fits handlers h reached.1.legal c there)

      -- and so do those of all cores
      pub seen_all_fit : (values : List CoreValues) → length values ≡ MAX_CORES → ((c : ℕ) → c < plan.cores → IsSeenAt plan v.cores c (values_in values c)) → All (CoreFits p) (take plan.cores values)
      seen_all_fit values len each =
          values_All (CoreFits p) plan.cores values (λ c there. seen_core_fits c (values_in values c) there (each c there)) (omega (arith, reached.1.are.limits.few_cores))
