-- A steal fails only where thief or victim changed after it was read: else the filter would hold of them as they are, the
-- victim would be overloaded, and one of its threads would wait there. In a still round only a steal changes a core.
use Rattle.std.proofs.Common.{◌≡◌, ◌≢◌, ℕ, suc, ◌<◌, ◌≤◌, Bool, true, false, ◌⊎◌, inl, inr, List, length, take, refl, sym, ap, ap₂, ◌∙◌, arith}
use Rattle.std.specs.Prelude.{IsFalse, IsTrue, slice_index}
use Rattle.std.proofs.lemmas.List.{length-take}
use mathlib.Core.Option.{some}
use lib.ListN.{get_elem?}
use Rattle.policy_tree.specs.Meaning.{Meaning}
use Rattle.policy_eval.specs.declared.env.CoreValues.{CoreValues}
use Rattle.policy_eval.specs.Obligations.{MeetsObligations}
use Rattle.policy_eval.specs.Sights.{pair_values}
use Rattle.policy_eval.specs.Values.{holds}
use Rattle.policy_eval.proofs.Statements.{balance_obligations, handler_obligations}
use Rattle.round_model.specs.declared.entry.Entry.{Entry}
use Rattle.round_model.specs.declared.entry.Entry.TheVariants as entry
use Rattle.round_model.specs.declared.plan.Plan.{Plan}
use Rattle.round_model.specs.After.{after}
use Rattle.round_model.specs.Attempts.{present_values}
use Rattle.round_model.specs.FailsExplained.{FailExplained, FailedStealsLaw}
use Rattle.round_model.specs.Fits.{Fits}
use Rattle.round_model.specs.Kinds.{is_steal}
use Rattle.round_model.specs.Legal.{Legal}
use Rattle.round_model.specs.Outcomes.{values_at}
use Rattle.round_model.specs.Reads.{IsReadOf, round_start, value_read, values_of}
use Rattle.round_model.specs.Rounds.{disturbs}
use Rattle.round_model.proofs.Grows.{legal_prefix}
use Rattle.round_laws.proofs.MoveObligations.{move_obligations}
use Rattle.round_laws.proofs.SeenChanges.{changes_between, seen_same_or_not}
use Rattle.round_laws.proofs.Choosing.{FailedSteal, PassesNow, legal_fail, some_wait}
use Rattle.round_laws.proofs.KeptLoads.{keeps_loads}
use Rattle.round_laws.proofs.Positions.{entry_before, same_round, seen_before}
use Rattle.round_laws.proofs.Thefts.{present_fits}

module _ (p : Meaning) (plan : Plan) (history : List Entry) (fits : Fits p plan) (obligations : MeetsObligations p) (legal : Legal p plan history)
    (k by from : ℕ) (reads : List ℕ) (fails : get_elem? history k ≡ some (entry.Fail by from reads)) where
  failed : FailedSteal p plan (take k history) by from reads
  failed = legal_fail p plan (take k history) by from reads (legal k (entry.Fail by from reads) fails)

  -- a core's read is one of the round, and not after the fail
  read_of : (c : ℕ) → c < plan.cores → IsReadOf (round_start (take k history)) (length (take k history)) (slice_index reads c)
  read_of c there = let fit = failed.read in fit.each c 0 (omega (arith, fit.one_each))

  -- a core stands as it was read
  abbrev IsAsRead : ℕ → Type 0
  IsAsRead c = value_read p plan history c (slice_index reads c) ≡ value_read p plan history c k

  -- a core that changed since it was read explains the fail
  explained_by : (c : ℕ) → c < plan.cores → (c ≡ by) ⊎ (c ≡ from) → ¬ IsAsRead c → FailExplained p plan history k
  explained_by c there which differ =
      let read = read_of c there in
      let change = changes_between (value_read p plan history c) (slice_index reads c) k (let early = read.before_entry in omega (arith, length-take k history)) differ in
      let at = change.position in
      let before = change.before_high in
      let behind = change.from_low in
      let found = entry_before history k (entry.Fail by from reads) fails at (omega arith) in
      let same = same_round history at k (let started = read.in_round in omega arith) (omega arith) in
      record {
        cause = at;
        causing = found.0;
        stands = found.1;
        in_round = same;
        explains = record {
          thief = by;
          victim = from;
          reads = reads;
          fails = fails;
          core = c;
          thief_or_victim = which;
          after_read = behind;
          before_fail = before;
          changes = change.changes;
        };
        steal = λ still. by_kind at found.0 found.1 change.changes (still at found.0 found.1 (omega arith) (omega arith)) (is_steal found.0) refl;
      }
    where
      by_kind : (at : ℕ) (e : Entry) → get_elem? history at ≡ some e → value_read p plan history c at ≢ value_read p plan history c (suc at) → IsFalse (disturbs e)
          → (b : Bool) → is_steal e ≡ b → IsTrue (is_steal e)
      by_kind at e stands changes calm true is = is
      by_kind at e stands changes calm false is = absurd (changes (sym (keeps_loads p plan history fits (move_obligations p obligations) legal at c e stands is calm there)))

  -- the values read of a core that is as it was are its present ones
  values_same : (c : ℕ) → c < plan.cores → IsAsRead c → values_at p plan (take k history) reads c ≡ present_values plan (after p plan (take k history)) c
  values_same c there same =
      let read = read_of c there in
      let before : slice_index reads c ≤ k = let early = read.before_entry in omega (arith, length-take k history) in
      ap (values_of plan c) (seen_before p plan history k c (slice_index reads c) before ∙ same)

  -- not both are as they were read
  one_changed : IsAsRead by → IsAsRead from → ⊥
  one_changed thief_same victim_same =
      let h = take k history in
      let m = after p plan h in
      let so_far = legal_prefix p plan history k legal in
      let handlers = handler_obligations p obligations in
      let thief_there = failed.thief_there in
      let victim_there = failed.candidate.there in
      let now : PassesNow p plan m by from =
      sym (ap₂ (λ (x y : CoreValues). holds (pair_values x y) p.filter) (values_same by thief_there thief_same) (values_same from victim_there victim_same)) ∙ failed.candidate.passes in
      some_wait (m from)
      ((balance_obligations p obligations).victim_is_overloaded (present_values plan m by) (present_values plan m from)
      (present_fits p plan fits handlers h so_far by thief_there) (present_fits p plan fits handlers h so_far from victim_there) now)
      (failed.nothing now)

  fail_explained : FailExplained p plan history k
  fail_explained =
      by_cores (seen_same_or_not (value_read p plan history by (slice_index reads by)) (value_read p plan history by k))
      (seen_same_or_not (value_read p plan history from (slice_index reads from)) (value_read p plan history from k))
    where
      by_cores : IsAsRead by ⊎ (¬ IsAsRead by) → IsAsRead from ⊎ (¬ IsAsRead from) → FailExplained p plan history k
      by_cores (inr thief) victim = explained_by by failed.thief_there (inl refl) thief
      by_cores (inl thief) (inr victim) = explained_by from failed.candidate.there (inr refl) victim
      by_cores (inl thief) (inl victim) = absurd (one_changed thief victim)

-- the law of failed steals
pub failed_steals : FailedStealsLaw
failed_steals p plan history fits obligations legal k by from reads fails = fail_explained p plan history fits obligations legal k by from reads fails
