-- What the compiled policies owe.
use Rattle.std.proofs.Common.{◌≡◌, ◌+◌, ◌≤◌, Bool, false, true, cond, refl, sym, ◌∙◌, arith}
use Rattle.std.proofs.lemmas.Int.{ints}
use Rattle.policy_tree.specs.declared.typed.Event.{Event}
use Rattle.policy_tree.specs.declared.typed.Event.TheVariants as event
use Rattle.policy_eval.specs.declared.env.CoreValues.{CoreValues}
use Rattle.policy_eval.specs.Events.{holding_cases}
use Rattle.policy_eval.specs.Obligations.{IdleSeesOverloaded, MeetsBalanceObligations, MeetsHandlerObligations, MoveNarrowsGap, NoGap, NoOverlap, VictimIsOverloaded}
use Rattle.policy_eval.specs.Sights.{pair_values}
use Rattle.policy_eval.specs.Values.{holds}
use Rattle.policy_eval.proofs.Statements.{all_obligations}
use Rattle.level_policy.specs.Compiled.{compiled}
use Rattle.level_policy.proofs.Passing.{holds-compiled}
use Rattle.level_tests.specs.CompiledRows.{CompiledOwes}
use Rattle.level_tests.specs.LevelPolicies.{gap_of, numa, numa_cut, overlapping, same, seen}
use Rattle.level_tests.proofs.Fitting.{compiled_fits, node_fits}

numa_balance : MeetsBalanceObligations (compiled numa)
unfolding pair_values
numa_balance = record {
  idle_sees_overloaded = λ own victim fits other idle busy. grind (arith, ints);
  victim_is_overloaded = λ own victim fits other sees. grind (arith, ints);
  move_narrows_gap = λ own victim weight fits other is sees queued.
      let a = fits.loads.light in let b = fits.loads.heavy in let c = other.loads.light in let d = other.loads.heavy in let e = is.least in let f = is.greatest in grind (arith, ints);
  further_move_narrows_gap = tt;
}

-- whichever level a core is of, the filter asks for the same gap
same_filter : (first second gap : Bool) → cond first gap (cond second gap (cond true gap false)) ≡ gap
same_filter true second gap = refl
same_filter false true gap = refl
same_filter false false gap = refl

asks_gap : (own victim : CoreValues) → holds (pair_values own victim) (compiled overlapping).filter ≡ holds (pair_values own victim) (gap_of 2)
asks_gap own victim =
    holds-compiled own victim overlapping.levels
    ∙ same_filter (holds (pair_values own victim) (same 0)) (holds (pair_values own victim) (same 1)) (holds (pair_values own victim) (gap_of 2))

sees_gap : (own victim : CoreValues) → own.nr ≡ 0 → 2 ≤ victim.nr → holds (pair_values own victim) (gap_of 2) ≡ true
unfolding pair_values
sees_gap own victim idle busy = grind (arith, ints)

has_gap : (own victim : CoreValues) → holds (pair_values own victim) (gap_of 2) ≡ true → own.nr + 2 ≤ victim.nr
unfolding pair_values
has_gap own victim sees = grind (arith, ints)

overlapping_balance : MeetsBalanceObligations (compiled overlapping)
overlapping_balance = record {
  idle_sees_overloaded = λ own victim fits other idle busy. asks_gap own victim ∙ sees_gap own victim idle busy;
  victim_is_overloaded = λ own victim fits other sees. let gap = has_gap own victim (sym (asks_gap own victim) ∙ sees) in omega arith;
  move_narrows_gap = λ own victim weight fits other is sees queued.
      let gap = has_gap own victim (sym (asks_gap own victim) ∙ sees) in
      let a = fits.loads.light in let b = fits.loads.heavy in let c = other.loads.light in let d = other.loads.heavy in let e = is.least in let f = is.greatest in grind (arith, ints);
  further_move_narrows_gap = tt;
}

-- the handlers that a policy has of itself
numa_no_overlap : (e : Event) → NoOverlap (compiled numa) e
unfolding holding_cases
numa_no_overlap event.Enqueue fresh consts t held fits = omega arith
numa_no_overlap event.Tick fresh consts t held fits = omega arith
numa_no_overlap event.Yield fresh consts t held fits = omega arith
numa_no_overlap event.Block fresh consts t held fits = omega arith

numa_no_gap : (e : Event) → NoGap (compiled numa) e
unfolding holding_cases
numa_no_gap event.Enqueue fresh consts t held fits = omega arith
numa_no_gap event.Tick fresh consts t held fits = omega arith
numa_no_gap event.Yield fresh consts t held fits = omega arith
numa_no_gap event.Block fresh consts t held fits = omega arith

numa_handlers : MeetsHandlerObligations (compiled numa)
numa_handlers = record { no_overlap = numa_no_overlap; no_gap = numa_no_gap }

overlapping_no_overlap : (e : Event) → NoOverlap (compiled overlapping) e
unfolding holding_cases
overlapping_no_overlap event.Enqueue fresh consts t held fits = omega arith
overlapping_no_overlap event.Tick fresh consts t held fits = omega arith
overlapping_no_overlap event.Yield fresh consts t held fits = omega arith
overlapping_no_overlap event.Block fresh consts t held fits = omega arith

overlapping_no_gap : (e : Event) → NoGap (compiled overlapping) e
unfolding holding_cases
overlapping_no_gap event.Enqueue fresh consts t held fits = omega arith
overlapping_no_gap event.Tick fresh consts t held fits = omega arith
overlapping_no_gap event.Yield fresh consts t held fits = omega arith
overlapping_no_gap event.Block fresh consts t held fits = omega arith

overlapping_handlers : MeetsHandlerObligations (compiled overlapping)
overlapping_handlers = record { no_overlap = overlapping_no_overlap; no_gap = overlapping_no_gap }

-- an idle core of the other node doesn't see two threads
cut_misses : ¬ IdleSeesOverloaded (compiled numa_cut)
unfolding pair_values
cut_misses sees =
    let bad : false ≡ true = sees (seen 0 0 0) (seen 2 1 0) (compiled_fits numa_cut (seen 0 0 0) (node_fits 0 0 (omega arith) (omega arith))) (compiled_fits numa_cut (seen 2 1 0) (node_fits 2 1 (omega arith) (omega arith))) refl (omega arith) in
    absurd (cc)

cut_victim : VictimIsOverloaded (compiled numa_cut)
unfolding pair_values
cut_victim own victim fits other sees = grind (arith, ints)

cut_narrows : MoveNarrowsGap (compiled numa_cut)
unfolding pair_values
cut_narrows own victim weight fits other is sees queued =
    let a = fits.loads.light in let b = fits.loads.heavy in let c = other.loads.light in let d = other.loads.heavy in let e = is.least in let f = is.greatest in grind (arith, ints)

pub compiled_owing : CompiledOwes
compiled_owing = record {
  meets = all_obligations (compiled numa) numa_balance numa_handlers;
  overlapping_meets = all_obligations (compiled overlapping) overlapping_balance overlapping_handlers;
  cut_sees_too_little = cut_misses;
  cut_takes_no_last = cut_victim;
  cut_narrows = cut_narrows;
}
