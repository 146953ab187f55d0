-- The policy `fair` meets its obligations.
use Rattle.std.proofs.Common.{arith}
use Rattle.std.proofs.lemmas.Int.{ints}
use Rattle.policy_tree.specs.declared.typed.Event.{Event}
use Rattle.policy_tree.specs.declared.typed.Event.TheVariants as event
use Rattle.policy_eval.specs.Events.{holding_cases}
use Rattle.policy_eval.specs.Obligations.{MeetsBalanceObligations, MeetsHandlerObligations, MeetsObligations, NoGap, NoOverlap}
use Rattle.policy_eval.specs.Sights.{pair_values}
use Rattle.policy_eval.proofs.Statements.{all_obligations}
use Rattle.fair_policy.specs.Fair.{fair_meaning}

fair_balance : MeetsBalanceObligations fair_meaning
unfolding pair_values
fair_balance = record {
  idle_sees_overloaded = λ own victim fits other idle busy. grind (arith, ints);
  victim_is_overloaded = λ own victim fits other sees. let d = other.loads.heavy in grind (arith, ints);
  move_narrows_gap = λ own victim weight fits other is sees queued.
      let a = fits.loads.light in let b = fits.loads.heavy in let c = other.loads.light in let d = other.loads.heavy in let e = is.least in let f = is.greatest in grind (arith, ints);
  further_move_narrows_gap = tt;
}

fair_no_overlap : (e : Event) → NoOverlap fair_meaning e
unfolding holding_cases
fair_no_overlap event.Enqueue fresh consts t held fits = omega arith
fair_no_overlap event.Tick fresh consts t held fits = omega arith
fair_no_overlap event.Yield fresh consts t held fits = omega arith
fair_no_overlap event.Block fresh consts t held fits = omega arith

fair_no_gap : (e : Event) → NoGap fair_meaning e
unfolding holding_cases
fair_no_gap event.Enqueue fresh consts t held fits = omega arith
fair_no_gap event.Tick fresh consts t held fits = omega arith
fair_no_gap event.Yield fresh consts t held fits = omega arith
fair_no_gap event.Block fresh consts t held fits = omega arith

pub fair_handlers_meet : MeetsHandlerObligations fair_meaning
fair_handlers_meet = record { no_overlap = fair_no_overlap; no_gap = fair_no_gap }

pub fair_meets : MeetsObligations fair_meaning
fair_meets = all_obligations fair_meaning fair_balance fair_handlers_meet
