-- The position of a draw, against all that its seat knows.
use Rattle.std.proofs.Common.{◌≡◌, ℕ, ◌<◌, List, length, sym, ap, ◌∙◌, subst, arith, length-take}
use lib.ListN.{get_elem?}
use Rattle.round_model.specs.declared.entry.Entry.{Entry}
use Rattle.round_model.specs.Reads.{round_start}
use Rattle.round_model.proofs.Longer.{start_within}
use Rattle.core_state.specs.declared.logged.Logged.{Logged}
use Rattle.core_table.specs.declared.views.Role.{Role}
use Rattle.core_table.specs.declared.views.Role.TheVariants as role
use Rattle.core_table.specs.declared.views.Turn.{Turn}
use Rattle.core_table.specs.declared.views.Turn.TheVariants as turn
use Rattle.core_table.specs.declared.views.View.{View}
use Rattle.core_table.specs.Logs.{log_at, own_log, stands_in}
use Rattle.core_table.specs.Views.{meaning_in}
use Rattle.core_table.specs.Told.{Agrees, IsTrueRole, IsTrueTurn}
use Rattle.core_table.specs.Above.{AreBelow, IsAbove, IsRoleBelow, IsTurnBelow}
use Rattle.core_table.proofs.Histories.{log_below, own_below}

log_is_below : (n c : ℕ) (h : List Entry) (log : List Logged) → log ≡ log_at n c h → AreBelow (length h) log
log_is_below n c h log is i x at = let below = log_below (stands_in n c) 0 h i x (ap (λ (l : List Logged). get_elem? l i) (sym is) ∙ at) in omega arith

own_is_below : (c : ℕ) (h : List Entry) (own : List Logged) → own_log c h ≡ own → AreBelow (length h) own
own_is_below c h own is i x at = own_below c h i x (ap (λ (l : List Logged). get_elem? l i) is ∙ at)

turn_below : (h : List Entry) (c : ℕ) (t : Turn) → IsTrueTurn h c t → IsTurnBelow (length h) t
turn_below h c turn.Idle t = tt
turn_below h c turn.Out t = tt
turn_below h c (turn.Done own) t = own_is_below c h own t

role_below : (v : View) (h : List Entry) (own : List Logged) (role : Role) → IsTrueRole (meaning_in v) v.plan h own role → IsRoleBelow (length h) own role
role_below v h own (role.Opening merged turns) t = (
  let m = ap length t.is_merged in let k = length-take (round_start h) h in let s = start_within h in omega arith,
  λ c u at. turn_below h c u (t.are_true c u at),
)
role_below v h own (role.Core c none_due) t = own_is_below c h own (sym t.is_own)
role_below v h own role.Spent t = tt

pub above : (v : View) (h : List Entry) (n : ℕ) → Agrees v h → length h ≡ n → n < v.plan.limit → IsAbove v n
above v h n ag count low = subst (IsAbove v) count record {
  role = role_below v h v.own v.role ag.role;
  logs = λ i x at. log_is_below v.plan.cores x.core h x.state.log (ag.held i x at).now.log;
  notes = λ i x at. (ag.notes i x at).within;
  limit = omega arith;
}
