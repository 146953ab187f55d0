use Rattle.std.proofs.Common.{◌≡◌}
use Rattle.core_table.proofs.steps.hold_rounds.Given as goal

-- the seat is as it was
abbrev pub invariant-loop : goal.invariant-loop
invariant-loop g l =
    (goal.iterator-loop g).can_next l.iterator' × (goal.iterator-loop g).is_finite l.iterator'
    × (l.place.me ≡ l.fn.place.me) × (l.place.table_id ≡ l.fn.place.table_id) × (l.place.id ≡ l.fn.place.id)
