use Rattle.std.proofs.Common.{◌≡◌, drop, find}
use Rattle.round_model.specs.Scenes.{is_due_blocked}
use Rattle.core_state.proofs.state.CoreState.due.Given as goal

-- the threads passed over wake later
abbrev pub invariant-loop-blocked : goal.invariant-loop-blocked
invariant-loop-blocked l =
    find (is_due_blocked l.round) (drop l.blocked-index l.blocked-items) ≡ find (is_due_blocked l.round) l.self.core.blocked
