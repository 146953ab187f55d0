-- The state that a history leaves.
use Rattle.std.specs.Prelude.{ℕ, ◌==◌, true, false, cond, List, [], ◌∷◌, Option, Some, None, fold}
use Rattle.policy_tree.specs.Meaning.{Meaning}
use Rattle.round_model.specs.declared.entry.Entry.{Entry}
use Rattle.round_model.specs.declared.entry.Entry.TheVariants as entry
use Rattle.round_model.specs.declared.plan.Plan.{Plan}
use Rattle.round_model.specs.declared.plan.Planned.{Planned}
use Rattle.round_model.specs.declared.state.Blocked.{Blocked}
use Rattle.round_model.specs.declared.state.ModelCore.{ModelCore}
use Rattle.round_model.specs.Cores.{Cores, opening_state}
use Rattle.round_model.specs.Entries.{touches}
use Rattle.round_model.specs.Moves.{admitted, blocked_of, handed_all, received_all, released, taken_from}
use Rattle.round_model.specs.Programs.{entering_task, planned_of}
use Rattle.round_model.specs.Work.{core_after_work}

-- the number of the round after the entry
abbrev pub round_after : ℕ → Entry → ℕ
round_after round (entry.Round number) = number
round_after round e = round

-- the number of the last round that a history began, and 0 before the first
abbrev pub round_of : List Entry → ℕ
round_of history = fold round_after 0 history

-- the target of an Enter: what the plan doesn't have comes nowhere
abbrev pub entered : Meaning → Option Planned → ModelCore → ModelCore
entered p None core = core
entered p (Some t) core = admitted p true (entering_task p t) core

-- the core c of a Wake: the thread leaves the one's blocked list and comes to the other, which may be the same
abbrev pub woken : Meaning → (by at c : ℕ) → Option Blocked → ModelCore → ModelCore
woken p by at c None core = core
woken p by at c (Some b) core =
    let left = cond (by == c) (released b.task.id core) core in
    cond (at == c) (admitted p false b.task left) left

-- the core c of a Steal: what the victim's queue has of these threads leaves it, and comes to the end of the thief's
abbrev pub stolen : (by from c : ℕ) → List ℕ → (victim core : ModelCore) → ModelCore
stolen by from c threads victim core =
    let left = cond (from == c) (handed_all threads core) core in
    cond (by == c) (received_all (taken_from threads victim.queue).found left) left

-- what the entry leaves of a core that it touches
unfoldable pub effect : Meaning → Plan → ℕ → Entry → Cores → ℕ → ModelCore
effect p plan round (entry.Enter thread by at reads) m c = entered p (planned_of plan thread) (m c)
effect p plan round (entry.Wake thread by at reads) m c = woken p by at c (blocked_of thread (m by)) (m c)
effect p plan round (entry.Work by what) m c = core_after_work p plan round (m c)
effect p plan round (entry.Steal by from threads reads) m c =
    stolen by from c threads (m from) (m c)
effect p plan round e m c = m c

-- the cores after one entry of that round: those that it doesn't touch stay
abbrev pub moved : Meaning → Plan → ℕ → Entry → Cores → Cores
moved p plan round e m c = cond (touches c e) (effect p plan round e m c) (m c)

-- the cores after these entries, from these cores in that round
unfoldable pub after_from : Meaning → Plan → ℕ → Cores → List Entry → Cores
after_from p plan round m [] = m
after_from p plan round m (e ∷ es) = after_from p plan (round_after round e) (moved p plan round e m) es

-- the cores after a history
abbrev pub after : Meaning → Plan → List Entry → Cores
after p plan history = after_from p plan 0 (opening_state plan) history
