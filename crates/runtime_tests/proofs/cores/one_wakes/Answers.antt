use Rattle.std.proofs.Common.{◌≡◌, ◌++◌, [], ◌∷◌, Some, option_map, sym, ap, ap₂, subst, ◌∙◌, arith}
use Rattle.sched_base.specs.declared.task.Task.{Task}
use Rattle.round_model.specs.declared.state.Blocked.{Blocked}
use Rattle.round_model.specs.Moves.{blocked_of, released}
use Rattle.core_state.specs.Views.{CoreView, HasRoom}
use Rattle.runtime_tests.specs.Stages.{at_burst, empty, two_left}
use Rattle.runtime_tests.proofs.Moments.{one_released}
use Rattle.runtime_tests.proofs.cores.one_wakes.Goals as goal

emptied : (old new : CoreView) → old ≡ two_left → ◌≡◌ {A = CoreView} new (record old { core = released 1 old.core }) → new ≡ empty
emptied old new is frees = frees ∙ (ap (λ (v : CoreView). let u : CoreView = record v { core = released 1 v.core } in u) is ∙ one_released)

woken_is : (old : CoreView) (t : Task) → old ≡ two_left → option_map (λ (b : Blocked). b.task) (blocked_of 1 old.core) ≡ Some t → t ≡ at_burst 1 1
woken_is old t is there =
    let known : Some (at_burst 1 1) ≡ Some t = sym (ap (λ (v : CoreView). option_map (λ (b : Blocked). b.task) (blocked_of 1 v.core)) is) ∙ there in cc

pub come-requires-clause-task : goal.come-requires-clause-task
come-requires-clause-task c = (1, 1, woken_is c.args.state.now c.release_blocked-woken.result c.requires.state c.release_blocked-woken.ensures.task)

pub come-requires-clause-consts : goal.come-requires-clause-consts
come-requires-clause-consts c =
    ap (λ (v : CoreView). v.core.consts) (emptied c.args.state.now c.release_blocked-woken.new.self c.requires.state c.release_blocked-woken.ensures.core)

pub come-requires-clause-room : goal.come-requires-clause-room
come-requires-clause-room c =
    subst HasRoom (sym (emptied c.args.state.now c.release_blocked-woken.new.self c.requires.state c.release_blocked-woken.ensures.core))
    (record { queue = omega arith; blocked = omega arith })

pub returns : goal.returns
returns c =
    c.come.ensures
    ∙ ap₂ (λ (v : CoreView) (t : Task). let u : CoreView = record v { core = record (v.core) { queue = v.core.queue ++ t ∷ [] } } in u)
    (emptied c.args.state.now c.release_blocked-woken.new.self c.requires.state c.release_blocked-woken.ensures.core)
    (woken_is c.args.state.now c.release_blocked-woken.result c.requires.state c.release_blocked-woken.ensures.task)
