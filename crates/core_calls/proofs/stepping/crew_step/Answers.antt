use Rattle.std.proofs.Common.{◌≡◌, ◌∙◌, [], None, inl, refl, ap}
use Rattle.round_model.specs.declared.entry.Did.TheVariants as did
use Rattle.select_phase.specs.declared.looks.Look.{Look}
use Rattle.turn_steps.specs.declared.asking.Told.TheVariants as told
use Rattle.turn_steps.specs.declared.reached.Reached.TheVariants as reached
use Rattle.turn_steps.specs.Reaches.{look_in}
use Rattle.core_calls.proofs.stepping.crew_step.Goals as goal

pub enter-requires-clause-awaits : goal.enter-requires-clause-awaits
enter-requires-clause-awaits g c = (c.in-Arrive.ensures.awaits told.Arrived).0 refl

pub wake_or_work-requires-clause-awaits : goal.wake_or_work-requires-clause-awaits
wake_or_work-requires-clause-awaits g c = (c.in-Wake.ensures.awaits told.Woke).0 (inl refl)

pub work-requires-clause-awaits : goal.work-requires-clause-awaits
work-requires-clause-awaits g c = (c.in-Work.ensures.awaits (told.Worked did.Nothing)).0 (did.Nothing, refl)

pub look_behind_gate-requires-clause-awaits : goal.look_behind_gate-requires-clause-awaits
look_behind_gate-requires-clause-awaits g c _ _ = let any : Look = record { by = 0; reads = []; choice = None } in (c.in-Look.ensures.awaits (told.Looked any)).0 (any, refl)

pub try_by-requires-clause-awaits : goal.try_by-requires-clause-awaits
try_by-requires-clause-awaits g c =
    let look = c.in-Act.look in let kept = (c.in-Act.ensures.awaits told.Acted).0 refl in let said = c.in-Act.ensures.look look refl in
    let some = ap look_in kept.2 in let same : kept.1 ≡ look = cc in (kept.0, kept.2 ∙ ap (reached.Looked kept.0) same)
