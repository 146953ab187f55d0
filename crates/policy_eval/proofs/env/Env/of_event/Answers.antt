use Rattle.std.proofs.Common.{◌≡◌, ap, ◌∙◌, Bool, true, false, cond, refl}
use Rattle.policy_eval.specs.Sights.{assigned, event_values, no_attributes}
use Rattle.policy_eval.proofs.env.Env.of_event.Goals as goal
use mir.Val.{bool_byte}

as_number : (b : Bool) → bool_byte b ≡ cond b 1 0
as_number true = refl
as_number false = refl

pub returns : goal.returns
unfolding event_values
returns c =
    c.assigned.ensures
    ∙ ap (λ fresh. assigned 0 0 0 0 c.args.task.now.weight fresh c.args.consts.now no_attributes c.args.task.now.attrs) (c.from.ensures ∙ as_number c.args.fresh)
