-- Two records are the same whose fields are.
use Rattle.std.proofs.Common.{◌≡◌, ap, ◌∙◌}
use Rattle.sched_base.specs.declared.task.Task.{Task}
use Rattle.round_model.specs.declared.state.ModelCore.{ModelCore}

pub same_task : (s t : Task) → s.id ≡ t.id → s.weight ≡ t.weight → s.attrs ≡ t.attrs → s.place ≡ t.place → s ≡ t
same_task s t id weight attrs place =
    ap (λ x. record s { id = x }) id
    ∙ (ap (λ x. record s { id = t.id; weight = x }) weight
    ∙ (ap (λ x. record s { id = t.id; weight = t.weight; attrs = x }) attrs
    ∙ ap (λ x. record s { id = t.id; weight = t.weight; attrs = t.attrs; place = x }) place))

pub same_core : (m n : ModelCore) → m.current ≡ n.current → m.queue ≡ n.queue → m.blocked ≡ n.blocked → m.consts ≡ n.consts → m ≡ n
same_core m n current queue blocked consts =
    ap (λ x. record m { current = x }) current
    ∙ (ap (λ x. record m { current = n.current; queue = x }) queue
    ∙ (ap (λ x. record m { current = n.current; queue = n.queue; blocked = x }) blocked
    ∙ ap (λ x. record m { current = n.current; queue = n.queue; blocked = n.blocked; consts = x }) consts))
