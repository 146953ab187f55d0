use Rattle.std.proofs.Common.{ap, ◌∙◌, sym, arith}
use Rattle.policy_tree.specs.Meaning.{meaning_of}
use Rattle.policy_tree.specs.declared.typed.Policy.{Policy}
use Rattle.round_model.specs.declared.plan.Plan.{Plan}
use Rattle.core_table.specs.Public.{view_of}
use Rattle.select_phase.proofs.Deciding.{all_fit, placed_here, placed_least, resolved}
use Rattle.select_phase.proofs.placing.place.Goals as goal

pub target-requires-clause-policy : goal.target-requires-clause-policy
target-requires-clause-policy c =
    let e = c.glance-reads.ensures in let o = e.seat.0.opening in
    resolved (view_of c.glance-reads.new.seat) c.glance-reads.result c.glance-reads.new.values c.cores.result (meaning_of c.args.policy.now)
    (ap meaning_of (c.requires.policy ∙ sym o.policy)) (c.cores.ensures ∙ sym (ap (λ (p : Plan). p.cores) o.plan)) e.known e.seen

pub target-requires-clause-values : goal.target-requires-clause-values
target-requires-clause-values c =
    let e = c.glance-reads.ensures in let o = e.seat.0.opening in
    all_fit (view_of c.glance-reads.new.seat) c.glance-reads.result c.glance-reads.new.values c.cores.result (meaning_of c.args.policy.now)
    (ap meaning_of (c.requires.policy ∙ sym o.policy)) (c.cores.ensures ∙ sym (ap (λ (p : Plan). p.cores) o.plan)) e.known e.seen

pub returns-in-Here-clause-placed : goal.returns-in-Here-clause-placed
returns-in-Here-clause-placed c =
    let o = c.requires.seat.opening in let n = ap (λ (p : Plan). p.cores) o.plan in let low = c.requires.core in
    placed_here (view_of c.args.seat.now) c.args.core c.empty.result (ap (λ (q : Policy). q.place) (o.policy ∙ sym c.requires.policy) ∙ c.in-Here.is) c.empty.ensures (omega arith)

pub returns-in-Least-clause-placed : goal.returns-in-Least-clause-placed
returns-in-Least-clause-placed c =
    let e = c.glance-reads.ensures in let o = e.seat.0.opening in let n = ap (λ (p : Plan). p.cores) o.plan in let low = c.requires.core in
    placed_least (view_of c.glance-reads.new.seat) c.glance-reads.result c.glance-reads.new.values c.cores.result (meaning_of c.args.policy.now)
    (ap meaning_of (c.requires.policy ∙ sym o.policy)) (c.cores.ensures ∙ sym n) e.known e.seen
    c.in-Least.field-0 c.args.core c.target.result (ap (λ (q : Policy). q.place) (o.policy ∙ sym c.requires.policy) ∙ c.in-Least.is) (omega arith) c.target.ensures
