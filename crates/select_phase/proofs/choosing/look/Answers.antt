use Rattle.std.proofs.Common.{ap, ◌∙◌, sym, arith}
use Rattle.policy_tree.specs.Meaning.{meaning_of}
use Rattle.round_model.specs.declared.plan.Plan.{Plan}
use Rattle.core_table.specs.Public.{view_of}
use Rattle.select_phase.proofs.Deciding.{all_fit, has_looked, resolved}
use Rattle.select_phase.proofs.choosing.look.Goals as goal

pub choice-requires-clause-policy : goal.choice-requires-clause-policy
choice-requires-clause-policy c =
    let e = c.glance-reads.ensures in let o = e.seat.0.opening in
    resolved (view_of c.glance-reads.new.seat) c.glance-reads.result c.glance-reads.new.values c.cores.result (meaning_of c.args.policy.now)
    (ap meaning_of (c.requires.policy ∙ sym o.policy)) (c.cores.ensures ∙ sym (ap (λ (p : Plan). p.cores) o.plan)) e.known e.seen

pub choice-requires-clause-values : goal.choice-requires-clause-values
choice-requires-clause-values c =
    let e = c.glance-reads.ensures in let o = e.seat.0.opening in
    all_fit (view_of c.glance-reads.new.seat) c.glance-reads.result c.glance-reads.new.values c.cores.result (meaning_of c.args.policy.now)
    (ap meaning_of (c.requires.policy ∙ sym o.policy)) (c.cores.ensures ∙ sym (ap (λ (p : Plan). p.cores) o.plan)) e.known e.seen

pub returns-clause-looked : goal.returns-clause-looked
returns-clause-looked c =
    let e = c.glance-reads.ensures in let o = e.seat.0.opening in let n = ap (λ (p : Plan). p.cores) o.plan in let low = c.requires.core in
    has_looked (view_of c.glance-reads.new.seat) c.glance-reads.result c.glance-reads.new.values c.cores.result (meaning_of c.args.policy.now)
    (ap meaning_of (c.requires.policy ∙ sym o.policy)) (c.cores.ensures ∙ sym n) e.known e.seen
    c.args.core c.choice.result (omega arith) c.choice.ensures.choice c.choice.ensures.there
