use Rattle.std.proofs.Common.{◌∙◌}
use Rattle.policy_tree.specs.Meaning.{meaning_of}
use Rattle.obligations.proofs.RangesAt.{self_bound, thread_bound, victim_bound}
use Rattle.obligations.proofs.assembling.attribute_bound.Goals as goal

pub returns-then-variable-lt-OTHER_ATTRIBUTES : goal.returns-then-variable-lt-OTHER_ATTRIBUTES
returns-then-variable-lt-OTHER_ATTRIBUTES c =
    c.declared_bound.ensures
    ∙ self_bound (meaning_of c.args.policy.now) c.requires.policy c.args.variable c.requires.attribute c.if-variable-lt-OTHER_ATTRIBUTES.true

pub returns-then-variable-lt-THREAD_ATTRIBUTES : goal.returns-then-variable-lt-THREAD_ATTRIBUTES
returns-then-variable-lt-THREAD_ATTRIBUTES c =
    c.declared_bound-then-variable-lt-THREAD_ATTRIBUTES.ensures
    ∙ victim_bound (meaning_of c.args.policy.now) c.requires.policy c.args.variable c.if-variable-lt-OTHER_ATTRIBUTES.false c.if-variable-lt-THREAD_ATTRIBUTES.true

pub returns-else-variable-lt-THREAD_ATTRIBUTES : goal.returns-else-variable-lt-THREAD_ATTRIBUTES
returns-else-variable-lt-THREAD_ATTRIBUTES c =
    c.declared_bound-else-variable-lt-THREAD_ATTRIBUTES.ensures
    ∙ thread_bound (meaning_of c.args.policy.now) c.requires.policy c.args.variable c.if-variable-lt-THREAD_ATTRIBUTES.false
