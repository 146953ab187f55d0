use Rattle.std.proofs.Common.{ap, ◌∙◌}
use Rattle.policy_tree.specs.Meaning.{Meaning, meaning_of, order_tree}
use Rattle.runtime_tests.proofs.Moments.{fits, opened_is}
use Rattle.runtime_tests.proofs.cores.opened.Goals as goal

pub open-requires-clause-fits : goal.open-requires-clause-fits
open-requires-clause-fits c = fits (meaning_of c.args.policy.now) c.args.plan.now c.requires.policy c.requires.plan

pub returns : goal.returns
returns c =
    c.in_ok-state.ensures
    ∙ opened_is c.args.plan.now (order_tree c.args.policy.now.elect) c.args.core c.requires.plan (ap (λ (p : Meaning). p.elect) c.requires.policy) c.requires.core
