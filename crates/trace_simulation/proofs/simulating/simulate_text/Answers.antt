-- An answer of serial play is one of a simulation.
use Rattle.std.proofs.Common.{subst}
use Rattle.policy_tree.specs.Meaning.{meaning_of}
use Rattle.trace_play.specs.Plays.{HasFault, IsPlayOf, IsShown, PlaysCores}
use Rattle.trace_simulation.proofs.simulating.simulate_text.Goals as goal

pub returns-in-Broken-clause-simulation : goal.returns-in-Broken-clause-simulation
returns-in-Broken-clause-simulation c =
    let text = c.args.text.now in
    subst (λ policy. HasFault (meaning_of policy) text c.in-Broken.told) c.policy.ensures.policy
    (subst (IsPlayOf (meaning_of c.policy.result.now) text) c.in-Broken.is c.in_ok-told.ensures.play)

pub returns-in-Played-clause-simulation : goal.returns-in-Played-clause-simulation
returns-in-Played-clause-simulation c =
    let text = c.args.text.now in
    subst (λ policy. PlaysCores (meaning_of policy) text c.in-Played.told) c.policy.ensures.policy
    (subst (IsPlayOf (meaning_of c.policy.result.now) text) c.in-Played.is c.in_ok-told.ensures.play)

pub returns-in-Played-clause-shown : goal.returns-in-Played-clause-shown
returns-in-Played-clause-shown c = subst IsShown c.in-Played.is c.in_ok-told.ensures.shown
