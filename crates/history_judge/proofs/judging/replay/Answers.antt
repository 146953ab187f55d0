-- A history that is found to be whole is legal, and so it keeps the laws of a policy that meets its obligations.
use Rattle.std.proofs.Common.{subst}
use Rattle.policy_tree.specs.Meaning.{meaning_of}
use Rattle.round_model.specs.Legal.{Legal}
use Rattle.round_laws.proofs.MainTheorem.{main_theorem}
use Rattle.history_judge.proofs.judging.replay.Goals as goal

pub returns-then-not-round_due-clause-laws : goal.returns-then-not-round_due-clause-laws
returns-then-not-round_due-clause-laws c met =
    let p = meaning_of c.args.policy.now in
    main_theorem p met c.args.plan.now c.args.history.now c.requires.fits
    (subst (Legal p c.args.plan.now) c.as_slice.ensures.items c.in_ok-past.ensures.stands.legal)
