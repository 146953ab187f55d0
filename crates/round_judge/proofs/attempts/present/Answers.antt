use Rattle.std.proofs.Common.{◌≡◌, sym, ap, ◌∙◌, subst, arith}
use Rattle.std.proofs.lemmas.Option.{same_Some}
use Rattle.policy_eval.specs.Fitting.{CoreFits}
use Rattle.policy_eval.specs.Sights.{no_attributes}
use Rattle.round_model.specs.Bounds.{CoreInBounds}
use Rattle.round_model.specs.Cores.{seen_of}
use Rattle.round_model.specs.Reads.{values_of}
use Rattle.round_model.proofs.Finding.{All-at}
use Rattle.round_judge.proofs.attempts.present.Goals as goal

pub returns-clause-fits : goal.returns-clause-fits
returns-clause-fits c p fits bounds =
    let plan = c.args.plan.now in let core = c.args.core in
    let held = All-at (CoreInBounds p) c.args.state.now bounds core c.get.result.now c.get.ensures.item in
    subst (CoreFits p) (sym (c.values_of.ensures ∙ ap (values_of plan core) c.seen-seen.ensures))
    (record { loads = held.loads; consts = fits.consts core no_attributes (omega (arith, fits.consts_each, c.requires.core)) })

pub returns-clause-values : goal.returns-clause-values
returns-clause-values c x is =
    let plan = c.args.plan.now in
    let same : c.get.result.now ≡ x = same_Some c.get.result.now x (sym c.get.ensures.item ∙ is) in
    c.values_of.ensures ∙ ap (values_of plan c.args.core) (c.seen-seen.ensures ∙ ap seen_of same)
