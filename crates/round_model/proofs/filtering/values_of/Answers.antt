use Rattle.std.proofs.Common.{sym, ap, List, ℤ}
use Rattle.std.proofs.lemmas.Option.{get_or_from_slice_get}
use Rattle.policy_eval.specs.declared.env.CoreValues.{CoreValues}
use Rattle.policy_eval.specs.Sights.{no_attributes}
use Rattle.round_model.proofs.filtering.values_of.Goals as goal

pub returns : goal.returns
returns c =
    ap (λ (consts : List ℤ). let values : CoreValues = record { nr = c.args.seen.nr; load = c.args.seen.load; consts = consts } in values)
    (sym (get_or_from_slice_get c.args.plan.now.consts c.args.core c.get.result.now no_attributes c.get.ensures.item))
