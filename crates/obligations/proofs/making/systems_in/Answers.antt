use Rattle.std.proofs.Common.{◌∙◌, All, map, subst, sym, ap}
use Rattle.policy_tree.specs.Meaning.{meaning_of}
use Rattle.linear_form.specs.System.{IsBound}
use Rattle.obligations.specs.Systems.{bound_of}
use Rattle.obligations.proofs.Made.{all_bounds}
use Rattle.obligations.proofs.making.systems_in.Goals as goal

pub systems_of-requires-clause-bounds : goal.systems_of-requires-clause-bounds
systems_of-requires-clause-bounds c =
    let p = meaning_of c.args.policy.now in let vars = c.args.kept.now.vars.items in
    subst (All IsBound) (sym (c.as_slice-2.ensures.value ∙ (c.in_ok-bounds.ensures ∙ ap (map (bound_of p)) c.as_slice.ensures.value)))
    (all_bounds p c.requires.policy vars c.requires.known)
