use Rattle.std.proofs.Common.{ap, ◌∙◌, subst, length, get_or}
use Rattle.policy_tree.specs.Meaning.{meaning_of, place_tree}
use Rattle.policy_tree.specs.Trees.{expr_tree}
use Rattle.policy_eval.specs.Resolved.{IsResolvedPlace}
use Rattle.policy_eval.specs.Sites.{placing}
use Rattle.policy_eval.proofs.Evaluable.{evaluable_expr}
use Rattle.policy_eval.proofs.Wide.{LoadsFit-bound, core_wide}
use Rattle.round_model.specs.Choices.{target_by, target_of, values_in}
use Rattle.round_model.proofs.choices.target.Goals as goal

pub least-requires-clause-expr : goal.least-requires-clause-expr
least-requires-clause-expr c =
    let p = meaning_of c.args.policy.now in
    evaluable_expr p c.requires.policy placing (expr_tree c.in-Least.expr) (subst (IsResolvedPlace p) (ap place_tree c.in-Least.is) c.requires.policy.place)

pub least-requires-clause-values : goal.least-requires-clause-values
least-requires-clause-values c k d inside =
    let p = meaning_of c.args.policy.now in let fits = c.requires.values k d inside in let seen = get_or c.args.values.now k d in
    record { load = LoadsFit-bound p c.requires.policy seen.nr seen.load fits.loads; values = core_wide p c.requires.policy seen fits }

pub returns-in-Here : goal.returns-in-Here
unfolding target_of
returns-in-Here c = ap (λ rule. target_by (place_tree rule) (length c.args.values.now) (values_in c.args.values.now) c.args.own) c.in-Here.is

pub returns-in-Least : goal.returns-in-Least
unfolding target_of
returns-in-Least c =
    ap (λ rule. target_by (place_tree rule) (length c.args.values.now) (values_in c.args.values.now) c.args.own) c.in-Least.is ∙ c.least.ensures
