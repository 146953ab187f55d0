use Rattle.std.proofs.Common.{ap, sym, subst}
use Rattle.policy_tree.specs.Meaning.{PlaceTree, meaning_of, place_tree}
use Rattle.round_model.specs.Choices.{target_by, target_of}
use Rattle.round_model.specs.Outcomes.{values_at}
use Rattle.round_model.specs.Rows.{PlacementReads}
use Rattle.round_model.specs.Scenes.{scene_of}
use Rattle.round_judge.proofs.glances.placement.Goals as goal

pub returns-then-is_empty : goal.returns-then-is_empty
unfolding target_of
returns-then-is_empty c history stands =
    let p = meaning_of c.args.policy.now in let plan = c.args.plan.now in let rule = sym (ap place_tree c.in-Here.is) in (
      subst (λ (r : PlaceTree). PlacementReads r plan (scene_of p plan history c.args.core) c.args.reads.now) rule (c.is_empty.ensures.0 c.if-is_empty.true),
      ap (λ (r : PlaceTree). target_by r plan.cores (values_at p plan history c.args.reads.now) c.args.core) (ap place_tree c.in-Here.is),
    )

pub returns-then-were_made : goal.returns-then-were_made
unfolding scene_of
returns-then-were_made c history stands =
    let p = meaning_of c.args.policy.now in let plan = c.args.plan.now in let rule = sym (ap place_tree c.in-Least.is) in (
      subst (λ (r : PlaceTree). PlacementReads r plan (scene_of p plan history c.args.core) c.args.reads.now) rule ((c.were_made.ensures.fit p history stands).0 c.if-were_made.true),
      c.placed.ensures history stands,
    )

pub returns-else-were_made : goal.returns-else-were_made
unfolding scene_of
returns-else-were_made c history stands = λ made.
    let p = meaning_of c.args.policy.now in let plan = c.args.plan.now in let rule = ap place_tree c.in-Least.is in
    let fits = subst (λ (r : PlaceTree). PlacementReads r plan (scene_of p plan history c.args.core) c.args.reads.now) rule made in
    let yes = (c.were_made.ensures.fit p history stands).1 fits in let no = c.if-were_made.false in absurd (cc)
