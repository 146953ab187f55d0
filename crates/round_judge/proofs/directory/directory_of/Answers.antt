use Rattle.std.proofs.Common.{◌≡◌, ◌+◌, length, ap, ◌∙◌, sym, subst, arith}
use Rattle.sched_base.specs.declared.limits.TheConstants.{MAX_THREADS}
use Rattle.round_model.proofs.Directories.{LeadsFrom, lists_all}
use Rattle.round_judge.proofs.directory.directory_of.Goals as goal

pub returns : goal.returns
returns c p fits =
    let over : c.loop-at.at ≡ 0 = omega arith in let kept = c.from_vec.ensures in
    let room : length c.loop-at.places.items ≡ MAX_THREADS + 1 = omega (arith, c.loop-at.places.ok.0) in
    lists_all c.args.plan.now c.from_vec.result (ap length kept ∙ room)
    (subst (λ directory. LeadsFrom c.args.plan.now.threads directory 0) (sym kept)
    (subst (LeadsFrom c.args.plan.now.threads c.loop-at.places.items) over c.loop-at.invariant.leads)) p fits
