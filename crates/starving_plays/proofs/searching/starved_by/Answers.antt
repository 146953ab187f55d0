use Rattle.std.proofs.Common.{◌≡◌, List, sym, subst, ◌∙◌}
use Rattle.policy_tree.specs.Meaning.{meaning_of}
use Rattle.round_model.specs.declared.entry.Entry.{Entry}
use Rattle.serial_steps.specs.SerialEnds.{EndsWhole, IsPlayed, StopsFull}
use Rattle.starving_plays.proofs.Founds.{found_by, never_full}
use Rattle.starving_plays.proofs.searching.starved_by.Goals as goal

pub returns-in-Ok : goal.returns-in-Ok
returns-in-Ok c =
    let p = meaning_of c.args.policy.now in let plan = c.args.plan.now in
    let ends : EndsWhole p plan c.in-Whole.history = subst (IsPlayed p plan) c.in-Whole.is c.in_ok-history.ensures in
    found_by p plan c.as_slice.result.now c.in-Ok.starved (c.is_lone_crowd.ensures.0 c.if-not-is_lone_crowd.false) (c.as_slice.ensures.items ∙ ends.serial) c.in-Ok.ensures

pub returns : goal.returns
returns c =
    let p = meaning_of c.args.policy.now in let plan = c.args.plan.now in
    let stops : StopsFull p plan c.in-Full._history = subst (IsPlayed p plan) c.in-Full.is c.in_ok-history.ensures in
    λ lone room thread round s. never_full p plan c.in-Full._history c.requires.fits c.requires.handlers room stops
