use Rattle.std.proofs.Common.{subst}
use Rattle.std.proofs.lemmas.Result.{IfOk-weaker}
use Rattle.policy_tree.specs.Meaning.{meaning_of}
use Rattle.trace_play.specs.Plays.{IsPlanStop}
use Rattle.starving_plays.specs.Searches.{IsFoundBy, IsFoundUnder}
use Rattle.starving_plays.proofs.Founds.{found_under, none_broken}
use Rattle.starving_plays.proofs.searching.starved_under.Goals as goal

pub returns-in-Ok : goal.returns-in-Ok
returns-in-Ok c =
    let p = meaning_of c.args.policy.now in
    IfOk-weaker c.starved_by.result (IsFoundBy p c.in-Ok.plan) (IsFoundUnder p c.args.text.now) (λ o. found_under p c.args.text.now c.in-Ok.plan o c.in-Ok.ensures.plan) c.starved_by.ensures

pub returns-in-Err-Broken : goal.returns-in-Err-Broken
returns-in-Err-Broken c =
    let p = meaning_of c.args.policy.now in
    none_broken p c.args.text.now c.in-Err-Broken._fault (subst (IsPlanStop p c.args.text.now) c.in-Err-Broken.field-0-is c.in-Err-Broken.ensures.stop)
