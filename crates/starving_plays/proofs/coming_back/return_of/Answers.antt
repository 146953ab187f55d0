use Rattle.std.proofs.Common.{sym, ap, subst, ◌∙◌, ◌≡◌, ◌≤◌, arith, take}
use Rattle.std.proofs.lemmas.List.{length-take, length-take-le}
use mathlib.Core.Option.{some}
use Rattle.policy_tree.specs.Meaning.{meaning_of}
use Rattle.round_judge.specs.Past.{StandsFor}
use Rattle.starving_plays.specs.Code.{IsReturn, IsRoundBack}
use Rattle.starving_plays.proofs.Returns.{elem_at, first_return, none_more, not_returned, return_inside, returned, stands_more}
use Rattle.starving_plays.proofs.coming_back.return_of.Goals as goal

pub loop-entry-init : goal.loop-entry-init
loop-entry-init c = record {
  belongs = c.in_ok-past.ensures.belongs (meaning_of c.args.policy.now) c.requires.fits;
  stands = c.in_ok-past.ensures.stands (meaning_of c.args.policy.now);
  none = λ number at less. absurd (omega arith);
}

pub returns-in-Some : goal.returns-in-Some
returns-in-Some c =
    let p = meaning_of c.args.policy.now in let plan = c.args.plan.now in let history = c.args.history.now in let at = c.loop-entry.entry-index in
    let that = c.args.core.now in let stands = c.loop-entry.invariant.stands in
    let is = elem_at history at c.entry-item.result c.loop-entry-test.true ∙ ap some (sym c.entry-item.is) in
    let back = returned p plan history that at c.entry-item.result c.state.result.now c.requires.alone is (c.state.ensures p plan (take at history) stands) c.in-Some.round
    (subst (IsRoundBack c.state.result.now c.entry-item.result that) c.in-Some.is c.round_back.ensures) in
    let place : c.entries-at.result ≡ at = c.entries-at.ensures.length p plan (take at history) stands ∙ length-take-le at history (omega arith) in (
      subst (IsReturn p plan history that c.in-Some.round) (sym place) back,
      λ number k return. subst (λ n. n ≤ k) (sym place) (first_return p plan history that at c.loop-entry.invariant.none number k return),
    )

pub step-requires-clause-next : goal.step-requires-clause-next
step-requires-clause-next c =
    let history = c.args.history.now in let at = c.loop-entry.entry-index in
    let is = elem_at history at c.entry-item.result c.loop-entry-test.true ∙ ap some (sym c.entry-item.is) in
    record {
      history = take at history;
      stands = c.loop-entry.invariant.stands;
      legal = c.requires.legal at c.entry-item.result is;
      room = let all = c.requires.few in omega (arith, length-take at history);
    }

pub loop-entry-preserved : goal.loop-entry-preserved
loop-entry-preserved c =
    let p = meaning_of c.args.policy.now in let plan = c.args.plan.now in let history = c.args.history.now in let at = c.loop-entry.entry-index in
    let that = c.args.core.now in let stands = c.loop-entry.invariant.stands in
    let is = elem_at history at c.entry-item.result c.loop-entry-test.true ∙ ap some (sym c.entry-item.is) in
    record {
      belongs = c.in_ok-step.ensures.belongs;
      stands = stands_more p plan history at c.entry-item.result c.step.new.past is (c.in_ok-step.ensures.stands (take at history) stands (c.requires.legal at c.entry-item.result is));
      none = none_more p plan history that at c.loop-entry.invariant.none
          (not_returned p plan history that at c.entry-item.result c.state.result.now c.requires.alone is (c.state.ensures p plan (take at history) stands) c.in_default.ensures);
    }

pub returns : goal.returns
returns c =
    let p = meaning_of c.args.policy.now in let plan = c.args.plan.now in let history = c.args.history.now in
    λ number at return. c.loop-entry.invariant.none number at (let inside = return_inside p plan history c.args.core.now number at return in omega arith) return
