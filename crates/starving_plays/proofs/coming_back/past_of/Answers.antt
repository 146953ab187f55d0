use Rattle.std.proofs.Common.{sym, ap, subst, ◌∙◌, arith, add-one, take}
use Rattle.std.proofs.lemmas.List.{length-take, take_all}
use mathlib.Core.Option.{some}
use Rattle.policy_tree.specs.Meaning.{meaning_of}
use Rattle.round_judge.specs.Past.{StandsFor}
use Rattle.starving_plays.proofs.Returns.{elem_at, stands_more}
use Rattle.starving_plays.proofs.coming_back.past_of.Goals as goal

pub loop-entry-init : goal.loop-entry-init
loop-entry-init c =
    record { belongs = c.in_ok-past.ensures.belongs (meaning_of c.args.policy.now) c.requires.fits; stands = c.in_ok-past.ensures.stands (meaning_of c.args.policy.now) }

pub step-requires-clause-next : goal.step-requires-clause-next
step-requires-clause-next c =
    let history = c.args.history.now in let at = c.loop-entry.entry-index in
    let is = elem_at history at c.entry-item.result c.loop-entry-test.true ∙ ap some (sym c.entry-item.is) in
    record {
      history = take at history;
      stands = c.loop-entry.invariant.stands;
      legal = c.requires.legal at c.entry-item.result is;
      room = let all = c.requires.few in omega (arith, length-take at history);
    }

pub loop-entry-preserved : goal.loop-entry-preserved
loop-entry-preserved c =
    let history = c.args.history.now in let at = c.loop-entry.entry-index in
    let is = elem_at history at c.entry-item.result c.loop-entry-test.true ∙ ap some (sym c.entry-item.is) in
    record {
      belongs = c.in_ok-step.ensures.belongs;
      stands = stands_more (meaning_of c.args.policy.now) c.args.plan.now history at c.entry-item.result c.step.new.past is
          (c.in_ok-step.ensures.stands (take at history) c.loop-entry.invariant.stands (c.requires.legal at c.entry-item.result is));
    }

pub returns-clause-stands : goal.returns-clause-stands
returns-clause-stands c =
    subst (StandsFor (meaning_of c.args.policy.now) c.args.plan.now c.loop-entry.past) (take_all c.loop-entry.entry-index c.args.history.now (omega arith))
    c.loop-entry.invariant.stands
