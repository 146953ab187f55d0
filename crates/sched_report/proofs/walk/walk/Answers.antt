-- Entry after entry.
use Rattle.std.proofs.Common.{sym, ap, subst, ◌∙◌, arith, add-one, take}
use Rattle.std.proofs.lemmas.List.{length-take}
use mathlib.Core.Option.{some}
use Rattle.policy_tree.specs.Meaning.{meaning_of}
use Rattle.round_judge.specs.Past.{StandsFor}
use Rattle.round_model.specs.After.{after}
use Rattle.round_model.proofs.Grows.{legal_prefix}
use Rattle.round_laws.proofs.Positions.{entry_more}
use Rattle.round_laws.proofs.Thefts.{present_fits}
use Rattle.sched_report.specs.Code.Walks.{IsTallySoFar}
use Rattle.sched_report.proofs.FlagLemmas.{disturbed_in_round}
use Rattle.sched_report.proofs.OpeningRows.{state_fits}
use Rattle.sched_report.proofs.WalkLemmas.{elem_at, few_fails, few_rounds, may_be_told, tally_more, tally_none, tally_whole}
use Rattle.sched_report.proofs.walk.walk.Goals as goal

pub loop-entry-init : goal.loop-entry-init
loop-entry-init c = record {
  belongs = c.in_ok-past.ensures.belongs (meaning_of c.args.policy.now) c.requires.fits;
  stands = c.in_ok-past.ensures.stands (meaning_of c.args.policy.now);
  tally = tally_none (meaning_of c.args.policy.now) c.args.plan.now c.args.history.now c.new-tally.result c.new-tally.ensures;
}

pub note_round-requires-clause-room : goal.note_round-requires-clause-room
note_round-requires-clause-room c =
    let few = few_rounds (meaning_of c.args.policy.now) c.args.plan.now c.args.history.now c.loop-entry.entry-index c.loop-entry.tally c.loop-entry.invariant.tally in
    let all = c.requires.few in omega arith

pub note_round-requires-clause-fits : goal.note_round-requires-clause-fits
note_round-requires-clause-fits c =
    let p = meaning_of c.args.policy.now in let plan = c.args.plan.now in let history = c.args.history.now in let at = c.loop-entry.entry-index in
    state_fits p plan (after p plan (take at history)) c.state.result.now (c.state.ensures p plan (take at history) c.loop-entry.invariant.stands)
    (present_fits p plan c.requires.fits c.requires.handlers (take at history) (legal_prefix p plan history at c.requires.legal))

pub note_still-requires-clause-begun : goal.note_still-requires-clause-begun
note_still-requires-clause-begun c =
    let p = meaning_of c.args.policy.now in let plan = c.args.plan.now in let history = c.args.history.now in let at = c.loop-entry.entry-index in
    let is = elem_at history at c.entry-item.result c.loop-entry-test.true ∙ ap some (sym c.entry-item.is) in
    λ stirs. let begun = disturbed_in_round p plan (take at history) c.entry-item.result (c.requires.legal at c.entry-item.result is) stirs in
    let count = c.loop-entry.invariant.tally.still.count in omega arith

pub note_fail-requires-clause-room : goal.note_fail-requires-clause-room
note_fail-requires-clause-room c =
    let few = few_fails (meaning_of c.args.policy.now) c.args.plan.now c.args.history.now c.loop-entry.entry-index c.loop-entry.tally c.loop-entry.invariant.tally in
    let all = c.requires.few in omega arith

pub note_fail-requires-clause-told : goal.note_fail-requires-clause-told
note_fail-requires-clause-told c =
    let p = meaning_of c.args.policy.now in let plan = c.args.plan.now in let history = c.args.history.now in let at = c.loop-entry.entry-index in
    may_be_told p plan history at c.loop-entry-test.true c.requires.fits c.requires.legal c.loop-entry.past c.loop-entry.invariant.belongs c.loop-entry.invariant.stands c.entry-item.result
    (elem_at history at c.entry-item.result c.loop-entry-test.true ∙ ap some (sym c.entry-item.is))

pub step-requires-clause-next : goal.step-requires-clause-next
step-requires-clause-next c =
    let history = c.args.history.now in let at = c.loop-entry.entry-index in
    let is = elem_at history at c.entry-item.result c.loop-entry-test.true ∙ ap some (sym c.entry-item.is) in
    record {
      history = take at history;
      stands = c.loop-entry.invariant.stands;
      legal = c.requires.legal at c.entry-item.result is;
      room = let all = c.requires.few in omega (arith, length-take at history);
    }

pub loop-entry-preserved : goal.loop-entry-preserved
loop-entry-preserved c =
    let p = meaning_of c.args.policy.now in let plan = c.args.plan.now in let history = c.args.history.now in let at = c.loop-entry.entry-index in
    let stands = c.loop-entry.invariant.stands in
    let is = elem_at history at c.entry-item.result c.loop-entry-test.true ∙ ap some (sym c.entry-item.is) in
    record {
      belongs = c.in_ok-step.ensures.belongs;
      stands = subst (λ n. StandsFor p plan c.step.new.past (take n history)) (sym (add-one at))
          (subst (StandsFor p plan c.step.new.past) (sym (entry_more history at c.entry-item.result is))
          (c.in_ok-step.ensures.stands (take at history) stands (c.requires.legal at c.entry-item.result is)));
      tally = subst (λ n. IsTallySoFar p plan history n (record { rounds = c.note_round.new.rounds; still = c.note_still.new.still; causes = c.note_fail.new.causes })) (sym (add-one at))
          (tally_more p plan history at c.loop-entry-test.true c.requires.fits c.requires.legal c.loop-entry.past c.loop-entry.invariant.belongs stands c.entry-item.result
          c.loop-entry.tally (record { rounds = c.note_round.new.rounds; still = c.note_still.new.still; causes = c.note_fail.new.causes }) c.state.result.now is c.loop-entry.invariant.tally
          (c.state.ensures p plan (take at history) stands) c.in_ok-note_round.ensures c.in_ok-note_still.ensures c.in_ok-note_fail.ensures);
    }

pub returns : goal.returns
returns c =
    tally_whole (meaning_of c.args.policy.now) c.args.plan.now c.args.history.now c.loop-entry.entry-index c.loop-entry.tally (omega arith) c.loop-entry.invariant.tally
