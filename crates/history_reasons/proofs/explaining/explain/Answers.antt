-- Entry after entry, up to the first that has a reason.
use Rattle.std.proofs.Common.{◌+◌, cond, take, refl, sym, ap, subst, ◌∙◌, arith}
use Rattle.std.proofs.lemmas.List.{length-take}
use Rattle.std.proofs.lemmas.Option.{get_or_from_slice_get, slice_get_within}
use Rattle.policy_tree.specs.Meaning.{meaning_of}
use Rattle.round_model.specs.declared.entry.Entry.{Entry}
use Rattle.round_model.specs.Kinds.{is_round}
use Rattle.round_model.specs.Reads.{round_start}
use Rattle.round_judge.specs.Past.{StandsFor}
use Rattle.sched_history.proofs.Writing.{start_next}
use Rattle.history_judge.proofs.Judged.{illegal_at, take_next}
use Rattle.history_reasons.specs.Judging.{Judges}
use Rattle.history_reasons.specs.Rules.{rules_of}
use Rattle.history_reasons.proofs.Told.{ended_told, told_from}
use Rattle.history_reasons.proofs.KeptRules.{kept_is_legal, reason_is_illegal}
use Rattle.history_reasons.proofs.explaining.explain.Goals as goal

pub loop-at-init : goal.loop-at-init
loop-at-init c = record {
  belongs = c.in_ok-past.ensures.belongs (meaning_of c.args.policy.now) c.requires.fits;
  stands = c.in_ok-past.ensures.stands (meaning_of c.args.policy.now);
  start = refl;
}

pub returns-in-Some-clause-is : goal.returns-in-Some-clause-is
returns-in-Some-clause-is c =
    let p = meaning_of c.args.policy.now in let plan = c.args.plan.now in let h = c.args.history.now in let at = c.loop-at.at in let e = c.get-entry.result.now in
    let stands = c.loop-at.invariant.stands in
    let reason = subst (Judges p plan (take at h) e (rules_of e)) c.in-Some.is (c.why_not.ensures (take at h) stands) in
    record {
      first = illegal_at p plan h at e c.get-entry.ensures.item stands.legal (reason_is_illegal p plan (take at h) e c.in-Some.reason reason);
      entry = e;
      stands = c.get-entry.ensures.item;
      reason = reason;
      comes = c.in_ok-coming.ensures (take at h) stands;
    }

pub returns-in-Some-clause-told : goal.returns-in-Some-clause-told
returns-in-Some-clause-told c =
    let p = meaning_of c.args.policy.now in let plan = c.args.plan.now in let h = c.args.history.now in let at = c.loop-at.at in
    let stands = c.loop-at.invariant.stands in
    told_from p plan c.requires.fits c.requires.limits (take at h) c.in_ok-coming.coming (let few = c.requires.few in omega (arith, length-take at h)) stands.legal (c.in_ok-coming.ensures (take at h) stands)

pub returns-clause-told : goal.returns-clause-told
returns-clause-told c =
    let p = meaning_of c.args.policy.now in let plan = c.args.plan.now in let h = c.args.history.now in let at = c.loop-at.at in
    ended_told p plan c.requires.fits c.requires.limits c.loop-at.past (take at h) c.ended.result (let few = c.requires.few in omega (arith, length-take at h)) c.loop-at.invariant.stands c.ended.ensures

pub step-requires-clause-next : goal.step-requires-clause-next
step-requires-clause-next c =
    let p = meaning_of c.args.policy.now in let plan = c.args.plan.now in let h = c.args.history.now in let at = c.loop-at.at in let e = c.get-entry.result.now in
    let stands = c.loop-at.invariant.stands in
    record {
      history = take at h;
      stands = stands;
      legal = kept_is_legal p plan (take at h) e (subst (Judges p plan (take at h) e (rules_of e)) c.in_default.is (c.why_not.ensures (take at h) stands));
      room = let few = c.requires.few in let inside = slice_get_within h at e c.get-entry.ensures.item in omega (arith, length-take at h);
    }

pub loop-at-preserved : goal.loop-at-preserved
loop-at-preserved c =
    let p = meaning_of c.args.policy.now in let plan = c.args.plan.now in let h = c.args.history.now in let at = c.loop-at.at in let e = c.get-entry.result.now in
    let stands = c.loop-at.invariant.stands in
    let legal = kept_is_legal p plan (take at h) e (subst (Judges p plan (take at h) e (rules_of e)) c.in_default.is (c.why_not.ensures (take at h) stands)) in
    record {
      belongs = c.in_ok-step.ensures.belongs;
      stands = subst (StandsFor p plan c.step.new.past) (sym (take_next h at e c.get-entry.ensures.item)) (c.in_ok-step.ensures.stands (take at h) stands legal);
      start = c.start_behind-start.ensures
          ∙ (ap (λ n. cond (is_round e) (at + 1) n) c.loop-at.invariant.start
          ∙ (ap (λ (x : Entry). cond (is_round x) (at + 1) (round_start (take at h))) (sym (get_or_from_slice_get h at e e c.get-entry.ensures.item))
          ∙ sym (start_next h at e (slice_get_within h at e c.get-entry.ensures.item))));
    }
