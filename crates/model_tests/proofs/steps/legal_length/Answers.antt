use Rattle.std.proofs.Common.{◌+◌, take, Some, refl, sym, ap, subst, ◌∙◌, arith}
use Rattle.std.proofs.lemmas.Bool.{false≢true}
use Rattle.policy_tree.specs.Meaning.{meaning_of}
use Rattle.round_model.proofs.Keeping.{some_at}
use Rattle.round_judge.specs.Past.{StandsFor}
use Rattle.model_tests.specs.Steps.{IsLegalLength}
use Rattle.model_tests.proofs.Counting.{stops_at, stops_behind, take_next}
use Rattle.model_tests.proofs.steps.legal_length.Goals as goal

pub loop-entry-init : goal.loop-entry-init
loop-entry-init c = record { count = refl; belongs = c.in_ok-past.ensures.belongs (meaning_of c.args.policy.now) c.requires.fits; stands = c.in_ok-past.ensures.stands (meaning_of c.args.policy.now) }

pub returns-then-not-step_ok : goal.returns-then-not-step_ok
returns-then-not-step_ok c =
    let p = meaning_of c.args.policy.now in let plan = c.args.plan.now in let entries = c.args.entries.now in let at = c.loop-entry.entry-index in
    let stands = c.loop-entry.invariant.stands in
    let asked = c.step_ok.ensures.legal (take at entries) stands in
    subst (IsLegalLength p plan entries) (sym c.loop-entry.invariant.count)
    (stops_at p plan entries at c.entry-item.result (some_at entries at c.entry-item.result (omega arith) ∙ ap Some (sym c.entry-item.is)) stands.legal (λ next. false≢true (sym c.if-not-step_ok.true ∙ asked.1 next)))

pub loop-entry-preserved : goal.loop-entry-preserved
loop-entry-preserved c =
    let p = meaning_of c.args.policy.now in let plan = c.args.plan.now in let entries = c.args.entries.now in let at = c.loop-entry.entry-index in
    let stands = c.loop-entry.invariant.stands in
    let asked = c.step_ok.ensures.legal (take at entries) stands in
    record {
      count = ap (λ n. n + 1) c.loop-entry.invariant.count;
      belongs = c.in_ok-step.ensures.belongs;
      stands = subst (StandsFor p plan c.step.new.past) (sym (take_next entries at c.entry-item.result (some_at entries at c.entry-item.result (omega arith) ∙ ap Some (sym c.entry-item.is))))
          (c.in_ok-step.ensures.stands (take at entries) stands (asked.0 c.if-not-step_ok.false));
    }

pub returns : goal.returns
returns c =
    let p = meaning_of c.args.policy.now in let plan = c.args.plan.now in let entries = c.args.entries.now in let at = c.loop-entry.entry-index in
    subst (IsLegalLength p plan entries) (sym c.loop-entry.invariant.count)
    (stops_behind p plan entries at (omega arith) c.loop-entry.invariant.stands.legal)
