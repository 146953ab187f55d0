-- One of both answers is told: its point has a value for each variable, and the other one is kept beside it.
use Rattle.std.proofs.Common.{◌≡◌, ◌∙◌, sym, ap, ap₂, cond, Result, Ok, Err, IfOk}
use Rattle.policy_tree.specs.Meaning.{Meaning, meaning_of}
use Rattle.policy_eval.specs.Obligations.{Statement, batch_leaves_last, filter_leaves_last}
use Rattle.policy_checker.specs.LastThreads.{IsOneOf}
use Rattle.policy_checker.specs.Outcomes.{outcome_of}
use Rattle.policy_checker.specs.declared.one.One.{One}
use Rattle.sched_base.specs.declared.limits.TheConstants.{CHECK_BUDGET}
use Rattle.policy_answers.specs.Bounds.{IsToldOfLast, is_of_filter, last_line, told_of}
use Rattle.policy_answers.specs.declared.bounding.Bounding.{Bounding}
use Rattle.policy_answers.proofs.Values.{has_values}
use Rattle.policy_answers.proofs.bounding.told_of.Goals as goal

-- of two answers the one is told that is chosen
told_last : {E : Type 0} (p : Meaning) (filter batch one : One) (s : Statement) (result : Result Bounding E) →
    IsOneOf p CHECK_BUDGET filter_leaves_last filter → IsOneOf p CHECK_BUDGET batch_leaves_last batch →
    told_of filter.answer batch.answer ≡ (s, one.answer) → IsOneOf p CHECK_BUDGET s one →
    IfOk result (λ told. told.outcome ≡ outcome_of one.answer) → IfOk result (λ told. told.line.items ≡ last_line p one.vars one.answer) →
    IfOk result (IsToldOfLast p)
told_last p filter batch one s (Ok bounding) of_filter of_batch same is told line = record {
  filter = filter.answer;
  batch = batch.answer;
  of_filter = of_filter.answer;
  of_batch = of_batch.answer;
  told = rw same told;
  line = rw same (rw (sym is.vars) line);
}
told_last p filter batch one s (Err fault) of_filter of_batch same is told line = tt

pub told_by-requires : goal.told_by-requires
told_by-requires c =
    let ones = c.args.ones.now in
    has_values (meaning_of c.args.policy.now) c.requires.resolved filter_leaves_last ones.filter.vars ones.filter.answer c.requires.filter.vars c.requires.filter.answer

pub told_by-requires-else-is_of_filter : goal.told_by-requires-else-is_of_filter
told_by-requires-else-is_of_filter c =
    let ones = c.args.ones.now in
    has_values (meaning_of c.args.policy.now) c.requires.resolved batch_leaves_last ones.batch.vars ones.batch.answer c.requires.batch.vars c.requires.batch.answer

pub returns-then-is_of_filter : goal.returns-then-is_of_filter
returns-then-is_of_filter c =
    let ones = c.args.ones.now in
    let chosen = ap₂ is_of_filter (sym c.outcome-filter.ensures) (sym c.outcome-batch.ensures) ∙ (sym c.is_of_filter.ensures ∙ c.if-is_of_filter.true) in
    told_last (meaning_of c.args.policy.now) ones.filter ones.batch ones.filter filter_leaves_last c.told_by.result c.requires.filter c.requires.batch
    (ap (λ first. cond first (filter_leaves_last, ones.filter.answer) (batch_leaves_last, ones.batch.answer)) chosen) c.requires.filter c.told_by.ensures.told c.told_by.ensures.line

pub returns-else-is_of_filter : goal.returns-else-is_of_filter
returns-else-is_of_filter c =
    let ones = c.args.ones.now in
    let chosen = ap₂ is_of_filter (sym c.outcome-filter.ensures) (sym c.outcome-batch.ensures) ∙ (sym c.is_of_filter.ensures ∙ c.if-is_of_filter.false) in
    told_last (meaning_of c.args.policy.now) ones.filter ones.batch ones.batch batch_leaves_last c.told_by-else-is_of_filter.result c.requires.filter c.requires.batch
    (ap (λ first. cond first (filter_leaves_last, ones.filter.answer) (batch_leaves_last, ones.batch.answer)) chosen) c.requires.batch c.told_by-else-is_of_filter.ensures.told c.told_by-else-is_of_filter.ensures.line
