use Rattle.std.proofs.Common.{List, rules, subst}
use Rattle.policy_tree.specs.Meaning.{meaning_of}
use Rattle.round_model.specs.declared.plan.Plan.{Plan}
use Rattle.job_trace.specs.declared.trace.Numbered.{Numbered}
use Rattle.job_trace.specs.Rules.{KeepsRules}
use Rattle.job_trace.specs.Plans.{SpellsPlan}
use Rattle.job_trace.proofs.FitsLemmas.{plan-fits, plan-within}
use Rattle.job_trace.proofs.planning.plan.Goals as goal

-- the plan that is made
abbrev made : goal.After-limit_of → Plan
made c = record {
  cores = c.cores_of-cores.result;
  rounds = c.rounds_of.result;
  limit = c.limit_of.result;
  consts = c.in_ok-consts.consts;
  threads = c.in_ok-threads.threads;
  orders = c.in_ok-orders.orders;
}

pub returns-clause-fits : goal.returns-clause-fits
returns-clause-fits c = λ resolved.
    let spells : SpellsPlan (meaning_of c.args.policy.now) c.args.trace.now (made c) = search rules in
    plan-fits (meaning_of c.args.policy.now) c.args.trace.now (made c) resolved
    (subst (λ (lines : List Numbered). KeepsRules lines) c.lines-lines.ensures.lines c.lines-lines.ensures.rules) spells

pub returns-clause-limits : goal.returns-clause-limits
returns-clause-limits c =
    let spells : SpellsPlan (meaning_of c.args.policy.now) c.args.trace.now (made c) = search rules in
    plan-within (meaning_of c.args.policy.now) c.args.trace.now (made c)
    (subst (λ (lines : List Numbered). KeepsRules lines) c.lines-lines.ensures.lines c.lines-lines.ensures.rules) spells
