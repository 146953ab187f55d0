-- Kind after kind.
use Rattle.std.proofs.Common.{sym, subst}
use Rattle.policy_tree.specs.Meaning.{meaning_of}
use Rattle.round_model.specs.declared.entry.Entry.{Entry}
use Rattle.history_reasons.specs.Judging.{Judges}
use Rattle.history_reasons.specs.Rules.{rules_of}
use Rattle.history_reasons.proofs.why.why_not.Goals as goal

pub returns-in-Wake : goal.returns-in-Wake
returns-in-Wake c history stands =
    let p = meaning_of c.args.policy.now in let plan = c.args.plan.now in
    subst (λ (e : Entry). Judges p plan history e (rules_of e) c.why_not_wake.result) (sym c.in-Wake.is) (c.why_not_wake.ensures history stands)
