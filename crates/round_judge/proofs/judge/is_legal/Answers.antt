use Rattle.std.proofs.Common.{◌↔◌, IsTrue, sym, subst}
use Rattle.policy_tree.specs.Meaning.{meaning_of}
use Rattle.round_model.specs.declared.entry.Entry.{Entry}
use Rattle.round_model.specs.Legal.{LegalNext}
use Rattle.round_judge.proofs.judge.is_legal.Goals as goal

pub returns-in-Round : goal.returns-in-Round
unfolding LegalNext
returns-in-Round c history stands =
    subst (λ (e : Entry). IsTrue c.may_begin.result ↔ LegalNext (meaning_of c.args.policy.now) c.args.plan.now history e) (sym c.in-Round.is)
    (c.may_begin.ensures (meaning_of c.args.policy.now) history stands)

pub returns-in-Enter : goal.returns-in-Enter
unfolding LegalNext
returns-in-Enter c history stands =
    subst (λ (e : Entry). IsTrue c.may_enter.result ↔ LegalNext (meaning_of c.args.policy.now) c.args.plan.now history e) (sym c.in-Enter.is)
    (c.may_enter.ensures history stands)

pub returns-in-Wake : goal.returns-in-Wake
unfolding LegalNext
returns-in-Wake c history stands =
    subst (λ (e : Entry). IsTrue c.may_wake.result ↔ LegalNext (meaning_of c.args.policy.now) c.args.plan.now history e) (sym c.in-Wake.is)
    (c.may_wake.ensures history stands)

pub returns-in-Work : goal.returns-in-Work
unfolding LegalNext
returns-in-Work c history stands =
    subst (λ (e : Entry). IsTrue c.may_work.result ↔ LegalNext (meaning_of c.args.policy.now) c.args.plan.now history e) (sym c.in-Work.is)
    (c.may_work.ensures history stands)

pub returns-in-Steal : goal.returns-in-Steal
unfolding LegalNext
returns-in-Steal c history stands =
    subst (λ (e : Entry). IsTrue c.may_attempt.result ↔ LegalNext (meaning_of c.args.policy.now) c.args.plan.now history e) (sym c.in-Steal.is)
    (c.may_attempt.ensures history stands)

pub returns-in-Fail : goal.returns-in-Fail
unfolding LegalNext
returns-in-Fail c history stands =
    subst (λ (e : Entry). IsTrue c.may_attempt-in-Fail.result ↔ LegalNext (meaning_of c.args.policy.now) c.args.plan.now history e) (sym c.in-Fail.is)
    (c.may_attempt-in-Fail.ensures history stands)

pub returns-in-Pass : goal.returns-in-Pass
unfolding LegalNext
returns-in-Pass c history stands =
    subst (λ (e : Entry). IsTrue c.may_attempt-in-Pass.result ↔ LegalNext (meaning_of c.args.policy.now) c.args.plan.now history e) (sym c.in-Pass.is)
    (c.may_attempt-in-Pass.ensures history stands)
