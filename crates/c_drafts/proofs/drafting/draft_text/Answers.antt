-- What is printed is of the policy and of the answers that the verdict keeps.
use Rattle.std.proofs.Common.{◌≡◌, IfOk, List, subst, sym}
use Rattle.policy_tree.specs.declared.typed.Policy.{Policy}
use Rattle.policy_tree.specs.Meaning.{meaning_of}
use Rattle.policy_checker.specs.declared.answer.Answered.{Answered}
use Rattle.policy_checker.specs.declared.verdict.Verdict.{Verdict}
use Rattle.c_printer.specs.CText.{c_text}
use Rattle.c_drafts.specs.Drafts.{draft_of, draft_text}
use Rattle.c_drafts.proofs.drafting.draft_text.Goals as goal

pub returns-in-Accepted : goal.returns-in-Accepted
unfolding draft_text
returns-in-Accepted c =
    let printed = c.c_text.result in
    subst (λ (v : Verdict). IfOk printed (λ text. text.items ≡ draft_text v)) (sym c.in-Accepted.is)
    (subst (λ (policy : Policy). IfOk printed (λ text. text.items ≡ c_text (meaning_of policy))) c.policy.ensures.policy
    c.c_text.ensures)

pub returns-in-Refused : goal.returns-in-Refused
unfolding draft_text
returns-in-Refused c =
    let printed = c.draft_of.result in
    let p = meaning_of c.in-Refused.policy in
    subst (λ (v : Verdict). IfOk printed (λ text. text.items ≡ draft_text v)) (sym c.in-Refused.is)
    (subst (λ (answers : List Answered). IfOk printed (λ text. text.items ≡ draft_of answers p))
    c.as_slice.ensures.items c.draft_of.ensures)

pub returns-in-Undecided : goal.returns-in-Undecided
unfolding draft_text
returns-in-Undecided c =
    let printed = c.draft_of-in-Undecided.result in
    let p = meaning_of c.in-Undecided.policy in
    subst (λ (v : Verdict). IfOk printed (λ text. text.items ≡ draft_text v)) (sym c.in-Undecided.is)
    (subst (λ (answers : List Answered). IfOk printed (λ text. text.items ≡ draft_of answers p))
    c.as_slice-in-Undecided.ensures.items c.draft_of-in-Undecided.ensures)
