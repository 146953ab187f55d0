-- Where no obligation fails and none is left open, all certificates are kept.
use Rattle.std.proofs.Common.{◌∙◌, ap, sym}
use Rattle.policy_tree.specs.Meaning.{meaning_of}
use Rattle.policy_checker.specs.Verdicts.{some_fails, some_is_left}
use Rattle.policy_checker.proofs.Kept.{accepted_by, keep_all}
use Rattle.policy_checker.proofs.checking.verdict_of.Goals as goal

pub new-requires-clause-kept : goal.new-requires-clause-kept
new-requires-clause-kept c =
    let none_fails = ap some_fails (sym c.as_slice.ensures.items) ∙ (sym c.any_fails.ensures ∙ c.if-any_fails.false) in
    let none_left = ap some_is_left (sym c.as_slice-2.ensures.items) ∙ (sym c.any_is_left.ensures ∙ c.if-any_is_left.false) in
    keep_all (meaning_of c.args.policy) c.requires.answers.0 c.args.answers c.requires.answers.1 none_fails none_left

pub returns-clause-verdict : goal.returns-clause-verdict
returns-clause-verdict c budget are =
    let none_fails = ap some_fails (sym c.as_slice.ensures.items) ∙ (sym c.any_fails.ensures ∙ c.if-any_fails.false) in
    let none_left = ap some_is_left (sym c.as_slice-2.ensures.items) ∙ (sym c.any_is_left.ensures ∙ c.if-any_is_left.false) in
    accepted_by (meaning_of c.args.policy) budget c.args.answers are (keep_all (meaning_of c.args.policy) budget c.args.answers are none_fails none_left)
