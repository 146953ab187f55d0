use Rattle.std.proofs.Common.{ap, sym, subst, ◌∙◌, List, map}
use Rattle.std.specs.List.{AllByRecursion}
use Rattle.policy_tree.specs.Meaning.{CaseTree, case_tree, cases_on, meaning_of}
use Rattle.policy_eval.specs.Forms.{EachSide, IsLinear}
use Rattle.obligations.specs.Tallies.{guards_of}
use Rattle.obligations.proofs.Linear.{filter-linear, further-linear, guards-linear, last-linear}
use Rattle.obligations.proofs.refuting.refuting_cases.Goals as goal

pub with_condition-requires-clause-condition : goal.with_condition-requires-clause-condition
with_condition-requires-clause-condition c = filter-linear (meaning_of c.args.policy.now) c.requires

pub with_condition-requires-in-VictimIsOverloaded-clause-condition : goal.with_condition-requires-in-VictimIsOverloaded-clause-condition
with_condition-requires-in-VictimIsOverloaded-clause-condition c = filter-linear (meaning_of c.args.policy.now) c.requires

pub with_condition-requires-in-MoveNarrowsGap-clause-condition : goal.with_condition-requires-in-MoveNarrowsGap-clause-condition
with_condition-requires-in-MoveNarrowsGap-clause-condition c = filter-linear (meaning_of c.args.policy.now) c.requires

pub further_cases-requires-clause-batch : goal.further_cases-requires-clause-batch
further_cases-requires-clause-batch c = let p = meaning_of c.args.policy.now in further-linear p c.requires p.batch c.requires.batch

pub overlap_cases-requires-clause-linear : goal.overlap_cases-requires-clause-linear
overlap_cases-requires-clause-linear c =
    let p = meaning_of c.args.policy.now in let e = c.in-NoOverlap.event in
    subst (λ (cases : List CaseTree). AllByRecursion (EachSide IsLinear) (guards_of cases)) (sym (ap (map case_tree) c.as_slice.ensures.items ∙ c.cases.ensures))
    (guards-linear p c.requires e (cases_on p.handlers e) (c.requires.handlers e).cases)

pub gap_cases-requires-clause-linear : goal.gap_cases-requires-clause-linear
gap_cases-requires-clause-linear c =
    let p = meaning_of c.args.policy.now in let e = c.in-NoGap.event in
    subst (λ (cases : List CaseTree). AllByRecursion (EachSide IsLinear) (guards_of cases)) (sym (ap (map case_tree) c.as_slice-in-NoGap.ensures.items ∙ c.cases-in-NoGap.ensures))
    (guards-linear p c.requires e (cases_on p.handlers e) (c.requires.handlers e).cases)

pub with_condition-requires-in-FilterLeavesLast-clause-condition : goal.with_condition-requires-in-FilterLeavesLast-clause-condition
with_condition-requires-in-FilterLeavesLast-clause-condition c = filter-linear (meaning_of c.args.policy.now) c.requires

pub last_cases-requires-clause-batch : goal.last_cases-requires-clause-batch
last_cases-requires-clause-batch c = let p = meaning_of c.args.policy.now in last-linear p c.requires p.batch c.requires.batch

pub with_condition-requires-in-RestGap-clause-condition : goal.with_condition-requires-in-RestGap-clause-condition
with_condition-requires-in-RestGap-clause-condition c = filter-linear (meaning_of c.args.policy.now) c.requires
