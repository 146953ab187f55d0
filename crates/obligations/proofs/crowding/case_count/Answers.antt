use Rattle.std.proofs.Common.{ap, sym, ◌∙◌, map}
use Rattle.policy_tree.specs.Meaning.{case_tree, meaning_of}
use Rattle.obligations.specs.Counts.{case_count, reported}
use Rattle.obligations.specs.Demands.{statement_seen}
use Rattle.obligations.specs.Refutations.{guards_on}
use Rattle.obligations.specs.Tallies.{gap_count, guards_of, pair_count}
use Rattle.obligations.proofs.Crowds.{gap_counts, pair_counts}
use Rattle.obligations.proofs.crowding.case_count.Goals as goal

pub returns-in-NoOverlap : goal.returns-in-NoOverlap
returns-in-NoOverlap c =
    let p = meaning_of c.args.policy.now in
    c.pair_count.ensures ∙ (ap (λ cases. reported (pair_count (guards_of cases))) (ap (map case_tree) c.as_slice.ensures.items ∙ c.cases.ensures)
    ∙ (ap reported (pair_counts (guards_on p c.in-NoOverlap.event)) ∙ ap (λ s. reported (case_count p (statement_seen s))) (sym c.in-NoOverlap.is)))

pub returns-in-NoGap : goal.returns-in-NoGap
returns-in-NoGap c =
    let p = meaning_of c.args.policy.now in
    c.gap_count.ensures ∙ (ap (λ cases. reported (gap_count (guards_of cases))) (ap (map case_tree) c.as_slice-in-NoGap.ensures.items ∙ c.cases-in-NoGap.ensures)
    ∙ (ap reported (gap_counts (guards_on p c.in-NoGap.event)) ∙ ap (λ s. reported (case_count p (statement_seen s))) (sym c.in-NoGap.is)))
