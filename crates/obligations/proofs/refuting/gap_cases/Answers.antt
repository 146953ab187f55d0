use Rattle.std.proofs.Common.{◌≡◌, ◌+◌, ◌∷◌, List, ap, sym, subst, ◌∙◌, drop, map, true, drop_of_length-le}
use Rattle.std.specs.List.{AllByRecursion}
use Rattle.std.proofs.lemmas.List.{at_drop_more, drop_more}
use Rattle.policy_tree.specs.declared.typed.Case.{Case}
use Rattle.policy_tree.specs.Meaning.{case_tree}
use Rattle.policy_tree.specs.Trees.{cond_tree, negated}
use Rattle.policy_eval.specs.Forms.{EachSide, IsLinear}
use Rattle.linear_form.specs.declared.form.Row.{Row}
use Rattle.obligations.specs.Cases.{cases_of, crossed}
use Rattle.obligations.specs.Counts.{reported}
use Rattle.obligations.specs.Refutations.{all_of}
use Rattle.obligations.specs.Tallies.{guards_of}
use Rattle.obligations.proofs.ChainSteps.{crossed_assoc, crossed_unit, crossed_with_unit, no_cases}
use Rattle.obligations.proofs.Crowds.{gap_counts}
use Rattle.obligations.proofs.refuting.gap_cases.Goals as goal

pub returns-then-gap_count-eq0 : goal.returns-then-gap_count-eq0
returns-then-gap_count-eq0 c =
    let guards = guards_of (map case_tree c.args.cases.now) in
    c.new.ensures.items
    ∙ sym (no_cases c.args.load true (all_of (map negated guards))
    (ap reported (sym (gap_counts guards)) ∙ (sym c.gap_count.ensures ∙ c.if-gap_count-eq0.true)))

pub loop-case-init : goal.loop-case-init
loop-case-init c =
    let rest = cases_of c.args.load true (all_of (map negated (guards_of (map case_tree c.args.cases.now)))) in
    record {
      same = ap (λ all. crossed all rest) (c.in_ok-all.ensures c.args.load) ∙ crossed_unit rest;
      linear = c.requires.linear;
    }

pub loop-case-preserved : goal.loop-case-preserved
loop-case-preserved c =
    let load = c.args.load in let cases = c.args.cases.now in let i = c.loop-case.case-index in let own = c.case-item.result in
    let left : List Case → List (List Row) = λ more. cases_of load true (all_of (map negated (guards_of (map case_tree more)))) in
    let rest = drop (i + 1) cases in
    let more : left (own ∷ rest) ≡ left (drop i cases) =
    ap (λ x. left (x ∷ rest)) c.case-item.is ∙ sym (at_drop_more left cases i own c.loop-case-test.true) in
    let Linear : List Case → Type 0 = λ more. AllByRecursion (EachSide IsLinear) (guards_of (map case_tree more)) in
    let linear : Linear (own ∷ rest) =
    subst (λ (x : Case). Linear (x ∷ rest)) (sym c.case-item.is) (subst Linear (drop_more cases i own c.loop-case-test.true) c.loop-case.invariant.linear) in
    record {
      same =
          ap (λ all. crossed all (left rest)) (c.in_ok-all-2.ensures ∙ ap (crossed c.loop-case.all.items) c.in_ok-fails.ensures)
          ∙ (crossed_assoc c.loop-case.all.items (cases_of load true (negated (cond_tree own.guard))) (left rest)
          ∙ (ap (crossed c.loop-case.all.items) more ∙ c.loop-case.invariant.same));
      linear = linear.1;
    }

pub returns : goal.returns
returns c =
    let none = drop_of_length-le c.args.cases.now c.loop-case-test.false in
    sym (ap (λ (more : List Case). crossed c.loop-case.all.items (cases_of c.args.load true (all_of (map negated (guards_of (map case_tree more)))))) none
    ∙ crossed_with_unit c.loop-case.all.items)
    ∙ c.loop-case.invariant.same
