-- A resolved policy meets a statement exactly where none of the statement's systems has a solution.
use Rattle.std.proofs.Common.{◌≡◌, ◌+◌, ◌*◌, Bool, true, false, not, length, refl, ap₂, ◌∙◌}
use Rattle.std.proofs.lemmas.List.{length-append}
use Rattle.policy_tree.specs.declared.trees.Cmp.{Cmp}
use Rattle.policy_tree.specs.declared.trees.Cmp.TheVariants as cmp
use Rattle.policy_tree.specs.declared.typed.Load.{Load}
use Rattle.policy_tree.specs.Meaning.{Meaning}
use Rattle.policy_tree.specs.Trees.{CondTree, always, negated, both, either, test, minus}
use Rattle.policy_eval.specs.Obligations.{IsMet, Statement, batch_leaves_last, filter_leaves_last, further_move_narrows_gap, idle_sees_overloaded, move_narrows_gap, no_gap, no_overlap, rest_gap, statements_of, victim_is_overloaded}
use Rattle.policy_eval.specs.Resolved.{IsResolved}
use Rattle.obligations.specs.Cases.{asked, cases_of, cases_of_test}
use Rattle.obligations.specs.Counts.{count_of, count_of_test}
use Rattle.obligations.specs.Forms.{LinearForm, form_of}
use Rattle.obligations.specs.Laws.{CountsAreCases, NamesAreStatements, NoneRefutes, RefutationsAreTheirs, SystemsAreStatements}
use Rattle.obligations.specs.Names.{ob_names}
use Rattle.obligations.specs.Refutations.{refutation}
use Rattle.obligations.proofs.Balance.{further_from_none, narrows_from_none, none_from_further, none_from_narrows, none_from_sees, none_from_spares, sees_from_none, spares_from_none}
use Rattle.obligations.proofs.Folds.{length-crossed}
use Rattle.obligations.proofs.Handlers.{gap_from_none, none_from_gap, none_from_overlap, overlap_from_none}
use Rattle.obligations.proofs.LeftToIdle.{batch_from_none, filter_from_none, none_from_batch, none_from_filter}
use Rattle.obligations.proofs.RestGaps.{gap_left_from_none, none_from_gap_left}
use Rattle.obligations.proofs.Refuted.{no_solution_refutes, none_refutes_no_solution}

module _ (p : Meaning) (is : IsResolved p) where
  none_where_met : (s : Statement) → IsMet p s → NoneRefutes p s
  none_where_met idle_sees_overloaded = none_from_sees p is
  none_where_met victim_is_overloaded = none_from_spares p is
  none_where_met move_narrows_gap = none_from_narrows p is
  none_where_met further_move_narrows_gap = none_from_further p is p.batch is.batch
  none_where_met (no_overlap e) = none_from_overlap p is e
  none_where_met (no_gap e) = none_from_gap p is e
  none_where_met filter_leaves_last = none_from_filter p is
  none_where_met batch_leaves_last = none_from_batch p is p.batch is.batch
  none_where_met (rest_gap gap) = none_from_gap_left p is gap

  met_where_none : (s : Statement) → NoneRefutes p s → IsMet p s
  met_where_none idle_sees_overloaded = sees_from_none p is
  met_where_none victim_is_overloaded = spares_from_none p is
  met_where_none move_narrows_gap = narrows_from_none p is
  met_where_none further_move_narrows_gap = further_from_none p is p.batch
  met_where_none (no_overlap e) = overlap_from_none p is e
  met_where_none (no_gap e) = gap_from_none p is e
  met_where_none filter_leaves_last = filter_from_none p is
  met_where_none batch_leaves_last = batch_from_none p is p.batch
  met_where_none (rest_gap gap) = gap_left_from_none p is gap

pub refutations_are_theirs : RefutationsAreTheirs
refutations_are_theirs p is s = (none_where_met p is s, met_where_none p is s)

pub systems_are_statements : SystemsAreStatements
systems_are_statements p is s =
    (λ met. none_refutes_no_solution p is s (none_where_met p is s met), λ unsolved. met_where_none p is s (no_solution_refutes p is s unsolved))

pub names_are_statements : NamesAreStatements
unfolding statements_of ob_names
names_are_statements p = refl

count_test : (how : Cmp) (d : LinearForm) → length (cases_of_test how d) ≡ count_of_test how
count_test cmp.Eq d = refl
count_test cmp.Ne d = refl
count_test cmp.Lt d = refl
count_test cmp.Le d = refl
count_test cmp.Gt d = refl
count_test cmp.Ge d = refl

pub count_cases : (load : Load) (outcome : Bool) (c : CondTree) → length (cases_of load outcome c) ≡ count_of outcome c
count_cases load true always = refl
count_cases load false always = refl
count_cases load outcome (negated c) = count_cases load (not outcome) c
count_cases load true (both l r) = length-crossed (cases_of load true l) (cases_of load true r) ∙ ap₂ (λ a b. a * b) (count_cases load true l) (count_cases load true r)
count_cases load false (both l r) = length-append (cases_of load false l) (cases_of load false r) ∙ ap₂ (λ a b. a + b) (count_cases load false l) (count_cases load false r)
count_cases load true (either l r) = length-append (cases_of load true l) (cases_of load true r) ∙ ap₂ (λ a b. a + b) (count_cases load true l) (count_cases load true r)
count_cases load false (either l r) = length-crossed (cases_of load false l) (cases_of load false r) ∙ ap₂ (λ a b. a * b) (count_cases load false l) (count_cases load false r)
count_cases load outcome (test how l r) = count_test (asked outcome how) (form_of load (minus l r))

pub counts_are_cases : CountsAreCases
counts_are_cases p s = count_cases p.load true (refutation p s)
