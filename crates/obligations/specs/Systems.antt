-- The systems of an obligation: a solution of one of them is a point at which the obligation fails.
use Rattle.std.specs.Prelude.{ℕ, zero, suc, pos, ◌*◌, ◌==◌, nat_lt, Bool, true, false, cond, ◌||◌, List, [], ◌∷◌, ◌++◌}
use Rattle.std.specs.Prelude.{map, length, slice_index_or}
use Rattle.std.specs.List.{list_any}
use Rattle.sched_base.specs.declared.limits.TheConstants.{MAX_THREADS, MAX_VARIABLES}
use Rattle.policy_tree.specs.Meaning.{Meaning}
use Rattle.policy_eval.specs.Obligations.{Statement, idle_sees_overloaded, victim_is_overloaded, move_narrows_gap}
use Rattle.policy_eval.specs.Obligations.{further_move_narrows_gap, no_overlap, no_gap, filter_leaves_last}
use Rattle.policy_eval.specs.Obligations.{batch_leaves_last, rest_gap}
use Rattle.policy_eval.specs.Ranges.{Range, attribute_ranges, greatest_weight, least_weight, range}
use Rattle.linear_form.specs.declared.form.Term.{Term}
use Rattle.linear_form.specs.declared.form.Row.{Row}
use Rattle.linear_form.specs.declared.form.Bound.{Bound}
use Rattle.linear_form.specs.System.{LinearSystem}
use Rattle.obligations.specs.declared.names.ObName.{ObName}
use Rattle.obligations.specs.declared.obligation.Obligation.{Obligation}
use Rattle.obligations.specs.declared.obligation.Question.{Question}
use Rattle.obligations.specs.declared.last_threads.LastWaiting.{LastWaiting}
use Rattle.policy_tree.specs.declared.variables.TheConstants.{WEIGHT}
use Rattle.obligations.specs.Cases.{cases_of}
use Rattle.obligations.specs.Names.{ob_names, statement_of}
use Rattle.obligations.specs.Refutations.{refutation}

-- the ranges of all variables under a policy, in the order of their numbers
abbrev pub variable_ranges : Meaning → List Range
variable_ranges p =
    range (pos 0) (pos MAX_THREADS)
    ∷ range (pos 0) (pos (MAX_THREADS * greatest_weight p.load))
    ∷ range (pos 0) (pos MAX_THREADS)
    ∷ range (pos 0) (pos (MAX_THREADS * greatest_weight p.load))
    ∷ range (pos (least_weight p.load)) (pos (greatest_weight p.load))
    ∷ range (pos 0) (pos 1)
    ∷ (attribute_ranges p.core_attrs ++ attribute_ranges p.core_attrs ++ attribute_ranges p.thread_attrs)

-- the range of a variable, as a system has it
abbrev pub bound_of : Meaning → ℕ → Bound
bound_of p v =
    let r : Range = slice_index_or (variable_ranges p) v (range (pos 0) (pos 0)) in record { lo = r.low; hi = r.high }

-- a pair of cores has thread counts and loads, also where no row has them
abbrev pub always_has : Statement → ℕ → Bool
always_has idle_sees_overloaded v = nat_lt v WEIGHT
always_has victim_is_overloaded v = nat_lt v WEIGHT
always_has move_narrows_gap v = nat_lt v WEIGHT
always_has further_move_narrows_gap v = nat_lt v WEIGHT
always_has (no_overlap e) v = false
always_has (no_gap e) v = false
always_has filter_leaves_last v = nat_lt v WEIGHT
always_has batch_leaves_last v = nat_lt v WEIGHT
always_has (rest_gap gap) v = nat_lt v WEIGHT

-- the variable occurs in a row of a case
abbrev pub occurs : ℕ → List (List Row) → Bool
occurs v cases = list_any (list_any (λ (row : Row). list_any (λ (term : Term). term.var == v) row.terms)) cases

-- the cases in which the statement fails
abbrev pub refuting_cases : Meaning → Statement → List (List Row)
refuting_cases p s = cases_of p.load true (refutation p s)

-- whether the variable is one of the statement's
abbrev pub has_variable : Meaning → Statement → ℕ → Bool
has_variable p s v = always_has s v || occurs v (refuting_cases p s)

-- those of the variables below that number that are kept, in the order of their numbers
abbrev pub kept_below : (ℕ → Bool) → ℕ → List ℕ
kept_below keeps zero = []
kept_below keeps (suc v) = kept_below keeps v ++ cond (keeps v) (v ∷ []) []

-- the place of a kept variable among those that are kept
abbrev pub place_of : (ℕ → Bool) → ℕ → ℕ
place_of keeps v = length (kept_below keeps v)

-- the row over the places of its variables
abbrev pub placed : (ℕ → Bool) → Row → Row
placed keeps row = record {
  terms = map (λ (term : Term). record { var = place_of keeps term.var; coef = term.coef }) row.terms;
  bound = row.bound;
}

-- the variables of a statement, in the order of their numbers
abbrev pub variables_of : Meaning → Statement → List ℕ
variables_of p s = kept_below (has_variable p s) MAX_VARIABLES

-- the system of a case: the range of each variable, and the rows over the variables' places
abbrev pub system_of_case : Meaning → Statement → List Row → LinearSystem
system_of_case p s rows = record {
  bounds = map (bound_of p) (variables_of p s);
  rows = map (placed (has_variable p s)) rows;
}

-- the systems of a statement, one for each case
abbrev pub systems_of : Meaning → Statement → List LinearSystem
systems_of p s = map (system_of_case p s) (refuting_cases p s)

-- the statement as its variables and its systems
abbrev pub question_of : Meaning → Statement → Question
question_of p s = record { vars = variables_of p s; systems = systems_of p s }

-- what keeps the last waiting thread of a core for idle cores
abbrev pub last_waiting_of : Meaning → LastWaiting
last_waiting_of p = record {
  filter = question_of p filter_leaves_last;
  batch = question_of p batch_leaves_last;
}

-- the obligation of that name
abbrev pub obligation_of : Meaning → ObName → Obligation
obligation_of p name = record {
  name = name;
  vars = variables_of p (statement_of name);
  systems = systems_of p (statement_of name);
}

-- all obligations of a policy
abbrev pub obligations_of : Meaning → List Obligation
obligations_of p = map (obligation_of p) ob_names
