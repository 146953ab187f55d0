-- How a point is written at which an obligation fails.
use Rattle.std.specs.Prelude.{◌≡◌, ℕ, ℤ, ◌-◌, ◌==◌, if◌then◌else◌, nat_lt, List, [], ◌++◌, codes, length, map}
use Rattle.std.specs.Prelude.{slice_index_or}
use Rattle.std.specs.Fmt.{signed_decimal}
use Rattle.std.specs.List.{flat_map, zip}
use Rattle.policy_tree.specs.declared.typed.Attr.{Attr}
use Rattle.policy_tree.specs.declared.variables.TheConstants.{FRESH, OTHER_ATTRIBUTES, OTHER_LOAD, OTHER_NR}
use Rattle.policy_tree.specs.declared.variables.TheConstants.{SELF_ATTRIBUTES, SELF_LOAD, SELF_NR, THREAD_ATTRIBUTES}
use Rattle.policy_tree.specs.declared.variables.TheConstants.{WEIGHT}
use Rattle.policy_tree.specs.Meaning.{Meaning}
use Rattle.obligations.specs.declared.names.ObName.{ObName}
use Rattle.obligations.specs.Names.{ob_text, statement_of}
use Rattle.obligations.specs.Systems.{variables_of}
use Rattle.policy_checker.specs.declared.answer.ObAnswer.{ObAnswer}
use Rattle.policy_checker.specs.declared.answer.ObAnswer.TheVariants as answer
use Rattle.policy_checker.specs.declared.answer.Outcome.TheVariants as outcome
use Rattle.policy_answers.specs.Lines.{line_of}

-- the name that the policy gives to an attribute
abbrev pub attribute_name : List Attr → ℕ → List ℕ
attribute_name attrs at = slice_index_or (map (λ (attr : Attr). attr.name) attrs) at []

-- an attribute as the policy's text has it: the owner, a dot, and its name
abbrev pub attribute_text : Meaning → ℕ → List ℕ
attribute_text p v =
    if nat_lt v OTHER_ATTRIBUTES then codes "self." ++ attribute_name p.core_attrs (v - SELF_ATTRIBUTES)
    else if nat_lt v THREAD_ATTRIBUTES then codes "victim." ++ attribute_name p.core_attrs (v - OTHER_ATTRIBUTES)
    else codes "t." ++ attribute_name p.thread_attrs (v - THREAD_ATTRIBUTES)

-- a variable as the policy's text has it
abbrev pub variable_text : Meaning → ℕ → List ℕ
variable_text p v =
    if v == SELF_NR then codes "self.nr"
    else if v == SELF_LOAD then codes "self.load"
    else if v == OTHER_NR then codes "victim.nr"
    else if v == OTHER_LOAD then codes "victim.load"
    else if v == WEIGHT then codes "t.weight"
    else if v == FRESH then codes "t.fresh"
    else attribute_text p v

-- a variable with its value
abbrev pub value_text : Meaning → ℕ × ℤ → List ℕ
value_text p pair = codes " " ++ (variable_text p pair.0 ++ (codes "=" ++ signed_decimal pair.1))

-- the variables with their values
abbrev pub values_text : Meaning → List ℕ → List ℤ → List ℕ
values_text p vars vals = flat_map (value_text p) (zip vars vals)

-- the line of an obligation that fails at a point
abbrev pub failing_line : Meaning → ObName → List ℤ → List ℕ
failing_line p name vals =
    ob_text name ++ (codes " fails" ++ (values_text p (variables_of p (statement_of name)) vals ++ codes "\n"))

-- the line of `explain` for an answer to the obligation of that name
abbrev pub explain_line : Meaning → ObName → ObAnswer → List ℕ
explain_line p name (answer.Holds certs) = line_of name outcome.Holds
explain_line p name (answer.Fails point) = failing_line p name point.vals
explain_line p name (answer.Undecided points) = line_of name outcome.Undecided

-- a point has one value for each of these variables
abbrev pub HasValues : List ℕ → ObAnswer → Type 0
HasValues vars (answer.Holds certs) = Unit {0}
HasValues vars (answer.Fails point) = length point.vals ≡ length vars
HasValues vars (answer.Undecided points) = Unit {0}
