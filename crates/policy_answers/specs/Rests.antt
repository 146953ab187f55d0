-- Which answer of `rest` a policy's text may get, and how it is written.
use Rattle.std.specs.Prelude.{◌≡◌, ℕ, ◌*◌, ◌-◌, nat_lt, Bool, true, false, cond, List, [], ◌∷◌, ◌++◌, codes, decimal, None}
use Rattle.sched_base.specs.declared.limits.TheConstants.{CHECK_BUDGET, MAX_THREADS}
use Rattle.policy_tree.specs.declared.typed.Load.{Load}
use Rattle.policy_tree.specs.Meaning.{Meaning}
use Rattle.policy_eval.specs.Ranges.{greatest_weight, least_weight}
use Rattle.rest_bounds.specs.Following.{raises_lowest}
use Rattle.policy_reader.specs.Spelled.{SpellsPolicy}
use Rattle.obligations.specs.Counts.{first_crowded}
use Rattle.obligations.specs.Names.{ob_names}
use Rattle.policy_checker.specs.Certified.{IsCertified}
use Rattle.policy_checker.specs.RestGaps.{IsLeastGap}
use Rattle.policy_checker.specs.declared.rest_gaps.LeastGap.{LeastGap}
use Rattle.policy_checker.specs.declared.rest_gaps.LeastGap.TheVariants as found
use Rattle.policy_answers.specs.Bounds.{IsNoAcceptance}
use Rattle.policy_answers.specs.Checks.{IsCheckOf}
use Rattle.policy_answers.specs.Lines.{check_lines}
use Rattle.policy_answers.specs.Points.{values_text}
use Rattle.policy_answers.specs.declared.resting.RestAnswer.{RestAnswer}
use Rattle.policy_answers.specs.declared.resting.RestAnswer.TheVariants as rest
use Rattle.policy_answers.specs.declared.resting.Resting.{Resting}

-- the widest gap that the loads of two cores with a thread may have
abbrev pub widest_gap : Load → ℕ
widest_gap load = MAX_THREADS * greatest_weight load - least_weight load

-- a gap as it is written: one that is as wide as two cores with a thread may have is none
abbrev pub gap_word : Load → ℕ → List ℕ
gap_word load gap = cond (nat_lt gap (widest_gap load)) (decimal gap) (codes "none")

-- the line on the gap that cores at rest may have
abbrev pub gap_line : Meaning → LeastGap → List ℕ
gap_line p found.Even = codes "rest gap 0\n"
gap_line p (found.Least gap wider) =
    codes "rest gap " ++ (gap_word p.load gap ++ (values_text p wider.vars wider.point.vals ++ codes "\n"))
gap_line p (found.Undecided at proved) =
    codes "rest gap undecided " ++ (decimal at ++ (codes " proved " ++ (gap_word p.load proved ++ codes "\n")))

-- that is found of the policy's gap, and the line says it
pub record IsToldOfGap (p : Meaning) (resting : Resting) : Type 0 where
  pub found : IsLeastGap p CHECK_BUDGET resting.gap
  pub line : resting.line.items ≡ gap_line p resting.gap
  -- and whether the policy raises the lowest, as far as that is computed
  pub lowest : resting.lowest_first ≡ raises_lowest p

-- the text spells a policy that is accepted, no obligation of which has too many cases, and that is told of it
pub record IsAtRest (text : List ℕ) (resting : Resting) : Type 0 where
  pub p : Meaning
  pub spells : SpellsPolicy text p
  pub few : first_crowded p ob_names ≡ None
  pub certified : IsCertified p
  pub told : IsToldOfGap p resting

-- that is the answer of `rest`
abbrev pub IsRestOf : List ℕ → RestAnswer → Type 0
IsRestOf text (rest.Rests resting) = IsAtRest text resting
IsRestOf text (rest.Unaccepted checked) = IsCheckOf text checked × IsNoAcceptance checked

-- the line on the rounds until cores are at rest: half the spread is enough for each accepted policy, and one that
-- raises the lowest has fewer
abbrev pub rounds_line : Bool → List ℕ
rounds_line true = codes "rest bound lowest-first\n"
rounds_line false = codes "rest bound half-spread\n"

-- the lines of `rest`
abbrev pub rest_lines : RestAnswer → List (List ℕ)
rest_lines (rest.Rests resting) = resting.line.items ∷ rounds_line resting.lowest_first ∷ []
rest_lines (rest.Unaccepted checked) = check_lines checked
