-- What an answer to the statement on a gap tells of it.
use Rattle.std.proofs.Common.{ℕ, List}
use Rattle.policy_tree.specs.Meaning.{Meaning}
use Rattle.policy_eval.specs.Obligations.{RestGap, rest_gap}
use Rattle.policy_eval.specs.Resolved.{IsResolved}
use Rattle.linear_cert.specs.declared.cert.Cert.{Cert}
use Rattle.linear_form.specs.declared.form.Point.{Point}
use Rattle.obligations.specs.Systems.{systems_of}
use Rattle.policy_checker.specs.Answers.{AllRefuted, IsFirstSolved}
use Rattle.policy_checker.specs.LastThreads.{IsOneOf}
use Rattle.policy_checker.specs.RestGaps.{IsWider}
use Rattle.policy_checker.specs.declared.one.One.{One}
use Rattle.policy_checker.proofs.Points.{points_refute}
use Rattle.policy_checker.proofs.True.{certified_unsolved, met_if}

module _ (p : Meaning) (is : IsResolved p) (budget gap : ℕ) where
  -- certificates: the filter leaves no wider gap
  pub leaves_where_held : (certs : List Cert) → AllRefuted budget (systems_of p (rest_gap gap)) certs → RestGap p gap
  leaves_where_held certs all = met_if p is (rest_gap gap) (certified_unsolved budget (systems_of p (rest_gap gap)) certs all)

  -- a point: two cores have a wider one
  pub wider_where_failed : (one : One) (point : Point) → IsOneOf p budget (rest_gap gap) one → IsFirstSolved budget (systems_of p (rest_gap gap)) point.vals
      → IsWider p (record { gap = gap; vars = one.vars; point = point })
  wider_where_failed one point told solved = record { vars = told.vars; fails = points_refute p is (rest_gap gap) budget point.vals solved }
