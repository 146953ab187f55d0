-- A reason is built rule by rule.
use Rattle.std.proofs.Common.{◌≡◌, List, ◌∷◌, Option, None, Some, inl, inr}
use Rattle.std.proofs.lemmas.List.Elements.{All-cons}
use Rattle.policy_tree.specs.Meaning.{Meaning}
use Rattle.round_model.specs.declared.entry.Entry.{Entry}
use Rattle.round_model.specs.declared.plan.Plan.{Plan}
use Rattle.history_reasons.specs.Judging.{Judges}
use Rattle.history_reasons.specs.Reasons.{IsTold, rule_of}
use Rattle.history_reasons.specs.Rules.{IsKept, Rule}
use Rattle.history_reasons.specs.declared.reason.Reason.{Reason}

module _ (p : Meaning) (plan : Plan) (h : List Entry) (e : Entry) (rule : Rule) (rules : List Rule) where
  -- the entry keeps the rule, and the judge goes on
  pub goes_on : (o : Option Reason) → IsKept p plan h e rule → Judges p plan h e rules o → Judges p plan h e (rule ∷ rules) o
  goes_on None kept rest = All-cons (IsKept p plan h e) rule rules kept rest
  goes_on (Some why) kept rest = record { broken = inr (kept, rest.broken); told = rest.told }

  -- the entry breaks it, for this reason
  pub stops : (why : Reason) → rule_of why ≡ rule → ¬ IsKept p plan h e rule → IsTold p plan h e why → Judges p plan h e (rule ∷ rules) (Some why)
  stops why names breaks told = record { broken = inl (names, breaks); told = told }
