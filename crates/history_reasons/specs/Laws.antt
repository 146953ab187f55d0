-- What the rules come to, as a law over all policies, plans, histories and entries.
use Rattle.std.specs.Prelude.{◌↔◌, List, All}
use Rattle.policy_tree.specs.Meaning.{Meaning}
use Rattle.round_model.specs.declared.entry.Entry.{Entry}
use Rattle.round_model.specs.declared.plan.Plan.{Plan}
use Rattle.round_model.specs.Legal.{LegalNext}
use Rattle.history_reasons.specs.declared.reason.Reason.{Reason}
use Rattle.history_reasons.specs.Reasons.{IsReason}
use Rattle.history_reasons.specs.Rules.{IsKept, rules_of}

-- an entry is legal next exactly where it keeps all its rules, and none that has a reason is
pub record RulesLaw : Type 0 where
  pub legal : (p : Meaning) (plan : Plan) (history : List Entry) (e : Entry) →
      LegalNext p plan history e ↔ All (IsKept p plan history e) (rules_of e)
  pub reason : (p : Meaning) (plan : Plan) (history : List Entry) (e : Entry) (why : Reason) →
      IsReason p plan history e why → ¬ LegalNext p plan history e
