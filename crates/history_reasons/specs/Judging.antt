-- What the judges of an entry answer.
use Rattle.std.specs.Prelude.{◌≡◌, ℕ, ◌+◌, List, Option, None, Some, All, length}
use Rattle.policy_tree.specs.Meaning.{Meaning}
use Rattle.round_model.specs.declared.entry.Entry.{Entry}
use Rattle.round_model.specs.declared.plan.Plan.{Plan}
use Rattle.round_judge.specs.declared.past.Past.{Past}
use Rattle.round_judge.specs.Past.{StandsFor}
use Rattle.history_reasons.specs.declared.reason.Reason.{Reason}
use Rattle.history_reasons.specs.Reasons.{IsReasonOf}
use Rattle.history_reasons.specs.Rules.{IsKept, Rule}

-- there is no reason, and the entry keeps these rules; or it is the reason why it doesn't
abbrev pub Judges : Meaning → Plan → List Entry → Entry → List Rule → Option Reason → Type 0
Judges p plan history e rules None = All (IsKept p plan history e) rules
Judges p plan history e rules (Some why) = IsReasonOf p plan history e rules why

-- the past stands for some history of the plan
abbrev pub HasHistory : Plan → Past → Type 0
HasHistory plan past = (p : Meaning) × (history : List Entry) × StandsFor p plan past history

-- the open round of the past starts there
abbrev pub StartsAt : Past → ℕ → Type 0
StartsAt past start = start + length past.rows ≡ past.entries + 1
