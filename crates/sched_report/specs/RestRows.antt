-- What the row of a stretch says of rest.
use Rattle.std.specs.Prelude.{ℕ, suc, ◌*◌, ◌-◌, ◌<◌, ◌≤◌, List, Option, None, Some, All, take}
use Rattle.policy_tree.specs.Meaning.{Meaning}
use Rattle.round_model.specs.declared.entry.Entry.{Entry}
use Rattle.round_model.specs.declared.plan.Plan.{Plan}
use Rattle.round_model.specs.After.{after}
use Rattle.round_model.specs.Cores.{Cores}
use Rattle.round_model.specs.Legal.{Legal}
use Rattle.round_model.specs.Rounds.{BeginsAt}
use Rattle.round_laws.specs.Rest.{RestlessAt}
use Rattle.rest_laws.specs.Gap.{LoadsWithin}
use Rattle.sched_report.specs.StillRows.{IsStillRow}
use Rattle.sched_report.specs.declared.rows.FullReport.{FullReport}
use Rattle.sched_report.specs.declared.rows.RestRow.{RestRow}
use Rattle.sched_report.specs.declared.rows.StillRow.{StillRow}

-- no two loads differ by more than the gap, and by none that is less
pub record IsLeastWidth (plan : Plan) (m : Cores) (gap : ℕ) : Type 0 where
  pub within : LoadsWithin plan m gap
  pub least : (other : ℕ) → LoadsWithin plan m other → gap ≤ other

module _ (p : Meaning) (plan : Plan) (history : List Entry) where
  -- as each of these rounds opens some core may steal from another
  abbrev pub OpenRestless : (first end : ℕ) → Type 0
  OpenRestless first end = (number opening : ℕ) → first ≤ number → number < end → BeginsAt history number opening
      → RestlessAt p plan history opening

  -- it is the first round of them that opens with the cores at rest, and the least gap between their loads then
  pub record IsFirstRest (first last : ℕ) (rest : RestRow) : Type 0 where
    pub from : first ≤ rest.round
    pub to : rest.round ≤ last
    pub opening : ℕ
    pub begins : BeginsAt history rest.round opening
    pub rests : ¬ RestlessAt p plan history opening
    pub gap : IsLeastWidth plan (after p plan (take opening history)) rest.gap
    pub earlier : OpenRestless first rest.round

  -- what is said of the rounds first to last is so
  abbrev pub SaysOfRest : (first last : ℕ) → Option RestRow → Type 0
  SaysOfRest first last None = OpenRestless first (suc last)
  SaysOfRest first last (Some rest) = IsFirstRest first last rest

-- what the row of a stretch says of rest is so of its history
abbrev pub RestRowsLaw : Type 0
RestRowsLaw = (p : Meaning) (plan : Plan) (history : List Entry) (row : StillRow) → Legal p plan history
    → IsStillRow p plan history row → SaysOfRest p plan history row.first row.last row.rest

-- how many of the rounds first to last come before that
abbrev pub rounds_before : (first last : ℕ) → Option RestRow → ℕ
rounds_before first last None = suc last - first
rounds_before first last (Some rest) = rest.round - first

-- half the spread of each stretch pays for the rounds of it that come before its cores are at rest
abbrev pub RestsInTime : FullReport → Type 0
RestsInTime report =
    All (λ (row : StillRow). 2 * rounds_before row.first row.last row.rest ≤ row.spread) report.stills
