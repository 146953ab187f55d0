-- The entries that may be added to a past.
use Rattle.std.specs.Prelude.{ℕ, ◌<◌, List, length}
use Rattle.sched_base.specs.declared.limits.TheConstants.{MAX_ENTRIES}
use Rattle.policy_tree.specs.Meaning.{Meaning}
use Rattle.round_model.specs.declared.entry.Entry.{Entry}
use Rattle.round_model.specs.declared.entry.Entry.TheVariants as entry
use Rattle.round_model.specs.declared.plan.Plan.{Plan}
use Rattle.round_model.specs.Legal.{LegalNext}
use Rattle.round_judge.specs.declared.past.Past.{Past}
use Rattle.round_judge.specs.Past.{StandsFor}

-- the entry is legal after some history that the past stands for, and there is room for it
pub record IsNextAfter (p : Meaning) (plan : Plan) (past : Past) (e : Entry) : Type 0 where
  pub history : List Entry
  pub stands : StandsFor p plan past history
  pub legal : LegalNext p plan history e
  pub room : length history < MAX_ENTRIES

-- how many threads come with the entry
abbrev pub comes : Entry → ℕ
comes (entry.Enter thread by at reads) = 1
comes e = 0
