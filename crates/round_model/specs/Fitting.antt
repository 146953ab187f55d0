-- Entries that fit the cores that they change.
use Rattle.std.specs.Prelude.{◌≢◌, ℕ, ◌<◌}
use Rattle.policy_tree.specs.Meaning.{Meaning}
use Rattle.round_model.specs.declared.entry.Entry.{Entry}
use Rattle.round_model.specs.declared.entry.Entry.TheVariants as entry
use Rattle.round_model.specs.declared.plan.Plan.{Plan}
use Rattle.round_model.specs.Cores.{Cores}
use Rattle.round_model.specs.Work.{IsOutcomeOfWork}

-- the cores that the entry changes are among so many, and no core steals from itself
abbrev pub AreThere : ℕ → Entry → Type 0
AreThere n (entry.Enter thread by at reads) = at < n
AreThere n (entry.Wake thread by at reads) = (by < n) × (at < n)
AreThere n (entry.Work by what) = by < n
AreThere n (entry.Steal by from threads reads) = (by < n) × ((from < n) × (by ≢ from))
AreThere n e = Unit {0}

-- what the entry says of a unit is what the unit comes to
abbrev pub MayBeSaid : Meaning → Plan → ℕ → Cores → Entry → Type 0
MayBeSaid p plan round m (entry.Work by what) = IsOutcomeOfWork p plan round (m by) what
MayBeSaid p plan round m e = Unit {0}
