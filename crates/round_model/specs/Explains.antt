-- What explains a failed steal.
use Rattle.std.specs.Prelude.{◌≡◌, ◌≢◌, ℕ, suc, ◌<◌, ◌≤◌, ◌⊎◌, List, slice_index}
use mathlib.Core.Option.{some}
use lib.ListN.{get_elem?}
use Rattle.policy_tree.specs.Meaning.{Meaning}
use Rattle.round_model.specs.declared.entry.Entry.{Entry}
use Rattle.round_model.specs.declared.entry.Entry.TheVariants as entry
use Rattle.round_model.specs.declared.plan.Plan.{Plan}
use Rattle.round_model.specs.Reads.{value_read}

-- the entry at the position changes thread count or load of the core
abbrev pub ChangesSeen : Meaning → Plan → List Entry → ℕ → ℕ → Type 0
ChangesSeen p plan history c position =
    value_read p plan history c position ≢ value_read p plan history c (suc position)

-- the entry at `cause` explains the Fail at `k`: after the Fail read its thief or victim, and before the Fail, it
-- changed what was read there
pub record Explains (p : Meaning) (plan : Plan) (history : List Entry) (k cause : ℕ) : Type 0 where
  pub thief : ℕ
  pub victim : ℕ
  pub reads : List ℕ
  pub fails : get_elem? history k ≡ some (entry.Fail thief victim reads)
  pub core : ℕ
  pub thief_or_victim : (core ≡ thief) ⊎ (core ≡ victim)
  pub after_read : slice_index reads core ≤ cause
  pub before_fail : cause < k
  pub changes : ChangesSeen p plan history core cause
