-- Reads: the moments of a round at which other cores were looked at.
use Rattle.std.specs.Prelude.{◌≡◌, ℕ, suc, ◌≤◌, cond, List, [], ◌∷◌, take, length, All, slice_index}
use Rattle.policy_tree.specs.Meaning.{Meaning}
use Rattle.policy_eval.specs.declared.env.CoreValues.{CoreValues}
use Rattle.round_model.specs.declared.entry.Entry.{Entry}
use Rattle.round_model.specs.declared.plan.Plan.{Plan}
use Rattle.round_model.specs.declared.state.CountAndLoad.{CountAndLoad}
use Rattle.round_model.specs.After.{after}
use Rattle.round_model.specs.Cores.{consts_of, seen_of}
use Rattle.round_model.specs.Kinds.{is_round}

-- the position just after the last Round of these entries, the first of which stands at k
abbrev pub start_from : ℕ → ℕ → List Entry → ℕ
start_from k start [] = start
start_from k start (e ∷ es) = start_from (suc k) (cond (is_round e) (suc k) start) es

-- the position just after the last Round of a history, and 0 before the first
abbrev pub round_start : List Entry → ℕ
round_start history = start_from 0 0 history

-- the position is one that an entry at `position` may have read: in its round, and no later than itself
pub record IsReadOf (start position p : ℕ) : Type 0 where
  pub in_round : start ≤ p
  pub before_entry : p ≤ position

-- one read of each core
pub record ReadsFit (cores start position : ℕ) (reads : List ℕ) : Type 0 where
  pub one_each : length reads ≡ cores
  pub each : All (IsReadOf start position) reads

-- thread count and load of a core at a position of a history
abbrev pub value_read : Meaning → Plan → List Entry → ℕ → ℕ → CountAndLoad
value_read p plan history c position = seen_of (after p plan (take position history) c)

-- what a policy may ask of a core that was seen so. Constants never change, so they aren't read
abbrev pub values_of : Plan → ℕ → CountAndLoad → CoreValues
values_of plan c seen = record { nr = seen.nr; load = seen.load; consts = consts_of plan c }

-- what was seen of each core, where the k-th read is that of core k
abbrev pub read_values : Plan → (ℕ → ℕ → CountAndLoad) → List ℕ → ℕ → CoreValues
read_values plan seen reads c = values_of plan c (seen c (slice_index reads c))
