-- What a past tells of a history.
use Rattle.std.specs.Prelude.{◌≡◌, ℕ, ◌+◌, ◌==◌, nat_lt, ◌<◌, ◌≤◌, Bool, false, List, [], filter, length, map, sum_by}
use Rattle.std.specs.Prelude.{count_by, All, slice_index_or}
use Rattle.sched_base.specs.declared.limits.TheConstants.{MAX_ENTRIES, MAX_THREADS}
use Rattle.policy_tree.specs.Meaning.{Meaning}
use Rattle.policy_eval.specs.Fitting.{LoadsFit}
use Rattle.round_model.specs.declared.entry.Entry.{Entry}
use Rattle.round_model.specs.declared.plan.Plan.{Plan}
use Rattle.round_model.specs.declared.plan.Planned.{Planned}
use Rattle.round_model.specs.declared.state.CountAndLoad.{CountAndLoad}
use Rattle.round_model.specs.After.{after, round_of}
use Rattle.round_model.specs.Bounds.{CoreInBounds, standing_count}
use Rattle.round_model.specs.Cores.{core_numbers, listed}
use Rattle.round_model.specs.Legal.{Legal, has_ended, rounds_begun}
use Rattle.round_model.specs.Limits.{IsWithinLimits}
use Rattle.round_model.specs.Lists.{Lists}
use Rattle.round_model.specs.Reads.{round_start, value_read}
use Rattle.round_model.specs.Scenes.{has_attempted, has_worked, is_entering, own_entries}
use Rattle.round_judge.specs.declared.past.Arrival.{Arrival}
use Rattle.round_judge.specs.declared.past.Past.{Past}
use Rattle.round_judge.specs.declared.past.Turn.{Turn}

-- a thread that is to enter, as the past keeps it
abbrev pub arrival_of : Planned → Arrival
arrival_of t = record { id = t.id; core = t.core }

abbrev pub arrives_at : ℕ → Arrival → Bool
arrives_at a x = x.core == a

-- how far the core has come in the open round
abbrev pub turn_of : List Entry → ℕ → Turn
turn_of history a = record {
  worked = has_worked (own_entries history a);
  attempted =
      has_attempted (own_entries history a);
}

-- the arrivals are the threads that have yet to enter, core by core
pub record Awaits (plan : Plan) (history : List Entry) (arrivals : List Arrival) : Type 0 where
  pub at_core : (a : ℕ) → filter (arrives_at a) arrivals
      ≡ map arrival_of (filter (is_entering (round_of history) a (own_entries history a)) plan.threads)

-- what the k-th row says of the core c
abbrev pub seen_in : List (List CountAndLoad) → ℕ → ℕ → CountAndLoad
seen_in rows k c = slice_index_or (slice_index_or rows k []) c (record { nr = 0; load = 0 })

-- a row for each position of the open round
pub record Shows (p : Meaning) (plan : Plan) (history : List Entry) (rows : List (List CountAndLoad)) : Type 0 where
  pub window : round_start history + length rows ≡ length history + 1
  pub each : (k c : ℕ) → k < length rows → c < plan.cores →
      seen_in rows k c ≡ value_read p plan history c (round_start history + k)

-- whether the flag of the number is set
abbrev pub is_flagged : List Bool → ℕ → Bool
is_flagged flags id = slice_index_or flags id false

-- the past is what has to be kept of that history
pub record StandsFor (p : Meaning) (plan : Plan) (past : Past) (history : List Entry) : Type 0 where
  pub legal : Legal p plan history
  pub state : past.state ≡ listed plan.cores (after p plan history)
  pub entries : past.entries ≡ length history
  pub rounds : past.rounds ≡ rounds_begun history
  pub round : past.rounds ≡ round_of history
  pub turns : past.turns ≡ map (turn_of history) (core_numbers plan)
  pub arrivals : 0 < past.rounds → Awaits plan history past.arrivals
  pub rows : Shows p plan history past.rows
  pub ended : All (λ (t : Planned). is_flagged past.ended t.id ≡ has_ended history t) plan.threads

-- the rows reach from a position of the history to its end
pub record IsWindow (past : Past) : Type 0 where
  pub some : 1 ≤ length past.rows
  pub within : length past.rows ≤ past.entries + 1
  pub few : past.entries ≤ MAX_ENTRIES

-- the position is one of the rows: from the last Round on, and no later than the end
pub record IsKeptPosition (past : Past) (position : ℕ) : Type 0 where
  pub not_after : position ≤ past.entries
  pub not_before : past.entries + 1 ≤ position + length past.rows

-- the past was made for that plan, which is within the limits, and its numbers lie in the policy's ranges
pub record IsPastOf (p : Meaning) (plan : Plan) (past : Past) : Type 0 where
  pub limits : IsWithinLimits plan
  pub cores : length past.state ≡ plan.cores
  pub turns : length past.turns ≡ plan.cores
  pub each : All (CoreInBounds p) past.state
  pub total : sum_by standing_count past.state + length past.arrivals
      + count_by (λ (t : Planned). nat_lt past.rounds t.round) plan.threads ≤ length plan.threads
  pub window : IsWindow past
  pub rows : (k c : ℕ) → k < length past.rows → c < plan.cores →
      LoadsFit p (seen_in past.rows k c).nr (seen_in past.rows k c).load
  pub rounds : past.rounds ≤ plan.rounds
  pub lists : Lists plan past.directory
  pub ended : length past.ended ≡ MAX_THREADS + 1

-- of each history that the past stands for
abbrev pub OfEach : Meaning → Plan → Past → (List Entry → Type 0) → Type 0
OfEach p plan past P = (history : List Entry) → StandsFor p plan past history → P history
