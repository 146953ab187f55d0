-- What a core of a history in memory knows, and what it rests on.
use Rattle.std.specs.Prelude.{◌≡◌, ℕ, zero, suc, ◌+◌, ◌-◌, ◌<◌, ◌≤◌, max, Bool, List, [], ◌∷◌, ◌++◌, length, map, take}
use Rattle.sched_base.specs.declared.limits.TheConstants.{MAX_ENTRIES}
use Rattle.policy_tree.specs.declared.typed.Policy.{Policy}
use Rattle.policy_tree.specs.Meaning.{Meaning, meaning_of}
use Rattle.policy_eval.specs.Obligations.{MeetsHandlerObligations}
use Rattle.round_model.specs.declared.entry.Entry.{Entry}
use Rattle.round_model.specs.declared.entry.Entry.TheVariants as entry
use Rattle.round_model.specs.declared.plan.Plan.{Plan}
use Rattle.round_model.specs.After.{round_of}
use Rattle.round_model.specs.Cores.{core_numbers}
use Rattle.round_model.specs.Fits.{Fits}
use Rattle.round_model.specs.FreshReads.{touched_from}
use Rattle.round_model.specs.Legal.{LegalNext, LegalRound, rounds_begun}
use Rattle.round_model.specs.Owed.{owed_total}
use Rattle.round_model.specs.Reads.{round_start, value_read}
use Rattle.round_judge.specs.declared.past.Past.{Past}
use Rattle.round_judge.specs.Past.{IsPastOf, StandsFor}
use Rattle.serial_steps.specs.SerialEnds.{RoundFits}
use Rattle.core_table.specs.declared.views.Note.{Note}
use Rattle.core_table.specs.declared.views.Role.TheVariants as role
use Rattle.core_table.specs.declared.views.View.{View}
use Rattle.core_table.specs.Logs.{own_log}
use Rattle.core_table.specs.Told.{Agrees}
use Rattle.core_table.specs.Views.{noted}
use Rattle.turn_tests.specs.declared.memory_calls.MemoryCalls.{MemoryCalls}

abbrev pub policy_of : MemoryCalls → Policy
policy_of it = it.policy.now

abbrev pub plan_of : MemoryCalls → Plan
plan_of it = it.plan.now

abbrev pub meaning_in_memory : MemoryCalls → Meaning
meaning_in_memory it = meaning_of (policy_of it)

abbrev pub core_of : MemoryCalls → ℕ
core_of it = it.core

abbrev pub past_of : MemoryCalls → Past
past_of it = it.past

abbrev pub history_of : MemoryCalls → List Entry
history_of it = it.history

abbrev pub none_due_in : MemoryCalls → Bool
none_due_in it = it.none_due

-- what a core that looks behind so many entries reads of the core c: the position behind the last of them that touches
-- it, or the round's start where that is later
abbrev pub fresh_at : List Entry → (k c : ℕ) → ℕ
fresh_at history k c = max (round_start history) (touched_from c 0 0 (take k history))

-- so it reads of each core just now
abbrev pub fresh_of : Plan → List Entry → List ℕ
fresh_of plan history = map (λ c. max (round_start history) (touched_from c 0 0 history)) (core_numbers plan)

-- with what is to be seen there
abbrev pub note_at : Meaning → Plan → List Entry → (k c : ℕ) → Note
note_at p plan history k c = noted c (fresh_at history k c) (value_read p plan history c (fresh_at history k c))

abbrev pub row_at : Meaning → Plan → List Entry → ℕ → List Note
row_at p plan history k = map (note_at p plan history k) (core_numbers plan)

-- behind the first so many entries of the open round and all earlier ones of it, the newest in front
abbrev pub rows_to : Meaning → Plan → List Entry → ℕ → List Note
rows_to p plan history zero = row_at p plan history (round_start history)
rows_to p plan history (suc k) = row_at p plan history (round_start history + suc k) ++ rows_to p plan history k

-- all that a core could have read in the open round
abbrev pub notes_of : Meaning → Plan → List Entry → List Note
notes_of p plan history = rows_to p plan history (length history - round_start history)

-- the view of a core that has read all that it could have read
abbrev pub viewed : Policy → Plan → ℕ → List Entry → Bool → View
viewed policy plan core history none_due = record {
  policy = policy;
  plan = plan;
  role = role.Core core none_due;
  round = round_of history;
  start = round_start history;
  own = own_log core history;
  notes = notes_of (meaning_of policy) plan history;
  held = [];
}

abbrev pub view_of : MemoryCalls → View
view_of it = viewed (policy_of it) (plan_of it) (core_of it) (history_of it) (none_due_in it)

-- what is kept is that of the history, and all that the cores owe fits the plan's limit
pub record Keeps (p : Meaning) (plan : Plan) (past : Past) (history : List Entry) : Type 0 where
  pub fits : Fits p plan
  pub handlers : MeetsHandlerObligations p
  pub stands : StandsFor p plan past history
  pub belongs : IsPastOf p plan past
  pub reserve : length history + owed_total p plan history ≤ plan.limit

abbrev pub IsKept : MemoryCalls → Type 0
IsKept it = Keeps (meaning_in_memory it) (plan_of it) (past_of it) (history_of it)

-- and it is the history that the core's view tells of
pub record IsReady (it : MemoryCalls) : Type 0 where
  pub kept : IsKept it
  pub agrees : Agrees (view_of it) (history_of it)

-- the entry is legal next, and there is room for it
pub record MayGrow (it : MemoryCalls) (e : Entry) : Type 0 where
  pub legal : LegalNext (meaning_in_memory it) (plan_of it) (history_of it) e
  pub room : length (history_of it) < MAX_ENTRIES

-- the entry stands at the end, and nothing else changed but what is kept
pub record HasGrown (e : Entry) (before now : MemoryCalls) : Type 0 where
  pub is : now ≡ record before { past = past_of now; history = history_of before ++ e ∷ [] }
  pub stands : StandsFor (meaning_in_memory before) (plan_of before) (past_of now) (history_of before ++ e ∷ [])
  pub belongs : IsPastOf (meaning_in_memory before) (plan_of before) (past_of now)

-- the next round may begin, and all that it may add fits the plan's limit
pub record MayBegin (it : MemoryCalls) : Type 0 where
  pub next : LegalRound (plan_of it) (history_of it) (rounds_begun (history_of it) + 1)
  pub room : RoundFits (plan_of it) (length (history_of it))

-- it is of the same policy and plan
pub record IsSameMemory (before now : MemoryCalls) : Type 0 where
  pub policy : policy_of now ≡ policy_of before
  pub plan : plan_of now ≡ plan_of before

-- the next round began, in which nobody has done anything
pub record HasBegun (before now : MemoryCalls) : Type 0 where
  pub ready : IsReady now
  pub core : core_of now ≡ 0
  pub history : history_of now ≡ history_of before ++ entry.Round (rounds_begun (history_of before) + 1) ∷ []
  pub fresh : (c : ℕ) → own_log c (history_of now) ≡ []
