-- The rule that every step keeps: how words, slots and views of a table belong together.
use Rattle.std.specs.Prelude.{◌≡◌, ℕ, ◌+◌, ◌<◌, ◌≤◌, max, true, false, List, length, take, slice_index}
use mathlib.Core.Option.{Option, none, some}
use lib.ListN.{get_elem?}
use Rattle.atomic_table.specs.Table.{State}
use Rattle.policy_tree.specs.Meaning.{Meaning}
use Rattle.policy_eval.specs.Obligations.{MeetsHandlerObligations}
use Rattle.round_model.specs.declared.entry.Entry.{Entry}
use Rattle.round_model.specs.declared.plan.Plan.{Plan}
use Rattle.round_model.specs.Entries.{touches}
use Rattle.round_model.specs.Fits.{Fits}
use Rattle.round_model.specs.Legal.{Legal}
use Rattle.round_model.specs.Limits.{IsWithinLimits}
use Rattle.round_model.specs.Owed.{owed_total}
use Rattle.round_model.specs.Reads.{round_start, value_read}
use Rattle.core_state.specs.Views.{CoreView}
use Rattle.core_table.specs.declared.slots.Slot.{Slot}
use Rattle.core_table.specs.declared.views.HeldCore.{HeldCore}
use Rattle.core_table.specs.declared.views.Role.{Role}
use Rattle.core_table.specs.declared.views.Role.TheVariants as role
use Rattle.core_table.specs.declared.views.Turn.{Turn}
use Rattle.core_table.specs.declared.views.Turn.TheVariants as turn
use Rattle.core_table.specs.declared.views.View.{View}
use Rattle.core_table.specs.Logs.{NonePass, log_at}
use Rattle.core_table.specs.Words.{mark_of, word_of}
use Rattle.core_table.specs.Views.{is_live, meaning_in, slot_of, spent_view, version_of, version_of_log}
use Rattle.core_table.specs.Told.{Each, IsAmong, IsCoreNow, IsDated, IsOpening, IsSeatOf, IsTrueNote, IsTrueRole}

-- of a core: the number of the seat that has it, how it is there or at home, and the version that its word says.
-- The log of the rounds counts as one more core, behind all others
pub record Keep : Type 0 where
  pub owner : Option ℕ
  pub state : CoreView
  pub version : ℕ

-- what no word has: the history of all entries, who has which core, which core's seat is out, and which seat is the
-- opening one
pub record Ledger : Type 0 where
  pub history : List Entry
  pub keeps : ℕ → Keep
  pub away : ℕ → Option ℕ
  pub lead : ℕ

-- a held core, as its seat has it
abbrev pub kept_by : ℕ → HeldCore → Keep
kept_by seat x = record { owner = some seat; state = x.state; version = x.version }

-- whether the core's seat is out is as the turn says
abbrev pub IsCounted : (ℕ → Option ℕ) → ℕ → Turn → Type 0
IsCounted away c turn.Idle = away c ≡ none
IsCounted away c turn.Out = (seat : ℕ) × (away c ≡ some seat)
IsCounted away c (turn.Done own) = away c ≡ none

-- the seat of that number has that role
abbrev pub IsSeated : (ℕ → Option ℕ) → (lead seat : ℕ) → Role → Type 0
IsSeated away lead seat (role.Opening merged turns) =
    (seat ≡ lead) × ((c : ℕ) (t : Turn) → get_elem? turns c ≡ some t → IsCounted away c t)
IsSeated away lead seat (role.Core c none_due) = away c ≡ some seat
IsSeated away lead seat role.Spent = Unit {0}

module _ (p : Meaning) (plan : Plan) (s : State Slot View) (l : Ledger) where
  -- Custody: each core is at home in its slot or in the hands of exactly one seat.
  pub record Custody : Type 0 where
    pub home : (c : ℕ) → c ≤ plan.cores → (l.keeps c).owner ≡ none →
        get_elem? s.homes c ≡ some (some (slot_of plan.cores c (l.keeps c).state))
    pub out : (c seat : ℕ) → c ≤ plan.cores → (l.keeps c).owner ≡ some seat → get_elem? s.homes c ≡ some none
    pub hands : (c seat : ℕ) → c ≤ plan.cores → (l.keeps c).owner ≡ some seat →
        (v : View) × (get_elem? s.views seat ≡ some v) × IsAmong v.held c
    pub held : (seat : ℕ) (v : View) → get_elem? s.views seat ≡ some v →
        Each (λ x. (x.core ≤ plan.cores) × (l.keeps x.core ≡ kept_by seat x)) v.held

  -- Numbering: word 0 is the position of the next entry.
  pub record Numbering : Type 0 where
    pub next : slice_index s.words 0 ≡ length l.history

  -- Agreement: the history is legal, and each core is as it leaves it, with exactly its entries in the log.
  pub record Agreement : Type 0 where
    pub legal : Legal p plan l.history
    pub cores : (c : ℕ) → c ≤ plan.cores → IsCoreNow p plan l.history c (l.keeps c).state

  -- Published: each load word says, with the mark of who is out, what its core was at a version of its log. That is
  -- the last version where the core is at home, and the open round began with no later one.
  pub record Published : Type 0 where
    pub word : (c : ℕ) → c ≤ plan.cores → slice_index s.words (c + 1)
        ≡ word_of (l.keeps c).version (value_read p plan l.history c (l.keeps c).version) + mark_of (l.keeps c).owner
    pub prefix : (c : ℕ) → c ≤ plan.cores → (l.keeps c).version
        ≡ version_of_log plan.cores c (log_at plan.cores c (take (l.keeps c).version l.history))
    pub current : (c : ℕ) → c ≤ plan.cores → (l.keeps c).owner ≡ none →
        (l.keeps c).version ≡ version_of plan.cores c (l.keeps c).state
    pub settled : (c : ℕ) → c < plan.cores →
        NonePass (touches c) l.history (l.keeps c).version (round_start l.history)

  -- Notes: each note is of the open round and true, and none stands above both the round's start and the version that
  -- the core's word says.
  pub record Notes : Type 0 where
    pub are_true : (seat : ℕ) (v : View) → get_elem? s.views seat ≡ some v →
        Each (IsTrueNote p plan l.history) v.notes
    pub fresh : (seat : ℕ) (v : View) → get_elem? s.views seat ≡ some v →
        Each (λ x. x.at ≤ max (round_start l.history) (l.keeps x.core).version) v.notes

  -- Reserve: all that the open round still owes fits the limit.
  pub record Reserve : Type 0 where
    pub room : length l.history + owed_total p plan l.history ≤ plan.limit

  -- Roster: each seat knows its part of the history, the cores' seats that are out are those that the opening seat
  -- counts, and a seat that was joined away knows nothing.
  pub record Roster : Type 0 where
    pub dated : (seat : ℕ) (v : View) → get_elem? s.views seat ≡ some v → is_live v.role ≡ true →
        IsDated l.history v
    pub roles : (seat : ℕ) (v : View) → get_elem? s.views seat ≡ some v →
        IsTrueRole p plan l.history v.own v.role
    pub seated : (seat : ℕ) (v : View) → get_elem? s.views seat ≡ some v → IsSeated l.away l.lead seat v.role
    pub spent : (seat : ℕ) (v : View) → get_elem? s.views seat ≡ some v → is_live v.role ≡ false → v ≡ spent_view
    pub opening : (seat : ℕ) (v : View) → get_elem? s.views seat ≡ some v → is_live v.role ≡ true →
        (meaning_in v ≡ p) × (v.plan ≡ plan)
    pub there : (c seat : ℕ) → l.away c ≡ some seat →
        (v : View) × (get_elem? s.views seat ≡ some v) × IsSeatOf v c
    pub lead : (v : View) × (get_elem? s.views l.lead ≡ some v) × IsOpening v

-- all seven parts, over a plan that fits, within the limits, and a policy whose handlers meet their obligations. There
-- are as many words and slots as the plan's cores ask
pub record TableHolds (p : Meaning) (plan : Plan) (s : State Slot View) : Type 0 where
  pub fits : Fits p plan
  pub limits : IsWithinLimits plan
  pub handlers : MeetsHandlerObligations p
  pub wide : length s.words ≡ plan.cores + 2
  pub deep : length s.homes ≡ plan.cores + 1
  pub ledger : Ledger
  pub custody : Custody p plan s ledger
  pub numbering : Numbering p plan s ledger
  pub agreement : Agreement p plan s ledger
  pub published : Published p plan s ledger
  pub notes : Notes p plan s ledger
  pub reserve : Reserve p plan s ledger
  pub roster : Roster p plan s ledger
