-- The calls of a core in its turn: which core makes them, and what comes of a look and of an attempt.
use Rattle.std.specs.Prelude.{◌≡◌, ℕ, ◌+◌, ◌≤◌, List, length}
use Rattle.core_table.specs.declared.views.Role.{Role}
use Rattle.core_table.specs.declared.views.Role.TheVariants as role
use Rattle.core_table.specs.declared.views.View.{View}
use Rattle.select_phase.specs.declared.looks.Look.{Look}
use Rattle.select_phase.specs.Seen.{AreLast, AreLate, HasMoreNotes, Looked}
use Rattle.steal_phase.specs.declared.outcome.Outcome.{Outcome}
use Rattle.steal_phase.specs.Attempts.{Attempted, HasAdded, MayAttempt, entry_of, position_of}

-- the core that knows this. What is no core's is of no account
abbrev pub core_by : Role → ℕ
core_by (role.Opening merged turns) = 0
core_by (role.Core core none_due) = core
core_by role.Spent = 0

abbrev pub core_in : View → ℕ
core_in v = core_by v.role

-- no more was read than these
abbrev pub AreAtMost : (before now : View) → List ℕ → Type 0
AreAtMost before now reads = length now.notes ≤ length reads + length before.notes

-- the core looked: it has a read of each core, none earlier than it knew it before, and chose by these. They are the
-- last that it read, and no more was read than one of each core. Nothing but notes of reads came to it
pub record LooksAt (look : Look) (before now : View) : Type 0 where
  pub by : look.by ≡ core_in before
  pub looked : Looked now look
  pub late : AreLate before look.reads
  pub read : HasMoreNotes before now
  pub last : AreLast now look.reads
  pub all : AreAtMost before now look.reads

-- in its turn the core may make its attempt by this look: behind its reads the core has read nothing
pub record MayTry (v : View) (look : Look) : Type 0 where
  pub may : MayAttempt v look
  pub last : AreLast v look.reads

-- the core made its attempt by the look, and it came to this
pub record Tries (look : Look) (outcome : Outcome) (before now : View) : Type 0 where
  pub added : HasAdded look.by (position_of outcome) (entry_of look outcome) before now
  pub attempted : Attempted look outcome before
