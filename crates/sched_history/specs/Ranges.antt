-- The ranges of the numbers in a history's text.
use Rattle.std.specs.Prelude.{◌≡◌, ◌⊎◌, ℕ, ◌<◌, ◌≤◌, List, [], length, All}
use Rattle.sched_base.specs.declared.limits.TheConstants.{MAX_CORES, MAX_ENTRIES, MAX_ROUNDS, MAX_STOLEN, MAX_THREADS}
use Rattle.policy_tree.specs.Meaning.{Meaning}
use Rattle.round_model.specs.declared.entry.Did.{Did}
use Rattle.round_model.specs.declared.entry.Did.TheVariants as did
use Rattle.round_model.specs.declared.entry.Entry.{Entry}
use Rattle.round_model.specs.declared.entry.Entry.TheVariants as entry
use Rattle.round_model.specs.declared.plan.Plan.{Plan}
use Rattle.round_model.specs.Fits.{Fits}
use Rattle.round_model.specs.Legal.{Legal}
use Rattle.round_model.specs.Limits.{IsWithinLimits}
use Rattle.sched_history.specs.declared.forms.LineForm.{LineForm}
use Rattle.sched_history.specs.declared.forms.LineForm.TheVariants as form
use Rattle.sched_history.specs.declared.forms.TheConstants.{FIRST_FORMAT_CORES}
use Rattle.sched_history.specs.Lines.{EntryLine, entry_lines}
use Rattle.sched_history.specs.Spelling.{second_form}

abbrev pub IsRoundNumber : ℕ → Type 0
IsRoundNumber number = (1 ≤ number) × (number ≤ MAX_ROUNDS)

abbrev pub IsThreadNumber : ℕ → Type 0
IsThreadNumber thread = (1 ≤ thread) × (thread ≤ MAX_THREADS)

-- how many cores a machine may have
abbrev pub IsCoreCount : ℕ → Type 0
IsCoreCount cores = (1 ≤ cores) × (cores ≤ MAX_CORES)

-- cores are numbered below this, whatever machine the history is of
abbrev pub cores_in : LineForm → ℕ
cores_in form.First = FIRST_FORMAT_CORES
cores_in (form.Second cores start) = MAX_CORES

abbrev pub IsCoreNumber : LineForm → ℕ → Type 0
IsCoreNumber f core = core < cores_in f

-- a position is a number of entries; none stands before that one
abbrev pub IsPositionFrom : ℕ → ℕ → Type 0
IsPositionFrom start position = (start ≤ position) × (position ≤ MAX_ENTRIES)

-- at most so many positions, none before the start
pub record AreUpTo (most start : ℕ) (reads : List ℕ) : Type 0 where
  pub few : length reads ≤ most
  pub positions : All (IsPositionFrom start) reads

-- a position for each core, none before the start
pub record AreOneEach (cores start : ℕ) (reads : List ℕ) : Type 0 where
  pub count : IsCoreCount cores
  pub one_each : length reads ≡ cores
  pub positions : All (IsPositionFrom start) reads

-- the reads of an attempt
abbrev pub AreReads : LineForm → List ℕ → Type 0
AreReads form.First reads = AreUpTo FIRST_FORMAT_CORES 0 reads
AreReads (form.Second cores start) reads = AreOneEach cores start reads

-- the reads by which a thread was placed, if any were made
abbrev pub ArePlacementReads : LineForm → List ℕ → Type 0
ArePlacementReads form.First reads = AreUpTo FIRST_FORMAT_CORES 0 reads
ArePlacementReads (form.Second cores start) reads = (reads ≡ []) ⊎ AreOneEach cores start reads

-- at least one thread, and no more than a steal may move
pub record AreStolen (threads : List ℕ) : Type 0 where
  pub some : 0 < length threads
  pub few : length threads ≤ MAX_STOLEN
  pub numbers : All IsThreadNumber threads

-- the number of the thread of a unit of work, where there is one, is in its range
abbrev pub NamesThread : Did → Type 0
NamesThread did.Nothing = Unit {0}
NamesThread (did.Kept thread) = IsThreadNumber thread
NamesThread (did.Queued thread) = IsThreadNumber thread
NamesThread (did.Blocked thread) = IsThreadNumber thread
NamesThread (did.Ended thread) = IsThreadNumber thread

-- all numbers of the entry are in their ranges, so that it has a line of that form
abbrev pub IsPrintable : LineForm → Entry → Type 0
IsPrintable f (entry.Round number) = IsRoundNumber number
IsPrintable f (entry.Enter thread by at reads) = IsThreadNumber thread × IsCoreNumber f by × IsCoreNumber f at
    × ArePlacementReads f reads
IsPrintable f (entry.Wake thread by at reads) = IsThreadNumber thread × IsCoreNumber f by × IsCoreNumber f at
    × ArePlacementReads f reads
IsPrintable f (entry.Work by what) = IsCoreNumber f by × NamesThread what
IsPrintable f (entry.Steal by from threads reads) = IsCoreNumber f by × IsCoreNumber f from × AreStolen threads
    × AreReads f reads
IsPrintable f (entry.Fail by from reads) = IsCoreNumber f by × IsCoreNumber f from × AreReads f reads
IsPrintable f (entry.Pass by reads) = IsCoreNumber f by × AreReads f reads

-- in a round that starts there the entry has a line of the second format, of some number of cores
abbrev pub IsPrintableFrom : ℕ → Entry → Type 0
IsPrintableFrom start e = (cores : ℕ) × IsPrintable (form.Second cores start) e

abbrev pub IsPrintableLine : EntryLine → Type 0
IsPrintableLine line = IsPrintable line.form line.entry

-- each entry has a line, where the first is spelled so, and the history isn't longer than one may be
pub record ArePrintable (f : LineForm) (history : List Entry) : Type 0 where
  pub lines : All IsPrintableLine (entry_lines 0 f history)
  pub few : length history ≤ MAX_ENTRIES

-- the history has a text of the second format, of a machine of so many cores
pub record CanBePrinted (cores : ℕ) (history : List Entry) : Type 0 where
  pub count : IsCoreCount cores
  pub printable : ArePrintable (second_form cores) history

-- a legal history of a plan that fits has one, where plan and history are within the limits
abbrev pub LegalIsPrintable : Type 0
LegalIsPrintable = (p : Meaning) (plan : Plan) (history : List Entry) → Fits p plan → IsWithinLimits plan → Legal p plan history
    → length history ≤ MAX_ENTRIES → CanBePrinted plan.cores history
