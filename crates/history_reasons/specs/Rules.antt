-- The rules that an entry has to keep behind a history, in the order in which the judge asks for them.
use Rattle.std.specs.Prelude.{◌≡◌, ◌⊎◌, ℕ, ◌+◌, ◌<◌, List, [], ◌∷◌, Option, None, Some, All, IsFalse, IsNone}
use Rattle.std.specs.Prelude.{IsSomeAnd, IsTrue, MatchOption, length}
use Rattle.policy_tree.specs.Meaning.{Meaning, PlaceTree, here, least}
use Rattle.round_model.specs.declared.entry.Entry.{Entry}
use Rattle.round_model.specs.declared.entry.Entry.TheVariants as entry
use Rattle.round_model.specs.declared.plan.Plan.{Plan}
use Rattle.round_model.specs.declared.plan.Planned.{Planned}
use Rattle.round_model.specs.declared.state.Blocked.{Blocked}
use Rattle.round_model.specs.After.{after, round_of}
use Rattle.round_model.specs.Attempts.{attempt_of}
use Rattle.round_model.specs.Choices.{target_of}
use Rattle.round_model.specs.Entries.{acting_core, reads_of}
use Rattle.round_model.specs.Kinds.{is_steal}
use Rattle.round_model.specs.Legal.{IsComplete, IsDue, rounds_begun}
use Rattle.round_model.specs.Outcomes.{values_at}
use Rattle.round_model.specs.Reads.{IsReadOf, round_start}
use Rattle.round_model.specs.Scenes.{entering_next, has_attempted, has_worked, own_entries, waking_next}
use Rattle.round_model.specs.Work.{IsOutcomeOfWork}

-- what a rule is about
pub data Rule : Type 0 where
  -- each core has made its attempt of the last round
  round_over : Rule
  -- another round is due
  round_due : Rule
  -- rounds are counted
  round_number : Rule
  -- a round is open
  round_open : Rule
  -- the core that acts is there
  core_there : Rule
  -- threads that enter do so first, in their order
  enters : Rule
  -- then blocked threads wake whose round has come
  wakes : Rule
  -- then one unit runs
  unit_once : Rule
  -- and the attempt comes behind the unit
  unit_first : Rule
  -- once
  attempt_once : Rule
  -- there is a read of each core
  read_count : Rule
  -- made in the round, and no later than the entry
  read_window : Rule
  -- the thread comes to the core where the policy places it
  place : Rule
  -- the unit does what the policy says
  unit : Rule
  -- the attempt is on the core that the policy chooses
  choice : Rule
  -- it takes threads exactly where the filter still holds and one waits
  steals : Rule
  -- and takes those that the policy says
  threads : Rule

-- the rules of the reads and the place of a thread that enters or wakes
abbrev pub placement_rules : List Rule
placement_rules = read_count ∷ read_window ∷ place ∷ []

-- the rules of what comes of an attempt
abbrev pub outcome_rules : List Rule
outcome_rules = choice ∷ steals ∷ threads ∷ []

-- the rules of an attempt
abbrev pub attempt_rules : List Rule
attempt_rules =
    round_open ∷ core_there ∷ unit_first ∷ attempt_once ∷ read_count ∷ read_window ∷ outcome_rules

-- the rules of an entry
abbrev pub rules_of : Entry → List Rule
rules_of (entry.Round number) = round_over ∷ round_due ∷ round_number ∷ []
rules_of (entry.Enter thread by at reads) =
    round_open ∷ core_there ∷ enters ∷ placement_rules
rules_of (entry.Wake thread by at reads) =
    round_open ∷ core_there ∷ enters ∷ wakes ∷ placement_rules
rules_of (entry.Work by did) = round_open ∷ core_there ∷ enters ∷ wakes ∷ unit_once ∷ unit ∷ []
rules_of (entry.Steal by from ids reads) = attempt_rules
rules_of (entry.Fail by from reads) = attempt_rules
rules_of (entry.Pass by reads) = attempt_rules

-- the core that the attempt is on
abbrev pub chosen_in : Entry → Option ℕ
chosen_in (entry.Steal by from ids reads) = Some from
chosen_in (entry.Fail by from reads) = Some from
chosen_in e = None

-- how many reads a placement has
abbrev pub placement_count : PlaceTree → Plan → ℕ
placement_count here plan = 0
placement_count (least e) plan = plan.cores

module _ (p : Meaning) (plan : Plan) (history : List Entry) where
  -- the thread that the core lets in next, and the blocked one that it wakes next
  abbrev pub next_to_enter : ℕ → Option Planned
  next_to_enter a = entering_next plan (round_of history) a (own_entries history a)

  abbrev pub next_to_wake : ℕ → Option Blocked
  next_to_wake a = waking_next (round_of history) (after p plan history a)

  -- the attempt that the core would make by these reads
  abbrev pub attempt_by : ℕ → List ℕ → Entry
  attempt_by a reads = attempt_of p plan (after p plan history) (values_at p plan history reads) a reads

  abbrev pub IsNumbered : Entry → Type 0
  IsNumbered (entry.Round number) = number ≡ rounds_begun history + 1
  IsNumbered e = Unit {0}

  abbrev pub IsThere : Option ℕ → Type 0
  IsThere by = MatchOption by (Unit {0}) (λ a. a < plan.cores)

  abbrev pub EntersInTurn : Entry → Type 0
  EntersInTurn (entry.Enter thread by at reads) = IsSomeAnd (next_to_enter by) (λ (t : Planned). t.id ≡ thread)
  EntersInTurn (entry.Wake thread by at reads) = IsNone (next_to_enter by)
  EntersInTurn (entry.Work by did) = IsNone (next_to_enter by)
  EntersInTurn e = Unit {0}

  abbrev pub WakesInTurn : Entry → Type 0
  WakesInTurn (entry.Wake thread by at reads) = IsSomeAnd (next_to_wake by) (λ (b : Blocked). b.task.id ≡ thread)
  WakesInTurn (entry.Work by did) = IsNone (next_to_wake by)
  WakesInTurn e = Unit {0}

  abbrev pub WorksOnce : Option ℕ → Type 0
  WorksOnce by = MatchOption by (Unit {0}) (λ a. IsFalse (has_worked (own_entries history a)))

  abbrev pub HasWorked : Option ℕ → Type 0
  HasWorked by = MatchOption by (Unit {0}) (λ a. IsTrue (has_worked (own_entries history a)))

  abbrev pub AttemptsOnce : Option ℕ → Type 0
  AttemptsOnce by = MatchOption by (Unit {0}) (λ a. IsFalse (has_attempted (own_entries history a)))

  -- how many reads the entry has to have
  abbrev pub read_count_of : Entry → ℕ
  read_count_of (entry.Enter thread by at reads) = placement_count p.place plan
  read_count_of (entry.Wake thread by at reads) = placement_count p.place plan
  read_count_of e = plan.cores

  abbrev pub AreMade : List ℕ → Type 0
  AreMade reads = All (IsReadOf (round_start history) (length history)) reads

  -- the core `by` places a thread on that one, by these reads
  abbrev pub Places : (by at : ℕ) → List ℕ → Type 0
  Places by at reads = target_of p plan.cores (values_at p plan history reads) by ≡ Some at

  abbrev pub IsPlaced : Entry → Type 0
  IsPlaced (entry.Enter thread by at reads) = Places by at reads
  IsPlaced (entry.Wake thread by at reads) = Places by at reads
  IsPlaced e = Unit {0}

  abbrev pub RunsUnit : Entry → Type 0
  RunsUnit (entry.Work by did) = IsOutcomeOfWork p plan (round_of history) (after p plan history by) did
  RunsUnit e = Unit {0}

  -- what of the attempt is as it would be: the part that is named so
  abbrev pub IsAsMade : {X : Type 0} → (Entry → X) → Entry → Type 0
  IsAsMade part e = MatchOption (acting_core e) (Unit {0}) (λ a. part e ≡ part (attempt_by a (reads_of e)))

  -- the entry keeps the rule
  abbrev pub IsKept : Entry → Rule → Type 0
  IsKept e round_over = IsComplete plan history
  IsKept e round_due = IsDue plan history
  IsKept e round_number = IsNumbered e
  IsKept e round_open = 0 < rounds_begun history
  IsKept e core_there = IsThere (acting_core e)
  IsKept e enters = EntersInTurn e
  IsKept e wakes = WakesInTurn e
  IsKept e unit_once = WorksOnce (acting_core e)
  IsKept e unit_first = HasWorked (acting_core e)
  IsKept e attempt_once = AttemptsOnce (acting_core e)
  IsKept e read_count = length (reads_of e) ≡ read_count_of e
  IsKept e read_window = AreMade (reads_of e)
  IsKept e place = IsPlaced e
  IsKept e unit = RunsUnit e
  IsKept e choice = IsAsMade chosen_in e
  IsKept e steals = IsAsMade is_steal e
  IsKept e threads = IsAsMade (λ x. x) e

  -- it is the first of these rules that the entry breaks: it keeps those before
  abbrev pub IsFirstBroken : Entry → List Rule → Rule → Type 0
  IsFirstBroken e [] broken = ⊥
  IsFirstBroken e (rule ∷ rules) broken =
      ((broken ≡ rule) × ¬ IsKept e rule) ⊎ (IsKept e rule × IsFirstBroken e rules broken)
