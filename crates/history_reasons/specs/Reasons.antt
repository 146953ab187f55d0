-- What a reason says: which rule the entry is the first to break, and what should stand there.
use Rattle.std.specs.Prelude.{◌≡◌, ◌⊎◌, ℕ, ◌+◌, ◌<◌, List, [], Some, MatchOption, length, option_map, option_to_list}
use Rattle.std.specs.Prelude.{slice_get}
use Rattle.policy_tree.specs.Meaning.{Meaning}
use Rattle.round_model.specs.declared.entry.Entry.{Entry}
use Rattle.round_model.specs.declared.entry.Entry.TheVariants as entry
use Rattle.round_model.specs.declared.plan.Plan.{Plan}
use Rattle.round_model.specs.declared.plan.Planned.{Planned}
use Rattle.round_model.specs.declared.state.Blocked.{Blocked}
use Rattle.round_model.specs.After.{after, round_of}
use Rattle.round_model.specs.Entries.{acting_core, reads_of}
use Rattle.round_model.specs.Kinds.{is_steal}
use Rattle.round_model.specs.Legal.{rounds_begun}
use Rattle.round_model.specs.Reads.{round_start}
use Rattle.round_model.specs.Work.{worked}
use Rattle.history_reasons.specs.declared.reason.Reason.{Reason}
use Rattle.history_reasons.specs.declared.reason.Reason.TheVariants as reason
use Rattle.history_reasons.specs.Rules.{IsFirstBroken, Places, Rule, attempt_by, chosen_in, next_to_enter, next_to_wake}
use Rattle.history_reasons.specs.Rules.{read_count_of, rules_of}
use Rattle.history_reasons.specs.Rules as rule

-- the rule of a reason
abbrev pub rule_of : Reason → Rule
rule_of reason.Waits = rule.round_over
rule_of reason.NoneDue = rule.round_due
rule_of (reason.Number next) = rule.round_number
rule_of reason.NoneOpen = rule.round_open
rule_of reason.NoCore = rule.core_there
rule_of (reason.Enters next) = rule.enters
rule_of (reason.Wakes next) = rule.wakes
rule_of reason.HasWorked = rule.unit_once
rule_of reason.IsToWork = rule.unit_first
rule_of reason.HasAttempted = rule.attempt_once
rule_of (reason.ReadCount count) = rule.read_count
rule_of (reason.Read core saw first last) = rule.read_window
rule_of (reason.Place at) = rule.place
rule_of (reason.Unit did) = rule.unit
rule_of (reason.Choice from) = rule.choice
rule_of (reason.Filter holds) = rule.steals
rule_of (reason.Threads ids) = rule.threads

-- the threads that an attempt moves
abbrev pub moved_in : Entry → List ℕ
moved_in (entry.Steal by from ids reads) = ids
moved_in e = []

module _ (p : Meaning) (plan : Plan) (history : List Entry) (e : Entry) where
  -- of the core that acts
  abbrev pub OfCore : (ℕ → Type 0) → Type 0
  OfCore says = MatchOption (acting_core e) ⊥ says

  -- the read of the core was made before the first position that it may have, or behind the last
  pub record IsOutside (core saw first last : ℕ) : Type 0 where
    pub read : slice_get (reads_of e) core ≡ Some saw
    pub first_is : first ≡ round_start history
    pub last_is : last ≡ length history
    pub outside : (saw < first) ⊎ (last < saw)

  -- the attempt that the core would make, part by part
  abbrev pub Makes : {X : Type 0} → (Entry → X) → X → Type 0
  Makes part is = OfCore (λ a. part (attempt_by p plan history a (reads_of e)) ≡ is)

  -- what the reason tells is so
  abbrev pub IsTold : Reason → Type 0
  IsTold (reason.Number next) = next ≡ rounds_begun history + 1
  IsTold (reason.Enters next) =
      OfCore (λ a. next ≡ option_map (λ (t : Planned). t.id) (next_to_enter p plan history a))
  IsTold (reason.Wakes next) =
      OfCore (λ a. next ≡ option_map (λ (b : Blocked). b.task.id) (next_to_wake p plan history a))
  IsTold (reason.ReadCount count) = count ≡ read_count_of p plan history e
  IsTold (reason.Read core saw first last) = IsOutside core saw first last
  IsTold (reason.Place at) = OfCore (λ a. Places p plan history a at (reads_of e))
  IsTold (reason.Unit did) =
      OfCore (λ a. option_to_list did ≡ (worked p plan (round_of history) (after p plan history a)).dids)
  IsTold (reason.Choice from) = Makes chosen_in from
  IsTold (reason.Filter holds) = Makes is_steal holds
  IsTold (reason.Threads ids) = Makes moved_in ids
  IsTold why = Unit {0}

  -- the reason names the first rule that the entry breaks, and what it tells is so
  pub record IsReasonOf (rules : List Rule) (why : Reason) : Type 0 where
    pub broken : IsFirstBroken p plan history e rules (rule_of why)
    pub told : IsTold why

  -- the reason why the entry isn't legal
  abbrev pub IsReason : Reason → Type 0
  IsReason why = IsReasonOf (rules_of e) why
