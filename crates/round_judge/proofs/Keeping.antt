-- What the step keeps of the cores: numbers in their ranges, and no more threads than there were.
use Rattle.std.proofs.Common.{◌≡◌, ◌≢◌, ℕ, zero, suc, ◌+◌, ◌≤◌, Bool, true, false, eqb, List, [], ◌∷◌, ◌++◌, remove, set, length, get_or, get_or-set_same, get_or-set_other, slice_get, sum_by, option_to_list, All, IsSome, is_some, Option, Some, None, refl, sym, ap, ◌∙◌, subst, arith}
use Rattle.std.proofs.Math.ListN.{length-set}
use Rattle.std.proofs.lemmas.Bool.Decides.{nat_tests}
use Rattle.std.proofs.lemmas.List.Edits.{length-remove}
use Rattle.std.proofs.lemmas.List.FromFn.{fill_by_all}
use Rattle.std.proofs.lemmas.List.Sums.{get_or-le-sum_by, sum_by-set}
use Rattle.std.proofs.lemmas.Option.{get_or_from_slice_get, slice_get_within}
use Rattle.sched_base.specs.declared.limits.TheConstants.{MAX_THREADS}
use Rattle.sched_base.specs.declared.task.Task.{Task}
use Rattle.policy_tree.specs.declared.typed.Event.TheVariants as event
use Rattle.policy_tree.specs.Meaning.{Meaning}
use Rattle.policy_eval.specs.Events.{outcomes_of}
use Rattle.policy_eval.specs.Fitting.{IsTask}
use Rattle.round_model.specs.declared.plan.Plan.{Plan}
use Rattle.round_model.specs.declared.state.Blocked.{Blocked}
use Rattle.round_model.specs.declared.state.ModelCore.{ModelCore}
use Rattle.round_model.specs.Bounds.{CoreInBounds, standing_count}
use Rattle.round_model.specs.Cores.{listed}
use Rattle.round_model.specs.Kept.{Holds, IsKept}
use Rattle.round_model.specs.Moves.{admitted, blocked_of, core_after_event}
use Rattle.round_model.proofs.Moved.{blocked-outcomes}
use Rattle.round_judge.specs.declared.unit.Unit.{Unit as WorkUnit}
use Rattle.round_judge.specs.declared.unit.Unit.TheVariants as unit
use Rattle.round_judge.specs.Units.{HasTask, IsUnit, core_after_unit, without}
use Rattle.round_judge.specs.Readable.{IsCountable}
use Rattle.round_model.proofs.Keeping.{All-append, All-one, bounds_hold, holds_put, standing_is, standing_put}

All-remove : {X : Type 0} (P : X → Type 0) (xs : List X) (at : ℕ) → All P xs → All P (remove xs at)
All-remove P [] zero each = each
All-remove P [] (suc at) each = each
All-remove P (x ∷ xs) zero each = λ k d inside. each (suc k) d (omega arith)
All-remove P (x ∷ xs) (suc at) each =
    All-append P (x ∷ []) (remove xs at) (All-one P x (each 0 x (omega arith))) (All-remove P xs at (λ k d inside. each (suc k) d (omega arith)))

module _ (p : Meaning) where
  -- a core takes the place of another
  pub kept_set : (old : List ModelCore) (at less more : ℕ) (x y : ModelCore) → slice_get old at ≡ Some x → (Holds p x → Holds p y)
      → standing_count y + less ≤ standing_count x + more → IsKept p less more old (set old at y)
  kept_set old at less more x y is keeps few =
      let inside = slice_get_within old at x is in let there = get_or_from_slice_get old at x x is in
      record {
        len = length-set old at y;
        each = λ each k d within.
            elim (eqb k at) as (λ b. eqb k at ≡ b → Holds p (get_or (set old at y) k d)) [
              | true ↦ λ e. let same : k ≡ at = grind (arith, nat_tests) in
                  subst (Holds p) (sym (ap (λ j. get_or (set old at y) j d) same ∙ get_or-set_same old at y d inside)) (keeps (subst (Holds p) there (each at x inside)))
              | false ↦ λ e. let other : k ≢ at = grind (arith, nat_tests) in
                  subst (Holds p) (sym (get_or-set_other old at k y d other)) (each k d (omega (arith, length-set old at y)))
            ] refl;
        count = let sum = sum_by-set standing_count old at y x inside in let same = ap standing_count there in omega arith;
      }

  pub kept_after : (less more fewer further : ℕ) (old mid new : List ModelCore) → IsKept p less more old mid → IsKept p fewer further mid new
      → IsKept p (less + fewer) (more + further) old new
  kept_after less more fewer further old mid new first second =
      record { len = second.len ∙ first.len; each = λ each. second.each (first.each each); count = let a = first.count in let b = second.count in omega arith }

  -- the task that runs leaves the core
  holds_without : (place : Option ℕ) (core : ModelCore) → Holds p core → Holds p (without place core)
  holds_without None core holds = record { current = tt; queue = holds.queue; blocked = holds.blocked; consts = holds.consts }
  holds_without (Some at) core holds = record { current = tt; queue = All-remove (IsTask p) core.queue at holds.queue; blocked = holds.blocked; consts = holds.consts }

  one_current : (current : Option Task) → IsSome current → length (option_to_list current) ≡ 1
  one_current None is = absurd (cc)
  one_current (Some t) is = refl

  standing_without : (place : Option ℕ) (core : ModelCore) → HasTask place core → standing_count (without place core) + 1 ≤ standing_count core
  standing_without None core has = omega (arith, standing_is core, standing_is (without None core), one_current core.current has)
  standing_without (Some at) core has = omega (arith, standing_is core, standing_is (without (Some at) core), length-remove core.queue at has)

  -- a unit keeps the core
  pub holds_unit : (plan : Plan) (round : ℕ) (core : ModelCore) (u : WorkUnit) → IsUnit p plan round core u → Holds p core → Holds p (core_after_unit core u)
  holds_unit plan round core unit.Idle is holds = holds
  holds_unit plan round core unit.Stuck is holds = holds
  holds_unit plan round core (unit.Met place t put wake) is holds = holds_put p put wake t (without place core) (holds_without place core holds) is.2
  holds_unit plan round core (unit.Over place id) is holds = holds_without place core holds

  pub standing_unit : (plan : Plan) (round : ℕ) (core : ModelCore) (u : WorkUnit) → IsUnit p plan round core u → standing_count (core_after_unit core u) ≤ standing_count core
  standing_unit plan round core unit.Idle is = omega arith
  standing_unit plan round core unit.Stuck is = omega arith
  standing_unit plan round core (unit.Met place t put wake) is = let fewer = standing_without place core is.1 in let more = standing_put p put wake t (without place core) in omega arith
  standing_unit plan round core (unit.Over place id) is = let fewer = standing_without place core is.1 in omega arith

  -- a blocked thread stays blocked as another comes
  pub blocked_stays : (fresh : Bool) (t : Task) (id : ℕ) (b : Blocked) (core : ModelCore) → blocked_of id core ≡ Some b → IsSome (blocked_of id (admitted p fresh t core))
  unfolding core_after_event
  blocked_stays fresh t id b core is = ap is_some (blocked-outcomes id 0 b (outcomes_of p event.Enqueue fresh core.consts t) core is)

-- a list of cores as a state
pub listed_self : (state : List ModelCore) (other : ModelCore) → state ≡ listed (length state) (λ c. get_or state c other)
listed_self state other = fill_by_all (λ c. get_or state c other) state (length state) other refl (λ k inside. refl)

-- a thread that comes to one core and leaves another
pub kept_moved : (p : Meaning) (old mid new : List ModelCore) → IsKept p 0 1 old mid → IsKept p 1 0 mid new → IsKept p 0 0 old new
kept_moved p old mid new first second =
    record { len = second.len ∙ first.len; each = λ each. second.each (first.each each); count = let a = first.count in let b = second.count in omega arith }

pub all_hold : (p : Meaning) (state : List ModelCore) → All (CoreInBounds p) state → All (Holds p) state
all_hold p state each = λ k d inside. bounds_hold p (get_or state k d) (each k d inside)

-- where few threads stand, each core has few
pub few_stand : (state : List ModelCore) → sum_by standing_count state ≤ MAX_THREADS → All IsCountable state
few_stand state few = λ k d inside. let this = get_or-le-sum_by standing_count state k d inside in omega arith

-- the last of a list
pub slice_get_last : {X : Type 0} (xs : List X) (x : X) → slice_get (xs ++ x ∷ []) (length xs) ≡ Some x
slice_get_last [] x = refl
slice_get_last (y ∷ xs) x = slice_get_last xs x
