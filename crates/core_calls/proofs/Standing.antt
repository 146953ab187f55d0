-- What the calls of a held core ask, where a legal history left it so.
use Rattle.std.proofs.Common.{◌≡◌, ◌≢◌, ℕ, ◌<◌, cond, List, length, IsSome, Some, option_map, refl, sym, ap, ◌∙◌, subst, arith, eq-eqb, ne_eqb}
use Rattle.sched_base.specs.declared.task.Task.{Task}
use Rattle.policy_tree.specs.Meaning.{Meaning}
use Rattle.policy_eval.specs.Fitting.{IsTask}
use Rattle.policy_eval.specs.Obligations.{MeetsHandlerObligations}
use Rattle.policy_eval.specs.Ranges.{AreIn, attribute_ranges}
use Rattle.round_model.specs.declared.entry.Entry.{Entry}
use Rattle.round_model.specs.declared.entry.Entry.TheVariants as entry
use Rattle.round_model.specs.declared.plan.Plan.{Plan}
use Rattle.round_model.specs.declared.state.Blocked.{Blocked}
use Rattle.round_model.specs.declared.state.ModelCore.{ModelCore}
use Rattle.round_model.specs.After.{after}
use Rattle.round_model.specs.Bounds.{CoreInBounds, standing_count}
use Rattle.round_model.specs.Bursts.{HaveBursts}
use Rattle.round_model.specs.Updates.{updated}
use Rattle.round_model.specs.Cores.{Cores}
use Rattle.round_model.specs.Fits.{Fits}
use Rattle.round_model.specs.Legal.{Legal, LegalNext}
use Rattle.round_model.specs.Moves.{blocked_of, released}
use Rattle.round_model.proofs.Keeping.{holds_released, standing_released}
use Rattle.round_model.proofs.Moved.{blocked_task_fits}
use Rattle.core_state.specs.Views.{CoreView}
use Rattle.core_moves.specs.Code.Changes.{CanAdmit, CanRun}
use Rattle.core_moves.specs.Cores.{shown}
use Rattle.core_moves.proofs.Reached.{can_admit, can_enter, can_run, core_holds}
use Rattle.core_table.specs.Told.{IsCoreNow}

module _ (p : Meaning) (plan : Plan) (fits : Fits p plan) (handlers : MeetsHandlerObligations p) (h : List Entry) (legal : Legal p plan h) where
  -- a held core that is so has room where the core of the history has
  as_held : (m : Cores) (c : ℕ) (y : CoreView) → m c ≡ y.core → y.room ≡ length plan.threads → y.blocked_room ≡ length plan.threads → CanAdmit p (shown p plan h m c) → CanAdmit p y
  as_held m c y own room blocked can = record {
    consts = subst (λ (x : ModelCore). AreIn (attribute_ranges p.core_attrs) x.consts) own can.consts;
    room = record {
      queue = let few = can.room.queue in let same = ap (λ (x : ModelCore). length x.queue) own in omega arith;
      blocked = let few = can.room.blocked in let same = ap (λ (x : ModelCore). length x.blocked) own in omega arith;
    };
  }

  -- a thread may enter there
  pub may_enter : (thread by at : ℕ) (reads : List ℕ) (y : CoreView) → at < plan.cores → LegalNext p plan h (entry.Enter thread by at reads) → IsCoreNow p plan h at y → CanAdmit p y
  may_enter thread by at reads y low next now =
      as_held (after p plan h) at y (sym now.core) (now.room low) (now.blocked_room low) (can_enter p plan fits handlers h legal thread by at reads low next)

  module _ (thread a : ℕ) (y : CoreView) (low : a < plan.cores) (now : IsCoreNow p plan h a y) where
    blocked_here : IsSome (blocked_of thread y.core) → IsSome (blocked_of thread (after p plan h a))
    blocked_here there = subst (λ (x : ModelCore). IsSome (blocked_of thread x)) now.core there

    -- the task of a blocked thread
    pub blocked_fits : (t : Task) → option_map (λ (b : Blocked). b.task) (blocked_of thread y.core) ≡ Some t → IsTask p t
    blocked_fits t is =
        blocked_task_fits p (after p plan h a) (core_holds p plan fits handlers h legal a low).blocked thread t
        (ap (λ (x : ModelCore). option_map (λ (b : Blocked). b.task) (blocked_of thread x)) (sym now.core) ∙ is)

    -- a core may take a thread that has left the core a
    comes_to : (b : ℕ) → b < plan.cores → IsSome (blocked_of thread y.core) → CanAdmit p (shown p plan h (updated (after p plan h) a (released thread (after p plan h a))) b)
    comes_to b inside there =
        can_admit p plan fits handlers h legal a b (released thread) low inside (standing_released p thread (after p plan h a) (blocked_here there))
        (holds_released p thread (after p plan h a) (core_holds p plan fits handlers h legal a low))

    -- it may come back there
    pub comes_back : (z : CoreView) → z ≡ record y { core = released thread y.core } → IsSome (blocked_of thread y.core) → CanAdmit p z
    comes_back z left there =
        as_held (updated (after p plan h) a (released thread (after p plan h a))) a z
        (ap (λ x. cond x (released thread (after p plan h a)) (after p plan h a)) (eq-eqb a a refl) ∙ (ap (released thread) (sym now.core) ∙ sym (ap (λ (x : CoreView). x.core) left)))
        (ap (λ (x : CoreView). x.room) left ∙ now.room low) (ap (λ (x : CoreView). x.blocked_room) left ∙ now.blocked_room low) (comes_to a low there)

    -- or to another core
    pub comes_over : (b : ℕ) (z : CoreView) → a ≢ b → b < plan.cores → IsCoreNow p plan h b z → IsSome (blocked_of thread y.core) → CanAdmit p z
    comes_over b z apart inside other there =
        as_held (updated (after p plan h) a (released thread (after p plan h a))) b z
        (ap (λ x. cond x (released thread (after p plan h a)) (after p plan h b)) (ne_eqb a b apart) ∙ sym other.core)
        (other.room inside) (other.blocked_room inside) (comes_to b inside there)

  -- a core may run its unit
  pub may_run : (c : ℕ) (y : CoreView) → c < plan.cores → IsCoreNow p plan h c y → CanRun p plan y
  may_run c y low now =
      let can = can_run p plan fits handlers h legal c low in let same = ap standing_count now.core in
      record {
        order = now.order low;
        bounds = subst (CoreInBounds p) (sym now.core) can.bounds;
        bursts = subst (HaveBursts plan) (sym now.core) can.bursts;
        room = record { queue = let few = can.room.queue in let room = now.room low in omega arith; blocked = let few = can.room.blocked in let room = now.blocked_room low in omega arith };
      }
