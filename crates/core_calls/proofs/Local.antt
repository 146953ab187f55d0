-- The entries of a core with its own threads are legal by what its seat knows.
use Rattle.std.proofs.Common.{◌≡◌, ℕ, ◌<◌, true, List, IsNone, Option, Some, None, option_map, refl, sym, ap, ◌∙◌, subst}
use Rattle.std.specs.Prelude.{IsFalse, IsSomeAnd}
use mathlib.Core.Option.{some}
use lib.ListN.{get_elem?}
use Rattle.round_model.specs.declared.entry.Did.{Did}
use Rattle.round_model.specs.declared.entry.Entry.{Entry}
use Rattle.round_model.specs.declared.entry.Entry.TheVariants as entry
use Rattle.round_model.specs.declared.plan.Planned.{Planned}
use Rattle.round_model.specs.declared.state.Blocked.{Blocked}
use Rattle.round_model.specs.declared.state.ModelCore.{ModelCore}
use Rattle.round_model.specs.After.{after}
use Rattle.round_model.specs.Rows.{Row}
use Rattle.round_model.specs.Scenes.{Scene, entering_next, has_worked, waking_next}
use Rattle.round_model.specs.Work.{IsOutcomeOfWork}
use Rattle.core_table.specs.declared.views.HeldCore.{HeldCore}
use Rattle.core_table.specs.declared.views.Role.TheVariants as role
use Rattle.core_table.specs.declared.views.View.{View}
use Rattle.core_table.specs.Told.{Agrees, IsAsViewed, IsLocalIn, IsTrueRole}
use Rattle.core_table.specs.Views.{meaning_in}
use Rattle.select_phase.specs.Seen.{Placed}
use Rattle.select_phase.proofs.Viewed.{placement_is}
use Rattle.steal_phase.specs.Attempts.{own_entries_in}
use Rattle.core_calls.specs.Steps.{HasLetAllIn}

-- who has the number that is due is there
pub named_due : (o : Option Blocked) (thread : ℕ) → option_map (λ (b : Blocked). b.task.id) o ≡ Some thread → IsSomeAnd o (λ (b : Blocked). b.task.id ≡ thread)
named_due None thread is = absurd (cc)
named_due (Some b) thread is = let same : b.task.id ≡ thread = cc in same

module _ (w : View) (a : ℕ) (low : a < w.plan.cores) where
  pub enter_local : (thread to : ℕ) (reads : List ℕ) → IsSomeAnd (entering_next w.plan w.round a (own_entries_in w)) (λ (t : Planned). t.id ≡ thread) → Placed w a to reads
      → IsLocalIn w (entry.Enter thread a to reads)
  unfolding Row
  enter_local thread to reads next placed s viewed = record {
    core = low;
    next = subst (λ (x : ℕ × List Entry). IsSomeAnd (entering_next w.plan x.0 a x.1) (λ (t : Planned). t.id ≡ thread)) (λ i. (sym viewed.round i, sym viewed.own i)) next;
    placement = placement_is w s a to reads viewed placed;
  }

  module _ (s : Scene) (viewed : IsAsViewed w s) where
    entered_in : HasLetAllIn w a → IsNone (entering_next w.plan s.round a s.own)
    entered_in entered = subst (λ (x : ℕ × List Entry). IsNone (entering_next w.plan x.0 a x.1)) (λ i. (sym viewed.round i, sym viewed.own i)) entered

    -- the core as it is held is that of the scene
    own_core : (i : ℕ) (x : HeldCore) → get_elem? w.held i ≡ some x → x.core ≡ a → s.cores a ≡ x.state.core
    own_core i x there own = ap s.cores (sym own) ∙ viewed.cores i x there

  pub wake_local : (i : ℕ) (x : HeldCore) → get_elem? w.held i ≡ some x → x.core ≡ a → (thread to : ℕ) (reads : List ℕ) → HasLetAllIn w a
      → option_map (λ (b : Blocked). b.task.id) (waking_next w.round x.state.core) ≡ Some thread → Placed w a to reads → IsLocalIn w (entry.Wake thread a to reads)
  unfolding Row
  wake_local i x there own thread to reads entered due placed s viewed = record {
    core = low;
    entered = entered_in s viewed entered;
    next = subst (λ (x : ℕ × ModelCore). IsSomeAnd (waking_next x.0 x.1) (λ (b : Blocked). b.task.id ≡ thread)) (λ k. (sym viewed.round k, sym (own_core s viewed i x there own) k))
        (named_due (waking_next w.round x.state.core) thread due);
    placement = placement_is w s a to reads viewed placed;
  }

  -- with the mark none is due at the core as it is held
  none_due : (i : ℕ) (x : HeldCore) → get_elem? w.held i ≡ some x → x.core ≡ a → w.role ≡ role.Core a true → (h : List Entry) → Agrees w h → IsNone (waking_next w.round x.state.core)
  none_due i x there own marked h ag =
      let core = subst (IsTrueRole (meaning_in w) w.plan h w.own) marked ag.role in let now = (ag.held i x there).now.core in
      subst (λ (y : ℕ × ModelCore). IsNone (waking_next y.0 y.1)) (λ k. (sym ag.dated.round k, sym (now ∙ ap (after (meaning_in w) w.plan h) own) k)) (core.due refl)

  pub work_local : (i : ℕ) (x : HeldCore) → get_elem? w.held i ≡ some x → x.core ≡ a → w.role ≡ role.Core a true → (h : List Entry) → Agrees w h → HasLetAllIn w a → IsFalse (has_worked (own_entries_in w))
      → (did : Did) → IsOutcomeOfWork (meaning_in w) w.plan w.round x.state.core did → IsLocalIn w (entry.Work a did)
  unfolding Row
  work_local i x there own marked h ag entered first did outcome s viewed = record {
    core = low;
    entered = entered_in s viewed entered;
    woken = subst (λ (y : ℕ × ModelCore). IsNone (waking_next y.0 y.1)) (λ k. (sym viewed.round k, sym (own_core s viewed i x there own) k)) (none_due i x there own marked h ag);
    first = ap has_worked viewed.own ∙ first;
    outcome = subst (λ (y : ℕ × ModelCore). IsOutcomeOfWork (meaning_in w) w.plan y.0 y.1 did) (λ k. (sym viewed.round k, sym (own_core s viewed i x there own) k)) outcome;
  }
