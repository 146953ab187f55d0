-- Threads that go over from one core to another, as the code does it. No promise rests on this.
use Rattle.std.specs.Prelude.{◌≡◌, ℕ, ℤ, List, Some, slice_get, slice_set}
use Rattle.policy_tree.specs.Meaning.{Meaning}
use Rattle.round_model.specs.declared.entry.Entry.{Entry}
use Rattle.round_model.specs.declared.plan.Plan.{Plan}
use Rattle.round_model.specs.Attempts.{moves_of}
use Rattle.round_model.specs.Updates.{updated}
use Rattle.round_model.specs.Cores.{Cores}
use Rattle.round_model.specs.Moves.{handed_all, received_all, taken_from}
use Rattle.core_state.specs.Views.{CoreView}
use Rattle.batch_moves.specs.Sides.{InEachPlan}
use Rattle.core_moves.specs.Cores.{CoresView, Shows}

-- the fact holds of the two cores of those numbers
abbrev pub HoldsOfTwo : List CoreView → (a b : ℕ) → (CoreView → CoreView → Type 0) → Type 0
HoldsOfTwo cores a b holds =
    (y z : CoreView) → slice_get cores a ≡ Some y → slice_get cores b ≡ Some z → holds y z

-- the threads are those that the policy moves between the cores y and z, and they went over from z to y
pub record AreTaken (p : Meaning) (own other : List ℤ) (thief victim : ℕ) (threads : List ℕ) (old new : List CoreView)
    (y z : CoreView) : Type 0 where
  pub moves : InEachPlan own other (λ plan a v. threads ≡ moves_of p plan a v p.batch y.core z.core)
  pub cores : new ≡ slice_set
      (slice_set old thief (record y { core = received_all (taken_from threads z.core.queue).found y.core }))
      victim (record z { core = handed_all threads z.core })

abbrev pub TakesBetween : Meaning → (own other : List ℤ) → (thief victim : ℕ) → List ℕ → (old new : List CoreView)
    → Type 0
TakesBetween p own other thief victim threads old new =
    HoldsOfTwo old thief victim (AreTaken p own other thief victim threads old new)

-- the cores where these threads went over
abbrev pub taken_over : Cores → (a v : ℕ) → List ℕ → Cores
taken_over m a v threads =
    updated (updated m a (received_all (taken_from threads (m v).queue).found (m a))) v (handed_all threads (m v))

-- and nothing else changed
abbrev pub Takes : Meaning → Plan → (a v : ℕ) → List ℕ → (old new : CoresView) → Type 0
Takes p plan a v threads old new = (history : List Entry) (m : Cores) → Shows p plan history m old
    → Shows p plan history (taken_over m a v threads) new
