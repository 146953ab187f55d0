-- A thread that wakes goes over from its core to another, while a seat holds both.
use Rattle.std.proofs.Common.{◌≡◌, ◌≢◌, ℕ, ◌<◌, List, Option, Some, None, refl, sym, subst}
use Rattle.policy_tree.specs.Meaning.{Meaning}
use Rattle.round_model.specs.declared.entry.Entry.TheVariants as entry
use Rattle.round_model.specs.Scenes.{waking_next}
use Rattle.core_state.specs.Views.{CoreView}
use Rattle.core_table.specs.declared.views.HeldCore.{HeldCore}
use Rattle.core_table.specs.declared.views.View.{View}
use Rattle.core_table.specs.Pairs.{HasMovedTwo, holding_two}
use Rattle.core_table.specs.Told.{IsLocalIn}
use Rattle.core_table.specs.Views.{giving, holding, meaning_in, taken}
use Rattle.core_table.proofs.TwoHeld.{first_place, held_either}
use Rattle.select_phase.specs.Seen.{Placed}
use Rattle.select_phase.proofs.Viewed.{placed_held}
use Rattle.core_calls.specs.Code.Sends.{Sends}
use Rattle.core_calls.specs.Steps.{HasNoneDue, MayWake}
use Rattle.core_calls.proofs.Local.{wake_local}
use Rattle.core_calls.proofs.Marking.{none_due_high, none_due_low, none_named}
use Rattle.core_calls.proofs.Moving.{sent_both}

-- what the draw asks once both cores are held and the thread went over
pub record IsSent (v : View) (a b : ℕ) (reads : List ℕ) (thread : ℕ) (y z left came : CoreView) : Type 0 where
  pub moved : HasMovedTwo (entry.Wake thread a b reads) (holding_two a y b z v) a left b came
  pub legal : IsLocalIn (holding_two a y b z v) (entry.Wake thread a b reads)

module _ (v : View) (a b : ℕ) (reads : List ℕ) (may : MayWake v a) (placed : Placed v a b reads) (inside : a < v.plan.cores) (apart : a ≢ b) (y z left came : CoreView) where
  module _ (p : Meaning) (round : ℕ) (is_p : p ≡ meaning_in v) (is_round : round ≡ v.round) where
    sends_here : (thread : Option ℕ) → Sends p round thread y z left came → Sends (meaning_in v) v.round thread y z left came
    sends_here thread s = subst (λ (x : Meaning × ℕ). Sends x.0 x.1 thread y z left came) (λ i. (is_p i, is_round i)) s

    pub sent_over : (thread : ℕ) → Sends p round (Some thread) y z left came → IsSent v a b reads thread y z left came
    sent_over thread sends =
        let s = sends_here (Some thread) sends in let w : View = holding_two a y b z v in
        let own : HeldCore = taken v.plan.cores a y in let here = first_place a b own (taken v.plan.cores b z) v.held in
        record {
          moved = sent_both v a b thread reads y z left came apart may.free s.sent inside placed.there;
          legal = wake_local w a inside here.0 own here.1 refl thread b reads may.entered (sym s.due)
              (held_either v a b y z inside placed.there apart (λ u. Placed u a b reads)
              (placed_held b z (holding a y v) a b reads placed.there (placed_held a y v a b reads inside placed))
              (placed_held a y (holding b z v) a b reads inside (placed_held b z v a b reads placed.there placed)));
        }

    pub none_over : Sends p round None y z left came → (now : View) → now ≡ giving (giving (holding_two a y b z v)) → HasNoneDue a v now
    none_over sends now is =
        let none = none_named (waking_next v.round y.core) (sym (sends_here None sends).due) in
        held_either v a b y z inside placed.there apart (λ u. now ≡ giving (giving u) → HasNoneDue a v now)
        (λ given. none_due_low a v may.of_core may.free a b y z inside placed.there now given refl none)
        (λ given. none_due_high a v may.of_core may.free b a z y placed.there inside now given refl none)
        is
