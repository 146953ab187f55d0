-- What an attempt comes to, by its entry.
use Rattle.std.proofs.Common.{◌≡◌, ◌≢◌, ℕ, ◌<◌, List, [], ◌∷◌, length, Option, Some, None, refl, sym, ◌∙◌, subst}
use Rattle.policy_tree.specs.Meaning.{Meaning}
use Rattle.round_model.specs.declared.entry.Entry.{Entry}
use Rattle.round_model.specs.declared.entry.Entry.TheVariants as entry
use Rattle.round_model.specs.declared.plan.Plan.{Plan}
use Rattle.round_model.specs.After.{after}
use Rattle.round_model.specs.Attempts.{attempt_with, moves_of, steal_or_fail}
use Rattle.round_model.specs.Cores.{Cores}
use Rattle.round_model.proofs.Grows.{legal_grows}
use Rattle.round_model.proofs.OwedTotals.{room_for}
use Rattle.serial_steps.specs.declared.turns.NextStep.{NextStep}
use Rattle.serial_steps.specs.declared.turns.NextStep.TheVariants as next
use Rattle.serial_steps.specs.Turns.{ActsBy, MayAdd}
use Rattle.core_table.specs.declared.views.View.{View}
use Rattle.core_table.proofs.Positions.{above}
use Rattle.core_calls.specs.Calls.{Tries}
use Rattle.select_phase.specs.declared.looks.Look.{Look}
use Rattle.steal_phase.specs.Attempts.{HasAdded, IsDrawn, MayAttempt}
use Rattle.steal_phase.proofs.Ending.{failed_entry, fails_at, passes, steals_at, stolen_entry}
use Rattle.turn_tests.specs.declared.memory_calls.MemoryCalls.{MemoryCalls}
use Rattle.turn_tests.specs.Memory.{HasGrown, IsReady, core_of, history_of, meaning_in_memory, plan_of, view_of}
use Rattle.turn_tests.specs.Steps.{IsNextStep, outcome_in}
use Rattle.turn_tests.proofs.Called.{same_entry, step_adds}
use Rattle.turn_tests.proofs.Stepping.{by_is, tried_entry, tries_by}

-- an attempt passes, or is one on the core that was chosen
data Form (look : Look) (e : Entry) : Type 0 where
  passed : look.choice ≡ None → e ≡ entry.Pass look.by look.reads → Form look e
  tried : (from : ℕ) (threads : List ℕ) → look.choice ≡ Some from → e ≡ steal_or_fail look.by from look.reads threads → Form look e

form_of : (look : Look) (p : Meaning) (plan : Plan) (m : Cores) (e : Entry) → e ≡ attempt_with p plan m look.by look.reads look.choice → Form look e
form_of look p plan m e is = by_choice look.choice refl is
  where
    by_choice : (choice : Option ℕ) → look.choice ≡ choice → e ≡ attempt_with p plan m look.by look.reads choice → Form look e
    by_choice None none same = passed none same
    by_choice (Some v) chosen same = tried v (moves_of p plan look.by v p.batch (m look.by) (m v)) chosen same

-- the outcome says what the entry does
module _ (look : Look) (at : ℕ) (e : Entry) (v w : View) (drawn : IsDrawn look at e v) (added : HasAdded look.by at e v w) where
  has_tried : Form look e → Tries look (outcome_in at e) v w
  has_tried (passed none is) = subst (λ (x : Entry). Tries look (outcome_in at x) v w) (sym is) (record {
    added = subst (λ (x : Entry). HasAdded look.by at x v w) is added;
    attempted = passes look at v none (subst (λ (x : Entry). IsDrawn look at x v) is drawn);
  })
  has_tried (tried from [] chosen is) = subst (λ (x : Entry). Tries look (outcome_in at x) v w) (sym is) (record {
    added = subst (λ (x : Entry). HasAdded look.by at x v w) (is ∙ failed_entry look at from v chosen [] refl) added;
    attempted = fails_at look at from v chosen [] refl (subst (λ (x : Entry). IsDrawn look at x v) is drawn);
  })
  has_tried (tried from (id ∷ ids) chosen is) = subst (λ (x : Entry). Tries look (outcome_in at x) v w) (sym is) (record {
    added = subst (λ (x : Entry). HasAdded look.by at x v w) (is ∙ stolen_entry look at from v chosen (id ∷ ids) some) added;
    attempted = steals_at look at from v chosen (id ∷ ids) some (subst (λ (x : Entry). IsDrawn look at x v) is drawn);
  })
    where
      some : id ∷ ids ≢ []
      some none = absurd (cc)

-- so it is of the core in memory
pub tries_at : (it : MemoryCalls) (ready : IsReady it) (look : Look) → MayAttempt (view_of it) look → (step : NextStep) (e : Entry) → step ≡ next.Adds e
    → MayAdd (meaning_in_memory it) (plan_of it) (history_of it) step → ActsBy (core_of it) step → (now : MemoryCalls) → HasGrown e it now
    → IsNextStep it (Some look.reads) step → (at : ℕ) → at ≡ length (history_of it) → Tries look (outcome_in at e) (view_of it) (view_of now)
tries_at it ready look may step e is legal acts now grown next_is at count =
    let p = meaning_in_memory it in let plan = plan_of it in let h = history_of it in let k = ready.kept in
    let same = same_entry step e (tried_entry it ready look may) is (tries_by it ready look may step next_is) in
    let may_add = subst (MayAdd p plan h) is legal in let by = subst (ActsBy (core_of it)) is acts in
    let low = room_for p plan h e (core_of it) plan.limit k.fits k.handlers k.stands.legal may_add by ready.agrees.role.there k.reserve in
    has_tried look at e (view_of it) (view_of now) (record {
      next = record {
        history = h;
        agrees = ready.agrees;
        position = sym count;
        legal = legal_grows.grows p plan h e k.stands.legal may_add;
        above = above (view_of it) h at ready.agrees (sym count) (subst (λ (n : ℕ). n < plan.limit) (sym count) low);
      };
      attempt = same;
    })
    (subst (λ (c : ℕ). HasAdded c at e (view_of it) (view_of now)) (sym (by_is it ready look may)) (step_adds it ready step e is legal acts now grown at count).added)
    (form_of look p plan (after p plan h) e same)
