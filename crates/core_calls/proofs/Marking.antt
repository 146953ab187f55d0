-- What a seat knows once it held its core, alone or with another, and let it go unchanged.
use Rattle.std.proofs.Common.{◌≡◌, ℕ, ◌<◌, ◌&&◌, ◌||◌, Bool, true, false, is_none, is_some, List, [], ◌∷◌, Option, Some, None, option_map, refl, sym, ap, ◌∙◌, eq-eqb}
use Rattle.std.specs.List.{list_any}
use Rattle.round_model.specs.declared.state.Blocked.{Blocked}
use Rattle.round_model.specs.Scenes.{waking_next}
use Rattle.core_state.specs.Views.{CoreView}
use Rattle.core_table.specs.declared.views.HeldCore.{HeldCore}
use Rattle.core_table.specs.declared.views.Note.{Note}
use Rattle.core_table.specs.declared.views.Role.TheVariants as role
use Rattle.core_table.specs.declared.views.View.{View}
use Rattle.core_table.specs.Told.{IsSeatOf}
use Rattle.core_table.specs.Views.{giving, holding, is_without_due, note_of_core, remembering, taken}
use Rattle.core_table.proofs.TwoHeld.{notes_held}
use Rattle.core_calls.specs.Code.Finishes.{Glimpsed}
use Rattle.core_calls.specs.Steps.{HasNoneDue}

or_true : (b : Bool) → (b || true) ≡ true
or_true true = refl
or_true false = refl

-- where no number is due no thread is
pub none_named : (o : Option Blocked) → option_map (λ (b : Blocked). b.task.id) o ≡ None → is_none o ≡ true
none_named None is = refl
none_named (Some b) is = absurd (cc)

pub unfound : {X : Type 0} (o : Option X) → is_some o ≡ false → o ≡ None
unfound None is = refl
unfound (Some x) is = absurd (cc)

module _ (a : ℕ) (v : View) (of_core : IsSeatOf v a) (free : v.held ≡ []) where
  without : (round n c : ℕ) (y : CoreView) → c ≡ a → is_none (waking_next round y.core) ≡ true → is_without_due round a (taken n c y) ≡ true
  without round n c y own none = ap (λ b. b && is_none (waking_next round y.core)) (eq-eqb c a own) ∙ none

  -- the core itself was held
  module _ (y : CoreView) (low : a < v.plan.cores) (now : View) (is : now ≡ giving (holding a y v)) where
    role_now : now.role ≡ role.Core a (of_core.none_due || list_any (is_without_due v.round a) (taken v.plan.cores a y ∷ v.held))
    role_now = ap (λ (u : View). u.role) is ∙ ap (remembering v.round (taken v.plan.cores a y ∷ v.held)) of_core.role

    rest_now : now ≡ record v { role = now.role; notes = note_of_core v.start a y ∷ v.notes }
    rest_now = is ∙ (λ i. record v { role = (sym is i).role; notes = notes_held a y v low i })

    pub glimpsed_one : Glimpsed a v now
    glimpsed_one = record {
      of_core = record { none_due = of_core.none_due || list_any (is_without_due v.round a) (taken v.plan.cores a y ∷ v.held); role = role_now };
      marked = λ marked. ap (λ (u : View). u.role) is ∙ ap (remembering v.round (taken v.plan.cores a y ∷ v.held)) marked;
      free = ap (λ (u : View). u.held) is ∙ free;
      more = note_of_core v.start a y ∷ [];
      rest = rest_now;
    }

    pub none_due_one : is_none (waking_next v.round y.core) ≡ true → HasNoneDue a v now
    none_due_one none = record {
      marked = role_now ∙ ap (role.Core a) (ap (λ b. of_core.none_due || (b || list_any (is_without_due v.round a) v.held)) (without v.round v.plan.cores a y refl none) ∙ or_true of_core.none_due);
      more = note_of_core v.start a y ∷ [];
      rest = rest_now;
    }

  -- two cores were held
  module _ (b c : ℕ) (y z : CoreView) (inside : b < v.plan.cores) (above : c < v.plan.cores) (now : View) (is : now ≡ giving (giving (holding c z (holding b y v)))) where
    low : HeldCore
    low = taken v.plan.cores b y

    high : HeldCore
    high = taken v.plan.cores c z

    first_mark : Bool
    first_mark = of_core.none_due || list_any (is_without_due v.round a) (high ∷ low ∷ v.held)

    mark : Bool
    mark = first_mark || list_any (is_without_due v.round a) (low ∷ v.held)

    role_both : now.role ≡ role.Core a mark
    unfolding mark first_mark low high
    role_both = ap (λ (u : View). u.role) is
        ∙ ap (λ r. remembering v.round (taken v.plan.cores b y ∷ v.held) (remembering v.round (taken v.plan.cores c z ∷ taken v.plan.cores b y ∷ v.held) r)) of_core.role

    rest_both : now ≡ record v { role = now.role; notes = note_of_core v.start c z ∷ note_of_core v.start b y ∷ v.notes }
    rest_both = is ∙ (λ i. record v { role = (sym is i).role; notes = (notes_held c z (holding b y v) above ∙ ap (λ (l : List Note). note_of_core v.start c z ∷ l) (notes_held b y v inside)) i })

    none_by : mark ≡ true → HasNoneDue a v now
    none_by marked = record {
      marked = role_both ∙ ap (role.Core a) marked;
      more = note_of_core v.start c z ∷ note_of_core v.start b y ∷ [];
      rest = rest_both;
    }

    pub none_due_low : b ≡ a → is_none (waking_next v.round y.core) ≡ true → HasNoneDue a v now
    unfolding mark low
    none_due_low own none = none_by (ap (λ x. first_mark || (x || list_any (is_without_due v.round a) v.held)) (without v.round v.plan.cores b y own none) ∙ or_true first_mark)

    pub none_due_high : c ≡ a → is_none (waking_next v.round z.core) ≡ true → HasNoneDue a v now
    unfolding mark first_mark high low
    none_due_high own none =
        none_by (ap (λ x. x || list_any (is_without_due v.round a) (low ∷ v.held))
        (ap (λ x. of_core.none_due || (x || list_any (is_without_due v.round a) (low ∷ v.held))) (without v.round v.plan.cores c z own none) ∙ or_true of_core.none_due))
