-- What the steps of an attempt leave to its seat.
use Rattle.std.proofs.Common.{◌≡◌, ℕ, ◌<◌, ◌||◌, Bool, true, List, [], ◌∷◌, ◌++◌, map, sym, ap, ◌∙◌, subst}
use Rattle.std.specs.List.{list_any}
use Rattle.round_model.specs.declared.entry.Entry.{Entry}
use Rattle.round_model.specs.After.{after}
use Rattle.core_state.specs.Logs.{logged}
use Rattle.core_state.specs.Views.{CoreView}
use Rattle.core_table.specs.declared.views.HeldCore.{HeldCore}
use Rattle.core_table.specs.declared.views.Note.{Note}
use Rattle.core_table.specs.declared.views.Role.{Role}
use Rattle.core_table.specs.declared.views.Role.TheVariants as role
use Rattle.core_table.specs.declared.views.View.{View}
use Rattle.core_table.specs.Plays.{Draws}
use Rattle.core_table.specs.Pairs.{holding_two, stacked}
use Rattle.core_table.specs.Public.{publishing}
use Rattle.core_table.specs.Told.{IsSeatOf}
use Rattle.core_table.specs.Views.{drawing, giving, held_grown, holding, is_without_due, meaning_in, note_of_core, published, remembering}
use Rattle.core_table.proofs.TwoHeld.{notes_held, stacked_over}
use Rattle.steal_phase.specs.Attempts.{HasAdded}

module _ (v : View) (a at : ℕ) (e : Entry) (of_core : IsSeatOf v a) where
  -- the role stays that of the core's seat, and a mark stays
  record StaysOf (r : Role) : Type 0 where
    pub none_due : Bool
    pub is : r ≡ role.Core a none_due
    pub marked : v.role ≡ role.Core a true → r ≡ role.Core a true

  as_before : StaysOf v.role
  as_before = record { none_due = of_core.none_due; is = of_core.role; marked = λ marked. marked }

  given_back : (round : ℕ) (held : List HeldCore) (r : Role) → StaysOf r → StaysOf (remembering round held r)
  given_back round held r stays = record {
    none_due = stays.none_due || list_any (is_without_due round a) held;
    is = ap (remembering round held) stays.is;
    marked = λ marked. ap (remembering round held) (stays.marked marked);
  }

  settled : (now : View) (r : Role) (notes more : List Note) (held : List HeldCore) → now ≡ record v { role = r; own = v.own ++ logged at e ∷ []; notes = notes; held = held } → StaysOf r
      → notes ≡ more ++ v.notes → now.held ≡ [] → HasAdded a at e v now
  settled now r notes more held is stays more_is free = record {
    own = ap (λ (u : View). u.own) is;
    free = free;
    of_core = record { none_due = stays.none_due; role = ap (λ (u : View). u.role) is ∙ stays.is };
    marked = λ marked. ap (λ (u : View). u.role) is ∙ stays.marked marked;
    more = more;
    notes = ap (λ (u : View). u.notes) is ∙ more_is;
    rest = is ∙ (λ i. record v { role = (sym is i).role; own = (sym is i).own; notes = (sym is i).notes; held = (sym is i).held });
  }

  -- one core was held, changed, shown and given back
  pub added_one : (b : ℕ) (y : CoreView) (c : ℕ) (z : CoreView) → v.held ≡ [] → b < v.plan.cores → (w u x now : View) → w ≡ holding b y v → Draws e w at u → x ≡ publishing c z u → now ≡ giving x → HasAdded a at e v now
  added_one b y c z free low w u x now is drawn shown given =
      let d = subst (λ (t : View). Draws e t at u) is drawn in let m = after (meaning_in v) v.plan d.history in
      let last : View = publishing c z (drawing at e m (holding b y v)) in let whole : now ≡ giving last = given ∙ ap giving (shown ∙ ap (publishing c z) d.view) in
      settled now (giving last).role last.notes (note_of_core v.start c z ∷ note_of_core v.start b y ∷ []) (giving last).held whole (given_back v.round last.held v.role as_before)
      (ap (λ (l : List Note). note_of_core v.start c z ∷ l) (notes_held b y v low))
      (ap (λ (t : View). t.held) whole ∙ ap (λ (held : List HeldCore). map (published v.plan.cores c) (map (held_grown v.round at e m (holding b y v)) held)) free)

  -- so were two
  pub added_two : (b : ℕ) (y : CoreView) (c : ℕ) (z : CoreView) (k : ℕ) (y_now : CoreView) (l : ℕ) (z_now : CoreView) → (w u x now : View) → w ≡ holding_two b y c z v → Draws e w at u
      → x ≡ publishing l z_now (publishing k y_now u) → now ≡ giving (giving x) → now.held ≡ [] → HasAdded a at e v now
  added_two b y c z k y_now l z_now w u x now is drawn shown given free =
      let d = subst (λ (t : View). Draws e t at u) is drawn in let m = after (meaning_in v) v.plan d.history in
      let last : View = publishing l z_now (publishing k y_now (drawing at e m (holding_two b y c z v))) in
      let whole : now ≡ giving (giving last) = given ∙ ap (λ (t : View). giving (giving t)) (shown ∙ ap (λ (t : View). publishing l z_now (publishing k y_now t)) d.view) in
      let first : Note = note_of_core v.start b y in let second : Note = note_of_core v.start c z in let first_now : Note = note_of_core v.start k y_now in let second_now : Note = note_of_core v.start l z_now in
      settled now (giving (giving last)).role last.notes (second_now ∷ first_now ∷ stacked b c first second []) (giving (giving last)).held whole
      (given_back v.round (giving last).held (giving last).role (given_back v.round last.held v.role as_before))
      (ap (λ (notes : List Note). second_now ∷ first_now ∷ notes) (stacked_over b c first second v.notes))
      free
