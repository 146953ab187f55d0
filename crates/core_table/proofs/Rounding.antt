-- What the opening seat still knows once a round began and its log is back.
use Rattle.std.proofs.Common.{◌≡◌, ℕ, ◌+◌, ◌<◌, cond, true, List, [], ◌∷◌, ◌++◌, map, length, sym, refl, ap, ◌∙◌, subst, arith, eq-eqb}
use mathlib.Core.Option.{some-ne-none}
use lib.ListN.{get_elem?}
use Rattle.round_model.specs.declared.entry.Entry.{Entry}
use Rattle.round_model.specs.declared.entry.Entry.TheVariants as entry
use Rattle.round_model.specs.declared.plan.Plan.{Plan}
use Rattle.round_model.specs.After.{after}
use Rattle.core_state.specs.Logs.{logged}
use Rattle.core_state.specs.Views.{CoreView}
use Rattle.core_table.specs.declared.views.HeldCore.{HeldCore}
use Rattle.core_table.specs.declared.views.View.{View}
use Rattle.core_table.specs.Logs.{RoundLogView}
use Rattle.core_table.specs.Views.{beginning, giving, grown, held_grown, holding, is_live, meaning_in, note_of_core, taken, version_of}
use Rattle.core_table.specs.Told.{Agrees, Each, IsKnown, IsTrueNote, MayBeginRound}
use Rattle.core_table.specs.Plays.{Begins}
use Rattle.core_table.specs.Opened.{emptied}
use Rattle.core_table.specs.Seats.{IsNewest}
use Rattle.core_table.proofs.Histories.{stands_rounds, version_rounds}
use Rattle.core_table.proofs.Known.{held_room}

-- what agrees once the log of the rounds is held agreed before
agrees_less : (v : View) (y : CoreView) (h : List Entry) → v.held ≡ [] → Agrees (holding v.plan.cores y v) h → Agrees v h
agrees_less v y h free ag = record {
  fits = ag.fits;
  limits = ag.limits;
  handlers = ag.handlers;
  legal = ag.legal;
  reserve = ag.reserve;
  dated = record { round = ag.dated.round; start = ag.dated.start };
  role = ag.role;
  notes = subst (Each (IsTrueNote (meaning_in v) v.plan h)) (ap (λ b. cond b v.notes (note_of_core v.start v.plan.cores y ∷ v.notes)) (eq-eqb v.plan.cores v.plan.cores refl)) ag.notes;
  held = λ i x at. absurd (some-ne-none x (sym at ∙ ap (λ (l : List HeldCore). get_elem? l i) free));
}

pub may_held : (number : ℕ) (v : View) (y : CoreView) → v.held ≡ [] → MayBeginRound v number → MayBeginRound (holding v.plan.cores y v) number
may_held number v y free may h ag = may h (agrees_less v y h free ag)

abbrev pub rounds_view : CoreView → RoundLogView
rounds_view y = record { entries = y.log; room = y.log_room }

abbrev pub with_entry : ℕ → Entry → RoundLogView → RoundLogView
with_entry n e l = record l { entries = l.entries ++ logged n e ∷ [] }

module _ (v : View) (y : CoreView) (number n : ℕ) (v2 : View) (free : v.held ≡ []) (d : Begins number (holding v.plan.cores y v) n v2) where
  pub round_room : (length y.log < y.log_room)
  round_room = (held_room (holding v.plan.cores y v) d.history 0 n (taken v.plan.cores v.plan.cores y) d.before refl d.at d.below).0

  pub begun_live : is_live v2.role ≡ true
  unfolding is_live
  begun_live = ap (λ (w : View). is_live w.role) d.view

  pub begun_policy : v2.policy ≡ v.policy
  begun_policy = ap (λ (w : View). w.policy) d.view

  pub begun_plan : v2.plan ≡ v.plan
  begun_plan = ap (λ (w : View). w.plan) d.view

  -- the log of the rounds with the Round, as it goes back
  abbrev pub written : CoreView
  written = grown (meaning_in v) v.plan v.round n (entry.Round number) (after (meaning_in v) v.plan d.history) v.plan.cores y

  pub round_back : (c : ℕ) → v.plan.cores ≡ c → IsNewest v2 c written []
  round_back c is = record {
    held = ap (λ (w : View). w.held) d.view
        ∙ ((λ i. record { core = is i; state = written; version = same i } ∷ map (held_grown v.round n (entry.Round number) (after (meaning_in v) v.plan d.history) v) (free i))
        ∙ ap (λ q. record { core = c; state = written; version = version_of v2.plan.cores q written } ∷ []) is);
    apart = λ i x at. absurd (some-ne-none x (sym at));
  }
    where
      same : version_of v.plan.cores v.plan.cores y ≡ version_of v2.plan.cores v.plan.cores written
      same = version_rounds v.plan.cores v.plan.cores y.log refl ∙ sym (version_rounds v2.plan.cores v.plan.cores written.log (ap (λ (q : Plan). q.cores) (sym begun_plan)))

  pub round_log_is : rounds_view written ≡ with_entry n (entry.Round number) (rounds_view y)
  round_log_is = λ i. record { entries = y.log ++ cond (stands_rounds v.plan.cores v.plan.cores refl i (entry.Round number)) (logged n (entry.Round number) ∷ []) []; room = y.log_room }

  -- from the hold of the log to its release
  pub round_begun : (v3 : View) → v3 ≡ giving v2 → Begins number v n v3
  round_begun v3 is = record {
    history = d.history;
    before = agrees_less v y d.history free d.before;
    at = d.at;
    below = d.below;
    view = v_is;
    now = subst (λ (w : View). Agrees w (d.history ++ entry.Round number ∷ [])) (sym v_is) (let ag = subst (λ (w : View). Agrees w (d.history ++ entry.Round number ∷ [])) d.view d.now in record {
      fits = ag.fits;
      limits = ag.limits;
      handlers = ag.handlers;
      legal = ag.legal;
      reserve = ag.reserve;
      dated = record { round = ag.dated.round; start = ag.dated.start };
      role = ag.role;
      notes = ag.notes;
      held = λ i x at. absurd (some-ne-none x (sym at ∙ ap (λ (l : List HeldCore). get_elem? (map (held_grown v.round n (entry.Round number) (after (meaning_in v) v.plan d.history) v) l) i) free));
    });
  }
    where
      v_is : v3 ≡ beginning number n (after (meaning_in v) v.plan d.history) (d.history ++ entry.Round number ∷ []) v
      v_is = is ∙ ap giving d.view

-- the seat after a round began
module _ (number : ℕ) (v v' : View) (n : ℕ) (d : Begins number v n v') where
  pub after_slots : v.held ≡ [] → emptied v'.held ≡ []
  after_slots free = ap (λ (w : View). emptied w.held) d.view ∙ ap (λ (l : List HeldCore). emptied (map (held_grown v.round n (entry.Round number) (after (meaning_in v) v.plan d.history) v) l)) free

  pub after_start : n + 1 ≡ v'.start
  after_start = let s = ap (λ (w : View). w.start) d.view in omega arith

  pub after_live : is_live v'.role ≡ true
  unfolding is_live
  after_live = ap (λ (w : View). is_live w.role) d.view

  pub after_known : IsKnown v'
  after_known = (d.history ++ entry.Round number ∷ [], d.now)
