-- The entry of an attempt is legal by what the seat has read, and what its draw tells.
use Rattle.std.proofs.Common.{◌≡◌, ◌≢◌, ℕ, ◌+◌, ◌<◌, IfSome, true, List, [], ◌∷◌, ◌++◌, length, Option, Some, None, sym, ap, ◌∙◌, subst}
use Rattle.std.specs.Prelude.{IsFalse}
use mathlib.Core.Option.{some, some-ne-none}
use lib.ListN.{get_elem?}
use Rattle.policy_tree.specs.Meaning.{Meaning}
use Rattle.round_model.specs.declared.entry.Entry.{Entry}
use Rattle.round_model.specs.declared.entry.Entry.TheVariants as entry
use Rattle.round_model.specs.declared.plan.Plan.{Plan}
use Rattle.round_model.specs.After.{after}
use Rattle.round_model.specs.Attempts.{attempt_of, attempt_with, steal_or_fail}
use Rattle.round_model.specs.Legal.{Legal}
use Rattle.round_model.specs.Rows.{LegalAttempt, Row}
use Rattle.round_model.specs.Scenes.{Scene, has_attempted, has_worked}
use Rattle.core_state.specs.Views.{CoreView}
use Rattle.core_table.specs.declared.views.HeldCore.{HeldCore}
use Rattle.core_table.specs.declared.views.Note.{Note}
use Rattle.core_table.specs.declared.views.View.{View}
use Rattle.core_table.specs.Views.{holding, meaning_in, note_of_core, taken}
use Rattle.core_table.specs.Told.{Agrees, IsAsViewed, IsLocalIn}
use Rattle.core_table.specs.Plays.{Draws}
use Rattle.core_table.specs.Pairs.{HasMovedTwo, holding_two, stacked}
use Rattle.core_table.proofs.TwoHeld.{first_place, held_either, notes_held, second_place, stacked_over}
use Rattle.core_table.proofs.Positions.{above}
use Rattle.select_phase.specs.declared.looks.Look.{Look}
use Rattle.select_phase.specs.Seen.{Looked}
use Rattle.select_phase.proofs.Reading.{behind}
use Rattle.select_phase.proofs.Viewed.{choice_is, looked_held, reads_fit}
use Rattle.steal_phase.specs.Attempts.{IsDrawn, IsNext, MayAttempt, own_entries_in}
use Rattle.steal_phase.specs.Taking.{Steals, best_to_steal}
use Rattle.steal_phase.proofs.Moving.{attempt_is, moved_both}

-- in a scene that has what the view has, the attempt by the look is the model's
legal_by : (w : View) (look : Look) (s : Scene) (e : Entry) → Looked w look → has_worked (own_entries_in w) ≡ true → IsFalse (has_attempted (own_entries_in w)) → IsAsViewed w s
    → e ≡ attempt_with (meaning_in w) w.plan s.cores look.by look.reads look.choice → LegalAttempt (meaning_in w) w.plan s look.by look.reads e
unfolding attempt_of
legal_by w look s e looked worked first viewed is = record {
  core = looked.core;
  worked = ap has_worked viewed.own ∙ worked;
  first = ap has_attempted viewed.own ∙ first;
  read = reads_fit w s viewed look.reads looked.seen looked.read;
  outcome = is ∙ ap (attempt_with (meaning_in w) w.plan s.cores look.by look.reads) (looked.choice ∙ sym (choice_is w s viewed look.reads looked.seen looked.read (meaning_in w) look.by looked.core));
}

row_with : (p : Meaning) (plan : Plan) (s : Scene) (a b : ℕ) (reads threads : List ℕ) → LegalAttempt p plan s a reads (steal_or_fail a b reads threads) → Row p plan s (steal_or_fail a b reads threads)
unfolding Row
row_with p plan s a b reads [] legal = legal
row_with p plan s a b reads (id ∷ ids) legal = legal

-- a seat that held no core knew less of the history
pub agrees_before : (v : View) (h : List Entry) (notes more : List Note) (held : List HeldCore) → v.held ≡ [] → notes ≡ more ++ v.notes → Agrees (record v { notes = notes; held = held }) h → Agrees v h
agrees_before v h notes more held free is ag = record {
  fits = ag.fits;
  limits = ag.limits;
  handlers = ag.handlers;
  legal = ag.legal;
  reserve = ag.reserve;
  dated = record { round = ag.dated.round; start = ag.dated.start };
  role = ag.role;
  notes = λ i x there. ag.notes (length more + i) x (ap (λ (l : List Note). get_elem? l (length more + i)) is ∙ (behind more v.notes i ∙ there));
  held = λ i x there. absurd (some-ne-none x (sym there ∙ ap (λ (l : List HeldCore). get_elem? l i) free));
}

-- nor did it before it held one, or two
module _ (v : View) (free : v.held ≡ []) where
  pub agrees_one : (a : ℕ) (y : CoreView) → a < v.plan.cores → (h : List Entry) → Agrees (holding a y v) h → Agrees v h
  agrees_one a y inside h ag = agrees_before v h (holding a y v).notes (note_of_core v.start a y ∷ []) (holding a y v).held free (notes_held a y v inside) ag

  pub agrees_two : (a : ℕ) (y : CoreView) (b : ℕ) (z : CoreView) (h : List Entry) → Agrees (holding_two a y b z v) h → Agrees v h
  agrees_two a y b z h ag =
      let first : Note = note_of_core v.start a y in let second : Note = note_of_core v.start b z in
      agrees_before v h (holding_two a y b z v).notes (stacked a b first second []) (holding_two a y b z v).held free (stacked_over a b first second v.notes) ag

-- what was drawn is next, by a history with which the view agreed
pub next_by : (v w u : View) (at : ℕ) (e : Entry) (d : Draws e w at u) → (let A : Type 0 = Meaning × Plan in let x : A = (meaning_in w, w.plan) in let y : A = (meaning_in v, v.plan) in x ≡ y) → Agrees v d.history
    → IsNext at e v
next_by v w u at e d same ag =
    let plan : w.plan ≡ v.plan = ap (λ (x : Meaning × Plan). x.1) same in
    record {
      history = d.history;
      agrees = ag;
      position = d.at;
      legal = subst (λ (x : Meaning × Plan). Legal x.0 x.1 (d.history ++ e ∷ [])) (ap (λ (x : View). (meaning_in x, x.plan)) d.view ∙ same) d.now.legal;
      above = above v d.history at ag d.at (subst (λ (x : Plan). at < x.limit) plan d.below);
    }

module _ (v : View) (look : Look) (e : Entry) (may : MayAttempt v look) where
  looked_two : (a b : ℕ) (y z : CoreView) → a ≢ b → a < v.plan.cores → b < v.plan.cores → Looked (holding_two a y b z v) look
  looked_two a b y z apart inside above =
      held_either v a b y z inside above apart (λ w. Looked w look)
      (looked_held b z (holding a y v) look above (looked_held a y v look inside may.looked))
      (looked_held a y (holding b z v) look inside (looked_held b z v look above may.looked))

  -- what is drawn, by the view just before
  drawn_by : (w u : View) (at : ℕ) (d : Draws e w at u) → (let A : Type 0 = Meaning × Plan in let x : A = (meaning_in w, w.plan) in let y : A = (meaning_in v, v.plan) in x ≡ y) → Agrees v d.history
      → e ≡ attempt_with (meaning_in v) v.plan (after (meaning_in v) v.plan d.history) look.by look.reads look.choice → IsDrawn look at e v
  unfolding next_by
  drawn_by w u at d same ag is = record { next = next_by v w u at e d same ag; attempt = is }

-- an attempt without a choice is legal
pub pass_local : (v : View) (look : Look) (y : CoreView) → MayAttempt v look → look.choice ≡ None → IsLocalIn (holding look.by y v) (entry.Pass look.by look.reads)
unfolding Row
pass_local v look y may none s viewed =
    let w : View = holding look.by y v in
    legal_by w look s (entry.Pass look.by look.reads) (looked_held look.by y v look may.looked.core may.looked) may.ready.worked may.ready.first viewed
    (sym (ap (attempt_with (meaning_in w) w.plan s.cores look.by look.reads) none))

pub pass_drawn : (v : View) (look : Look) (y : CoreView) (w u : View) (at : ℕ) → MayAttempt v look → look.choice ≡ None → w ≡ holding look.by y v → Draws (entry.Pass look.by look.reads) w at u
    → IsDrawn look at (entry.Pass look.by look.reads) v
pass_drawn v look y w u at may none is drawn =
    let e : Entry = entry.Pass look.by look.reads in let d = subst (λ (x : View). Draws e x at u) is drawn in
    drawn_by v look e may (holding look.by y v) u at d (λ i. (meaning_in v, v.plan)) (agrees_one v may.ready.free look.by y may.looked.core d.history d.before)
    (sym (ap (attempt_with (meaning_in v) v.plan (after (meaning_in v) v.plan d.history) look.by look.reads) none))

-- thief and victim are held, and the threads are those that may be taken
module _ (w : View) (look : Look) (from : ℕ) (y z : CoreView) (i j : ℕ) (thief : get_elem? w.held i ≡ some (taken w.plan.cores look.by y)) (victim : get_elem? w.held j ≡ some (taken w.plan.cores from z))
    (threads : List ℕ) (best : threads ≡ best_to_steal (meaning_in w) w.plan look.by y.core from z.core) (chosen : look.choice ≡ Some from) where
  contest_local : Looked w look → has_worked (own_entries_in w) ≡ true → IsFalse (has_attempted (own_entries_in w)) → IsLocalIn w (steal_or_fail look.by from look.reads threads)
  contest_local looked worked first s viewed =
      row_with (meaning_in w) w.plan s look.by from look.reads threads
      (legal_by w look s (steal_or_fail look.by from look.reads threads) looked worked first viewed
      (attempt_is (meaning_in w) w.plan look.by from y.core z.core look.reads threads best s.cores (viewed.cores i (taken w.plan.cores look.by y) thief) (viewed.cores j (taken w.plan.cores from z) victim)
      ∙ sym (ap (attempt_with (meaning_in w) w.plan s.cores look.by look.reads) chosen)))

  contest_is : (h : List Entry) → Agrees w h → steal_or_fail look.by from look.reads threads ≡ attempt_with (meaning_in w) w.plan (after (meaning_in w) w.plan h) look.by look.reads look.choice
  contest_is h ag =
      let m = after (meaning_in w) w.plan h in
      attempt_is (meaning_in w) w.plan look.by from y.core z.core look.reads threads best m
      (sym (ag.held i (taken w.plan.cores look.by y) thief).now.core) (sym (ag.held j (taken w.plan.cores from z) victim).now.core)
      ∙ sym (ap (attempt_with (meaning_in w) w.plan m look.by look.reads) chosen)

-- what holds once the two cores are held and the threads went over
pub record Contested (v : View) (look : Look) (from : ℕ) (y z y_now z_now : CoreView) (threads : List ℕ) : Type 0 where
  pub moved : HasMovedTwo (steal_or_fail look.by from look.reads threads) (holding_two look.by y from z v) look.by y_now from z_now
  pub legal : IsLocalIn (holding_two look.by y from z v) (steal_or_fail look.by from look.reads threads)
  pub attempt : (h : List Entry) → Agrees (holding_two look.by y from z v) h
      → steal_or_fail look.by from look.reads threads ≡ attempt_with (meaning_in v) v.plan (after (meaning_in v) v.plan h) look.by look.reads look.choice

-- the core that was chosen is another one
pub victim_there : (v : View) (look : Look) (from : ℕ) → Looked v look → look.choice ≡ Some from → (from < v.plan.cores) × (from ≢ look.by)
victim_there v look from looked chosen = subst (λ (o : Option ℕ). IfSome o (λ c. (c < v.plan.cores) × (c ≢ look.by))) chosen looked.other

module _ (v : View) (look : Look) (from : ℕ) (may : MayAttempt v look) (chosen : look.choice ≡ Some from) (y z y_now z_now : CoreView) (threads : List ℕ) where
  other : (from < v.plan.cores) × (from ≢ look.by)
  other = victim_there v look from may.looked chosen

  contested : threads ≡ best_to_steal (meaning_in v) v.plan look.by y.core from z.core → Steals threads y z y_now z_now → Contested v look from y z y_now z_now threads
  contested best takes =
      let w : View = holding_two look.by y from z v in let e : Entry = steal_or_fail look.by from look.reads threads in
      let thief : HeldCore = taken v.plan.cores look.by y in let victim : HeldCore = taken v.plan.cores from z in
      let here = first_place look.by from thief victim v.held in let there = second_place look.by from thief victim v.held in
      let apart : look.by ≢ from = λ same. other.1 (sym same) in
      record {
        moved = moved_both v look.by from y z y_now z_now apart may.ready.free look.reads threads takes may.looked.core other.0;
        legal = contest_local w look from y z here.0 there.0 here.1 there.1 threads best chosen (looked_two v look e may look.by from y z apart may.looked.core other.0) may.ready.worked may.ready.first;
        attempt = contest_is w look from y z here.0 there.0 here.1 there.1 threads best chosen;
      }

  pub contested_by : (p : Meaning) (plan : Plan) (a b : ℕ) → p ≡ meaning_in v → plan ≡ v.plan → a ≡ look.by → b ≡ from → threads ≡ best_to_steal p plan a y.core b z.core → Steals threads y z y_now z_now
      → Contested v look from y z y_now z_now threads
  contested_by p plan a b is_p is_plan first second best takes =
      contested (subst (λ (x : Meaning × Plan × ℕ × ℕ). threads ≡ best_to_steal x.0 x.1 x.2 y.core x.3 z.core) (λ i. (is_p i, is_plan i, first i, second i)) best) takes

  pub contest_drawn : (w u : View) (at : ℕ) → Contested v look from y z y_now z_now threads → w ≡ holding_two look.by y from z v
      → Draws (steal_or_fail look.by from look.reads threads) w at u → IsDrawn look at (steal_or_fail look.by from look.reads threads) v
  contest_drawn w u at contest is drawn =
      let e : Entry = steal_or_fail look.by from look.reads threads in let d = subst (λ (x : View). Draws e x at u) is drawn in
      drawn_by v look e may (holding_two look.by y from z v) u at d (λ i. (meaning_in v, v.plan))
      (agrees_two v may.ready.free look.by y from z d.history d.before) (contest.attempt d.history d.before)
