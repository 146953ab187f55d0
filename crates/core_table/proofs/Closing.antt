-- What the last state says of the slots, and what the first slots are.
use Rattle.std.proofs.Common.{◌≡◌, ℕ, ◌+◌, ◌<◌, All, List, [], ◌∷◌, ◌++◌, length, sym, refl, ap, ◌∙◌, subst, arith, length-append}
use Rattle.std.specs.Prelude.{IsTrue, Some, slice_get}
use Rattle.std.proofs.lemmas.Option.{get_or_from_slice_get, slice_get_within}
use mathlib.Core.Logic.{dite}
use mathlib.Core.Option.{some, some-injective}
use native.Mathlib.Decide.{ℕ_discrete}
use lib.ListN.{get_elem?}
use Rattle.atomic_table.specs.Seated.{TableId}
use Rattle.atomic_table.specs.Table.{Final, Seen}
use Rattle.atomic_table.proofs.Lists.{at_index, at_last, at_longer}
use Rattle.policy_tree.specs.Meaning.{Meaning, meaning_of}
use Rattle.round_model.specs.declared.entry.Entry.{Entry}
use Rattle.round_model.specs.declared.plan.Plan.{Plan}
use Rattle.round_model.specs.Entries.{touches}
use Rattle.round_model.proofs.Reaching.{touched_there}
use Rattle.core_state.specs.Logs.{logged_from, round_log}
use Rattle.core_state.specs.Views.{CoreView}
use Rattle.core_table.specs.declared.plays.Opening.{Opening}
use Rattle.core_table.specs.declared.slots.Slot.{Slot}
use Rattle.core_table.specs.declared.slots.Slot.TheVariants as slot
use Rattle.core_table.specs.declared.views.View.{View}
use Rattle.core_table.specs.Logs.{RoundLogView}
use Rattle.core_table.specs.Views.{is_live, meaning_in, slot_of}
use Rattle.core_table.specs.Told.{Agrees, HasAllBack, IsCoreNow}
use Rattle.core_table.specs.Rule.{TableHolds}
use Rattle.core_table.specs.Opened.{Sits, holds_of}
use Rattle.core_table.specs.Ends.{AllLaid, AreLeft, CoresLaid, IsClosed, opening_core}
use Rattle.core_table.proofs.Histories.{at_less, log_core, stands_rounds}
use Rattle.core_table.proofs.Parts.{AllHold, agrees, parted}
use Rattle.core_table.proofs.Beginning.{all_home}
use Rattle.core_table.proofs.Calls.{slot_core, slot_rounds}

module _ (v : View) (id : ℕ) (ws : List ℕ) (xs : List Slot) (back : HasAllBack v) (free : v.held ≡ []) where
  abbrev Left : Type 0
  Left = (h : List Entry) × Agrees v h × AreLeft (meaning_in v) v.plan h xs

  left_by : Final (Seen (TableHolds (meaning_in v) v.plan) id v) ws xs → (h : List Entry) × Agrees v h × AreLeft (meaning_in v) v.plan h xs
  unfolding is_live
  left_by f =
      let p : Meaning = meaning_in v in let plan : Plan = v.plan in let s = f.0 in let r : AllHold p plan s = parted p plan s f.1.0 in let at = f.1.1 in (
        r.history,
        agrees s id v r at (ap is_live back.role),
        λ c low. let ok = r.each_core c low in let home = all_home s (v, []) r id back at free c low in
            ((r.keeps c).state, f.4 c (slot_of plan.cores c (r.keeps c).state) (ok.home home), ok.now),
      )

  -- with every core's seat back and nothing held, each slot is at home, as the history leaves it
  pub all_left : (z : TableId) (key : Opening) (y : TableId) → Sits z key y v → Final (Seen (holds_of key) id v) ws xs → (h : List Entry) × Agrees v h × AreLeft (meaning_in v) v.plan h xs
  all_left z key y sits =
      subst (λ (q : Meaning × Plan). Final (Seen (TableHolds q.0 q.1) id v) ws xs → Left) (λ i. (meaning_of (sits.of_opening.policy i), sits.of_opening.plan i)) left_by

-- every core that an entry touches is there
pub all_touched : (v : View) (h : List Entry) (n : ℕ) → Agrees v h → n ≡ v.plan.cores → All (λ (e : Entry). (c : ℕ) → IsTrue (touches c e) → c < n) h
all_touched v h n ag is = subst (λ (k : ℕ). All (λ (e : Entry). (c : ℕ) → IsTrue (touches c e) → c < k) h) (sym is) (touched_there (meaning_in v) v.plan h ag.legal)

-- all slots of a new table
pub all_laid : (p : Meaning) (plan : Plan) (slots : List Slot) → CoresLaid p plan slots plan.cores → AllLaid p plan (slots ++ slot.Rounds (record { entries = []; room = plan.limit }) ∷ [])
all_laid p plan slots laid = record {
  count = length-append slots _ ∙ ap (λ k. k + 1) laid.count;
  each = λ c low. dite (ℕ_discrete c plan.cores)
      (λ hit. ap (get_elem? (slots ++ slot.Rounds (record { entries = []; room = plan.limit }) ∷ [])) hit
      ∙ (at_last slots (slot.Rounds (record { entries = []; room = plan.limit })) plan.cores laid.count ∙ ap some (sym (slot_rounds plan.cores c (opening_core p plan c) hit))))
      (λ miss. at_longer slots _ c (slot.Core (opening_core p plan c)) (laid.each c (omega arith)) ∙ ap some (sym (slot_core plan.cores c (opening_core p plan c) (omega arith))));
}

core_in : CoreView → Slot → CoreView
core_in d (slot.Core y) = y
core_in d (slot.Rounds log) = d
core_in d slot.Out = d

pub core_same : (y z : CoreView) → slot.Core y ≡ slot.Core z → y ≡ z
unfolding core_in
core_same y z e = ap (core_in y) e

rounds_in : RoundLogView → Slot → RoundLogView
rounds_in d (slot.Core y) = d
rounds_in d (slot.Rounds log) = log
rounds_in d slot.Out = d

pub rounds_same : (y z : RoundLogView) → slot.Rounds y ≡ slot.Rounds z → y ≡ z
unfolding rounds_in
rounds_same y z e = ap (rounds_in y) e

-- an item by std's look-up
placed : {A : Type 0} (xs : List A) (k : ℕ) (x : A) → slice_get xs k ≡ Some x → get_elem? xs k ≡ some x
placed xs k x is = at_index xs k x (slice_get_within xs k x is) (sym (get_or_from_slice_get xs k x x is))

-- the cores and logs that were taken out of the slots are those of the history
module _ (v : View) (h : List Entry) (cores : List CoreView) (log : RoundLogView) (xs : List Slot) (ag : Agrees v h) (left : AreLeft (meaning_in v) v.plan h xs) (count : length cores ≡ v.plan.cores)
    (got : (k : ℕ) (y : CoreView) → get_elem? cores k ≡ some y → get_elem? xs k ≡ some (slot.Core y)) (last : get_elem? xs v.plan.cores ≡ some (slot.Rounds log)) where
  each_now : (c : ℕ) (y : CoreView) → slice_get cores c ≡ Some y → (c < v.plan.cores) × IsCoreNow (meaning_in v) v.plan h c y
  each_now c y is =
      let at = placed cores c y is in let small = at_less cores c y at in let inside : c < v.plan.cores = omega arith in let x = left c (omega arith) in
      let same = core_same x.0 y (some-injective (slot.Core x.0) (slot.Core y) (sym (x.1 ∙ ap some (slot_core v.plan.cores c x.0 inside)) ∙ got c y at)) in
      (inside, subst (IsCoreNow (meaning_in v) v.plan h c) same x.2)

  rounds_now : log.entries ≡ round_log h
  rounds_now =
      let n : ℕ = v.plan.cores in let x = left n (omega arith) in let there : RoundLogView = record { entries = x.0.log; room = x.0.log_room } in
      let same = rounds_same there log (some-injective (slot.Rounds there) (slot.Rounds log) (sym (x.1 ∙ ap some (slot_rounds n n x.0 refl)) ∙ last)) in
      ap (λ (l : RoundLogView). l.entries) (sym same) ∙ (x.2.log ∙ ap (λ test. logged_from test 0 h) (stands_rounds n n refl))

  pub closes : IsClosed v (record { cores = cores; rounds = log.entries })
  closes = record {
    history = h;
    known = ag;
    count = count;
    cores = λ c y is. (each_now c y is).1;
    logs = record {
      cores = λ c y is. let t = each_now c y is in t.1.log ∙ log_core v.plan.cores c h (λ e. let low = t.0 in omega arith);
      rounds = rounds_now;
      there = all_touched v h (length cores) ag count;
    };
  }
