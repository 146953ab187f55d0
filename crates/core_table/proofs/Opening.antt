-- A table that is just laid out keeps the rule.
use Rattle.std.proofs.Common.{◌≡◌, ℕ, ◌+◌, ◌≤◌, true, List, [], ◌∷◌, map, length, get_or, replicate, sym, refl, ap, ◌∙◌, subst, ⊎_elim, arith}
use Rattle.std.proofs.lemmas.Bool.{true≢false}
use Rattle.std.specs.Prelude.{sum}
use mathlib.Core.Logic.{dite}
use mathlib.Core.Option.{none, some, some-ne-none}
use native.Mathlib.Decide.{ℕ_discrete}
use lib.ListN.{get_or-replicate, length-map, length-replicate}
use Rattle.atomic_table.specs.Seated.{TableId}
use Rattle.atomic_table.specs.Table.{opening}
use Rattle.atomic_table.proofs.Lists.{at_map}
use Rattle.policy_tree.specs.declared.typed.Policy.{Policy}
use Rattle.policy_tree.specs.Meaning.{Meaning, meaning_of}
use Rattle.policy_eval.specs.Obligations.{MeetsHandlerObligations}
use Rattle.round_model.specs.declared.plan.Plan.{Plan}
use Rattle.round_model.specs.After.{after_from}
use Rattle.round_model.specs.Cores.{core_numbers, opening_state}
use Rattle.round_model.specs.Fits.{Fits}
use Rattle.round_model.specs.Limits.{IsWithinLimits}
use Rattle.round_model.specs.Owed.{owed, owed_total}
use Rattle.round_model.specs.Reads.{value_read}
use Rattle.core_table.specs.declared.slots.Slot.{Slot}
use Rattle.core_table.specs.declared.views.Turn.TheVariants as turn
use Rattle.core_table.specs.declared.views.View.{View}
use Rattle.core_table.specs.declared.plays.Opening.{Opening}
use Rattle.core_table.specs.Words.{word_of}
use Rattle.core_table.specs.Views.{first_view, is_live, slot_of, version_of}
use Rattle.core_table.specs.Told.{Agrees, IsCoreNow, IsTrueOpening, IsTrueTurn}
use Rattle.core_table.specs.Rule.{IsCounted, Keep, TableHolds}
use Rattle.core_table.specs.Ends.{AllLaid, opening_core}
use Rattle.core_table.specs.Opened.{IsOpened, Sits, first_view_of, holds_of}
use Rattle.core_table.proofs.Histories.{version_core, version_rounds}
use Rattle.core_table.proofs.Parts.{CoreHolds, SeatHolds, whole}
use Rattle.core_table.proofs.Beginning.{idle_at}
use Rattle.round_model.proofs.Grows.{at_end}

-- before the first round nothing is owed
nought_owed : (p : Meaning) (plan : Plan) (cores : List ℕ) → sum (map (owed p plan []) cores) ≡ 0
unfolding owed
nought_owed p plan [] = refl
nought_owed p plan (c ∷ cores) = nought_owed p plan cores

none_owed : (p : Meaning) (plan : Plan) → owed_total p plan [] ≡ 0
none_owed p plan = nought_owed p plan (core_numbers plan)

-- a word that says nothing
blank_word : (p : Meaning) (plan : Plan) (c : ℕ) → word_of 0 (value_read p plan [] c 0) ≡ 0
unfolding after_from opening_state
blank_word p plan c = refl

module _ (p : Meaning) (plan : Plan) where
  abbrev kept_first : ℕ → Keep
  kept_first c = record { owner = none; state = opening_core p plan c; version = 0 }

  first_now : (c : ℕ) → IsCoreNow p plan [] c (opening_core p plan c)
  unfolding after_from
  first_now c = record { core = refl; log = refl; log_room = omega arith; order = λ _. refl; room = λ _. refl; blocked_room = λ _. refl }

  first_version : (c : ℕ) → 0 ≡ version_of plan.cores c (opening_core p plan c)
  first_version c = dite (ℕ_discrete c plan.cores)
      (λ hit. sym (version_rounds plan.cores c [] hit))
      (λ miss. sym (version_core plan.cores c [] miss))

  first_core : (slots : List Slot) (ws : List ℕ) (c : ℕ) → AllLaid p plan slots → c ≤ plan.cores → get_or ws (c + 1) 0 ≡ 0
      → CoreHolds p plan [] ws (map (λ (x : Slot). some x) slots) c (record { owner = none; state = opening_core p plan c; version = 0 })
  first_core slots ws c laid low blank = record {
    now = first_now c;
    word = blank ∙ (let b : word_of 0 (value_read p plan [] c 0) ≡ 0 = blank_word p plan c in let g : 0 ≡ word_of 0 (value_read p plan [] c 0) + 0 = omega arith in g);
    prefix = first_version c;
    current = λ _. first_version c;
    settled = λ inside k e a b there. absurd (some-ne-none e (sym there));
    home = λ _. at_map (λ (x : Slot). some x) slots c (slot_of plan.cores c (opening_core p plan c)) (laid.each c low);
    out = λ j e. absurd (some-ne-none j (sym e));
  }

  -- what the opening seat knows
  first_opening : IsTrueOpening plan [] [] (replicate plan.cores turn.Idle)
  first_opening = record {
    is_merged = refl;
    count = length-replicate plan.cores turn.Idle;
    are_true = λ c t is. subst (IsTrueTurn [] c) (sym (idle_at plan.cores c t is)) refl;
  }

first_knows : (policy : Policy) (plan : Plan) → SeatHolds (meaning_of policy) plan [] (kept_first (meaning_of policy) plan) (λ _. none) 0 0 (first_view policy plan)
unfolding is_live
first_knows policy plan = record {
  dated = λ _. record { round = refl; start = refl };
  role = first_opening (meaning_of policy) plan;
  seated = (refl, λ c t e. subst (IsCounted (λ _. none) c) (sym (idle_at plan.cores c t e)) refl);
  spent = λ dead. absurd (true≢false dead);
  opening = λ _. (refl, refl);
  notes = λ i x a. absurd (some-ne-none x (sym a));
  fresh = λ i x a. absurd (some-ne-none x (sym a));
  held = λ i x a. absurd (some-ne-none x (sym a));
}

pub starts : (policy : Policy) (plan : Plan) (slots : List Slot) (words : List ℕ) → Fits (meaning_of policy) plan → IsWithinLimits plan → MeetsHandlerObligations (meaning_of policy) → AllLaid (meaning_of policy) plan slots → words ≡ replicate (plan.cores + 2) 0
    → TableHolds (meaning_of policy) plan (opening words slots (first_view policy plan))
starts policy plan slots words fits limits handlers laid blank = let p : Meaning = meaning_of policy in let owes = none_owed p plan in whole p plan _ record {
  fits = fits;
  limits = limits;
  handlers = handlers;
  history = [];
  keeps = kept_first p plan;
  away = λ _. none;
  lead = 0;
  wide = ap length blank ∙ length-replicate (plan.cores + 2) 0;
  deep = length-map slots (λ (x : Slot). some x) ∙ laid.count;
  next = ap (λ l. get_or l 0 0) blank ∙ get_or-replicate (plan.cores + 2) 0 0 0 (omega arith);
  legal = λ k e is. absurd (some-ne-none e (sym is));
  room = omega arith;
  each_core = λ c low. first_core p plan slots words c laid low (ap (λ l. get_or l (c + 1) 0) blank ∙ get_or-replicate (plan.cores + 2) (c + 1) 0 0 (omega arith));
  hands = λ c j low e. absurd (some-ne-none j (sym e));
  there = λ c j e. absurd (some-ne-none j (sym e));
  leads = (first_view policy plan, refl, record { merged = []; turns = replicate plan.cores turn.Idle; role = refl });
  each_seat = λ j v e. ⊎_elim (λ t. absurd (some-ne-none v (sym t.1)))
      (λ (t : (j ≡ 0) × (first_view policy plan ≡ v)). subst (λ (z : ℕ × View). SeatHolds p plan [] (kept_first p plan) (λ _. none) 0 z.0 z.1) (λ i. (sym t.0 i, t.1 i)) (first_knows policy plan))
      (at_end [] (first_view policy plan) v j e);
}

-- the empty history agrees with the first view
pub first_agrees : (policy : Policy) (plan : Plan) → Fits (meaning_of policy) plan → IsWithinLimits plan → MeetsHandlerObligations (meaning_of policy) → Agrees (first_view policy plan) []
first_agrees policy plan fits limits handlers = let owes = none_owed (meaning_of policy) plan in record {
  fits = fits;
  limits = limits;
  handlers = handlers;
  legal = λ k e is. absurd (some-ne-none e (sym is));
  reserve = omega arith;
  dated = record { round = refl; start = refl };
  role = first_opening (meaning_of policy) plan;
  notes = λ i x a. absurd (some-ne-none x (sym a));
  held = λ i x a. absurd (some-ne-none x (sym a));
}

pub first_live : (policy : Policy) (plan : Plan) → is_live (first_view policy plan).role ≡ true
unfolding is_live
first_live policy plan = refl

-- the same of the opening that a table is told
pub opens : (policy : Policy) (plan : Plan) (key : Opening) (slots : List Slot) (words : List ℕ) → Fits (meaning_of policy) plan → IsWithinLimits plan → MeetsHandlerObligations (meaning_of policy) → AllLaid (meaning_of policy) plan slots
    → words ≡ replicate (plan.cores + 2) 0 → key.policy.value ≡ policy → key.plan.value ≡ plan → holds_of key (opening words slots (first_view_of key))
opens policy plan key slots words fits limits handlers laid blank policy_is plan_is =
    subst (λ (q : Policy × Plan). TableHolds (meaning_of q.0) q.1 (opening words slots (first_view q.0 q.1))) (λ i. (sym policy_is i, sym plan_is i)) (starts policy plan slots words fits limits handlers laid blank)

-- and the first seat sits at that table
pub sits_first : (made key : Opening) (z y : TableId) (v : View) → key ≡ made → y ≡ z → v ≡ first_view_of made → z.words ≡ made.plan.value.cores + 2 → z.slots ≡ made.plan.value.cores + 1 → Sits z key y v
sits_first made key z y v key_is table_is v_is words slots = record {
  table_is = table_is;
  of_opening = record {
    policy = ap (λ (u : View). u.policy) v_is ∙ ap (λ (o : Opening). o.policy.value) (sym key_is);
    plan = ap (λ (u : View). u.plan) v_is ∙ ap (λ (o : Opening). o.plan.value) (sym key_is);
  };
  live = ap (λ (u : View). is_live u.role) v_is ∙ first_live made.policy.value made.plan.value;
  opened = subst (λ (o : Opening). IsOpened z o.plan.value) (sym key_is) (record { words = words; slots = slots });
}
