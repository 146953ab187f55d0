-- For a seat of the table, the rule allows each kind of step.
use Rattle.std.proofs.Common.{◌≡◌, ℕ, ◌+◌, ◌-◌, ◌%◌, ◌^◌, ◌<◌, ◌≤◌, cond, List, ◌∷◌, sym, ap, ◌∙◌, subst, arith, bit_or, eq-eqb, ne_eqb}
use mathlib.Core.Option.{none}
use Rattle.atomic_table.specs.Seated.{TableId}
use Rattle.atomic_table.specs.Table.{Allows, Joins, Splits, rest, step}
use Rattle.policy_tree.specs.Meaning.{Meaning, meaning_of}
use Rattle.round_model.specs.declared.entry.Entry.{Entry}
use Rattle.round_model.specs.declared.plan.Plan.{Plan}
use Rattle.round_model.specs.Cores.{seen_of}
use Rattle.core_state.specs.Views.{CoreView}
use Rattle.core_table.specs.declared.plays.Opening.{Opening}
use Rattle.core_table.specs.declared.slots.Slot.{Slot}
use Rattle.core_table.specs.declared.slots.Slot.TheVariants as slot
use Rattle.core_table.specs.declared.views.HeldCore.{HeldCore}
use Rattle.core_table.specs.declared.views.View.{View}
use Rattle.core_table.specs.Words.{out_mark, word_of}
use Rattle.core_table.specs.Views.{joining, leaving, meaning_in, seat_of_core, slot_of, spent_view, version_of}
use Rattle.core_table.specs.Told.{HasAllBack, HasIdle, HoldsRounds, HoldsTouched, IsFreeSeat, IsLocalIn, IsOpening, MayBeginRound}
use Rattle.core_table.specs.Rule.{TableHolds}
use Rattle.core_table.specs.Plays.{SeatNow, begins, draws, gives_back, publishes, reads, tells, tries}
use Rattle.core_table.specs.Opened.{Sits, holds_of}
use Rattle.core_table.specs.Public.{HasCore, IsActors}
use Rattle.core_table.specs.Seats.{IsNewest}
use Rattle.core_table.proofs.Taking.{takes_or_not}
use Rattle.core_table.proofs.Looking.{reads_on, tells_on}
use Rattle.core_table.proofs.Publishing.{publishes_on}
use Rattle.core_table.proofs.Giving.{gives_on}
use Rattle.core_table.proofs.Drawing.{draws_on}
use Rattle.core_table.proofs.Joining.{joins_on, splits_on}
use Rattle.core_table.proofs.Beginning.{begins_on}

pub slot_core : (n c : ℕ) (y : CoreView) → c < n → slot_of n c y ≡ slot.Core y
slot_core n c y low = ap (λ b. cond b (slot.Rounds (record { entries = y.log; room = y.log_room })) (slot.Core y)) (ne_eqb c n (λ e. omega arith))

pub slot_rounds : (n c : ℕ) (y : CoreView) → c ≡ n → slot_of n c y ≡ slot.Rounds (record { entries = y.log; room = y.log_room })
slot_rounds n c y same = ap (λ b. cond b (slot.Rounds (record { entries = y.log; room = y.log_room })) (slot.Core y)) (eq-eqb c n same)

module _ (z : TableId) (key : Opening) (y : TableId) (id : ℕ) (me : SeatNow) (sits : Sits z key y me.0) where
  -- the policy and the plan are those of the opening
  pub key_is : let A : Type 0 = Meaning × Plan in let a : A = (meaning_in me.0, me.0.plan) in let b : A = (meaning_of key.policy.value, key.plan.value) in a ≡ b
  key_is = λ i. (meaning_of (sits.of_opening.policy i), sits.of_opening.plan i)

  pub cores_are : me.0.plan.cores ≡ key.plan.value.cores
  cores_are = ap (λ (q : Plan). q.cores) sits.of_opening.plan

  allowed : (i : ℕ) (f : ℕ → ℕ) (then : ℕ → SeatNow → Type 0) → Allows (TableHolds (meaning_in me.0) me.0.plan) z.slots id me i f then → Allows (holds_of key) z.slots id me i f then
  allowed i f then a = subst (λ (q : Meaning × Plan). Allows (TableHolds q.0 q.1) z.slots id me i f then) key_is a

  pub take_ok : (c : ℕ) → c ≤ key.plan.value.cores
      → (y ≡ z) × (c + 1 < z.words) × Allows (holds_of key) z.slots id me (c + 1) (λ w. bit_or w 9223372036854775808) (tries (step z.slots (c + 1) 9223372036854775808 0 none) me)
  take_ok c low = let n = cores_are in let w = sits.opened.words in
      (sits.table_is, omega arith, allowed (c + 1) (λ w. bit_or w 9223372036854775808) (tries (step z.slots (c + 1) 9223372036854775808 0 none) me) (takes_or_not z.slots id me c (omega arith) sits.live))

  pub read_ok : (c : ℕ) → c < key.plan.value.cores → (y ≡ z) × (c + 1 < z.words) × Allows (holds_of key) z.slots id me (c + 1) (λ w. w) (reads (step z.slots (c + 1) 0 0 none) me)
  read_ok c low = let n = cores_are in let w = sits.opened.words in (sits.table_is, omega arith, allowed (c + 1) (λ w. w) (reads (step z.slots (c + 1) 0 0 none) me) (reads_on z.slots id me c (omega arith) sits.live))

  pub publish_ok : (c : ℕ) (x : CoreView) (new : ℕ) → c < key.plan.value.cores → HasCore me.0 c x → new ≡ word_of (version_of me.0.plan.cores c x) (seen_of x.core) + out_mark
      → (y ≡ z) × (c + 1 < z.words) × Allows (holds_of key) z.slots id me (c + 1) (λ _. new) (λ _. publishes (step z.slots (c + 1) new 0 none) me new)
  publish_ok c x new low has is = let n = cores_are in let w = sits.opened.words in
      (sits.table_is, omega arith, allowed (c + 1) (λ _. new) (λ _. publishes (step z.slots (c + 1) new 0 none) me new) (publishes_on z.slots id me c x new (omega arith) sits.live has is))

  pub give_ok : (c : ℕ) (x : CoreView) (earlier : List HeldCore) → c ≤ key.plan.value.cores → IsNewest me.0 c x earlier → me.1 ≡ (c, slot_of me.0.plan.cores c x) ∷ rest me.1
      → (y ≡ z) × (c + 1 < z.words) × Allows (holds_of key) z.slots id me (c + 1) (λ w. (w + (2 ^ 64 - 9223372036854775808)) % 2 ^ 64) (gives_back (step z.slots (c + 1) 9223372036854775808 0 none) me)
  give_ok c x earlier low newest carried = let w = sits.opened.words in
      (sits.table_is, omega arith, allowed (c + 1) (λ w. (w + (2 ^ 64 - 9223372036854775808)) % 2 ^ 64) (gives_back (step z.slots (c + 1) 9223372036854775808 0 none) me) (gives_on z.slots id me c x earlier sits.live newest carried))

  pub tell_ok : (y ≡ z) × (0 < z.words) × Allows (holds_of key) z.slots id me 0 (λ w. w) (tells (step z.slots 0 0 0 none) me)
  tell_ok = let w = sits.opened.words in (sits.table_is, omega arith, allowed 0 (λ w. w) (tells (step z.slots 0 0 0 none) me) (tells_on z.slots id me sits.live))

  pub draw_ok : (e : Entry) → IsActors me.0 e → HoldsTouched me.0 e → IsLocalIn me.0 e → Allows (holds_of key) z.slots id me 0 (λ w. (w + 1) % 2 ^ 64) (λ n new. draws e me n new)
  draw_ok e actors touched local = allowed 0 (λ w. (w + 1) % 2 ^ 64) (λ n new. draws e me n new) (draws_on z.slots id me e actors touched local)

  pub begin_ok : (number : ℕ) → HasAllBack me.0 → HoldsRounds me.0 → MayBeginRound me.0 number → Allows (holds_of key) z.slots id me 0 (λ w. (w + 1) % 2 ^ 64) (λ n new. begins number me n new)
  begin_ok number back alone may = allowed 0 (λ w. (w + 1) % 2 ^ 64) (λ n new. begins number me n new) (begins_on z.slots id me number back alone may)

  pub split_ok : (c : ℕ) → HasIdle me.0 c → 0 < me.0.round → Splits (holds_of key) id me.0 (leaving c me.0) (seat_of_core c me.0)
  split_ok c idle begun = subst (λ (q : Meaning × Plan). Splits (TableHolds q.0 q.1) id me.0 (leaving c me.0) (seat_of_core c me.0)) key_is (splits_on id me.0 c idle begun)

  pub join_ok : (other : ℕ) (w : View) → IsOpening me.0 → IsFreeSeat w → Joins (holds_of key) id me.0 other w (joining me.0 w) spent_view
  join_ok other w opening free = subst (λ (q : Meaning × Plan). Joins (TableHolds q.0 q.1) id me.0 other w (joining me.0 w) spent_view) key_is (joins_on id me.0 other w opening free)

pub headed : (l : List (ℕ × Slot)) (x : ℕ × Slot) (xs : List (ℕ × Slot)) → l ≡ x ∷ xs → l ≡ x ∷ rest l
headed l x xs e = e ∙ ap (λ (q : List (ℕ × Slot)). x ∷ q) (sym (ap rest e))

-- between the two halves of a release: the value is back, the mark still stands
pub put_in : (me me' : SeatNow) (n c : ℕ) (y : CoreView) (earlier : List HeldCore) (x : Slot) → me.0.plan.cores ≡ n → me' ≡ (me.0, (c, x) ∷ rest me.1) → slot_of n c y ≡ x → IsNewest me.0 c y earlier
    → IsNewest me'.0 c y earlier × (me'.1 ≡ (c, slot_of me'.0.plan.cores c y) ∷ rest me'.1)
put_in me me' n c y earlier x cores is slot newest = let v_is = ap (λ (m : SeatNow). m.0) is in let s_is = headed me'.1 (c, x) (rest me.1) (ap (λ (m : SeatNow). m.1) is) in (
  subst (λ (v : View). IsNewest v c y earlier) (sym v_is) newest,
  subst (λ (v : View). me'.1 ≡ (c, slot_of v.plan.cores c y) ∷ rest me'.1) (sym v_is) (s_is ∙ ap (λ (q : Slot). (c, q) ∷ rest me'.1) (sym slot ∙ ap (λ k. slot_of k c y) (sym cores))),
)
