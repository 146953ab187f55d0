-- What follows for a caller from the view of a seat.
use Rattle.std.proofs.Common.{◌≡◌, ℕ, ◌+◌, ◌<◌, ◌≤◌, true, cond, List, [], ◌∷◌, ◌++◌, map, length, take, refl, sym, ap, ◌∙◌, subst, arith, take_all}
use Rattle.std.specs.Prelude.{IsTrue}
use Rattle.std.proofs.lemmas.Bool.{true≢false}
use Rattle.std.proofs.lemmas.Grind.{not_there}
use mathlib.Core.Logic.{dite}
use mathlib.Core.Option.{some, some-ne-none}
use native.Mathlib.Decide.{dec_le}
use lib.ListN.{get_elem?}
use Rattle.atomic_table.specs.Table.{rest}
use Rattle.sched_base.specs.declared.limits.TheConstants.{MAX_ENTRIES, MAX_LOAD, MAX_THREADS}
use Rattle.round_model.specs.declared.entry.Entry.{Entry}
use Rattle.round_model.specs.declared.plan.Plan.{Plan}
use Rattle.round_model.specs.declared.state.ModelCore.{ModelCore}
use Rattle.round_model.specs.After.{after, moved}
use Rattle.round_model.specs.Cores.{Cores, seen_of}
use Rattle.round_model.specs.Entries.{touches}
use Rattle.round_model.proofs.Histories.{open_round}
use Rattle.core_state.specs.Logs.{after_last, logged}
use Rattle.core_state.specs.Views.{CoreView}
use Rattle.core_state.proofs.Quiet.{last_within}
use Rattle.core_table.specs.declared.seat.Seat.{Seat}
use Rattle.core_table.specs.declared.seat.Table.{Table}
use Rattle.core_table.specs.declared.slots.Slot.TheVariants as slot
use Rattle.core_table.specs.declared.views.HeldCore.{HeldCore}
use Rattle.core_table.specs.declared.views.Turn.TheVariants as turn
use Rattle.core_table.specs.declared.views.View.{View}
use Rattle.core_table.specs.Logs.{stands_in}
use Rattle.core_table.specs.Words.{out_mark, word_of}
use Rattle.core_table.specs.Views.{but_newest, held_grown, is_live, leaving, meaning_in, published, publishing_word, seat_of_core, with_turn}
use Rattle.core_table.specs.Told.{Agrees, HasIdle, IsCoreNow, IsKnown, IsOpening, IsTrueRole}
use Rattle.core_table.specs.Plays.{Draws}
use Rattle.core_table.specs.Opened.{emptied}
use Rattle.core_table.specs.Public.{HasCore, IsMoved, IsOf, plan_of, publishing, view_of}
use Rattle.core_table.proofs.Histories.{at_less, loads_fit, log_short, stands_core}
use Rattle.core_table.proofs.Joining.{turns_true}
use Rattle.core_table.proofs.Publishing.{published_core}
use Rattle.core_table.proofs.Words.{note_says, word_says}

-- a bound that some history gives is one
pub le_by : {P : Type 0} (a b : ℕ) → ∥ P ∥₁ → (P → a ≤ b) → a ≤ b
le_by a b known by_it = dite (dec_le a b) (λ low. low) (λ high. absurd (not_there known (λ k. high (by_it k))))

-- The core that a seat holds.
has_now : (v : View) (h : List Entry) (c : ℕ) (y : CoreView) → Agrees v h → HasCore v c y → IsCoreNow (meaning_in v) v.plan h c y
has_now v h c y ag has = subst (λ (z : ℕ × CoreView). IsCoreNow (meaning_in v) v.plan h z.0 z.1) (λ i. (has.core i, has.state i)) (ag.held has.place has.of has.there).now

pub held_small : (v : View) (h : List Entry) (c : ℕ) (y : CoreView) → c < v.plan.cores → Agrees v h → HasCore v c y
    → (after_last 0 y.log ≤ MAX_ENTRIES) × ((seen_of y.core).nr ≤ MAX_THREADS) × ((seen_of y.core).load ≤ MAX_LOAD)
held_small v h c y low ag has =
    let now = has_now v h c y ag has in let last = ap (after_last 0) now.log in let within = last_within (stands_in v.plan.cores c) h in let r = ag.reserve in let few = ag.limits.few_entries in
    let all : take (length h) h ≡ h = take_all (length h) h (omega arith) in
    let loads = loads_fit (meaning_in v) v.plan h c (length h) ag.fits ag.handlers ag.legal low in
    let fit = subst (λ (m : ModelCore). ((seen_of m).nr ≤ MAX_THREADS) × ((seen_of m).load ≤ MAX_LOAD)) (ap (λ g. after (meaning_in v) v.plan g c) all ∙ sym now.core) loads in
    (omega arith, fit.0, fit.1)

pub last_small : (v : View) (c : ℕ) (y : CoreView) → c < v.plan.cores → ∥ IsKnown v ∥₁ → HasCore v c y → after_last 0 y.log ≤ MAX_ENTRIES
last_small v c y low known has = le_by (after_last 0 y.log) MAX_ENTRIES known (λ k. (held_small v k.0 c y low k.1 has).0)

pub nr_small : (v : View) (c : ℕ) (y : CoreView) → c < v.plan.cores → ∥ IsKnown v ∥₁ → HasCore v c y → (seen_of y.core).nr ≤ MAX_THREADS
nr_small v c y low known has = le_by (seen_of y.core).nr MAX_THREADS known (λ k. (held_small v k.0 c y low k.1 has).1)

pub load_small : (v : View) (c : ℕ) (y : CoreView) → c < v.plan.cores → ∥ IsKnown v ∥₁ → HasCore v c y → (seen_of y.core).load ≤ MAX_LOAD
load_small v c y low known has = le_by (seen_of y.core).load MAX_LOAD known (λ k. (held_small v k.0 c y low k.1 has).2)

-- the written word as a note of the core itself
pub published_as : (v : View) (c word : ℕ) (y : CoreView) → after_last 0 y.log ≤ MAX_ENTRIES → (seen_of y.core).nr ≤ MAX_THREADS → (seen_of y.core).load ≤ MAX_LOAD
    → word ≡ word_of (after_last 0 y.log) (seen_of y.core) → publishing_word c (word + out_mark) v ≡ publishing c y v
published_as v c word y last nr load is =
    let says = word_says (word + out_mark) (after_last 0 y.log) (seen_of y.core) (some 0) last nr load (ap (λ w. w + out_mark) is) in
    let note = note_says v.start c (word + out_mark) (after_last 0 y.log) (seen_of y.core) says.0 says.1 in
    λ i. record v { held = map (published v.plan.cores c) v.held; notes = note i ∷ v.notes }

-- The slots that are out stay the same.
pub published_slots : (n c : ℕ) (held : List HeldCore) → emptied (map (published n c) held) ≡ emptied held
published_slots n c [] = refl
published_slots n c (x ∷ xs) = λ i. (published_core n c x i, slot.Out) ∷ published_slots n c xs i

pub grown_slots : (round at : ℕ) (e : Entry) (m : Cores) (v : View) (held : List HeldCore) → emptied (map (held_grown round at e m v) held) ≡ emptied held
grown_slots round at e m v [] = refl
grown_slots round at e m v (x ∷ xs) = ap (λ l. (x.core, slot.Out) ∷ l) (grown_slots round at e m v xs)

pub given_slots : (held : List HeldCore) → rest (emptied held) ≡ emptied (but_newest held)
given_slots [] = refl
given_slots (x ∷ xs) = refl

-- the log of what is held has room for one entry more, behind all others
pub held_room : (v : View) (h : List Entry) (i n : ℕ) (x : HeldCore) → Agrees v h → get_elem? v.held i ≡ some x → length h ≡ n → n < v.plan.limit → (length x.state.log < x.state.log_room) × (after_last 0 x.state.log ≤ n)
held_room v h i n x ag at count low =
    let t = (ag.held i x at).now in let l = ap length t.log in let s = log_short (stands_in v.plan.cores x.core) 0 h in let r = t.log_room in
    let last = ap (after_last 0) t.log in let within = last_within (stands_in v.plan.cores x.core) h in (omega arith, omega arith)

-- What a draw told.
module _ (e : Entry) (v v' : View) (n : ℕ) (d : Draws e v n v') where
  moved_is : (x : HeldCore) (y : CoreView) → IsMoved e v x y → y ≡ record x.state { core = moved (meaning_in v) v.plan v.round e (after (meaning_in v) v.plan d.history) x.core }
  moved_is x y is = is (after (meaning_in v) v.plan d.history) (λ i z at. sym (d.before.held i z at).now.core)

  pub moved_room : (i : ℕ) (x : HeldCore) (y : CoreView) → get_elem? v.held i ≡ some x → IsMoved e v x y → (length y.log < y.log_room) × (after_last 0 y.log ≤ n)
  moved_room i x y at is = subst (λ (z : CoreView). (length z.log < z.log_room) × (after_last 0 z.log ≤ n)) (sym (moved_is x y is)) (held_room v d.history i n x d.before at d.at d.below)

  -- the value with the entry in its log is the core as the view has it
  pub moved_grown : (x : HeldCore) (y : CoreView) → IsMoved e v x y → x.core < v.plan.cores → IsTrue (touches x.core e)
      → (held_grown v.round n e (after (meaning_in v) v.plan d.history) v x).state ≡ record y { log = y.log ++ logged n e ∷ [] }
  moved_grown x y is low touched =
      let stands : stands_in v.plan.cores x.core e ≡ true = ap (λ test. test e) (stands_core v.plan.cores x.core (λ z. omega arith)) ∙ touched in let same = moved_is x y is in
      (λ i. record x.state { core = moved (meaning_in v) v.plan v.round e (after (meaning_in v) v.plan d.history) x.core; log = x.state.log ++ cond (stands i) (logged n e ∷ []) [] })
      ∙ ap (λ (z : CoreView). record z { log = z.log ++ logged n e ∷ [] }) (sym same)

  pub drawn_slots : emptied v.held ≡ emptied v'.held
  drawn_slots = sym (ap (λ (w : View). emptied w.held) d.view ∙ grown_slots v.round n e (after (meaning_in v) v.plan d.history) v v.held)

  pub drawn_start : v.start ≡ v'.start
  drawn_start = sym (ap (λ (w : View). w.start) d.view)

  pub drawn_live : is_live v.role ≡ true → is_live v'.role ≡ true
  drawn_live live = ap (λ (w : View). is_live w.role) d.view ∙ live

  pub drawn_known : IsKnown v'
  drawn_known = (d.history ++ e ∷ [], d.now)

-- A seat split off.
pub leaving_known : (v : View) (c : ℕ) → IsOpening v → IsKnown v → IsKnown (leaving c v)
leaving_known v c opening k = let ag = k.1 in (
  k.0,
  record {
    fits = ag.fits;
    limits = ag.limits;
    handlers = ag.handlers;
    legal = ag.legal;
    reserve = ag.reserve;
    dated = record { round = ag.dated.round; start = ag.dated.start };
    role = subst (IsTrueRole (meaning_in v) v.plan k.0 v.own) (sym (ap (with_turn c turn.Out) opening.role))
        (turns_true v.plan k.0 opening.merged opening.turns c turn.Out (subst (IsTrueRole (meaning_in v) v.plan k.0 v.own) opening.role ag.role) tt);
    notes = ag.notes;
    held = ag.held;
  },
)

pub seat_known : (v : View) (c : ℕ) → HasIdle v c → 0 < v.round → IsKnown v → IsKnown (seat_of_core c v)
seat_known v c idle begun k =
    let ag = k.1 in let r = subst (IsTrueRole (meaning_in v) v.plan k.0 v.own) idle.opening.role ag.role in let round = ag.dated.round in let counted = open_round (meaning_in v) v.plan k.0 ag.legal in (
      k.0,
      record {
        fits = ag.fits;
        limits = ag.limits;
        handlers = ag.handlers;
        legal = ag.legal;
        reserve = ag.reserve;
        dated = record { round = ag.dated.round; start = ag.dated.start };
        role = record {
          there = let l = at_less idle.opening.turns c turn.Idle idle.idle in let w = r.count in omega arith;
          begun = omega arith;
          is_own = sym (r.are_true c turn.Idle idle.idle);
          due = λ marked. absurd (true≢false (sym marked));
        };
        notes = λ i x a. absurd (some-ne-none x (sym a));
        held = λ i x a. absurd (some-ne-none x (sym a));
      },
    )

pub seat_live : (c : ℕ) (v : View) → is_live (seat_of_core c v).role ≡ true
unfolding is_live
seat_live c v = refl

-- a core of the table's plan is one of the view's
pub inside : (t : Table) (s : Seat) (c : ℕ) → IsOf t s → c < (plan_of t).cores → c < (view_of s).plan.cores
inside t s c of low = subst (λ (p : Plan). c < p.cores) (sym of.opening.plan) low
