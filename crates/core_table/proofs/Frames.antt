-- What stays of the rule where little changes.
use Rattle.std.proofs.Common.{◌≡◌, ◌≢◌, ℕ, zero, suc, ◌+◌, ◌≤◌, ◌⊎◌, eqb, max, cond, List, [], ◌∷◌, map, length, get_or, set, inl, inr, sym, refl, ap, ◌∙◌, subst, ⊎_elim, arith, length-set, get_or-set_other, eq-eqb, ne_eqb}
use mathlib.Core.Logic.{dite}
use mathlib.Core.Option.{Option, none, some, some-ne-none, some-injective}
use native.Mathlib.Decide.{ℕ_discrete}
use lib.ListN.{get_elem?}
use Rattle.atomic_table.proofs.Lists.{at_set, set_else, set_here}
use Rattle.policy_tree.specs.Meaning.{Meaning}
use Rattle.round_model.specs.declared.entry.Entry.{Entry}
use Rattle.round_model.specs.declared.plan.Plan.{Plan}
use Rattle.round_model.specs.Reads.{round_start}
use Rattle.core_table.specs.declared.slots.Slot.{Slot}
use Rattle.core_table.specs.declared.views.HeldCore.{HeldCore}
use Rattle.core_table.specs.declared.views.Note.{Note}
use Rattle.core_table.specs.declared.views.View.{View}
use Rattle.core_table.specs.Told.{IsAmong, IsOpening, IsSeatOf}
use Rattle.core_table.specs.Rule.{Keep}
use Rattle.core_table.proofs.Histories.{at_less}
use Rattle.core_table.proofs.Parts.{AllHold, AreFresh, AreKept, AreThere, CoreHolds, InHands, IsLed, Now, SeatHolds}

-- the function, but that value at q
abbrev pub put : {A : Type 0} → (ℕ → A) → ℕ → A → ℕ → A
put f q t j = cond (eqb j q) t (f j)

pub put_here : {A : Type 0} (f : ℕ → A) (q : ℕ) (t : A) (j : ℕ) → j ≡ q → put f q t j ≡ t
put_here f q t j hit = ap (λ b. cond b t (f j)) (eq-eqb j q hit)

pub put_else : {A : Type 0} (f : ℕ → A) (q : ℕ) (t : A) (j : ℕ) → j ≢ q → put f q t j ≡ f j
put_else f q t j miss = ap (λ b. cond b t (f j)) (ne_eqb j q miss)

pub has_owner : (o : Option ℕ) → (o ≡ none) ⊎ ((j : ℕ) × (o ≡ some j))
has_owner none = inl refl
has_owner (some j) = inr (j, refl)

-- Lists whose newest stands in front.
pub at_front : {A : Type 0} (x : A) (xs : List A) (i : ℕ) (y : A) → get_elem? (x ∷ xs) i ≡ some y → (x ≡ y) ⊎ ((k : ℕ) × (get_elem? xs k ≡ some y))
at_front x xs zero y is = inl (some-injective x y is)
at_front x xs (suc k) y is = inr (k, is)

pub map_at : {A B : Type 0} (f : A → B) (l : List A) (i : ℕ) (b : B) → get_elem? (map f l) i ≡ some b → (a : A) × (get_elem? l i ≡ some a) × (f a ≡ b)
map_at f [] i b is = absurd (some-ne-none b (sym is))
map_at f (x ∷ xs) zero b is = (x, refl, some-injective (f x) b is)
map_at f (x ∷ xs) (suc i) b is = map_at f xs i b is

-- what is held stays, or comes in front
pub among_later : (x : HeldCore) (held : List HeldCore) (c : ℕ) → IsAmong held c → IsAmong (x ∷ held) c
among_later x held c t = record { place = suc t.place; of = t.of; there = t.there; core = t.core }

-- the seat keeps its part: a core's seat that of its core, the opening one its own
pub record KeepsRole (v w : View) : Type 0 where
  pub core : (c : ℕ) → IsSeatOf v c → IsSeatOf w c
  pub opening : IsOpening v → IsOpening w

pub same_role : (v w : View) → w.role ≡ v.role → KeepsRole v w
same_role v w is = record {
  core = λ c t. record { none_due = t.none_due; role = is ∙ t.role };
  opening = λ t. record { merged = t.merged; turns = t.turns; role = is ∙ t.role };
}

-- each seat but the one that stepped keeps what is true of it
pub seats_stay : (K : ℕ → View → Type 0) (vs : List View) (id : ℕ) (w : View) → K id w → ((j : ℕ) (v : View) → j ≢ id → get_elem? vs j ≡ some v → K j v)
    → (j : ℕ) (v : View) → get_elem? (set vs id w) j ≡ some v → K j v
seats_stay K vs id w mine others j v is = ⊎_elim
    (λ (t : (j ≡ id) × (w ≡ v)). subst (λ (x : ℕ × View). K x.0 x.1) (λ i. (sym t.0 i, t.1 i)) mine)
    (λ (t : (j ≢ id) × (get_elem? vs j ≡ some v)). others j v t.0 t.1)
    (at_set vs id j w v is)

-- nobody wrote the word of this core, nor its slot
pub core_stays : {p : Meaning} {plan : Plan} {h : List Entry} {ws ws' : List ℕ} {hs hs' : List (Option Slot)} {c : ℕ} {k : Keep}
    → get_or ws' (c + 1) 0 ≡ get_or ws (c + 1) 0 → get_elem? hs' c ≡ get_elem? hs c → CoreHolds p plan h ws hs c k → CoreHolds p plan h ws' hs' c k
core_stays w e ok = record {
  now = ok.now;
  word = w ∙ ok.word;
  prefix = ok.prefix;
  current = ok.current;
  settled = ok.settled;
  home = λ free. e ∙ ok.home free;
  out = λ j out. e ∙ ok.out j out;
}

-- The parts of a view that speak of who has what, when that of one core changes.
module _ (keeps : ℕ → Keep) (c : ℕ) (k : Keep) where
  pub held_stays : (plan : Plan) (j : ℕ) (held : List HeldCore) → (keeps c).owner ≢ some j → AreKept plan keeps j held → AreKept plan (put keeps c k) j held
  held_stays plan j held free are i x at = let t = are i x at in
      (t.0, put_else keeps c k x.core (λ e. free (ap (λ z. (keeps z).owner) (sym e) ∙ ap (λ (z : Keep). z.owner) t.1)) ∙ t.1)

  pub fresh_stays : (h : List Entry) (notes : List Note) → (keeps c).version ≤ k.version → AreFresh h keeps notes → AreFresh h (put keeps c k) notes
  fresh_stays h notes later fresh i x at = let f = fresh i x at in dite (ℕ_discrete x.core c)
      (λ hit. let a = ap (λ (z : Keep). z.version) (put_here keeps c k x.core hit) in let b = ap (λ z. (keeps z).version) hit in omega arith)
      (λ miss. subst (λ (z : Keep). x.at ≤ max (round_start h) z.version) (sym (put_else keeps c k x.core miss)) f)

  pub others_know : (p : Meaning) (plan : Plan) (h : List Entry) (away : ℕ → Option ℕ) (lead j : ℕ) (v : View) → (keeps c).owner ≢ some j → (keeps c).version ≤ k.version
      → SeatHolds p plan h keeps away lead j v → SeatHolds p plan h (put keeps c k) away lead j v
  others_know p plan h away lead j v free later seat = record {
    dated = seat.dated;
    role = seat.role;
    seated = seat.seated;
    spent = seat.spent;
    opening = seat.opening;
    notes = seat.notes;
    fresh = fresh_stays h v.notes later seat.fresh;
    held = held_stays plan j v.held free seat.held;
  }

-- the views change, and which seats are out, but nothing else
pub recast : (p : Meaning) (plan : Plan) (s : Now) (r : AllHold p plan s) (views' : List View) (away' : ℕ → Option ℕ) → InHands r.keeps views' plan.cores → AreThere away' views' → IsLed r.lead views'
    → ((j : ℕ) (v : View) → get_elem? views' j ≡ some v → SeatHolds p plan r.history r.keeps away' r.lead j v) → AllHold p plan record { words = s.words; homes = s.homes; views = views' }
recast p plan s r views' away' hands there leads each_seat = record {
  fits = r.fits;
  limits = r.limits;
  handlers = r.handlers;
  history = r.history;
  keeps = r.keeps;
  away = away';
  lead = r.lead;
  wide = r.wide;
  deep = r.deep;
  next = r.next;
  legal = r.legal;
  room = r.room;
  each_core = r.each_core;
  hands = hands;
  there = there;
  leads = leads;
  each_seat = each_seat;
}

module _ (p : Meaning) (plan : Plan) (s : Now) (r : AllHold p plan s) (id : ℕ) (v w : View) (at : get_elem? s.views id ≡ some v) where
  pub seat_there : (j : ℕ) → j ≡ id → get_elem? (set s.views id w) j ≡ some w
  seat_there j e = ap (get_elem? (set s.views id w)) e ∙ set_here s.views id w (at_less s.views id v at)

  -- the view at that place, if it is the seat's own
  was : (j : ℕ) (u : View) → j ≡ id → get_elem? s.views j ≡ some u → u ≡ v
  was j u mine is = some-injective u v (sym is ∙ (ap (get_elem? s.views) mine ∙ at))

  -- who has a core has it in its view, after a step that changes who has one core
  hands_one : (c : ℕ) (k : Keep) → ((j : ℕ) → k.owner ≡ some j → (j ≡ id) × IsAmong w.held c) → ((d : ℕ) → d ≢ c → IsAmong v.held d → IsAmong w.held d)
      → InHands (put r.keeps c k) (set s.views id w) plan.cores
  hands_one c k got keeps d j low is = dite (ℕ_discrete d c)
      (λ hit. let t = got j (ap (λ (z : Keep). z.owner) (sym (put_here r.keeps c k d hit)) ∙ is) in (w, seat_there j t.0, subst (IsAmong w.held) (sym hit) t.1))
      (λ miss. let t = r.hands d j low (ap (λ (z : Keep). z.owner) (sym (put_else r.keeps c k d miss)) ∙ is) in dite (ℕ_discrete j id)
      (λ mine. (w, seat_there j mine, keeps d miss (subst (λ (u : View). IsAmong u.held d) (was j t.0 mine t.1) t.2)))
      (λ other. (t.0, set_else s.views id j w other ∙ t.1, t.2)))

  -- the same after a step that takes and gives no core
  pub hands_stay : (keeps' : ℕ → Keep) → ((c : ℕ) → (keeps' c).owner ≡ (r.keeps c).owner) → ((d : ℕ) → IsAmong v.held d → IsAmong w.held d) → InHands keeps' (set s.views id w) plan.cores
  hands_stay keeps' same keeps d j low is = let t = r.hands d j low (sym (same d) ∙ is) in dite (ℕ_discrete j id)
      (λ mine. (w, seat_there j mine, keeps d (subst (λ (u : View). IsAmong u.held d) (was j t.0 mine t.1) t.2)))
      (λ other. (t.0, set_else s.views id j w other ∙ t.1, t.2))

  -- who is out is there
  pub away_there : KeepsRole v w → AreThere r.away (set s.views id w)
  away_there keeps c j is = let t = r.there c j is in dite (ℕ_discrete j id)
      (λ mine. (w, seat_there j mine, keeps.core c (subst (λ (u : View). IsSeatOf u c) (was j t.0 mine t.1) t.2)))
      (λ other. (t.0, set_else s.views id j w other ∙ t.1, t.2))

  -- and so is the opening seat
  pub lead_there : KeepsRole v w → IsLed r.lead (set s.views id w)
  lead_there keeps = let t = r.leads in dite (ℕ_discrete r.lead id)
      (λ mine. (w, seat_there r.lead mine, keeps.opening (subst IsOpening (was r.lead t.0 mine t.1) t.2)))
      (λ other. (t.0, set_else s.views id r.lead w other ∙ t.1, t.2))

  -- only the view of the seat that stepped is new
  pub still : KeepsRole v w → ((d : ℕ) → IsAmong v.held d → IsAmong w.held d) → SeatHolds p plan r.history r.keeps r.away r.lead id w → AllHold p plan record { words = s.words; homes = s.homes; views = set s.views id w }
  still role keeps mine = recast p plan s r (set s.views id w) r.away (hands_stay r.keeps (λ _. refl) keeps) (away_there role) (lead_there role)
      (seats_stay (SeatHolds p plan r.history r.keeps r.away r.lead) s.views id w mine (λ j u _ is. r.each_seat j u is))

  -- one core has another word, slot or holder. No other seat held it
  pub one_core : (c : ℕ) (k : Keep) (x : ℕ) (homes' : List (Option Slot))
      → length homes' ≡ length s.homes → ((j : ℕ) → j ≢ c → get_elem? homes' j ≡ get_elem? s.homes j)
      → ((j : ℕ) → j ≢ id → (r.keeps c).owner ≢ some j) → (r.keeps c).version ≤ k.version
      → ((j : ℕ) → k.owner ≡ some j → (j ≡ id) × IsAmong w.held c) → ((d : ℕ) → d ≢ c → IsAmong v.held d → IsAmong w.held d) → KeepsRole v w
      → CoreHolds p plan r.history (set s.words (c + 1) x) homes' c k → SeatHolds p plan r.history (put r.keeps c k) r.away r.lead id w
      → AllHold p plan record { words = set s.words (c + 1) x; homes = homes'; views = set s.views id w }
  one_core c k x homes' deep apart free later got keeps role here mine = record {
    fits = r.fits;
    limits = r.limits;
    handlers = r.handlers;
    history = r.history;
    keeps = put r.keeps c k;
    away = r.away;
    lead = r.lead;
    wide = length-set s.words (c + 1) x ∙ r.wide;
    deep = deep ∙ r.deep;
    next = get_or-set_other s.words (c + 1) 0 x 0 (λ e. omega arith) ∙ r.next;
    legal = r.legal;
    room = r.room;
    each_core = λ j low. dite (ℕ_discrete j c)
        (λ hit. subst (λ (z : ℕ × Keep). CoreHolds p plan r.history (set s.words (c + 1) x) homes' z.0 z.1) (λ i. (sym hit i, sym (put_here r.keeps c k j hit) i)) here)
        (λ miss. subst (CoreHolds p plan r.history (set s.words (c + 1) x) homes' j) (sym (put_else r.keeps c k j miss)) (core_stays (get_or-set_other s.words (c + 1) (j + 1) x 0 (λ e. miss (omega arith))) (apart j miss) (r.each_core j low)));
    hands = hands_one c k got keeps;
    there = away_there role;
    leads = lead_there role;
    each_seat = seats_stay (SeatHolds p plan r.history (put r.keeps c k) r.away r.lead) s.views id w mine
        (λ j u other is. others_know r.keeps c k p plan r.history r.away r.lead j u (free j other) later (r.each_seat j u is));
  }
